use Rattle.std.proofs.Common.{map, sym, arith}
use Rattle.script_lang.specs.Views.{statement_of}
use Rattle.fuse_rewrite.proofs.ChainLemmas.{chain_turn, chain_none, chain_done}
use Rattle.fuse_rewrite.proofs.fusing.chain_from.Goals as goal

pub returns-in-None : goal.returns-in-None
returns-in-None c us are =
    chain_none c.args.room c.loop-i._i (map statement_of c.args.lines.now) us c.args.n c.loop-i.next c.loop-i.chain.items (c.loop-i.invariant us are) (sym (c.in-None.ensures us are))

pub loop-i-preserved : goal.loop-i-preserved
loop-i-preserved c us are =
    rw c.in_ok-push-in-Some.ensures.items
    (chain_turn c.args.room c.loop-i._i (map statement_of c.args.lines.now) us c.args.n c.loop-i.next c.in-Some.argument c.loop-i.chain.items (omega arith) (c.loop-i.invariant us are) (sym (c.in-Some.ensures us are)))

pub returns : goal.returns
returns c us are =
    chain_done c.args.room c.loop-i._i (map statement_of c.args.lines.now) us c.args.n c.loop-i.next c.loop-i.chain.items (omega arith) (c.loop-i.invariant us are)
