use Rattle.std.proofs.Common.{◌≡◌, ◌+◌, ◌<◌, ◌++◌, ◌∷◌, [], sym, ◌∙◌, ap, arith, length, take, get_or, subst, None}
use Rattle.std.proofs.lemmas.List.{take_more}
use Rattle.bridge_contract.proofs.WholeLemmas.{all_of}
use Rattle.bridge_contract.proofs.AtRootsDownLemmas.{downs_push}
use Rattle.tree_tests.proofs.down.led_down.Goals as goal

pub contract_down-requires-clause-bridge : goal.contract_down-requires-clause-bridge
contract_down-requires-clause-bridge g c = all_of c.args._m c.requires.some c.args.tree.now.tree c.args.cut.now c.loop-bridge.bridge-index _ c.requires.cut c.loop-bridge-test.true

pub loop-bridge-preserved : goal.loop-bridge-preserved
loop-bridge-preserved g c =
    let op = c.args.op.now in
    let more = downs_push (g.D.DownOp.downward op) (g.D.DownOp.fits op) (g.D.DownOp.fits_way op) c.args.tree.now.tree
    _ c.loop-bridge.parts.items _ c.contract_down.result c.loop-bridge.invariant c.contract_down.ensures.leads in
    rw (c.in_ok-push.ensures.items, take_more c.args.cut.now c.loop-bridge.bridge-index (record { root = 0; hole = None; own = 0 }) c.loop-bridge-test.true) more
