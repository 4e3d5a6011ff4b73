use Rattle.std.proofs.Common.{◌≡◌, ◌+◌, ◌<◌, ◌++◌, ◌∷◌, [], sym, ◌∙◌, ap, arith, length, take, get_or, subst, None}
use Rattle.std.proofs.lemmas.List.{take_more}
use Rattle.op_laws.specs.Laws.{IsElementOf}
use Rattle.bridge_contract.specs.SumsOf.{SumsOf}
use Rattle.bridge_contract.proofs.WholeLemmas.{all_of, sums_push}
use Rattle.timing.proofs.bridges.bridged.contracted.Goals as goal

pub contract-requires-clause-bridge : goal.contract-requires-clause-bridge
contract-requires-clause-bridge g c = all_of c.args._m c.requires.some c.args.tree.now.tree c.args.cut.now c.loop-bridge.bridge-index _ c.requires.cut c.loop-bridge-test.true

pub loop-bridge-preserved : goal.loop-bridge-preserved
loop-bridge-preserved g c =
    let op = c.args.op.now in
    let more = sums_push (g.K.TreeOp.upward op) (IsElementOf (g.K.TreeOp.takes op)) (g.K.TreeOp.fits op) (g.K.TreeOp.fits_hole op) c.args.tree.now.tree
    _ c.loop-bridge.parts.items _ c.in_ok-contract.field-0 c.loop-bridge.invariant c.in_ok-contract.ensures.sums in
    rw (c.in_ok-push.ensures.items, take_more c.args.cut.now c.loop-bridge.bridge-index (record { root = 0; hole = None; own = 0 }) c.loop-bridge-test.true) more
