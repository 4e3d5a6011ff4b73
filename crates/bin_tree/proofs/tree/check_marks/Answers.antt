use Rattle.std.proofs.Common.{◌+◌, ◌-◌, ◌<◌, ◌≤◌, Bool, true, false, get_or, map, take, arith, below_more}
use Rattle.std.proofs.lemmas.List.{length-map, get_or-map}
use Rattle.bin_tree.specs.Places.{open_after, arity}
use Rattle.bin_tree.proofs.PlaceLemmas.{open_after-next}
use Rattle.bin_tree.proofs.tree.check_marks.Goals as goal

child_few : (m : Bool) → arity m ≤ 2
child_few true = omega arith
child_few false = omega arith

pub loop-i-preserved : goal.loop-i-preserved
loop-i-preserved c =
    let ms = c.args.leaf.now in
    let cs = map arity ms in
    let i = c.loop-i.i in
    let e = c.loop-i.invariant.open_is in
    let n = length-map ms arity in
    let child = get_or-map arity ms i false 0 (omega arith) in
    let after = open_after-next cs i 0 c.loop-i.places (c.loop-i.places - 1 + c.arity.result) (omega arith) e (omega arith) (omega (arith, c.arity.ensures)) in
    record {
      open_is = after;
      before = below_more (λ j. 0 < open_after 1 (take j cs)) i c.loop-i.invariant.before (omega arith);
      few = let f = c.loop-i.invariant.few in omega (arith, child_few (get_or ms i false), c.arity.ensures);
    }
