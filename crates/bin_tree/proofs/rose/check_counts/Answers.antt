use Rattle.std.proofs.Common.{◌+◌, ◌-◌, ◌<◌, ◌^◌, get_or, take, arith, below_more, rules}
use Rattle.bin_tree.specs.Places.{open_after}
use Rattle.bin_tree.proofs.PlaceLemmas.{open_after-next}
use Rattle.bin_tree.proofs.rose.check_counts.Goals as goal

pub loop-i-preserved : goal.loop-i-preserved
loop-i-preserved c =
    let cs = c.args.counts.now in
    let i = c.loop-i.i in
    let count = get_or cs i 0 in
    let some : 0 < c.loop-i.places = omega arith in
    record {
      open_is = open_after-next cs i 0 c.loop-i.places (c.loop-i.places - 1 + count) (omega arith) c.loop-i.invariant.open_is some (omega arith);
      before = below_more (λ j. 0 < open_after 1 (take j cs)) i c.loop-i.invariant.before (let e = c.loop-i.invariant.open_is in omega arith);
      few = let f = c.loop-i.invariant.few in let s : count < 2 ^ 32 = search rules in omega arith;
    }
