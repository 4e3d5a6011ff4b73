use Rattle.std.proofs.Common.{◌≡◌, arith}
use Rattle.bin_tree.proofs.SizeLemmas.{sized_none, sized_all}
use Rattle.bin_tree.proofs.tree.fill_sizes.Goals as goal

pub loop-i-init : goal.loop-i-init
loop-i-init c = record { sized = λ t e. sized_none t c.args.leaf.now c.args.sizes.now e c.requires.same; within = omega arith }

pub returns : goal.returns
returns c = λ t e.
    let first : c.loop-i.i ≡ 0 = omega arith in
    sized_all t c.args.leaf.now c.loop-i.sizes (rw first at (c.loop-i.invariant.sized t e))
