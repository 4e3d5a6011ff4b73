use Rattle.std.proofs.Common.{◌≡◌, arith}
use Rattle.op_laws.specs.Trees.{size, sub_at}
use Rattle.bin_tree.proofs.TreeLemmas.{size_pos}
use Rattle.bridge_contract.proofs.own_nodes.head_beside.Goals as goal

pub overflow_sub-size : goal.overflow_sub-size
overflow_sub-size c = let e = c.size.ensures.value in let p = size_pos (sub_at c.args.tree.now.tree c.args.hole) in omega arith
