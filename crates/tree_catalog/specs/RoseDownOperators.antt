-- Which operator that comes down rose trees is that of a name at a type of element.
use Rattle.std.specs.Prelude.{List}
use Rattle.op_laws.specs.declared.width.Width.{Width}
use Rattle.op_catalog.specs.Sums.{IsSummed, sum_type}
use Rattle.tree_aux.specs.SumTrees.{single, rose_path_sum_down}
use Rattle.tree_names.specs.declared.rose_down_name.RoseDownName.{RoseDownName}
use Rattle.tree_catalog.specs.declared.rose_down_operator.RoseDownOperator.{RoseDownOperator}
use Rattle.tree_catalog.specs.declared.rose_down_operator.RoseDownOperator.TheVariants as is
use Rattle.tree_catalog.specs.Operators.{IsRoseDownOperatorOf}

-- the members of the operator are those of the name's operator at the type
abbrev pub IsRoseDownOperator : RoseDownOperator → RoseDownName → List Width → Type 0
IsRoseDownOperator (is.PathSum64 _) = IsRoseDownOperatorOf (IsSummed 64) (λ _. sum_type 64) single rose_path_sum_down
IsRoseDownOperator (is.PathSum96 _) = IsRoseDownOperatorOf (IsSummed 96) (λ _. sum_type 96) single rose_path_sum_down
