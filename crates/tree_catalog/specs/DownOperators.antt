-- Which of the operators that come down binary trees is that of a name at a type of element.
use Rattle.std.specs.Prelude.{List, [], ◌∷◌}
use Rattle.op_laws.specs.declared.width.Width.{Width}
use Rattle.op_catalog.specs.Sums.{IsSummed, sum_type}
use Rattle.op_catalog.specs.Bounds.{IsBounded}
use Rattle.tree_aux.specs.SumTrees.{single, IsAny, path_sum_down, turns_type, turns_down, pre_down}
use Rattle.tree_aux.specs.BoundTrees.{path_max_down}
use Rattle.tree_aux.specs.WordTrees.{word_type, heap_down}
use Rattle.tree_names.specs.declared.down_name.DownName.{DownName}
use Rattle.tree_catalog.specs.declared.down_operator.DownOperator.{DownOperator}
use Rattle.tree_catalog.specs.declared.down_operator.DownOperator.TheVariants as is
use Rattle.tree_catalog.specs.Operators.{IsDownOperatorOf}

-- the members of the operator are those of the name's operator at the type
abbrev pub IsDownOperator : DownOperator → DownName → List Width → Type 0
IsDownOperator (is.PathSum64 _) = IsDownOperatorOf (IsSummed 64) (λ _. sum_type 64) single path_sum_down
IsDownOperator (is.PathSum96 _) = IsDownOperatorOf (IsSummed 96) (λ _. sum_type 96) single path_sum_down
IsDownOperator (is.PathMax64 _) = IsDownOperatorOf (IsBounded 64) (λ ty. ty) (λ c. c ∷ []) path_max_down
IsDownOperator (is.PathMax96 _) = IsDownOperatorOf (IsBounded 96) (λ ty. ty) (λ c. c ∷ []) path_max_down
IsDownOperator (is.PathMax128 _) = IsDownOperatorOf (IsBounded 128) (λ ty. ty) (λ c. c ∷ []) path_max_down
IsDownOperator (is.Turns _) = IsDownOperatorOf IsAny (λ _. turns_type) single turns_down
IsDownOperator (is.HeapIndex _) = IsDownOperatorOf IsAny (λ _. word_type) single heap_down
IsDownOperator (is.Pre64 _) = IsDownOperatorOf (IsSummed 64) (λ _. sum_type 64) single pre_down
IsDownOperator (is.Pre96 _) = IsDownOperatorOf (IsSummed 96) (λ _. sum_type 96) single pre_down
