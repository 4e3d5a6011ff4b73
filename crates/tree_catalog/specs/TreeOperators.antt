-- Which of the operators that go up binary trees is that of a name at a type of element.
use Rattle.std.specs.Prelude.{List, [], ◌∷◌}
use Rattle.std.specs.Int.{int_min, int_max}
use Rattle.op_laws.specs.declared.width.Width.{Width}
use Rattle.op_catalog.specs.Sums.{IsSummed, sum_type}
use Rattle.op_catalog.specs.Bounds.{IsBounded}
use Rattle.op_catalog.specs.Words.{IsWordType}
use Rattle.tree_aux.specs.SumTrees.{single, sum_up}
use Rattle.tree_aux.specs.BoundTrees.{bound_up}
use Rattle.tree_aux.specs.LongPaths.{heavy_up, best_of, best_up}
use Rattle.tree_aux.specs.WordTrees.{expr_up}
use Rattle.tree_names.specs.declared.tree_name.TreeName.{TreeName}
use Rattle.tree_catalog.specs.declared.tree_operator.TreeOperator.{TreeOperator}
use Rattle.tree_catalog.specs.declared.tree_operator.TreeOperator.TheVariants as is
use Rattle.tree_catalog.specs.Operators.{IsTreeOperatorOf}

-- the members of the operator are those of the name's operator at the type
abbrev pub IsTreeOperator : TreeOperator → TreeName → List Width → Type 0
IsTreeOperator (is.Sum64 _) = IsTreeOperatorOf (IsSummed 64) (λ _. sum_type 64) single sum_up
IsTreeOperator (is.Sum96 _) = IsTreeOperatorOf (IsSummed 96) (λ _. sum_type 96) single sum_up
IsTreeOperator (is.Min64 _) = IsTreeOperatorOf (IsBounded 64) (λ ty. ty) (λ c. c ∷ []) (bound_up int_min)
IsTreeOperator (is.Min96 _) = IsTreeOperatorOf (IsBounded 96) (λ ty. ty) (λ c. c ∷ []) (bound_up int_min)
IsTreeOperator (is.Min128 _) = IsTreeOperatorOf (IsBounded 128) (λ ty. ty) (λ c. c ∷ []) (bound_up int_min)
IsTreeOperator (is.Max64 _) = IsTreeOperatorOf (IsBounded 64) (λ ty. ty) (λ c. c ∷ []) (bound_up int_max)
IsTreeOperator (is.Max96 _) = IsTreeOperatorOf (IsBounded 96) (λ ty. ty) (λ c. c ∷ []) (bound_up int_max)
IsTreeOperator (is.Max128 _) = IsTreeOperatorOf (IsBounded 128) (λ ty. ty) (λ c. c ∷ []) (bound_up int_max)
IsTreeOperator (is.Heavy64 _) = IsTreeOperatorOf (IsSummed 64) (λ _. sum_type 64) single heavy_up
IsTreeOperator (is.Heavy96 _) = IsTreeOperatorOf (IsSummed 96) (λ _. sum_type 96) single heavy_up
IsTreeOperator (is.BestSub64 _) = IsTreeOperatorOf (IsSummed 64) (λ _. sum_type 64) best_of best_up
IsTreeOperator (is.BestSub96 _) = IsTreeOperatorOf (IsSummed 96) (λ _. sum_type 96) best_of best_up
IsTreeOperator (is.Expr _) = IsTreeOperatorOf IsWordType (λ ty. ty) single expr_up
