-- Which of the operators that go up rose trees is that of a name at a type of element.
use Rattle.std.specs.Prelude.{pos, List, None}
use Rattle.std.specs.Int.{int_min, int_max}
use Rattle.op_laws.specs.declared.width.Width.{Width}
use Rattle.op_catalog.specs.Sums.{IsSummed, sum_type}
use Rattle.op_catalog.specs.Bounds.{IsBounded}
use Rattle.op_catalog.specs.Words.{IsWordType}
use Rattle.tree_aux.specs.SumTrees.{single, rose_sum_up}
use Rattle.tree_aux.specs.BoundTrees.{single_or_naught, rose_bound_up}
use Rattle.tree_aux.specs.LongPaths.{rose_heavy_up}
use Rattle.tree_aux.specs.WordTrees.{ring_up}
use Rattle.tree_names.specs.declared.rose_name.RoseName.{RoseName}
use Rattle.tree_catalog.specs.declared.rose_operator.RoseOperator.{RoseOperator}
use Rattle.tree_catalog.specs.declared.rose_operator.RoseOperator.TheVariants as is
use Rattle.tree_catalog.specs.Operators.{IsRoseOperatorOf}

-- the members of the operator are those of the name's operator at the type
abbrev pub IsRoseOperator : RoseOperator → RoseName → List Width → Type 0
IsRoseOperator (is.Sum64 _) = IsRoseOperatorOf (IsSummed 64) (λ _. sum_type 64) single (pos 0) rose_sum_up
IsRoseOperator (is.Sum96 _) = IsRoseOperatorOf (IsSummed 96) (λ _. sum_type 96) single (pos 0) rose_sum_up
IsRoseOperator (is.Max64 _) = IsRoseOperatorOf (IsBounded 64) (λ ty. ty) single_or_naught None (rose_bound_up int_max)
IsRoseOperator (is.Max96 _) = IsRoseOperatorOf (IsBounded 96) (λ ty. ty) single_or_naught None (rose_bound_up int_max)
IsRoseOperator (is.Max128 _) = IsRoseOperatorOf (IsBounded 128) (λ ty. ty) single_or_naught None (rose_bound_up int_max)
IsRoseOperator (is.Min64 _) = IsRoseOperatorOf (IsBounded 64) (λ ty. ty) single_or_naught None (rose_bound_up int_min)
IsRoseOperator (is.Min96 _) = IsRoseOperatorOf (IsBounded 96) (λ ty. ty) single_or_naught None (rose_bound_up int_min)
IsRoseOperator (is.Min128 _) = IsRoseOperatorOf (IsBounded 128) (λ ty. ty) single_or_naught None (rose_bound_up int_min)
IsRoseOperator (is.Heavy64 _) = IsRoseOperatorOf (IsSummed 64) (λ _. sum_type 64) single_or_naught None rose_heavy_up
IsRoseOperator (is.Heavy96 _) = IsRoseOperatorOf (IsSummed 96) (λ _. sum_type 96) single_or_naught None rose_heavy_up
IsRoseOperator (is.Ring _) = IsRoseOperatorOf IsWordType (λ ty. ty) single (pos 0) ring_up
