-- Which of the commutative operators on lists is that of a name at a type of element.
use Rattle.std.specs.Prelude.{◌+ℤ◌, List, [], ◌∷◌}
use Rattle.std.specs.Int.{w64, int_min, int_max, int_bit_and, int_bit_or, int_bit_xor}
use Rattle.op_laws.specs.declared.width.Width.{Width}
use Rattle.op_catalog.specs.declared.list_op.ListOp.{ListOp}
use Rattle.op_catalog.specs.Numbers.{number_of}
use Rattle.op_catalog.specs.Sums.{IsSummed, sum_type}
use Rattle.op_catalog.specs.Words.{IsWordType}
use Rattle.op_catalog.specs.Products.{wrapped_product}
use Rattle.op_catalog.specs.Bounds.{IsBounded}
use Rattle.matrix_catalog.specs.declared.commuting.Commuting.{Commuting}
use Rattle.matrix_catalog.specs.declared.commuting.Commuting.TheVariants as is
use Rattle.matrix_catalog.specs.Operators.{IsCommutingOf}

-- the members of the operator are those of the operator of both names at the type
abbrev pub IsCommuting : Commuting → ListOp → ListOp → List Width → Type 0
IsCommuting (is.Sum64 _) = IsCommutingOf (IsSummed 64) (λ _. sum_type 64) (λ c. c ∷ []) number_of (λ a b. a +ℤ b)
IsCommuting (is.Sum96 _) = IsCommutingOf (IsSummed 96) (λ _. sum_type 96) (λ c. c ∷ []) number_of (λ a b. a +ℤ b)
IsCommuting (is.Mul _) = IsCommutingOf IsWordType (λ ty. ty) (λ c. c ∷ []) number_of wrapped_product
IsCommuting (is.Min64 _) = IsCommutingOf (IsBounded 64) (λ ty. ty) (λ c. c ∷ []) number_of int_min
IsCommuting (is.Min96 _) = IsCommutingOf (IsBounded 96) (λ ty. ty) (λ c. c ∷ []) number_of int_min
IsCommuting (is.Min128 _) = IsCommutingOf (IsBounded 128) (λ ty. ty) (λ c. c ∷ []) number_of int_min
IsCommuting (is.Max64 _) = IsCommutingOf (IsBounded 64) (λ ty. ty) (λ c. c ∷ []) number_of int_max
IsCommuting (is.Max96 _) = IsCommutingOf (IsBounded 96) (λ ty. ty) (λ c. c ∷ []) number_of int_max
IsCommuting (is.Max128 _) = IsCommutingOf (IsBounded 128) (λ ty. ty) (λ c. c ∷ []) number_of int_max
IsCommuting (is.And _) = IsCommutingOf IsWordType (λ ty. ty) (λ c. c ∷ []) number_of (int_bit_and w64)
IsCommuting (is.Or _) = IsCommutingOf IsWordType (λ ty. ty) (λ c. c ∷ []) number_of (int_bit_or w64)
IsCommuting (is.Xor _) = IsCommutingOf IsWordType (λ ty. ty) (λ c. c ∷ []) number_of (int_bit_xor w64)
