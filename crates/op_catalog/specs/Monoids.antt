-- Which of the operators that have a unit is that of a name at a type of element.
use Rattle.std.specs.Prelude.{pos, negsuc, ◌+ℤ◌, List, [], ◌∷◌}
use Rattle.std.specs.Int.{w64, int_min, int_max, int_bit_and, int_bit_or, int_bit_xor}
use Rattle.op_laws.specs.declared.width.Width.{Width}
use Rattle.op_laws.specs.declared.width.Width.TheVariants.{W64, W96, W128}
use Rattle.op_catalog.specs.declared.list_op.ListOp.{ListOp}
use Rattle.op_catalog.specs.declared.list_monoid.ListMonoid.{ListMonoid}
use Rattle.op_catalog.specs.declared.list_monoid.ListMonoid.TheVariants.{Sum64, Sum96, Mul, Min64, Min96, Min128, Max64, Max96, Max128, And, Or, Xor, Mss64, Mss96, Affine}
use Rattle.op_catalog.specs.Numbers.{number_of}
use Rattle.op_catalog.specs.Sums.{IsSummed, sum_type}
use Rattle.op_catalog.specs.Words.{IsWordType}
use Rattle.op_catalog.specs.Products.{wrapped_product}
use Rattle.op_catalog.specs.Bounds.{bottom, top, IsBounded}
use Rattle.op_catalog.specs.Segments.{of_one, of_none, joined, best_of}
use Rattle.op_catalog.specs.Lines.{line, line_of, after_line, pair_of, IsLineType}
use Rattle.op_catalog.specs.Operators.{IsMonoidOf}

-- the members of the operator are those of the name's operator at the type
abbrev pub IsListMonoid : ListMonoid → ListOp → List Width → Type 0
IsListMonoid (Sum64 _) = IsMonoidOf (IsSummed 64) (λ _. sum_type 64) (λ c. c ∷ []) (pos 0) number_of (λ a b. a +ℤ b)
IsListMonoid (Sum96 _) = IsMonoidOf (IsSummed 96) (λ _. sum_type 96) (λ c. c ∷ []) (pos 0) number_of (λ a b. a +ℤ b)
IsListMonoid (Mul _) = IsMonoidOf IsWordType (λ ty. ty) (λ c. c ∷ []) (pos 1) number_of wrapped_product
IsListMonoid (Min64 _) = IsMonoidOf (IsBounded 64) (λ ty. ty) (λ c. c ∷ []) (top W64) number_of int_min
IsListMonoid (Min96 _) = IsMonoidOf (IsBounded 96) (λ ty. ty) (λ c. c ∷ []) (top W96) number_of int_min
IsListMonoid (Min128 _) = IsMonoidOf (IsBounded 128) (λ ty. ty) (λ c. c ∷ []) (top W128) number_of int_min
IsListMonoid (Max64 _) = IsMonoidOf (IsBounded 64) (λ ty. ty) (λ c. c ∷ []) (bottom W64) number_of int_max
IsListMonoid (Max96 _) = IsMonoidOf (IsBounded 96) (λ ty. ty) (λ c. c ∷ []) (bottom W96) number_of int_max
IsListMonoid (Max128 _) = IsMonoidOf (IsBounded 128) (λ ty. ty) (λ c. c ∷ []) (bottom W128) number_of int_max
IsListMonoid (And _) = IsMonoidOf IsWordType (λ ty. ty) (λ c. c ∷ []) (negsuc 0) number_of (int_bit_and w64)
IsListMonoid (Or _) = IsMonoidOf IsWordType (λ ty. ty) (λ c. c ∷ []) (pos 0) number_of (int_bit_or w64)
IsListMonoid (Xor _) = IsMonoidOf IsWordType (λ ty. ty) (λ c. c ∷ []) (pos 0) number_of (int_bit_xor w64)
IsListMonoid (Mss64 _) = IsMonoidOf (IsSummed 64) (λ _. sum_type 64) best_of of_none of_one joined
IsListMonoid (Mss96 _) = IsMonoidOf (IsSummed 96) (λ _. sum_type 96) best_of of_none of_one joined
IsListMonoid (Affine _) = IsMonoidOf IsLineType (λ ty. ty) pair_of (line (pos 1) (pos 0)) line_of after_line
