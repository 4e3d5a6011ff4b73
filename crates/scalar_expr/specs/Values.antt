-- What a function of scalars gives on an element. The numbers are whole numbers without bound.
use Rattle.std.specs.Prelude.{◌≡◌, ℕ, ℤ, pos, negsuc, ◌+ℤ◌, ◌-ℤ◌, ◌*ℤ◌, bit_and, bit_or, bit_xor, List, [], ◌∷◌, map, slice_index_or, if◌then◌else◌, Bool, int_lt, refl}
use Rattle.std.specs.Ordering.{int_eq}
use Rattle.std.specs.Int.{w64, int_min, int_max, int_wrap, cast_signed, cast_unsigned}
use Rattle.scalar_expr.specs.declared.pair.Pair.{Pair}
use Rattle.scalar_expr.specs.declared.pair.Pair.TheVariants.{Add, Sub, Mul, Min, Max, Less, Same, And, Or, Xor}
use Rattle.scalar_expr.specs.Expr.{Expr, lit, part, two, cond, wrap}

-- the one number of 64 bits that differs from v by a multiple of 2^64
abbrev pub residue : ℤ → ℤ
residue v = int_wrap w64 v

-- 1 where the test holds, else 0
abbrev pub truth : Bool → ℤ
truth test = if test then pos 1 else pos 0

-- bit by bit, in two's complement of 64 bits
abbrev pub bitwise : (ℕ → ℕ → ℕ) → ℤ → ℤ → ℤ
bitwise f a b = cast_signed w64 (f (cast_unsigned w64 (residue a)) (cast_unsigned w64 (residue b)))

abbrev pub pair_value : Pair → ℤ → ℤ → ℤ
pair_value Add a b = a +ℤ b
pair_value Sub a b = a -ℤ b
pair_value Mul a b = residue (a *ℤ b)
pair_value Min a b = int_min a b
pair_value Max a b = int_max a b
pair_value Less a b = truth (int_lt a b)
pair_value Same a b = truth (int_eq a b)
pair_value And a b = bitwise bit_and a b
pair_value Or a b = bitwise bit_or a b
pair_value Xor a b = bitwise bit_xor a b

-- a where c isn't 0, else b
abbrev pub chosen : ℤ → ℤ → ℤ → ℤ
chosen c a b = if int_eq c (pos 0) then b else a

-- the value of a scalar on the element e
abbrev pub value_of : List ℤ → Expr → ℤ
value_of e (lit n) = n
value_of e (part i) = slice_index_or e i (pos 0)
value_of e (two op a b) = pair_value op (value_of e a) (value_of e b)
value_of e (cond c a b) = chosen (value_of e c) (value_of e a) (value_of e b)
value_of e (wrap a) = residue (value_of e a)

-- the values of a function's scalars
abbrev pub values_of : List Expr → List ℤ → List ℤ
values_of scalars e = map (value_of e) scalars

-- worked rows

two_parts : values_of (two Add (part 0) (part 1) ∷ two Sub (part 0) (part 1) ∷ []) (pos 3 ∷ pos 5 ∷ []) ≡ pos 8 ∷ negsuc 1 ∷ []
two_parts = refl

even : map (λ n. value_of (n ∷ []) (two Same (two And (part 0) (lit (pos 1))) (lit (pos 0)))) (pos 4 ∷ pos 7 ∷ negsuc 0 ∷ []) ≡ pos 1 ∷ pos 0 ∷ pos 0 ∷ []
unfolding int_wrap
even = refl

clipped : map (λ n. value_of (n ∷ []) (cond (two Less (part 0) (lit (pos 0))) (lit (pos 0)) (two Min (part 0) (lit (pos 7))))) (negsuc 4 ∷ pos 5 ∷ pos 9 ∷ []) ≡ pos 0 ∷ pos 5 ∷ pos 7 ∷ []
clipped = refl

past_the_end : value_of (pos 9223372036854775807 ∷ []) (wrap (two Add (part 0) (lit (pos 1)))) ≡ negsuc 9223372036854775807
unfolding int_wrap
past_the_end = refl
