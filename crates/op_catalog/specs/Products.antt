-- Products modulo 2^64. `int_wrap w64 v` is the one number of w64 that differs from v by a multiple of 2^64.
use Rattle.std.specs.Prelude.{ℤ, pos, ◌*ℤ◌, List, [], ◌∷◌}
use Rattle.std.specs.Int.{int_wrap, w64}

-- the product of numbers
abbrev pub product_of : List ℤ → ℤ
product_of [] = pos 1
product_of (x ∷ xs) = x *ℤ product_of xs

-- the product of two numbers, modulo 2^64
abbrev pub wrapped_product : ℤ → ℤ → ℤ
wrapped_product a b = int_wrap w64 (a *ℤ b)
