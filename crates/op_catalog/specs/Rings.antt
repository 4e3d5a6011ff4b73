-- Products and sums of whole numbers. An integer z is read as `up z - down z`.
use Rattle.std.proofs.Common.{◌≡◌, ◌+◌, ◌*◌, ℤ, ◌+ℤ◌, ap, arith}
use Rattle.std.proofs.Math.IntN.{◌*ℤ◌}
use Rattle.std.proofs.lemmas.Int.{ints}
use borrow.Author.Differences.{up, down}

sum_is : (b c : ℤ) → up (b +ℤ c) + (down b + down c) ≡ down (b +ℤ c) + (up b + up c)
sum_is b c = omega (arith, ints)

product_is : (a b : ℤ) → up (a *ℤ b) + (up a * down b + down a * up b) ≡ down (a *ℤ b) + (up a * up b + down a * down b)
product_is a b = omega (arith, ints)

pub *ℤ-+ℤ : (a b c : ℤ) → a *ℤ (b +ℤ c) ≡ (a *ℤ b) +ℤ (a *ℤ c)
*ℤ-+ℤ a b c = omega (arith, ints, ap (λ t. up a * t) (sum_is b c), ap (λ t. down a * t) (sum_is b c))

pub *ℤ_assoc : (a b c : ℤ) → (a *ℤ b) *ℤ c ≡ a *ℤ (b *ℤ c)
*ℤ_assoc a b c =
    omega (arith, ints, ap (λ t. t * up c) (product_is a b), ap (λ t. t * down c) (product_is a b), ap (λ t. up a * t) (product_is b c), ap (λ t. down a * t) (product_is b c))
