-- The wider of two types, component by component.
use Rattle.std.proofs.Common.{◌≡◌, ℕ, zero, suc, ◌+◌, ◌≤◌, List, [], ◌∷◌, ◌++◌, length, take, arith, Some, ap, add-one}
use Rattle.std.proofs.lemmas.Grind.{common_steps}
use Rattle.std.specs.Prelude.{slice_get}
use Rattle.op_laws.specs.declared.width.Width.{Width}
use Rattle.op_laws.specs.Widths.{wider_width}
use Rattle.script_lang.specs.Tables.{wider_each}

more : (a b : List Width) (i : ℕ) (v w : Width) → slice_get a i ≡ Some v → slice_get b i ≡ Some w → wider_each (take (suc i) a) (take (suc i) b) ≡ wider_each (take i a) (take i b) ++ wider_width v w ∷ []
more [] b i v w p q = absurd (cc)
more (x ∷ xs) [] i v w p q = absurd (cc)
more (x ∷ xs) (y ∷ ys) zero v w p q = cc
more (x ∷ xs) (y ∷ ys) (suc i) v w p q = ap (λ (ts : List Width). wider_width x y ∷ ts) (more xs ys i v w p q)

-- one component more
pub wider_more : (a b : List Width) (i : ℕ) (v w : Width) → slice_get a i ≡ Some v → slice_get b i ≡ Some w → wider_each (take (i + 1) a) (take (i + 1) b) ≡ wider_each (take i a) (take i b) ++ wider_width v w ∷ []
wider_more a b i v w p q = rw add-one (more a b i v w p q)

-- the first
pub wider_first : (a b : List Width) (v w : Width) → slice_get a 0 ≡ Some v → slice_get b 0 ≡ Some w → wider_each (take 1 a) (take 1 b) ≡ wider_width v w ∷ []
wider_first [] b v w p q = absurd (cc)
wider_first (x ∷ xs) [] v w p q = absurd (cc)
wider_first (x ∷ xs) (y ∷ ys) v w p q = cc

-- all of them
pub wider_all : (a b : List Width) (n : ℕ) → length a ≤ n → length b ≤ n → wider_each (take n a) (take n b) ≡ wider_each a b
wider_all a b n p q = grind (arith, common_steps)
