-- The laws of a downward operator, for elements that it takes.
use Rattle.std.proofs.Common.{◌≡◌, ℕ, ◌+◌, ◌≤◌, ℤ, List}
use Rattle.op_laws.specs.declared.TheConstants.{MAX_ELEMENTS}
use Rattle.op_laws.specs.declared.width.Width.{Width}
use Rattle.op_laws.specs.Laws.{IsElementOf}
use Rattle.op_laws.specs.TreeFolds.{Downward}
use Rattle.op_laws.specs.TreeLaws.{DownwardLaws}

pub record DownLaws {A V D : Type 0} (k : Downward A V D) (takes : A → Type 0) (fits : V → ℕ → Type 0) (fits_way : D → ℕ → Type 0) : Type 0 where
  pub grows : (v : V) (m n : ℕ) → m ≤ n → fits v m → fits v n
  pub left_fits : (a : A) → takes a → fits_way (k.left a) 2
  pub right_fits : (a : A) → takes a → fits_way (k.right a) 2
  pub then_fits : (a : D) (na : ℕ) (b : D) (nb : ℕ) → na + nb ≤ MAX_ELEMENTS → fits_way a na → fits_way b nb → fits_way (k.then a b) (na + nb)
  pub down_fits : (c : V) (nc : ℕ) (d : D) (nd : ℕ) → nc + nd ≤ MAX_ELEMENTS → fits c nc → fits_way d nd → fits (k.down c d) (nc + nd)
  pub contract : (c : V) (nc : ℕ) (a : D) (na : ℕ) (b : D) (nb : ℕ) → nc + na + nb ≤ MAX_ELEMENTS → fits c nc → fits_way a na → fits_way b nb
      → k.down (k.down c a) b ≡ k.down c (k.then a b)

pub down_laws_of : {V D : Type 0} {takes : List Width → Type 0} {gives : List Width → List Width} {k : Downward (List ℤ) V D} {finished : V → List ℤ} {fits : V → ℕ → Type 0} {fits_way : D → ℕ → Type 0}
    → DownwardLaws takes gives k finished fits fits_way → DownLaws k (IsElementOf takes) fits fits_way
down_laws_of u = record {
  grows = u.grows;
  left_fits = λ a t. let (ty, taken, admitted) = t in u.left_fits ty a taken admitted;
  right_fits = λ a t. let (ty, taken, admitted) = t in u.right_fits ty a taken admitted;
  then_fits = u.then_fits;
  down_fits = u.down_fits;
  contract = u.contract;
}
