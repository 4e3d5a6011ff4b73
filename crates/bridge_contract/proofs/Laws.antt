-- The laws of an upward operator, for elements that it takes.
use Rattle.std.proofs.Common.{◌≡◌, ℕ, ◌+◌, ◌≤◌, ℤ, List}
use Rattle.op_laws.specs.declared.TheConstants.{MAX_ELEMENTS}
use Rattle.op_laws.specs.declared.width.Width.{Width}
use Rattle.op_laws.specs.Laws.{IsElementOf}
use Rattle.op_laws.specs.TreeFolds.{Upward}
use Rattle.op_laws.specs.TreeLaws.{UpwardLaws}

pub record Laws {A V G : Type 0} (k : Upward A V G) (takes : A → Type 0) (fits_v : V → ℕ → Type 0) (fits_g : G → ℕ → Type 0) : Type 0 where
  pub leaf_fits : (a : A) → takes a → fits_v (k.leaf a) 1
  pub phi_fits : (a : A) → takes a → fits_g (k.phi a) 1
  pub node_fits : (x : V) (nx : ℕ) (g : G) (n : ℕ) (y : V) (ny : ℕ) → nx + n + ny ≤ MAX_ELEMENTS → fits_v x nx → fits_g g n → fits_v y ny → fits_v (k.node x g y) (nx + n + ny)
  pub left_fits : (h : G) (nh : ℕ) (g : G) (n : ℕ) (y : V) (ny : ℕ) → nh + n + ny ≤ MAX_ELEMENTS → fits_g h nh → fits_g g n → fits_v y ny → fits_g (k.hole_left h g y) (nh + n + ny)
  pub right_fits : (x : V) (nx : ℕ) (g : G) (n : ℕ) (h : G) (nh : ℕ) → nx + n + nh ≤ MAX_ELEMENTS → fits_v x nx → fits_g g n → fits_g h nh → fits_g (k.hole_right x g h) (nx + n + nh)
  pub contract_left : (x : V) (nx : ℕ) (h : G) (nh : ℕ) (y : V) (ny : ℕ) (g : G) (n : ℕ) (r : V) (nr : ℕ) → nx + nh + ny + n + nr ≤ MAX_ELEMENTS
      → fits_v x nx → fits_g h nh → fits_v y ny → fits_g g n → fits_v r nr → k.node (k.node x h y) g r ≡ k.node x (k.hole_left h g r) y
  pub contract_right : (l : V) (nl : ℕ) (g : G) (n : ℕ) (x : V) (nx : ℕ) (h : G) (nh : ℕ) (y : V) (ny : ℕ) → nl + n + nx + nh + ny ≤ MAX_ELEMENTS
      → fits_v l nl → fits_g g n → fits_v x nx → fits_g h nh → fits_v y ny → k.node l g (k.node x h y) ≡ k.node x (k.hole_right l g h) y

pub laws_of : {V G : Type 0} {takes : List Width → Type 0} {gives : List Width → List Width} {k : Upward (List ℤ) V G} {finished : V → List ℤ} {fits : V → ℕ → Type 0} {fits_hole : G → ℕ → Type 0}
    → UpwardLaws takes gives k finished fits fits_hole → Laws k (IsElementOf takes) fits fits_hole
laws_of u = record {
  leaf_fits = λ a t. let (ty, taken, admitted) = t in u.leaf_fits ty a taken admitted;
  phi_fits = λ a t. let (ty, taken, admitted) = t in u.phi_fits ty a taken admitted;
  node_fits = u.node_fits;
  left_fits = u.left_fits;
  right_fits = u.right_fits;
  contract_left = u.contract_left;
  contract_right = u.contract_right;
}
