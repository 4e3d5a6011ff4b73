-- The laws of operators on trees, which hold of values that stand for few elements: `fits v n` says that the value v may stand for n elements.
use Rattle.std.specs.Prelude.{◌≡◌, ℕ, ◌+◌, ◌≤◌, ℤ, List}
use Rattle.op_laws.specs.declared.TheConstants.{MAX_ELEMENTS}
use Rattle.op_laws.specs.declared.width.Width.{Width}
use Rattle.op_laws.specs.declared.width.Width.TheVariants.{W64}
use Rattle.op_laws.specs.Widths.{FitsWidth}
use Rattle.op_laws.specs.Admits.{Admits}
use Rattle.op_laws.specs.TreeFolds.{Upward, Downward}

-- values of subtrees have a result; and where a subtree isn't known yet, what stands above it may be contracted first
pub record UpwardLaws {V G : Type 0} (takes : List Width → Type 0) (gives : List Width → List Width) (k : Upward (List ℤ) V G) (finished : V → List ℤ)
    (fits : V → ℕ → Type 0) (fits_hole : G → ℕ → Type 0) : Type 0 where
  pub grows : (v : V) (m n : ℕ) → m ≤ n → fits v m → fits v n
  pub hole_grows : (g : G) (m n : ℕ) → m ≤ n → fits_hole g m → fits_hole g n
  pub finished_admitted : (ty : List Width) (v : V) (n : ℕ) → takes ty → n ≤ MAX_ELEMENTS → fits v n → Admits (gives ty) (finished v)
  pub leaf_fits : (ty : List Width) (e : List ℤ) → takes ty → Admits ty e → fits (k.leaf e) 1
  pub phi_fits : (ty : List Width) (e : List ℤ) → takes ty → Admits ty e → fits_hole (k.phi e) 1
  pub node_fits : (l : V) (nl : ℕ) (g : G) (ng : ℕ) (r : V) (nr : ℕ) → nl + ng + nr ≤ MAX_ELEMENTS → fits l nl → fits_hole g ng → fits r nr
      → fits (k.node l g r) (nl + ng + nr)
  pub left_fits : (h : G) (nh : ℕ) (g : G) (ng : ℕ) (r : V) (nr : ℕ) → nh + ng + nr ≤ MAX_ELEMENTS → fits_hole h nh → fits_hole g ng → fits r nr
      → fits_hole (k.hole_left h g r) (nh + ng + nr)
  pub right_fits : (l : V) (nl : ℕ) (g : G) (ng : ℕ) (h : G) (nh : ℕ) → nl + ng + nh ≤ MAX_ELEMENTS → fits l nl → fits_hole g ng → fits_hole h nh
      → fits_hole (k.hole_right l g h) (nl + ng + nh)
  pub contract_left : (x : V) (nx : ℕ) (h : G) (nh : ℕ) (y : V) (ny : ℕ) (g : G) (ng : ℕ) (r : V) (nr : ℕ) → nx + nh + ny + ng + nr ≤ MAX_ELEMENTS
      → fits x nx → fits_hole h nh → fits y ny → fits_hole g ng → fits r nr
      → k.node (k.node x h y) g r ≡ k.node x (k.hole_left h g r) y
  pub contract_right : (l : V) (nl : ℕ) (g : G) (ng : ℕ) (x : V) (nx : ℕ) (h : G) (nh : ℕ) (y : V) (ny : ℕ) → nl + ng + nx + nh + ny ≤ MAX_ELEMENTS
      → fits l nl → fits_hole g ng → fits x nx → fits_hole h nh → fits y ny
      → k.node l g (k.node x h y) ≡ k.node x (k.hole_right l g h) y

-- the value of no tree fits 1, and a leaf has it, whatever its element
pub record NothingLaws {V G : Type 0} (nothing : V) (k : Upward (List ℤ) V G) (fits : V → ℕ → Type 0) : Type 0 where
  pub nothing_fits : fits nothing 1
  pub leaf_is_nothing : (e : List ℤ) → k.leaf e ≡ nothing

-- values come down and have a result; and two steps are one
pub record DownwardLaws {V D : Type 0} (takes : List Width → Type 0) (gives : List Width → List Width) (k : Downward (List ℤ) V D) (finished : V → List ℤ)
    (fits : V → ℕ → Type 0) (fits_way : D → ℕ → Type 0) : Type 0 where
  pub grows : (v : V) (m n : ℕ) → m ≤ n → fits v m → fits v n
  pub way_grows : (d : D) (m n : ℕ) → m ≤ n → fits_way d m → fits_way d n
  pub finished_admitted : (ty : List Width) (v : V) (n : ℕ) → takes ty → n ≤ MAX_ELEMENTS → fits v n → Admits (gives ty) (finished v)
  pub start_fits : (c : ℤ) → FitsWidth W64 c → fits (k.start c) 1
  pub left_fits : (ty : List Width) (e : List ℤ) → takes ty → Admits ty e → fits_way (k.left e) 2
  pub right_fits : (ty : List Width) (e : List ℤ) → takes ty → Admits ty e → fits_way (k.right e) 2
  pub then_fits : (a : D) (na : ℕ) (b : D) (nb : ℕ) → na + nb ≤ MAX_ELEMENTS → fits_way a na → fits_way b nb → fits_way (k.then a b) (na + nb)
  pub down_fits : (c : V) (nc : ℕ) (d : D) (nd : ℕ) → nc + nd ≤ MAX_ELEMENTS → fits c nc → fits_way d nd → fits (k.down c d) (nc + nd)
  pub contract : (c : V) (nc : ℕ) (a : D) (na : ℕ) (b : D) (nb : ℕ) → nc + na + nb ≤ MAX_ELEMENTS → fits c nc → fits_way a na → fits_way b nb
      → k.down (k.down c a) b ≡ k.down c (k.then a b)

-- a step to the right changes nothing
pub record AcrossLaws {V D : Type 0} (k : Downward (List ℤ) V D) : Type 0 where
  pub across : (c : V) (e : List ℤ) → k.down c (k.right e) ≡ c
