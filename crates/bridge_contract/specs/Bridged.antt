-- The summaries of all bridges as a tree, and the values at its roots.
use Rattle.op_laws.specs.declared.TheConstants.{MAX_ELEMENTS}
use Rattle.std.specs.Prelude.{◌≡◌, ℕ, zero, suc, ◌+◌, ◌-◌, ◌<◌, ◌≤◌, ◌^◌, Bool, true, false, cond, nat_lt, Option, Some, None, List, [], ◌∷◌, ◌++◌}
use Rattle.op_laws.specs.TreeFolds.{Upward}
use Rattle.bridge_contract.specs.declared.summary.Summary.{Summary}
use Rattle.bridge_contract.specs.declared.summary.Summary.TheVariants.{Value, Hole}

-- a full binary tree whose leaves have values
pub data Bridged (V G : Type 0) : Type 0 where
  Ends : V → ℕ → Bridged V G
  Leads : G → ℕ → Bridged V G → Bridged V G → Bridged V G

-- how many parts there are
abbrev pub count : {V G : Type 0} → Bridged V G → ℕ
count (Ends v n) = 1
count (Leads g n x y) = 1 + count x + count y

-- the summaries in preorder
abbrev pub preorder : {V G : Type 0} → Bridged V G → List (Summary V G)
preorder (Ends v n) = Value v n ∷ []
preorder (Leads g n x y) = Hole g n ∷ (preorder x ++ preorder y)

-- the weights together
abbrev pub weight : {V G : Type 0} → Bridged V G → ℕ
weight (Ends v n) = n
weight (Leads g n x y) = weight x + n + weight y

-- the value at the root
abbrev pub up : {A V G : Type 0} → Upward A V G → Bridged V G → V
up k (Ends v n) = v
up k (Leads g n x y) = k.node (up k x) g (up k y)

-- the values at all roots, in preorder
abbrev pub ups : {A V G : Type 0} → Upward A V G → Bridged V G → List V
ups k (Ends v n) = v ∷ []
ups k (Leads g n x y) = k.node (up k x) g (up k y) ∷ (ups k x ++ ups k y)

-- the values at the two roots below each hole, in preorder; none where a part has no hole
abbrev pub belows : {A V G : Type 0} → Upward A V G → Bridged V G → List (Option (V × V))
belows k (Ends v n) = None ∷ []
belows k (Leads g n x y) = Some (up k x, up k y) ∷ (belows k x ++ belows k y)

-- each value and each node fits its weight
abbrev pub FitsEach : {V G : Type 0} → (V → ℕ → Type 0) → (G → ℕ → Type 0) → Bridged V G → Type 0
FitsEach fits_v fits_g (Ends v n) = fits_v v n
FitsEach fits_v fits_g (Leads g n x y) = fits_g g n × FitsEach fits_v fits_g x × FitsEach fits_v fits_g y

-- the parts are the preorder of such a tree, within the weights
abbrev pub AreBridged : {V G : Type 0} → (V → ℕ → Type 0) → (G → ℕ → Type 0) → List (Summary V G) → Type 0
AreBridged {V} {G} fits_v fits_g parts = (t : Bridged V G) × (preorder t ≡ parts) × FitsEach fits_v fits_g t × (weight t ≤ MAX_ELEMENTS)

-- the values are those of the tree whose preorder the parts are
abbrev pub AreUps : {A V G : Type 0} → Upward A V G → List (Summary V G) → List V → Type 0
AreUps {A} {V} {G} k parts vs = (t : Bridged V G) → preorder t ≡ parts → vs ≡ ups k t

-- the pairs are those of the tree whose preorder the parts are
abbrev pub AreBelows : {A V G : Type 0} → Upward A V G → List (Summary V G) → List (Option (V × V)) → Type 0
AreBelows {A} {V} {G} k parts os = (t : Bridged V G) → preorder t ≡ parts → os ≡ belows k t

-- a part may be put over what stands on the stack, its top last
abbrev pub CanRaise : {V G : Type 0} → (V → ℕ → Type 0) → (G → ℕ → Type 0) → Summary V G → List (V × ℕ) → Type 0
CanRaise fits_v fits_g (Value v n) st = Unit {0}
CanRaise {V} fits_v fits_g (Hole g n) st =
    fits_g g n × ((rest : List (V × ℕ)) × (x : V × ℕ) × (y : V × ℕ) × (st ≡ (rest ++ y ∷ []) ++ x ∷ []) × (x.1 + n + y.1 ≤ MAX_ELEMENTS) × fits_v x.0 x.1 × fits_v y.0 y.1)

-- the value of a part over those that it takes from the stack, and its weight
abbrev pub Raises : {A V G : Type 0} → Upward A V G → Summary V G → List (V × ℕ) → List (V × ℕ) → V × ℕ → Type 0
Raises k (Value v n) before after r = (after ≡ before) × (r ≡ (v, n))
Raises {A} {V} k (Hole g n) before after r = (x : V × ℕ) × (y : V × ℕ) × (before ≡ (after ++ y ∷ []) ++ x ∷ []) × (r ≡ (k.node x.0 g y.0, x.1 + n + y.1))

-- the values that the part takes from the stack, where it takes any
abbrev pub Tops : {V G : Type 0} → Summary V G → List (V × ℕ) → Option (V × V) → Type 0
Tops (Value v n) st o = o ≡ None
Tops {V} (Hole g n) st o = (rest : List (V × ℕ)) × (x : V × ℕ) × (y : V × ℕ) × (st ≡ (rest ++ y ∷ []) ++ x ∷ []) × (o ≡ Some (x.0, y.0))
