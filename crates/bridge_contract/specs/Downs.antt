-- What a bridge passes down, and the values at the roots.
use Rattle.std.specs.Prelude.{◌≡◌, ℕ, zero, suc, ◌+◌, ◌*◌, ◌≤◌, Option, Some, None, List, [], ◌∷◌, ◌++◌}
use Rattle.op_laws.specs.declared.TheConstants.{MAX_ELEMENTS}
use Rattle.op_laws.specs.TreeFolds.{Downward}
use Rattle.m_bridges.specs.Parts.{Part, End, Stop, Join, holes}
use Rattle.bridge_contract.specs.declared.down_summary.DownSummary.{DownSummary}
use Rattle.bridge_contract.specs.declared.down_summary.DownSummary.TheVariants.{End as Ended, Both}

-- the first that is there
abbrev pub first_some : {X : Type 0} → Option X → Option X → Option X
first_some None o = o
first_some (Some x) o = Some x

-- the values at the left and the right child of a part's hole, with c at its root, by its own nodes alone
abbrev pub below_hole : {A V D : Type 0} → Downward A V D → V → Part A → Option (V × V)
below_hole k c (End a) = None
below_hole k c (Stop b) = Some (k.down c (k.left b), k.down c (k.right b))
below_hole k c (Join b p q) = first_some (below_hole k (k.down c (k.left b)) p) (below_hole k (k.down c (k.right b)) q)

-- one more than a number that isn't 0
abbrev pub one_more : ℕ → ℕ
one_more zero = 0
one_more (suc n) = suc (suc n)

-- how many nodes are on the path from a part's root to its hole, both counted; 0 where there is no hole
abbrev pub path_length : {A : Type 0} → Part A → ℕ
path_length (End a) = 0
path_length (Stop b) = 1
path_length (Join b p q) = one_more (path_length p + path_length q)

-- nothing for a part without a hole; else one way to each child of the hole, whatever stands at the root. Its weight is 2 for each node on the path
abbrev pub LeadsDown : {A V D : Type 0} → Downward A V D → (V → ℕ → Type 0) → (D → ℕ → Type 0) → Part A → DownSummary D → Type 0
LeadsDown k fits fits_way p Ended = holes p ≡ 0
LeadsDown {A} {V} k fits fits_way p (Both l r n) =
    (holes p ≡ 1) × (n ≡ 2 * path_length p) × fits_way l n × fits_way r n × ((c : V) (nc : ℕ) → nc + n ≤ MAX_ELEMENTS → fits c nc → below_hole k c p ≡ Some (k.down c l, k.down c r))

-- a full binary tree of what bridges pass down: its leaves pass nothing
pub data Fallen (D : Type 0) : Type 0 where
  Lands : Fallen D
  Splits : D → D → ℕ → Fallen D → Fallen D → Fallen D

-- the parts in preorder
abbrev pub preorder : {D : Type 0} → Fallen D → List (DownSummary D)
preorder Lands = Ended ∷ []
preorder (Splits l r n x y) = Both l r n ∷ (preorder x ++ preorder y)

-- the values at all roots in preorder, with c at the first
abbrev pub downs : {A V D : Type 0} → Downward A V D → V → Fallen D → List V
downs k c Lands = c ∷ []
downs k c (Splits l r n x y) = c ∷ (downs k (k.down c l) x ++ downs k (k.down c r) y)

-- each way fits its weight, and the weights along each path keep within the greatest, from m on
abbrev pub FitsDown : {D : Type 0} → (D → ℕ → Type 0) → ℕ → Fallen D → Type 0
FitsDown fits_way m Lands = m ≤ MAX_ELEMENTS
FitsDown fits_way m (Splits l r n x y) = (m + n ≤ MAX_ELEMENTS) × fits_way l n × fits_way r n × FitsDown fits_way (m + n) x × FitsDown fits_way (m + n) y

-- the parts are the preorder of such a tree, within the weights
abbrev pub AreFallen : {D : Type 0} → (D → ℕ → Type 0) → List (DownSummary D) → Type 0
AreFallen {D} fits_way parts = (x : Fallen D) × (preorder x ≡ parts) × FitsDown fits_way 1 x

-- the values are those of the tree whose preorder the parts are
abbrev pub AreDowns : {A V D : Type 0} → Downward A V D → V → List (DownSummary D) → List V → Type 0
AreDowns {A} {V} {D} k c parts vs = (x : Fallen D) → preorder x ≡ parts → vs ≡ downs k c x

-- the values at the own nodes of a part in preorder, with c at its root
abbrev pub own_downs : {A V D : Type 0} → Downward A V D → V → Part A → List V
own_downs k c (End a) = c ∷ []
own_downs k c (Stop b) = c ∷ []
own_downs k c (Join b p q) = c ∷ (own_downs k (k.down c (k.left b)) p ++ own_downs k (k.down c (k.right b)) q)
