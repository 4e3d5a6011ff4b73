-- What the summary of a bridge says.
use Rattle.op_laws.specs.declared.TheConstants.{MAX_ELEMENTS}
use Rattle.std.specs.Prelude.{◌≡◌, ℕ, zero, suc, ◌+◌, ◌-◌, ◌<◌, ◌≤◌, ◌^◌, Bool, true, false, cond, nat_lt, Option, Some, None, List, [], ◌∷◌, ◌++◌}
use Rattle.op_laws.specs.Trees.{BTree, Leaf, Node, size, Each}
use Rattle.m_bridges.specs.Parts.{Part, End, Stop, Join, own, holes, hung}
use Rattle.op_laws.specs.TreeFolds.{Upward, fold_tree}
use Rattle.bridge_contract.specs.declared.summary.Summary.{Summary}
use Rattle.bridge_contract.specs.declared.summary.Summary.TheVariants.{Value, Hole}

-- P holds of each own node's value
abbrev pub EachOwn : {A : Type 0} → (A → Type 0) → Part A → Type 0
EachOwn P (End a) = P a
EachOwn P (Stop b) = P b
EachOwn P (Join b p q) = P b × EachOwn P p × EachOwn P q

-- the summary of a node and of the two parts below it
abbrev pub joined : {A V G : Type 0} → Upward A V G → A → Summary V G → Summary V G → Summary V G
joined k b (Value l nl) (Value r nr) = Value (k.node l (k.phi b) r) (nl + 1 + nr)
joined k b (Hole h nh) (Value r nr) = Hole (k.hole_left h (k.phi b) r) (nh + 1 + nr)
joined k b (Value l nl) (Hole h nh) = Hole (k.hole_right l (k.phi b) h) (nl + 1 + nh)
joined k b (Hole g n) (Hole h nh) = Hole g n

-- the value of a part, by its own nodes alone
abbrev pub summary : {A V G : Type 0} → Upward A V G → Part A → Summary V G
summary k (End a) = Value (k.leaf a) 1
summary k (Stop b) = Hole (k.phi b) 1
summary k (Join b p q) = joined k b (summary k p) (summary k q)

-- one value for a part without a hole; else one g, whatever two trees hang below the hole
abbrev pub Sums : {A V G : Type 0} → Upward A V G → (A → Type 0) → (V → ℕ → Type 0) → (G → ℕ → Type 0) → Part A → Summary V G → Type 0
Sums {A} k takes fits_v fits_g p (Value v n) = (holes p ≡ 0) × (n ≡ own p) × fits_v v n × ((x y : BTree A) → fold_tree k (hung p x y) ≡ v)
Sums {A} k takes fits_v fits_g p (Hole g n) = (holes p ≡ 1) × (n ≡ own p) × fits_g g n
    × ((x y : BTree A) → Each takes x → Each takes y → own p + size x + size y ≤ MAX_ELEMENTS → fold_tree k (hung p x y) ≡ k.node (fold_tree k x) g (fold_tree k y))
