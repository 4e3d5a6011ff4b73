-- A stack of summaries, and the bridge that they come from.
use Rattle.op_laws.specs.declared.TheConstants.{MAX_ELEMENTS}
use Rattle.std.specs.Prelude.{◌≡◌, ℕ, zero, suc, ◌+◌, ◌-◌, ◌<◌, ◌≤◌, ◌^◌, Bool, true, false, ℤ, Option, Some, None, List, [], ◌∷◌, ◌++◌}
use Rattle.op_laws.specs.Trees.{BTree, size, sub_at, is_leaf}
use Rattle.m_bridges.specs.Parts.{Part, own, holes}
use Rattle.m_bridges.specs.declared.bridge.Bridge.{Bridge}
use Rattle.op_laws.specs.TreeFolds.{Upward}
use Rattle.m_bridges.specs.Parts.{cut_at}
use Rattle.bridge_contract.specs.Summaries.{Sums, joined}
use Rattle.bridge_contract.specs.declared.head.Head.{Head}
use Rattle.bridge_contract.specs.declared.head.Head.TheVariants.{AtEnd, AtStop, AtJoin}
use Rattle.bridge_contract.specs.declared.summary.Summary.{Summary}
use Rattle.bridge_contract.specs.declared.summary.Summary.TheVariants.{Value, Hole}

-- each summary is that of the part beside it
abbrev pub SumsEach : {A V G : Type 0} → Upward A V G → (A → Type 0) → (V → ℕ → Type 0) → (G → ℕ → Type 0) → List (Part A) → List (Summary V G) → Type 0
SumsEach k takes fits_v fits_g [] [] = Unit {0}
SumsEach k takes fits_v fits_g [] (s ∷ ss) = ⊥
SumsEach k takes fits_v fits_g (p ∷ ps) [] = ⊥
SumsEach k takes fits_v fits_g (p ∷ ps) (s ∷ ss) = Sums k takes fits_v fits_g p s × SumsEach k takes fits_v fits_g ps ss

-- two summaries that may be joined below a node
abbrev pub Joinable : {V G : Type 0} → (V → ℕ → Type 0) → (G → ℕ → Type 0) → Summary V G → Summary V G → Type 0
Joinable fits_v fits_g (Value l nl) (Value r nr) = (nl + 1 + nr ≤ MAX_ELEMENTS) × fits_v l nl × fits_v r nr
Joinable fits_v fits_g (Hole h nh) (Value r nr) = (nh + 1 + nr ≤ MAX_ELEMENTS) × fits_g h nh × fits_v r nr
Joinable fits_v fits_g (Value l nl) (Hole h nh) = (nl + 1 + nh ≤ MAX_ELEMENTS) × fits_v l nl × fits_g h nh
Joinable fits_v fits_g (Hole g n) (Hole h nh) = ⊥

-- P holds of the node's value
abbrev pub HeadTakes : ((List ℤ) → Type 0) → Head → Type 0
HeadTakes takes (AtEnd a) = takes a
HeadTakes takes (AtStop b) = takes b
HeadTakes takes (AtJoin b) = takes b

-- a node may be put in front of what stands on the stack, its top last
abbrev pub IsReady : {V G : Type 0} → Upward (List ℤ) V G → (V → ℕ → Type 0) → (G → ℕ → Type 0) → Head → List (Summary V G) → Type 0
IsReady k fits_v fits_g (AtEnd a) stack = Unit {0}
IsReady k fits_v fits_g (AtStop b) stack = Unit {0}
IsReady {V} {G} k fits_v fits_g (AtJoin b) stack =
    fits_g (k.phi b) 1 × ((rest : List (Summary V G)) × (l : Summary V G) × (r : Summary V G) × (stack ≡ (rest ++ r ∷ []) ++ l ∷ []) × Joinable fits_v fits_g l r)

-- what the node and those before it give
abbrev pub Fronted : {V G : Type 0} → Upward (List ℤ) V G → Head → List (Summary V G) → List (Summary V G) → Summary V G → Type 0
Fronted k (AtEnd a) before after s = (after ≡ before) × (s ≡ Value (k.leaf a) 1)
Fronted k (AtStop b) before after s = (after ≡ before) × (s ≡ Hole (k.phi b) 1)
Fronted {V} {G} k (AtJoin b) before after s = (l : Summary V G) × (r : Summary V G) × (before ≡ (after ++ r ∷ []) ++ l ∷ []) × (s ≡ joined k b l r)
