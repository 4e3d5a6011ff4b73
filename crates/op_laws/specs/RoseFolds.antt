-- What is made of a rose tree from its leaves up, and what comes down it from its root.
use Rattle.std.specs.Prelude.{◌≡◌, ℤ, List, [], ◌∷◌, ◌++◌}
use Rattle.op_laws.specs.declared.width.Width.{Width}
use Rattle.op_laws.specs.Admits.{Admits}
use Rattle.op_laws.specs.Roses.{Forest, Bare, Plant, RoseTree, Each}
use Rattle.op_laws.specs.TreeFolds.{Upward, Downward}

-- of each tree in a forest, `node` of its root's value and what is made of its children
abbrev pub folds_by : {A X : Type 0} → (A → List X → X) → Forest A → List X
folds_by node Bare = []
folds_by node (Plant a below after) = node a (folds_by node below) ∷ folds_by node after

-- `node` of the root's value and what is made of its children
abbrev pub fold_by : {A X : Type 0} → (A → List X → X) → RoseTree A → X
fold_by node r = node r.value (folds_by node r.below)

-- at each node of a forest, in preorder: c at each root, and what `step` makes of a node's own for its children
abbrev pub downs_by : {A X : Type 0} → (X → A → X) → X → Forest A → List X
downs_by step c Bare = []
downs_by step c (Plant a below after) = c ∷ (downs_by step (step c a) below ++ downs_by step c after)

-- at each node, in preorder: c at the root
abbrev pub down_by : {A X : Type 0} → (X → A → X) → X → RoseTree A → List X
down_by step c r = c ∷ downs_by step (step c r.value) r.below

-- the value of a forest, where `nothing` is that of no tree: its first root between the trees below it and the trees after it
abbrev pub fold_forest : {A V G : Type 0} → Upward A V G → V → Forest A → V
fold_forest k nothing Bare = nothing
fold_forest k nothing (Plant a below after) = k.node (fold_forest k nothing below) (k.phi a) (fold_forest k nothing after)

-- the value of a rose tree is that of the forest that it is alone
abbrev pub fold_rose : {A V G : Type 0} → Upward A V G → V → RoseTree A → V
fold_rose k nothing r = k.node (fold_forest k nothing r.below) (k.phi r.value) nothing

-- the values at the nodes in preorder, with c at the root: each child gets what its parent's step to the left gives
abbrev pub rose_values_down : {A V D : Type 0} → Downward A V D → V → RoseTree A → List V
rose_values_down k c r = down_by (λ v b. k.down v (k.left b)) c r

-- for each rose tree the finished fold is what `value` says of the whole tree
pub record ReducesRose {V G : Type 0} (takes : List Width → Type 0) (finished : V → List ℤ) (nothing : V) (k : Upward (List ℤ) V G) (value : RoseTree (List ℤ) → List ℤ) : Type 0 where
  pub whole : (ty : List Width) (r : RoseTree (List ℤ)) → takes ty → Each (Admits ty) r → finished (fold_rose k nothing r) ≡ value r
