-- Rose trees, and what stands at the places of their preorder.
use Rattle.std.specs.Prelude.{ℕ, zero, suc, ◌+◌, ◌-◌, cond, nat_lt, List, [], ◌∷◌, ◌++◌, length}

-- rose trees side by side: none, or a first one, with its value and the trees below it, and those after it
pub data Forest (A : Type 0) : Type 0 where
  Bare : Forest A
  Plant : A → Forest A → Forest A → Forest A

-- a value with rose trees below it
pub record RoseTree (A : Type 0) : Type 0 where
  pub value : A
  pub below : Forest A

-- the rose trees of a forest, one after another
abbrev pub trees_of : {A : Type 0} → Forest A → List (RoseTree A)
trees_of Bare = []
trees_of (Plant a below after) = record { value = a; below = below } ∷ trees_of after

-- the children of the root
abbrev pub children_of : {A : Type 0} → RoseTree A → List (RoseTree A)
children_of r = trees_of r.below

-- how many children the root has
abbrev pub degree : {A : Type 0} → RoseTree A → ℕ
degree r = length (children_of r)

-- how many nodes a forest has
abbrev pub forest_size : {A : Type 0} → Forest A → ℕ
forest_size Bare = 0
forest_size (Plant a below after) = 1 + forest_size below + forest_size after

-- how many nodes there are
abbrev pub size : {A : Type 0} → RoseTree A → ℕ
size r = 1 + forest_size r.below

-- the tree in a forest whose root has this place in the preorder, or `other` where there is none
abbrev pub planted_at : {A : Type 0} → RoseTree A → Forest A → ℕ → RoseTree A
planted_at other Bare i = other
planted_at other (Plant a below after) zero = record { value = a; below = below }
planted_at other (Plant a below after) (suc i) =
    cond (nat_lt i (forest_size below)) (planted_at other below i) (planted_at other after (i - forest_size below))

-- the subtree whose root has this place in the preorder, from 0 on
abbrev pub sub_at : {A : Type 0} → RoseTree A → ℕ → RoseTree A
sub_at r zero = r
sub_at r (suc i) = planted_at r r.below i

-- what f says of each tree in a forest, in preorder of their roots
abbrev pub forest_column : {A X : Type 0} → (RoseTree A → X) → Forest A → List X
forest_column f Bare = []
forest_column f (Plant a below after) =
    f (record { value = a; below = below }) ∷ (forest_column f below ++ forest_column f after)

-- what f says of each subtree, in preorder of their roots
abbrev pub column : {A X : Type 0} → (RoseTree A → X) → RoseTree A → List X
column f r = f r ∷ forest_column f r.below

-- the numbers of children in preorder
abbrev pub counts_of : {A : Type 0} → RoseTree A → List ℕ
counts_of r = column degree r

-- the values in preorder
abbrev pub values_of : {A : Type 0} → RoseTree A → List A
values_of r = column (λ s. s.value) r

-- P holds of the value of each node in a forest
abbrev pub EachPlanted : {A : Type 0} → (A → Type 0) → Forest A → Type 0
EachPlanted P Bare = Unit {0}
EachPlanted P (Plant a below after) = P a × EachPlanted P below × EachPlanted P after

-- P holds of the value of each node
abbrev pub Each : {A : Type 0} → (A → Type 0) → RoseTree A → Type 0
Each P r = P r.value × EachPlanted P r.below
