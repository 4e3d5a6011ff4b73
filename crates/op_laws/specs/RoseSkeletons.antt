-- The skeletons on whole rose trees, by recursion on the tree, with what functions and operators mean as arguments.
use Rattle.std.specs.Prelude.{◌≡◌, ℕ, ◌+◌, List, [], ◌∷◌, Option, Some, None, refl}
use Rattle.op_laws.specs.Roses.{Forest, Bare, Plant, RoseTree}
use Rattle.op_laws.specs.RoseFolds.{fold_by, folds_by}

-- a value, and trees one after another, as a rose tree
abbrev pub planted : {A : Type 0} → List (RoseTree A) → Forest A
planted [] = Bare
planted (r ∷ rs) = Plant r.value r.below (planted rs)

abbrev pub rose_with : {A : Type 0} → A → List (RoseTree A) → RoseTree A
rose_with a rs = record { value = a; below = planted rs }

-- the same function at each node
abbrev pub forest_mapped : {A B : Type 0} → (A → B) → Forest A → Forest B
forest_mapped f Bare = Bare
forest_mapped f (Plant a below after) = Plant (f a) (forest_mapped f below) (forest_mapped f after)

abbrev pub mapped : {A B : Type 0} → (A → B) → RoseTree A → RoseTree B
mapped f r = record { value = f r.value; below = forest_mapped f r.below }

abbrev pub planted_with : {A : Type 0} → A → Option (Forest A) → Option (Forest A) → Option (Forest A)
planted_with a (Some below) (Some after) = Some (Plant a below after)
planted_with a x y = None

abbrev pub rose_of : {A : Type 0} → A → Option (Forest A) → Option (RoseTree A)
rose_of a (Some below) = Some (record { value = a; below = below })
rose_of a None = None

-- node by node, where the trees have the same shape
abbrev pub forests_zipped : {A B C : Type 0} → (A → B → C) → Forest A → Forest B → Option (Forest C)
forests_zipped f Bare Bare = Some Bare
forests_zipped f Bare (Plant b x y) = None
forests_zipped f (Plant a below after) Bare = None
forests_zipped f (Plant a below after) (Plant b x y) = planted_with (f a b) (forests_zipped f below x) (forests_zipped f after y)

abbrev pub zipped : {A B C : Type 0} → (A → B → C) → RoseTree A → RoseTree B → Option (RoseTree C)
zipped f r s = rose_of (f r.value s.value) (forests_zipped f r.below s.below)

-- at each node what its subtree comes to
abbrev pub forest_put_up : {A X : Type 0} → (A → List X → X) → Forest A → Forest X
forest_put_up node Bare = Bare
forest_put_up node (Plant a below after) = Plant (node a (folds_by node below)) (forest_put_up node below) (forest_put_up node after)

abbrev pub put_up : {A X : Type 0} → (A → List X → X) → RoseTree A → RoseTree X
put_up node r = record { value = fold_by node r; below = forest_put_up node r.below }

-- c at each root, and at the children what `step` makes of a node's own
abbrev pub forest_put_down : {A X : Type 0} → (X → A → X) → X → Forest A → Forest X
forest_put_down step c Bare = Bare
forest_put_down step c (Plant a below after) = Plant c (forest_put_down step (step c a) below) (forest_put_down step c after)

abbrev pub put_down : {A X : Type 0} → (X → A → X) → X → RoseTree A → RoseTree X
put_down step c r = record { value = c; below = forest_put_down step (step c r.value) r.below }

-- worked rows: 1 with the children 2 and 3, and 4 below 3

abbrev four : RoseTree ℕ
four = rose_with 1 (rose_with 2 [] ∷ rose_with 3 (rose_with 4 [] ∷ []) ∷ [])

abbrev sum : List ℕ → ℕ
sum [] = 0
sum (x ∷ xs) = x + sum xs

sums : put_up (λ a xs. a + sum xs) four ≡ rose_with 10 (rose_with 2 [] ∷ rose_with 7 (rose_with 4 [] ∷ []) ∷ [])
sums = refl

depths : put_down (λ c a. c + 1) 0 four ≡ rose_with 0 (rose_with 1 [] ∷ rose_with 1 (rose_with 2 [] ∷ []) ∷ [])
depths = refl

doubles : mapped (λ a. a + a) four ≡ rose_with 2 (rose_with 4 [] ∷ rose_with 6 (rose_with 8 [] ∷ []) ∷ [])
doubles = refl
