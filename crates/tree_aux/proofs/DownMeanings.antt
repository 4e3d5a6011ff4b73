-- Values that come down by steps that are the same.
use Rattle.std.proofs.Common.{◌≡◌, ℤ, pos, ◌+ℤ◌, ◌*ℤ◌, List, ◌∷◌, ◌++◌, refl, ap, ◌∙◌, arith}
use Rattle.std.specs.Int.{w64, int_wrap}
use Rattle.std.proofs.lemmas.Int.{ints}
use Rattle.op_laws.specs.Trees.{BTree, Leaf, Node}
use Rattle.op_laws.specs.TreeFolds.{down_by, values_down}
use Rattle.tree_aux.specs.SumTrees.{turns_down, turns_left, turns_right, pre_down, pre_left, pre_right}
use Rattle.tree_aux.specs.WordTrees.{heap_down, heap_left, heap_right}

pub down_by-same : {A X : Type 0} (f f' g g' : X → A → X) → ((x : X) (a : A) → f x a ≡ f' x a) → ((x : X) (a : A) → g x a ≡ g' x a) → (c : X) (t : BTree A) → down_by f g c t ≡ down_by f' g' c t
down_by-same f f' g g' p q c (Leaf a) = refl
down_by-same f f' g g' p q c (Node b l r) =
    let left = down_by-same f f' g g' p q (f c b) l ∙ ap (λ x. down_by f' g' x l) (p c b) in
    let right = down_by-same f f' g g' p q (g c b) r ∙ ap (λ x. down_by f' g' x r) (q c b) in
    ap (λ xs. c ∷ (xs ++ down_by f g (g c b) r)) left ∙ ap (λ xs. c ∷ (down_by f' g' (f' c b) l ++ xs)) right

pub turns_are : (c : ℤ) (t : BTree (List ℤ)) → values_down turns_down c t ≡ down_by turns_left turns_right c t
turns_are c t =
    down_by-same (λ (v : ℤ) (b : List ℤ). turns_down.down v (turns_down.left b)) turns_left (λ (v : ℤ) (b : List ℤ). turns_down.down v (turns_down.right b)) turns_right (λ x a. refl) (λ x a. omega (arith, ints)) c t

pub pre_are : (c : ℤ) (t : BTree (List ℤ)) → values_down pre_down c t ≡ down_by pre_left pre_right c t
pre_are c t =
    down_by-same (λ (v : ℤ) (b : List ℤ). pre_down.down v (pre_down.left b)) pre_left (λ (v : ℤ) (b : List ℤ). pre_down.down v (pre_down.right b)) pre_right (λ x a. refl) (λ x a. omega (arith, ints)) c t

doubled : (c : ℤ) → (pos 2 *ℤ c) +ℤ pos 0 ≡ pos 2 *ℤ c
doubled c = omega (arith, ints)

pub heap_are : (c : ℤ) (t : BTree (List ℤ)) → values_down heap_down c t ≡ down_by heap_left heap_right c t
heap_are c t =
    down_by-same (λ (v : ℤ) (b : List ℤ). heap_down.down v (heap_down.left b)) heap_left (λ (v : ℤ) (b : List ℤ). heap_down.down v (heap_down.right b)) heap_right (λ x a. ap (int_wrap w64) (doubled x)) (λ x a. refl) c t
