-- Trees of the same shape.
use Rattle.std.proofs.Common.{◌≡◌, ℤ, Bool, List, [], ◌∷◌, ◌++◌, map, length, refl, sym, ◌∙◌, ap, arith, false, Some, Result, Ok, Err, IfOk}
use Rattle.std.proofs.lemmas.List.{map-append}
use Rattle.op_laws.specs.Trees.{BTree, Leaf, Node, size, marks_of, values_of, top, is_leaf}
use Rattle.op_laws.specs.TreeSkeletons.{zipped, with_children, KeepsShape}
use Rattle.bin_tree.specs.Codes.{tree_from-columns}
use Rattle.bin_tree.specs.Columns.{tree_from}
use Rattle.bin_tree.proofs.TreeLemmas.{length-column}
use Rattle.op_laws.specs.Lists.{zipped as zipped_list}
use Rattle.tree_accumulate.proofs.Elements.{zipped-append}

-- a tree is known by its marks and its values
pub same_columns : (t u : BTree (List ℤ)) → marks_of t ≡ marks_of u → values_of t ≡ values_of u → t ≡ u
same_columns t u m v = sym (tree_from-columns t) ∙ ap (λ ms. tree_from ms (values_of t)) m ∙ ap (tree_from (marks_of u)) v ∙ tree_from-columns u

-- so is one that keeps a shape
pub kept_is : {A : Type 0} (t : BTree A) (z u : BTree (List ℤ)) (said : List (List ℤ)) → KeepsShape t z said → marks_of u ≡ marks_of t → values_of u ≡ said → u ≡ z
kept_is t z u said k m v = same_columns u z (m ∙ sym k.marks) (v ∙ sym k.values)

-- the tree with no component at any node
abbrev bare : BTree (List ℤ) → BTree (List ℤ)
bare (Leaf a) = Leaf []
bare (Node b l r) = Node [] (bare l) (bare r)

abbrev left_of : BTree (List ℤ) → BTree (List ℤ)
left_of (Leaf a) = Leaf a
left_of (Node b l r) = l

abbrev right_of : BTree (List ℤ) → BTree (List ℤ)
right_of (Leaf a) = Leaf a
right_of (Node b l r) = r

marks-bare : (t : BTree (List ℤ)) → marks_of (bare t) ≡ marks_of t
marks-bare (Leaf a) = refl
marks-bare (Node b l r) = ap (λ ms. false ∷ (ms ++ marks_of (bare r))) (marks-bare l) ∙ ap (λ ms. false ∷ (marks_of l ++ ms)) (marks-bare r)

abbrev nothing : Bool → List ℤ
nothing m = []

values-bare : (t : BTree (List ℤ)) → values_of (bare t) ≡ map nothing (marks_of t)
values-bare (Leaf a) = refl
values-bare (Node b l r) =
    ap (λ vs. [] ∷ (vs ++ values_of (bare r))) (values-bare l)
    ∙ ap (λ vs. [] ∷ (map nothing (marks_of l) ++ vs)) (values-bare r)
    ∙ ap (λ vs. [] ∷ vs) (sym (map-append nothing (marks_of l) (marks_of r)))

-- trees with the same marks are the same where there are no components
bare_same : (t u : BTree (List ℤ)) → marks_of t ≡ marks_of u → bare t ≡ bare u
bare_same t u m = same_columns (bare t) (bare u) (marks-bare t ∙ m ∙ sym (marks-bare u)) (values-bare t ∙ ap (map nothing) m ∙ sym (values-bare u))

size-bare : (t : BTree (List ℤ)) → size (bare t) ≡ size t
size-bare (Leaf a) = refl
size-bare (Node b l r) = let x = size-bare l in let y = size-bare r in omega arith

same_size : (t u : BTree (List ℤ)) → bare t ≡ bare u → size t ≡ size u
same_size t u e = sym (size-bare t) ∙ ap size e ∙ size-bare u

-- the tree of the joined elements
pub record IsZip (t u z : BTree (List ℤ)) : Type 0 where
  pub is : zipped (λ a b. a ++ b) t u ≡ Some z
  pub marks : marks_of z ≡ marks_of t
  pub values : values_of z ≡ zipped_list (values_of t) (values_of u)

zips : (t u : BTree (List ℤ)) → bare t ≡ bare u → (z : BTree (List ℤ)) × IsZip t u z
zips (Leaf a) (Leaf b) e = (Leaf (a ++ b), record { is = refl; marks = refl; values = refl })
zips (Leaf a) (Node c x y) e = absurd (cc)
zips (Node b l r) (Leaf a) e = absurd (cc)
zips (Node b l r) (Node c x y) e =
    let (z, p) = zips l x (ap left_of e) in
    let (w, q) = zips r y (ap right_of e) in
    let long = length-column top l ∙ same_size l x (ap left_of e) ∙ sym (length-column top x) in (
      Node (b ++ c) z w,
      record {
        is = ap (λ o. with_children (b ++ c) o (zipped (λ a d. a ++ d) r y)) p.is ∙ ap (λ o. with_children (b ++ c) (Some z) o) q.is;
        marks = ap (λ ms. false ∷ (ms ++ marks_of w)) p.marks ∙ ap (λ ms. false ∷ (marks_of l ++ ms)) q.marks;
        values = ap (λ vs. (b ++ c) ∷ (vs ++ values_of w)) p.values
            ∙ ap (λ vs. (b ++ c) ∷ (zipped_list (values_of l) (values_of x) ++ vs)) q.values
            ∙ ap (λ vs. (b ++ c) ∷ vs) (sym (zipped-append (values_of l) (values_of x) (values_of r) (values_of y) long));
      },
    )

-- trees of the same shape are joined to the tree of these marks and these values
pub zip_is : (t u v : BTree (List ℤ)) → marks_of t ≡ marks_of u → marks_of v ≡ marks_of t → values_of v ≡ zipped_list (values_of t) (values_of u) → zipped (λ a b. a ++ b) t u ≡ Some v
zip_is t u v same m e =
    let (z, p) = zips t u (bare_same t u same) in
    p.is ∙ ap (λ x. Some x) (same_columns z v (p.marks ∙ sym m) (p.values ∙ sym e))

pub zip_long : (t u : BTree (List ℤ)) → marks_of t ≡ marks_of u → length (values_of t) ≡ length (values_of u)
zip_long t u same = length-column top t ∙ same_size t u (bare_same t u same) ∙ sym (length-column top u)

pub zip_length : (t u : BTree (List ℤ)) → marks_of t ≡ marks_of u → length (zipped_list (values_of t) (values_of u)) ≡ size t
zip_length t u same =
    let (z, p) = zips t u (bare_same t u same) in
    ap length (sym p.values) ∙ length-column top z ∙ sym (length-column is_leaf z) ∙ ap length p.marks ∙ length-column is_leaf t

pub if_ok : {T E : Type 0} {A B : T → Type 0} (r : Result T E) → ((v : T) → A v → B v) → IfOk r A → IfOk r B
if_ok (Ok x) f h = f x h
if_ok (Err e) f h = h
