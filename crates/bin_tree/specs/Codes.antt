-- Trees are told apart by their columns: words on the layout, which no public clause cites.
use Rattle.std.specs.Prelude.{◌≡◌, ℕ, ℤ, Bool, false, List, [], ◌∷◌, ◌++◌, length, refl}
use Rattle.std.specs.Coded.{Coded, code_by, coded×, coded_bool, coded_ℕ, coded_list}
use Rattle.std.proofs.Common.{sym, ◌∙◌, ap, append_assoc}
use Rattle.std.proofs.lemmas.List.{append-nil}
use Rattle.op_laws.specs.Elements.{Elements}
use Rattle.op_laws.specs.contracts.list.List as elements
use Rattle.bin_tree.specs.Trees.{BTree, Leaf, Node, TypedTree, is_leaf, top, column, marks_of, values_of}
use Rattle.bin_tree.specs.Roses.{Forest, Bare, Plant, RoseTree, TypedRose, degree, forest_column, trees_of}
use Rattle.bin_tree.specs.Roses as rose
use Rattle.bin_tree.specs.Columns.{grown, trees_from, first_or, tree_from, first_trees, later_trees, planted, forest_from, rose_from}

-- the trees of a tree's columns and more
pub trees_from-columns : {A : Type 0} (t : BTree A) (ms : List Bool) (vs : List A) → trees_from (column is_leaf t ++ ms) (column top t ++ vs) ≡ t ∷ trees_from ms vs
trees_from-columns (Leaf a) ms vs = refl
trees_from-columns (Node b l r) ms vs =
    ap (grown false b) (
    ap (λ x. trees_from x ((column top l ++ column top r) ++ vs)) (append_assoc (column is_leaf l) (column is_leaf r) ms)
    ∙ ap (trees_from (column is_leaf l ++ (column is_leaf r ++ ms))) (append_assoc (column top l) (column top r) vs)
    ∙ trees_from-columns l (column is_leaf r ++ ms) (column top r ++ vs)
    ∙ ap (λ ts. l ∷ ts) (trees_from-columns r ms vs))

-- a tree is that of its columns
pub tree_from-columns : (t : BTree (List ℤ)) → tree_from (column is_leaf t) (column top t) ≡ t
tree_from-columns t =
    ap (first_or (Leaf [])) (
    ap (λ x. trees_from x (column top t)) (sym (append-nil (column is_leaf t)))
    ∙ ap (trees_from (column is_leaf t ++ [])) (sym (append-nil (column top t)))
    ∙ trees_from-columns t [] [])

pub tree_same : (t : TypedTree) → (let u : TypedTree = record { ty = t.ty; tree = tree_from (marks_of t.tree) (values_of t.tree) } in u) ≡ t
tree_same t = let f : BTree (List ℤ) → TypedTree = λ u. record { ty = t.ty; tree = u } in ap f (tree_from-columns t.tree)

abbrev pub tree_code : Coded TypedTree
tree_code =
    code_by (Elements × List Bool) (coded× elements.the_row.coded (coded_list coded_bool))
    (λ t. (record { ty = t.ty; items = values_of t.tree }, marks_of t.tree))
    (λ c. record { ty = c.0.ty; tree = tree_from c.1 c.0.items })
    tree_same

-- one forest and then another
abbrev pub beside : {A : Type 0} → Forest A → Forest A → Forest A
beside Bare g = g
beside (Plant a below after) g = Plant a below (beside after g)

first_trees-beside : {A : Type 0} (f g : Forest A) → first_trees (length (trees_of f)) (beside f g) ≡ f
first_trees-beside Bare g = refl
first_trees-beside (Plant a below after) g = ap (Plant a below) (first_trees-beside after g)

later_trees-beside : {A : Type 0} (f g : Forest A) → later_trees (length (trees_of f)) (beside f g) ≡ g
later_trees-beside Bare g = refl
later_trees-beside (Plant a below after) g = later_trees-beside after g

-- the forest of a forest's columns and more
pub forest_from-columns : {A : Type 0} (f : Forest A) (cs : List ℕ) (vs : List A)
    → forest_from (forest_column degree f ++ cs) (forest_column (λ s. s.value) f ++ vs) ≡ beside f (forest_from cs vs)
forest_from-columns Bare cs vs = refl
forest_from-columns (Plant a below after) cs vs =
    let n = length (trees_of below) in
    ap (planted n a) (
    ap (λ x. forest_from x ((forest_column (λ s. s.value) below ++ forest_column (λ s. s.value) after) ++ vs)) (append_assoc (forest_column degree below) (forest_column degree after) cs)
    ∙ ap (forest_from (forest_column degree below ++ (forest_column degree after ++ cs))) (append_assoc (forest_column (λ s. s.value) below) (forest_column (λ s. s.value) after) vs)
    ∙ forest_from-columns below (forest_column degree after ++ cs) (forest_column (λ s. s.value) after ++ vs)
    ∙ ap (beside below) (forest_from-columns after cs vs))
    ∙ ap (λ f. Plant a f (later_trees n (beside below (beside after (forest_from cs vs))))) (first_trees-beside below (beside after (forest_from cs vs)))
    ∙ ap (Plant a below) (later_trees-beside below (beside after (forest_from cs vs)))

-- a rose tree is that of its columns
pub rose_from-columns : (r : RoseTree (List ℤ)) → rose_from (rose.counts_of r) (rose.values_of r) ≡ r
rose_from-columns r =
    let first : Forest (List ℤ) → RoseTree (List ℤ) = λ f. record { value = r.value; below = first_trees (degree r) f } in
    let with : Forest (List ℤ) → RoseTree (List ℤ) = λ f. record { value = r.value; below = f } in
    let counts = forest_column degree r.below in
    let values = forest_column (λ s. s.value) r.below in
    ap first (
    ap (λ x. forest_from x values) (sym (append-nil counts))
    ∙ ap (forest_from (counts ++ [])) (sym (append-nil values))
    ∙ forest_from-columns r.below [] [])
    ∙ ap with (first_trees-beside r.below Bare)

pub rose_same : (r : TypedRose) → (let s : TypedRose = record { ty = r.ty; rose = rose_from (rose.counts_of r.rose) (rose.values_of r.rose) } in s) ≡ r
rose_same r = let f : RoseTree (List ℤ) → TypedRose = λ s. record { ty = r.ty; rose = s } in ap f (rose_from-columns r.rose)

abbrev pub rose_code : Coded TypedRose
rose_code =
    code_by (Elements × List ℕ) (coded× elements.the_row.coded (coded_list coded_ℕ))
    (λ r. (record { ty = r.ty; items = rose.values_of r.rose }, rose.counts_of r.rose))
    (λ c. record { ty = c.0.ty; rose = rose_from c.1 c.0.items })
    rose_same
