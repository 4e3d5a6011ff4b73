-- Trees of one shape with other values, and facts on each value.
use Rattle.std.proofs.Common.{◌≡◌, ℕ, suc, ◌<◌, ◌^◌, Bool, ℤ, List, [], ◌∷◌, ◌++◌, length, take, drop, refl, sym, ◌∙◌, ap, arith}
use Rattle.std.specs.List.{All}
use Rattle.std.proofs.lemmas.List.{length-take, length-drop, take-append-drop}
use Rattle.std.proofs.lemmas.List.Elements.{All-head, All-tail}
use Rattle.op_laws.proofs.FoldLemmas.{All-front, All-back}
use Rattle.bin_tree.specs.Trees.{BTree, Leaf, Node, size, is_leaf, top, column, Each}
use Rattle.bin_tree.specs.Columns.{tree_from, AreColumns, rose_from, AreRoseColumns}
use Rattle.bin_tree.specs.Codes.{tree_from-columns, rose_from-columns}
use Rattle.bin_tree.specs.Roses.{Forest, Bare, Plant, RoseTree, degree, trees_of, forest_size, forest_column, counts_of, TypedRose, IsRoseOf, EachPlanted}
use Rattle.bin_tree.specs.Roses as rose

-- a tree with the marks and the sizes of another, and with these values
pub record IsRefilled {A : Type 0} (t : BTree A) (vs : List A) (u : BTree A) : Type 0 where
  pub size_same : size u ≡ size t
  pub marks : column is_leaf u ≡ column is_leaf t
  pub values : column top u ≡ vs
  pub sizes : column size u ≡ column size t

refilled_node : {A : Type 0} (b v : A) (l r ul ur : BTree A) (xs ys ws : List A) → IsRefilled l xs ul → IsRefilled r ys ur → xs ++ ys ≡ ws → IsRefilled (Node b l r) (v ∷ ws) (Node v ul ur)
refilled_node b v l r ul ur xs ys ws f g e =
    let p = f.size_same in let q = g.size_same in
    let whole : size (Node v ul ur) ≡ size (Node b l r) = omega arith in
    record {
      size_same = whole;
      marks = ap (λ zs. is_leaf (Node b l r) ∷ zs) (ap (λ zs. zs ++ column is_leaf ur) f.marks ∙ ap (λ zs. column is_leaf l ++ zs) g.marks);
      values = ap (λ zs. v ∷ zs) (ap (λ zs. zs ++ column top ur) f.values ∙ ap (λ zs. xs ++ zs) g.values ∙ e);
      sizes = ap (λ n. n ∷ (column size ul ++ column size ur)) whole
          ∙ ap (λ zs. size (Node b l r) ∷ zs) (ap (λ zs. zs ++ column size ur) f.sizes ∙ ap (λ zs. column size l ++ zs) g.sizes);
    }

pub refilled : {A : Type 0} (t : BTree A) (vs : List A) → length vs ≡ size t → (u : BTree A) × IsRefilled t vs u
refilled (Leaf a) [] e = absurd (omega arith)
refilled (Leaf a) (v ∷ []) e = (Leaf v, record { size_same = refl; marks = refl; values = refl; sizes = refl })
refilled (Leaf a) (v ∷ w ∷ vs) e = absurd (omega arith)
refilled (Node b l r) [] e = absurd (omega arith)
refilled (Node b l r) (v ∷ ws) e =
    let (ul, f) = refilled l (take (size l) ws) (let h = length-take (size l) ws in omega arith) in
    let (ur, g) = refilled r (drop (size l) ws) (let h = length-drop (size l) ws in omega arith) in
    (Node v ul ur, refilled_node b v l r ul ur (take (size l) ws) (drop (size l) ws) ws f g (take-append-drop (size l) ws))

-- what holds of each value in preorder holds of each node
pub Each-values : {A : Type 0} (P : A → Type 0) (t : BTree A) → All P (column top t) → Each P t
Each-values P (Leaf a) all = All-head P a [] all
Each-values P (Node b l r) all =
    let rest = All-tail P b (column top l ++ column top r) all in
    (All-head P b (column top l ++ column top r) all, Each-values P l (All-front P (column top l) (column top r) rest), Each-values P r (All-back P (column top l) (column top r) rest))

-- a forest with the numbers of children of another, and with these values
pub record IsReplanted {A : Type 0} (f : Forest A) (vs : List A) (g : Forest A) : Type 0 where
  pub size_same : forest_size g ≡ forest_size f
  pub trees_same : length (trees_of g) ≡ length (trees_of f)
  pub counts : forest_column degree g ≡ forest_column degree f
  pub values : forest_column (λ s. s.value) g ≡ vs

replanted_plant : {A : Type 0} (a v : A) (below after gb ga : Forest A) (xs ys ws : List A) → IsReplanted below xs gb → IsReplanted after ys ga → xs ++ ys ≡ ws
    → IsReplanted (Plant a below after) (v ∷ ws) (Plant v gb ga)
replanted_plant a v below after gb ga xs ys ws f g e =
    let p = f.size_same in let q = g.size_same in let t = g.trees_same in
    record {
      size_same = omega arith;
      trees_same = ap suc g.trees_same;
      counts = ap (λ n. n ∷ (forest_column degree gb ++ forest_column degree ga)) f.trees_same
          ∙ ap (λ zs. length (trees_of below) ∷ zs) (ap (λ zs. zs ++ forest_column degree ga) f.counts ∙ ap (λ zs. forest_column degree below ++ zs) g.counts);
      values = ap (λ zs. v ∷ zs) (ap (λ zs. zs ++ forest_column (λ s. s.value) ga) f.values ∙ ap (λ zs. xs ++ zs) g.values ∙ e);
    }

pub replanted : {A : Type 0} (f : Forest A) (vs : List A) → length vs ≡ forest_size f → (g : Forest A) × IsReplanted f vs g
replanted Bare [] e = (Bare, record { size_same = refl; trees_same = refl; counts = refl; values = refl })
replanted Bare (v ∷ vs) e = absurd (omega arith)
replanted (Plant a below after) [] e = absurd (omega arith)
replanted (Plant a below after) (v ∷ ws) e =
    let n = forest_size below in
    let (gb, f) = replanted below (take n ws) (let h = length-take n ws in omega arith) in
    let (ga, g) = replanted after (drop n ws) (let h = length-drop n ws in omega arith) in
    (Plant v gb ga, replanted_plant a v below after gb ga (take n ws) (drop n ws) ws f g (take-append-drop n ws))

EachPlanted-values : {A : Type 0} (P : A → Type 0) (f : Forest A) → All P (forest_column (λ s. s.value) f) → EachPlanted P f
EachPlanted-values P Bare all = tt
EachPlanted-values P (Plant a below after) all =
    let xs = forest_column (λ s. s.value) below in let ys = forest_column (λ s. s.value) after in
    let rest = All-tail P a (xs ++ ys) all in
    (All-head P a (xs ++ ys) all, EachPlanted-values P below (All-front P xs ys rest), EachPlanted-values P after (All-back P xs ys rest))

pub Each-rose_values : {A : Type 0} (P : A → Type 0) (r : RoseTree A) → All P (rose.values_of r) → rose.Each P r
Each-rose_values P r all =
    let xs = forest_column (λ s. s.value) r.below in
    (All-head P r.value xs all, EachPlanted-values P r.below (All-tail P r.value xs all))

-- the marks and the sizes of a tree, with as many other values, are the columns of a tree
pub reshaped : (t : BTree (List ℤ)) (ms : List Bool) (vs : List (List ℤ)) (ss : List ℕ) → ms ≡ column is_leaf t → ss ≡ column size t → size t < 2 ^ 32 → length vs ≡ size t
    → AreColumns (tree_from ms vs) ms vs ss
reshaped t ms vs ss e g few n =
    let (u, f) = refilled t vs n in
    let marks : ms ≡ column is_leaf u = e ∙ sym f.marks in
    let values : vs ≡ column top u = sym f.values in
    let is : tree_from ms vs ≡ u = ap (λ x. tree_from x vs) marks ∙ ap (tree_from (column is_leaf u)) values ∙ tree_from-columns u in
    let back = sym is in
    let many = ap size is in let same = f.size_same in
    record {
      marks = marks ∙ ap (column is_leaf) back;
      values = values ∙ ap (column top) back;
      sizes = g ∙ sym f.sizes ∙ ap (column size) back;
      few = omega arith;
    }

-- the same of the numbers of children of a rose tree
pub rose_reshaped : (r : RoseTree (List ℤ)) (cs : List ℕ) (vs : List (List ℤ)) → cs ≡ rose.counts_of r → rose.size r < 2 ^ 31 → length vs ≡ rose.size r → AreRoseColumns (rose_from cs vs) cs vs
rose_reshaped r cs [] e few n = absurd (omega arith)
rose_reshaped r cs (v ∷ vs) e few n =
    let (g, f) = replanted r.below vs (omega arith) in
    let u : RoseTree (List ℤ) = record { value = v; below = g } in
    let counts : cs ≡ rose.counts_of u =
    e ∙ sym (ap (λ n. n ∷ forest_column degree g) f.trees_same ∙ ap (λ xs. length (trees_of r.below) ∷ xs) f.counts) in
    let values : v ∷ vs ≡ rose.values_of u = ap (λ xs. v ∷ xs) (sym f.values) in
    let is : rose_from cs (v ∷ vs) ≡ u = ap (λ x. rose_from x (v ∷ vs)) counts ∙ ap (rose_from (rose.counts_of u)) values ∙ rose_from-columns u in
    let back = sym is in
    let many = ap rose.size is in let same = f.size_same in
    record { counts = counts ∙ ap rose.counts_of back; values = values ∙ ap rose.values_of back; few = omega arith }
