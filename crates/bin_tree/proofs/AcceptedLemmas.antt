-- The preorder of trees closes just the places that they take, so none is refused.
use Rattle.std.proofs.Common.{◌≡◌, ℕ, zero, suc, ◌+◌, ◌-◌, ◌<◌, Bool, List, [], ◌∷◌, ◌++◌, length, length-append, map, take, Result, Ok, Err, MatchResult, IsErrAnd, refl, sym, ◌∙◌, ap, arith, append_assoc, inl, inr, subst}
use Rattle.std.proofs.lemmas.Bool.{cases_lt}
use Rattle.std.proofs.lemmas.List.{append-nil, take-append-le, map-append}
use Rattle.std.proofs.Math.Seq.{take-append-add}
use Rattle.bin_tree.specs.Trees.{BTree, Leaf, Node, is_leaf, column, marks_of}
use Rattle.bin_tree.specs.Roses.{Forest, Bare, Plant, RoseTree, trees_of, degree, forest_column, counts_of}
use Rattle.bin_tree.specs.Places.{open_after, IsWhole, arity}
use Rattle.bin_tree.specs.Faults.{IsCause}
use Rattle.bin_tree.specs.declared.fault.TreeFault.{TreeFault}
use Rattle.bin_tree.specs.declared.fault.TreeFault.TheVariants.{Short, Closed, Memory}
use Rattle.bin_tree.proofs.PlaceLemmas.{open_after-none, whole-closed, whole-short}

-- nodes with these numbers of children are those of n trees: they close n places, and the last of them not before the last node
record CloseEach (n : ℕ) (cs : List ℕ) : Type 0 where
  closes : (k : ℕ) (ds : List ℕ) → open_after (n + k) (cs ++ ds) ≡ open_after k ds
  before : (k j : ℕ) → j < length cs → 0 < open_after (n + k) (take j cs)

none : CloseEach 0 []
none = record { closes = λ k ds. ap (λ i. open_after i ds) (let e : 0 + k ≡ k = omega arith in e); before = λ k j h. absurd (omega arith) }

-- trees, and others after them
module _ (m n : ℕ) (cs ds : List ℕ) (first : CloseEach m cs) (second : CloseEach n ds) where
  closes-append : (k : ℕ) (es : List ℕ) → open_after (m + n + k) ((cs ++ ds) ++ es) ≡ open_after k es
  closes-append k es =
      ap (open_after (m + n + k)) (append_assoc cs ds es)
      ∙ ap (λ i. open_after i (cs ++ (ds ++ es))) (let e : m + n + k ≡ m + (n + k) = omega arith in e)
      ∙ first.closes (n + k) (ds ++ es)
      ∙ second.closes k es

  before-first : (k j : ℕ) → j < length cs → 0 < open_after (m + n + k) (take j (cs ++ ds))
  before-first k j h =
      let same = take-append-le j cs ds (omega arith) in
      let p = first.before (n + k) j h in
      let e = ap (λ i. open_after i (take j (cs ++ ds))) (let q : m + n + k ≡ m + (n + k) = omega arith in q) in
      let f = ap (open_after (m + (n + k))) same in omega (arith, p, e, f)

  before-second : (k i : ℕ) → i < length ds → 0 < open_after (m + n + k) (take (length cs + i) (cs ++ ds))
  before-second k i h =
      let e = ap (open_after (m + n + k)) (take-append-add cs ds i) in
      let f = ap (λ x. open_after x (cs ++ take i ds)) (let q : m + n + k ≡ m + (n + k) = omega arith in q) in
      let g = first.closes (n + k) (take i ds) in
      let p = second.before k i h in omega (arith, e, f, g, p)

  before-append : (k j : ℕ) → j < length (cs ++ ds) → 0 < open_after (m + n + k) (take j (cs ++ ds))
  before-append k j h =
      let long = length-append cs ds in
      elim (cases_lt j (length cs)) as (λ _. 0 < open_after (m + n + k) (take j (cs ++ ds))) [
        | inl p ↦ before-first k j p
        | inr q ↦
            let e : j ≡ length cs + (j - length cs) = omega arith in
            let p = before-second k (j - length cs) (omega (arith, h, long, q)) in
            let f = ap (λ x. open_after (m + n + k) (take x (cs ++ ds))) e in omega (arith, p, f)
      ]

  one_after_another : CloseEach (m + n) (cs ++ ds)
  one_after_another = record { closes = closes-append; before = before-append }

-- a node, and the trees of its children after it
module _ (n : ℕ) (cs : List ℕ) (children : CloseEach n cs) where
  before-node : (k j : ℕ) → j < length (n ∷ cs) → 0 < open_after (1 + k) (take j (n ∷ cs))
  before-node k zero h = let e = open_after-none (1 + k) in omega (arith, e)
  before-node k (suc j) h =
      let p = children.before k j (omega arith) in
      let d = ap (λ i. open_after i (n ∷ take j cs)) (let q : 1 + k ≡ suc k = omega arith in q) in
      let e = ap (λ i. open_after i (take j cs)) (let q : k + n ≡ n + k = omega arith in q) in omega (arith, p, d, e)

  with_node : CloseEach 1 (n ∷ cs)
  with_node = record {
    closes = λ k ds.
        ap (λ i. open_after i (n ∷ cs ++ ds)) (let q : 1 + k ≡ suc k = omega arith in q)
        ∙ ap (λ i. open_after i (cs ++ ds)) (let q : k + n ≡ n + k = omega arith in q)
        ∙ children.closes k ds;
    before = before-node;
  }

whole : (cs : List ℕ) → CloseEach 1 cs → IsWhole cs
whole cs one = record {
  closed = ap (open_after 1) (sym (append-nil cs)) ∙ one.closes 0 [];
  first = λ j h. one.before 0 j h;
}

abbrev arities : {A : Type 0} → BTree A → List ℕ
arities t = map arity (column is_leaf t)

one_tree : {A : Type 0} (t : BTree A) → CloseEach 1 (arities t)
one_tree (Leaf a) = with_node 0 [] none
one_tree (Node b l r) =
    let both = one_after_another 1 1 (arities l) (arities r) (one_tree l) (one_tree r) in
    subst (λ cs. CloseEach 1 (2 ∷ cs)) (sym (map-append arity (column is_leaf l) (column is_leaf r))) (with_node 2 (arities l ++ arities r) both)

forest : {A : Type 0} (f : Forest A) → CloseEach (length (trees_of f)) (forest_column degree f)
forest Bare = none
forest (Plant a below after) =
    let counts = length (trees_of below) ∷ forest_column degree below in
    let all = one_after_another 1 (length (trees_of after)) counts (forest_column degree after) (with_node _ _ (forest below)) (forest after) in
    subst (λ n. CloseEach n (counts ++ forest_column degree after)) (let e : 1 + length (trees_of after) ≡ suc (length (trees_of after)) = omega arith in e) all

-- the marks of a tree, and the numbers of children of a rose tree, are whole
pub whole_tree : {A : Type 0} (t : BTree A) → IsWhole (map arity (marks_of t))
whole_tree t = whole (arities t) (one_tree t)

pub whole_rose : {A : Type 0} (r : RoseTree A) → IsWhole (counts_of r)
whole_rose r = whole (counts_of r) (with_node (degree r) (forest_column degree r.below) (forest r.below))

-- a fault that has its cause is want of memory, where the nodes are those of a tree
is_memory : (cs : List ℕ) (fault : TreeFault) → IsWhole cs → IsCause cs fault → fault ≡ Memory
is_memory cs Short w cause = absurd (whole-short cs w cause)
is_memory cs (Closed i) w cause = absurd (whole-closed cs i w cause)
is_memory cs Memory w cause = refl

pub only_memory : {X : Type 0} (cs : List ℕ) (r : Result X TreeFault) (fault : TreeFault) (P : X → Type 0) → IsErrAnd r (λ e. e ≡ fault) → IsCause cs fault → IsWhole cs
    → MatchResult r P (λ f. f ≡ Memory)
only_memory cs (Ok x) fault P e cause w = absurd e
only_memory cs (Err f) fault P e cause w = e ∙ is_memory cs fault w cause
