-- Sections found by their names, and shapes that are compared column by column.
use Rattle.std.proofs.Common.{◌≡◌, ◌∙◌, ◌+◌, arith, ℕ, suc, List, [], ◌∷◌, length, map, Option, Some, None, Bool, true, false, cond, not, nat_lt, ap, refl, sym, subst}
use Rattle.std.specs.Prelude.{◌↔◌, ◌==◌, ℤ, bytes_eq, if◌then◌else◌, option_map, slice_index_or}
use Rattle.std.specs.Bool.{Decides}
use Rattle.std.specs.List.{position_or_len}
use Rattle.std.proofs.lemmas.Bool.{false≢true, and_parts, and_from, eqb-true, eq-eqb}
use Rattle.std.proofs.lemmas.Bool.Decides.{same_from_decides}
use lib.Dec.{leb-suc-suc, leb-zero}
use Rattle.bin_tree.specs.Trees as binary
use Rattle.bin_tree.specs.Roses as roses
use Rattle.data_text.specs.declared.value.Value.{Value}
use Rattle.data_text.specs.declared.value.Value.TheVariants as value
use Rattle.data_text.specs.declared.value.Named.{Named}
use Rattle.data_text.specs.Data.{Mark, inner, leaf, Content}
use Rattle.data_text.specs.Named.{content_of, section_of, place_of, mark_of_leaf, node_of, rose_node_of}
use Rattle.data_text.proofs.NamedLemmas.{column-map, rose_column-map}
use Rattle.fuse_rewrite.specs.Meaning.{content_under}
use Rattle.script_run.specs.Fit.{same_mark, same_marks, same_counts, same_shape}

-- ---- sections

-- the content at a place, if there is one
abbrev pub content_in : List Named → Named → Option ℕ → Option Content
content_in sections d place = option_map (λ i. content_of (slice_index_or sections i d).value) place

later : (x : Named) (xs : List Named) (d : Named) (k : ℕ) (here : Bool) → content_in (x ∷ xs) d (cond here (Some (suc k)) None) ≡ content_in xs d (cond here (Some k) None)
later x xs d k true = refl
later x xs d k false = refl

one_more : (b : Bool) (x : Named) (xs : List Named) (d : Named) (k : ℕ) (rest : Option Content) → content_in xs d (cond (nat_lt k (length xs)) (Some k) None) ≡ rest
    → content_in (x ∷ xs) d (cond (nat_lt (cond (not b) (1 + k) 0) (suc (length xs))) (Some (cond (not b) (1 + k) 0)) None) ≡ (if b then Some (content_of x.value) else rest)
one_more true x xs d k rest e = ap (λ here. content_in (x ∷ xs) d (cond here (Some 0) None)) (leb-suc-suc 0 (length xs) ∙ leb-zero (length xs))
one_more false x xs d k rest e =
    let next : 1 + k ≡ suc k = omega arith in
    ap (λ j. content_in (x ∷ xs) d (cond (nat_lt j (suc (length xs))) (Some j) None)) next
    ∙ ap (λ here. content_in (x ∷ xs) d (cond here (Some (suc k)) None)) (leb-suc-suc (suc k) (length xs))
    ∙ (later x xs d k (nat_lt k (length xs)) ∙ e)

-- what stands at the place of a name is what the data has under it
content-place : (name : List ℕ) (xs : List Named) (d : Named) → content_in xs d (place_of name xs) ≡ content_under name (map section_of xs)
content-place name [] d = refl
content-place name (x ∷ xs) d = one_more (bytes_eq x.name name) x xs d (position_or_len (λ s. bytes_eq s.name name) xs) (content_under name (map section_of xs)) (content-place name xs d)

-- where there is a place
pub content-found : (name : List ℕ) (xs : List Named) (i : ℕ) (d : Named) → Some i ≡ place_of name xs → d ≡ slice_index_or xs i d → Some (content_of d.value) ≡ content_under name (map section_of xs)
content-found name xs i d place at = ap (λ (v : Named). Some (content_of v.value)) at ∙ ap (content_in xs d) place ∙ content-place name xs d

-- where there is none
pub content-missing : (name : List ℕ) (xs : List Named) → None ≡ place_of name xs → None ≡ content_under name (map section_of xs)
content-missing name [] place = refl
content-missing name (x ∷ xs) place = ap (content_in (x ∷ xs) x) place ∙ content-place name (x ∷ xs) x

-- ---- marks

mark_is : (m n : Mark) → Decides (same_mark m n) (m ≡ n)
mark_is inner inner = (λ e. refl, λ e. refl)
mark_is leaf leaf = (λ e. refl, λ e. refl)
mark_is inner leaf = (λ e. absurd (false≢true e), λ e. let no : ⊥ = cc in absurd no)
mark_is leaf inner = (λ e. absurd (false≢true e), λ e. let no : ⊥ = cc in absurd no)

-- the marks are compared, and nothing else
marks_are : (ms ns : List (Mark × ℤ)) → Decides (same_marks ms ns) (map (λ n. n.0) ms ≡ map (λ n. n.0) ns)
marks_are [] [] = (λ e. refl, λ e. refl)
marks_are [] (n ∷ ns) = (λ e. absurd (false≢true e), λ e. let no : ⊥ = cc in absurd no)
marks_are (m ∷ ms) [] = (λ e. absurd (false≢true e), λ e. let no : ⊥ = cc in absurd no)
marks_are (m ∷ ms) (n ∷ ns) = (
  λ e. let p = and_parts (same_mark m.0 n.0) (same_marks ms ns) e in
      let here : m.0 ≡ n.0 = (mark_is m.0 n.0).0 p.0 in
      let there : map (λ n. n.0) ms ≡ map (λ n. n.0) ns = (marks_are ms ns).0 p.1 in cc,
  λ e. let here : m.0 ≡ n.0 = cc in
      let there : map (λ n. n.0) ms ≡ map (λ n. n.0) ns = cc in
      and_from (same_mark m.0 n.0) (same_marks ms ns) ((mark_is m.0 n.0).1 here) ((marks_are ms ns).1 there),
)

leaf_is : (a b : Bool) → mark_of_leaf a ≡ mark_of_leaf b → a ≡ b
leaf_is true true e = refl
leaf_is false false e = refl
leaf_is true false e = let no : ⊥ = cc in absurd no
leaf_is false true e = let no : ⊥ = cc in absurd no

leaves_are : (xs ys : List Bool) → map mark_of_leaf xs ≡ map mark_of_leaf ys → xs ≡ ys
leaves_are [] [] e = refl
leaves_are [] (y ∷ ys) e = let no : ⊥ = cc in absurd no
leaves_are (x ∷ xs) [] e = let no : ⊥ = cc in absurd no
leaves_are (x ∷ xs) (y ∷ ys) e =
    let first : mark_of_leaf x ≡ mark_of_leaf y = cc in
    let rest : map mark_of_leaf xs ≡ map mark_of_leaf ys = cc in
    let here : x ≡ y = leaf_is x y first in
    let there : xs ≡ ys = leaves_are xs ys rest in cc

marks_in : (t : binary.BTree (List ℤ)) → map (λ n. n.0) (binary.column node_of t) ≡ map mark_of_leaf (binary.marks_of t)
marks_in t = sym (column-map (λ (n : Mark × ℤ). n.0) node_of t) ∙ column-map mark_of_leaf binary.is_leaf t

-- trees have the same marks
pub tree_shape : (t u : binary.BTree (List ℤ)) (r : Bool) → ((r ≡ true) ↔ (binary.marks_of t ≡ binary.marks_of u)) → r ≡ same_marks (binary.column node_of t) (binary.column node_of u)
tree_shape t u r is =
    let test = marks_are (binary.column node_of t) (binary.column node_of u) in
    let same : Decides (same_marks (binary.column node_of t) (binary.column node_of u)) (binary.marks_of t ≡ binary.marks_of u) = (
      λ e. leaves_are (binary.marks_of t) (binary.marks_of u) (sym (marks_in t) ∙ (test.0 e ∙ marks_in u)),
      λ e. test.1 (marks_in t ∙ (ap (λ (xs : List Bool). map mark_of_leaf xs) e ∙ sym (marks_in u))),
    ) in
    same_from_decides r (same_marks (binary.column node_of t) (binary.column node_of u)) (is.0, is.1) same

-- ---- numbers of children

counts_are : (ms ns : List (ℤ × ℕ)) → Decides (same_counts ms ns) (map (λ n. n.1) ms ≡ map (λ n. n.1) ns)
counts_are [] [] = (λ e. refl, λ e. refl)
counts_are [] (n ∷ ns) = (λ e. absurd (false≢true e), λ e. let no : ⊥ = cc in absurd no)
counts_are (m ∷ ms) [] = (λ e. absurd (false≢true e), λ e. let no : ⊥ = cc in absurd no)
counts_are (m ∷ ms) (n ∷ ns) = (
  λ e. let p = and_parts (m.1 == n.1) (same_counts ms ns) e in
      let here : m.1 ≡ n.1 = eqb-true m.1 n.1 p.0 in
      let there : map (λ n. n.1) ms ≡ map (λ n. n.1) ns = (counts_are ms ns).0 p.1 in cc,
  λ e. let here : m.1 ≡ n.1 = cc in
      let there : map (λ n. n.1) ms ≡ map (λ n. n.1) ns = cc in
      and_from (m.1 == n.1) (same_counts ms ns) (eq-eqb m.1 n.1 here) ((counts_are ms ns).1 there),
)

counts_in : (r : roses.RoseTree (List ℤ)) → map (λ n. n.1) (roses.column rose_node_of r) ≡ roses.counts_of r
counts_in r = sym (rose_column-map (λ (n : ℤ × ℕ). n.1) rose_node_of r)

-- rose trees have the same numbers of children
pub rose_shape : (q r : roses.RoseTree (List ℤ)) (b : Bool) → ((b ≡ true) ↔ (roses.counts_of q ≡ roses.counts_of r)) → b ≡ same_counts (roses.column rose_node_of q) (roses.column rose_node_of r)
rose_shape q r b is =
    let test = counts_are (roses.column rose_node_of q) (roses.column rose_node_of r) in
    let same : Decides (same_counts (roses.column rose_node_of q) (roses.column rose_node_of r)) (roses.counts_of q ≡ roses.counts_of r) =
    (λ e. sym (counts_in q) ∙ (test.0 e ∙ counts_in r), λ e. test.1 (counts_in q ∙ (e ∙ sym (counts_in r)))) in
    same_from_decides b (same_counts (roses.column rose_node_of q) (roses.column rose_node_of r)) (is.0, is.1) same

-- ---- values

pub tree_values : (a b : Value) (x y : binary.TypedTree) (r : Bool) → a ≡ value.Tree x → b ≡ value.Tree y → ((r ≡ true) ↔ (binary.marks_of x.tree ≡ binary.marks_of y.tree)) → r ≡ same_shape (content_of a) (content_of b)
tree_values a b x y r e f is =
    subst (λ (v : Value). r ≡ same_shape (content_of v) (content_of b)) (sym e)
    (subst (λ (v : Value). r ≡ same_shape (content_of (value.Tree x)) (content_of v)) (sym f) (tree_shape x.tree y.tree r is))

pub rose_values : (a b : Value) (x y : roses.TypedRose) (r : Bool) → a ≡ value.Rose x → b ≡ value.Rose y → ((r ≡ true) ↔ (roses.counts_of x.rose ≡ roses.counts_of y.rose)) → r ≡ same_shape (content_of a) (content_of b)
rose_values a b x y r e f is =
    subst (λ (v : Value). r ≡ same_shape (content_of v) (content_of b)) (sym e)
    (subst (λ (v : Value). r ≡ same_shape (content_of (value.Rose x)) (content_of v)) (sym f) (rose_shape x.rose y.rose r is))
