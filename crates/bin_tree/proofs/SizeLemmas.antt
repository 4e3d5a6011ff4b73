-- The sizes of the subtrees, from the last place to the first.
use Rattle.std.proofs.Common.{◌≡◌, ℕ, ◌+◌, ◌<◌, ◌≤◌, ℤ, Bool, true, false, List, length, get_or, set, sym, ◌∙◌, ap, arith, inl, inr}
use Rattle.std.proofs.lemmas.Bool.{cases_eq}
use Rattle.std.proofs.lemmas.List.{length-set, get_or-set_same, get_or-set_other, ext_get_or}
use Rattle.bin_tree.specs.Trees.{BTree, size, is_leaf, sub_at, column, marks_of}
use Rattle.bin_tree.specs.Columns.{IsSizedFrom}
use Rattle.bin_tree.proofs.TreeLemmas.{length-column, get_or-column, node_at, size-leaf, size_pos}

module _ (t : BTree (List ℤ)) (ms : List Bool) where
  length-marks : marks_of t ≡ ms → length ms ≡ size t
  length-marks e = ap length (sym e) ∙ length-column is_leaf t

  mark_at : marks_of t ≡ ms → (i : ℕ) (m : Bool) → i < length ms → get_or ms i false ≡ m → is_leaf (sub_at t i) ≡ m
  mark_at e i m h g = let l = length-marks e in sym (get_or-column is_leaf t i false (omega arith)) ∙ (ap (λ xs. get_or xs i false) e ∙ g)

  -- at first no size is known
  pub sized_none : (ss : List ℕ) → marks_of t ≡ ms → length ss ≡ length ms → IsSizedFrom t ms (length ms) ss
  sized_none ss e n = let l = length-marks e in record { marks = e; len = n ∙ l; known = λ k p q. absurd (omega arith) }

  -- then one more
  pub sized_more : (i v : ℕ) (ss : List ℕ) → i < length ms → v ≡ size (sub_at t i) → IsSizedFrom t ms (i + 1) ss → IsSizedFrom t ms i (set ss i v)
  sized_more i v ss h e s =
      let l = length-marks s.marks in let n = s.len in
      record {
        marks = s.marks;
        len = length-set ss i v ∙ s.len;
        known = λ k p q. elim (cases_eq k i) as (λ _. get_or (set ss i v) k 0 ≡ size (sub_at t k)) [
          | inl same ↦ ap (λ j. get_or (set ss i v) j 0) same ∙ get_or-set_same ss i v 0 (omega arith) ∙ e ∙ ap (λ j. size (sub_at t j)) (sym same)
          | inr other ↦ get_or-set_other ss i k v 0 other ∙ s.known k (let o = other in omega arith) q
        ];
      }

  -- at last all
  pub sized_all : (ss : List ℕ) → IsSizedFrom t ms 0 ss → ss ≡ column size t
  sized_all ss s =
      let n = length-column size t in let l = s.len in
      ext_get_or 0 ss (column size t) (s.len ∙ sym n) (λ i h. s.known i (omega arith) (omega arith) ∙ sym (get_or-column size t i 0 (omega arith)))

  module _ (i : ℕ) (ss : List ℕ) (within : i < length ms) (s : IsSizedFrom t ms (i + 1) ss) where
    pub size_of_leaf : get_or ms i false ≡ true → 1 ≡ size (sub_at t i)
    size_of_leaf g = sym (size-leaf (sub_at t i) (mark_at s.marks i true within g))

    -- both children of an inner node come after it, and their sizes give its own
    pub size_of_node : get_or ms i false ≡ false → let left = get_or ss (i + 1) 0 in let right = get_or ss (i + 1 + left) 0 in
        (i + 1 < length ss) × (i + 1 + left < length ss) × (1 + left + right ≤ length ms) × (1 + left + right ≡ size (sub_at t i))
    size_of_node g =
        let l = length-marks s.marks in let n = s.len in
        let (b, x, y, node) = node_at t i (omega arith) (mark_at s.marks i false within g) in
        let p = size_pos x in let q = size_pos y in let w = node.within in let z = ap size node.is in
        let a : get_or ss (i + 1) 0 ≡ size x = s.known (i + 1) (omega arith) (omega arith) ∙ ap size node.left in
        let c : get_or ss (i + 1 + size x) 0 ≡ size y = s.known (i + 1 + size x) (omega arith) (omega arith) ∙ ap size node.right in
        let d = ap (λ k. get_or ss (i + 1 + k) 0) a in
        (omega arith, omega arith, omega arith, omega arith)
