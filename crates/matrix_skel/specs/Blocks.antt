-- Parts of a matrix, which is the list of its rows, and its blocks: words on how skeletons are computed, which no public clause cites.
use Rattle.std.specs.Prelude.{◌≡◌, ℕ, ◌+◌, ◌*◌, min, List, [], ◌∷◌, map, slice_range, refl}

-- the rows from i up to before k, of each the cells from column j up to before l
abbrev pub part : {X : Type 0} → List (List X) → ℕ → ℕ → ℕ → ℕ → List (List X)
part rows i k j l = map (λ row. slice_range row j l) (slice_range rows i k)

-- where block t of so many rows or columns begins, and the one before it ends
abbrev pub cut_at : ℕ → ℕ → ℕ → ℕ
cut_at len block t = min len (t * block)

-- the block in block row p and block column q of r rows and c columns. Those at the lower and the right edge may be smaller
abbrev pub block_at : {X : Type 0} → ℕ → ℕ → ℕ → List (List X) → ℕ → ℕ → List (List X)
block_at r c block rows p q = part rows (cut_at r block p) (cut_at r block (p + 1)) (cut_at c block q) (cut_at c block (q + 1))

-- worked rows

abbrev two_by_three : List (List ℕ)
two_by_three = (1 ∷ 2 ∷ 3 ∷ []) ∷ (4 ∷ 5 ∷ 6 ∷ []) ∷ []

first_block : block_at 2 3 2 two_by_three 0 0 ≡ (1 ∷ 2 ∷ []) ∷ (4 ∷ 5 ∷ []) ∷ []
first_block = refl

narrow_block : block_at 2 3 2 two_by_three 0 1 ≡ (3 ∷ []) ∷ (6 ∷ []) ∷ []
narrow_block = refl
