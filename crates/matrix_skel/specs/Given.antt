-- What workers give for each block: words on how skeletons are computed, which no public clause cites.
use Rattle.std.specs.Prelude.{◌≡◌, ℕ, ◌+◌, ◌-◌, ◌*◌, ◌/◌, ◌%◌, ◌<◌, ◌≤◌, ℤ, List, Some, length, slice_index_or}
use Rattle.std.specs.List.{All}
use Rattle.op_laws.specs.declared.TheConstants.{MAX_ELEMENTS}
use Rattle.op_laws.specs.declared.width.Width.{Width}
use Rattle.op_laws.specs.Admits.{Admits}
use Rattle.op_laws.specs.Folds.{fold_rows}
use Rattle.matrix_skel.specs.Blocks.{cut_at, part}

-- r rows of c cells of a type
pub record IsRect (ty : List Width) (r c : ℕ) (rows : List (List (List ℤ))) : Type 0 where
  pub tall : length rows ≡ r
  pub wide : All (λ row. length row ≡ c) rows
  pub admitted : All (All (Admits ty)) rows
  pub few : r * c ≤ MAX_ELEMENTS

-- for each ticket what holds of its item
abbrev pub EachTicket : {X : Type 0} → (ℕ → X → Type 0) → ℕ → List X → Type 0
EachTicket {X} holds count xs = (t : ℕ) (d : X) → t < count → holds t (slice_index_or xs t d)

module _ {C : Type 0} (fits : C → ℕ → Type 0) (lifted : List ℤ → C) (down across : C → C → C) (rows : List (List (List ℤ))) where
  -- the fold of a part, which weighs one for each cell
  pub record IsPartFold (i k j l : ℕ) (out : C) : Type 0 where
    pub value : fold_rows lifted down across (part rows i k j l) ≡ Some out
    pub weight : fits out ((k - i) * (l - j))

  -- the fold of block t of r rows in runs of h and c columns in runs of w, where a block row has so many blocks
  abbrev pub IsBlockFold : ℕ → ℕ → ℕ → ℕ → ℕ → ℕ → C → Type 0
  IsBlockFold r c h w many t out = IsPartFold (cut_at r h (t / many)) (cut_at r h (t / many + 1)) (cut_at c w (t % many)) (cut_at c w (t % many + 1)) out
