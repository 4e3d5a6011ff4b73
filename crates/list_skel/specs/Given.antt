-- What workers give for each block: words on how skeletons are computed, which no public clause cites.
use Rattle.std.specs.Prelude.{◌≡◌, ℕ, ◌+◌, ◌-◌, ◌<◌, ℤ, Bool, if◌then◌else◌, List, Option, length, slice_index_or, IfSome}
use Rattle.std.specs.List.{All, flat_map}
use Rattle.op_laws.specs.declared.width.Width.{Width}
use Rattle.op_laws.specs.Admits.{Admits}
use Rattle.op_laws.specs.Elements.{Elements}
use Rattle.op_laws.specs.Folds.{fold_of}
use Rattle.list_fusion.specs.Pipes.{Flow, type_of, block_of}
use Rattle.list_fusion.specs.Scans.{scan_beside}
use Rattle.list_skel.specs.Blocks.{cut_at, piece}

-- what stands before block t; with back, what stands behind it
abbrev pub outer : Bool → Flow → ℕ → ℕ → ℕ → List (List ℤ)
outer back p len block t = if back then block_of p (cut_at len block (t + 1)) len else block_of p 0 (cut_at len block t)

module _ {C : Type 0} (fits : C → ℕ → Type 0) (lifted : List ℤ → C) (combined : C → C → C) (p : Flow) (len block : ℕ) where
  -- the fold of block t, and that its elements are of the pipe's type
  pub record IsBlockFold (t : ℕ) (out : Option C) : Type 0 where
    pub value : out ≡ fold_of lifted combined (piece p len block t)
    pub weight : IfSome out (λ c. fits c (cut_at len block (t + 1) - cut_at len block t))
    pub admitted : All (Admits (type_of p)) (piece p len block t)

-- the fold of what stands before block t, or behind it
abbrev pub IsOuterFold : {C : Type 0} → (List ℤ → C) → (C → C → C) → Flow → ℕ → ℕ → Bool → ℕ → Option C → Type 0
IsOuterFold lifted combined p len block back t held = held ≡ fold_of lifted combined (outer back p len block t)

module _ {C : Type 0} (finished : C → List ℤ) (lifted : List ℤ → C) (combined : C → C → C) (gives : List Width) (p : Flow) (len block : ℕ) (back : Bool) where
  -- the scan of block t with what stands before it, or behind it
  pub record IsBlockScan (t : ℕ) (x : Elements) : Type 0 where
    pub ty : x.ty ≡ gives
    pub items : x.items ≡ scan_beside finished lifted combined back (fold_of lifted combined (outer back p len block t)) (piece p len block t)

-- for each block what holds of its item
abbrev pub EachBlock : {X : Type 0} → (ℕ → X → Type 0) → ℕ → List X → Type 0
EachBlock {X} holds count xs = (t : ℕ) (d : X) → t < count → holds t (slice_index_or xs t d)

-- the lists one after another
abbrev pub all_items : List Elements → List (List ℤ)
all_items lists = flat_map (λ x. x.items) lists
