-- Where blocks begin and end: words on the layout, which no public clause cites.
use Rattle.std.specs.Prelude.{ℕ, ◌+◌, ◌-◌, ◌*◌, min, ℤ, Bool, if◌then◌else◌, List}
use Rattle.list_fusion.specs.Pipes.{Flow, block_of}

-- where block t of a list of this length begins, and the one before it ends
abbrev pub cut_at : ℕ → ℕ → ℕ → ℕ
cut_at len block t = min len (t * block)

-- the elements of block t
abbrev pub piece : Flow → ℕ → ℕ → ℕ → List (List ℤ)
piece p len block t = block_of p (cut_at len block t) (cut_at len block (t + 1))

-- how many places stand before block t; with back, behind it
abbrev pub outer_places : Bool → ℕ → ℕ → ℕ → ℕ
outer_places back len block t = if back then len - cut_at len block (t + 1) else cut_at len block t
