-- Blocks that follow one another.
use Rattle.std.specs.Prelude.{◌≡◌, ℕ, ◌-◌, ◌≤◌, ◌++◌, length}
use Rattle.list_fusion.specs.Pipes.{Flow, elements, block_of}

-- blocks that follow one another give parts of the pipe's list that follow one another, whether or not the pipe is turned round
pub record BlocksFollow (p : Flow) : Type 0 where
  pub joined : (from mid to : ℕ) → from ≤ mid → mid ≤ to → block_of p from mid ++ block_of p mid to ≡ block_of p from to
  pub whole : block_of p 0 (length p.head.items) ≡ elements p
  pub short : (from to : ℕ) → length (block_of p from to) ≤ to - from

abbrev pub EachCutFollows : Type 0
EachCutFollows = (p : Flow) → BlocksFollow p
