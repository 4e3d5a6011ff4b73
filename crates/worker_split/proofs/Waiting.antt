-- Passes that are still to be taken in.
use Rattle.std.proofs.Common.{◌≡◌, ℕ, ◌+◌, true}
use Rattle.worker_split.specs.Passes.{Deal, Drawer}

-- a spent pass of the board, at place i behind the first
pub record Waits (board : Deal) (i : ℕ) (p : Drawer) : Type 0 where
  pub on_board : p.board ≡ board
  pub number : p.number ≡ i + 1
  pub spent : p.spent ≡ true
