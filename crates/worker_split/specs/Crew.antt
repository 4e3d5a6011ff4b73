-- What workers have done.
use Rattle.std.specs.Prelude.{◌≡◌, ℕ, ◌<◌, true, List, [], map, length, slice_index_or}
use Rattle.worker_split.specs.declared.crew.Worker.{Worker}
use Rattle.worker_split.specs.Items.{AllGiven, tickets_of}
use Rattle.worker_split.specs.Passes.{Deal, Drawer}

module _ {X : Type 0} where
  abbrev pub passes_of : List (Worker X) → List Drawer
  passes_of ws = map (λ w. w.pass) ws

  abbrev pub numbers_of : List (Worker X) → List ℕ
  numbers_of ws = map (λ w. w.pass.number) ws

  -- a worker of this board that has drawn nothing
  pub record IsIdle (board : Deal) (w : Worker X) : Type 0 where
    pub on_board : w.pass.board ≡ board
    pub empty : w.pass.tickets ≡ []

  abbrev pub AllIdle : Deal → List (Worker X) → Type 0
  AllIdle board ws = (i : ℕ) (w : Worker X) → i < length ws → IsIdle board (slice_index_or ws i w)

module _ {X : Type 0} (gives : ℕ → X → Type 0) where
  -- the worker has an item for each ticket that it drew
  pub record IsFilled (w : Worker X) : Type 0 where
    pub tickets : tickets_of w.items.items ≡ w.pass.tickets
    pub given : AllGiven gives w.items.items

  abbrev pub AllFilled : List (Worker X) → Type 0
  AllFilled ws = (i : ℕ) (w : Worker X) → i < length ws → IsFilled (slice_index_or ws i w)

  -- a worker of this board that found no ticket left
  pub record IsFinished (board : Deal) (w : Worker X) : Type 0 where
    pub on_board : w.pass.board ≡ board
    pub filled : IsFilled w
    pub spent : w.pass.spent ≡ true

  -- each worker is finished, and they stand in the same order
  pub record AllFinished (board : Deal) (old new : List (Worker X)) : Type 0 where
    pub finished : (i : ℕ) (w : Worker X) → i < length new → IsFinished board (slice_index_or new i w)
    pub numbers : numbers_of new ≡ numbers_of old
