-- The rule of a board's table, and what each step on it tells. No public clause cites this file.
-- The word is the counter of `Dealing`, and the view of a seat has its worker's tickets. The first seat also counts the seats made and taken in.
use Rattle.std.specs.Prelude.{◌≡◌, ℕ, ◌+◌, ◌<◌, ◌≤◌, Bool, true, false, nat_le, List, [], ◌++◌, length, slice_index, sum_by, All}
use Rattle.std.proofs.Common.{zero, suc}
use mathlib.Core.Option.{some}
use lib.ListN.{get_elem?}
use Rattle.atomic_table.specs.Seated.{TableId}
use Rattle.atomic_table.specs.Table.{State, Me, Step}
use Rattle.worker_split.specs.declared.board.TheConstants.{MAX_WORKERS}
use Rattle.worker_split.specs.declared.rule.Size.{Size}
use Rattle.worker_split.specs.declared.rule.View.{View}
use Rattle.worker_split.specs.declared.rule.Role.{Role}
use Rattle.worker_split.specs.declared.rule.Role.TheVariants.{Ended, First, Other}
use Rattle.worker_split.specs.Dealing.{times, IsDealtOnce, with_drawn}
use Rattle.worker_split.specs.Passes.{Drawer}

-- ---- counts of a view, which are added up over all views

abbrev pub live_role : Role → ℕ
live_role Ended = 0
live_role (First made taken) = 1
live_role (Other i) = 1

abbrev pub first_role : Role → ℕ
first_role Ended = 0
first_role (First made taken) = 1
first_role (Other i) = 0

abbrev pub made_role : Role → ℕ
made_role Ended = 0
made_role (First made taken) = made
made_role (Other i) = 0

abbrev pub taken_role : Role → ℕ
taken_role Ended = 0
taken_role (First made taken) = taken
taken_role (Other i) = 0

abbrev pub late_role : Bool → Role → ℕ
late_role false role = 0
late_role true role = live_role role

-- 1 where the seat has not been taken in
abbrev pub live : View → ℕ
live v = live_role v.role

-- 1 for the first seat
abbrev pub first : View → ℕ
first v = first_role v.role

abbrev pub made : View → ℕ
made v = made_role v.role

abbrev pub taken : View → ℕ
taken v = taken_role v.role

-- 1 for a live seat that is spent
abbrev pub late : View → ℕ
late v = late_role v.spent v.role

-- how often the view has the ticket t
abbrev pub has : ℕ → View → ℕ
has t v = times t v.tickets

-- ---- the views

-- the view of a seat that was taken in
abbrev pub ended : View
ended = record { n = 0; workers = 0; tickets = []; spent = false; read = 0; role = Ended }

-- a view that has no ticket yet
abbrev pub fresh : ℕ → ℕ → Role → View
fresh n workers role = record { n = n; workers = workers; tickets = []; spent = false; read = 0; role = role }

abbrev pub first_view : Size → View
first_view z = fresh z.n z.workers (First 1 0)

abbrev pub number_of : Role → ℕ
number_of Ended = 0
number_of (First made taken) = 0
number_of (Other i) = i

-- the role of the pass of this number, when all passes are made and none is taken in
abbrev pub role_at : ℕ → ℕ → Role
role_at workers zero = First workers 0
role_at workers (suc i) = Other (suc i)

-- a pass as callers see it
abbrev pub drawer_of : TableId → View → Bool → Drawer
drawer_of table v spent = record {
  board = record { table = table; n = v.n; passes = v.workers };
  number = number_of v.role;
  tickets = v.tickets;
  spent = spent;
  read = v.read;
}

-- ---- the rule

-- a live seat knows n, a seat that was taken in has no ticket, and none is spent before the counter is at n
pub record Fits (n c : ℕ) (v : View) : Type 0 where
  pub same : live v ≡ 1 → v.n ≡ n
  pub bare : live v ≡ 0 → v ≡ ended
  pub late : late v ≡ 1 → n ≤ c

-- the counter is c, and these are the views
pub record IsKept (z : Size) (c : ℕ) (views : List View) : Type 0 where
  pub once : (t : ℕ) → IsDealtOnce z.n c t (sum_by (has t) views)
  pub bounded : c ≤ z.n + sum_by late views + sum_by taken views
  pub counted : sum_by live views + sum_by taken views ≡ sum_by made views
  pub few : sum_by made views ≤ MAX_WORKERS
  pub one_first : sum_by first views ≡ 1
  pub fit : (j : ℕ) (v : View) → get_elem? views j ≡ some v → Fits z.n c v
  pub small : z.n < 4294967296

abbrev pub IsDealt : Size → State (Unit {0}) View → Type 0
IsDealt z s = (length s.words ≡ 1) × IsKept z (slice_index s.words 0) s.views

-- ---- the steps

-- the view after a draw that found the counter at c
abbrev pub after_draw : View → ℕ → View
after_draw v c = record v { tickets = with_drawn v.n c v.tickets; spent = nat_le v.n c; read = c }

-- a draw that found the counter at c. A ticket is greater than those that the seat had
abbrev pub Draws : Step (Unit {0}) → Me (Unit {0}) View → ℕ → Me (Unit {0}) View → Type 0
Draws st m c m' = (m'.1 ≡ m.1) × (m'.0 ≡ after_draw m.0 c) × (c < m.0.n → All (λ x. x < c) m.0.tickets)

abbrev pub more_made : Role → Role
more_made Ended = Ended
more_made (First made taken) = First (made + 1) taken
more_made (Other i) = Other i

abbrev pub next_role : Role → Role
next_role Ended = Ended
next_role (First made taken) = Other made
next_role (Other i) = Ended

-- the view of one more seat
abbrev pub next_view : View → View
next_view v = fresh v.n v.workers (next_role v.role)

abbrev pub more_taken : Role → Role
more_taken Ended = Ended
more_taken (First made taken) = First made (taken + 1)
more_taken (Other i) = Other i

-- the first view, after it has taken in the seat of view w
abbrev pub gathered : View → View → View
gathered v w = record v { tickets = v.tickets ++ w.tickets; role = more_taken v.role }
