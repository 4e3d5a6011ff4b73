-- Dealing as plain data: a counter of draws, and the tickets of each worker.
use Rattle.std.specs.Prelude.{◌≡◌, ◌≢◌, ℕ, ◌+◌, ◌<◌, ◌≤◌, ◌==◌, nat_lt, if◌then◌else◌, List, [], ◌∷◌, ◌++◌, length, slice_index, count_by}

-- how often the number t stands in the list
abbrev pub times : ℕ → List ℕ → ℕ
times t xs = count_by (λ x. x == t) xs

-- where c numbers were dealt out of those below n, t is among them once or not at all
pub record IsDealtOnce (n c t count : ℕ) : Type 0 where
  pub once : t < n → t < c → count ≡ 1
  pub too_large : n ≤ t → count ≡ 0
  pub not_yet : c ≤ t → count ≡ 0

-- a worker's tickets after a draw that found the counter at c: where c is below n, it is the next
abbrev pub with_drawn : ℕ → ℕ → List ℕ → List ℕ
with_drawn n c tickets = if nat_lt c n then tickets ++ c ∷ [] else tickets

-- the counter, and the tickets of each worker, by the worker's number
pub record Dealing : Type 0 where
  pub counter : ℕ
  pub tickets : ℕ → List ℕ

abbrev pub nothing_dealt : Dealing
nothing_dealt = record { counter = 0; tickets = λ _. [] }

-- a draw by the worker w
abbrev pub draw : ℕ → Dealing → ℕ → Dealing
draw n d w = record {
  counter = d.counter + 1;
  tickets = λ v. if v == w then with_drawn n d.counter (d.tickets v) else d.tickets v;
}

-- the draws of a schedule, which names the worker of each
abbrev pub draw_all : ℕ → Dealing → List ℕ → Dealing
draw_all n d [] = d
draw_all n d (w ∷ schedule) = draw_all n (draw n d w) schedule

-- the worker at place t of the schedule has the ticket t, and no other worker has it
pub record IsDealtBy (n : ℕ) (schedule : List ℕ) (d : Dealing) : Type 0 where
  pub counter : d.counter ≡ length schedule
  pub owner : (t : ℕ) → IsDealtOnce n (length schedule) t (times t (d.tickets (slice_index schedule t)))
  pub no_other : (t v : ℕ) → v ≢ slice_index schedule t → times t (d.tickets v) ≡ 0

abbrev pub EachScheduleDeals : Type 0
EachScheduleDeals = (n : ℕ) (schedule : List ℕ) → IsDealtBy n schedule (draw_all n nothing_dealt schedule)
