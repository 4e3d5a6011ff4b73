-- How callers see a board and its passes.
use Rattle.std.specs.Prelude.{◌≡◌, ℕ, ◌<◌, ◌≤◌, Bool, true, false, List, [], length, slice_index_or, sum_by, refl}
use Rattle.std.specs.Coded.{Coded, code_by, coded×, coded_ℕ, coded_list, coded_bool}
use Rattle.atomic_table.specs.Seated.{TableId, table_id_coded}
use Rattle.worker_split.specs.Dealing.{times}

-- a board: its table, how many tickets there are, and how many passes
pub record Deal : Type 0 where
  pub table : TableId
  pub n : ℕ
  pub passes : ℕ

abbrev pub deal_code : Coded Deal
deal_code = code_by (TableId × (ℕ × ℕ)) (coded× table_id_coded (coded× coded_ℕ coded_ℕ))
    (λ d. (d.table, (d.n, d.passes)))
    (λ p. record { table = p.0; n = p.1.0; passes = p.1.1 }) (λ _. refl)

-- a pass: its board and number, the tickets that it drew, whether it is spent, and the counter that its last draw found
pub record Drawer : Type 0 where
  pub board : Deal
  pub number : ℕ
  pub tickets : List ℕ
  pub spent : Bool
  pub read : ℕ

abbrev pub drawer_code : Coded Drawer
drawer_code = code_by (Deal × (ℕ × (List ℕ × (Bool × ℕ))))
    (coded× deal_code (coded× coded_ℕ (coded× (coded_list coded_ℕ) (coded× coded_bool coded_ℕ))))
    (λ d. (d.board, (d.number, (d.tickets, (d.spent, d.read)))))
    (λ p. record { board = p.0; number = p.1.0; tickets = p.1.1.0; spent = p.1.1.1.0; read = p.1.1.1.1 }) (λ _. refl)

-- these are all passes of the board, in the order of their numbers
pub record ArePassesOf (board : Deal) (passes : List Drawer) : Type 0 where
  pub count : length passes ≡ board.passes
  pub boards : (i : ℕ) (d : Drawer) → i < length passes → (slice_index_or passes i d).board ≡ board
  pub numbers : (i : ℕ) (d : Drawer) → i < length passes → (slice_index_or passes i d).number ≡ i

-- no pass has drawn
pub record AllFresh (passes : List Drawer) : Type 0 where
  pub unspent : (i : ℕ) (d : Drawer) → i < length passes → (slice_index_or passes i d).spent ≡ false
  pub empty : (i : ℕ) (d : Drawer) → i < length passes → (slice_index_or passes i d).tickets ≡ []

abbrev pub AllSpent : List Drawer → Type 0
AllSpent passes = (i : ℕ) (d : Drawer) → i < length passes → (slice_index_or passes i d).spent ≡ true

-- how often the passes together have the ticket t
abbrev pub tickets_at : ℕ → List Drawer → ℕ
tickets_at t passes = sum_by (λ p. times t p.tickets) passes

-- the passes' tickets are the numbers below n, each in one pass and once
pub record AreDealtOnce (n : ℕ) (passes : List Drawer) : Type 0 where
  pub once : (t : ℕ) → t < n → tickets_at t passes ≡ 1
  pub no_other : (t : ℕ) → n ≤ t → tickets_at t passes ≡ 0
