-- The first critical node at a place or after it.
use Rattle.std.specs.Prelude.{◌≡◌, ℕ, ◌<◌, ◌≤◌, true, false, List, length}
use Rattle.std.proofs.Common.{get_or}
use Rattle.op_laws.specs.Trees.{BTree, size, sub_at}
use Rattle.m_bridges.specs.Parts.{is_critical}

pub record IsNext {A : Type 0} (m : ℕ) (t : BTree A) (i n : ℕ) : Type 0 where
  pub from : i ≤ n
  pub within : n ≤ size t
  pub none : (j : ℕ) → i ≤ j → j < n → is_critical m (sub_at t j) ≡ false
  pub here : n < size t → is_critical m (sub_at t n) ≡ true

pub record AreNext {A : Type 0} (m : ℕ) (t : BTree A) (i : ℕ) (ns : List ℕ) : Type 0 where
  pub len : length ns ≡ size t
  pub each : (j : ℕ) → i ≤ j → j < size t → IsNext m t j (get_or ns j 0)
