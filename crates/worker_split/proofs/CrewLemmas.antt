-- Workers, before and after they have drawn.
use Rattle.std.proofs.Common.{◌≡◌, ℕ, zero, suc, ◌+◌, ◌<◌, ◌≤◌, max, List, [], ◌∷◌, ◌++◌, length, get_or, take, All, ap, ap₂, ◌∙◌, refl, sym, subst, true, arith, append_assoc, Result, Ok, Err, OnOk, IfOk}
use Rattle.std.proofs.lemmas.List.{map-append, length-map}
use Rattle.std.proofs.lemmas.List.Sums.{sum_by_push}
use Rattle.std.proofs.Math.Seq.{take-append_seam}
use Rattle.worker_split.specs.declared.crew.Worker.{Worker}
use Rattle.worker_split.specs.Dealing.{times}
use Rattle.worker_split.specs.Passes.{Drawer, Deal, ArePassesOf, AllFresh, AllSpent, tickets_at}
use Rattle.worker_split.specs.Crew.{passes_of, numbers_of, AllIdle, AllFilled, IsFinished, AllFinished}
use Rattle.worker_split.proofs.EachElement.{each_append}

-- ---- tickets that rise

-- one more than the largest
abbrev pub above : List ℕ → ℕ
above [] = 0
above (x ∷ xs) = max (x + 1) (above xs)

pub above-le : (xs : List ℕ) (t : ℕ) → All (λ x. x < t) xs → above xs ≤ t
above-le [] t h = omega arith
above-le (x ∷ xs) t h =
    let here : x < t = h 0 0 (omega arith) in
    let rest = above-le xs t (λ k d l. h (suc k) d (omega arith)) in
    omega arith

pub above_push : (xs : List ℕ) (t : ℕ) → t < above (xs ++ t ∷ [])
above_push [] t = omega arith
above_push (x ∷ xs) t = let rest = above_push xs t in omega arith

-- ---- a worker and its pass

module _ {X : Type 0} where
  -- what holds of each worker's pass holds of each pass, and the other way
  each_pass : (Q : ℕ → Drawer → Type 0) (ws : List (Worker X)) → ((i : ℕ) (w : Worker X) → i < length ws → Q i (get_or ws i w).pass)
      → (i : ℕ) (p : Drawer) → i < length (passes_of ws) → Q i (get_or (passes_of ws) i p)
  each_pass Q [] h i p l = absurd (omega arith)
  each_pass Q (w ∷ ws) h zero p l = h zero w (omega arith)
  each_pass Q (w ∷ ws) h (suc i) p l = each_pass (λ j. Q (suc j)) ws (λ j x m. h (suc j) x (omega arith)) i p (omega arith)

  each_worker : (Q : ℕ → Drawer → Type 0) (ws : List (Worker X)) → ((i : ℕ) (p : Drawer) → i < length (passes_of ws) → Q i (get_or (passes_of ws) i p))
      → (i : ℕ) (w : Worker X) → i < length ws → Q i (get_or ws i w).pass
  each_worker Q [] h i w l = absurd (omega arith)
  each_worker Q (v ∷ ws) h zero w l = h zero v.pass (omega arith)
  each_worker Q (v ∷ ws) h (suc i) w l = each_worker (λ j. Q (suc j)) ws (λ j p m. h (suc j) p (omega arith)) i w (omega arith)

  number_at : (ws : List (Worker X)) (i : ℕ) (w : Worker X) → i < length ws → get_or (numbers_of ws) i 0 ≡ (get_or ws i w).pass.number
  number_at [] i w l = absurd (omega arith)
  number_at (v ∷ ws) zero w l = refl
  number_at (v ∷ ws) (suc i) w l = number_at ws i w (omega arith)

  -- workers of fresh passes have done nothing
  pub all_idle : (board : Deal) (ws : List (Worker X)) → ArePassesOf board (passes_of ws) → AllFresh (passes_of ws) → AllIdle board ws
  all_idle board ws passes fresh i w l = record {
    on_board = each_worker (λ _ p. p.board ≡ board) ws passes.boards i w l;
    empty = each_worker (λ _ p. p.tickets ≡ []) ws fresh.empty i w l;
  }

-- ---- passes that come back one by one

pub append-pushed : {A : Type 0} (xs new ys : List A) (y : A) → new ≡ xs ++ y ∷ [] → new ++ ys ≡ xs ++ y ∷ ys
append-pushed xs new ys y e = ap (λ (zs : List _). zs ++ ys) e ∙ append_assoc xs (y ∷ []) ys

pub tickets_at-pushed : (t : ℕ) (passes new : List Drawer) (p : Drawer) → new ≡ passes ++ p ∷ [] → tickets_at t new ≡ tickets_at t passes + times t p.tickets
tickets_at-pushed t passes new p e = ap (tickets_at t) e ∙ sum_by_push (λ (q : Drawer). times t q.tickets) passes p

-- ---- workers that are finished

module _ {X : Type 0} (gives : ℕ → X → Type 0) (board : Deal) where
  AllFinished-append : (f b f' b' : List (Worker X)) → AllFinished gives board f f' → AllFinished gives board b b' → AllFinished gives board (f ++ b) (f' ++ b')
  AllFinished-append f b f' b' front back = record {
    finished = each_append (IsFinished gives board) f' b' front.finished back.finished;
    numbers = map-append (λ (w : Worker X). w.pass.number) f' b' ∙ (ap₂ ◌++◌ front.numbers back.numbers ∙ sym (map-append (λ (w : Worker X). w.pass.number) f b));
  }

  pub finished_halves : {T E : Type 0} (r : Result T E) (ws f b f' b' : List (Worker X)) → ws ≡ f ++ b
      → OnOk r (AllFinished gives board f f' × AllFinished gives board b b') → OnOk r (AllFinished gives board ws (f' ++ b'))
  finished_halves (Ok x) ws f b f' b' cut both = subst (λ (vs : List (Worker X)). AllFinished gives board vs (f' ++ b')) (sym cut) (AllFinished-append f b f' b' both.0 both.1)
  finished_halves (Err e) ws f b f' b' cut both = both

  module _ (old new : List (Worker X)) (all : AllFinished gives board old new) where
    pub as_many : length new ≡ length old
    as_many = sym (length-map new (λ (w : Worker X). w.pass.number)) ∙ (ap length all.numbers ∙ length-map old (λ (w : Worker X). w.pass.number))

    pub all_filled : AllFilled gives new
    all_filled i w l = (all.finished i w l).filled

    module _ (passes : ArePassesOf board (passes_of old)) where
      number_stays : (i : ℕ) (w : Worker X) → i < length new → (get_or new i w).pass.number ≡ i
      number_stays i w l =
          let m : i < length old = (let same = as_many in omega arith) in
          sym (number_at new i w l) ∙ (ap (λ (ns : List ℕ). get_or ns i 0) all.numbers ∙ (number_at old i w m ∙ each_worker (λ j p. p.number ≡ j) old passes.numbers i w m))

      pub passes_stay : ArePassesOf board (passes_of new)
      passes_stay = record {
        count = length-map new (λ (w : Worker X). w.pass) ∙ (as_many ∙ (sym (length-map old (λ (w : Worker X). w.pass)) ∙ passes.count));
        boards = each_pass (λ _ p. p.board ≡ board) new (λ i w l. (all.finished i w l).on_board);
        numbers = each_pass (λ i p. p.number ≡ i) new number_stays;
      }

    pub all_spent : AllSpent (passes_of new)
    all_spent = each_pass (λ _ p. p.spent ≡ true) new (λ i w l. (all.finished i w l).spent)

-- ---- what a `Vec` has after its slice was written, and facts on a `Result`

pub written : {A : Type 0} (n : ℕ) (new old : List A) → n ≡ length new → take n (new ++ old) ≡ new
written n new old e = ap (λ (k : ℕ). take k (new ++ old)) e ∙ take-append_seam new old

pub if_ok : {T E : Type 0} {A B : T → Type 0} (r : Result T E) → ((v : T) → A v → B v) → IfOk r A → IfOk r B
if_ok (Ok x) f h = f x h
if_ok (Err e) f h = h

pub if_ok_both : {T E : Type 0} {A B C : T → Type 0} (r : Result T E) → ((v : T) → A v → B v → C v) → IfOk r A → IfOk r B → IfOk r C
if_ok_both (Ok x) f a b = f x a b
if_ok_both (Err e) f a b = a
