-- Items of tickets, and items in the slots of their tickets.
use Rattle.std.proofs.Common.{◌≡◌, ◌≢◌, ℕ, suc, ◌+◌, ◌<◌, ◌≤◌, List, [], ◌∷◌, ◌++◌, length, get_or, set, ap, ◌∙◌, sym, subst, arith, Option, Some, get_or-set_same, get_or-set_other}
use Rattle.std.proofs.lemmas.List.{map-append}
use mathlib.Core.Logic.{dite}
use native.Mathlib.Decide.{ℕ_discrete}
use Rattle.worker_split.specs.Dealing.{times}
use Rattle.worker_split.specs.Items.{AllGiven, IsFilled, IsFilledAt, KeepsFilled, tickets_of}
use Rattle.worker_split.proofs.DealingLemmas.{times-append, times_else}

module _ {X : Type 0} (gives : ℕ → X → Type 0) where
  AllGiven_push : (items : List (ℕ × X)) (p : ℕ × X) → AllGiven gives items → gives p.0 p.1 → AllGiven gives (items ++ p ∷ [])
  AllGiven_push [] p given here = (here, tt)
  AllGiven_push (q ∷ qs) p given here = (given.0, AllGiven_push qs p given.1 here)

  -- one more ticket and its item
  pub filled_push : (items items' : List (ℕ × X)) (tickets tickets' : List ℕ) (t : ℕ) (x : X) → items' ≡ items ++ (t, x) ∷ [] → tickets' ≡ tickets ++ t ∷ []
      → tickets_of items ≡ tickets → AllGiven gives items → gives t x → (tickets_of items' ≡ tickets') × AllGiven gives items'
  filled_push items items' tickets tickets' t x pushed drawn same given here = (
    ap tickets_of pushed ∙ (map-append (λ (p : ℕ × X). p.0) items ((t, x) ∷ []) ∙ (ap (λ (ts : List ℕ). ts ++ t ∷ []) same ∙ sym drawn)),
    subst (AllGiven gives) (sym pushed) (AllGiven_push items (t, x) given here),
  )

  -- an item put into a slot fills it, and no other slot loses its item
  set_fills : (slots : List (Option X)) (k : ℕ) (x : X) → k < length slots → gives k x → (t : ℕ) → (t ≢ k → IsFilledAt gives slots t) → IsFilledAt gives (set slots k (Some x)) t
  set_fills slots k x inside here t other o = dite (ℕ_discrete t k)
      (λ e. subst (λ (j : ℕ). IsFilled gives j (get_or (set slots k (Some x)) j o)) (sym e)
      (subst (IsFilled gives k) (sym (get_or-set_same slots k (Some x) o inside)) here))
      (λ ne. subst (IsFilled gives t) (sym (get_or-set_other slots k t (Some x) o ne)) (other ne o))

  -- one more item is in its slot. A ticket is in its slot where it was among all and isn't among those left
  pub place_one : (first slots : List (Option X)) (all : List ℕ) (left : List (ℕ × X)) (k : ℕ) (x : X) → k < length slots → gives k x → KeepsFilled gives first slots
      → ((t : ℕ) → times t (tickets_of ((k, x) ∷ left)) ≡ 0 → 1 ≤ times t all → IsFilledAt gives slots t)
      → KeepsFilled gives first (set slots k (Some x)) × ((t : ℕ) → times t (tickets_of left) ≡ 0 → 1 ≤ times t all → IsFilledAt gives (set slots k (Some x)) t)
  place_one first slots all left k x inside here kept placed = (
    (λ t filled. set_fills slots k x inside here t (λ _. kept t filled)),
    (λ t none some. set_fills slots k x inside here t (λ ne. placed t (omega (arith, times-append t (k ∷ []) (tickets_of left), times_else k t (λ q. ne (sym q)))) some)),
  )

  -- the slots that are left, the first of which is that of the ticket k
  abbrev pub AllFilledFrom : ℕ → List (Option X) → Type 0
  AllFilledFrom k slots = (u : ℕ) → u < length slots → (o : Option X) → IsFilled gives (k + u) (get_or slots u o)

  pub AllFilledFrom_first : (k : ℕ) (slot : Option X) (slots : List (Option X)) → AllFilledFrom k (slot ∷ slots) → IsFilled gives k slot
  AllFilledFrom_first k slot slots all = subst (λ (j : ℕ). IsFilled gives j slot) (omega arith) (all 0 (omega arith) slot)

  pub AllFilledFrom_rest : (k : ℕ) (slot : Option X) (slots : List (Option X)) → AllFilledFrom k (slot ∷ slots) → AllFilledFrom (k + 1) slots
  AllFilledFrom_rest k slot slots all u small o = subst (λ (j : ℕ). IsFilled gives j (get_or slots u o)) (omega arith) (all (suc u) (omega arith) o)
