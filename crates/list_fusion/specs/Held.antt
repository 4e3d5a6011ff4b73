-- What is held while a block is gone through: words on how blocks are computed, which no public clause cites.
use Rattle.std.specs.Prelude.{ℤ, Bool, true, false, if◌then◌else◌, List, [], ◌∷◌, Option, Some, None}
use Rattle.std.specs.List.{fold}
use Rattle.op_laws.specs.Folds.{step, fold_of, with_next, with_front}

-- a value beside what is held: after it, or in front of it
abbrev pub next_held : {C : Type 0} → (C → C → C) → Bool → Option C → C → C
next_held combined back held e = if back then with_front combined e held else with_next combined held e

module _ {C : Type 0} (lifted : List ℤ → C) (combined : C → C → C) where
  -- after one place more, which may have kept no element
  abbrev pub held_after : Option C → Option (List ℤ) → Option C
  held_after held None = held
  held_after held (Some e) = Some (with_next combined held (lifted e))

  -- with one place more in front
  abbrev pub held_in_front : Option (List ℤ) → Option C → Option C
  held_in_front None held = held
  held_in_front (Some e) held = Some (with_front combined (lifted e) held)

  -- after all of these elements
  abbrev pub held_after_all : Option C → List (List ℤ) → Option C
  held_after_all None es = fold_of lifted combined es
  held_after_all (Some c) es = Some (fold (step lifted combined) c es)

  -- with all of these elements, one after another on the same side
  abbrev pub held_through : Bool → Option C → List (List ℤ) → Option C
  held_through back held [] = held
  held_through back held (e ∷ es) = held_through back (Some (next_held combined back held (lifted e))) es

  -- what is held with each of these elements, as elements
  abbrev pub scanned : (C → List ℤ) → Bool → Option C → List (List ℤ) → List (List ℤ)
  scanned finished back held [] = []
  scanned finished back held (e ∷ es) = finished (next_held combined back held (lifted e)) ∷ scanned finished back (Some (next_held combined back held (lifted e))) es

-- the element that what is held stands for, where the last place kept one
abbrev pub told_of : {C : Type 0} → (C → List ℤ) → Bool → Option C → Option (List ℤ)
told_of finished false held = None
told_of finished true None = None
told_of finished true (Some c) = Some (finished c)
