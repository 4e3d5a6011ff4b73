-- Bytes that are given by one call after another.
use Rattle.std.proofs.Common.{◌≡◌, ℕ, ◌+◌, ◌≤◌, ◌<◌, List, [], ◌∷◌, ◌++◌, length, take, drop, get_or, Option, Bool, true, false, arith, length-append, ◌⊎◌, inl, inr, append_assoc, ap, refl}
use Rattle.std.specs.Prelude.{◌%◌}
use Rattle.std.specs.Prelude.{Result, Ok, Err, OnOk, OnErr}
use Rattle.outside.specs.Outside.{Rose}
use Rattle.outside.specs.declared.device.Failed.{Failed}
use Rattle.std.specs.List.{flat_map}
use Rattle.std.proofs.lemmas.List.{take_more, append-nil, take-append-drop, take_all}
use Rattle.std.proofs.lemmas.Grind.{flat_map-append}
use Rattle.plain_text.specs.Pending.{Pending, IsOpen}
use Rattle.plain_text.specs.Given.{IsGiven, IsCutOff}
use Rattle.plain_text.proofs.HandsLemmas.{none_given, more_given, cut_off, front_of_more}

rests : (a h k x y n m : ℕ) → h ≡ (a + x) % 4096 → k ≡ (h + y) % 4096 → n ≡ x + y → k ≡ (a + n) % 4096
rests a h k x y n m p q r = omega arith

-- two calls one after the other
pub given_then : (x y : List ℕ) (a b c : Pending) (w v u : Option (List ℕ)) → IsGiven x a b w v → IsGiven y b c v u → IsGiven (x ++ y) a c w u
given_then x y a b c w v u p q = record {
  worked = p.worked;
  works = q.works;
  hands = rw (← append_assoc a.held x y) (more_given w v u (a.held ++ x) b.held y c.held p.hands q.hands);
  rest = rests (length a.held) (length b.held) (length c.held) (length x) (length y) (length (x ++ y)) 0 p.rest q.rest (length-append x y);
}

later_rose : (f g h : ℕ) → f ≤ g → Rose g h → Rose f h
later_rose f g h le up = omega arith

later_cause : (b c : Bool) (f g h : ℕ) → b ≡ false → f ≤ g → Rose g h ⊎ (b ≡ true) → Rose f h ⊎ (c ≡ true)
later_cause b c f g h works le (inl up) = inl (later_rose f g h le up)
later_cause b c f g h works le (inr had) = cc

-- a call that fails after one that did not
pub given_cut : (x y : List ℕ) (a b c : Pending) (w v u : Option (List ℕ)) (f g h : ℕ) → IsGiven x a b w v → f ≤ g → IsCutOff y b c v u g h → IsCutOff (x ++ y) a c w u f h
given_cut x y a b c w v u f g h p le q = record {
  failed = q.failed;
  front = rw (← append_assoc a.held x y) (cut_off w v u (a.held ++ x) b.held y p.hands q.front);
  cause = later_cause b.failed a.failed f g h p.works le q.cause;
}

-- a call that fails before more is given
pub cut_before : (x y : List ℕ) (a c : Pending) (w u : Option (List ℕ)) (f h : ℕ) → IsCutOff x a c w u f h → IsCutOff (x ++ y) a c w u f h
cut_before x y a c w u f h p = record {
  failed = p.failed;
  front = rw (← append_assoc a.held x y) (front_of_more w u (a.held ++ x) y p.front);
  cause = p.cause;
}

-- the same bytes, written otherwise
pub given_as : (x y : List ℕ) (a b : Pending) (w v : Option (List ℕ)) → x ≡ y → IsGiven x a b w v → IsGiven y a b w v
given_as x y a b w v e p = rw (← e) p

pub cut_as : (x y : List ℕ) (a c : Pending) (w u : Option (List ℕ)) (f h : ℕ) → x ≡ y → IsCutOff x a c w u f h → IsCutOff y a c w u f h
cut_as x y a c w u f h e p = rw (← e) p

-- the answer of a second call, for both
pub given_after : {T : Type 0} (r : Result T Failed) (x y : List ℕ) (a b c : Pending) (w v u : Option (List ℕ)) → IsGiven x a b w v
    → OnOk r (IsGiven y b c v u) → OnOk r (IsGiven (x ++ y) a c w u)
given_after (Ok _) x y a b c w v u p q = given_then x y a b c w v u p q
given_after (Err _) x y a b c w v u p q = tt

pub cut_after : {T : Type 0} (r : Result T Failed) (x y : List ℕ) (a b c : Pending) (w v u : Option (List ℕ)) (f g h : ℕ) → IsGiven x a b w v → f ≤ g
    → OnErr r (IsCutOff y b c v u g h) → OnErr r (IsCutOff (x ++ y) a c w u f h)
cut_after (Ok _) x y a b c w v u f g h p le q = tt
cut_after (Err _) x y a b c w v u f g h p le q = given_cut x y a b c w v u f g h p le q

short_rest : (a n k : ℕ) → k ≡ (a + n) % 4096 → k < 4096
short_rest a n k e = omega arith

-- an outlet that took all is open
pub open_after : {x : List ℕ} {a b : Pending} {w v : Option (List ℕ)} → IsGiven x a b w v → IsOpen b
open_after {x} {a} {b} p = record { works = p.works; short = short_rest (length a.held) (length x) (length b.held) p.rest }

same_rest : (k : ℕ) → k < 4096 → k ≡ (k + 0) % 4096
same_rest k lt = omega arith

-- nothing is given yet
pub given_none : (a : Pending) (w : Option (List ℕ)) → IsOpen a → IsGiven [] a a w w
given_none a w o = record {
  worked = o.works;
  works = o.works;
  hands = rw (append-nil a.held) (none_given w a.held);
  rest = same_rest (length a.held) o.short;
}

-- the texts of the elements to a place, and of one more
pub texts_more : {X : Type 0} (f : X → List ℕ) (xs : List X) (i : ℕ) (d : X) → i < length xs → flat_map f (take (i + 1) xs) ≡ flat_map f (take i xs) ++ f (get_or xs i d)
texts_more f xs i d lt = rw (take_more xs i d lt, flat_map-append f (take i xs) (get_or xs i d ∷ [])) (ap (λ (l : List ℕ). flat_map f (take i xs) ++ l) (append-nil (f (get_or xs i d))))

-- the texts of the elements are those to a place, of one more, and of the others
pub texts_cut : {X : Type 0} (f : X → List ℕ) (xs : List X) (i : ℕ) (d : X) → i < length xs → (flat_map f (take i xs) ++ f (get_or xs i d)) ++ flat_map f (drop (i + 1) xs) ≡ flat_map f xs
texts_cut f xs i d lt = rw (← texts_more f xs i d lt, ← flat_map-append f (take (i + 1) xs) (drop (i + 1) xs), take-append-drop (i + 1) xs) refl

-- a turn of a loop that gives the text of each element
pub loop_more : {X : Type 0} (f : X → List ℕ) (xs : List X) (i : ℕ) (d : X) (a b c : Pending) (w v u : Option (List ℕ)) → i < length xs
    → IsGiven (flat_map f (take i xs)) a b w v → IsGiven (f (get_or xs i d)) b c v u → IsGiven (flat_map f (take (i + 1) xs)) a c w u
loop_more f xs i d a b c w v u lt p q = rw (texts_more f xs i d lt) (given_then (flat_map f (take i xs)) (f (get_or xs i d)) a b c w v u p q)

-- a turn that fails
pub loop_cut : {X : Type 0} (f : X → List ℕ) (xs : List X) (i : ℕ) (d : X) (a b c : Pending) (w v u : Option (List ℕ)) (k g h : ℕ) → i < length xs
    → IsGiven (flat_map f (take i xs)) a b w v → k ≤ g → IsCutOff (f (get_or xs i d)) b c v u g h → IsCutOff (flat_map f xs) a c w u k h
loop_cut f xs i d a b c w v u k g h lt p le q = rw (← texts_cut f xs i d lt)
    (cut_before (flat_map f (take i xs) ++ f (get_or xs i d)) (flat_map f (drop (i + 1) xs)) a c w u k h
    (given_cut (flat_map f (take i xs)) (f (get_or xs i d)) a b c w v u k g h p le q))

-- the loop is over
pub loop_ends : {X : Type 0} (f : X → List ℕ) (xs : List X) (i : ℕ) (a b : Pending) (w v : Option (List ℕ)) → length xs ≤ i → IsGiven (flat_map f (take i xs)) a b w v → IsGiven (flat_map f xs) a b w v
loop_ends f xs i a b w v le p = rw take_all at p
