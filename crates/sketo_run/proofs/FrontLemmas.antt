-- The front of what is read, piece by piece.
use Rattle.std.proofs.Common.{◌≡◌, ℕ, ◌≤◌, List, [], ◌∷◌, ◌++◌, length, take, Option, Some, None, IfSome, Result, Ok, Err, ap, refl, sym, ◌∙◌, append_assoc, arith}
use Rattle.std.specs.Prelude.{is_err, OnOk, false, IsSome}
use Rattle.std.proofs.lemmas.List.{append-nil, take_all}
use Rattle.std.proofs.Math.Seq.{take-append_seam}
use Rattle.outside.specs.Outside.{TakesPiece, OthersKept}

-- where the content is told, it is what was read and what is left
abbrev pub Parts : Option (List ℕ) → Option (List ℕ) → List ℕ → Type 0
Parts None left had = Unit {0}
Parts (Some all) None had = ⊥
Parts (Some all) (Some left) had = all ≡ had ++ left

pub begins : (content left : Option (List ℕ)) → left ≡ content → Parts content left []
begins None left e = tt
begins (Some all) left e = rw e refl

pub goes_on : (content left after : Option (List ℕ)) (piece had : List ℕ) → Parts content left had → TakesPiece left after piece → Parts content after (had ++ piece)
goes_on None left after piece had p t = tt
goes_on (Some all) None after piece had p t = absurd p
goes_on (Some all) (Some bytes) None piece had p t = absurd t
goes_on (Some all) (Some bytes) (Some rest) piece had p t = p ∙ (ap (λ (l : List ℕ). had ++ l) t.0 ∙ sym (append_assoc had piece rest))

pub full : (content left : Option (List ℕ)) (had : List ℕ) → Parts content left had → length had ≡ 65537 → IfSome content (λ all. had ≡ take 65537 all)
full None left had p l = tt
full (Some all) None had p l = absurd p
full (Some all) (Some rest) had p l = rw (p, ← l) (sym (take-append_seam had rest))

pub ended : (content left after : Option (List ℕ)) (piece had : List ℕ) → Parts content left had → TakesPiece left after piece → length piece ≡ 0 → length had ≤ 65537 → IfSome content (λ all. had ≡ take 65537 all)
ended None left after piece had p t z l = tt
ended (Some all) None after piece had p t z l = absurd p
ended (Some all) (Some bytes) None piece had p t z l = absurd t
ended (Some all) (Some []) (Some rest) piece had p t z l = rw (p, append-nil had) (sym (take_all 65537 had l))
ended (Some all) (Some (b ∷ bytes)) (Some rest) piece had p t z l = absurd (omega (arith, t.1 z))

-- what a call says of its answer
pub at_ok : {T E : Type 0} (r : Result T E) (P : Type 0) → is_err r ≡ false → OnOk r P → P
at_ok (Ok x) P e h = h
at_ok (Err x) P e h = cc

-- one read more of a name that is told leaves the counts of the others
pub others_on : (started : Option (List ℕ)) (content before : List ℕ → Option (List ℕ)) (name : List ℕ) (old mid new : List ℕ → ℕ) → IsSome started → IfSome started (λ n. n ≡ name) → content ≡ before
    → OthersKept before name old mid → IfSome started (λ n. OthersKept content n mid new) → OthersKept before name old new
others_on None content before name old mid new told of_name same h k = cc
others_on (Some n) content before name old mid new told of_name same h k = λ other is differs. (rw (of_name, same) at k) other is differs ∙ h other is differs
