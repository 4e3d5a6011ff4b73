-- What a read changes of what is still to be read.
use Rattle.std.proofs.Common.{◌≡◌, ℕ, ◌+◌, List, [], ◌∷◌, ◌++◌, length, Option, Some, None, IfSome, Result, Ok, Err, ap, refl, sym, ◌∙◌, arith}
use Rattle.std.proofs.lemmas.List.{length-append}
use Rattle.std.specs.Prelude.{⊤, is_err, IsErrOf, OnOk, IfOk, IfErr, ◌≢◌, false}
use Rattle.outside.specs.Outside.{TakesPiece}
use Rattle.data_text.specs.declared.data_fault.DataFault.{DataFault}
use Rattle.data_text.specs.declared.data_fault.DataFault.TheVariants.{BadWord, BadNumber, LongWord, LongGap, BadKind, TooMany, Short, Shape, Duplicate, TooManySections, Read as Device, Memory}
use Rattle.data_text.specs.Words.{items_from}
use Rattle.data_text.specs.Fault.{Read}
use Rattle.data_text.specs.Data.{Section, sections_of, sections_with, sections_at, kind_of}
use Rattle.data_text.specs.declared.reader.Reader.{Reader}
use Rattle.data_text.specs.Told.{ToldBy, Gives}
use Rattle.data_text.specs.Answered.{Answers, IsFaultOf}
use Rattle.data_text.specs.Continued.{continued}

-- Where it was told what was left, what is left now means to the reader what that meant to the reader before.
abbrev pub Remains : Option (List ℕ) → Reader → Option (List ℕ) → Reader → Type 0
Remains None before left r = ⊤
Remains (Some all) before None r = ⊥
Remains (Some all) before (Some left) r = (r.at + length left ≡ before.at + length all) × (continued r (before.at + length all) left ≡ continued before (before.at + length all) all)

pub begins : (left : Option (List ℕ)) (r : Reader) → Remains left r left r
begins None r = tt
begins (Some all) r = (refl, refl)

pub goes_on : (all left after : Option (List ℕ)) (piece : List ℕ) (before r s : Reader) → Remains all before left r → TakesPiece left after piece
    → s.at ≡ r.at + length piece → ((end : ℕ) (bytes : List ℕ) → continued r end (piece ++ bytes) ≡ continued s end bytes) → Remains all before after s
goes_on None left after piece before r s h t e m = tt
goes_on (Some all) None after piece before r s h t e m = absurd h
goes_on (Some all) (Some bytes) None piece before r s h t e m = absurd t
goes_on (Some all) (Some bytes) (Some rest) piece before r s h t e m =
    let len : length bytes ≡ length piece + length rest = ap length t.0 ∙ length-append piece rest in
    let end = before.at + length all in
    (omega arith, sym (m end rest) ∙ ap (λ (bs : List ℕ). continued r end bs) (sym t.0) ∙ h.1)

-- what a step tells, as an answer
pub answered : {Y : Type 0} (e : DataFault) (read : Read Y) → ToldBy e read → IsFaultOf e read
answered (BadWord n) read h = λ _ _. h
answered (BadNumber n) read h = λ _ _. h
answered (LongWord n) read h = λ _ _. h
answered (LongGap n) read h = λ _ _. h
answered (BadKind n) read h = λ _ _. h
answered (TooMany n) read h = λ _ _. h
answered (Short n) read h = λ _ _. h
answered (Shape n) read h = λ _ _. h
answered (Duplicate n) read h = λ _ _. h
answered (TooManySections n) read h = λ _ _. h
answered Device read h = absurd h
answered Memory read h = λ _ other. absurd (other refl)

pub all_answered : {X Y : Type 0} (view : X → Y) (result : Result X DataFault) (read : Read Y) → Gives view result read → Answers view result read
all_answered view (Ok x) read h = h
all_answered view (Err e) read h = answered e read h

-- a step blames no device
pub no_device : {Y : Type 0} (e : DataFault) (read : Read Y) → ToldBy e read → e ≡ Device → ⊥
no_device e read h same = rw same at h

pub none_unread : {X Y : Type 0} (view : X → Y) (result : Result X DataFault) (read : Read Y) → Gives view result read → IsErrOf result Device → ⊥
none_unread view (Ok x) read h same = cc
none_unread view (Err e) read h same =
    let device : e ≡ Device = cc in
    no_device e read h device

-- a step found the fault
pub faults : (all left after : Option (List ℕ)) (piece : List ℕ) (before r : Reader) (e : DataFault) → Remains all before left r → TakesPiece left after piece
    → ((end : ℕ) (bytes : List ℕ) → ToldBy e (continued r end (piece ++ bytes))) → IfSome all (λ bytes. IsFaultOf e (continued before (before.at + length bytes) bytes))
faults None left after piece before r e h t m = tt
faults (Some all) None after piece before r e h t m = absurd h
faults (Some all) (Some bytes) None piece before r e h t m = absurd t
faults (Some all) (Some bytes) (Some rest) piece before r e h t m =
    let end = before.at + length all in
    let same : continued r end (piece ++ rest) ≡ continued before end all = ap (λ (bs : List ℕ). continued r end bs) (sym t.0) ∙ h.1 in
    answered e _ (rw same at (m end rest))

-- the data ends
pub ends : {X : Type 0} (view : X → List Section) (result : Result X DataFault) (all left after : Option (List ℕ)) (piece : List ℕ) (before r : Reader) → Remains all before left r → TakesPiece left after piece
    → length piece ≡ 0 → Answers view result (continued r r.at []) → IfSome all (λ bytes. Answers view result (continued before (before.at + length bytes) bytes))
ends view result None left after piece before r h t z m = tt
ends view result (Some all) None after piece before r h t z m = absurd h
ends view result (Some all) (Some bytes) None piece before r h t z m = absurd t
ends view result (Some all) (Some []) (Some rest) piece before r h t z m =
    let k : r.at ≡ before.at + length all = omega (arith, h.0) in
    let e : continued r r.at [] ≡ continued before (before.at + length all) all = ap (λ (n : ℕ). continued r n []) k ∙ h.1 in
    rw e at m
ends view result (Some all) (Some (b ∷ bytes)) (Some rest) piece before r h t z m = absurd (omega (arith, t.1 z))

-- the whole content is left
pub whole : {X : Type 0} (view : X → List Section) (result : Result X DataFault) (content left : Option (List ℕ)) (r : Reader) → left ≡ content → r.at ≡ 0
    → ((end : ℕ) (bytes : List ℕ) → continued r end bytes ≡ sections_at kind_of end 64 [] (items_from 0 0 bytes))
    → IfSome left (λ bytes. Answers view result (continued r (r.at + length bytes) bytes)) → IfSome content (λ bytes. Answers view result (sections_of bytes))
unfolding sections_with
whole view result None left r e z m h = tt
whole view result (Some all) None r e z m h = cc
whole view result (Some all) (Some bytes) r e z m h =
    let k : r.at + length bytes ≡ length bytes = omega arith in
    let same : bytes ≡ all = cc in
    let f : List ℕ → Read (List Section) = λ bs. sections_at kind_of (length bs) 64 [] (items_from 0 0 bs) in
    rw (ap (λ (n : ℕ). continued r n bytes) k ∙ m (length bytes) bytes ∙ ap f same) at h

pub at_ok : {T E : Type 0} (r : Result T E) (P : Type 0) → is_err r ≡ false → OnOk r P → P
at_ok (Ok x) P e h = h
at_ok (Err x) P e h = cc

-- the sections, and the fault, of what an answer says
pub sections_told : {X : Type 0} (view : X → List Section) (result : Result X DataFault) (content : Option (List ℕ))
    → IfSome content (λ bytes. Answers view result (sections_of bytes)) → IfSome content (λ bytes. IfOk result (λ s. sections_of bytes ≡ Ok (view s)))
sections_told view result None h = tt
sections_told view (Ok s) (Some bytes) h = h
sections_told view (Err e) (Some bytes) h = tt

pub fault_told : {X : Type 0} (view : X → List Section) (result : Result X DataFault) (content : Option (List ℕ))
    → IfSome content (λ bytes. Answers view result (sections_of bytes)) → IfSome content (λ bytes. IfErr result (λ e. e ≢ Device → e ≢ Memory → sections_of bytes ≡ Err e))
fault_told view result None h = tt
fault_told view (Ok s) (Some bytes) h = tt
fault_told view (Err e) (Some bytes) h = h
