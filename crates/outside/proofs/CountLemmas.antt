-- A fault of one name and the counts of the others.
use Rattle.std.proofs.Common.{◌≡◌, ◌≢◌, ℕ, false, List, Option, Some, None, get_or-set_other, ap, ◌∙◌, refl}
use Rattle.std.specs.Prelude.{IsSome, IfSome, option_and_then}
use Rattle.outside.specs.Outside.{OthersKept, raised}
use Rattle.outside.specs.Files.{File, file_of, place_of, content_of, with_reading}
use Rattle.outside.specs.MemShelf.{MemShelfState, count_at, faults_of, with_fault, started_place, after_start, after_failed_read}
use Rattle.outside.proofs.FileLemmas.{file_at_place, file_of-place}

-- two names of one place are one name
same_name : (files : List File) (name other : List ℕ) (i : ℕ) → place_of files name ≡ Some i → place_of files other ≡ Some i → other ≡ name
same_name files name other i e e' =
    let one = file_at_place files name i e in
    let two = file_at_place files other i e' in
    cc

count_kept : (s : MemShelfState) (name other : List ℕ) (place at : Option ℕ) → place_of s.held.files name ≡ place → place_of s.held.files other ≡ at
    → IsSome (content_of s.held.files other) → other ≢ name → count_at (with_fault s place) at ≡ count_at s at
count_kept s name other place None e e' told differs =
    let gone : file_of s.held.files other ≡ None = rw e' at (file_of-place s.held.files other) in
    let told_none = rw gone at told in
    cc
count_kept s name other None (Some j) e e' told differs = refl
count_kept s name other (Some i) (Some j) e e' told differs =
    let apart : j ≢ i = λ same. differs (same_name s.held.files name other i e (e' ∙ ap Some same)) in
    rw get_or-set_other refl

faults_kept : (s : MemShelfState) (name : List ℕ) (place : Option ℕ) → place_of s.held.files name ≡ place
    → OthersKept (content_of s.held.files) name (faults_of s) (faults_of (with_fault s place))
faults_kept s name None e = λ other told differs. count_kept s name other None _ e refl told differs
faults_kept s name (Some i) e = λ other told differs. count_kept s name other (Some i) _ e refl told differs

others_kept : (s : MemShelfState) (name : List ℕ) → OthersKept (content_of s.held.files) name (faults_of s) (faults_of (with_fault s (place_of s.held.files name)))
others_kept s name = faults_kept s name _ refl

others_kept_for : (s : MemShelfState) (reading : Option File)
    → IfSome reading (λ f. OthersKept (content_of s.held.files) f.name (faults_of s) (faults_of (with_fault s (option_and_then (λ g. place_of s.held.files g.name) reading))))
others_kept_for s None = tt
others_kept_for s (Some f) = others_kept s f.name

others_kept_reading : (s : MemShelfState)
    → IfSome s.held.reading (λ f. OthersKept (content_of s.held.files) f.name (faults_of s) (faults_of (with_fault s (started_place s))))
others_kept_reading s = others_kept_for s s.held.reading

-- after a start or a read that failed
pub others_after_start : (s : MemShelfState) (name : List ℕ) → OthersKept (content_of s.held.files) name (faults_of s) (faults_of (after_start s name false))
others_after_start s name = others_kept (record s { held = with_reading s.held None; calls = raised s.calls }) name

pub others_after_read : (s : MemShelfState)
    → IfSome s.held.reading (λ f. OthersKept (content_of s.held.files) f.name (faults_of s) (faults_of (after_failed_read s)))
others_after_read s = others_kept_reading (record s { calls = raised s.calls })
