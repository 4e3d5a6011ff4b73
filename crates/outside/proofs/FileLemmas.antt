-- The first file of a name, by its place and by itself.
use Rattle.std.proofs.Common.{◌≡◌, ℕ, ◌<◌, ◌≤◌, Bool, true, false, cond, not, List, [], ◌∷◌, Option, Some, None, length, map, refl, ◌∙◌, inl, inr, arith, IfSome, nat_lt}
use Rattle.std.specs.Prelude.{slice_get, position, option_map, option_and_then, is_some, bytes_eq}
use Rattle.std.specs.List.{position_or_len, prefix_len}
use Rattle.std.proofs.lemmas.Bool.Decides.{nat_tests}
use Rattle.std.proofs.lemmas.List.{length-map}
use Rattle.std.proofs.lemmas.List.Folds.{find_at}
use Rattle.std.proofs.lemmas.Option.{slice_get_cases, slice_get_past}
use Rattle.std.proofs.lemmas.Slice.Eq.{bytes_eq-Decides}
use Rattle.outside.specs.Files.{File, file_from, file_of, place_of}

prefix_len-map : {A B : Type 0} (p : B → Bool) (f : A → B) (xs : List A) → prefix_len p (map f xs) ≡ prefix_len (λ x. p (f x)) xs
prefix_len-map p f [] = refl
prefix_len-map p f (x ∷ xs) = rw (prefix_len-map p f xs) refl

pub position-map : {A B : Type 0} (p : B → Bool) (f : A → B) (xs : List A) → position p (map f xs) ≡ position (λ x. p (f x)) xs
position-map p f xs = rw (prefix_len-map (λ x. not (p x)) f xs, length-map xs f) refl

-- what holds of the first value where the test passes, and of the other choice, holds of the choice
chosen : (b : Bool) (f : File) (other : Option File) (P : File → Type 0) → (b ≡ true → P f) → IfSome other P → IfSome (cond b (Some f) other) P
chosen true f other P here there = here refl
chosen false f other P here there = there

-- a file that is found has the name
pub name-file_of : (files : List File) (name : List ℕ) → IfSome (file_of files name) (λ f. f.name ≡ name)
name-file_of [] name = tt
name-file_of (f ∷ files) name =
    chosen (bytes_eq f.name name) f (file_of files name) (λ g. g.name ≡ name) (bytes_eq-Decides f.name name).0 (name-file_of files name)

at_place : (b : Bool) (files : List File) (n : ℕ) → nat_lt n (length files) ≡ b → slice_get files n ≡ option_and_then (slice_get files) (cond b (Some n) None)
at_place true files n e = refl
at_place false files n e = slice_get_past files n (grind (arith, nat_tests))

pub file_of-place : (files : List File) (name : List ℕ) → file_of files name ≡ option_and_then (slice_get files) (place_of files name)
file_of-place files name =
    let p : File → Bool = λ f. bytes_eq f.name name in
    find_at p files ∙ at_place (nat_lt (position_or_len p files) (length files)) files (position_or_len p files) refl

within : (b : Bool) (n len i : ℕ) → nat_lt n len ≡ b → cond b (Some n) None ≡ Some i → i < len
within true n len i t e = let same : n ≡ i = cc in grind (arith, nat_tests)
within false n len i t e = cc

-- the file at the place that was found is the one that was found, and has the name
pub file_at_place : (files : List File) (name : List ℕ) (i : ℕ) → place_of files name ≡ Some i
    → (f : File) × (slice_get files i ≡ Some f) × (file_of files name ≡ Some f) × (f.name ≡ name)
file_at_place files name i e =
    let found : file_of files name ≡ slice_get files i = rw e at (file_of-place files name) in
    elim (slice_get_cases files i).1 [
      | inl h ↦ (h.0, h.2, found ∙ h.2, rw (found ∙ h.2) at (name-file_of files name))
      | inr h ↦ absurd (let here = within (nat_lt (position_or_len (λ f. bytes_eq f.name name) files) (length files)) _ (length files) i refl e in omega arith)
    ]

-- what an open file at its beginning is
pub opened : (files : List File) (name : List ℕ) (place i : ℕ) → place_of files name ≡ Some place → Some place ≡ Some i
    → (f : File) × (slice_get files i ≡ Some f) × (place_of files f.name ≡ Some i) × (0 ≤ length f.bytes)
opened files name place i e s =
    let found = file_at_place files name i (e ∙ s) in
    (found.0, found.1, rw found.3 (e ∙ s), omega arith)

pub begun : (files : List File) (name : List ℕ) (place : ℕ) → place_of files name ≡ Some place → option_map (file_from 0) (slice_get files place) ≡ file_of files name
begun files name place e = let found = file_at_place files name place e in rw (found.1, found.2) refl

-- a place is found just where a file is
some_or_none : (files : List File) (name : List ℕ) (place : Option ℕ) → place_of files name ≡ place → is_some place ≡ is_some (file_of files name)
some_or_none files name None e = rw (rw e at (file_of-place files name)) refl
some_or_none files name (Some i) e = rw (file_at_place files name i e).2 refl

pub is_some-place_of : (files : List File) (name : List ℕ) → is_some (place_of files name) ≡ is_some (file_of files name)
is_some-place_of files name = some_or_none files name (place_of files name) refl
