-- Lines by their numbers, and the lines before them.
use Rattle.std.proofs.Common.{◌≡◌, ℕ, zero, suc, ◌+◌, ◌<◌, Bool, true, false, List, [], ◌∷◌, ◌++◌, map, length, take, get_or, Option, Some, refl, ap, ◌∙◌, arith}
use Rattle.std.specs.Prelude.{slice_get, option_map, ◌||◌}
use Rattle.std.specs.List.{list_any}
use Rattle.std.proofs.lemmas.List.{take_more}
use Rattle.std.proofs.lemmas.Option.{slice_get-map, slice_get_read, slice_get_within, get_or_from_slice_get}
use Rattle.script_lang.specs.declared.line.Line.{Line}
use Rattle.script_lang.specs.Views.{statement_of}

-- a line that is read
pub line_is : (ls : List Line) (n : ℕ) (l : Line) → n < length ls → l ≡ get_or ls n l → slice_get (map statement_of ls) n ≡ Some (statement_of l)
line_is ls n l lt is = slice_get-map statement_of ls n ∙ ap (λ (o : Option Line). option_map statement_of o) (slice_get_read ls (length ls) n l refl lt is)

-- the lines up to the one of this number are those before it, and this one
pub take_line : {X : Type 0} (xs : List X) (n : ℕ) (x : X) → slice_get xs n ≡ Some x → take (n + 1) xs ≡ take n xs ++ x ∷ []
take_line xs n x at = take_more xs n x (slice_get_within xs n x at) ∙ ap (λ (y : _). take n xs ++ y ∷ []) (get_or_from_slice_get xs n x x at)

neither : (a b : Bool) → (a || b) ≡ false → (a ≡ false) × (b ≡ false)
neither true b e = let no : ⊥ = cc in absurd no
neither false b e = (refl, e)

-- where none of the first elements passes a test, one of them doesn't
pub none_before : {X : Type 0} (p : X → Bool) (xs : List X) (n m : ℕ) (x : X) → list_any p (take n xs) ≡ false → m < n → slice_get xs m ≡ Some x → p x ≡ false
none_before p [] n m x none lt at = cc
none_before p (y ∷ xs) zero m x none lt at = let no : ⊥ = omega arith in absurd no
none_before p (y ∷ xs) (suc n) zero x none lt at = let same : y ≡ x = cc in rw same at (neither (p y) (list_any p (take n xs)) none).0
none_before p (y ∷ xs) (suc n) (suc m) x none lt at = none_before p xs n m x (neither (p y) (list_any p (take n xs)) none).1 (omega arith) at
