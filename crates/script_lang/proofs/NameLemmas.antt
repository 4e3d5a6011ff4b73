-- How look-ups go on over lines.
use Rattle.std.proofs.Common.{◌≡◌, ℕ, ◌+◌, true, false, List, [], ◌∷◌, refl, length, arith}
use Rattle.std.specs.Prelude.{option_map, Option, None, filter}
use Rattle.script_lang.specs.Syntax.{Statement, binds_input, binds_let, prints}
use Rattle.script_lang.specs.Steps.{Known, binds, bound_by, is_input, is_print, known_by, found_from}
use Rattle.script_lang.specs.Counts.{prints_from}

pub found_next : (n column : ℕ) (name : List ℕ) (l : Statement) (ls : List Statement) → binds name l ≡ false → found_from n column name (l ∷ ls) ≡ found_from (n + 1) column name ls
unfolding found_from
found_next n column name l ls e = rw e refl

pub found_here : (n column : ℕ) (name : List ℕ) (l : Statement) (ls : List Statement) → binds name l ≡ true → found_from n column name (l ∷ ls) ≡ option_map (known_by column n (is_input l)) (bound_by l)
unfolding found_from
found_here n column name l ls e = rw e refl

pub found_done : (n column : ℕ) (name : List ℕ) (rest : List Statement) (total : Option Known) → rest ≡ [] → found_from n column name rest ≡ total → None ≡ total
unfolding found_from
found_done n column name rest total e q = rw e at q

pub prints_is : (n : ℕ) (ls : List Statement) → prints_from n ls ≡ n + length (filter is_print ls)
prints_is n [] = omega arith
prints_is n (prints m ∷ ls) = omega (arith, prints_is (n + 1) ls)
prints_is n (binds_input b k ∷ ls) = prints_is n ls
prints_is n (binds_let b s ∷ ls) = prints_is n ls
