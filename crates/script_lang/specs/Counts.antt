-- How the loop over lines counts those that print. No public clause cites this file.
use Rattle.std.specs.Prelude.{ℕ, ◌+◌, List, [], ◌∷◌}
use Rattle.script_lang.specs.Syntax.{Statement, prints}

-- print lines, where so many came before
abbrev pub prints_from : ℕ → List Statement → ℕ
prints_from n [] = n
prints_from n (prints m ∷ ls) = prints_from (n + 1) ls
prints_from n (l ∷ ls) = prints_from n ls
