-- Words for the worked rows.
use Rattle.std.specs.Prelude.{ℕ, zero, suc, List, [], ◌∷◌, ◌++◌, Result, codes, map, flat_map}
use Rattle.script_lang.specs.declared.fault.ScriptFault.{ScriptFault}
use Rattle.script_lang.specs.Syntax.{Statement}
use Rattle.script_lang.specs.Script.{script}

-- a script, and what it is
abbrev pub Row : Type 0
Row = List ℕ × Result (List Statement) ScriptFault

abbrev pub read : List Row → List (Result (List Statement) ScriptFault)
read rows = map (λ (r : Row). script r.0) rows

abbrev pub wanted : List Row → List (Result (List Statement) ScriptFault)
wanted rows = map (λ (r : Row). r.1) rows

-- four inputs, and then lines from the fifth on
abbrev pub after_inputs : List ℕ → List ℕ
after_inputs bytes = codes "input x list\ninput a matrix\ninput t tree\ninput r rose\n" ++ bytes

-- a text so often
abbrev pub times : ℕ → List ℕ → List ℕ
times zero text = []
times (suc n) text = text ++ times n text

abbrev eight : List ℕ
eight = codes "abcdefgh"

-- 64 names of two letters
abbrev names : List (List ℕ)
names = flat_map (λ b. map (λ c. b ∷ c ∷ []) eight) eight

abbrev pub around : List ℕ → List ℕ → List ℕ
around before after = flat_map (λ name. before ++ name ++ after) names

-- 64 inputs and 64 print lines, and then lines from the 129th on
abbrev pub full : List ℕ → List ℕ
full bytes = around (codes "input ") (codes " list\n") ++ around (codes "print ") (codes "\n") ++ bytes
