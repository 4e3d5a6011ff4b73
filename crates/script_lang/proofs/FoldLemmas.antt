-- Line after line.
use Rattle.std.proofs.Common.{◌≡◌, List, [], ◌∷◌, ◌++◌, Ok, Result, refl, sym, ◌∙◌}
use Rattle.script_words.specs.Lines.{Source}
use Rattle.script_lang.specs.declared.fault.ScriptFault.{ScriptFault}
use Rattle.script_lang.specs.declared.fault.ScriptFault.TheVariants as fault
use Rattle.script_lang.specs.Syntax.{Statement}
use Rattle.script_lang.specs.Script.{line_at, of_line, lines_at, FailsIn}

pub lines_next : (lines : List Statement) (s : Source) (ss : List Source) (l : Statement) → of_line s.number (line_at lines s.tokens) ≡ Ok l → lines_at lines (s ∷ ss) ≡ lines_at (lines ++ l ∷ []) ss
unfolding lines_at
lines_next lines s ss l e = rw e refl

pub lines_fail : (e : ScriptFault) (lines : List Statement) (s : Source) (ss : List Source) (total : Result (List Statement) ScriptFault) → FailsIn e (of_line s.number (line_at lines s.tokens)) → lines_at lines (s ∷ ss) ≡ total → FailsIn e total
unfolding lines_at
lines_fail fault.Memory lines s ss total h q = tt
lines_fail fault.Long lines s ss total h q = sym q ∙ rw h refl
lines_fail (fault.At n c w) lines s ss total h q = sym q ∙ rw h refl

pub lines_done : (lines : List Statement) (rest : List Source) (total : Result (List Statement) ScriptFault) → rest ≡ [] → lines_at lines rest ≡ total → total ≡ Ok lines
unfolding lines_at
lines_done lines rest total e q = sym q ∙ rw e refl
