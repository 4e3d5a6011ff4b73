use Rattle.std.proofs.Common.{◌≤◌, ℕ, List, Option, take}
use Rattle.std.specs.List.{flat_map}
use Rattle.plain_text.specs.Given.{IsGiven}
use Rattle.plain_text.specs.Pending.{Pending}
use Rattle.script_lang.specs.TypesText.{statement_text}
use Rattle.script_lang.specs.declared.line.Line.{Line}
use Rattle.script_lang.specs.Views.{statement_of}
use Rattle.script_lang.proofs.types_text.write_lines.Given as goal

-- the lines up to here are given
pub record IsGivenTo (given : List ℕ) (before after : Pending) (written written' : Option (List ℕ)) (faults faults' : ℕ) : Type 0 where
  pub hands : IsGiven given before after written written'
  pub no_less : faults ≤ faults'

abbrev pub invariant-loop-line : goal.invariant-loop-line
invariant-loop-line g l = IsGivenTo (flat_map (λ (m : Line). statement_text (statement_of m)) (take l.line-index l.lines)) l.fn.out l.out (g.O.Sink.written l.fn.sink) (g.O.Sink.written l.sink) (g.O.Sink.faults l.fn.sink) (g.O.Sink.faults l.sink)
