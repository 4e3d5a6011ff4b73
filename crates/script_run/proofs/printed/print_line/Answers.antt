use Rattle.std.proofs.Common.{None, ap}
use Rattle.std.proofs.lemmas.Result.{on_ok_weaker}
use Rattle.script_lang.specs.Views.{statement_of}
use Rattle.script_run.proofs.PrintedLemmas.{others_kept}
use Rattle.script_run.proofs.printed.print_line.Goals as goal

pub add_printed-requires-clause-within : goal.add_printed-requires-clause-within
add_printed-requires-clause-within c = c.requires.within c.in-Print.of (ap statement_of c.in-Print.is)

pub returns-in-Print-clause-others : goal.returns-in-Print-clause-others
returns-in-Print-clause-others c =
    on_ok_weaker c.add_printed.result (λ taken n apart. rw taken (others_kept c.args.table.now None (statement_of c.args.line.now) c.in-Print.of n (ap statement_of c.in-Print.is) apart)) c.add_printed.ensures.taken
