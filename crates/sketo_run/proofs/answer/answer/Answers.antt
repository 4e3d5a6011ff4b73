use Rattle.std.proofs.Common.{map}
use Rattle.std.proofs.lemmas.Result.{err_from_is_err_and}
use Rattle.data_text.specs.Named.{section_of}
use Rattle.script_lang.specs.Views.{statement_of}
use Rattle.sketo_run.proofs.AnswerLemmas.{made, refused_data}
use Rattle.sketo_run.proofs.ReadLemmas.{script_alone, script_and_data}
use Rattle.sketo_run.proofs.answer.answer.Goals as goal

pub returns-clause-ok : goal.returns-clause-ok
returns-clause-ok g c =
    made c.fitted.result (g.F.Shelf.content c.args.shelf.now c.args.script.now) (g.F.Shelf.content c.args.shelf.now c.args.input.now)
    (map statement_of c.in_ok-program.program) (map section_of c.in_ok-sections.sections)
    c.in_ok-program.ensures.accepted c.in_ok-program.ensures.lists (rw c.in_ok-program.ensures.content at c.in_ok-sections.ensures.sections) c.fitted.ensures.fits c.fitted.ensures.values

pub returns-in_err-sections-clause-refused : goal.returns-in_err-sections-clause-refused
returns-in_err-sections-clause-refused g c =
    let p = err_from_is_err_and c.from_residual-in_err-sections.result c.from_residual-in_err-sections.ensures.1 in
    rw (p.1, p.2) (refused_data (g.F.Shelf.content c.args.shelf.now c.args.script.now) (g.F.Shelf.content c.args.shelf.now c.args.input.now) (map statement_of c.in_ok-program.program) c.in_err-sections.field-0.0
    c.in_ok-program.ensures.accepted c.in_ok-program.ensures.lists (rw c.in_ok-program.ensures.content at c.in_err-sections.ensures.fault))

pub returns-in_err-program-clause-others : goal.returns-in_err-program-clause-others
returns-in_err-program-clause-others g c = λ tells. script_alone (record { script = c.args.script.now; input = c.args.input.now }) _ _ _ (c.in_err-program.ensures.others tells)

pub returns-in_err-sections-clause-others : goal.returns-in_err-sections-clause-others
returns-in_err-sections-clause-others g c = λ tells.
    script_and_data (record { script = c.args.script.now; input = c.args.input.now }) _ _ _ _ _ (map statement_of c.in_ok-program.program) c.in_ok-program.ensures.accepted c.in_ok-program.ensures.lists
    (c.in_ok-program.ensures.others tells) c.in_ok-program.ensures.content (c.in_err-sections.ensures.others.kept (tells c.read_data.new.shelf))

pub returns-clause-others : goal.returns-clause-others
returns-clause-others g c = λ tells.
    script_and_data (record { script = c.args.script.now; input = c.args.input.now }) _ _ _ _ _ (map statement_of c.in_ok-program.program) c.in_ok-program.ensures.accepted c.in_ok-program.ensures.lists
    (c.in_ok-program.ensures.others tells) c.in_ok-program.ensures.content (c.in_ok-sections.ensures.others.kept (tells c.read_data.new.shelf))
