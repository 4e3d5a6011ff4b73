use Rattle.std.proofs.Common.{sym, ◌∙◌}
use Rattle.script_lang.specs.declared.op.Op.TheVariants as op_word
use Rattle.script_lang.specs.Views.{known_of}
use Rattle.script_lang.proofs.GroupLemmas.{second_typed, first_typed}
use Rattle.script_lang.proofs.op_types.both_type.Goals as goal

pub returns-then-second_governs-clause-gives : goal.returns-then-second_governs-clause-gives
returns-then-second_governs-clause-gives c =
    rw (second_typed c.args.head c.args.down_column c.args.across_column (op_word.Flat c.args.down) (op_word.Flat c.args.across) (known_of c.args.x.now) (sym c.second_governs.ensures ∙ c.if-second_governs.true)) c.typed_at.ensures

pub returns-clause-gives : goal.returns-clause-gives
returns-clause-gives c =
    rw (first_typed c.args.head c.args.down_column c.args.across_column (op_word.Flat c.args.down) (op_word.Flat c.args.across) (known_of c.args.x.now) (sym c.second_governs.ensures ∙ c.if-second_governs.false)) c.typed_at-2.ensures
