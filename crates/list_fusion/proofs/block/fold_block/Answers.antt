use Rattle.std.proofs.Common.{ap, sym, ◌∙◌}
use Rattle.op_laws.specs.Folds.{fold_of}
use Rattle.list_fusion.proofs.NumberLemmas.{plain-block, plain-admitted}
use Rattle.list_fusion.proofs.block.fold_block.Goals as goal

pub returns-in-Some-clause-value : goal.returns-in-Some-clause-value
returns-in-Some-clause-value g c =
    c.fold_numbers.ensures.value
    ∙ ap (fold_of (g.M.Lifted.lifted c.args.op.now) (g.M.Semi.combined c.args.op.now)) (sym (plain-block c.args.pipe.now c.in-Some.numbers.now c.args.from c.args.to c.in-Some.ensures))

pub returns-in-Some-clause-admitted : goal.returns-in-Some-clause-admitted
returns-in-Some-clause-admitted g c = plain-admitted c.args.pipe.now c.in-Some.numbers.now c.args.from c.args.to c.in-Some.ensures
