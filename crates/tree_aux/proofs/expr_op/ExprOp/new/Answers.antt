use Rattle.std.proofs.Common.{ap}
use Rattle.tree_aux.specs.SumTrees.{single}
use Rattle.tree_aux.proofs.TreeMeanings.{expr_are}
use Rattle.tree_aux.proofs.expr_op.ExprOp.new.Goals as goal

pub returns : goal.returns
returns c = record { whole = λ ty t taken admitted. ap single (expr_are t) }
