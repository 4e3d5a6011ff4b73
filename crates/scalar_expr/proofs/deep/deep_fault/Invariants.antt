use Rattle.std.proofs.Common.{◌≡◌, ◌+◌, ◌<◌, ◌^◌}
use Rattle.scalar_expr.specs.Expr.{nodes, depth_of, postorder}
use Rattle.scalar_expr.specs.Typing.{first_fault}
use Rattle.scalar_expr.specs.Views.{expr_of}
use Rattle.scalar_expr.proofs.deep.deep_fault.Given as goal

abbrev pub invariant-loop-fault : goal.invariant-loop-fault
invariant-loop-fault l = record {
  deep : 30 < depth_of (expr_of l.node);
  few : l.at + nodes (expr_of l.node) < 2 ^ 32;
  first : first_fault l.ty l.at (postorder (expr_of l.node)) ≡ first_fault l.ty l.place (postorder (expr_of l.fn.s));
}

abbrev pub decreases-loop-fault : goal.decreases-loop-fault
decreases-loop-fault l = nodes (expr_of l.node)
