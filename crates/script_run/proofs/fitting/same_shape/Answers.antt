use Rattle.script_run.proofs.FitLemmas.{tree_values, rose_values}
use Rattle.script_run.proofs.fitting.same_shape.Goals as goal

pub returns-in-Tree-Tree : goal.returns-in-Tree-Tree
returns-in-Tree-Tree c =
    tree_values c.args.a.now c.args.b.now c.in-Tree-Tree.x c.in-Tree-Tree.y c.same_shape.result c.in-Tree-Tree.is-0 c.in-Tree-Tree.is-1 c.same_shape.ensures

pub returns-in-Rose-Rose : goal.returns-in-Rose-Rose
returns-in-Rose-Rose c =
    rose_values c.args.a.now c.args.b.now c.in-Rose-Rose.x c.in-Rose-Rose.y c.same_shape-in-Rose-Rose.result c.in-Rose-Rose.is-0 c.in-Rose-Rose.is-1 c.same_shape-in-Rose-Rose.ensures
