use Rattle.std.proofs.Common.{sym, ◌∙◌}
use Rattle.tree_accumulate.proofs.ChildLemmas.{inner_at}
use Rattle.tree_accumulate.proofs.children.left_value.Goals as goal

pub value-requires : goal.value-requires
value-requires c = let n = inner_at c.args.t.now.tree c.args._leaf c.args.i c.requires.within c.requires.inner in n.left_within

pub returns-clause-value : goal.returns-clause-value
returns-clause-value c = let n = inner_at c.args.t.now.tree c.args._leaf c.args.i c.requires.within c.requires.inner in c.value.ensures.value ∙ sym n.left
