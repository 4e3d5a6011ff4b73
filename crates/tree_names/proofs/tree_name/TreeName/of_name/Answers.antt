-- Each name is that of one operator.
use Rattle.std.proofs.Common.{◌≡◌, [], ◌∷◌, Some, refl, ap, sym, ◌∙◌}
use Rattle.tree_names.specs.declared.tree_name.TreeName.{TreeName}
use Rattle.tree_names.specs.declared.tree_name.TreeName.TheVariants as tree
use Rattle.tree_names.specs.Names.{tree_name, tree_named}
use Rattle.tree_names.proofs.Named.{find_named}
use Rattle.tree_names.proofs.tree_name.TreeName.of_name.Goals as goal

found : (op : TreeName) → tree_named (tree_name op) ≡ Some op
found tree.Sum = refl
found tree.Min = refl
found tree.Max = refl
found tree.Heavy = refl
found tree.BestSub = refl
found tree.Expr = refl

pub returns-clause-named : goal.returns-clause-named
returns-clause-named c = rw c.find_named.ensures (find_named tree_name c.args.word.now (tree.Sum ∷ tree.Min ∷ tree.Max ∷ tree.Heavy ∷ tree.BestSub ∷ tree.Expr ∷ []))

pub returns-clause-known : goal.returns-clause-known
returns-clause-known c = λ op same. c.find_named.ensures ∙ ap tree_named (sym same) ∙ found op
