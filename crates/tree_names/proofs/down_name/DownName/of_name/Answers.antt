-- Each name is that of one operator.
use Rattle.std.proofs.Common.{◌≡◌, [], ◌∷◌, Some, refl, ap, sym, ◌∙◌}
use Rattle.tree_names.specs.declared.down_name.DownName.{DownName}
use Rattle.tree_names.specs.declared.down_name.DownName.TheVariants as down
use Rattle.tree_names.specs.Names.{down_name, down_named}
use Rattle.tree_names.proofs.Named.{find_named}
use Rattle.tree_names.proofs.down_name.DownName.of_name.Goals as goal

found : (op : DownName) → down_named (down_name op) ≡ Some op
found down.PathSum = refl
found down.PathMax = refl
found down.Turns = refl
found down.HeapIndex = refl
found down.Pre = refl

pub returns-clause-named : goal.returns-clause-named
returns-clause-named c = rw c.find_named.ensures (find_named down_name c.args.word.now (down.PathSum ∷ down.PathMax ∷ down.Turns ∷ down.HeapIndex ∷ down.Pre ∷ []))

pub returns-clause-known : goal.returns-clause-known
returns-clause-known c = λ op same. c.find_named.ensures ∙ ap down_named (sym same) ∙ found op
