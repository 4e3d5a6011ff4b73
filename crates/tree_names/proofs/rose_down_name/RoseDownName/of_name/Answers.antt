-- Each name is that of one operator.
use Rattle.std.proofs.Common.{◌≡◌, [], ◌∷◌, Some, refl, ap, sym, ◌∙◌}
use Rattle.tree_names.specs.declared.rose_down_name.RoseDownName.{RoseDownName}
use Rattle.tree_names.specs.declared.rose_down_name.RoseDownName.TheVariants as rose_down
use Rattle.tree_names.specs.Names.{rose_down_name, rose_down_named}
use Rattle.tree_names.proofs.Named.{find_named}
use Rattle.tree_names.proofs.rose_down_name.RoseDownName.of_name.Goals as goal

found : (op : RoseDownName) → rose_down_named (rose_down_name op) ≡ Some op
found rose_down.PathSum = refl

pub returns-clause-named : goal.returns-clause-named
returns-clause-named c = rw c.find_named.ensures (find_named rose_down_name c.args.word.now (rose_down.PathSum ∷ []))

pub returns-clause-known : goal.returns-clause-known
returns-clause-known c = λ op same. c.find_named.ensures ∙ ap rose_down_named (sym same) ∙ found op
