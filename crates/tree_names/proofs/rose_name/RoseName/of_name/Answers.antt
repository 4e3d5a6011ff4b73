-- Each name is that of one operator.
use Rattle.std.proofs.Common.{◌≡◌, [], ◌∷◌, Some, refl, ap, sym, ◌∙◌}
use Rattle.tree_names.specs.declared.rose_name.RoseName.{RoseName}
use Rattle.tree_names.specs.declared.rose_name.RoseName.TheVariants as rose
use Rattle.tree_names.specs.Names.{rose_name, rose_named}
use Rattle.tree_names.proofs.Named.{find_named}
use Rattle.tree_names.proofs.rose_name.RoseName.of_name.Goals as goal

found : (op : RoseName) → rose_named (rose_name op) ≡ Some op
found rose.Sum = refl
found rose.Max = refl
found rose.Min = refl
found rose.Heavy = refl
found rose.Ring = refl

pub returns-clause-named : goal.returns-clause-named
returns-clause-named c = rw c.find_named.ensures (find_named rose_name c.args.word.now (rose.Sum ∷ rose.Max ∷ rose.Min ∷ rose.Heavy ∷ rose.Ring ∷ []))

pub returns-clause-known : goal.returns-clause-known
returns-clause-known c = λ op same. c.find_named.ensures ∙ ap rose_named (sym same) ∙ found op
