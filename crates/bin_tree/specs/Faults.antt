-- Why nodes in preorder make no tree: words that no public clause cites.
use Rattle.std.specs.Prelude.{ℕ, List}
use Rattle.bin_tree.specs.Places.{IsClosedAt, IsShort, IsWhole}
use Rattle.bin_tree.specs.declared.fault.TreeFault.{TreeFault}
use Rattle.bin_tree.specs.declared.fault.TreeFault.TheVariants.{Short, Closed, Memory}

-- the fault comes for nodes with these numbers of children; memory is asked for only where they make a tree
abbrev pub IsCause : List ℕ → TreeFault → Type 0
IsCause cs Short = IsShort cs
IsCause cs (Closed i) = IsClosedAt cs i
IsCause cs Memory = IsWhole cs
