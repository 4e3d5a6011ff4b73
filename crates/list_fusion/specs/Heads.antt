-- The elements that a head has.
use Rattle.std.specs.Prelude.{◌≡◌, ◌+◌, ◌≤◌, [], ◌∷◌, ◌++◌, length}
use Rattle.op_laws.specs.declared.width.Width.TheVariants.{W64}
use Rattle.op_laws.specs.Elements.{Elements}
use Rattle.op_laws.specs.Lists.{zipped, iota}
use Rattle.list_fusion.specs.declared.head.Head.{Head}
use Rattle.list_fusion.specs.declared.head.Head.TheVariants.{One, Two, Iota}

abbrev pub head_of : Head → Elements
head_of (One x) = x.now
head_of (Two x y) = record { ty = x.now.ty ++ y.now.ty; items = zipped x.now.items y.now.items }
head_of (Iota n) = record { ty = W64 ∷ []; items = iota n }

-- two lists are equally long and have at most 4 components together
abbrev pub CanBeHead : Head → Type 0
CanBeHead (One x) = Unit {0}
CanBeHead (Two x y) = (length x.now.items ≡ length y.now.items) × (length x.now.ty + length y.now.ty ≤ 4)
CanBeHead (Iota n) = Unit {0}
