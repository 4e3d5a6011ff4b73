-- Sums over trees and along paths.
use Rattle.std.specs.Prelude.{ℤ, pos, ◌+ℤ◌, List, [], ◌∷◌}
use Rattle.op_laws.specs.declared.width.Width.{Width}
use Rattle.op_laws.specs.declared.width.Width.TheVariants.{W96}
use Rattle.op_laws.specs.Trees.{BTree}
use Rattle.op_laws.specs.TreeFolds.{Upward, Downward, fold_by}
use Rattle.op_laws.specs.Roses.{RoseTree}
use Rattle.op_laws.specs.RoseFolds as rose
use Rattle.op_catalog.specs.Numbers.{number_of}
use Rattle.op_catalog.specs.Sums.{sum_of}
use Rattle.tree_aux.specs.Joined.{joins_up, joins_down}

abbrev pub plus : ℤ → ℤ → ℤ
plus a b = a +ℤ b

-- the number 0, for every element
abbrev pub naught : List ℤ → ℤ
naught e = pos 0

abbrev pub one : List ℤ → ℤ
one e = pos 1

abbrev pub one_more : List ℤ → ℤ
one_more e = pos 1 +ℤ number_of e

-- a sum as an element
abbrev pub single : ℤ → List ℤ
single c = c ∷ []

abbrev pub sum_up : Upward (List ℤ) ℤ ℤ
sum_up = joins_up number_of number_of plus

abbrev pub rose_sum_up : Upward (List ℤ) ℤ ℤ
rose_sum_up = joins_up naught number_of plus

abbrev pub path_sum_down : Downward (List ℤ) ℤ ℤ
path_sum_down = joins_down (λ c. c) number_of number_of plus

abbrev pub turns_down : Downward (List ℤ) ℤ ℤ
turns_down = joins_down (λ c. c) one naught plus

abbrev pub pre_down : Downward (List ℤ) ℤ ℤ
pre_down = joins_down (λ c. c) one one_more plus

abbrev pub rose_path_sum_down : Downward (List ℤ) ℤ ℤ
rose_path_sum_down = joins_down (λ c. c) number_of naught plus

-- the sum of all values
abbrev pub tree_sum : BTree (List ℤ) → ℤ
tree_sum t = fold_by number_of (λ l b r. (l +ℤ number_of b) +ℤ r) t

-- a value and the sums of the children
abbrev pub rose_sum : RoseTree (List ℤ) → ℤ
rose_sum r = rose.fold_by (λ a vs. number_of a +ℤ sum_of vs) r

-- every type of element
abbrev pub IsAny : List Width → Type 0
IsAny ty = Unit {0}

abbrev pub turns_type : List Width
turns_type = W96 ∷ []

-- what comes down to the left and the right child of a node
abbrev pub path_step : ℤ → List ℤ → ℤ
path_step c e = c +ℤ number_of e

abbrev pub turns_left : ℤ → List ℤ → ℤ
turns_left c e = c +ℤ pos 1

abbrev pub turns_right : ℤ → List ℤ → ℤ
turns_right c e = c

abbrev pub pre_left : ℤ → List ℤ → ℤ
pre_left c e = c +ℤ pos 1

abbrev pub pre_right : ℤ → List ℤ → ℤ
pre_right c e = (c +ℤ pos 1) +ℤ number_of e
