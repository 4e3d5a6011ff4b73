-- The least and the greatest value of trees and along paths.
use Rattle.std.specs.Prelude.{ℤ, pos, List, [], ◌∷◌, Option, Some, None}
use Rattle.std.specs.List.{fold}
use Rattle.std.specs.Int.{int_max}
use Rattle.op_laws.specs.Trees.{BTree}
use Rattle.op_laws.specs.TreeFolds.{Upward, Downward, fold_by}
use Rattle.op_laws.specs.Roses.{RoseTree}
use Rattle.op_laws.specs.RoseFolds as rose
use Rattle.op_catalog.specs.Numbers.{number_of}
use Rattle.tree_aux.specs.Joined.{joins_up, joins_down}

-- two numbers that may be absent, of which an absent one changes nothing
abbrev pub of_both : (ℤ → ℤ → ℤ) → Option ℤ → Option ℤ → Option ℤ
of_both choose None b = b
of_both choose (Some a) None = Some a
of_both choose (Some a) (Some b) = Some (choose a b)

-- a number, or what is chosen of it and another one, where that is there
abbrev pub or_chosen : (ℤ → ℤ → ℤ) → ℤ → Option ℤ → ℤ
or_chosen choose c None = c
or_chosen choose c (Some d) = choose c d

abbrev pub absent : List ℤ → Option ℤ
absent e = None

abbrev pub present : List ℤ → Option ℤ
present e = Some (number_of e)

-- the element of a number; of an absent one 0, which no result shows
abbrev pub single_or_naught : Option ℤ → List ℤ
single_or_naught None = pos 0 ∷ []
single_or_naught (Some c) = c ∷ []

abbrev pub bound_up : (ℤ → ℤ → ℤ) → Upward (List ℤ) ℤ ℤ
bound_up choose = joins_up number_of number_of choose

abbrev pub rose_bound_up : (ℤ → ℤ → ℤ) → Upward (List ℤ) (Option ℤ) (Option ℤ)
rose_bound_up choose = joins_up absent present (of_both choose)

abbrev pub path_max_down : Downward (List ℤ) ℤ ℤ
path_max_down = joins_down (λ c. c) number_of number_of int_max

-- the least (or the greatest) of the children's values and of the node's own
abbrev pub tree_bound : (ℤ → ℤ → ℤ) → BTree (List ℤ) → ℤ
tree_bound choose t = fold_by number_of (λ l b r. choose (choose l (number_of b)) r) t

-- the least (or the greatest) of the node's own value and of the children's
abbrev pub rose_bound : (ℤ → ℤ → ℤ) → RoseTree (List ℤ) → ℤ
rose_bound choose r = rose.fold_by (λ a vs. fold choose (number_of a) vs) r

-- what comes down to both children of a node
abbrev pub max_step : ℤ → List ℤ → ℤ
max_step c e = int_max c (number_of e)
