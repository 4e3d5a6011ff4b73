-- Columns of numbers, and what a function needs to go over them.
use Rattle.std.specs.Prelude.{◌≡◌, ℕ, ◌+◌, max, ℤ, pos, Bool, true, false, ◌&&◌, List, [], ◌∷◌, map, slice_index_or}
use Rattle.std.specs.List.{list_all}
use Rattle.op_laws.specs.declared.width.Width.{Width}
use Rattle.op_laws.specs.declared.width.Width.TheVariants.{W64, W96, W128}
use Rattle.scalar_expr.specs.declared.pair.Pair.{Pair}
use Rattle.scalar_expr.specs.declared.pair.Pair.TheVariants.{Add, Sub}
use Rattle.scalar_expr.specs.Expr.{Expr, lit, part, two, cond, wrap}

-- ---- which functions are computed in 64 bits

abbrev pub is_w64 : Width → Bool
is_w64 W64 = true
is_w64 w = false

abbrev pub is_sum : Pair → Bool
is_sum Add = true
is_sum Sub = true
is_sum op = false

abbrev pub keeps_64 : Pair → Bool
keeps_64 op = elim (is_sum op) [ true ↦ false | false ↦ true ]

-- on numbers of w64 each node has the width w64, where a sum or a difference that is wrapped counts as one node
abbrev pub stays_narrow : Expr → Bool
stays_narrow (lit n) = true
stays_narrow (part i) = true
stays_narrow (two op a b) = keeps_64 op && (stays_narrow a && stays_narrow b)
stays_narrow (cond c a b) = stays_narrow c && (stays_narrow a && stays_narrow b)
stays_narrow (wrap (two Add a b)) = stays_narrow a && stays_narrow b
stays_narrow (wrap (two Sub a b)) = stays_narrow a && stays_narrow b
stays_narrow (wrap a) = stays_narrow a

-- a function that takes numbers of w64, and stays with them
abbrev pub is_narrow : List Width → List Expr → Bool
is_narrow ty scalars = list_all is_w64 ty && list_all stays_narrow scalars

-- ---- how many columns of results are held at once

abbrev pub is_atom : Expr → Bool
is_atom (lit n) = true
is_atom (part i) = true
is_atom s = false

-- a literal and a component are read where they are
abbrev pub columns_held : Expr → ℕ
columns_held s = elim (is_atom s) [ true ↦ 0 | false ↦ 1 ]

-- while a scalar is computed, its own result with it: part after part, each result held until the node has all
abbrev pub columns_needed : Expr → ℕ
columns_needed (lit n) = 0
columns_needed (part i) = 0
columns_needed (two op a b) = max 1 (max (columns_needed a) (columns_held a + columns_needed b))
columns_needed (cond c a b) = max 1 (max (columns_needed c) (max (columns_held c + columns_needed a) (columns_held c + columns_held a + columns_needed b)))
columns_needed (wrap a) = max 1 (columns_needed a)

-- the results of these scalars, after k others
abbrev pub room_from : ℕ → List Expr → ℕ
room_from k [] = 0
room_from k (s ∷ ss) = max (k + max 1 (columns_needed s)) (room_from (k + 1) ss)

abbrev pub room_of : List Expr → ℕ
room_of scalars = room_from 0 scalars
