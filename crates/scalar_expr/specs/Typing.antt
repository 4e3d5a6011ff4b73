-- The type that a function of scalars gives, or its first fault in postorder.
use Rattle.std.specs.Prelude.{◌≡◌, ℕ, zero, suc, ◌+◌, nat_lt, List, [], ◌∷◌, ◌++◌, slice_get, if◌then◌else◌, Option, Some, None, Result, Ok, Err, pos, refl}
use Rattle.std.specs.List.{flat_map, filter_map}
use Rattle.op_laws.specs.declared.width.Width.{Width}
use Rattle.op_laws.specs.declared.width.Width.TheVariants.{W64, W96, W128}
use Rattle.op_laws.specs.Widths.{next_width, wider_width}
use Rattle.scalar_expr.specs.declared.TheConstants.{MAX_DEPTH}
use Rattle.scalar_expr.specs.declared.pair.Pair.{Pair}
use Rattle.scalar_expr.specs.declared.pair.Pair.TheVariants.{Add, Sub, Mul, Min, Max, Less, Same, And, Or, Xor}
use Rattle.scalar_expr.specs.declared.fault.TypeFault.{TypeFault}
use Rattle.scalar_expr.specs.declared.fault.TypeFault.TheVariants.{NoPart, TooWide, TooDeep}
use Rattle.scalar_expr.specs.Expr.{Expr, lit, part, two, cond, wrap, postorder, depth_of}

-- the width of a sum or a difference
abbrev pub sum_width : Width → Width → Option Width
sum_width v w = next_width (wider_width v w)

-- the width of what is one of two numbers
abbrev pub either_width : Width → Width → Option Width
either_width v w = Some (wider_width v w)

-- the width of bits, which are those of 64-bit numbers
abbrev pub bits_width : Width → Width → Option Width
bits_width W64 W64 = Some W64
bits_width v w = None

-- the width of what an operator gives on parts of these widths; none where it is too wide
abbrev pub pair_width : Pair → Width → Width → Option Width
pair_width Add v w = sum_width v w
pair_width Sub v w = sum_width v w
pair_width Mul v w = Some W64
pair_width Min v w = either_width v w
pair_width Max v w = either_width v w
pair_width Less v w = Some W64
pair_width Same v w = Some W64
pair_width And v w = bits_width v w
pair_width Or v w = bits_width v w
pair_width Xor v w = bits_width v w

abbrev pub with_one : (Width → Option Width) → Option Width → Option Width
with_one f None = None
with_one f (Some v) = f v

abbrev pub with_two : (Width → Width → Option Width) → Option Width → Option Width → Option Width
with_two f v w = with_one (λ x. with_one (f x) w) v

-- the width of a scalar on elements of this type; none where a component or a width is missing
abbrev pub width_of : List Width → Expr → Option Width
width_of ty (lit n) = Some W64
width_of ty (part i) = slice_get ty i
width_of ty (two op a b) = with_two (pair_width op) (width_of ty a) (width_of ty b)
width_of ty (cond c a b) = with_one (λ _. with_two either_width (width_of ty a) (width_of ty b)) (width_of ty c)
width_of ty (wrap a) = with_one (λ _. Some W64) (width_of ty a)

-- what is wrong with a node that has this width and whose parts have theirs
abbrev pub no_width : ℕ → Expr → Option Width → Option TypeFault
no_width place s (Some w) = None
no_width place (part i) None = Some (NoPart place)
no_width place s None = Some (TooWide place)

-- what is wrong with the node at this place: it is too deep, or else it has no width
abbrev pub fault_at : List Width → ℕ → Expr → Option TypeFault
fault_at ty place s = if nat_lt MAX_DEPTH (depth_of s) then Some (TooDeep place) else no_width place s (width_of ty s)

abbrev pub or_else : Option TypeFault → Option TypeFault → Option TypeFault
or_else (Some f) later = Some f
or_else None later = later

-- the first fault of nodes one after another, the first of which has this place
abbrev pub first_fault : List Width → ℕ → List Expr → Option TypeFault
first_fault ty place [] = None
first_fault ty place (s ∷ ss) = or_else (fault_at ty place s) (first_fault ty (place + 1) ss)

-- the nodes of a function's scalars
abbrev pub nodes_of : List Expr → List Expr
nodes_of scalars = flat_map postorder scalars

abbrev pub unless_fault : {X : Type 0} → Option TypeFault → X → Result X TypeFault
unless_fault (Some f) x = Err f
unless_fault None x = Ok x

-- the type that a function gives on elements of this type, or its first fault in postorder
abbrev pub typed : List Width → List Expr → Result (List Width) TypeFault
typed ty scalars = unless_fault (first_fault ty 0 (nodes_of scalars)) (filter_map (width_of ty) scalars)

-- worked rows

two_components : typed (W64 ∷ W64 ∷ []) (two Add (part 0) (part 1) ∷ part 1 ∷ []) ≡ Ok (W96 ∷ W64 ∷ [])
two_components = refl

no_component : typed (W64 ∷ []) (two Add (part 0) (part 1) ∷ []) ≡ Err (NoPart 1)
no_component = refl

too_wide : typed (W64 ∷ []) (two And (two Add (part 0) (part 0)) (lit (pos 1)) ∷ []) ≡ Err (TooWide 4)
too_wide = refl

-- places run on over the scalars of a tuple
second_scalar : typed (W64 ∷ []) (two Add (part 0) (part 0) ∷ part 2 ∷ []) ≡ Err (NoPart 3)
second_scalar = refl

-- a literal in so many wraps
abbrev wrapped : ℕ → Expr
wrapped zero = lit (pos 1)
wrapped (suc n) = wrap (wrapped n)

deep : typed (W64 ∷ []) (wrapped 29 ∷ []) ≡ Ok (W64 ∷ [])
deep = refl

too_deep : typed (W64 ∷ []) (wrapped 30 ∷ []) ≡ Err (TooDeep 30)
too_deep = refl

-- at one node too deep comes before too wide
deep_and_wide : typed (W128 ∷ []) (two Add (wrapped 29) (part 0) ∷ []) ≡ Err (TooDeep 31)
deep_and_wide = refl

-- but an earlier node at fault comes first
wide_below_deep : typed (W128 ∷ []) (wrap (two And (part 0) (wrapped 29)) ∷ []) ≡ Err (TooDeep 31)
wide_below_deep = refl
