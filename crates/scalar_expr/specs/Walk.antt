-- How the code goes over the nodes of a scalar that isn't too deep: words on the layout, which no public clause cites.
use Rattle.std.specs.Prelude.{◌≡◌, ℕ, ◌+◌, ◌<◌, ◌≤◌, ◌^◌, Bool, true, false, List, [], ◌∷◌, slice_get, Option, Some, None, Result, Ok, Err}
use Rattle.op_laws.specs.declared.width.Width.{Width}
use Rattle.op_laws.specs.declared.width.Width.TheVariants.{W64}
use Rattle.scalar_expr.specs.declared.widths.Measure.{Measure}
use Rattle.scalar_expr.specs.declared.pair.Pair.{Pair}
use Rattle.scalar_expr.specs.declared.pair.Pair.TheVariants.{Add}
use Rattle.scalar_expr.specs.declared.fault.TypeFault.{TypeFault}
use Rattle.scalar_expr.specs.declared.fault.TypeFault.TheVariants.{NoPart, TooWide, TooDeep}
use Rattle.scalar_expr.specs.declared.deep.Next.{Next}
use Rattle.scalar_expr.specs.declared.deep.Next.TheVariants.{Into, Found}
use Rattle.scalar_expr.specs.Expr.{Expr, lit, part, two, cond, wrap, postorder, nodes, depth_of, HasSmallLiterals}
use Rattle.scalar_expr.specs.Typing.{pair_width, either_width, width_of, first_fault}
use Rattle.scalar_expr.specs.Views.{expr_of}

abbrev pub and_then : {X Y : Type 0} → Result X TypeFault → (X → Result Y TypeFault) → Result Y TypeFault
and_then (Ok x) f = f x
and_then (Err e) f = Err e

abbrev pub or_fault : {X : Type 0} → Option X → TypeFault → Result X TypeFault
or_fault (Some x) e = Ok x
or_fault None e = Err e

-- the width of a scalar whose first node has this place, or its first fault
unfoldable pub walk : List Width → ℕ → Expr → Result Width TypeFault
walk ty place (lit n) = Ok W64
walk ty place (part i) = or_fault (slice_get ty i) (NoPart place)
walk ty place (two op a b) =
    and_then (walk ty place a) (λ v. and_then (walk ty (place + nodes a) b) (λ w. or_fault (pair_width op v w) (TooWide (place + nodes a + nodes b))))
walk ty place (cond c a b) =
    and_then (walk ty place c) (λ u. and_then (walk ty (place + nodes c) a) (λ v. and_then (walk ty (place + nodes c + nodes a) b) (λ w. or_fault (either_width v w) (TooWide (place + nodes c + nodes a + nodes b)))))
walk ty place (wrap a) = and_then (walk ty place a) (λ v. Ok W64)

-- the same, where it may be too deep
abbrev pub checked_with : Option TypeFault → ℕ → Option Width → Result Width TypeFault
checked_with (Some f) place width = Err f
checked_with None place width = or_fault width (TooWide place)

unfoldable pub checked_of : List Width → ℕ → Expr → Result Width TypeFault
checked_of ty place s = checked_with (first_fault ty place (postorder s)) place (width_of ty s)

-- scalar after scalar
unfoldable pub type_from : List Width → ℕ → List Expr → Result (List Width) TypeFault
type_from ty place [] = Ok []
type_from ty place (s ∷ ss) = and_then (checked_of ty place s) (λ w. and_then (type_from ty (place + nodes s) ss) (λ ws. Ok (w ∷ ws)))

-- the operator of a scalar with two parts
abbrev pub op_of : Expr → Pair
op_of (two op a b) = op
op_of s = Add

-- where the search for the first fault of a scalar that is too deep goes on: in a part that is too deep, or it is found
unfoldable pub Leads : List Width → Option TypeFault → Next → Type 0
Leads ty first (Into s at) = (first ≡ first_fault ty at (postorder (expr_of s.now))) × (30 < depth_of (expr_of s.now))
Leads ty first (Found f) = first ≡ Some f

-- a part to go on in has at most so many nodes, and its places are below 2^32
abbrev pub IsWithin : ℕ → Next → Type 0
IsWithin n (Into s at) = (nodes (expr_of s.now) ≤ n) × (at + nodes (expr_of s.now) < 2 ^ 32)
IsWithin n (Found f) = Unit {0}

-- a scalar that isn't too deep
abbrev pub IsPlain : Expr → Type 0
IsPlain s = (depth_of s ≤ 30) × HasSmallLiterals s

-- what a call gives is what the walk gives
abbrev pub Gives : Result Measure TypeFault → Result Width TypeFault → Type 0
Gives (Ok m) walked = walked ≡ Ok m.width
Gives (Err f) walked = walked ≡ Err f
