-- The steps of a compiled function, on a stack whose bottom comes first: words on the layout, which no public clause cites.
use Rattle.std.specs.Prelude.{◌≡◌, ℕ, ◌+◌, ◌<◌, ◌≤◌, ◌+ℤ◌, ◌-ℤ◌, ℤ, pos, Bool, true, false, List, [], ◌∷◌, ◌++◌, length, take, slice_index_or}
use Rattle.std.specs.Int.{int_wrap, w128}
use Rattle.std.specs.Int.RustNames.{FitsSigned}
use mir.Syntax.{Width as Size}
use Rattle.op_laws.specs.declared.width.Width.{Width}
use Rattle.op_laws.specs.Admits.{Admits}
use Rattle.scalar_expr.specs.declared.pair.Pair.{Pair}
use Rattle.scalar_expr.specs.declared.pair.Pair.TheVariants.{Add, Sub}
use Rattle.scalar_expr.specs.declared.step.Operand.{Operand}
use Rattle.scalar_expr.specs.declared.step.Operand.TheVariants.{Part, Const, Place}
use Rattle.scalar_expr.specs.declared.step.Calc.{Calc}
use Rattle.scalar_expr.specs.declared.step.Calc.TheVariants as calc
use Rattle.scalar_expr.specs.declared.step.Step.{Step}
use Rattle.scalar_expr.specs.declared.step.Step.TheVariants.{Two, Cond}
use Rattle.scalar_expr.specs.Expr.{Expr, lit, part, two, cond, wrap}
use Rattle.scalar_expr.specs.Columns.{columns_held}
use Rattle.scalar_expr.specs.Values.{pair_value, residue, chosen, value_of}

-- what the stack holds: numbers, or the scalars that they are the values of
pub record Machine (X : Type 0) : Type 0 where
  pub literal : ℤ → X
  pub component : ℕ → X
  pub calculated : Calc → X → X → X
  pub choice : X → X → X → X

abbrev pub operand_in : {X : Type 0} → Machine X → List X → Operand → X
operand_in m st (Part i) = m.component i
operand_in m st (Const n) = m.literal n
operand_in m st (Place k) = slice_index_or st k (m.literal (pos 0))

-- x at this place, with nothing above it
abbrev pub put : {X : Type 0} → ℕ → X → List X → List X
put k x st = take k st ++ x ∷ []

abbrev pub step_in : {X : Type 0} → Machine X → Step → List X → List X
step_in m (Two op a b out) st = put out (m.calculated op (operand_in m st a) (operand_in m st b)) st
step_in m (Cond c a b out) st = put out (m.choice (operand_in m st c) (operand_in m st a) (operand_in m st b)) st

abbrev pub run_in : {X : Type 0} → Machine X → List Step → List X → List X
run_in m [] st = st
run_in m (i ∷ is) st = run_in m is (step_in m i st)

-- ---- the scalars that a code computes

abbrev pub calc_expr : Calc → Expr → Expr → Expr
calc_expr (calc.Two op) a b = two op a b
calc_expr calc.WrapAdd a b = wrap (two Add a b)
calc_expr calc.WrapSub a b = wrap (two Sub a b)
calc_expr calc.Wrap a b = wrap a
calc_expr calc.Copy a b = a

abbrev pub exprs : Machine Expr
exprs = record { literal = lit; component = part; calculated = calc_expr; choice = cond }

abbrev pub built : List Step → List Expr → List Expr
built steps st = run_in exprs steps st

-- ---- what it computes on an element, in numbers of some size

-- only a sum and a difference can leave the size
abbrev pub made : Size → Calc → ℤ → ℤ → ℤ
made w (calc.Two Add) a b = int_wrap w (a +ℤ b)
made w (calc.Two Sub) a b = int_wrap w (a -ℤ b)
made w (calc.Two op) a b = pair_value op a b
made w calc.WrapAdd a b = residue (a +ℤ b)
made w calc.WrapSub a b = residue (a -ℤ b)
made w calc.Wrap a b = residue a
made w calc.Copy a b = a

abbrev pub numbers : Size → List ℤ → Machine ℤ
numbers w e = record { literal = λ n. n; component = λ i. slice_index_or e i (pos 0); calculated = made w; choice = chosen }

-- ---- places

abbrev pub out_of : Step → ℕ
out_of (Two op a b out) = out
out_of (Cond c a b out) = out

-- how many numbers the stack holds afterwards
abbrev pub height_after : List Step → ℕ → ℕ
height_after [] h = h
height_after (i ∷ is) h = height_after is (out_of i + 1)

-- an operand that a step finds: a component, or a place on the stack not below the step's own
abbrev pub IsFound : ℕ → ℕ → ℕ → Operand → Type 0
IsFound arity out h (Part i) = i < arity
IsFound arity out h (Const n) = Unit {0}
IsFound arity out h (Place k) = (out ≤ k) × (k < h)

abbrev pub IsSafe : ℕ → ℕ → ℕ → Step → Type 0
IsSafe arity room h (Two op a b out) = (out < room) × (out ≤ h) × IsFound arity out h a × IsFound arity out h b
IsSafe arity room h (Cond c a b out) = (out < room) × (out ≤ h) × IsFound arity out h c × IsFound arity out h a × IsFound arity out h b

abbrev pub AreSafe : ℕ → ℕ → List Step → ℕ → Type 0
AreSafe arity room [] h = Unit {0}
AreSafe arity room (i ∷ is) h = IsSafe arity room h i × AreSafe arity room is (out_of i + 1)

-- ---- exactness

-- on each element of the type the value is a number of 128 bits
abbrev pub HasValues : List Width → Expr → Type 0
HasValues ty s = (e : List ℤ) → Admits ty e → FitsSigned w128 (value_of e s)

-- a sum or a difference is one of 128-bit numbers, and there is none where all numbers have 64 bits
abbrev pub IsExactCalc : List Width → Bool → Calc → Expr → Expr → Type 0
IsExactCalc ty narrow (calc.Two Add) a b = (narrow ≡ false) × HasValues ty (two Add a b)
IsExactCalc ty narrow (calc.Two Sub) a b = (narrow ≡ false) × HasValues ty (two Sub a b)
IsExactCalc ty narrow op a b = Unit {0}

abbrev pub IsExact : List Width → Bool → Step → List Expr → Type 0
IsExact ty narrow (Two op a b out) st = IsExactCalc ty narrow op (operand_in exprs st a) (operand_in exprs st b)
IsExact ty narrow (Cond c a b out) st = Unit {0}

abbrev pub AreExact : List Width → Bool → List Step → List Expr → Type 0
AreExact ty narrow [] st = Unit {0}
AreExact ty narrow (i ∷ is) st = IsExact ty narrow i st × AreExact ty narrow is (step_in exprs i st)

-- ---- compiling

-- a code that is compiled so far, and has this many numbers on the stack
pub record IsBegun (ty : List Width) (room : ℕ) (narrow : Bool) (p : ℕ) (steps : List Step) : Type 0 where
  pub height : height_after steps 0 ≡ p
  pub long : length (built steps []) ≡ p
  pub safe : AreSafe (length ty) room steps 0
  pub exact : AreExact ty narrow steps []

-- what an operand adds to the stack
abbrev pub held : Operand → Expr → List Expr
held (Place k) s = s ∷ []
held o s = []

-- the code was compiled further, so that the operand gives the scalar
pub record IsEmitted (ty : List Width) (room : ℕ) (narrow : Bool) (p : ℕ) (before after : List Step) (s : Expr) (o : Operand) : Type 0 where
  pub begun : IsBegun ty room narrow (p + length (held o s)) after
  pub stack : built after [] ≡ built before [] ++ held o s
  pub gives : operand_in exprs (built after []) o ≡ s
  pub found : IsFound (length ty) p (p + length (held o s)) o
  pub few : length (held o s) ≤ columns_held s

-- the same where the value stands on the stack
pub record IsRooted (ty : List Width) (room : ℕ) (narrow : Bool) (p : ℕ) (before after : List Step) (s : Expr) : Type 0 where
  pub begun : IsBegun ty room narrow (p + 1) after
  pub stack : built after [] ≡ built before [] ++ s ∷ []

-- the code of these scalars
pub record IsCode (ty : List Width) (room : ℕ) (narrow : Bool) (scalars : List Expr) (steps : List Step) : Type 0 where
  pub height : height_after steps 0 ≡ length scalars
  pub stack : built steps [] ≡ scalars
  pub safe : AreSafe (length ty) room steps 0
  pub exact : AreExact ty narrow steps []

-- sums and differences that steps compute are exact
abbrev pub IsBounded : List Width → Bool → Expr → Type 0
IsBounded ty narrow (lit n) = Unit {0}
IsBounded ty narrow (part i) = i < length ty
IsBounded ty narrow (two op a b) = IsExactCalc ty narrow (calc.Two op) a b × IsBounded ty narrow a × IsBounded ty narrow b
IsBounded ty narrow (cond c a b) = IsBounded ty narrow c × IsBounded ty narrow a × IsBounded ty narrow b
IsBounded ty narrow (wrap (two Add a b)) = IsBounded ty narrow a × IsBounded ty narrow b
IsBounded ty narrow (wrap (two Sub a b)) = IsBounded ty narrow a × IsBounded ty narrow b
IsBounded ty narrow (wrap a) = IsBounded ty narrow a
