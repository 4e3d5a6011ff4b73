-- What the lines of a typed script have in common, in the form in which an evaluation uses it: a line refers to
-- earlier lines that bind what its skeleton takes, and has the kind, the type and the shape of what the skeleton makes of it.
use Rattle.std.specs.Prelude.{◌≡◌, ℕ, ◌≤◌, Bool, true, false, List, [], ◌∷◌, length, take, Option, Some, None, option_and_then, Ok, slice_get}
use Rattle.std.specs.List.{list_any}
use Rattle.op_laws.specs.declared.TheConstants.{MAX_ELEMENTS}
use Rattle.op_laws.specs.declared.width.Width.{Width}
use Rattle.op_laws.specs.declared.width.Width.TheVariants.{W64}
use Rattle.scalar_expr.specs.Expr.{Expr, nodes_in}
use Rattle.scalar_expr.specs.Typing.{typed}
use Rattle.script_lang.specs.declared.kind.Kind.{Kind}
use Rattle.script_lang.specs.declared.op.Op.{Op}
use Rattle.script_lang.specs.Syntax.{Binding, Skeleton, Statement, binds_input, binds_let, prints}
use Rattle.script_lang.specs.Tables.{same_kind, takes_kind, kind_given, is_dacc, is_op_of, all_abide, has_unit, components_fit, type_given, fresh_shape, shapes_given, same_shapes, few_components}
use Rattle.script_lang.specs.Steps.{bound_by, binds, input_across, prints_line}

-- what the line of this number binds
abbrev pub binding_at : List Statement → ℕ → Option Binding
binding_at before n = option_and_then bound_by (slice_get before n)

-- the lines of these numbers bind these, one by one
abbrev pub AreBound : List Statement → List ℕ → List Binding → Type 0
AreBound before [] [] = Unit {0}
AreBound before [] (x ∷ xs) = ⊥
AreBound before (n ∷ ns) [] = ⊥
AreBound before (n ∷ ns) (x ∷ xs) = (binding_at before n ≡ Some x) × AreBound before ns xs

abbrev pub AreAlike : Kind → List Binding → Type 0
AreAlike k [] = Unit {0}
AreAlike k (y ∷ ys) = (same_kind y.kind k ≡ true) × AreAlike k ys

-- operators of the table of this kind
abbrev pub AreOf : Bool → Kind → List Op → Type 0
AreOf down k [] = Unit {0}
AreOf down k (o ∷ os) = (is_op_of down k o ≡ true) × AreOf down k os

-- functions that give these types on elements of this one
abbrev pub AreTyped : List Width → List (List Expr) → List (List Width) → Type 0
AreTyped ty [] [] = Unit {0}
AreTyped ty [] (t ∷ ts) = ⊥
AreTyped ty (f ∷ fs) [] = ⊥
AreTyped ty (f ∷ fs) (t ∷ ts) = (typed ty f ≡ Ok t) × AreTyped ty fs ts

-- a second argument has the shape of the first, and they have at most four components together
abbrev pub IsPair : Binding → List Binding → Type 0
IsPair x [] = Unit {0}
IsPair x (y ∷ ys) = (same_shapes x y ≡ true) × (few_components x y ≡ true)

-- a skeleton on arguments x and ys, whose functions give the types ts, and what its line binds; so many lines come before
pub record IsTypedOn (n : ℕ) (b : Binding) (s : Skeleton) (x : Binding) (ys : List Binding) (ts : List (List Width)) : Type 0 where
  pub taken : takes_kind s.head (length s.ops) x.kind ≡ true
  pub alike : AreAlike x.kind ys
  pub operators : AreOf (is_dacc s.head) x.kind s.ops
  pub abide : all_abide s.ops ≡ true
  pub functions : AreTyped x.ty s.functions ts
  pub components : components_fit ts s.head ≡ true
  pub type : type_given s.head s.ops ts x.ty ys ≡ Ok b.ty
  pub unit : has_unit s.ops s.head x.kind ≡ true
  pub pair : IsPair x ys
  pub kind : b.kind ≡ kind_given s.head x.kind
  pub shape : b.shape ≡ (shapes_given s.head n x).0
  pub across : b.across ≡ (shapes_given s.head n x).1

abbrev pub IsNew : List Statement → List ℕ → Type 0
IsNew before name = list_any (binds name) before ≡ false

-- an input has shapes of its own
abbrev pub IsFresh : List Statement → Binding → Type 0
IsFresh before b = (b.shape ≡ fresh_shape (length before)) × (b.across ≡ input_across b.kind (length before))

-- an input is like an earlier one of its kind
abbrev pub IsLike : List Statement → Binding → ℕ → Type 0
IsLike before b n = (x : Binding) × (k : Option ℕ) × (slice_get before n ≡ Some (binds_input x k)) × (same_kind x.kind b.kind ≡ true) × (b.shape ≡ x.shape) × (b.across ≡ x.across)

abbrev pub HasShapes : List Statement → Binding → Option ℕ → Type 0
HasShapes before b None = IsFresh before b
HasShapes before b (Some n) = IsLike before b n

-- a line after these lines
abbrev pub IsTypedAfter : List Statement → Statement → Type 0
IsTypedAfter before (binds_input b like) = IsNew before b.name × (b.ty ≡ W64 ∷ []) × HasShapes before b like
IsTypedAfter before (binds_let b s) = IsNew before b.name × ((x : Binding) × (ys : List Binding) × (ts : List (List Width)) × AreBound before s.arguments (x ∷ ys) × IsTypedOn (length before) b s x ys ts)
IsTypedAfter before (prints n) = ((x : Binding) × (binding_at before n ≡ Some x)) × (list_any (prints_line n) before ≡ false)

-- each line is typed after those before it
abbrev pub IsTypedScript : List Statement → Type 0
IsTypedScript lines = (i : ℕ) → (l : Statement) → slice_get lines i ≡ Some l → IsTypedAfter (take i lines) l

-- ---- functions that can be typed and evaluated

-- functions have few nodes
abbrev pub AreSmall : List (List Expr) → Type 0
AreSmall [] = Unit {0}
AreSmall (f ∷ fs) = (nodes_in f ≤ MAX_ELEMENTS) × AreSmall fs

-- a line's functions have
abbrev pub IsSmallLine : Statement → Type 0
IsSmallLine (binds_input b like) = Unit {0}
IsSmallLine (binds_let b s) = AreSmall s.functions
IsSmallLine (prints n) = Unit {0}

-- the functions of all let lines have
abbrev pub AreSmallLines : List Statement → Type 0
AreSmallLines lines = (n : ℕ) (b : Binding) (s : Skeleton) → slice_get lines n ≡ Some (binds_let b s) → AreSmall s.functions
