-- What a line of the form means after earlier lines, or the fault of the first step that finds one.
use Rattle.std.specs.Prelude.{ℕ, ◌+◌, Bool, true, false, not, ◌&&◌, ◌==◌, nat_lt, List, [], ◌∷◌, length, map, filter, slice_index, Option, Some, None, option_map, Result, Ok, Err, bytes_eq, if◌then◌else◌}
use Rattle.std.specs.List.{list_any}
use Rattle.op_laws.specs.declared.width.Width.{Width}
use Rattle.op_laws.specs.declared.width.Width.TheVariants.{W64}
use Rattle.op_catalog.specs.declared.takes.OpFault.{OpFault}
use Rattle.op_catalog.specs.declared.takes.OpFault.TheVariants as op_fault
use Rattle.scalar_expr.specs.declared.fault.TypeFault.{TypeFault}
use Rattle.scalar_expr.specs.declared.fault.TypeFault.TheVariants as type_fault
use Rattle.scalar_expr.specs.Typing.{typed}
use Rattle.script_words.specs.declared.fault.ScriptWhat.TheVariants as what
use Rattle.script_words.specs.Lines.{Token}
use Rattle.script_words.specs.Read.{Read, ◌>>=◌, or_fault, unless, spot}
use Rattle.script_words.specs.Functions.{Function}
use Rattle.script_lang.specs.declared.kind.Kind.{Kind}
use Rattle.script_lang.specs.declared.kind.Kind.TheVariants as kind
use Rattle.script_lang.specs.declared.head.Head.{Head}
use Rattle.script_lang.specs.declared.op.Op.{Op}
use Rattle.script_lang.specs.Syntax.{Written, Form, input_form, let_form, print_form, Binding, Skeleton, Statement, binds_input, binds_let, prints}
use Rattle.script_lang.specs.Tables.{same_kind, takes_kind, kind_given, is_dacc, op_of_name, all_abide, second_governs, has_unit, components_fit, type_given, fresh_shape, fresh_across, shapes_given, same_shapes, few_components}

-- ---- the names that earlier lines bind

abbrev pub bound_by : Statement → Option Binding
bound_by (binds_input b like) = Some b
bound_by (binds_let b s) = Some b
bound_by (prints n) = None

abbrev pub is_input : Statement → Bool
is_input (binds_input b like) = true
is_input l = false

abbrev pub binds : List ℕ → Statement → Bool
binds name l = elim (bound_by l) [ None ↦ false | Some b ↦ bytes_eq b.name name ]

-- an argument that an earlier line binds: its column, the number of the line, and what the line binds
pub record Known : Type 0 where
  pub column : ℕ
  pub line : ℕ
  pub input : Bool
  pub bound : Binding

abbrev pub known_by : ℕ → ℕ → Bool → Binding → Known
known_by column n input b = record { column = column; line = n; input = input; bound = b }

-- what a name stands for, as an argument at this column; the first of these lines has this number
unfoldable pub found_from : ℕ → ℕ → List ℕ → List Statement → Option Known
found_from n column name [] = None
found_from n column name (l ∷ ls) = if binds name l then option_map (known_by column n (is_input l)) (bound_by l) else found_from (n + 1) column name ls

unfoldable pub known_at : List Statement → Token → Read Known
known_at lines t = or_fault (found_from 0 t.column t.text lines) t.column what.UnknownName

unfoldable pub known_all : List Statement → List Token → Read (List Known)
known_all lines [] = Ok []
known_all lines (t ∷ ts) = do
  k ← known_at lines t
  ks ← known_all lines ts
  Ok (k ∷ ks)

unfoldable pub is_new : List Statement → Token → Read (Unit {0})
is_new lines name = unless (not (list_any (binds name.text) lines)) name.column what.Rebound

-- ---- kinds

-- these have the kind of the first argument
unfoldable pub of_kind : Kind → List Known → Read (Unit {0})
of_kind k [] = Ok tt
of_kind k (y ∷ ys) = do
  _ ← unless (same_kind y.bound.kind k) y.column what.WrongKind
  of_kind k ys

unfoldable pub kinds_at : Head → ℕ → Known → List Known → Read (Unit {0})
kinds_at h n x ys = do
  _ ← unless (takes_kind h n x.bound.kind) x.column what.WrongKind
  of_kind x.bound.kind ys

-- ---- operators

-- an operator, and the column of its word
pub record Chosen : Type 0 where
  pub column : ℕ
  pub op : Op

unfoldable pub operators_at : Bool → Kind → List Token → Read (List Chosen)
operators_at down k [] = Ok []
operators_at down k (t ∷ ts) = do
  o ← or_fault (op_of_name down k t.text) t.column what.UnknownOp
  os ← operators_at down k ts
  Ok (record { column = t.column; op = o } ∷ os)

abbrev pub ops_of : List Chosen → List Op
ops_of os = map (λ (o : Chosen). o.op) os

-- the column of the second operator, where there are two
abbrev pub second_column : List Chosen → ℕ
second_column (down ∷ across ∷ os) = across.column
second_column os = 0

unfoldable pub abiding_at : List Chosen → Read (Unit {0})
abiding_at os = unless (all_abide (ops_of os)) (second_column os) what.NotAbiding

-- ---- functions

-- a function's fault stands at the column of its node
abbrev pub placed : {X : Type 0} → List ℕ → Result X TypeFault → Read X
placed columns (Ok x) = Ok x
placed columns (Err (type_fault.NoPart p)) = Err (spot (slice_index columns p) what.WrongArity)
placed columns (Err (type_fault.TooWide p)) = Err (spot (slice_index columns p) what.TooWide)
placed columns (Err (type_fault.TooDeep p)) = Err (spot (slice_index columns p) what.TooDeep)
placed columns (Err type_fault.Memory) = Err (spot 0 what.TooDeep)

unfoldable pub types_at : List Width → List Function → Read (List (List Width))
types_at ty [] = Ok []
types_at ty (f ∷ fs) = do
  t ← placed f.columns (typed ty f.scalars)
  ts ← types_at ty fs
  Ok (t ∷ ts)

-- the first word of the last function
abbrev pub last_function : List Function → ℕ
last_function [] = 0
last_function (f ∷ []) = f.at
last_function (f ∷ g ∷ fs) = g.at

unfoldable pub components_at : List (List Width) → Head → List Function → Read (Unit {0})
components_at ts h fs = unless (components_fit ts h) (last_function fs) what.WrongArity

-- ---- what a skeleton gives

-- the column of the operator, of two the one that governs, and without one that of the argument
abbrev pub type_column : List Chosen → Known → ℕ
type_column [] x = x.column
type_column (o ∷ []) x = o.column
type_column (down ∷ across ∷ os) x = if second_governs down.op across.op then across.column else down.column

abbrev pub typed_at : ℕ → Result (List Width) OpFault → Read (List Width)
typed_at column (Ok ty) = Ok ty
typed_at column (Err op_fault.WrongArity) = Err (spot column what.WrongArity)
typed_at column (Err op_fault.TooWide) = Err (spot column what.TooWide)

abbrev pub bindings_of : List Known → List Binding
bindings_of ys = map (λ (y : Known). y.bound) ys

unfoldable pub type_at : Head → List Chosen → List (List Width) → Known → List Known → Read (List Width)
type_at h os ts x ys = typed_at (type_column os x) (type_given h (ops_of os) ts x.bound.ty (bindings_of ys))

abbrev pub first_column : List Chosen → ℕ
first_column [] = 0
first_column (o ∷ os) = o.column

unfoldable pub unit_at : List Chosen → Head → Kind → Read (Unit {0})
unit_at os h k = unless (has_unit (ops_of os) h k) (first_column os) what.NoUnit

-- a second argument has the shape of the first, and together they have at most four components
unfoldable pub pair_at : Known → List Known → Read (Unit {0})
pair_at x [] = Ok tt
pair_at x (y ∷ ys) = do
  _ ← unless (same_shapes x.bound y.bound) y.column what.ShapeDiffers
  unless (few_components x.bound y.bound) y.column what.TupleTooLong

-- ---- lines

-- each skeleton has an argument
abbrev pub first_of : List Known → Read (Known × List Known)
first_of [] = Err (spot 0 what.BadLine)
first_of (x ∷ ys) = Ok (x, ys)

-- what the let line of this number binds
abbrev pub let_binding : Token → Head → ℕ → Binding → List Width → Binding
let_binding name h n x ty = record { name = name.text; kind = kind_given h x.kind; ty = ty; shape = (shapes_given h n x).0; across = (shapes_given h n x).1 }

abbrev pub let_skeleton : Head → Written → List Chosen → List Known → Skeleton
let_skeleton h w os args = record { head = h; functions = map (λ (f : Function). f.scalars) w.functions; ops = ops_of os; numbers = w.numbers; arguments = map (λ (k : Known). k.line) args }

-- the steps after the form, in their order
unfoldable pub let_line : List Statement → Token → Head → Written → Read Statement
let_line lines name h w = do
  -- 2, names
  args ← known_all lines w.arguments
  x ← first_of args
  -- 3, a new name
  _ ← is_new lines name
  -- 4, kinds
  _ ← kinds_at h (length w.operators) x.0 x.1
  -- 5, operators
  os ← operators_at (is_dacc h) x.0.bound.kind w.operators
  -- 6, pairs that abide
  _ ← abiding_at os
  -- 7, functions
  ts ← types_at x.0.bound.ty w.functions
  _ ← components_at ts h w.functions
  -- 8, the type
  ty ← type_at h os ts x.0 x.1
  -- 9, a unit
  _ ← unit_at os h x.0.bound.kind
  -- 10, shapes
  _ ← pair_at x.0 x.1
  Ok (binds_let (let_binding name h (length lines) x.0.bound ty) (let_skeleton h w os args))

abbrev pub input_binding : Token → Kind → ℕ → ℕ → Binding
input_binding name k shape across = record { name = name.text; kind = k; ty = W64 ∷ []; shape = shape; across = across }

-- the second shape of an input of this kind
abbrev pub input_across : Kind → ℕ → ℕ
input_across kind.Matrix n = fresh_across n
input_across k n = 0

unfoldable pub like_line : List Statement → Token → Kind → Token → Read Statement
like_line lines name k like = do
  -- 2
  x ← known_at lines like
  -- 3
  _ ← is_new lines name
  -- 4
  _ ← unless (x.input && same_kind x.bound.kind k) x.column what.WrongKind
  Ok (binds_input (input_binding name k x.bound.shape x.bound.across) (Some x.line))

unfoldable pub input_line : List Statement → Token → Kind → Read Statement
input_line lines name k = do
  -- 3
  _ ← is_new lines name
  Ok (binds_input (input_binding name k (fresh_shape (length lines)) (input_across k (length lines))) None)

abbrev pub is_print : Statement → Bool
is_print (prints n) = true
is_print l = false

abbrev pub prints_line : ℕ → Statement → Bool
prints_line n (prints m) = m == n
prints_line n l = false

unfoldable pub print_line : List Statement → ℕ → Token → Read Statement
print_line lines at of = do
  -- 1, at most 64 of them
  _ ← unless (nat_lt (length (filter is_print lines)) 64) at what.TooManyPrints
  -- 2
  x ← known_at lines of
  -- 3
  _ ← unless (not (list_any (prints_line x.line) lines)) x.column what.Rebound
  Ok (prints x.line)

unfoldable pub line_of : List Statement → Form → Read Statement
line_of lines (input_form name k None) = input_line lines name k
line_of lines (input_form name k (Some like)) = like_line lines name k like
line_of lines (let_form name h w) = let_line lines name h w
line_of lines (print_form at of) = print_line lines at of
