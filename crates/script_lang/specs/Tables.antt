-- What each skeleton takes and gives: kinds, operators, types and shapes, without regard to columns.
use Rattle.std.specs.Prelude.{ℕ, ◌+◌, ◌*◌, Bool, true, false, not, ◌&&◌, ◌==◌, nat_le, List, [], ◌∷◌, ◌++◌, length, Option, option_map, Result, Ok, Err, if◌then◌else◌}
use Rattle.std.specs.List.{list_any}
use Rattle.op_laws.specs.declared.width.Width.{Width}
use Rattle.op_laws.specs.declared.width.Width.TheVariants.{W64}
use Rattle.op_laws.specs.Widths.{wider_width}
use Rattle.op_catalog.specs.declared.takes.OpFault.{OpFault}
use Rattle.op_catalog.specs.declared.takes.OpFault.TheVariants.{WrongArity}
use Rattle.op_catalog.specs.Catalog.{op_named, typed_of, is_end, abides}
use Rattle.tree_names.specs.Names.{tree_named, down_named, rose_named, rose_down_named, tree_typed, down_typed, rose_typed, rose_down_typed}
use Rattle.script_lang.specs.declared.kind.Kind.{Kind}
use Rattle.script_lang.specs.declared.kind.Kind.TheVariants as kind
use Rattle.script_lang.specs.declared.head.Head.{Head}
use Rattle.script_lang.specs.declared.head.Head.TheVariants as head
use Rattle.script_lang.specs.declared.op.Op.{Op}
use Rattle.script_lang.specs.declared.op.Op.TheVariants as op
use Rattle.script_lang.specs.Syntax.{Binding}

-- ---- kinds

abbrev pub same_kind : Kind → Kind → Bool
same_kind kind.Single kind.Single = true
same_kind kind.List kind.List = true
same_kind kind.Matrix kind.Matrix = true
same_kind kind.Tree kind.Tree = true
same_kind kind.Rose kind.Rose = true
same_kind a b = false

-- the kinds that a skeleton with so many operators takes
abbrev pub kinds_of : Head → ℕ → List Kind
kinds_of head.Map n = kind.List ∷ kind.Matrix ∷ kind.Tree ∷ kind.Rose ∷ []
kinds_of head.Zip n = kind.List ∷ kind.Matrix ∷ kind.Tree ∷ kind.Rose ∷ []
kinds_of head.Reduce n = if n == 2 then kind.Matrix ∷ [] else kind.List ∷ kind.Tree ∷ kind.Rose ∷ []
kinds_of head.Scan n = if n == 2 then kind.Matrix ∷ [] else kind.List ∷ []
kinds_of head.Rows n = kind.Matrix ∷ []
kinds_of head.Cols n = kind.Matrix ∷ []
kinds_of head.Transpose n = kind.Matrix ∷ []
kinds_of head.Uacc n = kind.Tree ∷ kind.Rose ∷ []
kinds_of head.Dacc n = kind.Tree ∷ kind.Rose ∷ []
kinds_of head.Mapln n = kind.Tree ∷ []
kinds_of head.Getchl n = kind.Tree ∷ []
kinds_of head.Getchr n = kind.Tree ∷ []
kinds_of head.Filter n = kind.List ∷ []
kinds_of head.Rev n = kind.List ∷ []
kinds_of head.Iota n = kind.List ∷ []
kinds_of head.Plain n = kind.List ∷ []
kinds_of head.Scanr n = kind.List ∷ []

abbrev pub takes_kind : Head → ℕ → Kind → Bool
takes_kind h n k = list_any (same_kind k) (kinds_of h n)

-- the kind of what a skeleton makes of an argument of this kind
abbrev pub kind_given : Head → Kind → Kind
kind_given head.Reduce k = kind.Single
kind_given head.Rows k = kind.List
kind_given head.Cols k = kind.List
kind_given h k = k

-- ---- operators

abbrev pub is_dacc : Head → Bool
is_dacc head.Dacc = true
is_dacc h = false

-- the operator of this name for values of this kind: downwards, or else upwards or between elements
abbrev pub op_of_name : Bool → Kind → List ℕ → Option Op
op_of_name true kind.Tree w = option_map op.Down (down_named w)
op_of_name false kind.Tree w = option_map op.Up (tree_named w)
op_of_name true kind.Rose w = option_map op.RoseDown (rose_down_named w)
op_of_name false kind.Rose w = option_map op.Rose (rose_named w)
op_of_name down k w = option_map op.Flat (op_named w)

-- whether an operator stands in the table of this kind
abbrev pub is_op_of : Bool → Kind → Op → Bool
is_op_of true kind.Tree (op.Down o) = true
is_op_of false kind.Tree (op.Up o) = true
is_op_of true kind.Rose (op.RoseDown o) = true
is_op_of false kind.Rose (op.Rose o) = true
is_op_of down kind.Single (op.Flat o) = true
is_op_of down kind.List (op.Flat o) = true
is_op_of down kind.Matrix (op.Flat o) = true
is_op_of down k o = false

abbrev pub op_typed : Op → List Width → Result (List Width) OpFault
op_typed (op.Flat o) ty = typed_of o ty
op_typed (op.Up o) ty = tree_typed o ty
op_typed (op.Down o) ty = down_typed o ty
op_typed (op.Rose o) ty = rose_typed o ty
op_typed (op.RoseDown o) ty = rose_down_typed o ty

-- an operator that answers one of the elements, and so has no unit
abbrev pub is_end_op : Op → Bool
is_end_op (op.Flat o) = is_end o
is_end_op o = false

abbrev pub ops_abide : Op → Op → Bool
ops_abide (op.Flat a) (op.Flat b) = abides a b
ops_abide a b = false

-- two operators abide: the first joins downwards, the second across
abbrev pub all_abide : List Op → Bool
all_abide (down ∷ across ∷ []) = ops_abide down across
all_abide ops = true

-- whether the second operator of two governs: the first answers one of the elements and the second doesn't
abbrev pub second_governs : Op → Op → Bool
second_governs down across = is_end_op down && not (is_end_op across)

-- the reduction of a list has a unit
abbrev pub has_unit : List Op → Head → Kind → Bool
has_unit (o ∷ []) head.Reduce kind.List = not (is_end_op o)
has_unit ops h k = true

-- ---- types

-- the types that the functions of a skeleton give fit one another
abbrev pub components_fit : List (List Width) → Head → Bool
components_fit (t ∷ []) head.Filter = length t == 1
components_fit (t ∷ u ∷ []) head.Mapln = length t == length u
components_fit ts h = true

abbrev pub wider_each : List Width → List Width → List Width
wider_each (v ∷ vs) (w ∷ ws) = wider_width v w ∷ wider_each vs ws
wider_each vs ws = []

-- the type of what is made by one function, or by one of two
abbrev pub mapped_type : List (List Width) → List Width
mapped_type [] = []
mapped_type (t ∷ []) = t
mapped_type (t ∷ u ∷ ts) = wider_each t u

-- the type that an operator gives, of two the one that governs
abbrev pub folded_type : List Op → List Width → Result (List Width) OpFault
folded_type [] ty = Ok ty
folded_type (o ∷ []) ty = op_typed o ty
folded_type (down ∷ across ∷ os) ty = op_typed (if second_governs down across then across else down) ty

-- the components of all, one after another
abbrev pub joined_type : List Width → List Binding → List Width
joined_type ty [] = ty
joined_type ty (y ∷ ys) = ty ++ y.ty

abbrev pub single_type : List Width → Result (List Width) OpFault
single_type ty = if length ty == 1 then Ok ty else Err WrongArity

-- the type of what a skeleton makes of arguments, the first of which has this type, by its operators and the types that its functions give
abbrev pub type_given : Head → List Op → List (List Width) → List Width → List Binding → Result (List Width) OpFault
type_given head.Map ops ts ty ys = Ok (mapped_type ts)
type_given head.Mapln ops ts ty ys = Ok (mapped_type ts)
type_given head.Iota ops ts ty ys = Ok (W64 ∷ [])
type_given head.Zip ops ts ty ys = Ok (joined_type ty ys)
type_given head.Getchl ops ts ty ys = single_type ty
type_given head.Getchr ops ts ty ys = single_type ty
type_given h ops ts ty ys = folded_type ops ty

-- ---- shapes

-- what shape numbers the line of this number makes, if it makes a shape of its own: the second is that of a matrix's columns
abbrev pub fresh_shape : ℕ → ℕ
fresh_shape n = 2 * n + 1

abbrev pub fresh_across : ℕ → ℕ
fresh_across n = 2 * n + 2

-- the shapes of what the line of this number makes of x
abbrev pub shapes_given : Head → ℕ → Binding → ℕ × ℕ
shapes_given head.Reduce n x = (0, 0)
shapes_given head.Filter n x = (fresh_shape n, 0)
shapes_given head.Rows n x = (x.shape, 0)
shapes_given head.Cols n x = (x.across, 0)
shapes_given head.Transpose n x = (x.across, x.shape)
shapes_given h n x = (x.shape, x.across)

abbrev pub same_shapes : Binding → Binding → Bool
same_shapes x y = (x.shape == y.shape) && (x.across == y.across)

-- at most four components
abbrev pub few_components : Binding → Binding → Bool
few_components x y = nat_le (length x.ty + length y.ty) 4
