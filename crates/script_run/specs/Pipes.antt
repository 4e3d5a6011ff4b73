-- How the pipe of a step is put together, and what is made of it.
use Rattle.std.specs.Prelude.{◌≡◌, ℕ, ◌≤◌, ℤ, Bool, true, false, not, IsTrue, List, [], ◌∷◌, ◌++◌, map, length, reverse, Option, Some, Ok, slice_get, if◌then◌else◌}
use Rattle.std.specs.List.{filter, All}
use Rattle.op_laws.specs.declared.width.Width.{Width}
use Rattle.op_laws.specs.declared.width.Width.TheVariants.{W64}
use Rattle.op_laws.specs.Admits.{Admits}
use Rattle.op_laws.specs.Elements.{Elements}
use Rattle.op_catalog.specs.Catalog.{typed_of, is_end}
use Rattle.scalar_expr.specs.Expr.{Expr}
use Rattle.scalar_expr.specs.Typing.{typed}
use Rattle.scalar_expr.specs.Values.{values_of}
use Rattle.op_laws.specs.Lists.{zipped, iota, prefixes, suffixes}
use Rattle.list_fusion.specs.Stages.{is_kept}
use Rattle.list_fusion.specs.Pipes.{Flow, elements, type_of}
use Rattle.data_text.specs.declared.value.Value.{Value}
use Rattle.data_text.specs.declared.value.Value.TheVariants as value
use Rattle.script_lang.specs.declared.head.Head.{Head}
use Rattle.script_lang.specs.declared.head.Head.TheVariants as head
use Rattle.script_lang.specs.declared.op.Op.{Op}
use Rattle.script_lang.specs.declared.op.Op.TheVariants as op
use Rattle.script_lang.specs.Syntax.{Binding, Skeleton, Statement, binds_let}
use Rattle.script_lang.specs.Sound.{AreSmall}
use Rattle.fuse_rewrite.specs.Meaning.{reduced_by, element_made, makes_element, Values, list_at}

-- ---- what a pipe holds

-- the pipe's elements are these, each of their type
pub record IsPipeOf (p : Flow) (x : Elements) : Type 0 where
  pub items : elements p ≡ x.items
  pub ty : type_of p ≡ x.ty
  pub admitted : All (Admits x.ty) x.items

-- what the pipe of a skeleton begins with, which takes a list x, and others
abbrev pub entered : Head → Elements → List Elements → Elements
entered head.Zip x (y ∷ ys) = record { ty = x.ty ++ y.ty; items = zipped x.items y.items }
entered head.Iota x ys = record { ty = W64 ∷ []; items = iota (length x.items) }
entered h x ys = x

abbrev pub entered_on : Head → List Elements → Elements
entered_on h [] = record { ty = []; items = [] }
entered_on h (x ∷ ys) = entered h x ys

-- what a skeleton does to what its pipe begins with
abbrev pub passed : Head → List (List Expr) → List (List ℤ) → List (List ℤ)
passed head.Map (f ∷ fs) es = map (values_of f) es
passed head.Filter (f ∷ fs) es = filter (is_kept f) es
passed head.Rev fs es = reverse es
passed h fs es = es

-- it makes the list that it has passed
abbrev pub passes_on : Head → Bool
passes_on head.Map = true
passes_on head.Filter = true
passes_on head.Rev = true
passes_on head.Zip = true
passes_on head.Iota = true
passes_on head.Plain = true
passes_on h = false

-- ---- what may be done with it

-- a filter has one component
pub record IsTest (f : List Expr) (ty : List Width) : Type 0 where
  pub gives : List Width
  pub typed_as : typed ty f ≡ Ok gives
  pub single : length gives ≡ 1

-- a skeleton does this to a pipe of elements of this type, and what comes of it is of that type
abbrev pub Passes : Head → List (List Expr) → List Width → List Width → Type 0
Passes head.Map (f ∷ fs) ty gives = typed ty f ≡ Ok gives
Passes head.Filter (f ∷ fs) ty gives = IsTest f ty × (gives ≡ ty)
Passes head.Rev fs ty gives = gives ≡ ty
Passes head.Zip fs ty gives = gives ≡ ty
Passes head.Iota fs ty gives = gives ≡ ty
Passes head.Plain fs ty gives = gives ≡ ty
Passes h fs ty gives = ⊥

-- a list of elements of this type can be finished by a skeleton, and what comes of it is of that type
abbrev pub Finishes : Head → List (List Expr) → List Op → List Width → List Width → Type 0
Finishes head.Reduce fs (op.Flat o ∷ []) ty gives = (typed_of o ty ≡ Ok gives) × IsTrue (not (is_end o))
Finishes head.Scan fs (op.Flat o ∷ []) ty gives = typed_of o ty ≡ Ok gives
Finishes head.Scanr fs (op.Flat o ∷ []) ty gives = typed_of o ty ≡ Ok gives
Finishes head.Map fs os ty gives = Passes head.Map fs ty gives
Finishes head.Filter fs os ty gives = Passes head.Filter fs ty gives
Finishes head.Rev fs os ty gives = Passes head.Rev fs ty gives
Finishes head.Zip fs os ty gives = Passes head.Zip fs ty gives
Finishes head.Iota fs os ty gives = Passes head.Iota fs ty gives
Finishes head.Plain fs os ty gives = Passes head.Plain fs ty gives
Finishes h fs os ty gives = ⊥

-- the elements of the list that a skeleton makes of what its pipe begins with
abbrev pub items_finished : Head → List (List Expr) → List Op → Elements → List (List ℤ)
items_finished head.Scan fs (o ∷ os) x = map (reduced_by o x.ty) (prefixes x.items)
items_finished head.Scanr fs (o ∷ os) x = map (reduced_by o x.ty) (suffixes x.items)
items_finished h fs os x = passed h fs x.items

-- what it makes of it
abbrev pub value_finished : Binding → Skeleton → Elements → Value
value_finished b s x = if makes_element s.head
    then value.Single b.ty (element_made s.ops x)
    else value.List (record { ty = b.ty; items = items_finished s.head s.functions s.ops x })

-- ---- chains

abbrev pub passed_by : Option Statement → List (List ℤ) → List (List ℤ)
passed_by (Some (binds_let b s)) es = passed s.head s.functions es
passed_by l es = es

abbrev pub passed_along : List Statement → List ℕ → List (List ℤ) → List (List ℤ)
passed_along lines [] es = es
passed_along lines (n ∷ ns) es = passed_along lines ns (passed_by (slice_get lines n) es)

abbrev pub type_by : Option Statement → List Width → List Width
type_by (Some (binds_let b s)) ty = b.ty
type_by l ty = ty

abbrev pub type_along_lines : List Statement → List ℕ → List Width → List Width
type_along_lines lines [] ty = ty
type_along_lines lines (n ∷ ns) ty = type_along_lines lines ns (type_by (slice_get lines n) ty)

pub record IsPassing (lines : List Statement) (n : ℕ) (ty gives : List Width) : Type 0 where
  pub bound : Binding
  pub skeleton : Skeleton
  pub line : slice_get lines n ≡ Some (binds_let bound skeleton)
  pub gives_is : bound.ty ≡ gives
  pub passes : Passes skeleton.head skeleton.functions ty gives
  pub small : AreSmall skeleton.functions

abbrev pub ArePassing : List Statement → List ℕ → List Width → Type 0
ArePassing lines [] ty = Unit {0}
ArePassing lines (n ∷ ns) ty = IsPassing lines n ty (type_by (slice_get lines n) ty) × ArePassing lines ns (type_by (slice_get lines n) ty)

-- ---- the table

pub record IsListAt (table : Values) (n : ℕ) : Type 0 where
  pub held : slice_get table n ≡ Some (Some (value.List (list_at table n)))

abbrev pub AreListsAt : Values → List ℕ → Type 0
AreListsAt table [] = Unit {0}
AreListsAt table (n ∷ ns) = IsListAt table n × AreListsAt table ns

-- the two lists of `zip`
abbrev pub ArePaired : Head → Values → List ℕ → Type 0
ArePaired head.Zip table (x ∷ y ∷ []) = (length (list_at table x).items ≡ length (list_at table y).items) × (length ((list_at table x).ty ++ (list_at table y).ty) ≤ 4)
ArePaired h table ns = Unit {0}
