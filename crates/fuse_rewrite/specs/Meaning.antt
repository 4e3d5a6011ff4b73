-- What scripts over lists mean: each line by itself, on whole lists. There is no pipe, block or worker here.
use Rattle.std.specs.Prelude.{ℕ, ℤ, Bool, true, false, List, [], ◌∷◌, ◌++◌, map, length, reverse, slice_get, bytes_eq, Option, Some, None, unwrap_or, if◌then◌else◌}
use Rattle.std.specs.List.{flat_map}
use Rattle.op_laws.specs.declared.width.Width.{Width}
use Rattle.op_laws.specs.declared.width.Width.TheVariants.{W64}
use Rattle.op_laws.specs.Elements.{Elements, singles}
use Rattle.op_catalog.specs.Catalog.{reduction_of}
use Rattle.scalar_expr.specs.Expr.{Expr}
use Rattle.scalar_expr.specs.Values.{values_of}
use Rattle.op_laws.specs.Lists.{zipped, iota, filtered, scanned, scanned_back}
use Rattle.data_text.specs.declared.value.Value.{Value}
use Rattle.data_text.specs.declared.value.Value.TheVariants as value
use Rattle.data_text.specs.declared.value.Named.{Named}
use Rattle.data_text.specs.Data.{Content, many, Section}
use Rattle.script_lang.specs.declared.head.Head.{Head}
use Rattle.script_lang.specs.declared.head.Head.TheVariants as head
use Rattle.script_lang.specs.declared.op.Op.{Op}
use Rattle.script_lang.specs.declared.op.Op.TheVariants as op
use Rattle.script_lang.specs.Syntax.{Binding, Skeleton, Statement, binds_input, binds_let, prints}
use Rattle.script_lang.specs.Sound.{binding_at}

-- ---- one skeleton

-- what an operator makes of elements of this type; nothing of no element, where it has no unit
abbrev pub reduced_by : Op → List Width → List (List ℤ) → List ℤ
reduced_by (op.Flat o) ty es = unwrap_or (reduction_of o ty es) []
reduced_by o ty es = []

-- the one element that operators make of a list
abbrev pub element_made : List Op → Elements → List ℤ
element_made [] x = []
element_made (o ∷ os) x = reduced_by o x.ty x.items

-- the elements of the list that a skeleton makes of a list x, and of others
abbrev pub items_made : Head → List (List Expr) → List Op → Elements → List Elements → List (List ℤ)
items_made head.Map (f ∷ fs) os x ys = map (values_of f) x.items
items_made head.Filter (f ∷ fs) os x ys = filtered (values_of f) x.items
items_made head.Zip fs os x (y ∷ ys) = zipped x.items y.items
items_made head.Rev fs os x ys = reverse x.items
items_made head.Iota fs os x ys = iota (length x.items)
items_made head.Plain fs os x ys = x.items
items_made head.Scan fs (o ∷ os) x ys = scanned (reduced_by o x.ty) x.items
items_made head.Scanr fs (o ∷ os) x ys = scanned_back (reduced_by o x.ty) x.items
items_made h fs os x ys = []

abbrev pub makes_element : Head → Bool
makes_element head.Reduce = true
makes_element h = false

-- what a skeleton makes of lists, for the name that its line binds: one element, or a list
abbrev pub value_made : Binding → Skeleton → List Elements → Value
value_made b s [] = value.List (record { ty = b.ty; items = [] })
value_made b s (x ∷ ys) = if makes_element s.head
    then value.Single b.ty (element_made s.ops x)
    else value.List (record { ty = b.ty; items = items_made s.head s.functions s.ops x ys })

-- ---- a script

-- what the names of lines stand for, by the lines' numbers; a print line binds none
abbrev pub Values : Type 0
Values = List (Option Value)

abbrev pub no_elements : Elements
no_elements = record { ty = []; items = [] }

-- the list that a name stands for
abbrev pub list_in : Option (Option Value) → Elements
list_in (Some (Some (value.List x))) = x
list_in v = no_elements

abbrev pub list_at : Values → ℕ → Elements
list_at values n = list_in (slice_get values n)

-- what the data has under a name
abbrev pub content_under : List ℕ → List Section → Option Content
content_under name [] = None
content_under name (s ∷ sections) = if bytes_eq s.name name then Some s.content else content_under name sections

-- the list that an input reads
abbrev pub list_read : Option Content → Option Value
list_read (Some (many xs)) = Some (value.List (record { ty = W64 ∷ []; items = singles xs }))
list_read c = None

-- what a line's name stands for, by the data and by what the names of earlier lines stand for
abbrev pub value_of : List Section → Values → Statement → Option Value
value_of sections before (binds_input b like) = list_read (content_under b.name sections)
value_of sections before (binds_let b s) = Some (value_made b s (map (list_at before) s.arguments))
value_of sections before (prints n) = None

-- line after line
unfoldable pub values_after : List Section → Values → List Statement → Values
values_after sections before [] = before
values_after sections before (l ∷ ls) = values_after sections (before ++ value_of sections before l ∷ []) ls

abbrev pub values_of_script : List Section → List Statement → Values
values_of_script sections lines = values_after sections [] lines

-- a name with what it stands for
abbrev pub named_by : Option Binding → Option (Option Value) → List Named
named_by (Some b) (Some (Some v)) = record { name = b.name; value = v } ∷ []
named_by b v = []

abbrev pub printed_by : List Statement → Values → Statement → List Named
printed_by lines values (prints n) = named_by (binding_at lines n) (slice_get values n)
printed_by lines values l = []

-- the printed names with what they stand for, in the order of the print lines
abbrev pub script_meaning : List Section → List Statement → List Named
script_meaning sections lines = flat_map (printed_by lines (values_of_script sections lines)) lines
