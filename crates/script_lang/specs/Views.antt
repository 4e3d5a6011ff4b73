-- How the code's lines, skeletons and forms are seen.
use Rattle.std.specs.Prelude.{ℕ, ℤ, List, [], ◌∷◌, IsTrue}
use Rattle.plain_text.specs.Numbers.{is_name}
use Rattle.scalar_expr.specs.Expr.{Expr}
use Rattle.scalar_expr.specs.Views.{scalars_of}
use Rattle.script_words.specs.Lines.{Token}
use Rattle.script_words.specs.Functions.{Function}
use Rattle.script_words.specs.Views.{function_of}
use Rattle.script_lang.specs.declared.head.Head.{Head}
use Rattle.script_lang.specs.declared.head.Head.TheVariants as head
use Rattle.script_lang.specs.declared.op.Op.{Op}
use Rattle.script_lang.specs.declared.op.Op.TheVariants as op
use Rattle.script_lang.specs.declared.skel.Fold.{Fold}
use Rattle.script_lang.specs.declared.skel.Fold.TheVariants as fold
use Rattle.script_lang.specs.declared.skel.Drop2.{Drop2}
use Rattle.script_lang.specs.declared.skel.Drop2.TheVariants as drop2
use Rattle.script_lang.specs.declared.skel.Skel.{Skel}
use Rattle.script_lang.specs.declared.skel.Skel.TheVariants as skel
use Rattle.script_lang.specs.declared.line.Bound.{Bound}
use Rattle.script_lang.specs.declared.line.Line.{Line}
use Rattle.script_lang.specs.declared.line.Line.TheVariants as line
use Rattle.script_lang.specs.declared.known.Known.{Known as Found}
use Rattle.script_lang.specs.declared.form.Written.{Written as Grouped}
use Rattle.script_lang.specs.declared.form.Written.TheVariants as written
use Rattle.script_lang.specs.declared.form.Form.{Form as Line_form}
use Rattle.script_lang.specs.declared.form.Form.TheVariants as form
use Rattle.script_lang.specs.Syntax.{Written, Form, input_form, let_form, print_form, Binding, Skeleton, Statement, binds_input, binds_let, prints}
use Rattle.script_lang.specs.Steps.{Known}
use Rattle.script_lang.specs.Groups.{map_head, plain_head, fold_head, flat_head, both_head, child_head}

-- ---- what callers see

abbrev pub binding_of : Bound → Binding
binding_of b = record { name = b.name; kind = b.kind; ty = b.ty; shape = b.shape; across = b.across }

abbrev pub fold_op : Fold → Op
fold_op (fold.Flat o) = op.Flat o
fold_op (fold.Up o) = op.Up o
fold_op (fold.Rose o) = op.Rose o

abbrev pub drop_op : Drop2 → Op
drop_op (drop2.Down o) = op.Down o
drop_op (drop2.Rose o) = op.RoseDown o

abbrev pub skeleton_with : Head → List (List Expr) → List Op → List ℤ → List ℕ → Skeleton
skeleton_with h fs os ns xs = record { head = h; functions = fs; ops = os; numbers = ns; arguments = xs }

abbrev pub skeleton_of : Skel → Skeleton
skeleton_of (skel.Map f x) = skeleton_with head.Map (scalars_of f ∷ []) [] [] (x ∷ [])
skeleton_of (skel.Mapln leaf node x) = skeleton_with head.Mapln (scalars_of leaf ∷ scalars_of node ∷ []) [] [] (x ∷ [])
skeleton_of (skel.Zip x y) = skeleton_with head.Zip [] [] [] (x ∷ y ∷ [])
skeleton_of (skel.Filter f x) = skeleton_with head.Filter (scalars_of f ∷ []) [] [] (x ∷ [])
skeleton_of (skel.Rev x) = skeleton_with head.Rev [] [] [] (x ∷ [])
skeleton_of (skel.Iota x) = skeleton_with head.Iota [] [] [] (x ∷ [])
skeleton_of (skel.Plain x) = skeleton_with head.Plain [] [] [] (x ∷ [])
skeleton_of (skel.Reduce o x) = skeleton_with head.Reduce [] (fold_op o ∷ []) [] (x ∷ [])
skeleton_of (skel.ReduceBoth down across x) = skeleton_with head.Reduce [] (op.Flat down ∷ op.Flat across ∷ []) [] (x ∷ [])
skeleton_of (skel.Scan o x) = skeleton_with head.Scan [] (op.Flat o ∷ []) [] (x ∷ [])
skeleton_of (skel.Scanr o x) = skeleton_with head.Scanr [] (op.Flat o ∷ []) [] (x ∷ [])
skeleton_of (skel.ScanBoth down across x) = skeleton_with head.Scan [] (op.Flat down ∷ op.Flat across ∷ []) [] (x ∷ [])
skeleton_of (skel.Rows o x) = skeleton_with head.Rows [] (op.Flat o ∷ []) [] (x ∷ [])
skeleton_of (skel.Cols o x) = skeleton_with head.Cols [] (op.Flat o ∷ []) [] (x ∷ [])
skeleton_of (skel.Transpose x) = skeleton_with head.Transpose [] [] [] (x ∷ [])
skeleton_of (skel.Uacc o x) = skeleton_with head.Uacc [] (fold_op o ∷ []) [] (x ∷ [])
skeleton_of (skel.Dacc o start x) = skeleton_with head.Dacc [] (drop_op o ∷ []) (start ∷ []) (x ∷ [])
skeleton_of (skel.Getchl start x) = skeleton_with head.Getchl [] [] (start ∷ []) (x ∷ [])
skeleton_of (skel.Getchr start x) = skeleton_with head.Getchr [] [] (start ∷ []) (x ∷ [])

abbrev pub statement_of : Line → Statement
statement_of (line.Input b like) = binds_input (binding_of b) like
statement_of (line.Let b s) = binds_let (binding_of b) (skeleton_of s)
statement_of (line.Print n) = prints n

-- ---- inside the crate

abbrev pub known_of : Found → Known
known_of k = record { column = k.column; line = k.line; input = k.input; bound = binding_of k.bound.now }

abbrev pub written_with : List Function → List Token → List ℤ → List Token → Written
written_with fs os ns xs = record { functions = fs; operators = os; numbers = ns; arguments = xs }

abbrev pub head_of : Grouped → Head
head_of (written.Mapped h f x) = map_head h
head_of (written.Mapln leaf node x) = head.Mapln
head_of (written.Zip x y) = head.Zip
head_of (written.Plain h x) = plain_head h
head_of (written.Folded h o x) = fold_head h
head_of (written.Flat h o x) = flat_head h
head_of (written.Both h down across x) = both_head h
head_of (written.Dacc o start x) = head.Dacc
head_of (written.Child h start x) = child_head h

abbrev pub written_of : Grouped → Written
written_of (written.Mapped h f x) = written_with (function_of f ∷ []) [] [] (x ∷ [])
written_of (written.Mapln leaf node x) = written_with (function_of leaf ∷ function_of node ∷ []) [] [] (x ∷ [])
written_of (written.Zip x y) = written_with [] [] [] (x ∷ y ∷ [])
written_of (written.Plain h x) = written_with [] [] [] (x ∷ [])
written_of (written.Folded h o x) = written_with [] (o ∷ []) [] (x ∷ [])
written_of (written.Flat h o x) = written_with [] (o ∷ []) [] (x ∷ [])
written_of (written.Both h down across x) = written_with [] (down ∷ across ∷ []) [] (x ∷ [])
written_of (written.Dacc o start x) = written_with [] (o ∷ []) (start ∷ []) (x ∷ [])
written_of (written.Child h start x) = written_with [] [] (start ∷ []) (x ∷ [])

abbrev pub form_of : Line_form → Form
form_of (form.Input name k like) = input_form name k like
form_of (form.Let name w) = let_form name (head_of w) (written_of w)
form_of (form.Print at of) = print_form at of

-- the name that a line binds is a name
abbrev pub IsNamed : Line_form → Type 0
IsNamed (form.Input name k like) = IsTrue (is_name name.text)
IsNamed (form.Let name w) = IsTrue (is_name name.text)
IsNamed (form.Print at of) = Unit {0}
