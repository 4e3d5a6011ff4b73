-- The text that tells the type of each name.
use Rattle.std.specs.Prelude.{ℕ, List, [], ◌∷◌, ◌++◌, codes, Some, None, flat_map}
use Rattle.op_laws.specs.declared.width.Width.{Width}
use Rattle.op_laws.specs.declared.width.Width.TheVariants.{W64, W96, W128}
use Rattle.script_lang.specs.declared.kind.Kind.{Kind}
use Rattle.script_lang.specs.declared.kind.Kind.TheVariants as kind
use Rattle.script_lang.specs.Syntax.{Statement, Binding}
use Rattle.script_lang.specs.Steps.{bound_by}

abbrev pub kind_word : Kind → List ℕ
kind_word kind.Single = codes "value"
kind_word kind.List = codes "list"
kind_word kind.Matrix = codes "matrix"
kind_word kind.Tree = codes "tree"
kind_word kind.Rose = codes "rose"

abbrev pub width_word : Width → List ℕ
width_word W64 = codes "w64"
width_word W96 = codes "w96"
width_word W128 = codes "w128"

-- a byte and a width
abbrev pub width_after : ℕ → Width → List ℕ
width_after mark w = mark ∷ width_word w

-- a width, or widths between parentheses with commas
abbrev pub type_text : List Width → List ℕ
type_text [] = []
type_text (w ∷ []) = width_word w
type_text (v ∷ w ∷ ws) = width_after 40 v ++ (flat_map (width_after 44) (w ∷ ws) ++ 41 ∷ [])

-- the line of a name, its kind's word and its type
abbrev pub type_line : List ℕ → List ℕ → List Width → List ℕ
type_line name kind ty = name ++ (32 ∷ kind ++ (32 ∷ type_text ty ++ 10 ∷ []))

abbrev pub binding_text : Binding → List ℕ
binding_text b = type_line b.name (kind_word b.kind) b.ty

abbrev pub statement_text : Statement → List ℕ
statement_text l = elim (bound_by l) [ None ↦ [] | Some b ↦ binding_text b ]

-- one line for each name
abbrev pub types_text : List Statement → List ℕ
types_text lines = flat_map statement_text lines
