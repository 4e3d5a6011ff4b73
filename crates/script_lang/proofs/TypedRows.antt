-- Worked rows, by computation: scripts that are typed.
use Rattle.std.proofs.Common.{◌≡◌, ℕ, List, [], ◌∷◌, Ok, Err, refl}
use Rattle.std.specs.Prelude.{codes, Some, None, replicate}
use Rattle.plain_text.specs.Numbers.{number_of}
use Rattle.script_words.specs.Lines.{tokens_from}
use Rattle.script_words.specs.Reading.{next, name_at, this_at, number_at}
use Rattle.script_words.specs.Functions.{atom_at, parts_at, nested_at, scalar_at, others_at, scalars_at, function_at}
use Rattle.script_lang.specs.declared.fault.ScriptFault.TheVariants as fault
use Rattle.script_lang.specs.Grammar.{slot_at, slots_at, like_at, input_at, let_at, print_at, form_at}
use Rattle.script_lang.specs.Steps.{found_from, known_at, known_all, is_new, of_kind, kinds_at, operators_at, abiding_at, types_at, components_at, type_at, unit_at, pair_at, let_line, like_line, input_line, print_line, line_of}
use Rattle.script_lang.specs.Script.{line_at, lines_at, script}
use Rattle.scalar_expr.specs.Expr.{part}
use Rattle.op_laws.specs.declared.width.Width.TheVariants.{W64, W96, W128}
use Rattle.op_catalog.specs.declared.list_op.ListOp.TheVariants.{Add}
use Rattle.script_lang.specs.declared.kind.Kind.TheVariants as kind
use Rattle.script_lang.specs.declared.head.Head.TheVariants as head
use Rattle.script_lang.specs.declared.op.Op.TheVariants as op
use Rattle.script_lang.specs.Syntax.{binds_input, binds_let, prints}
use Rattle.script_lang.specs.TypesText.{types_text}
use Rattle.script_lang.proofs.RowWords.{read}

-- what `check` prints of a script
abbrev told : List ℕ → List ℕ
told bytes = elim (script bytes) [ Ok lines ↦ types_text lines | Err e ↦ [] ]

-- pairs
pairs : told (codes "input a list\ninput b list like a\nlet p = zip a b\nlet f = reduce affine p\nlet q = rev p\nlet g = reduce affine q\nprint f\nprint g") ≡ codes "a list w64\nb list w64\np list (w64,w64)\nf value (w64,w64)\nq list (w64,w64)\ng value (w64,w64)\n"
unfolding tokens_from number_of next name_at this_at number_at atom_at parts_at nested_at scalar_at others_at scalars_at function_at slot_at slots_at like_at input_at let_at print_at form_at found_from known_at known_all is_new of_kind kinds_at operators_at abiding_at types_at components_at type_at unit_at pair_at let_line like_line input_line print_line line_of line_at lines_at script
pairs = refl

-- prefix sums of prefix sums, and suffix sums
prefixes : told (codes "input x list\nlet s = scan add x\nlet u = scan add s\nlet v = scanr add x\nprint u\nprint v") ≡ codes "x list w64\ns list w96\nu list w128\nv list w96\n"
unfolding tokens_from number_of next name_at this_at number_at atom_at parts_at nested_at scalar_at others_at scalars_at function_at slot_at slots_at like_at input_at let_at print_at form_at found_from known_at known_all is_new of_kind kinds_at operators_at abiding_at types_at components_at type_at unit_at pair_at let_line like_line input_line print_line line_of line_at lines_at script
prefixes = refl

-- a filter, and a product of widths
evens : told (codes "input x list\nlet e = filter (= (and #0 1) 0) x\nlet s = map (* #0 #0) e\nlet r = reduce add s\nlet i = iota e\nlet z = zip i e\nprint r") ≡ codes "x list w64\ne list w64\ns list w64\nr value w96\ni list w64\nz list (w64,w64)\n"
unfolding tokens_from number_of next name_at this_at number_at atom_at parts_at nested_at scalar_at others_at scalars_at function_at slot_at slots_at like_at input_at let_at print_at form_at found_from known_at known_all is_new of_kind kinds_at operators_at abiding_at types_at components_at type_at unit_at pair_at let_line like_line input_line print_line line_of line_at lines_at script
evens = refl

-- matrices
matrices : told (codes "input a matrix\nlet b = zip a a\nlet c = scan first affine b\nlet d = rows add a\nlet e = cols mss a\nlet f = transpose b\nlet g = reduce add add a\nlet h = reduce last first f") ≡ codes "a matrix w64\nb matrix (w64,w64)\nc matrix (w64,w64)\nd list w96\ne list w96\nf matrix (w64,w64)\ng value w96\nh value (w64,w64)\n"
unfolding tokens_from number_of next name_at this_at number_at atom_at parts_at nested_at scalar_at others_at scalars_at function_at slot_at slots_at like_at input_at let_at print_at form_at found_from known_at known_all is_new of_kind kinds_at operators_at abiding_at types_at components_at type_at unit_at pair_at let_line like_line input_line print_line line_of line_at lines_at script
matrices = refl

-- trees and rose trees
trees : told (codes "input t tree\ninput r rose\nlet u = uacc sum t\nlet d = dacc turns -1 t\nlet m = mapln (tuple #0 (+ #0 1)) (tuple 1 2) t\nlet c = getchr 007 u\nlet v = reduce heavy t\nlet s = uacc ring r\nlet p = dacc pathsum 0 r\nlet w = reduce max r\nlet i = dacc heapindex 1 m") ≡ codes "t tree w64\nr rose w64\nu tree w96\nd tree w96\nm tree (w64,w96)\nc tree w96\nv value w96\ns rose w64\np rose w96\nw value w64\ni tree w64\n"
unfolding tokens_from number_of next name_at this_at number_at atom_at parts_at nested_at scalar_at others_at scalars_at function_at slot_at slots_at like_at input_at let_at print_at form_at found_from known_at known_all is_new of_kind kinds_at operators_at abiding_at types_at components_at type_at unit_at pair_at let_line like_line input_line print_line line_of line_at lines_at script
trees = refl

-- no word is reserved, and the last line needs no line feed
no_word_is_reserved : told (codes "input input list\ninput list list like input\nlet let = reduce add input\nlet map = map (if (< #0 0) (- 0 #0) #0) list\nprint let") ≡ codes "input list w64\nlist list w64\nlet value w96\nmap list w96\n"
unfolding tokens_from number_of next name_at this_at number_at atom_at parts_at nested_at scalar_at others_at scalars_at function_at slot_at slots_at like_at input_at let_at print_at form_at found_from known_at known_all is_new of_kind kinds_at operators_at abiding_at types_at components_at type_at unit_at pair_at let_line like_line input_line print_line line_of line_at lines_at script
no_word_is_reserved = refl

-- the numbers of lines and shapes: line i makes the shapes 2i + 1 and 2i + 2
numbers : script (codes "; two matrices\n\ninput a matrix\ninput b matrix like a\nlet z = zip a b\nlet t = transpose a\nlet c = cols add a\n\nlet f = filter #0 c\nlet s = reduce add f\nprint s") ≡ Ok (
    binds_input (record { name = codes "a"; kind = kind.Matrix; ty = W64 ∷ []; shape = 1; across = 2 }) None
    ∷ binds_input (record { name = codes "b"; kind = kind.Matrix; ty = W64 ∷ []; shape = 1; across = 2 }) (Some 0)
    ∷ binds_let (record { name = codes "z"; kind = kind.Matrix; ty = W64 ∷ W64 ∷ []; shape = 1; across = 2 }) (record { head = head.Zip; functions = []; ops = []; numbers = []; arguments = 0 ∷ 1 ∷ [] })
    ∷ binds_let (record { name = codes "t"; kind = kind.Matrix; ty = W64 ∷ []; shape = 2; across = 1 }) (record { head = head.Transpose; functions = []; ops = []; numbers = []; arguments = 0 ∷ [] })
    ∷ binds_let (record { name = codes "c"; kind = kind.List; ty = W96 ∷ []; shape = 2; across = 0 }) (record { head = head.Cols; functions = []; ops = op.Flat Add ∷ []; numbers = []; arguments = 0 ∷ [] })
    ∷ binds_let (record { name = codes "f"; kind = kind.List; ty = W96 ∷ []; shape = 11; across = 0 }) (record { head = head.Filter; functions = (part 0 ∷ []) ∷ []; ops = []; numbers = []; arguments = 4 ∷ [] })
    ∷ binds_let (record { name = codes "s"; kind = kind.Single; ty = W128 ∷ []; shape = 0; across = 0 }) (record { head = head.Reduce; functions = []; ops = op.Flat Add ∷ []; numbers = []; arguments = 5 ∷ [] })
    ∷ prints 6
    ∷ [])
unfolding tokens_from number_of next name_at this_at number_at atom_at parts_at nested_at scalar_at others_at scalars_at function_at slot_at slots_at like_at input_at let_at print_at form_at found_from known_at known_all is_new of_kind kinds_at operators_at abiding_at types_at components_at type_at unit_at pair_at let_line like_line input_line print_line line_of line_at lines_at script
numbers = refl

-- at most 65,536 bytes
length_rows : read ((replicate 65537 10, Err fault.Long) ∷ (replicate 65538 32, Err fault.Long) ∷ (replicate 70000 59, Err fault.Long) ∷ []) ≡ Err fault.Long ∷ Err fault.Long ∷ Err fault.Long ∷ []
unfolding script
length_rows = refl
