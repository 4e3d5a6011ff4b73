-- Worked rows, by computation: what scripts over lists print.
use Rattle.std.proofs.Common.{◌≡◌, ℕ, ℤ, pos, negsuc, List, [], ◌∷◌, Ok, Err, refl}
use Rattle.std.specs.Prelude.{codes, flat_map}
use Rattle.std.specs.Fmt.{digits}
use Rattle.std.specs.Int.{int_wrap}
use Rattle.plain_text.specs.Numbers.{number_of}
use Rattle.data_text.specs.Data.{Section, many}
use Rattle.data_text.specs.Printed.{text_of}
use Rattle.script_words.specs.Lines.{tokens_from}
use Rattle.script_words.specs.Reading.{next, name_at, this_at, number_at}
use Rattle.script_words.specs.Functions.{atom_at, parts_at, nested_at, scalar_at, others_at, scalars_at, function_at}
use Rattle.script_lang.specs.Grammar.{slot_at, slots_at, like_at, input_at, let_at, print_at, form_at}
use Rattle.script_lang.specs.Steps.{found_from, known_at, known_all, is_new, of_kind, kinds_at, operators_at, abiding_at, types_at, components_at, type_at, unit_at, pair_at, let_line, like_line, input_line, print_line, line_of}
use Rattle.script_lang.specs.Script.{line_at, lines_at, script}
use Rattle.fuse_rewrite.specs.Meaning.{values_after, script_meaning}

-- what a run prints of a script and the data
abbrev printed : List ℕ → List Section → List ℕ
printed bytes sections = elim (script bytes) [ Ok lines ↦ flat_map text_of (script_meaning sections lines) | Err e ↦ [] ]

abbrev list_named : List ℕ → List ℤ → Section
list_named name xs = record { name = name; content = many xs }

abbrev one_to_six : List ℤ
one_to_six = pos 1 ∷ pos 2 ∷ pos 3 ∷ pos 4 ∷ pos 5 ∷ pos 6 ∷ []

total : printed (codes "input x list\nlet r = reduce add x\nprint r") (list_named (codes "x") one_to_six ∷ []) ≡ codes "r value 21\n"
unfolding tokens_from number_of next name_at this_at number_at atom_at parts_at nested_at scalar_at others_at scalars_at function_at slot_at slots_at like_at input_at let_at print_at form_at found_from known_at known_all is_new of_kind kinds_at operators_at abiding_at types_at components_at type_at unit_at pair_at let_line like_line input_line print_line line_of line_at lines_at script values_after int_wrap digits
total = refl

-- nothing of no element, but for units
empty : printed (codes "input x list\nlet a = reduce add x\nlet b = reduce mul x\nlet c = reduce min x\nlet e = scan add x\nprint a\nprint b\nprint c\nprint e") (list_named (codes "x") [] ∷ []) ≡ codes "a value 0\nb value 1\nc value 9223372036854775807\ne list 0\n"
unfolding tokens_from number_of next name_at this_at number_at atom_at parts_at nested_at scalar_at others_at scalars_at function_at slot_at slots_at like_at input_at let_at print_at form_at found_from known_at known_all is_new of_kind kinds_at operators_at abiding_at types_at components_at type_at unit_at pair_at let_line like_line input_line print_line line_of line_at lines_at script values_after int_wrap digits
empty = refl

-- the squares of the even numbers, and their sum
filtered : printed (codes "input x list\nlet e = filter (= (and #0 1) 0) x\nlet s = map (* #0 #0) e\nlet r = reduce add s\nprint e\nprint r") (list_named (codes "x") one_to_six ∷ []) ≡ codes "e list 3 2 4 6\nr value 56\n"
unfolding tokens_from number_of next name_at this_at number_at atom_at parts_at nested_at scalar_at others_at scalars_at function_at slot_at slots_at like_at input_at let_at print_at form_at found_from known_at known_all is_new of_kind kinds_at operators_at abiding_at types_at components_at type_at unit_at pair_at let_line like_line input_line print_line line_of line_at lines_at script values_after int_wrap digits
filtered = refl

-- pairs, composed in order and turned round; two names are printed
paired : printed (codes "input a list\ninput b list like a\nlet p = zip a b\nlet f = reduce affine p\nlet q = rev p\nlet g = reduce affine q\nprint f\nprint g") (list_named (codes "b") (pos 1 ∷ pos 0 ∷ pos 5 ∷ []) ∷ list_named (codes "a") (pos 2 ∷ pos 3 ∷ pos 1 ∷ []) ∷ []) ≡ codes "f value (6,8)\ng value (6,31)\n"
unfolding tokens_from number_of next name_at this_at number_at atom_at parts_at nested_at scalar_at others_at scalars_at function_at slot_at slots_at like_at input_at let_at print_at form_at found_from known_at known_all is_new of_kind kinds_at operators_at abiding_at types_at components_at type_at unit_at pair_at let_line like_line input_line print_line line_of line_at lines_at script values_after int_wrap digits
paired = refl

-- running totals, twice, and from behind
scanned : printed (codes "input x list\nlet s = scan add x\nlet u = scan add s\nlet v = scanr add x\nprint u\nprint v") (list_named (codes "x") (pos 1 ∷ pos 2 ∷ pos 3 ∷ []) ∷ []) ≡ codes "u list 3 1 4 10\nv list 3 6 5 3\n"
unfolding tokens_from number_of next name_at this_at number_at atom_at parts_at nested_at scalar_at others_at scalars_at function_at slot_at slots_at like_at input_at let_at print_at form_at found_from known_at known_all is_new of_kind kinds_at operators_at abiding_at types_at components_at type_at unit_at pair_at let_line like_line input_line print_line line_of line_at lines_at script values_after int_wrap digits
scanned = refl

-- an input is printed as it is, places count from 0, and `plain` changes nothing; what is printed keeps the order of the print lines
places : printed (codes "input x list\nlet i = iota x\nlet p = plain x\nprint p\nprint i\nprint x") (list_named (codes "y") [] ∷ list_named (codes "x") (negsuc 6 ∷ pos 5 ∷ []) ∷ []) ≡ codes "p list 2 -7 5\ni list 2 0 1\nx list 2 -7 5\n"
unfolding tokens_from number_of next name_at this_at number_at atom_at parts_at nested_at scalar_at others_at scalars_at function_at slot_at slots_at like_at input_at let_at print_at form_at found_from known_at known_all is_new of_kind kinds_at operators_at abiding_at types_at components_at type_at unit_at pair_at let_line like_line input_line print_line line_of line_at lines_at script values_after int_wrap digits
places = refl
