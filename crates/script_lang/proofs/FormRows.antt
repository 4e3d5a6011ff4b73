-- Worked rows, by computation: faults of form.
use Rattle.std.proofs.Common.{◌≡◌, List, [], ◌∷◌, ◌++◌, Err, refl}
use Rattle.std.specs.Prelude.{codes}
use Rattle.plain_text.specs.Numbers.{number_of}
use Rattle.script_words.specs.declared.fault.ScriptWhat.TheVariants as what
use Rattle.script_words.specs.Lines.{tokens_from}
use Rattle.script_words.specs.Reading.{next, name_at, this_at, number_at}
use Rattle.script_words.specs.Functions.{atom_at, parts_at, nested_at, scalar_at, others_at, scalars_at, function_at}
use Rattle.script_lang.specs.declared.fault.ScriptFault.TheVariants as fault
use Rattle.script_lang.specs.Grammar.{slot_at, slots_at, like_at, input_at, let_at, print_at, form_at}
use Rattle.script_lang.specs.Steps.{found_from, known_at, known_all, is_new, of_kind, kinds_at, operators_at, abiding_at, types_at, components_at, type_at, unit_at, pair_at, let_line, like_line, input_line, print_line, line_of}
use Rattle.script_lang.specs.Script.{line_at, lines_at, script}
use Rattle.script_lang.proofs.RowWords.{Row, read, wanted, after_inputs, times, full}

-- the word with which no line goes on, or just past the last word
abbrev bad_line_rows : List Row
bad_line_rows =
    ((after_inputs (codes "let y = map (+ #0")), Err (fault.At 5 18 what.BadLine))
    ∷ ((after_inputs (codes "let y = reduce add min a b")), Err (fault.At 5 26 what.BadLine))
    ∷ ((codes "; no\n\n" ++ 9 ∷ codes "input" ++ 9 ∷ codes "x list " ++ 13 ∷ codes "\n print x y"), Err (fault.At 4 10 what.BadLine))
    ∷ ((after_inputs ((9 ∷ 13 ∷ codes " let" ++ 9 ∷ codes "y = rev x ;"))), Err (fault.At 5 18 what.BadLine))
    ∷ ((codes "input x  " ++ 13 ∷ []), Err (fault.At 1 8 what.BadLine))
    ∷ ((after_inputs (codes "let y = getchl 9223372036854775808 t")), Err (fault.At 5 16 what.BadLine))
    ∷ ((codes "input abcdefghijklmnopqrstuvwxyzabcdefg list"), Err (fault.At 1 7 what.BadLine))
    ∷ ((after_inputs (codes "let y = reduce + x")), Err (fault.At 5 16 what.BadLine))
    ∷ ((after_inputs (codes "let y = map (tuple #0) x")), Err (fault.At 5 22 what.BadLine))
    ∷ ((after_inputs (codes "let y = map (tuple 1 2 3 4 5) x")), Err (fault.At 5 28 what.BadLine))
    ∷ ((after_inputs (codes "let y = map (+ (tuple 1 2) 1) x")), Err (fault.At 5 17 what.BadLine))
    ∷ ((after_inputs (codes "let y = map #4 x")), Err (fault.At 5 13 what.BadLine))
    ∷ ((after_inputs (codes "draw x")), Err (fault.At 5 1 what.BadLine))
    ∷ ((codes "print x" ++ 12 ∷ []), Err (fault.At 1 7 what.BadLine))
    ∷ ((codes "input x list ; numbers"), Err (fault.At 1 14 what.BadLine))
    ∷ ((after_inputs (codes "let y = reduce add x (")), Err (fault.At 5 22 what.BadLine))
    ∷ []

bad_line : read bad_line_rows ≡ wanted bad_line_rows
unfolding tokens_from number_of next name_at this_at number_at atom_at parts_at nested_at scalar_at others_at scalars_at function_at slot_at slots_at like_at input_at let_at print_at form_at found_from known_at known_all is_new of_kind kinds_at operators_at abiding_at types_at components_at type_at unit_at pair_at let_line like_line input_line print_line line_of line_at lines_at script
bad_line = refl

-- the longest and greatest names and numbers, and those past them
abbrev longest_rows : List Row
longest_rows =
    ((codes "input abcdefghijklmnopqrstuvwxyzabcdef list\nprint q"), Err (fault.At 2 7 what.UnknownName))
    ∷ ((codes "input abcdefghijklmnopqrstuvwxyzabcdefg list\nprint q"), Err (fault.At 1 7 what.BadLine))
    ∷ ((after_inputs (codes "let y = getchl " ++ times 40 (codes "0") ++ codes " t\nprint q")), Err (fault.At 6 7 what.UnknownName))
    ∷ ((after_inputs (codes "let y = getchl " ++ times 41 (codes "0") ++ codes " t\nprint q")), Err (fault.At 5 16 what.BadLine))
    ∷ ((after_inputs (codes "let y = getchr -9223372036854775808 t\nprint q")), Err (fault.At 6 7 what.UnknownName))
    ∷ ((after_inputs (codes "let y = getchr -9223372036854775809 t\nprint q")), Err (fault.At 5 16 what.BadLine))
    ∷ []

longest : read longest_rows ≡ wanted longest_rows
unfolding tokens_from number_of next name_at this_at number_at atom_at parts_at nested_at scalar_at others_at scalars_at function_at slot_at slots_at like_at input_at let_at print_at form_at found_from known_at known_all is_new of_kind kinds_at operators_at abiding_at types_at components_at type_at unit_at pair_at let_line like_line input_line print_line line_of line_at lines_at script
longest = refl

-- `reduce` with one name lacks an argument, whatever the name stands for
abbrev one_name_rows : List Row
one_name_rows =
    ((after_inputs (codes "let y = reduce x")), Err (fault.At 5 17 what.BadLine))
    ∷ ((after_inputs (codes "let y = reduce a")), Err (fault.At 5 17 what.BadLine))
    ∷ ((after_inputs (codes "let y = reduce t")), Err (fault.At 5 17 what.BadLine))
    ∷ ((after_inputs (codes "let y = reduce r")), Err (fault.At 5 17 what.BadLine))
    ∷ []

one_name : read one_name_rows ≡ wanted one_name_rows
unfolding tokens_from number_of next name_at this_at number_at atom_at parts_at nested_at scalar_at others_at scalars_at function_at slot_at slots_at like_at input_at let_at print_at form_at found_from known_at known_all is_new of_kind kinds_at operators_at abiding_at types_at components_at type_at unit_at pair_at let_line like_line input_line print_line line_of line_at lines_at script
one_name = refl

-- 29 parentheses may be open at once, a leading `(tuple` not counted; the 30th is at fault whatever follows, where a scalar may stand
abbrev too_deep_rows : List Row
too_deep_rows =
    ((after_inputs ((codes "let y = map " ++ times 30 (codes "(wrap ")))), Err (fault.At 5 187 what.TooDeep))
    ∷ ((after_inputs ((codes "let y = map " ++ times 30 (codes "(wrap ") ++ codes "#9"))), Err (fault.At 5 187 what.TooDeep))
    ∷ ((after_inputs ((codes "let y = map (tuple " ++ times 30 (codes "(wrap ")))), Err (fault.At 5 194 what.TooDeep))
    ∷ ((after_inputs ((codes "let y = map (tuple 1 " ++ times 30 (codes "(wrap ")))), Err (fault.At 5 196 what.TooDeep))
    ∷ ((after_inputs ((codes "let y = map " ++ times 29 (codes "(wrap ") ++ codes "#0 ("))), Err (fault.At 5 190 what.BadLine))
    ∷ ((after_inputs ((codes "let y = map " ++ times 29 (codes "(wrap ") ++ codes "#0" ++ times 29 (codes ")") ++ codes " x\nprint q"))), Err (fault.At 6 7 what.UnknownName))
    ∷ ((after_inputs ((codes "let y = map (tuple " ++ times 29 (codes "(wrap ") ++ codes "#0" ++ times 29 (codes ")") ++ codes " 1) x\nprint q"))), Err (fault.At 6 7 what.UnknownName))
    ∷ []

too_deep : read too_deep_rows ≡ wanted too_deep_rows
unfolding tokens_from number_of next name_at this_at number_at atom_at parts_at nested_at scalar_at others_at scalars_at function_at slot_at slots_at like_at input_at let_at print_at form_at found_from known_at known_all is_new of_kind kinds_at operators_at abiding_at types_at components_at type_at unit_at pair_at let_line like_line input_line print_line line_of line_at lines_at script
too_deep = refl

-- the 65th print line, after its form and before its name
abbrev too_many_prints_rows : List Row
too_many_prints_rows =
    ((full (codes "print q")), Err (fault.At 129 1 what.TooManyPrints))
    ∷ ((full (codes "  print ba")), Err (fault.At 129 3 what.TooManyPrints))
    ∷ ((full (codes "\n; one more\nprint aa")), Err (fault.At 131 1 what.TooManyPrints))
    ∷ ((full (codes "print")), Err (fault.At 129 6 what.BadLine))
    ∷ ((full (codes "print q r")), Err (fault.At 129 9 what.BadLine))
    ∷ ((full (codes "let y = rev q")), Err (fault.At 129 13 what.UnknownName))
    ∷ []

too_many_prints : read too_many_prints_rows ≡ wanted too_many_prints_rows
unfolding tokens_from number_of next name_at this_at number_at atom_at parts_at nested_at scalar_at others_at scalars_at function_at slot_at slots_at like_at input_at let_at print_at form_at found_from known_at known_all is_new of_kind kinds_at operators_at abiding_at types_at components_at type_at unit_at pair_at let_line like_line input_line print_line line_of line_at lines_at script
too_many_prints = refl
