-- Worked rows, by computation: faults of names, kinds and operators.
use Rattle.std.proofs.Common.{◌≡◌, List, [], ◌∷◌, Err, refl}
use Rattle.std.specs.Prelude.{codes}
use Rattle.plain_text.specs.Numbers.{number_of}
use Rattle.script_words.specs.declared.fault.ScriptWhat.TheVariants as what
use Rattle.script_words.specs.Lines.{tokens_from}
use Rattle.script_words.specs.Reading.{next, name_at, this_at, number_at}
use Rattle.script_words.specs.Functions.{atom_at, parts_at, nested_at, scalar_at, others_at, scalars_at, function_at}
use Rattle.script_lang.specs.declared.fault.ScriptFault.TheVariants as fault
use Rattle.script_lang.specs.Grammar.{slot_at, slots_at, like_at, input_at, let_at, print_at, form_at}
use Rattle.script_lang.specs.Steps.{found_from, known_at, known_all, is_new, of_kind, kinds_at, operators_at, abiding_at, types_at, components_at, type_at, unit_at, pair_at, let_line, like_line, input_line, print_line, line_of}
use Rattle.script_lang.specs.Script.{line_at, lines_at, script}
use Rattle.script_lang.proofs.RowWords.{Row, read, wanted, after_inputs}

-- an argument, or a name after `like` or `print`, that no earlier line binds
abbrev unknown_name_rows : List Row
unknown_name_rows =
    ((after_inputs (codes "print q")), Err (fault.At 5 7 what.UnknownName))
    ∷ ((after_inputs (codes "input q list like q")), Err (fault.At 5 19 what.UnknownName))
    ∷ ((after_inputs (codes "let y = zip q p")), Err (fault.At 5 13 what.UnknownName))
    ∷ ((after_inputs (codes "let y = zip x q")), Err (fault.At 5 15 what.UnknownName))
    ∷ ((after_inputs (codes "let x = rev q")), Err (fault.At 5 13 what.UnknownName))
    ∷ ((after_inputs (codes "input x list like q")), Err (fault.At 5 19 what.UnknownName))
    ∷ []

unknown_name : read unknown_name_rows ≡ wanted unknown_name_rows
unfolding tokens_from number_of next name_at this_at number_at atom_at parts_at nested_at scalar_at others_at scalars_at function_at slot_at slots_at like_at input_at let_at print_at form_at found_from known_at known_all is_new of_kind kinds_at operators_at abiding_at types_at components_at type_at unit_at pair_at let_line like_line input_line print_line line_of line_at lines_at script
unknown_name = refl

-- a name that an earlier line binds, or prints
abbrev used_twice_rows : List Row
used_twice_rows =
    ((after_inputs (codes "input x tree like t")), Err (fault.At 5 7 what.Rebound))
    ∷ ((after_inputs (codes "print x\nprint x")), Err (fault.At 6 7 what.Rebound))
    ∷ ((after_inputs (codes "let x = reduce add a")), Err (fault.At 5 5 what.Rebound))
    ∷ ((after_inputs (codes "let y = rev x\nlet y = rev y")), Err (fault.At 6 5 what.Rebound))
    ∷ []

used_twice : read used_twice_rows ≡ wanted used_twice_rows
unfolding tokens_from number_of next name_at this_at number_at atom_at parts_at nested_at scalar_at others_at scalars_at function_at slot_at slots_at like_at input_at let_at print_at form_at found_from known_at known_all is_new of_kind kinds_at operators_at abiding_at types_at components_at type_at unit_at pair_at let_line like_line input_line print_line line_of line_at lines_at script
used_twice = refl

-- an argument of a kind that the skeleton doesn't take; after `like` a name that is no input of the kind
abbrev wrong_kind_rows : List Row
wrong_kind_rows =
    ((after_inputs (codes "let y = reduce add a")), Err (fault.At 5 20 what.WrongKind))
    ∷ ((after_inputs (codes "let y = reduce add add x")), Err (fault.At 5 24 what.WrongKind))
    ∷ ((after_inputs (codes "let y = reduce sum sum t")), Err (fault.At 5 24 what.WrongKind))
    ∷ ((after_inputs (codes "let y = reduce sum sum r")), Err (fault.At 5 24 what.WrongKind))
    ∷ ((after_inputs (codes "input q list like a")), Err (fault.At 5 19 what.WrongKind))
    ∷ ((after_inputs (codes "let y = rev x\ninput q list like y")), Err (fault.At 6 19 what.WrongKind))
    ∷ ((after_inputs (codes "let y = zip x a")), Err (fault.At 5 15 what.WrongKind))
    ∷ ((after_inputs (codes "let v = reduce add x\nlet y = zip v x")), Err (fault.At 6 13 what.WrongKind))
    ∷ ((after_inputs (codes "let v = reduce add x\nlet y = zip x v")), Err (fault.At 6 15 what.WrongKind))
    ∷ ((after_inputs (codes "let y = transpose x")), Err (fault.At 5 19 what.WrongKind))
    ∷ ((after_inputs (codes "let y = filter #0 t")), Err (fault.At 5 19 what.WrongKind))
    ∷ ((after_inputs (codes "let v = reduce add x\nlet y = reduce add v")), Err (fault.At 6 20 what.WrongKind))
    ∷ ((after_inputs (codes "let y = reduce nosuch a")), Err (fault.At 5 23 what.WrongKind))
    ∷ []

wrong_kind : read wrong_kind_rows ≡ wanted wrong_kind_rows
unfolding tokens_from number_of next name_at this_at number_at atom_at parts_at nested_at scalar_at others_at scalars_at function_at slot_at slots_at like_at input_at let_at print_at form_at found_from known_at known_all is_new of_kind kinds_at operators_at abiding_at types_at components_at type_at unit_at pair_at let_line like_line input_line print_line line_of line_at lines_at script
wrong_kind = refl

-- `reduce` with two names on a list, a tree and a rose tree, and with three on a matrix
abbrev reduced_rows : List Row
reduced_rows =
    ((after_inputs (codes "let y = reduce add x\nlet u = reduce sum t\nlet v = reduce sum r\nlet w = reduce add add a\nprint q")), Err (fault.At 9 7 what.UnknownName))
    ∷ []

reduced : read reduced_rows ≡ wanted reduced_rows
unfolding tokens_from number_of next name_at this_at number_at atom_at parts_at nested_at scalar_at others_at scalars_at function_at slot_at slots_at like_at input_at let_at print_at form_at found_from known_at known_all is_new of_kind kinds_at operators_at abiding_at types_at components_at type_at unit_at pair_at let_line like_line input_line print_line line_of line_at lines_at script
reduced = refl

-- no operator of this name in the table of the argument's kind
abbrev unknown_operator_rows : List Row
unknown_operator_rows =
    ((after_inputs (codes "let y = reduce nosuch x")), Err (fault.At 5 16 what.UnknownOp))
    ∷ ((after_inputs (codes "let y = dacc sum 0 t")), Err (fault.At 5 14 what.UnknownOp))
    ∷ ((after_inputs (codes "let y = reduce sum x")), Err (fault.At 5 16 what.UnknownOp))
    ∷ ((after_inputs (codes "let y = reduce add t")), Err (fault.At 5 16 what.UnknownOp))
    ∷ ((after_inputs (codes "let y = dacc turns 0 r")), Err (fault.At 5 14 what.UnknownOp))
    ∷ ((after_inputs (codes "let y = scan add foo a")), Err (fault.At 5 18 what.UnknownOp))
    ∷ ((after_inputs (codes "let y = scan bar foo a")), Err (fault.At 5 14 what.UnknownOp))
    ∷ []

unknown_operator : read unknown_operator_rows ≡ wanted unknown_operator_rows
unfolding tokens_from number_of next name_at this_at number_at atom_at parts_at nested_at scalar_at others_at scalars_at function_at slot_at slots_at like_at input_at let_at print_at form_at found_from known_at known_all is_new of_kind kinds_at operators_at abiding_at types_at components_at type_at unit_at pair_at let_line like_line input_line print_line line_of line_at lines_at script
unknown_operator = refl

-- the second operator of two that don't abide
abbrev not_abiding_rows : List Row
not_abiding_rows =
    ((codes "input a matrix\nlet r = reduce add min a\nprint r"), Err (fault.At 2 20 what.NotAbiding))
    ∷ ((after_inputs (codes "let y = scan min max a")), Err (fault.At 5 18 what.NotAbiding))
    ∷ ((after_inputs (codes "let b = zip a a\nlet y = reduce add min b")), Err (fault.At 6 20 what.NotAbiding))
    ∷ ((after_inputs (codes "let y = reduce affine affine a")), Err (fault.At 5 23 what.NotAbiding))
    ∷ []

not_abiding : read not_abiding_rows ≡ wanted not_abiding_rows
unfolding tokens_from number_of next name_at this_at number_at atom_at parts_at nested_at scalar_at others_at scalars_at function_at slot_at slots_at like_at input_at let_at print_at form_at found_from known_at known_all is_new of_kind kinds_at operators_at abiding_at types_at components_at type_at unit_at pair_at let_line like_line input_line print_line line_of line_at lines_at script
not_abiding = refl
