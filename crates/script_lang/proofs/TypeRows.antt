-- Worked rows, by computation: faults of types and shapes.
use Rattle.std.proofs.Common.{◌≡◌, List, [], ◌∷◌, Err, refl}
use Rattle.std.specs.Prelude.{codes}
use Rattle.plain_text.specs.Numbers.{number_of}
use Rattle.script_words.specs.declared.fault.ScriptWhat.TheVariants as what
use Rattle.script_words.specs.Lines.{tokens_from}
use Rattle.script_words.specs.Reading.{next, name_at, this_at, number_at}
use Rattle.script_words.specs.Functions.{atom_at, parts_at, nested_at, scalar_at, others_at, scalars_at, function_at}
use Rattle.script_lang.specs.declared.fault.ScriptFault.TheVariants as fault
use Rattle.script_lang.specs.Grammar.{slot_at, slots_at, like_at, input_at, let_at, print_at, form_at}
use Rattle.script_lang.specs.Steps.{found_from, known_at, known_all, is_new, of_kind, kinds_at, operators_at, abiding_at, types_at, components_at, type_at, unit_at, pair_at, let_line, like_line, input_line, print_line, line_of}
use Rattle.script_lang.specs.Script.{line_at, lines_at, script}
use Rattle.script_lang.proofs.RowWords.{Row, read, wanted, after_inputs}

-- a component that isn't there, in postorder; a function or an argument with another number of components than is wanted
abbrev wrong_arity_rows : List Row
wrong_arity_rows =
    ((after_inputs (codes "let y = map (and (+ #0 #0) #1) x")), Err (fault.At 5 28 what.WrongArity))
    ∷ ((after_inputs (codes "let y = map (tuple #0 (+ #1 #2)) x")), Err (fault.At 5 26 what.WrongArity))
    ∷ ((after_inputs (codes "let y = mapln (tuple #0 #0) #0 t")), Err (fault.At 5 29 what.WrongArity))
    ∷ ((after_inputs (codes "let y = mapln #1 #2 t")), Err (fault.At 5 15 what.WrongArity))
    ∷ ((after_inputs (codes "let y = filter (tuple #0 #0) x")), Err (fault.At 5 16 what.WrongArity))
    ∷ ((after_inputs (codes "let y = zip t t\nlet z = getchl 0 y")), Err (fault.At 6 18 what.WrongArity))
    ∷ ((after_inputs (codes "let y = reduce affine first a")), Err (fault.At 5 16 what.WrongArity))
    ∷ ((after_inputs (codes "let y = reduce first affine a")), Err (fault.At 5 22 what.WrongArity))
    ∷ ((after_inputs (codes "let y = zip x x\nlet z = scan add y")), Err (fault.At 6 14 what.WrongArity))
    ∷ ((after_inputs (codes "let y = filter (tuple #0 #1) x")), Err (fault.At 5 26 what.WrongArity))
    ∷ ((after_inputs (codes "let y = mapln (tuple #0 #0) (+ #1 1) t")), Err (fault.At 5 32 what.WrongArity))
    ∷ []

wrong_arity : read wrong_arity_rows ≡ wanted wrong_arity_rows
unfolding tokens_from number_of next name_at this_at number_at atom_at parts_at nested_at scalar_at others_at scalars_at function_at slot_at slots_at like_at input_at let_at print_at form_at found_from known_at known_all is_new of_kind kinds_at operators_at abiding_at types_at components_at type_at unit_at pair_at let_line like_line input_line print_line line_of line_at lines_at script
wrong_arity = refl

-- an operator's word, in a function or a skeleton
abbrev too_wide_rows : List Row
too_wide_rows =
    ((codes "input x list\nlet s = scan add x\nlet u = scan add s\nlet v = scan add u"), Err (fault.At 4 14 what.TooWide))
    ∷ ((after_inputs (codes "let y = map (and (+ #0 #0) 1) x")), Err (fault.At 5 14 what.TooWide))
    ∷ ((after_inputs (codes "let s = scan add x\nlet u = scan mul s")), Err (fault.At 6 14 what.TooWide))
    ∷ ((after_inputs (codes "let s = scan add x\nlet u = scan add s\nlet v = map (+ #0 1) u")), Err (fault.At 7 14 what.TooWide))
    ∷ ((after_inputs (codes "let u = uacc sum t\nlet v = uacc sum u\nlet w = dacc pre 0 v")), Err (fault.At 7 14 what.TooWide))
    ∷ []

too_wide : read too_wide_rows ≡ wanted too_wide_rows
unfolding tokens_from number_of next name_at this_at number_at atom_at parts_at nested_at scalar_at others_at scalars_at function_at slot_at slots_at like_at input_at let_at print_at form_at found_from known_at known_all is_new of_kind kinds_at operators_at abiding_at types_at components_at type_at unit_at pair_at let_line like_line input_line print_line line_of line_at lines_at script
too_wide = refl

-- a list is reduced by an operator that answers one of the elements
abbrev no_unit_rows : List Row
no_unit_rows =
    ((after_inputs (codes "let y = reduce first x")), Err (fault.At 5 16 what.NoUnit))
    ∷ ((after_inputs (codes "let y = reduce last x")), Err (fault.At 5 16 what.NoUnit))
    ∷ ((after_inputs (codes "let y = zip x x\nlet z = reduce last y")), Err (fault.At 6 16 what.NoUnit))
    ∷ ((after_inputs (codes "let y = scan first x\nlet z = rows last a\nlet v = reduce first last a\nprint q")), Err (fault.At 8 7 what.UnknownName))
    ∷ []

no_unit : read no_unit_rows ≡ wanted no_unit_rows
unfolding tokens_from number_of next name_at this_at number_at atom_at parts_at nested_at scalar_at others_at scalars_at function_at slot_at slots_at like_at input_at let_at print_at form_at found_from known_at known_all is_new of_kind kinds_at operators_at abiding_at types_at components_at type_at unit_at pair_at let_line like_line input_line print_line line_of line_at lines_at script
no_unit = refl

-- the second argument isn't known to have the shape of the first
abbrev shape_differs_rows : List Row
shape_differs_rows =
    ((codes "input x list\ninput y list\nlet z = zip x y\nprint z"), Err (fault.At 3 15 what.ShapeDiffers))
    ∷ ((after_inputs (codes "let y = transpose a\nlet u = cols add y\nlet v = rows add a\nlet w = zip u v\nlet z = zip y a")), Err (fault.At 9 15 what.ShapeDiffers))
    ∷ ((after_inputs (codes "let y = filter #0 x\nlet z = zip x y")), Err (fault.At 6 15 what.ShapeDiffers))
    ∷ ((after_inputs (codes "input b matrix\nlet y = zip a b")), Err (fault.At 6 15 what.ShapeDiffers))
    ∷ ((after_inputs (codes "let u = rows add a\nlet v = cols add a\nlet w = zip u v")), Err (fault.At 7 15 what.ShapeDiffers))
    ∷ ((after_inputs (codes "let y = zip x x\nlet z = zip y y\nlet e = filter #0 x\nlet w = zip z e")), Err (fault.At 8 15 what.ShapeDiffers))
    ∷ []

shape_differs : read shape_differs_rows ≡ wanted shape_differs_rows
unfolding tokens_from number_of next name_at this_at number_at atom_at parts_at nested_at scalar_at others_at scalars_at function_at slot_at slots_at like_at input_at let_at print_at form_at found_from known_at known_all is_new of_kind kinds_at operators_at abiding_at types_at components_at type_at unit_at pair_at let_line like_line input_line print_line line_of line_at lines_at script
shape_differs = refl

-- more than four components together
abbrev tuple_too_long_rows : List Row
tuple_too_long_rows =
    ((after_inputs (codes "let y = zip x x\nlet z = zip y y\nlet w = zip z x")), Err (fault.At 7 15 what.TupleTooLong))
    ∷ ((after_inputs (codes "let y = zip x x\nlet z = map (tuple #0 #0 #0) x\nlet w = zip y z")), Err (fault.At 7 15 what.TupleTooLong))
    ∷ ((after_inputs (codes "let y = map (tuple 1 2 3 4) t\nlet z = zip t y")), Err (fault.At 6 15 what.TupleTooLong))
    ∷ []

tuple_too_long : read tuple_too_long_rows ≡ wanted tuple_too_long_rows
unfolding tokens_from number_of next name_at this_at number_at atom_at parts_at nested_at scalar_at others_at scalars_at function_at slot_at slots_at like_at input_at let_at print_at form_at found_from known_at known_all is_new of_kind kinds_at operators_at abiding_at types_at components_at type_at unit_at pair_at let_line like_line input_line print_line line_of line_at lines_at script
tuple_too_long = refl
