-- Worked rows, by computation: the plans of scripts.
use Rattle.std.proofs.Common.{◌≡◌, ℕ, List, [], Ok, Err, refl}
use Rattle.std.specs.Prelude.{codes}
use Rattle.std.specs.Fmt.{digits}
use Rattle.plain_text.specs.Numbers.{number_of}
use Rattle.script_words.specs.Lines.{tokens_from}
use Rattle.script_words.specs.Reading.{next, name_at, this_at, number_at}
use Rattle.script_words.specs.Functions.{atom_at, parts_at, nested_at, scalar_at, others_at, scalars_at, function_at}
use Rattle.script_lang.specs.Grammar.{slot_at, slots_at, like_at, input_at, let_at, print_at, form_at}
use Rattle.script_lang.specs.Steps.{found_from, known_at, known_all, is_new, of_kind, kinds_at, operators_at, abiding_at, types_at, components_at, type_at, unit_at, pair_at, let_line, like_line, input_line, print_line, line_of}
use Rattle.script_lang.specs.Script.{line_at, lines_at, script}
use Rattle.fuse_rewrite.specs.Uses.{uses_from}
use Rattle.fuse_rewrite.specs.Steps.{chain_to, steps_from}
use Rattle.fuse_rewrite.specs.PlanText.{pipe_text, plan_text}

-- what `plan` prints of a script
abbrev planned : List ℕ → List ℕ
planned bytes = elim (script bytes) [ Ok lines ↦ plan_text lines | Err e ↦ [] ]

-- a name that is used twice is kept; `rev` of it is fused
pairs : planned (codes "input a list\ninput b list like a\nlet p = zip a b\nlet f = reduce affine p\nlet q = rev p\nlet g = reduce affine q\nprint f\nprint g") ≡ codes "p = zip a b\nf = reduce affine <- p\ng = reduce affine <- rev <- p\n"
unfolding tokens_from number_of next name_at this_at number_at atom_at parts_at nested_at scalar_at others_at scalars_at function_at slot_at slots_at like_at input_at let_at print_at form_at found_from known_at known_all is_new of_kind kinds_at operators_at abiding_at types_at components_at type_at unit_at pair_at let_line like_line input_line print_line line_of line_at lines_at script uses_from chain_to steps_from pipe_text digits
pairs = refl

-- a chain of two
filtered : planned (codes "input x list\nlet e = filter (= (and #0 1) 0) x\nlet s = map (* #0 #0) e\nlet r = reduce add s\nprint r") ≡ codes "r = reduce add <- map (* #0 #0) <- filter (= (and #0 1) 0) <- x\n"
unfolding tokens_from number_of next name_at this_at number_at atom_at parts_at nested_at scalar_at others_at scalars_at function_at slot_at slots_at like_at input_at let_at print_at form_at found_from known_at known_all is_new of_kind kinds_at operators_at abiding_at types_at components_at type_at unit_at pair_at let_line like_line input_line print_line line_of line_at lines_at script uses_from chain_to steps_from pipe_text digits
filtered = refl

-- a name that is printed is kept
printed : planned (codes "input x list\nlet e = filter (= (and #0 1) 0) x\nlet s = map (* #0 #0) e\nlet r = reduce add s\nprint e\nprint r") ≡ codes "e = filter (= (and #0 1) 0) <- x\nr = reduce add <- map (* #0 #0) <- e\n"
unfolding tokens_from number_of next name_at this_at number_at atom_at parts_at nested_at scalar_at others_at scalars_at function_at slot_at slots_at like_at input_at let_at print_at form_at found_from known_at known_all is_new of_kind kinds_at operators_at abiding_at types_at components_at type_at unit_at pair_at let_line like_line input_line print_line line_of line_at lines_at script uses_from chain_to steps_from pipe_text digits
printed = refl

-- a use by a line that isn't needed doesn't count, and such a line is no step, also where it is `plain`
unneeded : planned (codes "input x list\nlet s = map (+ #0 1) x\nlet u = scan add s\nlet v = rev u\nlet p = plain x\nlet r = reduce max s\nprint r") ≡ codes "r = reduce max <- map (+ #0 1) <- x\n"
unfolding tokens_from number_of next name_at this_at number_at atom_at parts_at nested_at scalar_at others_at scalars_at function_at slot_at slots_at like_at input_at let_at print_at form_at found_from known_at known_all is_new of_kind kinds_at operators_at abiding_at types_at components_at type_at unit_at pair_at let_line like_line input_line print_line line_of line_at lines_at script uses_from chain_to steps_from pipe_text digits
unneeded = refl

-- a zip that is fused ends the line, and is written whole; so is `iota`
zipped : planned (codes "input a list\ninput b list like a\nlet p = zip a b\nlet f = reduce affine p\nlet i = iota a\nlet m = reduce max i\nprint f\nprint m") ≡ codes "f = reduce affine <- zip a b\nm = reduce max <- iota a\n"
unfolding tokens_from number_of next name_at this_at number_at atom_at parts_at nested_at scalar_at others_at scalars_at function_at slot_at slots_at like_at input_at let_at print_at form_at found_from known_at known_all is_new of_kind kinds_at operators_at abiding_at types_at components_at type_at unit_at pair_at let_line like_line input_line print_line line_of line_at lines_at script uses_from chain_to steps_from pipe_text digits
zipped = refl

-- a chain of three; `filter` before `scan`
three : planned (codes "input x list\nlet i = iota x\nlet m = map (- #0 -2) i\nlet f = filter (< #0 4) m\nlet s = scan add f\nprint s") ≡ codes "s = scan add <- filter (< #0 4) <- map (- #0 -2) <- iota x\n"
unfolding tokens_from number_of next name_at this_at number_at atom_at parts_at nested_at scalar_at others_at scalars_at function_at slot_at slots_at like_at input_at let_at print_at form_at found_from known_at known_all is_new of_kind kinds_at operators_at abiding_at types_at components_at type_at unit_at pair_at let_line like_line input_line print_line line_of line_at lines_at script uses_from chain_to steps_from pipe_text digits
three = refl

-- `plain` takes a fused list and is never fused; what `scan` gives is kept
plain : planned (codes "input x list\nlet r = rev x\nlet p = plain r\nlet m = map #0 p\nlet s = scanr max m\nlet t = rev s\nlet u = reduce min t\nprint u") ≡ codes "p = plain <- rev <- x\ns = scanr max <- map #0 <- p\nu = reduce min <- rev <- s\n"
unfolding tokens_from number_of next name_at this_at number_at atom_at parts_at nested_at scalar_at others_at scalars_at function_at slot_at slots_at like_at input_at let_at print_at form_at found_from known_at known_all is_new of_kind kinds_at operators_at abiding_at types_at components_at type_at unit_at pair_at let_line like_line input_line print_line line_of line_at lines_at script uses_from chain_to steps_from pipe_text digits
plain = refl

-- what `iota` and `zip` take is built, also where it is taken once
built : planned (codes "input x list\nlet e = filter #0 x\nlet i = iota e\nlet y = map (+ #0 1) x\nlet z = zip x y\nprint i\nprint z") ≡ codes "e = filter #0 <- x\ni = iota e\ny = map (+ #0 1) <- x\nz = zip x y\n"
unfolding tokens_from number_of next name_at this_at number_at atom_at parts_at nested_at scalar_at others_at scalars_at function_at slot_at slots_at like_at input_at let_at print_at form_at found_from known_at known_all is_new of_kind kinds_at operators_at abiding_at types_at components_at type_at unit_at pair_at let_line like_line input_line print_line line_of line_at lines_at script uses_from chain_to steps_from pipe_text digits
built = refl

-- nothing on a matrix is fused; a list of its rows is
matrices : planned (codes "input m matrix\nlet n = map (max #0 0) m\nlet r = reduce max first n\nlet t = transpose n\nlet w = rows add t\nlet v = rev w\nlet q = reduce add v\nlet c = cols first n\nlet s = scan add add m\nprint r\nprint q\nprint c\nprint s") ≡ codes "n = map (max #0 0) <- m\nr = reduce max first <- n\nt = transpose <- n\nw = rows add <- t\nq = reduce add <- rev <- w\nc = cols first <- n\ns = scan add add <- m\n"
unfolding tokens_from number_of next name_at this_at number_at atom_at parts_at nested_at scalar_at others_at scalars_at function_at slot_at slots_at like_at input_at let_at print_at form_at found_from known_at known_all is_new of_kind kinds_at operators_at abiding_at types_at components_at type_at unit_at pair_at let_line like_line input_line print_line line_of line_at lines_at script uses_from chain_to steps_from pipe_text digits
matrices = refl

-- trees and rose trees
trees : planned (codes "input t tree\ninput r rose\nlet u = uacc sum t\nlet d = dacc pathsum 3 t\nlet k = mapln (wrap #0) (if #0 1 -1) t\nlet g = getchl 007 t\nlet h = getchr -5 t\nlet b = reduce bestsub t\nlet o = dacc pathsum 0 r\nlet n = reduce ring r\nprint u\nprint d\nprint k\nprint g\nprint h\nprint b\nprint o\nprint n") ≡ codes "u = uacc sum <- t\nd = dacc pathsum 3 <- t\nk = mapln (wrap #0) (if #0 1 -1) <- t\ng = getchl 7 <- t\nh = getchr -5 <- t\nb = reduce bestsub <- t\no = dacc pathsum 0 <- r\nn = reduce ring <- r\n"
unfolding tokens_from number_of next name_at this_at number_at atom_at parts_at nested_at scalar_at others_at scalars_at function_at slot_at slots_at like_at input_at let_at print_at form_at found_from known_at known_all is_new of_kind kinds_at operators_at abiding_at types_at components_at type_at unit_at pair_at let_line like_line input_line print_line line_of line_at lines_at script uses_from chain_to steps_from pipe_text digits
trees = refl

-- functions with every operator
functions : planned (codes "input x list\nlet y = map (tuple #0 (+ 1 -2) (- #0 3) (* 4 #0)) x\nlet z = map (if (< #0 (min #1 (max #2 #3))) (= #0 9223372036854775807) (wrap #1)) y\nlet w = map (tuple (and #0 1) (or #0 00) (xor #0 -0)) z\nlet f = filter (= #0 #1) w\nprint f") ≡ codes "f = filter (= #0 #1) <- map (tuple (and #0 1) (or #0 0) (xor #0 0)) <- map (if (< #0 (min #1 (max #2 #3))) (= #0 9223372036854775807) (wrap #1)) <- map (tuple #0 (+ 1 -2) (- #0 3) (* 4 #0)) <- x\n"
unfolding tokens_from number_of next name_at this_at number_at atom_at parts_at nested_at scalar_at others_at scalars_at function_at slot_at slots_at like_at input_at let_at print_at form_at found_from known_at known_all is_new of_kind kinds_at operators_at abiding_at types_at components_at type_at unit_at pair_at let_line like_line input_line print_line line_of line_at lines_at script uses_from chain_to steps_from pipe_text digits
functions = refl

-- names as they are written
names : planned (codes "input Ab_1 list\nlet c2_ = map   ( +  #0  -007 )  Ab_1\nlet D = reduce add c2_\nprint D") ≡ codes "D = reduce add <- map (+ #0 -7) <- Ab_1\n"
unfolding tokens_from number_of next name_at this_at number_at atom_at parts_at nested_at scalar_at others_at scalars_at function_at slot_at slots_at like_at input_at let_at print_at form_at found_from known_at known_all is_new of_kind kinds_at operators_at abiding_at types_at components_at type_at unit_at pair_at let_line like_line input_line print_line line_of line_at lines_at script uses_from chain_to steps_from pipe_text digits
names = refl
