use Rattle.tree_tests.proofs.shapes.a_tree_keeps_its_shape_with_other_values.Given as goal

abbrev pub ghosts-assert_nodes : goal.ghosts-assert_nodes
ghosts-assert_nodes g a = record { name = a.blank.name; parts = a.blank.parts }
