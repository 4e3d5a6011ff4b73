use Rattle.tree_tests.proofs.upward.assert_hole.Given as goal

abbrev pub ghosts-hole_by : goal.ghosts-hole_by
ghosts-hole_by g a = record { name = a.blank.name; parts = a.blank.parts }
