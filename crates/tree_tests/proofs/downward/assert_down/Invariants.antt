use Rattle.tree_tests.proofs.downward.assert_down.Given as goal

abbrev pub ghosts-down_by : goal.ghosts-down_by
ghosts-down_by g a = record { name = a.blank.name; parts = a.blank.parts }
