use Rattle.tree_tests.proofs.upward.assert_up.Given as goal

abbrev pub ghosts-up_by : goal.ghosts-up_by
ghosts-up_by g a = record { name = a.blank.name; parts = a.blank.parts }
