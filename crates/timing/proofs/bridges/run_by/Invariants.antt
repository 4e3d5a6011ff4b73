use Rattle.timing.proofs.bridges.run_by.Given as goal

abbrev pub ghosts-measured : goal.ghosts-measured
ghosts-measured g a = record { name = a.blank.name; parts = a.blank.parts }
