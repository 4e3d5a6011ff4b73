use Rattle.fuse_rewrite.proofs.demand.add_line.Goals as goal

pub returns-then-needed : goal.returns-then-needed
returns-then-needed c us are = rw (c.in-Let.is, c.if-needed.true) (c.add_arguments.ensures us are)
