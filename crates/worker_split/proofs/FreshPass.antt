-- A pass that has drawn nothing.
use Rattle.std.proofs.Common.{ℕ, [], false}
use Rattle.worker_split.specs.Passes.{Deal, Drawer}

abbrev pub fresh_pass : Deal → ℕ → Drawer
fresh_pass board number = record { board = board; number = number; tickets = []; spent = false; read = 0 }
