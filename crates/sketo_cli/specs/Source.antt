-- Where a shelf of real files reads from.
use Rattle.std.specs.Prelude.{Bool, true, false}
use Rattle.sketo_cli.specs.declared.file_shelf.Source.{Source}
use Rattle.sketo_cli.specs.declared.file_shelf.Source.TheVariants.{Nothing, Opened, Input}

-- whether a name is started
abbrev pub is_started : Source → Bool
is_started Nothing = false
is_started (Opened file) = true
is_started (Input input) = true
