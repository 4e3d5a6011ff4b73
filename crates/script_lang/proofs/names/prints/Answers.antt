use Rattle.std.proofs.Common.{map, arith}
use Rattle.script_lang.specs.Views.{statement_of}
use Rattle.script_lang.proofs.NameLemmas.{prints_is}
use Rattle.script_lang.proofs.names.prints.Goals as goal

pub returns : goal.returns
returns c = omega (arith, prints_is 0 (map statement_of c.args.lines.now), c.count_prints.ensures)
