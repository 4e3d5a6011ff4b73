use Rattle.std.proofs.Common.{sym, ◌∙◌}
use Rattle.std.specs.Int.{w64}
use Rattle.std.proofs.lemmas.Int.{to_z-of_z}
use Rattle.scalar_expr.proofs.WordLemmas.{residue_same}
use Rattle.scalar_expr.proofs.narrow_words.itself.Goals as goal

pub returns : goal.returns
returns c = to_z-of_z w64 c.args.a c.ranges.a ∙ sym (residue_same c.args.a c.ranges.a)
