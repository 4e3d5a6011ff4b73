use Rattle.std.proofs.Common.{bit_xor}
use Rattle.scalar_expr.proofs.WordLemmas.{bitwise_same}
use Rattle.scalar_expr.proofs.narrow_words.bits_in_one.Goals as goal

pub returns : goal.returns
returns c = bitwise_same bit_xor c.args.a c.args.b c.ranges.a c.ranges.b
