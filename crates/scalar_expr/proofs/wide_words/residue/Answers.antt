use Rattle.std.proofs.Common.{FitsSigned, ap, ◌∙◌, bit_and}
use Rattle.std.specs.Int.{w64, w128, cast_signed, cast_unsigned}
use Rattle.std.proofs.lemmas.Int.{to_z-of_z}
use Rattle.scalar_expr.proofs.WordLemmas.{low_bits}
use Rattle.scalar_expr.proofs.wide_words.residue.Goals as goal

pub returns : goal.returns
returns c =
    let f = c.ranges.v in
    let r : FitsSigned w64 c.cast_signed.result = record { sfits = c.cast_signed.type_inv } in
    to_z-of_z w64 _ r ∙ c.cast_signed.ensures ∙ ap (λ n. cast_signed w64 (bit_and n 18446744073709551615)) (c.cast_unsigned.ensures ∙ ap (cast_unsigned w128) (to_z-of_z w128 _ f)) ∙ low_bits _ f
