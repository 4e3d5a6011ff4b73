-- To wrap after each step is to wrap once.
use Rattle.std.proofs.Common.{◌*◌, ◌%◌, ◌*ℤ◌, ◌+ℤ◌, ap, ◌∙◌, arith}
use Rattle.std.specs.Int.{w64, int_wrap, cast_unsigned}
use Rattle.std.proofs.lemmas.Int.{wrapping_mul_is, wrapping_add_onto, int_wrap-add_left}
use Rattle.op_catalog.specs.WordLaws.{FitsSigned-word}
use Rattle.op_catalog.specs.LineLaws.{line_same}
use Rattle.op_catalog.proofs.affine.AffineSemi.combine.Goals as goal

pub returns : goal.returns
returns c =
    let a = c.args.a in
    let b = c.args.b in
    let a_scale = FitsSigned-word a.scale c.requires.first.scale in
    let a_offset = FitsSigned-word a.offset c.requires.first.offset in
    let b_scale = FitsSigned-word b.scale c.requires.second.scale in
    let b_offset = FitsSigned-word b.offset c.requires.second.offset in
    line_same _ _ _ _ (wrapping_mul_is w64 a.scale b.scale a_scale b_scale)
    (wrapping_add_onto w64 (cast_unsigned w64 b.scale * cast_unsigned w64 a.offset % 18446744073709551616) b.offset (omega arith) b_offset
    ∙ ap (λ t. int_wrap w64 (t +ℤ b.offset)) (wrapping_mul_is w64 b.scale a.offset b_scale a_offset)
    ∙ int_wrap-add_left w64 (b.scale *ℤ a.offset) b.offset)
