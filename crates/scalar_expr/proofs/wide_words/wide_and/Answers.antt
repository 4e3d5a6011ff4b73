use Rattle.std.proofs.Common.{◌+ℤ◌, ◌-ℤ◌, ◌*ℤ◌, bit_and, bit_or, bit_xor, FitsSigned}
use Rattle.std.specs.Int.{w64}
use Rattle.scalar_expr.specs.Values.{residue, bitwise}
use Rattle.scalar_expr.proofs.WordLemmas.{of_residues, bitwise-residue}
use Rattle.scalar_expr.proofs.wide_words.wide_and.Goals as goal

pub returns : goal.returns
returns c =
    let x : FitsSigned w64 c.residue.result = record { sfits = c.residue.type_inv } in
    let y : FitsSigned w64 c.residue-2.result = record { sfits = c.residue-2.type_inv } in
    let r : FitsSigned w64 c.bits_in_both.result = record { sfits = c.bits_in_both.type_inv } in
    of_residues (bitwise bit_and) c.args.a c.args.b _ _ _ c.ranges.a c.ranges.b x y r c.residue.ensures c.residue-2.ensures c.bits_in_both.ensures (bitwise-residue bit_and c.args.a c.args.b)
