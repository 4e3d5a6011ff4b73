use Rattle.std.proofs.Common.{FitsSigned, rules}
use Rattle.std.specs.Int.{w64, w128}
use Rattle.std.specs.Fmt.{signed_decimal}
use Rattle.std.proofs.lemmas.Int.{to_z-of_z}
use Rattle.std.proofs.lemmas.Result.{err_from_is_err_and}
use Rattle.plain_text.proofs.GivenLemmas.{cut_before, cut_after, given_after}
use Rattle.plain_text.proofs.outlet.Outlet.text_then_number.Goals as goal

pub returns-in_err-text-clause-cut_off : goal.returns-in_err-text-clause-cut_off
returns-in_err-text-clause-cut_off g c =
    let p = err_from_is_err_and c.from_residual.result c.from_residual.ensures.1 in
    rw p.1 (cut_before c.args.prefix.now (signed_decimal c.args.v) _ _ _ _ _ _ c.in_err-text.ensures.cut_off)

pub returns-clause-given : goal.returns-clause-given
returns-clause-given g c =
    let range : FitsSigned w128 c.from.result = search rules in
    let narrow : FitsSigned w64 c.args.v = search rules in
    let said = simp to_z-of_z at (rw c.from.ensures at (simp to_z-of_z at c.number.ensures.given)) in
    given_after c.number.result c.args.prefix.now (signed_decimal c.args.v) _ _ _ _ _ _ c.in_ok-text.ensures.given said

pub returns-clause-cut_off : goal.returns-clause-cut_off
returns-clause-cut_off g c =
    let range : FitsSigned w128 c.from.result = search rules in
    let narrow : FitsSigned w64 c.args.v = search rules in
    let said = simp to_z-of_z at (rw c.from.ensures at (simp to_z-of_z at c.number.ensures.cut_off)) in
    cut_after c.number.result c.args.prefix.now (signed_decimal c.args.v) _ _ _ _ _ _ _ _ _ c.in_ok-text.ensures.given c.text.ensures.never_falls said
