-- Lists of equal length with equal widths at each place are equal.
use Rattle.std.proofs.Common.{◌≡◌, ◌≤◌, length, refl, sym, ◌∙◌, arith, rules, below_more}
use Rattle.std.proofs.lemmas.List.{ext_get_or}
use Rattle.std.proofs.lemmas.Option.{get_or_from_slice_get}
use Rattle.op_laws.specs.declared.width.Width.TheVariants.{W64}
use Rattle.op_catalog.proofs.types.same_type.Goals as goal

pub loop-i-preserved : goal.loop-i-preserved
loop-i-preserved c =
    let same : c.at.result ≡ c.at-in-loop-i.result = search rules in
    let first = get_or_from_slice_get c.args.a c.loop-i.i c.at.result W64 c.at.ensures in
    let second = get_or_from_slice_get c.args.b c.loop-i.i c.at-in-loop-i.result W64 c.at-in-loop-i.ensures in
    below_more _ _ c.loop-i.invariant (first ∙ same ∙ sym second)

pub returns : goal.returns
returns c =
    let even : length c.args.a ≡ length c.args.b = omega arith in
    let past : length c.args.a ≤ c.loop-i.i = omega arith in
    (λ _. ext_get_or W64 c.args.a c.args.b even (λ k within. c.loop-i.invariant k (omega arith)), λ _. refl)
