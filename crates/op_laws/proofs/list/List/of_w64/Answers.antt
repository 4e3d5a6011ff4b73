use Rattle.std.proofs.Common.{◌≡◌, ◌<◌, ◌^◌, [], ◌∷◌, length, get_or, take, pos, w64, FitsSigned, refl, sym, ◌∙◌, arith, rules}
use Rattle.std.proofs.lemmas.Int.{ints}
use Rattle.std.proofs.lemmas.List.{length-map, take_all}
use Rattle.std.proofs.lemmas.List.Elements.{All-map, All-more}
use Rattle.op_laws.specs.Widths.{FitsWidth}
use Rattle.op_laws.specs.declared.width.Width.TheVariants.{W64}
use Rattle.op_laws.specs.Admits.{Admits}
use Rattle.op_laws.proofs.list.List.of_w64.Goals as goal

pub loop-number-preserved : goal.loop-number-preserved
loop-number-preserved c =
    let xs = c.deref-number-items.result.now in
    let i = c.loop-number.number-index in
    let read : FitsSigned w64 (get_or xs i (pos 0)) = search rules in
    let fits : FitsWidth W64 (get_or xs i (pos 0)) = record { low = omega (arith, ints); high = omega (arith, ints) } in
    All-more (FitsWidth W64) xs i (pos 0) (omega arith) c.loop-number.invariant fits

-- after the loop each number is known to be a 64-bit one, so the single column is a list of the type
pub invariant_of-result : goal.invariant_of-result
invariant_of-result c =
    let xs = c.args.numbers.items in
    let whole : take c.loop-number.number-index c.deref-number-items.result.now ≡ xs = take_all _ _ (omega arith) ∙ c.deref-number-items.ensures.value in
    let all = rw whole at c.loop-number.invariant in
    let few : length xs < 2 ^ 32 = omega (arith, c.requires) in
    rw c.one.ensures (record {
      kept = refl;
      even = (sym (length-map xs (λ x. x ∷ [])), tt);
      few = rw length-map few;
      admitted = All-map (Admits (W64 ∷ [])) (λ x. x ∷ []) xs (λ k d h. (all k d h, tt));
    })
