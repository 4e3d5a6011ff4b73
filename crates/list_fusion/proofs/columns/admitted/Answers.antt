use Rattle.std.proofs.Common.{◌≡◌, [], ◌∷◌, get_or, take, pos, w64, FitsSigned, arith, rules}
use Rattle.std.proofs.lemmas.Int.{ints}
use Rattle.std.proofs.lemmas.List.{take_all}
use Rattle.std.proofs.lemmas.List.Elements.{All-map, All-more}
use Rattle.op_laws.specs.Widths.{FitsWidth}
use Rattle.op_laws.specs.declared.width.Width.TheVariants.{W64}
use Rattle.op_laws.specs.Admits.{Admits}
use Rattle.list_fusion.proofs.columns.admitted.Goals as goal

pub loop-number-preserved : goal.loop-number-preserved
loop-number-preserved c =
    let xs = c.args.numbers.now in
    let i = c.loop-number.number-index in
    let read : FitsSigned w64 (get_or xs i (pos 0)) = search rules in
    let fits : FitsWidth W64 (get_or xs i (pos 0)) = record { low = omega (arith, ints); high = omega (arith, ints) } in
    All-more (FitsWidth W64) xs i (pos 0) (omega arith) c.loop-number.invariant fits

pub returns : goal.returns
returns c =
    let xs = c.args.numbers.now in
    let whole : take c.loop-number.number-index xs ≡ xs = take_all _ _ (omega arith) in
    let all = rw whole at c.loop-number.invariant in
    All-map (Admits (W64 ∷ [])) (λ x. x ∷ []) xs (λ k d h. (all k d h, tt))
