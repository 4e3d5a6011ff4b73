use Rattle.std.proofs.Common.{◌≡◌, ◌≤◌, ◌∷◌, [], arith, rules, length, map, pos, ap, sym, ◌∙◌}
use Rattle.std.specs.Prelude.{slice_index_or}
use Rattle.std.specs.List.{All}
use Rattle.op_laws.specs.declared.width.Width.TheVariants.{W64}
use Rattle.op_laws.specs.Admits.{Admits}
use Rattle.op_laws.specs.Elements.{singles}
use Rattle.op_laws.specs.Folds.{fold_or}
use Rattle.op_catalog.proofs.NarrowLemmas.{singles-firsts}
use Rattle.op_catalog.proofs.reduction.folded_values.Goals as goal

pub folded_numbers-requires-clause-admitted : goal.folded_numbers-requires-clause-admitted
folded_numbers-requires-clause-admitted g c =
    let narrow : c.args.list.now.ty ≡ W64 ∷ [] = sym c.ty.ensures ∙ c.is_narrow.ensures c.if-is_narrow.true in
    let all : All (Admits (W64 ∷ [])) c.args.list.now.items = rw (← narrow) c.admitted.ensures in
    rw (c.numbers_64.ensures, singles-firsts c.args.list.now.items all) all

pub returns-then-is_narrow-clause-value : goal.returns-then-is_narrow-clause-value
returns-then-is_narrow-clause-value g c =
    let narrow : c.args.list.now.ty ≡ W64 ∷ [] = sym c.ty.ensures ∙ c.is_narrow.ensures c.if-is_narrow.true in
    let all : All (Admits (W64 ∷ [])) c.args.list.now.items = rw (← narrow) c.admitted.ensures in
    rw (c.numbers_64.ensures, singles-firsts c.args.list.now.items all) at c.folded_numbers.ensures.value
