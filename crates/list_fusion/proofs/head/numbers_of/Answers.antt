use Rattle.std.proofs.Common.{◌≡◌, ◌∷◌, [], sym, ◌∙◌}
use Rattle.std.specs.List.{All}
use Rattle.op_laws.specs.declared.width.Width.TheVariants.{W64}
use Rattle.op_laws.specs.Admits.{Admits}
use Rattle.list_fusion.proofs.NumberLemmas.{singles-firsts}
use Rattle.list_fusion.proofs.head.numbers_of.Goals as goal

pub returns-then-is_single-clause-items : goal.returns-then-is_single-clause-items
returns-then-is_single-clause-items c =
    let narrow : c.args.x.now.ty ≡ W64 ∷ [] = sym c.ty.ensures ∙ c.is_single.ensures c.if-is_single.true in
    let all : All (Admits (W64 ∷ [])) c.args.x.now.items = rw (← narrow) c.admitted.ensures in
    rw c.numbers_64.ensures (sym (singles-firsts c.args.x.now.items all))

pub returns-then-is_single-clause-admitted : goal.returns-then-is_single-clause-admitted
returns-then-is_single-clause-admitted c =
    let narrow : c.args.x.now.ty ≡ W64 ∷ [] = sym c.ty.ensures ∙ c.is_single.ensures c.if-is_single.true in
    let all : All (Admits (W64 ∷ [])) c.args.x.now.items = rw (← narrow) c.admitted.ensures in
    rw (c.numbers_64.ensures, singles-firsts c.args.x.now.items all) all
