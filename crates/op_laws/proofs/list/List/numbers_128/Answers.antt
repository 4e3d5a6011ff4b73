use Rattle.std.proofs.Common.{◌<◌, length, ap, arith, ◌∙◌}
use Rattle.op_laws.proofs.TableEdits.{column-rows}
use Rattle.op_laws.proofs.list.List.numbers_128.Goals as goal

pub returns : goal.returns
returns c =
    let within : c.args.k < length c.self.inside.ty = omega (arith, c.requires.place, ap (λ x. length x.ty) c.self.view_is) in
    rw (← c.self.view_is) (c.wide.ensures ∙ c.column.ensures.numbers ∙ column-rows c.self.inside.ty c.self.inside.columns c.args.k c.self.invariant within)
