use Rattle.std.proofs.Common.{◌<◌, length, ◌∙◌}
use Rattle.op_laws.specs.declared.width.Width.TheVariants.{W64}
use Rattle.op_laws.proofs.TableEdits.{column-rows, within_type}
use Rattle.op_laws.proofs.list.List.numbers_64.Goals as goal

pub returns : goal.returns
returns c =
    let within : c.args.k < length c.self.inside.ty = within_type c.self.inside.ty c.args.k W64 (rw (← c.self.view_is) at c.requires) in
    rw (← c.self.view_is) (c.narrow.ensures ∙ c.column.ensures.numbers ∙ column-rows c.self.inside.ty c.self.inside.columns c.args.k c.self.invariant within)
