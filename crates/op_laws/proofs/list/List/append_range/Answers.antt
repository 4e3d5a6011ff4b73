use Rattle.std.proofs.Common.{◌+◌, ◌-◌, ◌<◌, ◌≤◌, ◌≡◌, ◌^◌, length, ap, arith, sym, ◌∙◌}
use Rattle.op_laws.specs.Rows.{rows}
use Rattle.op_laws.specs.Columns.{numbers, IsTable}
use Rattle.op_laws.proofs.TableEdits.{rows-appended, IsTable-appended}
use Rattle.op_laws.proofs.list.List.append_range.Goals as goal

pub invariant_of-self-2 : goal.invariant_of-self-2
invariant_of-self-2 c =
    let mine = c.self.inside.columns in
    let others = c.other.inside.columns in
    let same : c.other.inside.ty ≡ c.self.inside.ty = ap (λ x. x.ty) c.other.view_is ∙ c.requires.same ∙ sym (ap (λ x. x.ty) c.self.view_is) in
    let second : IsTable c.self.inside.ty others = rw same at c.other.invariant in
    let longer = rw c.reserve.ensures.numbers at c.append.ensures.numbers in
    let within : c.args.to ≤ length (rows (numbers others)) = omega (arith, c.requires.within, ap (λ x. length x.items) c.other.view_is) in
    let few : length (rows (numbers mine)) + (c.args.to - c.args.from) < 2 ^ 32 = omega (arith, c.requires.room, ap (λ x. length x.items) c.self.view_is) in
    IsTable-appended c.self.inside.ty mine others c.append.new.self c.args.from c.args.to c.self.invariant second c.requires.ordered within longer (c.append.ensures.kinds ∙ c.reserve.ensures.kinds) few

pub returns-clause-ok : goal.returns-clause-ok
returns-clause-ok c =
    let mine = c.self.inside.columns in
    let others = c.other.inside.columns in
    let same : c.other.inside.ty ≡ c.self.inside.ty = ap (λ x. x.ty) c.other.view_is ∙ c.requires.same ∙ sym (ap (λ x. x.ty) c.self.view_is) in
    let second : IsTable c.self.inside.ty others = rw same at c.other.invariant in
    let longer = rw c.reserve.ensures.numbers at c.append.ensures.numbers in
    let within : c.args.to ≤ length (rows (numbers others)) = omega (arith, c.requires.within, ap (λ x. length x.items) c.other.view_is) in
    rw (← c.self.view_is, ← c.other.view_is) (rows-appended c.self.inside.ty mine others c.append.new.self c.args.from c.args.to c.self.invariant second c.requires.ordered within longer)
