use Rattle.std.proofs.Common.{◌<◌, [], length, get_or, ap, arith, sym, ◌∙◌}
use Rattle.op_laws.specs.Rows.{rows}
use Rattle.op_laws.specs.Columns.{numbers}
use Rattle.op_laws.proofs.RowLemmas.{get_or-rows_at, admitted_at}
use Rattle.op_laws.proofs.list.List.at.Goals as goal

pub returns-clause-value : goal.returns-clause-value
returns-clause-value c =
    let xss = numbers c.self.inside.columns in
    let within : c.args.i < length (rows xss) = omega (arith, ap (λ x. length x.items) c.self.view_is) in
    c.at.ensures ∙ sym (get_or-rows_at xss c.args.i c.self.invariant.even within) ∙ ap (λ x. get_or x.items c.args.i []) c.self.view_is

pub returns-clause-admitted : goal.returns-clause-admitted
returns-clause-admitted c =
    let xss = numbers c.self.inside.columns in
    let within : c.args.i < length (rows xss) = omega (arith, ap (λ x. length x.items) c.self.view_is) in
    let is = c.at.ensures ∙ sym (get_or-rows_at xss c.args.i c.self.invariant.even within) in
    rw (← c.self.view_is) (admitted_at c.self.inside.ty (rows xss) c.args.i _ c.self.invariant.admitted within is)
