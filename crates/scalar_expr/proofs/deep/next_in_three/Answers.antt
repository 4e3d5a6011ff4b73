use Rattle.std.proofs.Common.{◌≡◌, ◌++◌, ◌∷◌, [], ap, sym, subst, append_assoc, ◌∙◌, List, Option, None}
use Rattle.scalar_expr.specs.Expr.{Expr, postorder, nodes, two, wrap}
use Rattle.scalar_expr.specs.Expr as expr
use Rattle.scalar_expr.specs.Views.{expr_of}
use Rattle.scalar_expr.specs.Typing.{first_fault, or_else}
use Rattle.scalar_expr.specs.Walk.{Leads, op_of}
use Rattle.scalar_expr.proofs.Faults.{fault_of_deep}
use Rattle.scalar_expr.proofs.deep.next_in_three.Goals as goal

pub returns-in-Ok-clause-leads : goal.returns-in-Ok-clause-leads
unfolding Leads
returns-in-Ok-clause-leads c =
    let s : Expr = expr.cond (expr_of c.args.c.now) (expr_of c.args.a.now) (expr_of c.args.b.now) in
    ap (λ x. first_fault c.args.ty c.args.place (postorder x)) c.requires.whole
    ∙ c.in-Ok.ensures.passed (s ∷ [])
    ∙ ap (λ x. first_fault c.args.ty c.in-Ok.after (x ∷ [])) (sym c.requires.whole)
    ∙ ap (λ f. or_else f None) (fault_of_deep c.args.ty c.in-Ok.after (expr_of c.args.s.now) c.requires.deep)

pub returns-in-Err-clause-leads : goal.returns-in-Err-clause-leads
returns-in-Err-clause-leads c =
    let s : Expr = expr.cond (expr_of c.args.c.now) (expr_of c.args.a.now) (expr_of c.args.b.now) in
    subst (λ x. Leads c.args.ty (first_fault c.args.ty c.args.place (postorder x)) c.in-Err.next) (sym c.requires.whole) (c.in-Err.ensures.leads (s ∷ []))
