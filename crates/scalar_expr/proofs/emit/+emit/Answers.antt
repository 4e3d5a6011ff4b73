use Rattle.std.proofs.Common.{pos, refl, subst, sym, ◌∙◌, ap, ◌+◌, arith}
use Rattle.scalar_expr.specs.declared.step.Calc.TheVariants.{Wrap}
use Rattle.scalar_expr.specs.Views.{expr_of}
use Rattle.scalar_expr.specs.Steps.{IsEmitted, held}
use Rattle.std.specs.Prelude.{length}
use Rattle.scalar_expr.proofs.Building.{one_emitted, two_emitted, three_emitted}
use Rattle.scalar_expr.proofs.emit.+emit.Goals as goal

pub emit_choice-next_place-last-requires : goal.emit_choice-next_place-last-requires
emit_choice-next_place-last-requires t c =
    let next = c.next_place-next.ensures (expr_of c.args.c.now) in
    omega (arith, next, c.in_ok-z.ensures.few, c.requires.first_room)

pub emit_one-returns : goal.emit_one-returns
emit_one-returns t c =
    one_emitted c.args.target.now.ty c.args.target.now.room c.args.target.now.narrow c.args.place c.args.code.now.items c.emit.new.code.items c.put.new.code.items (expr_of c.args.a.now) Wrap c.in_ok-x.x
    c.requires.begun c.in_ok-x.ensures c.in_ok-put.ensures c.requires.own_room tt refl

pub emit_two-returns : goal.emit_two-returns
emit_two-returns t c =
    let next = c.next_place-next.ensures (expr_of c.args.a.now) in
    two_emitted c.args.target.now.ty c.args.target.now.room c.args.target.now.narrow c.args.place c.args.code.now.items c.emit.new.code.items c.emit-2.new.code.items c.put.new.code.items (expr_of c.args.a.now) (expr_of c.args.b.now) c.args.op c.in_ok-x.x c.in_ok-y.y
    c.requires.begun c.in_ok-x.ensures
    (subst (λ q. IsEmitted c.args.target.now.ty c.args.target.now.room c.args.target.now.narrow q c.emit.new.code.items c.emit-2.new.code.items (expr_of c.args.b.now) c.in_ok-y.y) next c.in_ok-y.ensures)
    c.in_ok-put.ensures c.requires.own_room c.requires.exact c.requires.node

pub emit_choice-returns : goal.emit_choice-returns
emit_choice-returns t c =
    let next = c.next_place-next.ensures (expr_of c.args.c.now) in
    let last = c.next_place-last.ensures (expr_of c.args.a.now) in
    three_emitted c.args.target.now.ty c.args.target.now.room c.args.target.now.narrow c.args.place c.args.code.now.items c.emit.new.code.items c.emit-2.new.code.items c.emit-3.new.code.items c.put.new.code.items
    (expr_of c.args.c.now) (expr_of c.args.a.now) (expr_of c.args.b.now) c.in_ok-z.z c.in_ok-x.x c.in_ok-y.y
    c.requires.begun c.in_ok-z.ensures
    (subst (λ q. IsEmitted c.args.target.now.ty c.args.target.now.room c.args.target.now.narrow q c.emit.new.code.items c.emit-2.new.code.items (expr_of c.args.a.now) c.in_ok-x.x) next c.in_ok-x.ensures)
    (subst (λ q. IsEmitted c.args.target.now.ty c.args.target.now.room c.args.target.now.narrow q c.emit-2.new.code.items c.emit-3.new.code.items (expr_of c.args.b.now) c.in_ok-y.y) (last ∙ ap (λ n. n + length (held c.in_ok-x.x (expr_of c.args.a.now))) next) c.in_ok-y.ensures)
    c.in_ok-put.ensures c.requires.own_room
