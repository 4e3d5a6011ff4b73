use Rattle.std.proofs.Common.{◌++◌, ◌∷◌, [], ap, ◌∙◌, arith}
use Rattle.scalar_expr.specs.declared.step.Calc.TheVariants.{Copy}
use Rattle.scalar_expr.specs.Views.{expr_of}
use Rattle.scalar_expr.proofs.Building.{one_rooted}
use Rattle.scalar_expr.proofs.emit.emit_root.Goals as goal

pub returns-in_ok-put-in-Part : goal.returns-in_ok-put-in-Part
returns-in_ok-put-in-Part c =
    one_rooted c.args.target.now.ty c.args.target.now.room c.args.target.now.narrow c.args.place c.args.code.now.items c.emit.new.code.items c.put.new.code.items (expr_of c.args.s.now) Copy c.in_ok-x.x
    c.requires.begun c.in_ok-x.ensures (c.in_ok-put-in-Part.ensures ∙ ap (λ i. c.emit.new.code.items ++ i ∷ []) c.copy.ensures) (omega (arith, c.requires.room)) tt

pub returns-in_ok-put-in-Const : goal.returns-in_ok-put-in-Const
returns-in_ok-put-in-Const c =
    one_rooted c.args.target.now.ty c.args.target.now.room c.args.target.now.narrow c.args.place c.args.code.now.items c.emit.new.code.items c.put-in-Const.new.code.items (expr_of c.args.s.now) Copy c.in_ok-x.x
    c.requires.begun c.in_ok-x.ensures (c.in_ok-put-in-Const.ensures ∙ ap (λ i. c.emit.new.code.items ++ i ∷ []) c.copy-in-Const.ensures) (omega (arith, c.requires.room)) tt
