-- One part takes the value on top, and puts those of its children there.
use Rattle.std.proofs.Common.{◌≡◌, ◌+◌, ◌≤◌, ◌++◌, ◌∷◌, [], refl, sym, ap, ◌∙◌, arith}
use Rattle.op_laws.specs.declared.TheConstants.{MAX_ELEMENTS}
use Rattle.bridge_contract.proofs.FallLemmas.{some_top, fits_top}
use Rattle.bridge_contract.proofs.falling.drop_part.Goals as goal

pub taken-top-requires : goal.taken-top-requires
taken-top-requires g c = some_top (g.D.DownOp.downward c.args.op.now) (g.D.DownOp.fits c.args.op.now) (g.D.DownOp.fits_way c.args.op.now) c.args.part c.args.stack.now.items c.requires

pub returns-in-End : goal.returns-in-End
returns-in-End g c = rw c.in-End.is (c.taken-top.new.stack.items, c.taken-top.result, c.taken-top.ensures, refl, refl)

pub overflow_add-weight : goal.overflow_add-weight
overflow_add-weight g c = let f = rw c.in-Both.is at (fits_top (g.D.DownOp.downward c.args.op.now) (g.D.DownOp.fits c.args.op.now) (g.D.DownOp.fits_way c.args.op.now) c.args.part c.args.stack.now.items c.taken-top.new.stack.items c.taken-top.result c.taken-top.ensures c.requires) in let few = f.0 in omega arith

pub psi_d-right-requires-clause-few : goal.psi_d-right-requires-clause-few
psi_d-right-requires-clause-few g c = let f = rw c.in-Both.is at (fits_top (g.D.DownOp.downward c.args.op.now) (g.D.DownOp.fits c.args.op.now) (g.D.DownOp.fits_way c.args.op.now) c.args.part c.args.stack.now.items c.taken-top.new.stack.items c.taken-top.result c.taken-top.ensures c.requires) in f.0

pub psi_d-right-requires-clause-value : goal.psi_d-right-requires-clause-value
psi_d-right-requires-clause-value g c = let f = rw c.in-Both.is at (fits_top (g.D.DownOp.downward c.args.op.now) (g.D.DownOp.fits c.args.op.now) (g.D.DownOp.fits_way c.args.op.now) c.args.part c.args.stack.now.items c.taken-top.new.stack.items c.taken-top.result c.taken-top.ensures c.requires) in f.1

pub psi_d-right-requires-clause-way : goal.psi_d-right-requires-clause-way
psi_d-right-requires-clause-way g c = let f = rw c.in-Both.is at (fits_top (g.D.DownOp.downward c.args.op.now) (g.D.DownOp.fits c.args.op.now) (g.D.DownOp.fits_way c.args.op.now) c.args.part c.args.stack.now.items c.taken-top.new.stack.items c.taken-top.result c.taken-top.ensures c.requires) in f.3

pub psi_d-left-requires-clause-few : goal.psi_d-left-requires-clause-few
psi_d-left-requires-clause-few g c = let f = rw c.in-Both.is at (fits_top (g.D.DownOp.downward c.args.op.now) (g.D.DownOp.fits c.args.op.now) (g.D.DownOp.fits_way c.args.op.now) c.args.part c.args.stack.now.items c.taken-top.new.stack.items c.taken-top.result c.taken-top.ensures c.requires) in f.0

pub psi_d-left-requires-clause-value : goal.psi_d-left-requires-clause-value
psi_d-left-requires-clause-value g c = let f = rw c.in-Both.is at (fits_top (g.D.DownOp.downward c.args.op.now) (g.D.DownOp.fits c.args.op.now) (g.D.DownOp.fits_way c.args.op.now) c.args.part c.args.stack.now.items c.taken-top.new.stack.items c.taken-top.result c.taken-top.ensures c.requires) in f.1

pub psi_d-left-requires-clause-way : goal.psi_d-left-requires-clause-way
psi_d-left-requires-clause-way g c = let f = rw c.in-Both.is at (fits_top (g.D.DownOp.downward c.args.op.now) (g.D.DownOp.fits c.args.op.now) (g.D.DownOp.fits_way c.args.op.now) c.args.part c.args.stack.now.items c.taken-top.new.stack.items c.taken-top.result c.taken-top.ensures c.requires) in f.2

pub returns-in_ok-push-in-Both-2 : goal.returns-in_ok-push-in-Both-2
returns-in_ok-push-in-Both-2 g c =
    let k = g.D.DownOp.downward c.args.op.now in
    let rest = c.taken-top.new.stack.items in let top = c.taken-top.result in
    let n = top.1 + c.in-Both.n in
    rw c.in-Both.is (
      rest,
      top,
      c.taken-top.ensures,
      c.in_ok-push-in-Both-2.ensures.items ∙ ap (λ x. x ++ (c.psi_d-left.result, n) ∷ []) c.in_ok-push-in-Both.ensures.items
          ∙ ap (λ v. (rest ++ (v, n) ∷ []) ++ (c.psi_d-left.result, n) ∷ []) c.psi_d-right.ensures
          ∙ ap (λ v. (rest ++ (k.down top.0 c.in-Both.r, n) ∷ []) ++ (v, n) ∷ []) c.psi_d-left.ensures,
      refl,
    )
