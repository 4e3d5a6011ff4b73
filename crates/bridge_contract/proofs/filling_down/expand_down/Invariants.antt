use Rattle.std.proofs.Common.{◌≡◌, ◌+◌, ◌≤◌, length, map}
use Rattle.op_laws.specs.Laws.{IsElementOf}
use Rattle.op_laws.specs.Trees.{size}
use Rattle.m_bridges.specs.Places.{part_at}
use Rattle.bridge_contract.specs.Pending.{pending}
use Rattle.bridge_contract.specs.Downs.{own_downs}
use Rattle.bridge_contract.proofs.DownLaws.{down_laws_of}
use Rattle.bridge_contract.proofs.PassLemmas.{IsPassing}
use Rattle.bridge_contract.proofs.filling_down.expand_down.Given as goal

abbrev pub invariant-loop-k : goal.invariant-loop-k
invariant-loop-k g l = record {
  passing : IsPassing (g.D.DownOp.downward l.op) (IsElementOf (g.D.DownOp.takes l.op)) (g.D.DownOp.fits l.op) (g.D.DownOp.fits_way l.op) (down_laws_of (g.met.D.DownOp.downward_laws l.op)) (g.D.DownOp.finished l.op) (size l.tree.tree + 1)
      (pending (part_at l.tree.tree l.bridge) l.k) (map (g.D.DownOp.finished l.op) (own_downs (g.D.DownOp.downward l.op) l.fn.c (part_at l.tree.tree l.bridge))) l.stack.items l.out.items;
  len : length l.out.items ≡ l.k;
  ty : l.out.ty ≡ g.D.DownOp.gives l.op l.tree.ty;
}
