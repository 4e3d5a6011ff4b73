use Rattle.std.proofs.Common.{◌≡◌, ◌+◌, ◌++◌, drop, length, IfSome}
use Rattle.op_laws.specs.Elements.{singles}
use Rattle.list_fusion.specs.Held.{held_through, scanned}
use Rattle.list_fusion.proofs.numbers.scan_numbers.Given as goal

-- the answer to the whole is the answer from this state to what is left
abbrev pub invariant-loop-i : goal.invariant-loop-i
invariant-loop-i g l = record {
  ty : l.list.ty ≡ l.fn.list.ty;
  long : length l.list.items ≡ length l.fn.list.items + l.i;
  items : l.list.items ++ scanned (g.M.Lifted.lifted l.op) (g.M.Semi.combined l.op) (g.M.Lifted.finished l.op) l.back l.held (singles (drop l.i l.numbers))
      ≡ l.fn.list.items ++ scanned (g.M.Lifted.lifted l.op) (g.M.Semi.combined l.op) (g.M.Lifted.finished l.op) l.back l.fn.held (singles l.numbers);
  value : held_through (g.M.Lifted.lifted l.op) (g.M.Semi.combined l.op) l.back l.held (singles (drop l.i l.numbers))
      ≡ held_through (g.M.Lifted.lifted l.op) (g.M.Semi.combined l.op) l.back l.fn.held (singles l.numbers);
  fits : IfSome l.held (λ c. g.M.Lifted.fits l.op c (l.n + l.i));
}
