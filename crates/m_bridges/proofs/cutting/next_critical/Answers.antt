use Rattle.std.proofs.Common.{arith, refl}
use Rattle.m_bridges.proofs.RestLemmas.{next_written}
use Rattle.m_bridges.proofs.cutting.next_critical.Goals as goal

pub returns : goal.returns
returns c = next_written c.args.m c.args.tree.now.tree c.fill_next.new.next _ _ c.in_ok-next.next.len refl (let n = c.fill_next.ensures.len in let e = c.in_ok-next.ensures.len in omega (arith, c.len-n.ensures.value, n, e)) c.fill_next.ensures
