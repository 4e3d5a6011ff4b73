use Rattle.std.proofs.Common.{◌≡◌, ◌-◌, arith, ◌∙◌, ap, cond}
use Rattle.m_bridges.proofs.FirstLemmas.{next_more, nexts_more}
use Rattle.m_bridges.proofs.RestLemmas.{next_begins, next_begins_all, next_done}
use Rattle.m_bridges.proofs.cutting.fill_next.Goals as goal

pub loop-i-init : goal.loop-i-init
loop-i-init c = record {
  next = next_begins_all c.args.m c.args.tree.now.tree c.len-last.result c.args.next.now c.len-last.ensures.value c.requires.same;
  last = next_begins c.args.m c.args.tree.now.tree c.len-last.result c.len-last.ensures.value;
  within = let e = c.len-last.ensures.value in omega arith;
}

pub loop-i-preserved : goal.loop-i-preserved
loop-i-preserved c =
    let t = c.args.tree.now.tree in
    let v = c.nearer-last.ensures ∙ ap (λ x. cond x (c.loop-i.i - 1) c.loop-i.last) c.critical.ensures.value in
    let x = next_more c.args.m t c.loop-i.i c.loop-i.last c.nearer-last.result c.loop-i-test.true c.loop-i.invariant.within c.loop-i.invariant.last v in
    record {
      next = nexts_more c.args.m t c.loop-i.i c.nearer-last.result c.loop-i.next c.loop-i-test.true c.loop-i.invariant.within x c.loop-i.invariant.next;
      last = x;
      within = let w = c.loop-i.invariant.within in omega arith;
    }

pub returns : goal.returns
returns c = next_done c.args.m c.args.tree.now.tree c.loop-i.i c.loop-i.next (let e : c.loop-i.i ≡ 0 = omega arith in e) c.loop-i.invariant.next
