use Rattle.std.proofs.Common.{◌∷◌, ◌++◌, arith, sym, ◌∙◌, ap, [], None}
use Rattle.m_bridges.proofs.RestLemmas.{starts, popped, fewer, one_done, two_more, two_fewer, only, entry, bridge}
use Rattle.m_bridges.proofs.cutting.find_bridges.Goals as goal

pub loop-root-init : goal.loop-root-init
loop-root-init c =
    starts c.args.m c.args.tree.now.tree c.push.new.self.items c.new-out.result.items (c.in_ok-push.ensures.items ∙ ap (λ x. x ++ 0 ∷ []) c.new-todo.ensures.items) c.new-out.ensures.items

pub size-own-requires : goal.size-own-requires
size-own-requires c = (popped c.args.m c.args.tree.now.tree c.loop-root.todo.items c.pop.new.self.items c.in-Some.root c.in-Some.ensures.items c.loop-root.invariant.within).1

pub index-at-requires : goal.index-at-requires
index-at-requires c =
    let w = (popped c.args.m c.args.tree.now.tree c.loop-root.todo.items c.pop.new.self.items c.in-Some.root c.in-Some.ensures.items c.loop-root.invariant.within).1 in
    let n = c.in_ok-next.ensures.len in omega (arith, c.in_ok-next.next.ok.0)

pub overflow_sub-at : goal.overflow_sub-at
overflow_sub-at c =
    let w = (popped c.args.m c.args.tree.now.tree c.loop-root.todo.items c.pop.new.self.items c.in-Some.root c.in-Some.ensures.items c.loop-root.invariant.within).1 in
    (entry c.args.m c.args.tree.now.tree c.in_ok-next.next.items c.in-Some.root c.index-at.result.now c.in_ok-next.ensures w c.index-at.ensures).from

pub loop-root-smaller-then-at-root : goal.loop-root-smaller-then-at-root
loop-root-smaller-then-at-root c = fewer c.args.m c.args.tree.now.tree c.loop-root.todo.items c.pop.new.self.items c.in-Some.root c.in-Some.ensures.items

pub loop-root-preserved-then-at-root : goal.loop-root-preserved-then-at-root
loop-root-preserved-then-at-root c =
    let w = (popped c.args.m c.args.tree.now.tree c.loop-root.todo.items c.pop.new.self.items c.in-Some.root c.in-Some.ensures.items c.loop-root.invariant.within).1 in
    let x = entry c.args.m c.args.tree.now.tree c.in_ok-next.next.items c.in-Some.root c.index-at.result.now c.in_ok-next.ensures w c.index-at.ensures in
    let o = c.if-at-root.true in
    let only_it = only c.args.m c.args.tree.now.tree c.requires c.in-Some.root c.index-at.result.now w x (omega (arith, c.size-own.ensures.value)) in
    one_done c.args.m c.args.tree.now.tree c.loop-root.todo.items c.pop.new.self.items c.in-Some.root c.loop-root.out.items c.push-then-at-root.new.self.items (bridge c.in-Some.root None c.size-own.result)
    c.in-Some.ensures.items c.in_ok-push-2.ensures.items (only_it ∙ ap (λ n. bridge c.in-Some.root None n ∷ []) (sym c.size-own.ensures.value)) c.loop-root.invariant

pub with_hole-left-requires-clause-next : goal.with_hole-left-requires-clause-next
with_hole-left-requires-clause-next c =
    let w = (popped c.args.m c.args.tree.now.tree c.loop-root.todo.items c.pop.new.self.items c.in-Some.root c.in-Some.ensures.items c.loop-root.invariant.within).1 in
    entry c.args.m c.args.tree.now.tree c.in_ok-next.next.items c.in-Some.root c.index-at.result.now c.in_ok-next.ensures w c.index-at.ensures

pub loop-root-smaller : goal.loop-root-smaller
loop-root-smaller c =
    two_fewer c.args.m c.args.tree.now.tree c.loop-root.todo.items c.pop.new.self.items c.push-in-Some-3.new.self.items c.in-Some.root c.with_hole-left.result.1 c.with_hole-left.result.2 c.with_hole-left.result.0
    c.in-Some.ensures.items (c.in_ok-push-5.ensures.items ∙ ap (λ x. x ++ c.with_hole-left.result.1 ∷ []) c.in_ok-push-4.ensures.items) c.with_hole-left.ensures.first

pub loop-root-preserved : goal.loop-root-preserved
loop-root-preserved c =
    two_more c.args.m c.args.tree.now.tree c.loop-root.todo.items c.pop.new.self.items c.push-in-Some-3.new.self.items c.in-Some.root c.with_hole-left.result.1 c.with_hole-left.result.2
    c.loop-root.out.items c.push-in-Some.new.self.items c.with_hole-left.result.0
    c.in-Some.ensures.items (c.in_ok-push-5.ensures.items ∙ ap (λ x. x ++ c.with_hole-left.result.1 ∷ []) c.in_ok-push-4.ensures.items) c.in_ok-push-3.ensures.items
    c.with_hole-left.ensures.first c.with_hole-left.ensures.left c.with_hole-left.ensures.right c.loop-root.invariant
