use Rattle.std.proofs.Common.{◌≡◌, ◌+◌, ◌<◌, ◌∷◌, [], ◌++◌, ℕ, List, length, get_or, sym, subst, ap, ◌∙◌, arith, length-append}
use Rattle.std.specs.Vec.Iter.{into_iter_items}
use Rattle.worker_split.specs.Items.{IsFilled}
use Rattle.worker_split.proofs.EachElement.{each_push}
use Rattle.worker_split.proofs.ItemLemmas.{AllFilledFrom, AllFilledFrom_first, AllFilledFrom_rest}
use Rattle.worker_split.proofs.slots.in_order.Goals as goal

pub loop-slot-preserved : goal.loop-slot-preserved
loop-slot-preserved g c =
    let gives = g.T.Task.gives c.args._task.now in let kept = c.loop-slot.invariant in
    let next = c.in-Some.ensures.steps.0 in let left = into_iter_items c.next.new.self in
    let slots : AllFilledFrom gives (length c.loop-slot.items.items) (c.in-Some.slot ∷ left) = subst (AllFilledFrom gives (length c.loop-slot.items.items)) next kept.left in
    let pushed : c.push.new.self.items ≡ c.loop-slot.items.items ++ c.in-Some-slot.item ∷ [] = c.in_ok-push-in-Some-slot.ensures.items in
    let longer : length c.push.new.self.items ≡ length c.loop-slot.items.items + 1 = ap length pushed ∙ length-append c.loop-slot.items.items (c.in-Some-slot.item ∷ []) in
    record {
      count = let was = kept.count in let n : length (into_iter_items c.loop-slot.slot-iterator) ≡ length left + 1 = ap length next ∙ omega arith in omega arith;
      made = subst (λ (xs : List g.row.X.Denot). (u : ℕ) (x : g.row.X.Denot) → u < length xs → gives u (get_or xs u x)) (sym pushed)
          (each_push gives c.loop-slot.items.items c.in-Some-slot.item kept.made
          (subst (IsFilled gives (length c.loop-slot.items.items)) c.in-Some-slot.is (AllFilledFrom_first gives (length c.loop-slot.items.items) c.in-Some.slot left slots)));
      left = subst (λ (k : ℕ). AllFilledFrom gives k left) (sym longer) (AllFilledFrom_rest gives (length c.loop-slot.items.items) c.in-Some.slot left slots);
    }
