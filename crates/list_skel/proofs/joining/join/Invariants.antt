use Rattle.std.proofs.Common.{◌≡◌, take}
use Rattle.list_skel.specs.Given.{all_items}
use Rattle.list_skel.proofs.joining.join.Given as goal

abbrev pub invariant-loop-list : goal.invariant-loop-list
invariant-loop-list l = record {
  ty : l.all.ty ≡ l.fn.ty;
  items : l.all.items ≡ all_items (take l.list-index l.lists);
}
