use Rattle.std.proofs.Common.{◌≡◌, map, sym, subst}
use Rattle.bin_tree.specs.Places.{IsWhole}
use Rattle.bin_tree.specs.Places.{arity}
use Rattle.bin_tree.proofs.PlaceLemmas.{passed_on, closed_exactly, short_exactly}
use Rattle.bin_tree.proofs.AcceptedLemmas.{whole_tree, only_memory}
use Rattle.bin_tree.proofs.TreesFromLemmas.{IsTreeOf-tree_from, IsOnlyTreeOf-tree_from}
use Rattle.bin_tree.proofs.tree.Tree.from_marks.Goals as goal

pub returns-in_err-check_marks-clause-closed : goal.returns-in_err-check_marks-clause-closed
returns-in_err-check_marks-clause-closed c = λ i.
    let cs = map arity c.args.leaf.items in
    let cause = rw c.deref.ensures.value at c.in_err-check_marks.ensures in
    closed_exactly cs c.from_residual.result i (passed_on cs c.from_residual.result c.in_err-check_marks.field-0.0 c.from_residual.ensures.1 cause)

pub returns-in_err-check_marks-clause-short : goal.returns-in_err-check_marks-clause-short
returns-in_err-check_marks-clause-short c =
    let cs = map arity c.args.leaf.items in
    let cause = rw c.deref.ensures.value at c.in_err-check_marks.ensures in
    short_exactly cs c.from_residual.result (passed_on cs c.from_residual.result c.in_err-check_marks.field-0.0 c.from_residual.ensures.1 cause)

pub returns-clause-ok : goal.returns-clause-ok
returns-clause-ok c =
    let whole = rw c.deref.ensures.value at c.in_ok-check_marks.ensures in
    IsTreeOf-tree_from c.args.leaf.items c.args.values c.in_ok-with_sizes.field-0 c.in_ok-with_sizes.ensures c.requires whole

pub returns-clause-only : goal.returns-clause-only
returns-clause-only c = IsOnlyTreeOf-tree_from c.args.leaf.items c.args.values c.in_ok-with_sizes.field-0 c.in_ok-with_sizes.ensures

pub returns-in_err-check_marks-clause-given : goal.returns-in_err-check_marks-clause-given
returns-in_err-check_marks-clause-given c = λ t of.
    let cs = map arity c.args.leaf.items in
    let cause = rw c.deref.ensures.value at c.in_err-check_marks.ensures in
    let whole = subst (λ ms. IsWhole (map arity ms)) of.marks (whole_tree t.tree) in
    only_memory cs c.from_residual.result c.in_err-check_marks.field-0.0 (λ u. u ≡ t) c.from_residual.ensures.1 cause whole

pub returns-clause-given : goal.returns-clause-given
returns-clause-given c = λ t of. sym (IsOnlyTreeOf-tree_from c.args.leaf.items c.args.values c.in_ok-with_sizes.field-0 c.in_ok-with_sizes.ensures t of)
