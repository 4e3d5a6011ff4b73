use Rattle.std.proofs.Common.{◌≡◌, refl, sym, subst, arith}
use Rattle.bin_tree.specs.Places.{IsWhole}
use Rattle.bin_tree.specs.Roses.{degree}
use Rattle.bin_tree.specs.Columns.{rose_from}
use Rattle.bin_tree.proofs.PlaceLemmas.{passed_on, closed_exactly, short_exactly}
use Rattle.bin_tree.proofs.AcceptedLemmas.{whole_rose, only_memory}
use Rattle.bin_tree.proofs.RoseLemmas.{length-kept}
use Rattle.bin_tree.proofs.RosesFromLemmas.{columns-rose_from, IsRoseOf-rose_from, IsOnlyRoseOf-rose_from}
use Rattle.bin_tree.proofs.rose.Rose.from_counts.Goals as goal

pub returns-in_err-check_counts-clause-closed : goal.returns-in_err-check_counts-clause-closed
returns-in_err-check_counts-clause-closed c = λ i.
    let cs = c.args.counts.items in
    let cause = rw c.deref.ensures.value at c.in_err-check_counts.ensures in
    closed_exactly cs c.from_residual.result i (passed_on cs c.from_residual.result c.in_err-check_counts.field-0.0 c.from_residual.ensures.1 cause)

pub returns-in_err-check_counts-clause-short : goal.returns-in_err-check_counts-clause-short
returns-in_err-check_counts-clause-short c =
    let cs = c.args.counts.items in
    let cause = rw c.deref.ensures.value at c.in_err-check_counts.ensures in
    short_exactly cs c.from_residual.result (passed_on cs c.from_residual.result c.in_err-check_counts.field-0.0 c.from_residual.ensures.1 cause)

pub invariant_of-result : goal.invariant_of-result
invariant_of-result c =
    let r = rose_from c.args.counts.items c.args.values.items in
    let whole = rw c.deref.ensures.value at c.in_ok-check_counts.ensures in
    let columns = columns-rose_from c.args.counts.items c.args.values.items c.requires.same whole in
    let n = length-kept degree c.args.counts.items r r (sym columns.0) refl in
    record {
      counts = sym columns.0;
      values = sym columns.1;
      few = let f = c.requires.few in omega (arith, n, f);
    }

pub returns-clause-ok : goal.returns-clause-ok
returns-clause-ok c =
    let whole = rw c.deref.ensures.value at c.in_ok-check_counts.ensures in
    IsRoseOf-rose_from c.args.counts.items c.args.values c.requires.same whole

pub returns-clause-only : goal.returns-clause-only
returns-clause-only c = IsOnlyRoseOf-rose_from c.args.counts.items c.args.values

pub returns-in_err-check_counts-clause-given : goal.returns-in_err-check_counts-clause-given
returns-in_err-check_counts-clause-given c = λ r of.
    let cs = c.args.counts.items in
    let cause = rw c.deref.ensures.value at c.in_err-check_counts.ensures in
    let whole = subst IsWhole of.counts (whole_rose r.rose) in
    only_memory cs c.from_residual.result c.in_err-check_counts.field-0.0 (λ s. s ≡ r) c.from_residual.ensures.1 cause whole

pub returns-clause-given : goal.returns-clause-given
returns-clause-given c = λ r of. sym (IsOnlyRoseOf-rose_from c.args.counts.items c.args.values r of)
