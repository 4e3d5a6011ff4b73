use Rattle.std.proofs.Common.{◌≡◌, ◌<◌, ◌≤◌, ◌-◌, ◌+◌, ◌++◌, pos, [], get_or, length, map, subst, sym, arith}
use Rattle.std.specs.Int.{w64}
use Rattle.scalar_expr.specs.Steps.{operand_in, numbers, IsFound}
use Rattle.scalar_expr.specs.Lanes.{row_at, numbers_in}
use Rattle.scalar_expr.proofs.LaneLemmas.{place_above}
use Rattle.scalar_expr.proofs.narrow.source_of.Goals as goal

pub returns-else-k-out-clause-value : goal.returns-else-k-out-clause-value
returns-else-k-out-clause-value c = λ j h low long.
    let found = subst (λ o. IsFound (length c.args.columns.now) c.args.out (c.args.out + 1 + length c.args.above.now) o) c.in-Place.is c.requires.found in
    let le : c.args.out ≤ c.in-Place.k = found.0 in
    let lt : c.args.out < c.in-Place.k = omega arith in
    subst (λ o. get_or (get_or c.args.above.now (c.in-Place.k - c.args.out - 1) []) j (pos 0) ≡ operand_in (numbers w64 (row_at (map numbers_in c.args.columns.now) j)) (row_at (low ++ c.args.above.now) j) o)
    (sym c.in-Place.is) (place_above low c.args.above.now c.args.out c.in-Place.k j long lt)
