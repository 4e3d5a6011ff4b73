-- The names that a line of a typed script uses stand above it.
use Rattle.std.proofs.Common.{◌≡◌, ℕ, ◌<◌, ◌≤◌, List, [], ◌∷◌, length, take, Some, arith}
use Rattle.std.specs.Prelude.{slice_get}
use Rattle.std.proofs.lemmas.Option.{slice_get_within, option_and_then_some}
use Rattle.std.proofs.lemmas.Grind.{common_steps}
use Rattle.script_lang.specs.Syntax.{Statement, Binding, binds_input, binds_let, prints}
use Rattle.script_lang.specs.Steps.{bound_by}
use Rattle.script_lang.specs.Sound.{binding_at, AreBound, IsTypedAfter, IsTypedScript}
use Rattle.fuse_rewrite.specs.Demands.{AllBelow, names_in}

pub bound_above : (before : List Statement) (n : ℕ) (x : Binding) → binding_at before n ≡ Some x → n < length before
bound_above before n x is = option_and_then_some bound_by (slice_get before n) x is (λ l at by. slice_get_within before n l at)

all_above : (before : List Statement) (end : ℕ) (ns : List ℕ) (xs : List Binding) → length before ≤ end → AreBound before ns xs → AllBelow end ns
all_above before end [] xs le are = tt
all_above before end (n ∷ ns) [] le are = absurd are
all_above before end (n ∷ ns) (x ∷ xs) le are =
    let lt = bound_above before n x are.0 in
    (omega arith, all_above before end ns xs le are.1)

names_above : (before : List Statement) (end : ℕ) (l : Statement) → length before ≤ end → IsTypedAfter before l → AllBelow end (names_in l)
names_above before end (binds_input b like) le is = tt
names_above before end (binds_let b s) le is = all_above before end s.arguments (is.1.0 ∷ is.1.1) le is.1.3
names_above before end (prints n) le is =
    let lt = bound_above before n is.0.0 is.0.1 in
    (omega arith, tt)

taken : (i : ℕ) (ls : List Statement) → length (take i ls) ≤ i
taken i ls = grind (arith, common_steps)

pub names_of_typed : (ls : List Statement) (i end : ℕ) (l : Statement) → IsTypedScript ls → slice_get ls i ≡ Some l → i < end → AllBelow end (names_in l)
names_of_typed ls i end l typed at lt =
    let few = taken i ls in
    names_above (take i ls) end l (omega arith) (typed i l at)
