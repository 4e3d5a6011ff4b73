-- What print lines print, while the values are moved out of the table.
use Rattle.std.proofs.Common.{◌≡◌, ℕ, ◌+◌, ◌<◌, false, List, [], ◌∷◌, ◌++◌, take, Option, Some, None, refl, sym, ap, ◌∙◌, arith}
use Rattle.std.specs.Prelude.{slice_get, slice_set, ◌==◌}
use Rattle.std.specs.List.{flat_map}
use Rattle.std.proofs.lemmas.Bool.{false≢true, eq-eqb}
use Rattle.std.proofs.lemmas.Option.{gets}
use Rattle.std.proofs.lemmas.Grind.{common_steps, flat_map-append}
use Rattle.std.proofs.lemmas.List.{append-nil}
use Rattle.data_text.specs.declared.value.Value.{Value}
use Rattle.data_text.specs.declared.value.Named.{Named}
use Rattle.script_lang.specs.Syntax.{Binding, Statement, binds_input, binds_let, prints}
use Rattle.script_lang.specs.Steps.{prints_line}
use Rattle.script_lang.specs.Sound.{binding_at, IsTypedScript}
use Rattle.fuse_rewrite.specs.Meaning.{Values, named_by, printed_by}
use Rattle.script_run.proofs.TypedLemmas.{bound_above}
use Rattle.script_run.proofs.LineLemmas.{take_line, none_before}

-- a name without a value isn't printed
pub no_value : (o : Option Binding) → named_by o (Some None) ≡ []
no_value None = refl
no_value (Some b) = refl

set_other : {X : Type 0} (xs : List X) (i n : ℕ) (x : X) → (n ≡ i → ⊥) → slice_get (slice_set xs i x) n ≡ slice_get xs n
set_other xs i n x apart = grind (arith, common_steps, gets)

differs : (m n : ℕ) → (m == n) ≡ false → n ≡ m → ⊥
differs m n e same = false≢true (sym e ∙ eq-eqb m n (sym same))

-- what a line doesn't print stays in the table
pub others_kept : (table : Values) (v : Option Value) (l : Statement) (n k : ℕ) → l ≡ prints n → prints_line k l ≡ false → slice_get (slice_set table n v) k ≡ slice_get table k
others_kept table v (binds_input b like) n k is apart = let no : ⊥ = cc in absurd no
others_kept table v (binds_let b s) n k is apart = let no : ⊥ = cc in absurd no
others_kept table v (prints m) n k is apart = let same : m ≡ n = cc in set_other table n k v (λ e. differs m k apart (e ∙ sym same))

-- a line prints the same from tables with the same value of its name
pub same_printed : (lines : List Statement) (table values : Values) (l : Statement) → ((n : ℕ) → l ≡ prints n → slice_get table n ≡ slice_get values n) → printed_by lines table l ≡ printed_by lines values l
same_printed lines table values (binds_input b like) same = refl
same_printed lines table values (binds_let b s) same = refl
same_printed lines table values (prints n) same = ap (λ (v : Option (Option Value)). named_by (binding_at lines n) v) (same n refl)

module _ (lines : List Statement) (typed : IsTypedScript lines) where
  -- what a print line prints stands above it
  pub printed_above : (i n : ℕ) → slice_get lines i ≡ Some (prints n) → (n < i) × ((b : Binding) × (binding_at lines n ≡ Some b))
  printed_above i n at =
      let t = (typed i (prints n) at).0 in
      let up = bound_above lines i n t.0 t.1 in
      (up.0, (t.0, up.1))

  -- and no line above prints it
  pub printed_once : (i m n : ℕ) (l : Statement) → slice_get lines i ≡ Some l → i < m → slice_get lines m ≡ Some (prints n) → prints_line n l ≡ false
  printed_once i m n l at lt later = none_before (prints_line n) lines m i l (typed m (prints n) later).1 lt at

-- what is printed so far, and by a line more
pub printed_more : (lines : List Statement) (values : Values) (named more : List Named) (i : ℕ) (l : Statement) → named ≡ flat_map (printed_by lines values) (take i lines) → slice_get lines i ≡ Some l
    → more ≡ named ++ printed_by lines values l → more ≡ flat_map (printed_by lines values) (take (i + 1) lines)
printed_more lines values named more i l so at is =
    is ∙ rw (so, take_line lines i l at, flat_map-append (printed_by lines values) (take i lines) (l ∷ [])) (ap (λ (last : List Named). flat_map (printed_by lines values) (take i lines) ++ last) (sym (append-nil (printed_by lines values l))))
