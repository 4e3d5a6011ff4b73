-- The values of inputs, taken out of the data by their names.
use Rattle.std.proofs.Common.{◌≡◌, ℕ, zero, suc, ◌+◌, ◌<◌, ◌≤◌, false, List, [], ◌∷◌, ◌++◌, map, length, take, Option, Some, refl, sym, ap, ◌∙◌, subst}
use Rattle.std.specs.Prelude.{slice_get, bytes_eq, option_map, remove, if◌then◌else◌}
use Rattle.std.proofs.lemmas.List.{take_all, map-append}
use Rattle.std.proofs.lemmas.Option.{slice_get-map}
use Rattle.data_text.specs.declared.value.Value.{Value}
use Rattle.data_text.specs.declared.value.Named.{Named}
use Rattle.data_text.specs.Data.{Content, Section}
use Rattle.data_text.specs.Named.{section_of, content_of}
use Rattle.script_lang.specs.Syntax.{Binding, Statement, binds_input, binds_let, prints}
use Rattle.script_lang.specs.Steps.{binds}
use Rattle.script_lang.specs.Sound.{IsTypedScript}
use Rattle.fuse_rewrite.specs.Meaning.{Values, content_under, list_read, values_of_script}
use Rattle.script_run.specs.Fits.{FitsLists}
use Rattle.script_run.specs.Inputs.{input_value, ReadsList}
use Rattle.script_run.specs.Runs.{AreInputsHeld}
use Rattle.script_run.proofs.ValueLemmas.{value_at}
use Rattle.script_run.proofs.LineLemmas.{take_line, none_before}

-- without the section at a place, another name's content is the same
pub content_under-remove : (name : List ℕ) (xs : List Named) (i : ℕ) (x : Named) → slice_get xs i ≡ Some x → bytes_eq x.name name ≡ false → content_under name (map section_of (remove xs i)) ≡ content_under name (map section_of xs)
content_under-remove name [] i x at other = cc
content_under-remove name (y ∷ xs) zero x at other = let same : y ≡ x = cc in rw (same, other) refl
content_under-remove name (y ∷ xs) (suc i) x at other = ap (λ (rest : Option Content). if bytes_eq y.name name then Some (content_of y.value) else rest) (content_under-remove name xs i x at other)

-- ---- lines that read

module _ (lines : List Statement) (sections : List Section) where
  -- what later inputs read is still there
  abbrev pub IsThere : List Section → ℕ → Type 0
  IsThere rest n = (b : Binding) (like : Option ℕ) → slice_get lines n ≡ Some (binds_input b like) → content_under b.name rest ≡ content_under b.name sections

  pub reads_list : (rest : List Section) (n : ℕ) (l : Statement) → FitsLists lines sections → slice_get lines n ≡ Some l → IsThere rest n → ReadsList rest l
  reads_list rest n (binds_input b like) fits at there = let is = fits n b like at in (is.numbers, there b like at ∙ is.there)
  reads_list rest n (binds_let b s) fits at there = tt
  reads_list rest n (prints m) fits at there = tt

  pub same_value : (rest : List Section) (n : ℕ) (l : Statement) → slice_get lines n ≡ Some l → IsThere rest n → input_value rest l ≡ input_value sections l
  same_value rest n (binds_input b like) at there = ap list_read (there b like at)
  same_value rest n (binds_let b s) at there = refl
  same_value rest n (prints m) at there = refl

  -- the name of a later input isn't that of a line
  pub other_name : (n m : ℕ) (l : Statement) (b : Binding) (like : Option ℕ) → IsTypedScript lines → slice_get lines n ≡ Some l → n < m → slice_get lines m ≡ Some (binds_input b like) → binds b.name l ≡ false
  other_name n m l b like typed at lt later = none_before (binds b.name) lines m n l (typed m (binds_input b like) later).0 lt at

  -- the values of inputs are what their names stand for
  pub inputs_held : AreInputsHeld lines (values_of_script sections lines) (map (input_value sections) lines)
  inputs_held n input =
      let line : slice_get lines n ≡ Some (binds_input input.0 input.1) = input.2 in
      slice_get-map (input_value sections) lines n
      ∙ (ap (λ (o : Option Statement). option_map (input_value sections) o) line ∙ sym (value_at sections lines n (binds_input input.0 input.1) line))

  -- the values so far, with that of a line more
  pub one_more : (table : Values) (v : Option Value) (n : ℕ) (l : Statement) → table ≡ map (input_value sections) (take n lines) → slice_get lines n ≡ Some l → v ≡ input_value sections l
      → (table ++ v ∷ []) ≡ map (input_value sections) (take (n + 1) lines)
  one_more table v n l so at is = rw (so, is, take_line lines n l at, map-append (input_value sections) (take n lines) (l ∷ [])) refl

  -- the values of all lines
  pub all_held : (table : Values) (n : ℕ) → table ≡ map (input_value sections) (take n lines) → length lines ≤ n → AreInputsHeld lines (values_of_script sections lines) table
  all_held table n so long = subst (AreInputsHeld lines (values_of_script sections lines)) (sym (so ∙ ap (map (input_value sections)) (take_all n lines long))) inputs_held
