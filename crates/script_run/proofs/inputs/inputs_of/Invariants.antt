-- The values so far are those of the inputs so far, and what the later inputs read is still in the data.
use Rattle.std.proofs.Common.{◌≡◌, ◌≤◌, ℕ, map, take, Option, Some}
use Rattle.std.specs.Prelude.{slice_get}
use Rattle.std.specs.List.{All}
use Rattle.data_text.specs.Named.{section_of, IsOfW64}
use Rattle.script_lang.specs.Syntax.{Binding, binds_input}
use Rattle.script_lang.specs.Views.{statement_of}
use Rattle.fuse_rewrite.specs.Meaning.{content_under}
use Rattle.script_run.specs.Inputs.{input_value}
use Rattle.script_run.proofs.inputs.inputs_of.Given as goal

abbrev pub invariant-loop-line : goal.invariant-loop-line
invariant-loop-line l = record {
  table : l.table.items ≡ map (input_value (map section_of l.fn.sections)) (take l.line-index (map statement_of l.lines));
  of_w64 : All (λ s. IsOfW64 s.value) l.rest.items;
  later : (n : ℕ) (b : Binding) (like : Option ℕ) → l.line-index ≤ n → slice_get (map statement_of l.lines) n ≡ Some (binds_input b like)
      → content_under b.name (map section_of l.rest.items) ≡ content_under b.name (map section_of l.fn.sections);
}
