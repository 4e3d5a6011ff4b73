-- The lines so far are printed, and what the later lines print is still in the table.
use Rattle.std.proofs.Common.{◌≡◌, ◌≤◌, ℕ, length, map, take, Some}
use Rattle.std.specs.Prelude.{slice_get}
use Rattle.std.specs.List.{flat_map}
use Rattle.script_lang.specs.Syntax.{prints}
use Rattle.script_lang.specs.Views.{statement_of}
use Rattle.fuse_rewrite.specs.Meaning.{printed_by}
use Rattle.script_run.proofs.printed.printed.Given as goal

abbrev pub invariant-loop-line : goal.invariant-loop-line
invariant-loop-line l = record {
  long : length l.table ≡ length l.lines;
  so_far : l.named.items ≡ flat_map (printed_by (map statement_of l.lines) l.fn.table) (take l.line-index (map statement_of l.lines));
  later : (m n : ℕ) → l.line-index ≤ m → slice_get (map statement_of l.lines) m ≡ Some (prints n) → slice_get l.table n ≡ slice_get l.fn.table n;
}
