-- A list with one element more.
use Rattle.std.proofs.Common.{◌≡◌, ◌+◌, ◌<◌, ◌^◌, ◌++◌, ℤ, List, [], ◌∷◌, length, ◌∙◌, sym}
use Rattle.std.proofs.lemmas.List.{length-map, length-append}
use Rattle.std.proofs.lemmas.List.Elements.{All-push}
use Rattle.op_laws.specs.declared.width.Width.{Width}
use Rattle.op_laws.specs.declared.columns.Columns.{Columns}
use Rattle.op_laws.specs.Admits.{Admits}
use Rattle.op_laws.specs.Rows.{rows, with_row}
use Rattle.op_laws.specs.Columns.{numbers_of, columns_list, numbers, kinds, IsTable}
use Rattle.op_laws.proofs.RowLemmas.{rows-with_row, AreEven-with_row}
use Rattle.op_laws.proofs.ColumnLemmas.{as_many, some_column}

module _ (ty : List Width) (old new : Columns) (t : List ℤ) (table : IsTable ty old) (admitted : Admits ty t)
    (longer : numbers new ≡ with_row 0 (numbers old) t) where
  some : 0 < length (numbers old)
  some = rw (length-map (columns_list old) numbers_of) (some_column old)

  fits : length t ≡ length (numbers old)
  fits = as_many ty old t table.kept admitted ∙ sym (length-map (columns_list old) numbers_of)

  -- the elements are those before and then the new one
  pub rows-longer : rows (numbers new) ≡ rows (numbers old) ++ t ∷ []
  rows-longer = rw longer (rows-with_row (numbers old) t some table.even fits)

  -- the columns hold a list of the same type
  pub IsTable-longer : kinds new ≡ kinds old → length (rows (numbers old)) + 1 < 2 ^ 32 → IsTable ty new
  IsTable-longer same few = record {
    kept = same ∙ table.kept;
    even = rw longer (AreEven-with_row (numbers old) t some table.even fits);
    few = rw (rows-longer, length-append) few;
    admitted = rw rows-longer (All-push (Admits ty) (rows (numbers old)) t table.admitted admitted);
  }
