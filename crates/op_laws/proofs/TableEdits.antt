-- Lists that are joined, turned round, or changed at one place.
use Rattle.std.proofs.Common.{◌≡◌, ℕ, zero, suc, ◌+◌, ◌-◌, ◌<◌, ◌≤◌, ◌^◌, ◌++◌, ℤ, pos, List, [], ◌∷◌, Some, length, get_or, map, take, drop, set, reverse, ap, arith, ◌∙◌, sym}
use Rattle.std.specs.List.{slice_get, slice_range}
use Rattle.std.proofs.lemmas.List.{length-map, length-append, length-take, length-drop, length-set, length-reverse}
use Rattle.std.proofs.lemmas.List.Elements.{All-append, All-take, All-drop, All-set}
use Rattle.op_laws.specs.declared.width.Width.{Width}
use Rattle.op_laws.specs.declared.columns.Columns.{Columns}
use Rattle.op_laws.specs.Admits.{Admits}
use Rattle.op_laws.specs.Rows.{rows, joined, with_row_at}
use Rattle.op_laws.specs.Columns.{numbers_of, is_wide, wants_wide, columns_list, numbers, kinds, IsTable}
use Rattle.op_laws.proofs.RowEdits.{rows-joined, AreEven-joined, rows-cut, AreEven-cut, rows-reverse, AreEven-reverse, All-reverse, rows-with_row_at, AreEven-with_row_at, get_or-columns}
use Rattle.op_laws.proofs.ColumnLemmas.{as_many, some_column}

-- as many columns as kinds
length-numbers : (columns : Columns) → length (numbers columns) ≡ length (kinds columns)
length-numbers columns = length-map (columns_list columns) numbers_of ∙ sym (length-map (columns_list columns) is_wide)

module _ (ty : List Width) (old other new : Columns) (from to : ℕ) (table : IsTable ty old) (second : IsTable ty other) (ordered : from ≤ to)
    (within : to ≤ length (rows (numbers other)))
    (longer : numbers new ≡ joined (numbers old) (map (λ xs. slice_range xs from to) (numbers other))) where
  as_wide : length (numbers old) ≡ length (map (λ xs. take (to - from) (drop from xs)) (numbers other))
  as_wide =
      length-numbers old ∙ ap length table.kept ∙ sym (ap length second.kept) ∙ sym (length-numbers other)
      ∙ sym (length-map (numbers other) (λ xs. take (to - from) (drop from xs)))

  -- the elements are those before and then those of the part
  pub rows-appended : rows (numbers new) ≡ rows (numbers old) ++ slice_range (rows (numbers other)) from to
  rows-appended =
      ap rows longer
      ∙ rows-joined _ (numbers old) (map (λ xs. take (to - from) (drop from xs)) (numbers other)) table.even as_wide
      ∙ ap (λ rs. rows (numbers old) ++ rs) (rows-cut (to - from) from (numbers other))

  pub IsTable-appended : kinds new ≡ kinds old → length (rows (numbers old)) + (to - from) < 2 ^ 32 → IsTable ty new
  IsTable-appended same few =
      let cut = AreEven-cut (to - from) from (numbers other) (omega arith) second.even in
      let many = length-append (rows (numbers old)) (take (to - from) (drop from (rows (numbers other)))) in
      let taken = length-take (to - from) (drop from (rows (numbers other))) in
      let dropped = length-drop from (rows (numbers other)) in
      let e = ap length rows-appended in
      record {
        kept = same ∙ table.kept;
        even = rw longer (AreEven-joined (numbers old) (map (λ xs. take (to - from) (drop from xs)) (numbers other)) table.even cut as_wide);
        few = omega arith;
        admitted = rw rows-appended (All-append (Admits ty) (rows (numbers old)) (take (to - from) (drop from (rows (numbers other)))) table.admitted
            (All-take (Admits ty) (to - from) (drop from (rows (numbers other))) (All-drop (Admits ty) from (rows (numbers other)) second.admitted)));
      }

module _ (ty : List Width) (old new : Columns) (table : IsTable ty old) (turned : numbers new ≡ map (λ xs. reverse xs) (numbers old)) where
  pub rows-turned : rows (numbers new) ≡ reverse (rows (numbers old))
  rows-turned = ap rows turned ∙ rows-reverse _ (numbers old) table.even

  pub IsTable-turned : kinds new ≡ kinds old → IsTable ty new
  IsTable-turned same = record {
    kept = same ∙ table.kept;
    even = rw turned (AreEven-reverse (numbers old) table.even);
    few = rw (rows-turned, length-reverse) table.few;
    admitted = rw rows-turned (All-reverse (Admits ty) (rows (numbers old)) table.admitted);
  }

module _ (ty : List Width) (old new : Columns) (i : ℕ) (t : List ℤ) (table : IsTable ty old) (admitted : Admits ty t)
    (changed : numbers new ≡ with_row_at i 0 (numbers old) t) where
  some : 0 < length (numbers old)
  some = rw (length-map (columns_list old) numbers_of) (some_column old)

  fits : length t ≡ length (numbers old)
  fits = as_many ty old t table.kept admitted ∙ sym (length-map (columns_list old) numbers_of)

  pub rows-changed : rows (numbers new) ≡ set (rows (numbers old)) i t
  rows-changed = ap rows changed ∙ rows-with_row_at i (numbers old) t some table.even fits

  pub IsTable-changed : kinds new ≡ kinds old → IsTable ty new
  IsTable-changed same = record {
    kept = same ∙ table.kept;
    even = rw changed (AreEven-with_row_at i (numbers old) t some table.even fits);
    few = rw (rows-changed, length-set) table.few;
    admitted = rw rows-changed (All-set (Admits ty) (rows (numbers old)) i t admitted table.admitted);
  }

-- a column of a list
pub column-rows : (ty : List Width) (columns : Columns) (k : ℕ) → IsTable ty columns → k < length ty → get_or (numbers columns) k [] ≡ map (λ e. get_or e k (pos 0)) (rows (numbers columns))
column-rows ty columns k table within =
    let many = length-numbers columns in let kinds = ap length table.kept in let wide = length-map ty wants_wide in
    sym (get_or-columns k (numbers columns) table.even (omega arith))

-- a place that has a width is one of the type
pub within_type : (ws : List Width) (k : ℕ) (w : Width) → slice_get ws k ≡ Some w → k < length ws
within_type [] k w e = absurd (cc)
within_type (v ∷ ws) zero w e = omega arith
within_type (v ∷ ws) (suc k) w e = let h = within_type ws k w e in omega arith
