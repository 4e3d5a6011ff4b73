-- Elements in columns.
use Rattle.std.proofs.Common.{◌≡◌, ◌≢◌, ℕ, zero, suc, ◌+◌, ◌-◌, ◌<◌, ◌≤◌, ℤ, pos, Bool, true, false, cond, not, Some, List, [], ◌∷◌, ◌++◌, length, map, take, drop, set, get_or, slice_range, refl, ap, sym, subst, ◌∙◌, arith, below_more, get_or-set_other, get_or-set_same}
use Rattle.std.specs.List.{filter, range_with_len, list_all, slice_get}
use Rattle.std.proofs.lemmas.Bool.{false≢true}
use Rattle.std.specs.Ordering.{int_eq}
use Rattle.std.proofs.lemmas.List.{same_lists, length-map, length-set, length-append, length-take-le, length-drop, get_or_default, map-id, map-append, append-nil, get_or-map, get_or-take, get_or-drop, get_or-reverse, get_or_append_left, get_or-append_right, take_all}
use Rattle.std.proofs.Math.Seq.{get_or-append_seam}
use Rattle.std.proofs.lemmas.List.Elements.{All-from_get_or, All-filter, All-get_or, filter_more}
use Rattle.std.proofs.lemmas.List.FromFn.{filter_of_map_range_with_len_more, get_or-range_with_len, length-range_with_len}
use Rattle.op_laws.specs.Elements.{singles}
use Rattle.scalar_expr.specs.Expr.{Expr}
use Rattle.scalar_expr.specs.Values.{values_of}
use Rattle.scalar_expr.specs.Lanes.{row_at}
use Rattle.op_laws.specs.declared.width.Width.{Width}
use Rattle.op_laws.specs.declared.width.Width.TheVariants.{W64, W96, W128}
use Rattle.scalar_expr.specs.Columns.{is_w64}
use Rattle.list_fusion.specs.declared.stage.Stage.{Stage}
use Rattle.op_laws.specs.Lists.{zipped, iota}
use Rattle.list_fusion.proofs.HeadLemmas.{get_or-zipped, get_or-iota}
use Rattle.list_fusion.specs.Stages.{is_kept, applied, type_after, Takes}
use Rattle.list_fusion.specs.Pipes.{turned}
use Rattle.list_fusion.specs.Columnar.{Holds, place_of, flagged, ArePassing}
use Rattle.list_fusion.proofs.BlockLemmas.{length-turned}

-- ---- rows

row-is : (columns : List (List ℤ)) (e : List ℤ) (j : ℕ) → length columns ≡ length e → ((k : ℕ) → k < length columns → get_or (get_or columns k []) j (pos 0) ≡ get_or e k (pos 0))
    → row_at columns j ≡ e
row-is [] [] j long same = refl
row-is [] (x ∷ e) j long same = absurd (omega arith)
row-is (c ∷ columns) [] j long same = absurd (omega arith)
row-is (c ∷ columns) (x ∷ e) j long same =
    let first : get_or c j (pos 0) ≡ x = same 0 (omega arith) in
    let rest : row_at columns j ≡ e = row-is columns e j (omega arith) (λ k h. same (suc k) (omega arith)) in
    ap (λ v. v ∷ row_at columns j) first ∙ ap (λ r. x ∷ r) rest

-- the row of the first columns, number by number
rows-from : (columns : List (List ℤ)) (width j : ℕ) (e : List ℤ) → width ≤ length columns → length e ≡ width
    → ((k : ℕ) → k < width → get_or (get_or columns k []) j (pos 0) ≡ get_or e k (pos 0)) → row_at (take width columns) j ≡ e
rows-from columns width j e wide long same =
    let count = length-take-le width columns wide in
    row-is (take width columns) e j (count ∙ sym long)
    (λ k h. let below : k < width = omega (arith, count, h) in ap (λ c. get_or c j (pos 0)) (get_or-take width columns k [] below) ∙ same k below)

row-get : (columns : List (List ℤ)) (width j k : ℕ) → width ≤ length columns → k < width → get_or (row_at (take width columns) j) k (pos 0) ≡ get_or (get_or columns k []) j (pos 0)
row-get columns width j k wide below =
    let inside : k < length (take width columns) = omega (arith, length-take-le width columns wide) in
    get_or-map (λ c. get_or c j (pos 0)) (take width columns) k [] (pos 0) inside ∙ ap (λ c. get_or c j (pos 0)) (get_or-take width columns k [] below)

length-row : (columns : List (List ℤ)) (width j : ℕ) → width ≤ length columns → length (row_at (take width columns) j) ≡ width
length-row columns width j wide = length-map (take width columns) (λ c. get_or c j (pos 0)) ∙ length-take-le width columns wide

-- ---- elements of a head

pub range-at : (b : Bool) (zs : List (List ℤ)) (from to j : ℕ) (d : List ℤ) → from ≤ to → to ≤ length zs → j < to - from
    → get_or (turned b (slice_range zs from to)) j d ≡ get_or zs (place_of b from to j) d
range-at false zs from to j d ordered within below = get_or-take (to - from) (drop from zs) j d below ∙ get_or-drop from zs j d
range-at true zs from to j d ordered within below =
    let long : length (slice_range zs from to) ≡ to - from = length-take-le (to - from) (drop from zs) (omega (arith, length-drop from zs)) in
    let at : from + (length (slice_range zs from to) - 1 - j) ≡ to - 1 - j = omega (arith, long, below) in
    let there : j < length (slice_range zs from to) = omega (arith, long, below) in
    let inside : length (slice_range zs from to) - 1 - j < to - from = omega (arith, long, below) in
    get_or-reverse (slice_range zs from to) j d there
    ∙ get_or-take (to - from) (drop from zs) (length (slice_range zs from to) - 1 - j) d inside
    ∙ get_or-drop from zs (length (slice_range zs from to) - 1 - j) d
    ∙ ap (λ i. get_or zs i d) at

length-range : (b : Bool) (zs : List (List ℤ)) (from to : ℕ) → from ≤ to → to ≤ length zs → length (turned b (slice_range zs from to)) ≡ to - from
length-range b zs from to ordered within = length-turned b (slice_range zs from to) ∙ length-take-le (to - from) (drop from zs) (omega (arith, length-drop from zs))

pub place-below : (b : Bool) (from to j : ℕ) → j < to - from → place_of b from to j < to
place-below true from to j below = omega arith
place-below false from to j below = omega arith

pub loaded : (b : Bool) (items : List (List ℤ)) (from to width : ℕ) (columns : List (List ℤ)) → from ≤ to → to ≤ length items → width ≤ length columns
    → ((i : ℕ) → i < length items → length (get_or items i []) ≡ width)
    → ((k : ℕ) → k < width → (j : ℕ) → j < to - from → get_or (get_or columns k []) j (pos 0) ≡ get_or (get_or items (place_of b from to j) []) k (pos 0))
    → Holds columns width (to - from) (turned b (slice_range items from to))
loaded b items from to width columns ordered within wide even done = record {
  long = length-range b items from to ordered within;
  rows = λ j h.
      let inside : place_of b from to j < length items = omega (arith, place-below b from to j h, within) in
      rows-from columns width j (get_or items (place_of b from to j) []) wide (even (place_of b from to j) inside) (λ k below. done k below j h)
      ∙ sym (range-at b items from to j [] ordered within h);
}

-- ---- components

pub w64-at : (ty : List Width) (k : ℕ) → list_all is_w64 ty ≡ true → k < length ty → slice_get ty k ≡ Some W64
w64-at [] k all below = absurd (omega arith)
w64-at (W64 ∷ ty) zero all below = refl
w64-at (W64 ∷ ty) (suc k) all below = w64-at ty k all (omega arith)
w64-at (W96 ∷ ty) k all below = absurd (false≢true all)
w64-at (W128 ∷ ty) k all below = absurd (false≢true all)

-- the types of two lists
pub w64-left : (ty uy : List Width) (k : ℕ) → list_all is_w64 (ty ++ uy) ≡ true → k < length ty → slice_get ty k ≡ Some W64
w64-left [] uy k all below = absurd (omega arith)
w64-left (W64 ∷ ty) uy zero all below = refl
w64-left (W64 ∷ ty) uy (suc k) all below = w64-left ty uy k all (omega arith)
w64-left (W96 ∷ ty) uy k all below = absurd (false≢true all)
w64-left (W128 ∷ ty) uy k all below = absurd (false≢true all)

all-right : (ty uy : List Width) → list_all is_w64 (ty ++ uy) ≡ true → list_all is_w64 uy ≡ true
all-right [] uy all = all
all-right (W64 ∷ ty) uy all = all-right ty uy all
all-right (W96 ∷ ty) uy all = absurd (false≢true all)
all-right (W128 ∷ ty) uy all = absurd (false≢true all)

pub w64-right : (ty uy : List Width) (k n : ℕ) → list_all is_w64 (ty ++ uy) ≡ true → n ≡ length ty → n ≤ k → k < length (ty ++ uy) → slice_get uy (k - n) ≡ Some W64
w64-right ty uy k n all is first below = w64-at uy (k - n) (all-right ty uy all) (omega (arith, length-append ty uy, below, first, is))

-- a component as the numbers of a list tell it
pub number-at : (items : List (List ℤ)) (numbers : List ℤ) (k i : ℕ) → numbers ≡ map (λ e. get_or e k (pos 0)) items → i < length items → get_or numbers i (pos 0) ≡ get_or (get_or items i []) k (pos 0)
number-at items numbers k i is within = ap (λ xs. get_or xs i (pos 0)) is ∙ get_or-map (λ e. get_or e k (pos 0)) items i [] (pos 0) within

-- and of two lists
pub left-at : (xs ys : List (List ℤ)) (numbers : List ℤ) (k i n : ℕ) → numbers ≡ map (λ e. get_or e k (pos 0)) xs → length xs ≡ length ys → i < length xs → length (get_or xs i []) ≡ n → k < n
    → get_or numbers i (pos 0) ≡ get_or (get_or (zipped xs ys) i []) k (pos 0)
left-at xs ys numbers k i n is same within long below =
    let other : i < length ys = omega arith in
    let inside : k < length (get_or xs i []) = omega arith in
    number-at xs numbers k i is within
    ∙ sym (get_or_append_left (get_or xs i []) (get_or ys i []) (pos 0) k inside)
    ∙ ap (λ e. get_or e k (pos 0)) (sym (get_or-zipped xs ys i within other))

pub right-at : (xs ys : List (List ℤ)) (numbers : List ℤ) (k i n : ℕ) → numbers ≡ map (λ e. get_or e (k - n) (pos 0)) ys → length xs ≡ length ys → i < length xs → length (get_or xs i []) ≡ n → n ≤ k
    → get_or numbers i (pos 0) ≡ get_or (get_or (zipped xs ys) i []) k (pos 0)
right-at xs ys numbers k i n is same within long first =
    let other : i < length ys = omega arith in
    number-at ys numbers (k - n) i is other
    ∙ sym (get_or-append_right (get_or xs i []) (get_or ys i []) n k (pos 0) long first)
    ∙ ap (λ e. get_or e k (pos 0)) (sym (get_or-zipped xs ys i within other))

pub count-at : (n i k : ℕ) → i < n → k < 1 → pos i ≡ get_or (get_or (iota n) i []) k (pos 0)
count-at n i k within below =
    let first : k ≡ 0 = omega arith in
    sym (ap (λ c. get_or (get_or (iota n) i []) c (pos 0)) first ∙ ap (λ e. get_or e 0 (pos 0)) (get_or-iota n i within))

-- ---- stages

pub stage-passed : (s : Stage) (ss : List Stage) (last : List Width) (columns new : List (List ℤ)) (count left : ℕ) (out : List (List ℤ)) → ArePassing (s ∷ ss) last columns count out
    → ((ty : List Width) (es : List (List ℤ)) → Takes s ty → Holds columns (length ty) count es → Holds new (length (type_after s ty)) left (applied s es)) → ArePassing ss last new left out
stage-passed s ss last columns new count left out h step =
    record { ty = type_after s h.ty; es = applied s h.es; typed = h.typed.1; along = h.along; holds = step h.ty h.es h.typed.0 h.holds; same = h.same }

-- ---- maps

pub mapped : (scalars : List Expr) (old new : List (List ℤ)) (width gives count : ℕ) (es : List (List ℤ)) → Holds old width count es
    → ((j : ℕ) → j < count → row_at (take gives new) j ≡ values_of scalars (row_at (take width old) j)) → Holds new gives count (map (values_of scalars) es)
mapped scalars old new width gives count es h values = record {
  long = length-map es (values_of scalars) ∙ h.long;
  rows = λ j below.
      let inside : j < length es = omega (arith, h.long, below) in
      values j below ∙ ap (values_of scalars) (h.rows j below) ∙ sym (get_or-map (values_of scalars) es j [] [] inside);
}

-- ---- filters

module _ (flags : List ℤ) where
  is_flagged : ℕ → Bool
  is_flagged j = not (int_eq (get_or flags j (pos 0)) (pos 0))

  pub flagged-more : (i : ℕ) → flagged flags (i + 1) ≡ flagged flags i ++ cond (not (int_eq (get_or flags i (pos 0)) (pos 0))) (i ∷ []) []
  flagged-more i =
      let whole = ap (filter (λ j. not (int_eq (get_or flags j (pos 0)) (pos 0)))) (map-id (range_with_len 0 (i + 1))) in
      let front = ap (filter (λ j. not (int_eq (get_or flags j (pos 0)) (pos 0)))) (map-id (range_with_len 0 i)) in
      sym whole ∙ filter_of_map_range_with_len_more (λ j. not (int_eq (get_or flags j (pos 0)) (pos 0))) (λ j. j) 0 i i (omega arith)
      ∙ ap (λ xs. xs ++ cond (not (int_eq (get_or flags i (pos 0)) (pos 0))) (i ∷ []) []) front

  flagged-below : (n t : ℕ) → t < length (flagged flags n) → get_or (flagged flags n) t 0 < n
  flagged-below n t h =
      let long : length (range_with_len 0 n) ≡ n = length-range_with_len 0 n in
      All-get_or (λ j. j < n) (flagged flags n) t 0 h
      (All-filter (λ j. not (int_eq (get_or flags j (pos 0)) (pos 0))) (λ j. j < n) (range_with_len 0 n)
      (All-from_get_or (λ j. j < n) (range_with_len 0 n) 0 (λ i below. let lt : i < n = omega (arith, long, below) in omega (arith, get_or-range_with_len 0 n i 0 lt, lt))))

  map-cond : (b : Bool) (f : ℕ → List ℤ) (i : ℕ) → cond b (f i ∷ []) [] ≡ map f (cond b (i ∷ []) [])
  map-cond true f i = refl
  map-cond false f i = refl

  -- the elements that a filter keeps are those at the places whose flag is set
  kept-front : (p : List ℤ → Bool) (es : List (List ℤ)) (n : ℕ) → n ≤ length es → ((j : ℕ) → j < n → p (get_or es j []) ≡ not (int_eq (get_or flags j (pos 0)) (pos 0)))
      → filter p (take n es) ≡ map (λ j. get_or es j []) (flagged flags n)
  kept-front p es zero within same = refl
  kept-front p es (suc n) within same =
      let next : suc n ≡ n + 1 = omega arith in
      let lt : n < length es = omega arith in
      let flag = not (int_eq (get_or flags n (pos 0)) (pos 0)) in
      let at : ℕ → List ℤ = λ j. get_or es j [] in
      let is : p (get_or es n []) ≡ flag = same n (omega arith) in
      ap (λ k. filter p (take k es)) next
      ∙ filter_more p es n [] lt
      ∙ ap (λ xs. xs ++ cond (p (get_or es n [])) (get_or es n [] ∷ []) []) (kept-front p es n (omega arith) (λ j h. same j (omega arith)))
      ∙ ap (λ b. map at (flagged flags n) ++ cond b (get_or es n [] ∷ []) []) is
      ∙ ap (λ xs. map at (flagged flags n) ++ xs) (map-cond flag at n)
      ∙ sym (map-append at (flagged flags n) (cond flag (n ∷ []) []))
      ∙ ap (map at) (sym (flagged-more n))
      ∙ ap (λ k. map at (flagged flags k)) (sym next)

  kept-is : (p : List ℤ → Bool) (es : List (List ℤ)) (n : ℕ) → length es ≡ n → ((j : ℕ) → j < n → p (get_or es j []) ≡ not (int_eq (get_or flags j (pos 0)) (pos 0)))
      → filter p es ≡ map (λ j. get_or es j []) (flagged flags n)
  kept-is p es n long same = ap (filter p) (sym (take_all n es (omega arith))) ∙ kept-front p es n (omega arith) same

  pub kept : (scalars : List Expr) (old new : List (List ℤ)) (width count : ℕ) (es : List (List ℤ)) → width ≤ length old → width ≤ length new → Holds old width count es
      → ((j : ℕ) → j < count → get_or flags j (pos 0) ≡ get_or (values_of scalars (row_at (take width old) j)) 0 (pos 0))
      → ((k : ℕ) → k < width → (t : ℕ) → t < length (flagged flags count) → get_or (get_or new k []) t (pos 0) ≡ get_or (get_or old k []) (get_or (flagged flags count) t 0) (pos 0))
      → Holds new width (length (flagged flags count)) (filter (is_kept scalars) es)
  kept scalars old new width count es wide_old wide_new h values done =
      let at : ℕ → List ℤ = λ j. get_or es j [] in
      let same = kept-is (is_kept scalars) es count h.long (λ j below. ap (λ e. not (int_eq (get_or (values_of scalars e) 0 (pos 0)) (pos 0))) (sym (h.rows j below)) ∙ ap (λ v. not (int_eq v (pos 0))) (sym (values j below))) in
      record {
        long = ap length same ∙ length-map (flagged flags count) at;
        rows = λ t below.
            let place = get_or (flagged flags count) t 0 in
            rows-from new width t (row_at (take width old) place) wide_new (length-row old width place wide_old) (λ k lt. done k lt t below ∙ sym (row-get old width place k wide_old lt))
            ∙ h.rows place (flagged-below count t below)
            ∙ sym (ap (λ xs. get_or xs t []) same ∙ get_or-map at (flagged flags count) t 0 [] below);
      }

-- a column that is closed up over the first places
pub record IsCompacted (before flags column : List ℤ) (kept i : ℕ) : Type 0 where
  pub long : length column ≡ 256
  pub count : kept ≡ length (flagged flags i)
  pub fewer : kept ≤ i
  pub done : (t : ℕ) → t < length (flagged flags i) → get_or column t (pos 0) ≡ get_or before (get_or (flagged flags i) t 0) (pos 0)
  pub rest : (j : ℕ) → i ≤ j → get_or column j (pos 0) ≡ get_or before j (pos 0)

module _ (before column : List ℤ) (kept i : ℕ) (v : ℤ) (places : List ℕ) (long : length column ≡ 256) (count : kept ≡ length places) (fewer : kept ≤ i) (within : i < 256) (is : v ≡ get_or column i (pos 0))
    (done : (t : ℕ) → t < length places → get_or column t (pos 0) ≡ get_or before (get_or places t 0) (pos 0)) (rest : (j : ℕ) → i ≤ j → get_or column j (pos 0) ≡ get_or before j (pos 0)) where
  done-same : (t : ℕ) → t < length places → get_or (set column kept v) t (pos 0) ≡ get_or before (get_or places t 0) (pos 0)
  done-same t h = let ne : t ≢ kept = omega arith in get_or-set_other column kept t v (pos 0) ne ∙ done t h

  done-next : (b : Bool) (t : ℕ) → t < length (places ++ cond b (i ∷ []) []) → get_or (set column kept v) t (pos 0) ≡ get_or before (get_or (places ++ cond b (i ∷ []) []) t 0) (pos 0)
  done-next false t h =
      let none = append-nil places in
      done-same t (subst (λ ps. t < length ps) none h) ∙ ap (λ ps. get_or before (get_or ps t 0) (pos 0)) (sym none)
  done-next true t h =
      let more = length-append places (i ∷ []) in
      let lt : kept < length column = omega arith in
      let below : t < kept + 1 = omega (arith, more, h) in
      let last : get_or (places ++ i ∷ []) kept 0 ≡ i = ap (λ k. get_or (places ++ i ∷ []) k 0) count ∙ get_or-append_seam places i [] 0 in
      below_more (λ k. get_or (set column kept v) k (pos 0) ≡ get_or before (get_or (places ++ i ∷ []) k 0) (pos 0)) kept
      (λ k below. let inside : k < length places = omega arith in done-same k inside ∙ ap (λ p. get_or before p (pos 0)) (sym (get_or_append_left places (i ∷ []) 0 k inside)))
      (get_or-set_same column kept v (pos 0) lt ∙ is ∙ rest i (omega arith) ∙ ap (λ p. get_or before p (pos 0)) (sym last))
      t below

  length-next : (b : Bool) → kept + cond b 1 0 ≡ length (places ++ cond b (i ∷ []) [])
  length-next true = omega (arith, length-append places (i ∷ []))
  length-next false = omega (arith, length-append places [])

  fewer-next : (b : Bool) → kept + cond b 1 0 ≤ i + 1
  fewer-next true = omega arith
  fewer-next false = omega arith

  rest-next : (j : ℕ) → i + 1 ≤ j → get_or (set column kept v) j (pos 0) ≡ get_or before j (pos 0)
  rest-next j h = let ne : j ≢ kept = omega arith in get_or-set_other column kept j v (pos 0) ne ∙ rest j (omega arith)

pub compacted : (before flags column : List ℤ) (kept i one : ℕ) (v : ℤ) → i < 256 → v ≡ get_or column i (pos 0) → one ≡ cond (not (int_eq (get_or flags i (pos 0)) (pos 0))) 1 0
    → IsCompacted before flags column kept i → IsCompacted before flags (set column kept v) (kept + one) (i + 1)
compacted before flags column n i one v within is flag h =
    let b = not (int_eq (get_or flags i (pos 0)) (pos 0)) in
    let places = flagged flags i in
    let next = flagged-more flags i in
    record {
      long = length-set column n v ∙ h.long;
      count = ap (λ k. n + k) flag ∙ length-next before column n i v places h.long h.count h.fewer within is h.done h.rest b ∙ ap length (sym next);
      fewer = subst (λ k. n + k ≤ i + 1) (sym flag) (fewer-next before column n i v places h.long h.count h.fewer within is h.done h.rest b);
      done = subst (λ ps. (t : ℕ) → t < length ps → get_or (set column n v) t (pos 0) ≡ get_or before (get_or ps t 0) (pos 0)) (sym next)
          (done-next before column n i v places h.long h.count h.fewer within is h.done h.rest b);
      rest = rest-next before column n i v places h.long h.count h.fewer within is h.done h.rest;
    }

-- ---- the one column

pub row-one : (columns : List (List ℤ)) (j : ℕ) → 1 ≤ length columns → row_at (take 1 columns) j ≡ get_or (get_or columns 0 []) j (pos 0) ∷ []
row-one [] j some = absurd (omega arith)
row-one (c ∷ columns) j some = refl

pub first-singles : (columns : List (List ℤ)) (count : ℕ) (es : List (List ℤ)) (numbers : List ℤ) → 1 ≤ length columns → numbers ≡ take count (get_or columns 0 []) → length numbers ≡ count
    → Holds columns 1 count es → singles numbers ≡ es
first-singles columns count es numbers some is long h =
    let same : length (singles numbers) ≡ length es = length-map numbers (λ x. x ∷ []) ∙ long ∙ sym h.long in
    same_lists (singles numbers) es same
    (λ j d lt.
    let below : j < count = omega (arith, same, h.long, lt) in
    let inside : j < length numbers = omega (arith, below, long) in
    let number : get_or numbers j (pos 0) ≡ get_or (get_or columns 0 []) j (pos 0) = ap (λ xs. get_or xs j (pos 0)) is ∙ get_or-take count (get_or columns 0 []) j (pos 0) below in
    get_or-map (λ x. x ∷ []) numbers j (pos 0) d inside
    ∙ ap (λ x. x ∷ []) number
    ∙ sym (row-one columns j some)
    ∙ h.rows j below
    ∙ get_or_default es j [] d (omega (arith, h.long, below)))
