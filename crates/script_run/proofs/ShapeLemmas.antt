-- Lists of the same shape are equally long.
use Rattle.std.proofs.Common.{◌≡◌, inl, inr, ℕ, zero, suc, ◌+◌, ◌*◌, ◌<◌, ℤ, Bool, true, false, List, [], ◌∷◌, map, length, take, Option, Some, None, refl, sym, ap, ◌∙◌, arith}
use Rattle.std.specs.Prelude.{slice_get, option_and_then, ◌==◌, ◌&&◌}
use Rattle.std.proofs.lemmas.Option.{slice_get_within}
use Rattle.std.specs.List.{range_with_len}
use Rattle.std.proofs.lemmas.List.{length-reverse, length-map}
use Rattle.std.proofs.lemmas.Bool.{eqb-true}
use Rattle.op_laws.specs.declared.width.Width.TheVariants.{W64}
use Rattle.op_laws.specs.Elements.{singles}
use Rattle.data_text.specs.declared.value.Value.TheVariants as value
use Rattle.data_text.specs.Data.{Section}
use Rattle.op_laws.specs.Lists.{zipped, iota, prefixes, suffixes}
use Rattle.script_lang.specs.declared.kind.Kind.TheVariants as kind
use Rattle.script_lang.specs.declared.skel.Skel.{Skel}
use Rattle.script_lang.specs.declared.skel.Skel.TheVariants as skel
use Rattle.script_lang.specs.declared.line.Line.{Line}
use Rattle.script_lang.specs.Syntax.{Binding, Skeleton, Statement, binds_input, binds_let}
use Rattle.script_lang.specs.Steps.{bound_by}
use Rattle.script_lang.specs.Views.{statement_of, skeleton_of}
use Rattle.script_lang.specs.Sound.{binding_at, AreBound, AreAlike, IsPair, IsTypedScript, AreSmallLines}
use Rattle.fuse_rewrite.specs.Meaning.{Values, values_of_script, list_in, list_at}
use Rattle.script_run.specs.Fits.{FitsLists}
use Rattle.script_run.specs.Pipes.{entered_on, value_finished, items_finished}
use Rattle.script_run.proofs.ValueLemmas.{value_at, long_take}
use Rattle.script_run.proofs.TypedLemmas.{is_bound, bound_above, taken_at, within_take}
use Rattle.script_run.proofs.ChainLemmas.{IsMeant}
use Rattle.script_run.proofs.MeantLemmas.{IsLetLine, list_kind, let_line, list_taken, meant}

length-prefixes : {X : Type 0} (xs : List X) → length (prefixes xs) ≡ length xs
length-prefixes [] = refl
length-prefixes (x ∷ xs) = ap suc (length-map (prefixes xs) (λ front. x ∷ front) ∙ length-prefixes xs)

length-suffixes : {X : Type 0} (xs : List X) → length (suffixes xs) ≡ length xs
length-suffixes [] = refl
length-suffixes (x ∷ xs) = ap suc (length-suffixes xs)

length-zipped : (xs ys : List (List ℤ)) → length xs ≡ length ys → length (zipped xs ys) ≡ length xs
length-zipped [] ys e = refl
length-zipped (x ∷ xs) [] e = let no : ⊥ = omega arith in absurd no
length-zipped (x ∷ xs) (y ∷ ys) e = ap suc (length-zipped xs ys (omega arith))

length-numbers : (a n : ℕ) → length (range_with_len a n) ≡ n
length-numbers a zero = refl
length-numbers a (suc n) = ap suc (length-numbers (a + 1) n)

length-iota : (n : ℕ) → length (iota n) ≡ n
length-iota n = length-map (range_with_len 0 n) (λ i. _) ∙ length-numbers 0 n

pub same_first : (a b : Bool) → (a && b) ≡ true → a ≡ true
same_first true b e = refl
same_first false b e = cc

-- the line that makes the shape of a list of line n, and the list is as long as that line's
pub record IsShaped (values : Values) (n : ℕ) (b : Binding) : Type 0 where
  pub origin : ℕ
  pub shape : b.shape ≡ 2 * origin + 1
  pub long : length (list_at values n).items ≡ length (list_at values origin).items

pub same_length : (values : Values) (m n : ℕ) (x y : Binding) → IsShaped values m x → IsShaped values n y → x.shape ≡ y.shape
    → length (list_at values m).items ≡ length (list_at values n).items
same_length values m n x y p q e =
    let same : p.origin ≡ q.origin = let a = p.shape in let b = q.shape in omega arith in
    p.long ∙ (ap (λ (k : ℕ). length (list_at values k).items) same ∙ sym q.long)

-- of a line that makes a list as long as one that is shaped
onward : (values : Values) (n a : ℕ) (b x : Binding) → IsShaped values a x → b.shape ≡ x.shape → length (list_at values n).items ≡ length (list_at values a).items → IsShaped values n b
onward values n a b x is shape long = record { origin = is.origin; shape = shape ∙ is.shape; long = long ∙ is.long }

module _ (ls : List Line) (sections : List Section) (typed : IsTypedScript (map statement_of ls)) (fits : FitsLists (map statement_of ls) sections) (small : AreSmallLines (map statement_of ls)) where
  abbrev lines : List Statement
  lines = map statement_of ls

  abbrev values : Values
  values = values_of_script sections lines

  list_of_let : (n : ℕ) (b : Binding) (s : Skeleton) → IsMeant values n b s → value_finished b s (entered_on s.head (map (list_at values) s.arguments)) ≡ value.List (record { ty = b.ty; items = items_finished s.head s.functions s.ops (entered_on s.head (map (list_at values) s.arguments)) })
      → (list_at values n).items ≡ items_finished s.head s.functions s.ops (entered_on s.head (map (list_at values) s.arguments))
  list_of_let n b s m e = rw (m.value, e) refl

  -- the two lists of a zip are equally long
  paired : (n a c : ℕ) (x : Binding) (ys : List Binding) → binding_at (take n lines) a ≡ Some x → x.kind ≡ kind.List → AreBound (take n lines) (c ∷ []) ys → AreAlike kind.List ys → IsPair x ys
      → ((d : ℕ) (z : Binding) → binding_at (take n lines) d ≡ Some z → z.kind ≡ kind.List → IsShaped values d z) → length (list_at values a).items ≡ length (list_at values c).items
  paired n a c x [] first k bound alike pair arg = absurd bound
  paired n a c x (y ∷ ys) first k bound alike pair arg =
      let same : x.shape ≡ y.shape = eqb-true x.shape y.shape (same_first (x.shape == y.shape) (x.across == y.across) pair.0) in
      same_length values a c x y (arg a x first k) (arg c y bound.0 (list_kind y.kind alike.0)) same

  -- a let line's list, by what is known of its arguments'
  shaped_let : (n : ℕ) (b : Binding) (sk : Skel) → length (take n lines) ≡ n → (is : IsLetLine lines n b (skeleton_of sk)) → IsMeant values n b (skeleton_of sk) → b.kind ≡ kind.List → is.x.kind ≡ kind.List
      → ((a : ℕ) (x : Binding) → binding_at (take n lines) a ≡ Some x → x.kind ≡ kind.List → IsShaped values a x) → IsShaped values n b
  shaped_let n b (skel.Map f a) long is m k xk arg = onward values n a b is.x (arg a is.x is.bound.0 xk) is.on.shape (ap length (list_of_let n b _ m refl) ∙ length-map _ _)
  shaped_let n b (skel.Zip a c) long is m k xk arg =
      let equal = paired n a c is.x is.ys is.bound.0 xk is.bound.1 (rw xk at is.on.alike) is.on.pair arg in
      onward values n a b is.x (arg a is.x is.bound.0 xk) is.on.shape (ap length (list_of_let n b _ m refl) ∙ length-zipped (list_at values a).items (list_at values c).items equal)
  shaped_let n b (skel.Filter f a) long is m k xk arg = record { origin = n; shape = rw long at is.on.shape; long = refl }
  shaped_let n b (skel.Rev a) long is m k xk arg = onward values n a b is.x (arg a is.x is.bound.0 xk) is.on.shape (ap length (list_of_let n b _ m refl) ∙ length-reverse _)
  shaped_let n b (skel.Iota a) long is m k xk arg = onward values n a b is.x (arg a is.x is.bound.0 xk) is.on.shape (ap length (list_of_let n b _ m refl) ∙ length-iota _)
  shaped_let n b (skel.Plain a) long is m k xk arg = onward values n a b is.x (arg a is.x is.bound.0 xk) is.on.shape (ap length (list_of_let n b _ m refl))
  shaped_let n b (skel.Scan o a) long is m k xk arg = onward values n a b is.x (arg a is.x is.bound.0 xk) is.on.shape (ap length (list_of_let n b _ m refl) ∙ length-map _ _ ∙ length-prefixes _)
  shaped_let n b (skel.Scanr o a) long is m k xk arg = onward values n a b is.x (arg a is.x is.bound.0 xk) is.on.shape (ap length (list_of_let n b _ m refl) ∙ length-map _ _ ∙ length-suffixes _)
  shaped_let n b (skel.Reduce o a) long is m k xk arg = let one = sym is.on.kind ∙ k in cc
  shaped_let n b (skel.ReduceBoth o p a) long is m k xk arg = let one = sym is.on.kind ∙ k in cc
  shaped_let n b (skel.Mapln f g a) long is m k xk arg = absurd m.finishes
  shaped_let n b (skel.ScanBoth o p a) long is m k xk arg = absurd m.finishes
  shaped_let n b (skel.Rows o a) long is m k xk arg = absurd m.finishes
  shaped_let n b (skel.Cols o a) long is m k xk arg = absurd m.finishes
  shaped_let n b (skel.Transpose a) long is m k xk arg = absurd m.finishes
  shaped_let n b (skel.Uacc o a) long is m k xk arg = absurd m.finishes
  shaped_let n b (skel.Dacc o j a) long is m k xk arg = absurd m.finishes
  shaped_let n b (skel.Getchl j a) long is m k xk arg = absurd m.finishes
  shaped_let n b (skel.Getchr j a) long is m k xk arg = absurd m.finishes

  abbrev Earlier : ℕ → Type 0
  Earlier n = (a : ℕ) (x : Binding) → a < n → binding_at lines a ≡ Some x → x.kind ≡ kind.List → IsShaped values a x

  shaped_input : (n : ℕ) (b : Binding) (like : Option ℕ) → slice_get lines n ≡ Some (binds_input b like) → Earlier n → IsShaped values n b
  shaped_input n b None at ih =
      let t = typed n (binds_input b None) at in
      record { origin = n; shape = rw (long_take lines n (slice_get_within lines n (binds_input b None) at)) at t.2.0; long = refl }
  shaped_input n b (Some m) at ih =
      let t = typed n (binds_input b (Some m)) at in
      let like = t.2 in
      let c = like.0 in
      let early = within_take lines n m (binds_input c like.1) like.2 in
      let line : slice_get lines m ≡ Some (binds_input c like.1) = sym (taken_at lines n m early) ∙ like.2 in
      let mine = fits n b (Some m) at in
      let its = fits m c like.1 line in
      let before = ih m c early (ap (λ (o : Option Statement). option_and_then bound_by o) line) its.kind in
      let v : list_at values n ≡ record { ty = W64 ∷ []; items = singles mine.numbers } = ap list_in (rw mine.there at (value_at sections lines n (binds_input b (Some m)) at)) in
      let w : list_at values m ≡ record { ty = W64 ∷ []; items = singles its.numbers } = ap list_in (rw its.there at (value_at sections lines m (binds_input c like.1) line)) in
      onward values n m b c before like.4
      (rw (v, w) (length-map mine.numbers (λ x. x ∷ []) ∙ (mine.alike c like.1 its.numbers line its.there ∙ sym (length-map its.numbers (λ x. x ∷ [])))))

  shaped_at : (n : ℕ) (b : Binding) (s : Skeleton) → slice_get lines n ≡ Some (binds_let b s) → b.kind ≡ kind.List → Earlier n → IsShaped values n b
  shaped_at n b s at k ih =
      let l = let_line ls sections typed fits n b s at in
      let here : slice_get lines n ≡ Some (binds_let b (skeleton_of l.0)) = at ∙ ap (λ (t : Skeleton). Some (binds_let b t)) (sym l.1) in
      shaped_let n b l.0 (long_take lines n (slice_get_within lines n (binds_let b s) at)) l.2 (meant ls sections typed fits small n b (skeleton_of l.0) here) k
      (list_taken ls sections typed fits n b l.0 l.2) (λ a x e kx. let up = bound_above lines n a x e in ih a x up.0 up.1 kx)

  shaped_line : (n : ℕ) (b : Binding) → binding_at lines n ≡ Some b → b.kind ≡ kind.List → Earlier n → IsShaped values n b
  shaped_line n b e k ih = elim (is_bound (slice_get lines n) b e) [
    | inl i ↦ shaped_input n b i.0 i.1 ih
    | inr i ↦ shaped_at n b i.0 i.1 k ih
  ]

  -- every list of the script
  shaped_below : (top n : ℕ) (b : Binding) → n < top → binding_at lines n ≡ Some b → b.kind ≡ kind.List → IsShaped values n b
  shaped_below zero n b lt e k = let no : ⊥ = omega arith in absurd no
  shaped_below (suc top) n b lt e k = shaped_line n b e k (λ a x below f kx. shaped_below top a x (omega arith) f kx)

  pub shaped : (n : ℕ) (b : Binding) → binding_at lines n ≡ Some b → b.kind ≡ kind.List → IsShaped values n b
  shaped n b e k = shaped_below (suc n) n b (omega arith) e k
