-- The values of a script's lines.
use Rattle.std.proofs.Common.{◌≡◌, ℕ, zero, suc, ◌+◌, ◌<◌, List, [], ◌∷◌, ◌++◌, length, take, drop, Some, refl, sym, ap, ◌∙◌, arith, length-append}
use Rattle.std.specs.Prelude.{slice_get}
use Rattle.std.proofs.lemmas.Option.{slice_get_within}
use Rattle.data_text.specs.Data.{Section}
use Rattle.script_lang.specs.Syntax.{Statement}
use Rattle.fuse_rewrite.specs.Meaning.{Values, value_of, values_after, values_of_script, list_in, list_at}

-- places of lists
pub slice_get-left : {X : Type 0} (xs ys : List X) (n : ℕ) → n < length xs → slice_get (xs ++ ys) n ≡ slice_get xs n
slice_get-left [] ys n lt = let no : ⊥ = omega arith in absurd no
slice_get-left (x ∷ xs) ys zero lt = refl
slice_get-left (x ∷ xs) ys (suc n) lt = slice_get-left xs ys n (omega arith)

pub slice_get-end : {X : Type 0} (xs : List X) (x : X) (ys : List X) (n : ℕ) → n ≡ length xs → slice_get (xs ++ x ∷ ys) n ≡ Some x
slice_get-end [] x ys n e = rw e refl
slice_get-end (y ∷ xs) x ys zero e = let no : ⊥ = omega arith in absurd no
slice_get-end (y ∷ xs) x ys (suc n) e = slice_get-end xs x ys n (omega arith)

-- a list is what stands before a place, what stands there, and the rest
pub parted : {X : Type 0} (xs : List X) (n : ℕ) (x : X) → slice_get xs n ≡ Some x → (take n xs ++ x ∷ drop (suc n) xs) ≡ xs
parted [] n x e = cc
parted (y ∷ xs) zero x e = let same : y ≡ x = grind (arith, e) in ap (λ (z : _). z ∷ xs) (sym same)
parted (y ∷ xs) (suc n) x e = ap (λ (zs : List _). y ∷ zs) (parted xs n x e)

pub long_take : {X : Type 0} (xs : List X) (n : ℕ) → n < length xs → length (take n xs) ≡ n
long_take [] n lt = let no : ⊥ = omega arith in absurd no
long_take (x ∷ xs) zero lt = refl
long_take (x ∷ xs) (suc n) lt = ap suc (long_take xs n (omega arith))

module _ (sections : List Section) where
  after-append : (before : Values) (xs ys : List Statement) → values_after sections before (xs ++ ys) ≡ values_after sections (values_after sections before xs) ys
  unfolding values_after
  after-append before [] ys = refl
  after-append before (x ∷ xs) ys = after-append (before ++ value_of sections before x ∷ []) xs ys

  after-kept : (before : Values) (ls : List Statement) (m : ℕ) → m < length before → slice_get (values_after sections before ls) m ≡ slice_get before m
  unfolding values_after
  after-kept before [] m lt = refl
  after-kept before (l ∷ ls) m lt =
      let long = length-append before (value_of sections before l ∷ []) in
      after-kept (before ++ value_of sections before l ∷ []) ls m (omega arith) ∙ slice_get-left before (value_of sections before l ∷ []) m lt

  after-long : (before : Values) (ls : List Statement) → length (values_after sections before ls) ≡ length before + length ls
  unfolding values_after
  after-long before [] = omega arith
  after-long before (l ∷ ls) =
      let long = length-append before (value_of sections before l ∷ []) in
      let rest = after-long (before ++ value_of sections before l ∷ []) ls in
      omega arith

  after-next : (before : Values) (l : Statement) (ls : List Statement) → values_after sections before (l ∷ ls) ≡ values_after sections (before ++ value_of sections before l ∷ []) ls
  unfolding values_after
  after-next before l ls = refl

  pub values_long : (ls : List Statement) → length (values_of_script sections ls) ≡ length ls
  values_long ls = let long = after-long [] ls in omega arith

  module _ (ls : List Statement) (n : ℕ) (l : Statement) (at : slice_get ls n ≡ Some l) where
    abbrev before : Values
    before = values_of_script sections (take n ls)

    before_long : length before ≡ n
    before_long = values_long (take n ls) ∙ long_take ls n (slice_get_within ls n l at)

    split : values_of_script sections ls ≡ values_after sections before (l ∷ drop (suc n) ls)
    split = ap (λ (xs : List Statement). values_after sections [] xs) (sym (parted ls n l at)) ∙ after-append [] (take n ls) (l ∷ drop (suc n) ls)

    -- what the name of a line stands for
    pub value_at : slice_get (values_of_script sections ls) n ≡ Some (value_of sections before l)
    value_at =
        let v = value_of sections before l in
        let long = length-append before (v ∷ []) in
        let few = before_long in
        ap (λ (vs : Values). slice_get vs n) (split ∙ after-next before l (drop (suc n) ls))
        ∙ (after-kept (before ++ v ∷ []) (drop (suc n) ls) n (omega arith) ∙ slice_get-end before v [] n (sym before_long))

    -- the names of earlier lines stand for the same as before it
    pub earlier_at : (m : ℕ) → m < n → list_at before m ≡ list_at (values_of_script sections ls) m
    earlier_at m lt =
        let few = before_long in
        ap list_in (sym (ap (λ (vs : Values). slice_get vs m) split ∙ after-kept before (l ∷ drop (suc n) ls) m (omega arith)))
