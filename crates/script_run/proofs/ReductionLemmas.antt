-- What the operator of a name makes of a list is its finished fold.
use Rattle.std.proofs.Common.{◌≡◌, ℤ, List, [], ◌∷◌, map, refl, sym, ap, ◌∙◌, unwrap_or, Option}
use Rattle.std.specs.List.{All}
use Rattle.std.proofs.lemmas.List.Elements.{All-head, All-tail, All-cons, All-nil}
use Rattle.op_laws.specs.declared.width.Width.{Width}
use Rattle.op_laws.specs.Admits.{Admits}
use Rattle.op_catalog.specs.declared.list_op.ListOp.{ListOp}
use Rattle.op_catalog.specs.Operators.{IsOperatorOf, IsMonoidOf}
use Rattle.op_laws.specs.Lists.{prefixes, suffixes}
use Rattle.list_skel.specs.Skeletons.{reduce_of, fold_result, scan_of, scanr_of}
use Rattle.script_lang.specs.declared.op.Op.TheVariants as op
use Rattle.fuse_rewrite.specs.Meaning.{reduced_by}

map_map : {X Y Z : Type 0} (f : Y → Z) (g : X → Y) (xs : List X) → map f (map g xs) ≡ map (λ x. f (g x)) xs
map_map f g [] = refl
map_map f g (x ∷ xs) = ap (λ (ys : List _). f (g x) ∷ ys) (map_map f g xs)

module _ {X Y : Type 0} (P : X → Type 0) where
  abbrev Agree : (List X → Y) → (List X → Y) → Type 0
  Agree f g = (x : X) (xs : List X) → All P (x ∷ xs) → f (x ∷ xs) ≡ g (x ∷ xs)

  pub prefixes_agree : (f g : List X → Y) → Agree f g → (xs : List X) → All P xs → map f (prefixes xs) ≡ map g (prefixes xs)
  prefixes_agree f g same [] all = refl
  prefixes_agree f g same (x ∷ xs) all =
      let first = All-head P x xs all in
      let rest : map (λ front. f (x ∷ front)) (prefixes xs) ≡ map (λ front. g (x ∷ front)) (prefixes xs)
      = prefixes_agree (λ front. f (x ∷ front)) (λ front. g (x ∷ front)) (λ y ys each. same x (y ∷ ys) (All-cons P x (y ∷ ys) first each)) xs (All-tail P x xs all) in
      ap (λ (y : Y). y ∷ map f (map (λ front. x ∷ front) (prefixes xs))) (same x [] (All-cons P x [] first (All-nil P)))
      ∙ ap (λ (ys : List Y). g (x ∷ []) ∷ ys) (map_map f (λ front. x ∷ front) (prefixes xs) ∙ (rest ∙ sym (map_map g (λ front. x ∷ front) (prefixes xs))))

  pub suffixes_agree : (f g : List X → Y) → Agree f g → (xs : List X) → All P xs → map f (suffixes xs) ≡ map g (suffixes xs)
  suffixes_agree f g same [] all = refl
  suffixes_agree f g same (x ∷ xs) all =
      ap (λ (y : Y). y ∷ map f (suffixes xs)) (same x xs all) ∙ ap (λ (ys : List Y). g (x ∷ xs) ∷ ys) (suffixes_agree f g same xs (All-tail P x xs all))

module _ {C : Type 0} (takes : List Width → Type 0) (gives : List Width → List Width) (finished : C → List ℤ) (lifted : List ℤ → C) (combined : C → C → C) (name : ListOp) (ty : List Width) where
  pub reduced-is : (nothing : C) → IsMonoidOf takes gives finished nothing lifted combined name ty → (es : List (List ℤ)) → All (Admits ty) es
      → reduce_of finished nothing lifted combined es ≡ reduced_by (op.Flat name) ty es
  reduced-is nothing m [] all = sym (ap (λ (o : Option (List ℤ)). unwrap_or o []) m.none)
  reduced-is nothing m (e ∷ es) all = sym (ap (λ (o : Option (List ℤ)). unwrap_or o []) (m.operator.reduces e es all))

  result-is : IsOperatorOf takes gives finished lifted combined name ty → (e : List ℤ) (es : List (List ℤ)) → All (Admits ty) (e ∷ es)
      → fold_result finished lifted combined (e ∷ es) ≡ reduced_by (op.Flat name) ty (e ∷ es)
  result-is m e es all = sym (ap (λ (o : Option (List ℤ)). unwrap_or o []) (m.reduces e es all))

  pub scanned-is : IsOperatorOf takes gives finished lifted combined name ty → (es : List (List ℤ)) → All (Admits ty) es
      → scan_of finished lifted combined es ≡ map (reduced_by (op.Flat name) ty) (prefixes es)
  scanned-is m es all = prefixes_agree (Admits ty) (fold_result finished lifted combined) (reduced_by (op.Flat name) ty) (result-is m) es all

  pub scanned_back-is : IsOperatorOf takes gives finished lifted combined name ty → (es : List (List ℤ)) → All (Admits ty) es
      → scanr_of finished lifted combined es ≡ map (reduced_by (op.Flat name) ty) (suffixes es)
  scanned_back-is m es all = suffixes_agree (Admits ty) (fold_result finished lifted combined) (reduced_by (op.Flat name) ty) (result-is m) es all
