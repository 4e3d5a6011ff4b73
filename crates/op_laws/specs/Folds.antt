-- What a lawful operator makes of a list: of elements, or of values that stand for several elements each.
use Rattle.std.specs.Prelude.{◌≡◌, ℕ, ◌+◌, ℤ, List, [], ◌∷◌, Option, Some, None, unwrap_or}
use Rattle.std.specs.List.{fold, All}
use Rattle.op_laws.specs.declared.width.Width.{Width}
use Rattle.op_laws.specs.Admits.{Admits}

-- a value and one element after it
abbrev pub step : {A C : Type 0} → (A → C) → (C → C → C) → C → A → C
step lifted combined c e = combined c (lifted e)

-- the values of the elements, combined in order; nothing for no element
abbrev pub fold_of : {A C : Type 0} → (A → C) → (C → C → C) → List A → Option C
fold_of lifted combined [] = None
fold_of lifted combined (e ∷ es) = Some (fold (step lifted combined) (lifted e) es)

-- the same, with a value for no element
abbrev pub fold_or : {A C : Type 0} → C → (A → C) → (C → C → C) → List A → C
fold_or nothing lifted combined es = unwrap_or (fold_of lifted combined es) nothing

-- two folds side by side, of which a missing one changes nothing
abbrev pub beside : {C : Type 0} → (C → C → C) → Option C → Option C → Option C
beside combined None b = b
beside combined (Some a) None = Some a
beside combined (Some a) (Some b) = Some (combined a b)

-- a fold, and a value after it
abbrev pub with_next : {C : Type 0} → (C → C → C) → Option C → C → C
with_next combined None b = b
with_next combined (Some a) b = combined a b

-- a fold, and a value in front of it
abbrev pub with_front : {C : Type 0} → (C → C → C) → C → Option C → C
with_front combined a None = a
with_front combined a (Some b) = combined a b

-- The fold of a matrix, which is the list of its rows: of each row the values of its cells, combined across, and these combined downwards. A row of no
-- cells changes nothing
abbrev pub fold_rows : {A C : Type 0} → (A → C) → (C → C → C) → (C → C → C) → List (List A) → Option C
fold_rows lifted down across rows = fold_or None (fold_of lifted across) (beside down) rows

-- the weights of all
abbrev pub weight_of : {A : Type 0} → (A → ℕ) → List A → ℕ
weight_of weight [] = 0
weight_of weight (a ∷ xs) = weight a + weight_of weight xs

-- for each list of elements but the empty one, the finished fold is what `value` says of the whole list
pub record ReducesSome {C : Type 0} (takes : List Width → Type 0) (finished : C → List ℤ) (lifted : List ℤ → C) (combined : C → C → C)
    (value : List (List ℤ) → Option (List ℤ)) : Type 0 where
  pub some : (ty : List Width) (e : List ℤ) (es : List (List ℤ)) → takes ty → All (Admits ty) (e ∷ es)
      → value (e ∷ es) ≡ Some (finished (fold (step lifted combined) (lifted e) es))

-- for each list of elements the finished fold is what `value` says of the whole list
pub record Reduces {C : Type 0} (takes : List Width → Type 0) (finished : C → List ℤ) (nothing : C) (lifted : List ℤ → C) (combined : C → C → C)
    (value : List (List ℤ) → List ℤ) : Type 0 where
  pub whole : (ty : List Width) (es : List (List ℤ)) → takes ty → All (Admits ty) es
      → finished (fold_or nothing lifted combined es) ≡ value es
