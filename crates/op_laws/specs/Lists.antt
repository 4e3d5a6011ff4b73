-- The skeletons on whole lists, with what functions and operators mean as arguments. There is no pipe, block or worker here.
use Rattle.std.specs.Prelude.{◌≡◌, ℕ, ℤ, pos, Bool, not, List, [], ◌∷◌, ◌++◌, map, slice_index_or, refl}
use Rattle.std.specs.List.{filter, zip, range_with_len}
use Rattle.std.specs.Ordering.{int_eq}

-- the fronts of a list, but for the empty one, from the shortest on
abbrev pub prefixes : {X : Type 0} → List X → List (List X)
prefixes [] = []
prefixes (x ∷ xs) = (x ∷ []) ∷ map (λ front. x ∷ front) (prefixes xs)

-- what a list is from each of its elements on, from the longest on
abbrev pub suffixes : {X : Type 0} → List X → List (List X)
suffixes [] = []
suffixes (x ∷ xs) = (x ∷ xs) ∷ suffixes xs

-- at each element what the list up to it comes to
abbrev pub scanned : {X Y : Type 0} → (List X → Y) → List X → List Y
scanned reduce xs = map reduce (prefixes xs)

-- at each element what the list from it on comes to
abbrev pub scanned_back : {X Y : Type 0} → (List X → Y) → List X → List Y
scanned_back reduce xs = map reduce (suffixes xs)

-- the components of the elements at the same place, joined
abbrev pub zipped : List (List ℤ) → List (List ℤ) → List (List ℤ)
zipped xs ys = map (λ p. p.0 ++ p.1) (zip xs ys)

-- the numbers below n, as elements
abbrev pub iota : ℕ → List (List ℤ)
iota n = map (λ i. pos i ∷ []) (range_with_len 0 n)

-- the first number of an element isn't 0
abbrev pub is_true : List ℤ → Bool
is_true e = not (int_eq (slice_index_or e 0 (pos 0)) (pos 0))

-- the elements on which the function isn't 0
abbrev pub filtered : (List ℤ → List ℤ) → List (List ℤ) → List (List ℤ)
filtered f es = filter (λ e. is_true (f e)) es

-- worked rows

three_prefixes : prefixes {X = ℕ} (1 ∷ 2 ∷ 3 ∷ []) ≡ (1 ∷ []) ∷ (1 ∷ 2 ∷ []) ∷ (1 ∷ 2 ∷ 3 ∷ []) ∷ []
three_prefixes = refl

three_suffixes : suffixes {X = ℕ} (1 ∷ 2 ∷ 3 ∷ []) ≡ (1 ∷ 2 ∷ 3 ∷ []) ∷ (2 ∷ 3 ∷ []) ∷ (3 ∷ []) ∷ []
three_suffixes = refl

two_lists : zipped ((pos 1 ∷ []) ∷ (pos 2 ∷ []) ∷ []) ((pos 7 ∷ pos 8 ∷ []) ∷ (pos 9 ∷ pos 0 ∷ []) ∷ []) ≡ (pos 1 ∷ pos 7 ∷ pos 8 ∷ []) ∷ (pos 2 ∷ pos 9 ∷ pos 0 ∷ []) ∷ []
two_lists = refl

three_numbers : iota 3 ≡ (pos 0 ∷ []) ∷ (pos 1 ∷ []) ∷ (pos 2 ∷ []) ∷ []
three_numbers = refl

no_zeros : filtered (λ e. e) ((pos 3 ∷ []) ∷ (pos 0 ∷ []) ∷ (pos 4 ∷ []) ∷ []) ≡ (pos 3 ∷ []) ∷ (pos 4 ∷ []) ∷ []
no_zeros = refl
