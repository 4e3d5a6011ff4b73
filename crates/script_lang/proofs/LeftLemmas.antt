-- Reading a function leaves no more words than there were.
use Rattle.std.proofs.Common.{◌≡◌, ◌⊎◌, inl, inr, ℕ, zero, suc, ◌≤◌, Bool, true, false, List, [], ◌∷◌, length, drop, Ok, Some, refl, subst, arith}
use Rattle.std.specs.Prelude.{codes, bytes_eq, if◌then◌else◌}
use Rattle.std.proofs.lemmas.List.{length-drop}
use Rattle.scalar_expr.specs.declared.pair.Pair.TheVariants as pair
use Rattle.script_words.specs.declared.fault.ScriptWhat.TheVariants.{BadLine}
use Rattle.script_words.specs.Lines.{Token}
use Rattle.script_words.specs.Read.{Read, ◌>>=◌, or_fault, unless}
use Rattle.script_words.specs.Reading.{Reads, next, this_at}
use Rattle.script_words.specs.Functions.{Spelled, look_up, calcs, atom_of, atom_at, paired, chosen, wrapped, parts_at, nested_at, is_open, scalar_at, begins_tuple, closes, others_at, scalars_at, function_at}
use Rattle.script_lang.proofs.SoundLemmas.{bind_ok, or_fault_ok, ok_is}

-- a part that leaves no more words than there were
abbrev Shortens : {X : Type 0} → Reads X → Type 0
Shortens {X} read = (end : ℕ) (ts : List Token) (x : X × List Token) → read end ts ≡ Ok x → length x.1 ≤ length ts

left : {X : Type 0} → (r : Read (X × List Token)) (y : X) (ts : List Token) (x : X × List Token) → r ≡ Ok (y, ts) → r ≡ Ok x → length x.1 ≤ length ts
left {X} r y ts x p e = subst (λ (q : X × List Token). length q.1 ≤ length ts) (ok_is r (y, ts) x p e) (omega arith)

either : {X : Type 0} → (b : Bool) (r s x : X) → (if b then r else s) ≡ x → (r ≡ x) ⊎ (s ≡ x)
either true r s x e = inl e
either false r s x e = inr e

next_left : Shortens next
unfolding next
next_left end [] x e = absurd (cc)
next_left end (t ∷ ts) x e = let is : (t, ts) ≡ x = cc in subst (λ (q : Token × List Token). length q.1 ≤ length (t ∷ ts)) is (omega arith)

this_left : (word : List ℕ) → Shortens (this_at word)
unfolding this_at
this_left word end ts x e =
    let t = bind_ok (next end ts) _ _ e in
    let u = bind_ok (unless (bytes_eq t.0.0.text word) t.0.0.column BadLine) _ _ t.2 in
    subst (λ (q : Token × List Token). length q.1 ≤ length ts) (ok_is _ _ _ refl u.2) (next_left end ts t.0 t.1)

atom_left : (t : Token) (ts : List Token) (x : Spelled × List Token) → atom_at t ts ≡ Ok x → length x.1 ≤ length ts
unfolding atom_at
atom_left t ts x e =
    let s = bind_ok (or_fault (atom_of t.text) t.column BadLine) _ _ e in
    left _ _ _ x refl s.2

one_left : (read : Reads Spelled) (shortens : Shortens read) (make : Spelled × List Token → Spelled) (end : ℕ) (ts : List Token) (x : Spelled × List Token)
    → (read end ts >>= (λ a. Ok (make a, a.1))) ≡ Ok x → length x.1 ≤ length ts
one_left read shortens make end ts x e =
    let a = bind_ok (read end ts) _ _ e in
    omega (arith, left _ _ _ x refl a.2, shortens end ts a.0 a.1)

two_left : (read : Reads Spelled) (shortens : Shortens read) (make : Spelled × List Token → Spelled × List Token → Spelled) (end : ℕ) (ts : List Token) (x : Spelled × List Token)
    → (read end ts >>= (λ a. read end a.1 >>= (λ b. Ok (make a b, b.1)))) ≡ Ok x → length x.1 ≤ length ts
two_left read shortens make end ts x e =
    let a = bind_ok (read end ts) _ _ e in
    let b = bind_ok (read end a.0.1) _ _ a.2 in
    omega (arith, left _ _ _ x refl b.2, shortens end ts a.0 a.1, shortens end a.0.1 b.0 b.1)

three_left : (read : Reads Spelled) (shortens : Shortens read) (make : Spelled × List Token → Spelled × List Token → Spelled × List Token → Spelled) (end : ℕ) (ts : List Token) (x : Spelled × List Token)
    → (read end ts >>= (λ c. read end c.1 >>= (λ a. read end a.1 >>= (λ b. Ok (make c a b, b.1))))) ≡ Ok x → length x.1 ≤ length ts
three_left read shortens make end ts x e =
    let c = bind_ok (read end ts) _ _ e in
    let a = bind_ok (read end c.0.1) _ _ c.2 in
    let b = bind_ok (read end a.0.1) _ _ a.2 in
    omega (arith, left _ _ _ x refl b.2, shortens end ts c.0 c.1, shortens end c.0.1 a.0 a.1, shortens end a.0.1 b.0 b.1)

-- what holds in each row of a table of words holds of what the table has for a word
abbrev AllRows : {X : Type 0} → (X → Type 0) → List (List ℕ × X) → Type 0
AllRows P [] = Unit {0}
AllRows P (row ∷ rows) = P row.1 × AllRows P rows

row_found : {X : Type 0} → (P : X → Type 0) (rows : List (List ℕ × X)) (w : List ℕ) (x : X) → AllRows P rows → look_up rows w ≡ Some x → P x
row_found P [] w x all e = absurd (cc)
row_found {X} P (row ∷ rows) w x all e = elim (either (bytes_eq w row.0) _ _ (Some x) e) [
  | inl p ↦ let is : row.1 ≡ x = cc (p) in subst (λ (y : X). P y) is all.0
  | inr p ↦ row_found P rows w x all.1 p
]

-- the parts of each operator
parts_left : (read : Reads Spelled) (shortens : Shortens read) → AllRows (λ op. (column : ℕ) → Shortens (parts_at read op column)) calcs
unfolding parts_at
parts_left read shortens = (
  λ column. two_left read shortens (λ a b. paired pair.Add a.0 b.0 column),
  (
    λ column. two_left read shortens (λ a b. paired pair.Sub a.0 b.0 column),
    (
      λ column. two_left read shortens (λ a b. paired pair.Mul a.0 b.0 column),
      (
        λ column. two_left read shortens (λ a b. paired pair.Min a.0 b.0 column),
        (
          λ column. two_left read shortens (λ a b. paired pair.Max a.0 b.0 column),
          (
            λ column. two_left read shortens (λ a b. paired pair.Less a.0 b.0 column),
            (
              λ column. two_left read shortens (λ a b. paired pair.Same a.0 b.0 column),
              (
                λ column. two_left read shortens (λ a b. paired pair.And a.0 b.0 column),
                (
                  λ column. two_left read shortens (λ a b. paired pair.Or a.0 b.0 column),
                  (
                    λ column. two_left read shortens (λ a b. paired pair.Xor a.0 b.0 column),
                    (
                      λ column. three_left read shortens (λ c a b. chosen c.0 a.0 b.0 column),
                      (
                        λ column. one_left read shortens (λ a. wrapped a.0 column),
                        tt,
                      ),
                    ),
                  ),
                ),
              ),
            ),
          ),
        ),
      ),
    ),
  ),
)

nested_left : (read : Reads Spelled) (shortens : Shortens read) → Shortens (nested_at read)
unfolding nested_at
nested_left read shortens end ts x e =
    let t = bind_ok (next end ts) _ _ e in
    let op = bind_ok (or_fault (look_up calcs t.0.0.text) t.0.0.column BadLine) _ _ t.2 in
    let p = bind_ok (parts_at read op.0 t.0.0.column end t.0.1) _ _ op.2 in
    let parts = row_found (λ o. (column : ℕ) → Shortens (parts_at read o column)) calcs t.0.0.text op.0 (parts_left read shortens) (or_fault_ok (look_up calcs t.0.0.text) t.0.0.column BadLine op.0 op.1) in
    let close = bind_ok (this_at (codes ")") end p.0.1) _ _ p.2 in
    omega (arith, left _ _ _ x refl close.2, next_left end ts t.0 t.1, parts t.0.0.column end t.0.1 p.0 p.1, this_left (codes ")") end p.0.1 close.0 close.1)

scalar_left : (room : ℕ) → Shortens (scalar_at room)
unfolding scalar_at
scalar_left zero end ts x e =
    let t = bind_ok (next end ts) _ _ e in
    elim (either (is_open t.0.0) _ _ (Ok x) t.2) [
      | inl p ↦ absurd (cc)
      | inr p ↦ omega (arith, next_left end ts t.0 t.1, atom_left t.0.0 t.0.1 x p)
    ]
scalar_left (suc room) end ts x e =
    let t = bind_ok (next end ts) _ _ e in
    elim (either (is_open t.0.0) _ _ (Ok x) t.2) [
      | inl p ↦ omega (arith, next_left end ts t.0 t.1, nested_left (scalar_at room) (scalar_left room) end t.0.1 x p)
      | inr p ↦ omega (arith, next_left end ts t.0 t.1, atom_left t.0.0 t.0.1 x p)
    ]

others_left : (n : ℕ) → Shortens (others_at n)
unfolding others_at
others_left zero end ts x e =
    let close = bind_ok (this_at (codes ")") end ts) _ _ e in
    omega (arith, left _ _ _ x refl close.2, this_left (codes ")") end ts close.0 close.1)
others_left (suc n) end ts x e =
    elim (either (closes ts) _ _ (Ok x) e) [
      | inl p ↦ omega (arith, left _ _ _ x refl p, length-drop 1 ts)
      | inr p ↦
          let s = bind_ok (scalar_at 29 end ts) _ _ p in
          let ss = bind_ok (others_at n end s.0.1) _ _ s.2 in
          omega (arith, left _ _ _ x refl ss.2, scalar_left 29 end ts s.0 s.1, others_left n end s.0.1 ss.0 ss.1)
    ]

scalars_left : Shortens scalars_at
unfolding scalars_at
scalars_left end ts x e =
    elim (either (begins_tuple ts) _ _ (Ok x) e) [
      | inl p ↦
          let a = bind_ok (scalar_at 29 end (drop 2 ts)) _ _ p in
          let b = bind_ok (scalar_at 29 end a.0.1) _ _ a.2 in
          let ss = bind_ok (others_at 2 end b.0.1) _ _ b.2 in
          omega (arith, left _ _ _ x refl ss.2, length-drop 2 ts, scalar_left 29 end (drop 2 ts) a.0 a.1, scalar_left 29 end a.0.1 b.0 b.1, others_left 2 end b.0.1 ss.0 ss.1)
      | inr p ↦
          let a = bind_ok (scalar_at 29 end ts) _ _ p in
          omega (arith, left _ _ _ x refl a.2, scalar_left 29 end ts a.0 a.1)
    ]

-- a function leaves no more words than there were
pub function_left : Shortens function_at
unfolding function_at
function_left end ts x e =
    let t = bind_ok (next end ts) _ _ e in
    let ss = bind_ok (scalars_at end ts) _ _ t.2 in
    omega (arith, left _ _ _ x refl ss.2, scalars_left end ts ss.0 ss.1)
