-- Uses of a name, and the lines that they come from. Each line uses names of lines above it alone.
use Rattle.std.proofs.Common.{◌≡◌, ◌≢◌, ℕ, zero, suc, ◌+◌, ◌<◌, ◌≤◌, Bool, true, false, List, [], ◌∷◌, ◌++◌, map, inl, inr, ◌⊎◌, refl, sym, ap, ◌∙◌, subst, arith, Option, Some, None}
use Rattle.std.specs.Prelude.{slice_get, ◌==◌, if◌then◌else◌}
use Rattle.std.proofs.lemmas.Bool.{eq-eqb, ne_eqb}
use Rattle.std.proofs.lemmas.Bool.Decides.{eqb_tells}
use Rattle.std.proofs.lemmas.Option.{none-some, same_Some}
use Rattle.script_lang.specs.declared.head.Head.{Head}
use Rattle.script_lang.specs.Syntax.{Binding, Skeleton, Statement, binds_input, binds_let, prints}
use Rattle.fuse_rewrite.specs.Uses.{Use, by_print, by_pipe, by_other, Uses, use_by, uses_of, is_needed, uses_with, uses_above, uses_from}
use Rattle.fuse_rewrite.specs.Demands.{AllBelow, names_in}

-- one of the uses is this one
abbrev pub HasUse : Use → List Use → Type 0
HasUse u [] = ⊥
HasUse u (v ∷ vs) = (v ≡ u) ⊎ HasUse u vs

-- one of the numbers is this one
abbrev pub HasNumber : ℕ → List ℕ → Type 0
HasNumber a [] = ⊥
HasNumber a (n ∷ ns) = (n ≡ a) ⊎ HasNumber a ns

-- each of these lines, the first of which has this number, uses names of lines above it alone
abbrev pub UseAbove : ℕ → List Statement → Type 0
UseAbove k [] = Unit {0}
UseAbove k (l ∷ ls) = AllBelow k (names_in l) × UseAbove (k + 1) ls

pub use_above : (k : ℕ) (ls : List Statement) → ((i : ℕ) (l : Statement) → slice_get ls i ≡ Some l → AllBelow (k + i) (names_in l)) → UseAbove k ls
use_above k [] h = tt
use_above k (l ∷ ls) h =
    let here : k + 0 ≡ k = omega arith in (
      subst (λ (n : ℕ). AllBelow n (names_in l)) here (h 0 l refl),
      use_above (k + 1) ls (λ i m at. let next : k + suc i ≡ (k + 1) + i = omega arith in subst (λ (n : ℕ). AllBelow n (names_in m)) next (h (suc i) m at)),
    )

pub below_number : (end a : ℕ) (ns : List ℕ) → AllBelow end ns → HasNumber a ns → a < end
below_number end a [] all has = absurd has
below_number end a (n ∷ ns) all (inl e) = subst (λ (m : ℕ). m < end) e all.0
below_number end a (n ∷ ns) all (inr has) = below_number end a ns all.1 has

-- ---- one line

skips : (n a : ℕ) (u : Use) (us : Uses) → a ≢ n → uses_of n ((a, u) ∷ us) ≡ uses_of n us
skips n a u us ne = rw (ne_eqb a n ne) refl

-- a use more
more : (v u : Use) (n a : ℕ) (us : Uses) → HasUse v (uses_of n us) → HasUse v (uses_of n ((a, u) ∷ us))
more v u n a us has = elim (eqb_tells a n) [ inl p ↦ rw p.0 (inr has) | inr p ↦ rw p.0 has ]

first : (u : Use) (n a : ℕ) (us : Uses) → a ≡ n → HasUse u (uses_of n ((a, u) ∷ us))
first u n a us e = rw (eq-eqb a n e) (inl refl)

skips_all : (h : Head) (n k : ℕ) (args : List ℕ) (us : Uses) → AllBelow k args → k ≤ n → uses_of n (map (λ a. (a, use_by h)) args ++ us) ≡ uses_of n us
skips_all h n k [] us all le = refl
skips_all h n k (a ∷ args) us all le =
    let lt = all.0 in
    let ne : a ≢ n = omega arith in
    skips n a (use_by h) (map (λ a. (a, use_by h)) args ++ us) ne ∙ skips_all h n k args us all.1 le

more_all : (h : Head) (v : Use) (n : ℕ) (args : List ℕ) (us : Uses) → HasUse v (uses_of n us) → HasUse v (uses_of n (map (λ a. (a, use_by h)) args ++ us))
more_all h v n [] us has = has
more_all h v n (a ∷ args) us has = more v (use_by h) n a (map (λ a. (a, use_by h)) args ++ us) (more_all h v n args us has)

used_all : (h : Head) (n : ℕ) (args : List ℕ) (us : Uses) → HasNumber n args → HasUse (use_by h) (uses_of n (map (λ a. (a, use_by h)) args ++ us))
used_all h n [] us has = absurd has
used_all h n (a ∷ args) us (inl e) = first (use_by h) n a (map (λ a. (a, use_by h)) args ++ us) e
used_all h n (a ∷ args) us (inr has) = more (use_by h) (use_by h) n a (map (λ a. (a, use_by h)) args ++ us) (used_all h n args us has)

-- a line doesn't use names at its number or further down
skips_line : (needed : Bool) (n k : ℕ) (l : Statement) (below : Uses) → AllBelow k (names_in l) → k ≤ n → uses_of n (uses_with needed l below) ≡ uses_of n below
skips_line needed n k (binds_input b like) below all le = refl
skips_line true n k (binds_let b s) below all le = skips_all s.head n k s.arguments below all le
skips_line false n k (binds_let b s) below all le = refl
skips_line needed n k (prints m) below all le =
    let lt = all.0 in
    let ne : m ≢ n = omega arith in
    skips n m by_print below ne

-- and takes no use away
more_line : (needed : Bool) (v : Use) (n : ℕ) (l : Statement) (below : Uses) → HasUse v (uses_of n below) → HasUse v (uses_of n (uses_with needed l below))
more_line needed v n (binds_input b like) below has = has
more_line true v n (binds_let b s) below has = more_all s.head v n s.arguments below has
more_line false v n (binds_let b s) below has = has
more_line needed v n (prints m) below has = more v by_print n m below has

-- ---- all lines

next_uses : (k : ℕ) (l : Statement) (ls : List Statement) → uses_from k (l ∷ ls) ≡ uses_above k l (uses_from (k + 1) ls)
unfolding uses_from
next_uses k l ls = refl

needed_here : (k : ℕ) (l : Statement) (ls : List Statement) (n : ℕ) → AllBelow k (names_in l) → k ≤ n → uses_of n (uses_from k (l ∷ ls)) ≡ uses_of n (uses_from (k + 1) ls)
needed_here k l ls n all le = rw (next_uses k l ls) (skips_line (is_needed (uses_of k (uses_from (k + 1) ls))) n k l (uses_from (k + 1) ls) all le)

kept_use : (k : ℕ) (l : Statement) (ls : List Statement) (v : Use) (n : ℕ) → HasUse v (uses_of n (uses_from (k + 1) ls)) → HasUse v (uses_of n (uses_from k (l ∷ ls)))
kept_use k l ls v n has = rw (next_uses k l ls) (more_line (is_needed (uses_of k (uses_from (k + 1) ls))) v n l (uses_from (k + 1) ls) has)

let_here : (k : ℕ) (b : Binding) (s : Skeleton) (ls : List Statement) (a : ℕ) → is_needed (uses_of k (uses_from (k + 1) ls)) ≡ true → HasNumber a s.arguments → HasUse (use_by s.head) (uses_of a (uses_from k (binds_let b s ∷ ls)))
let_here k b s ls a needed has = rw (next_uses k (binds_let b s) ls, needed) (used_all s.head a s.arguments (uses_from (k + 1) ls) has)

-- a let line that is needed uses its arguments
pub let_uses : (k : ℕ) (ls : List Statement) (i : ℕ) (b : Binding) (s : Skeleton) (a : ℕ) → UseAbove k ls → slice_get ls i ≡ Some (binds_let b s)
    → is_needed (uses_of (k + i) (uses_from k ls)) ≡ true → HasNumber a s.arguments → HasUse (use_by s.head) (uses_of a (uses_from k ls))
let_uses k [] i b s a above at needed has = absurd (none-some (binds_let b s) at)
let_uses k (l ∷ ls) zero b s a above at needed has =
    let is : l ≡ binds_let b s = same_Some l (binds_let b s) at in
    let here : k + 0 ≡ k = omega arith in
    let up : uses_of k (uses_from k (l ∷ ls)) ≡ uses_of k (uses_from (k + 1) ls) = needed_here k l ls k above.0 (omega arith) in
    let uses : is_needed (uses_of k (uses_from (k + 1) ls)) ≡ true = ap (λ (vs : List Use). is_needed vs) (sym up) ∙ (ap (λ (n : ℕ). is_needed (uses_of n (uses_from k (l ∷ ls)))) (sym here) ∙ needed) in
    subst (λ (m : Statement). HasUse (use_by s.head) (uses_of a (uses_from k (m ∷ ls)))) (sym is) (let_here k b s ls a uses has)
let_uses k (l ∷ ls) (suc i) b s a above at needed has =
    let next : k + suc i ≡ (k + 1) + i = omega arith in
    let up : uses_of (k + suc i) (uses_from k (l ∷ ls)) ≡ uses_of (k + suc i) (uses_from (k + 1) ls) = needed_here k l ls (k + suc i) above.0 (omega arith) in
    let uses : is_needed (uses_of ((k + 1) + i) (uses_from (k + 1) ls)) ≡ true = ap (λ (n : ℕ). is_needed (uses_of n (uses_from (k + 1) ls))) (sym next) ∙ (ap (λ (vs : List Use). is_needed vs) (sym up) ∙ needed) in
    kept_use k l ls (use_by s.head) a (let_uses (k + 1) ls i b s a above.1 at uses has)

-- a print line uses what it prints
pub print_uses : (k : ℕ) (ls : List Statement) (i m : ℕ) → slice_get ls i ≡ Some (prints m) → HasUse by_print (uses_of m (uses_from k ls))
print_uses k [] i m at = absurd (none-some (prints m) at)
print_uses k (l ∷ ls) zero m at =
    let is : l ≡ prints m = same_Some l (prints m) at in
    subst (λ (x : Statement). HasUse by_print (uses_of m (uses_from k (x ∷ ls)))) (sym is) (rw (next_uses k (prints m) ls) (first by_print m m (uses_from (k + 1) ls) refl))
print_uses k (l ∷ ls) (suc i) m at = kept_use k l ls by_print m (print_uses (k + 1) ls i m at)
