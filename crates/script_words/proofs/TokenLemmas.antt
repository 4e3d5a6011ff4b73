-- How the words of a line go on after a blank, a parenthesis and a longer word.
use Rattle.std.proofs.Common.{◌≡◌, ℕ, suc, ◌+◌, List, [], ◌∷◌, ◌++◌, length, take, drop, Bool, true, false, ap, refl, sym, ◌∙◌, subst, inl, inr, ◌⊎◌, cond, ltb, Some, None, ◌-◌, ◌<◌, ◌≤◌, get_or, add-one, drop-cons, append_assoc, arith}
use Rattle.std.proofs.lemmas.Grind.{common_steps}
use Rattle.std.proofs.lemmas.List.{append-nil}
use Rattle.std.proofs.Math.ListN.{drop_of_length-le}
use Rattle.std.specs.Prelude.{not, ◌&&◌, ◌||◌, position, unwrap_or}
use Rattle.std.specs.List.{position_or_len}
use Rattle.std.proofs.lemmas.List.Sums.{prefix_len-le-length}
use Rattle.std.proofs.lemmas.Bool.Decides.{nat_tests}
use Rattle.script_words.specs.Runs.{rest_of_word}
use Rattle.script_words.specs.Lines.{Token, tokens_from, with_byte, goes_on, ends_word, is_line_blank, is_parenthesis}

abbrev pub run : List ℕ → ℕ
run bs = position_or_len ends_word bs

pub blank : (c b : ℕ) (bs : List ℕ) → is_line_blank b ≡ true → tokens_from c (b ∷ bs) ≡ tokens_from (c + 1) bs
unfolding tokens_from
blank c b bs p = rw p refl

solid : (c b : ℕ) (bs : List ℕ) → is_line_blank b ≡ false → tokens_from c (b ∷ bs) ≡ with_byte c b (not (is_parenthesis b) && goes_on bs) (tokens_from (c + 1) bs)
unfolding tokens_from
solid c b bs p = rw p refl

pub parenthesis : (c b : ℕ) (bs : List ℕ) → is_line_blank b ≡ false → is_parenthesis b ≡ true → tokens_from c (b ∷ bs) ≡ record { column = c; text = b ∷ [] } ∷ tokens_from (c + 1) bs
parenthesis c b bs p q =
    let j : (not (is_parenthesis b) && goes_on bs) ≡ false = rw q refl in
    solid c b bs p ∙ ap (λ (j : Bool). with_byte c b j (tokens_from (c + 1) bs)) j

neither : (x y : Bool) → (x || y) ≡ false → (x ≡ false) × (y ≡ false)
neither true y e = cc
neither false y e = (refl, e)

alone : (c b : ℕ) → is_line_blank b ≡ false → is_parenthesis b ≡ false → tokens_from c (b ∷ []) ≡ record { column = c; text = b ∷ [] } ∷ tokens_from (c + 1) []
alone c b p q =
    let j : (not (is_parenthesis b) && goes_on []) ≡ false = rw q refl in
    solid c b [] p ∙ ap (λ (j : Bool). with_byte c b j (tokens_from (c + 1) [])) j

-- the word at the front of these bytes has n bytes after its first
abbrev pub HasRest : ℕ → ℕ → List ℕ → ℕ → Type 0
HasRest c b bs n = tokens_from c (b ∷ bs) ≡ record { column = c; text = b ∷ take n bs } ∷ tokens_from (c + suc n) (drop n bs)

stops : (c b d : ℕ) (bs : List ℕ) → is_line_blank b ≡ false → ends_word d ≡ true → HasRest c b (d ∷ bs) 0
stops c b d bs p e =
    let j : (not (is_parenthesis b) && goes_on (d ∷ bs)) ≡ false = rw e (and_false (not (is_parenthesis b))) in
    solid c b (d ∷ bs) p ∙ ap (λ (j : Bool). with_byte c b j (tokens_from (c + 1) (d ∷ bs))) j where
      and_false : (x : Bool) → (x && false) ≡ false
      and_false true = refl
      and_false false = refl

goes : (c b d : ℕ) (bs : List ℕ) (n : ℕ) → is_line_blank b ≡ false → is_parenthesis b ≡ false → ends_word d ≡ false → HasRest (c + 1) d bs n → HasRest c b (d ∷ bs) (suc n)
goes c b d bs n p q e after =
    let j : (not (is_parenthesis b) && goes_on (d ∷ bs)) ≡ true = rw (q, e) refl in
    let k : (c + 1) + suc n ≡ c + suc (suc n) = omega arith in
    solid c b (d ∷ bs) p ∙ ap (λ (j : Bool). with_byte c b j (tokens_from (c + 1) (d ∷ bs))) j
    ∙ ap (λ (ts : List Token). with_byte c b true ts) after
    ∙ ap (λ (m : ℕ). record { column = c; text = b ∷ d ∷ take n bs } ∷ tokens_from m (drop n bs)) k

run_stops : (d : ℕ) (bs : List ℕ) → ends_word d ≡ true → run (d ∷ bs) ≡ 0
run_stops d bs e = rw e refl

run_goes : (d : ℕ) (bs : List ℕ) → ends_word d ≡ false → run (d ∷ bs) ≡ suc (run bs)
run_goes d bs e = rw e (omega arith)

tested : (b : Bool) → (b ≡ true) ⊎ (b ≡ false)
tested true = inl refl
tested false = inr refl

-- a word is the longest run
pub longest : (bs : List ℕ) (c b : ℕ) → is_line_blank b ≡ false → is_parenthesis b ≡ false → HasRest c b bs (run bs)
longest [] c b p q = alone c b p q
longest (d ∷ bs) c b p q =
    let P : ℕ → Type 0 = λ n. HasRest c b (d ∷ bs) n in
    elim (tested (ends_word d)) [
      | inl e ↦ subst P (sym (run_stops d bs e)) (stops c b d bs p e)
      | inr e ↦ subst P (sym (run_goes d bs e)) (goes c b d bs (run bs) p q e (longest bs (c + 1) d (neither _ _ e).0 (neither _ _ e).1))
    ]

-- the word that begins with the first of these bytes, which is no blank
pub word_is : (c b : ℕ) (bs : List ℕ) → is_line_blank b ≡ false → HasRest c b bs (rest_of_word b bs)
word_is c b bs p =
    let P : ℕ → Type 0 = λ n. HasRest c b bs n in
    elim (tested (is_parenthesis b)) [
      | inl e ↦ let z : rest_of_word b bs ≡ 0 = rw e refl in subst P (sym z) (parenthesis c b bs p e)
      | inr e ↦ let z : rest_of_word b bs ≡ run bs = rw e refl in subst P (sym z) (longest bs c b p e)
    ]

at_first : (line : List ℕ) (at : ℕ) → at < length line → drop at line ≡ get_or line at 0 ∷ drop (at + 1) line
at_first line at lt = rw (add-one, drop-cons line at 0) refl

-- the loop over a line: at its end, after a blank and after a word
pub is_done : (line : List ℕ) (at : ℕ) (ts all : List Token) → length line ≤ at → ts ++ tokens_from (at + 1) (drop at line) ≡ all → ts ≡ all
unfolding tokens_from
is_done line at ts all le h =
    let e : drop at line ≡ [] = drop_of_length-le line le in
    let nil : tokens_from (at + 1) (drop at line) ≡ [] = ap (λ (l : List ℕ). tokens_from (at + 1) l) e in
    sym (append-nil ts) ∙ (ap (λ (us : List Token). ts ++ us) (sym nil) ∙ h)

pub skips : (line : List ℕ) (at : ℕ) (ts all : List Token) → at < length line → is_line_blank (get_or line at 0) ≡ true → ts ++ tokens_from (at + 1) (drop at line) ≡ all
    → ts ++ tokens_from (at + 1 + 1) (drop (at + 1) line) ≡ all
skips line at ts all lt p h =
    let e : tokens_from (at + 1) (drop at line) ≡ tokens_from (at + 1 + 1) (drop (at + 1) line) = ap (λ (l : List ℕ). tokens_from (at + 1) l) (at_first line at lt) ∙ blank (at + 1) (get_or line at 0) (drop (at + 1) line) p in
    ap (λ (us : List Token). ts ++ us) (sym e) ∙ h

pub takes : (line : List ℕ) (at n : ℕ) (ts all : List Token) → at < length line → HasRest (at + 1) (get_or line at 0) (drop (at + 1) line) n → ts ++ tokens_from (at + 1) (drop at line) ≡ all
    → (ts ++ record { column = at + 1; text = take (at + 1 + n - at) (drop at line) } ∷ []) ++ tokens_from (at + 1 + n + 1) (drop (at + 1 + n) line) ≡ all
takes line at n ts all lt one h =
    let k : at + 1 + n - at ≡ suc n = omega arith in
    let text : take (at + 1 + n - at) (drop at line) ≡ get_or line at 0 ∷ take n (drop (at + 1) line) = rw (k, at_first line at lt) refl in
    let rest : drop n (drop (at + 1) line) ≡ drop (at + 1 + n) line = grind (arith, common_steps) in
    let col : (at + 1) + suc n ≡ at + 1 + n + 1 = omega arith in
    let e : tokens_from (at + 1) (drop at line) ≡ record { column = at + 1; text = take (at + 1 + n - at) (drop at line) } ∷ tokens_from (at + 1 + n + 1) (drop (at + 1 + n) line)
    = ap (λ (l : List ℕ). tokens_from (at + 1) l) (at_first line at lt) ∙ (one ∙ rw (text, rest, col) refl) in
    append_assoc ts _ _ ∙ (ap (λ (us : List Token). ts ++ us) (sym e) ∙ h)

no_end : (n m : ℕ) → n ≤ m → unwrap_or (cond (ltb n m) (Some n) None) m ≡ n
no_end n m le = grind (arith, nat_tests)

-- how many bytes stand before the first that ends a word
pub run_is : (bs : List ℕ) → unwrap_or (position ends_word bs) (length bs) ≡ run bs
run_is bs = no_end (run bs) (length bs) (prefix_len-le-length _ bs)
