-- How the lines of a script go on after a line with words and after one without.
use Rattle.std.proofs.Common.{◌≡◌, ◌⊎◌, inl, inr, Bool, ℕ, suc, ◌+◌, ◌<◌, ◌≤◌, List, [], ◌∷◌, ◌++◌, length, drop, true, false, ap, refl, sym, ◌∙◌, get_or, add-one, drop-cons, append_assoc, arith}
use Rattle.std.specs.Prelude.{◌==◌}
use Rattle.std.proofs.lemmas.List.{append-nil}
use Rattle.std.proofs.Math.ListN.{drop_of_length-le}
use Rattle.std.proofs.lemmas.List.Sums.{count_by-le-length}
use Rattle.std.proofs.lemmas.List.Splits.{length-slice_split}
use Rattle.script_words.specs.Lines.{Source, has_words, lines_of, sources_from, sources_of, tokens_from}

with_words : (n : ℕ) (line : List ℕ) (lines : List (List ℕ)) → has_words line ≡ true → sources_from n (line ∷ lines) ≡ record { number = n; tokens = tokens_from 1 line } ∷ sources_from (n + 1) lines
with_words n line lines p = rw p refl

without_words : (n : ℕ) (line : List ℕ) (lines : List (List ℕ)) → has_words line ≡ false → sources_from n (line ∷ lines) ≡ sources_from (n + 1) lines
without_words n line lines p = rw p refl

-- the next line and those after it
at_line : (lines : List (List ℕ)) (at : ℕ) (line : List ℕ) → at < length lines → line ≡ get_or lines at line → drop at lines ≡ line ∷ drop (at + 1) lines
at_line lines at line lt is = rw (add-one, drop-cons lines at line) (ap (λ (l : List ℕ). l ∷ drop (suc at) lines) (sym is))

-- the loop over the lines: after one with words, after one without, and at the end
pub takes : (lines : List (List ℕ)) (at : ℕ) (line : List ℕ) (front all : List Source) → at < length lines → line ≡ get_or lines at line → has_words line ≡ true
    → front ++ sources_from (at + 1) (drop at lines) ≡ all
    → (front ++ record { number = at + 1; tokens = tokens_from 1 line } ∷ []) ++ sources_from (at + 1 + 1) (drop (at + 1) lines) ≡ all
takes lines at line front all lt is p h =
    let e : sources_from (at + 1) (drop at lines) ≡ record { number = at + 1; tokens = tokens_from 1 line } ∷ sources_from (at + 1 + 1) (drop (at + 1) lines)
    = ap (λ (ls : List (List ℕ)). sources_from (at + 1) ls) (at_line lines at line lt is) ∙ with_words (at + 1) line (drop (at + 1) lines) p in
    append_assoc front _ _ ∙ (ap (λ (rest : List Source). front ++ rest) (sym e) ∙ h)

pub skips : (lines : List (List ℕ)) (at : ℕ) (line : List ℕ) (front all : List Source) → at < length lines → line ≡ get_or lines at line → has_words line ≡ false
    → front ++ sources_from (at + 1) (drop at lines) ≡ all
    → front ++ sources_from (at + 1 + 1) (drop (at + 1) lines) ≡ all
skips lines at line front all lt is p h =
    let e : sources_from (at + 1) (drop at lines) ≡ sources_from (at + 1 + 1) (drop (at + 1) lines)
    = ap (λ (ls : List (List ℕ)). sources_from (at + 1) ls) (at_line lines at line lt is) ∙ without_words (at + 1) line (drop (at + 1) lines) p in
    ap (λ (rest : List Source). front ++ rest) (sym e) ∙ h

pub is_done : (lines : List (List ℕ)) (at : ℕ) (front all : List Source) → at ≡ length lines → front ++ sources_from (at + 1) (drop at lines) ≡ all → front ≡ all
is_done lines at front all end h =
    let e : drop at lines ≡ [] = drop_of_length-le lines (omega arith) in
    let nil : sources_from (at + 1) (drop at lines) ≡ [] = ap (λ (ls : List (List ℕ)). sources_from (at + 1) ls) e in
    sym (append-nil front) ∙ (ap (λ (rest : List Source). front ++ rest) (sym nil) ∙ h)

tested : (b : Bool) → (b ≡ true) ⊎ (b ≡ false)
tested true = inl refl
tested false = inr refl

few_from : (n : ℕ) (lines : List (List ℕ)) → length (sources_from n lines) ≤ length lines
few_from n [] = omega arith
few_from n (line ∷ lines) = elim (tested (has_words line)) [
  | inl p ↦ rw (with_words n line lines p) (omega (arith, few_from (n + 1) lines))
  | inr p ↦ rw (without_words n line lines p) (omega (arith, few_from (n + 1) lines))
]

-- there are no more lines than bytes, but for the last
pub few_sources : (bytes : List ℕ) → length (sources_of bytes) ≤ length bytes + 1
few_sources bytes = omega (arith, few_from 1 (lines_of bytes), length-slice_split (λ b. b == 10) bytes, count_by-le-length (λ b. b == 10) bytes)
