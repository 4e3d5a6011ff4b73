-- A step's skeletons, given one after another from the step's own on.
use Rattle.std.proofs.Common.{◌≡◌, ℕ, ◌+◌, ◌<◌, ◌≤◌, List, [], ◌∷◌, ◌++◌, length, take, get_or, Option, refl, sym, ap, ◌∙◌, subst, arith, append_assoc}
use Rattle.std.specs.Prelude.{reverse, Result, Ok, Err, OnOk, OnErr}
use Rattle.std.proofs.lemmas.List.{take_more, take_all, reverse-append}
use Rattle.plain_text.specs.Pending.{Pending, IsOpen}
use Rattle.plain_text.specs.Given.{IsGiven, IsCutOff}
use Rattle.plain_text.proofs.GivenLemmas.{given_none, given_then, given_cut, cut_before}
use Rattle.script_lang.specs.Syntax.{Statement}
use Rattle.fuse_rewrite.specs.PlanText.{open_text, end_text, skeleton_at, text_of, pipe_text}

-- a front of the text is given, and this rest is left
pub record IsPipedTo (total rest : List ℕ) (before after : Pending) (written written' : Option (List ℕ)) (faults faults' : ℕ) : Type 0 where
  pub front : List ℕ
  pub hands : IsGiven front before after written written'
  pub whole : front ++ rest ≡ total
  pub no_less : faults ≤ faults'

pub piped_none : (total rest : List ℕ) (a : Pending) (w : Option (List ℕ)) (f : ℕ) → IsOpen a → rest ≡ total → IsPipedTo total rest a a w w f f
piped_none total rest a w f o e = record { front = []; hands = given_none a w o; whole = e; no_less = omega arith }

no_less_later : (f g h : ℕ) → f ≤ g → g ≤ h → f ≤ h
no_less_later f g h p q = omega arith

-- one skeleton more
pub piped_more : (total rest x left : List ℕ) (a b c : Pending) (w v u : Option (List ℕ)) (f g h : ℕ) → rest ≡ x ++ left → g ≤ h
    → IsPipedTo total rest a b w v f g → IsGiven x b c v u → IsPipedTo total left a c w u f h
piped_more total rest x left a b c w v u f g h e le p q = record {
  front = p.front ++ x;
  hands = given_then p.front x a b c w v u p.hands q;
  whole = append_assoc p.front x left ∙ (ap (λ (l : List ℕ). p.front ++ l) (sym e) ∙ p.whole);
  no_less = no_less_later f g h p.no_less le;
}

-- a skeleton that is cut off
pub piped_cut : (total rest x left : List ℕ) (a b c : Pending) (w v u : Option (List ℕ)) (f g h : ℕ) → rest ≡ x ++ left
    → IsPipedTo total rest a b w v f g → IsCutOff x b c v u g h → IsCutOff total a c w u f h
piped_cut total rest x left a b c w v u f g h e p q =
    let whole : (p.front ++ x) ++ left ≡ total = append_assoc p.front x left ∙ (ap (λ (l : List ℕ). p.front ++ l) (sym e) ∙ p.whole) in
    subst (λ (l : List ℕ). IsCutOff l a c w u f h) whole (cut_before (p.front ++ x) left a c w u f h (given_cut p.front x a b c w v u f g h p.hands p.no_less q))

-- the last skeleton
pub piped_all : {T E : Type 0} (r : Result T E) (total rest x : List ℕ) (a b c : Pending) (w v u : Option (List ℕ)) (f g : ℕ) → rest ≡ x
    → IsPipedTo total rest a b w v f g → OnOk r (IsGiven x b c v u) → OnOk r (IsGiven total a c w u)
piped_all (Ok _) total rest x a b c w v u f g e p q =
    let whole : p.front ++ x ≡ total = ap (λ (l : List ℕ). p.front ++ l) (sym e) ∙ p.whole in
    subst (λ (l : List ℕ). IsGiven l a c w u) whole (given_then p.front x a b c w v u p.hands q)
piped_all (Err _) total rest x a b c w v u f g e p q = tt

pub piped_all_cut : {T E : Type 0} (r : Result T E) (total rest x : List ℕ) (a b c : Pending) (w v u : Option (List ℕ)) (f g h : ℕ) → rest ≡ x
    → IsPipedTo total rest a b w v f g → OnErr r (IsCutOff x b c v u g h) → OnErr r (IsCutOff total a c w u f h)
piped_all_cut (Ok _) total rest x a b c w v u f g h e p q = tt
piped_all_cut (Err _) total rest x a b c w v u f g h e p q =
    let whole : p.front ++ x ≡ total = ap (λ (l : List ℕ). p.front ++ l) (sym e) ∙ p.whole in
    subst (λ (l : List ℕ). IsCutOff l a c w u f h) whole (given_cut p.front x a b c w v u f g h p.hands p.no_less q)

-- the chain from its end
pub pipe_whole : (ls : List Statement) (n i : ℕ) (chain : List ℕ) → length chain ≤ i → pipe_text ls n (reverse (take i chain)) ≡ pipe_text ls n (reverse chain)
pipe_whole ls n i chain le = ap (λ (ms : List ℕ). pipe_text ls n (reverse ms)) (take_all i chain le)

last_first : (chain : List ℕ) (i : ℕ) → i < length chain → reverse (take (i + 1) chain) ≡ get_or chain i 0 ∷ reverse (take i chain)
last_first chain i lt = ap (λ (ms : List ℕ). reverse ms) (take_more chain i 0 lt) ∙ reverse-append (take i chain) (get_or chain i 0 ∷ [])

pub pipe_next : (ls : List Statement) (n k i : ℕ) (chain : List ℕ) → k ≡ i + 1 → i < length chain
    → pipe_text ls n (reverse (take k chain)) ≡ text_of open_text (skeleton_at ls n) ++ pipe_text ls (get_or chain i 0) (reverse (take i chain))
unfolding pipe_text
pipe_next ls n k i chain up lt = rw (up, last_first chain i lt) refl

pub pipe_last : (ls : List Statement) (n k : ℕ) (chain : List ℕ) → k ≡ 0 → pipe_text ls n (reverse (take k chain)) ≡ text_of (end_text ls) (skeleton_at ls n)
unfolding pipe_text
pipe_last ls n k chain e = rw e refl
