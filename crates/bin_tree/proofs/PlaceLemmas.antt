-- Open places, one node after another, and which answers they leave.
use Rattle.std.proofs.Common.{◌≡◌, ℕ, zero, suc, ◌+◌, ◌<◌, ◌↔◌, List, [], ◌∷◌, length, get_or, take, Result, Ok, Err, MatchResult, IsErrAnd, refl, ◌∙◌, ap, arith}
use Rattle.bin_tree.specs.Places.{open_after, IsClosedAt, IsShort, IsWhole}
use Rattle.bin_tree.specs.Faults.{IsCause}
use Rattle.bin_tree.specs.declared.fault.TreeFault.{TreeFault}
use Rattle.bin_tree.specs.declared.fault.TreeFault.TheVariants.{Short, Closed, Memory}

pub open_after-none : (k : ℕ) → open_after k [] ≡ k
open_after-none zero = refl
open_after-none (suc k) = refl

-- a node takes a place and opens one for each of its children
open_after-more : (k : ℕ) (cs : List ℕ) (i d : ℕ) → i < length cs → 0 < open_after k (take i cs)
    → open_after k (take (i + 1) cs) + 1 ≡ open_after k (take i cs) + get_or cs i d
open_after-more zero cs i d h p = absurd (omega arith)
open_after-more (suc k) [] i d h p = absurd (omega arith)
open_after-more (suc k) (c ∷ cs) zero d h p = let e = open_after-none (k + c) in omega arith
open_after-more (suc k) (c ∷ cs) (suc i) d h p =
    ap (λ n. open_after (suc k) (take n (c ∷ cs)) + 1) (let e : suc i + 1 ≡ suc (i + 1) = omega arith in e) ∙ open_after-more (k + c) cs i d (omega arith) p

-- the same of a count that goes along
pub open_after-next : (cs : List ℕ) (i d before after : ℕ) → i < length cs → before ≡ open_after 1 (take i cs) → 0 < before
    → after + 1 ≡ before + get_or cs i d → after ≡ open_after 1 (take (i + 1) cs)
open_after-next cs i d before after h e p g =
    let q : 0 < open_after 1 (take i cs) = omega arith in
    let more = open_after-more 1 cs i d h q in omega arith

-- once no place is open, none is opened
stays_closed : (k : ℕ) (cs : List ℕ) (i : ℕ) → open_after k (take i cs) ≡ 0 → open_after k cs ≡ 0
stays_closed zero cs i e = refl
stays_closed (suc k) [] zero e = e
stays_closed (suc k) [] (suc i) e = e
stays_closed (suc k) (c ∷ cs) zero e = absurd (omega arith)
stays_closed (suc k) (c ∷ cs) (suc i) e = stays_closed (k + c) cs i e

module _ (cs : List ℕ) where
  pub whole-closed : (i : ℕ) → IsWhole cs → IsClosedAt cs i → ⊥
  whole-closed i w c = let p = w.first i c.within in let e = c.closed in omega arith

  pub whole-short : IsWhole cs → IsShort cs → ⊥
  whole-short w s = let e = w.closed in omega arith

  short-closed : (i : ℕ) → IsShort cs → IsClosedAt cs i → ⊥
  short-closed i s c = let e = stays_closed 1 cs i c.closed in omega arith

  not_before : (i j : ℕ) → IsClosedAt cs i → IsClosedAt cs j → i < j → ⊥
  not_before i j c d h = let p = d.first i h in let e = c.closed in omega arith

  one_place : (i j : ℕ) → IsClosedAt cs i → IsClosedAt cs j → i ≡ j
  one_place i j c d = let h = not_before i j c d in let k = not_before j i d c in omega arith

  module _ {X : Type 0} where
    -- an answer that passes a fault on has its cause
    pub passed_on : (r : Result X TreeFault) (fault : TreeFault) → IsErrAnd r (λ e. e ≡ fault) → IsCause cs fault → MatchResult r (λ _. IsWhole cs) (IsCause cs)
    passed_on (Ok x) fault e h = absurd e
    passed_on (Err f) fault e h = rw e h

    -- where each answer has its cause, a tree that is closed too early is answered as such
    pub closed_exactly : (r : Result X TreeFault) (i : ℕ) → MatchResult r (λ _. IsWhole cs) (IsCause cs) → (r ≡ Err (Closed i)) ↔ IsClosedAt cs i
    closed_exactly (Ok x) i w = (λ e. absurd (cc), λ c. absurd (whole-closed i w c))
    closed_exactly (Err Short) i s = (λ e. absurd (cc), λ c. absurd (short-closed i s c))
    closed_exactly (Err Memory) i w = (λ e. absurd (cc), λ c. absurd (whole-closed i w c))
    closed_exactly (Err (Closed j)) i d =
        (λ e. let same : j ≡ i = cc in rw (← same) d, λ c. ap (λ k. Err (Closed k)) (one_place j i d c))

    -- and so is a tree that is short
    pub short_exactly : (r : Result X TreeFault) → MatchResult r (λ _. IsWhole cs) (IsCause cs) → (r ≡ Err Short) ↔ IsShort cs
    short_exactly (Ok x) w = (λ e. absurd (cc), λ s. absurd (whole-short w s))
    short_exactly (Err Short) s = (λ e. s, λ t. refl)
    short_exactly (Err Memory) w = (λ e. absurd (cc), λ s. absurd (whole-short w s))
    short_exactly (Err (Closed j)) c = (λ e. absurd (cc), λ s. absurd (short-closed j s c))
