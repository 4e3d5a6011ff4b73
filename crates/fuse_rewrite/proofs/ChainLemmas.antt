-- Chains, found from the line that takes them up.
use Rattle.std.proofs.Common.{◌≡◌, ℕ, zero, suc, ◌+◌, ◌-◌, ◌<◌, ◌≤◌, List, [], ◌∷◌, ◌++◌, Some, None, refl, sym, ap, ◌∙◌, arith, append_assoc}
use Rattle.std.specs.Prelude.{reverse}
use Rattle.std.proofs.lemmas.List.{reverse-append, append-nil}
use Rattle.script_lang.specs.Syntax.{Statement}
use Rattle.fuse_rewrite.specs.Uses.{Uses}
use Rattle.fuse_rewrite.specs.Steps.{fused_at, chain_to}

stops : (room : ℕ) (ls : List Statement) (us : Uses) (n : ℕ) → fused_at ls us n ≡ None → chain_to room ls us n ≡ []
unfolding chain_to
stops zero ls us n e = refl
stops (suc room) ls us n e = rw (e, chain_to) refl

goes : (room : ℕ) (ls : List Statement) (us : Uses) (n m : ℕ) → fused_at ls us n ≡ Some m → chain_to (suc room) ls us n ≡ chain_to room ls us m ++ n ∷ []
unfolding chain_to
goes room ls us n m e = rw (e, chain_to) refl

no_room : (ls : List Statement) (us : Uses) (n : ℕ) → chain_to zero ls us n ≡ []
unfolding chain_to
no_room ls us n = refl

-- at the start
pub chain_start : (room : ℕ) (ls : List Statement) (us : Uses) (n : ℕ) → chain_to room ls us n ≡ chain_to (room - 0) ls us n ++ reverse []
chain_start room ls us n =
    let e : room - 0 ≡ room = omega arith in
    rw e (sym (append-nil (chain_to room ls us n)))

-- one line more
pub chain_turn : (room i : ℕ) (ls : List Statement) (us : Uses) (first next m : ℕ) (chain : List ℕ) → i < room
    → chain_to room ls us first ≡ chain_to (room - i) ls us next ++ reverse chain → fused_at ls us next ≡ Some m
    → chain_to room ls us first ≡ chain_to (room - (i + 1)) ls us m ++ reverse (chain ++ next ∷ [])
chain_turn room i ls us first next m chain lt so fused =
    let left : room - i ≡ suc (room - (i + 1)) = omega arith in
    let up : chain_to (room - i) ls us next ≡ chain_to (room - (i + 1)) ls us m ++ next ∷ [] = ap (λ (k : ℕ). chain_to k ls us next) left ∙ goes (room - (i + 1)) ls us next m fused in
    so ∙ (ap (λ (xs : List ℕ). xs ++ reverse chain) up ∙ (append_assoc (chain_to (room - (i + 1)) ls us m) (next ∷ []) (reverse chain)
    ∙ ap (λ (xs : List ℕ). chain_to (room - (i + 1)) ls us m ++ xs) (sym (reverse-append chain (next ∷ [])))))

-- the line isn't fused
pub chain_none : (room i : ℕ) (ls : List Statement) (us : Uses) (first next : ℕ) (chain : List ℕ)
    → chain_to room ls us first ≡ chain_to (room - i) ls us next ++ reverse chain → fused_at ls us next ≡ None → reverse chain ≡ chain_to room ls us first
chain_none room i ls us first next chain so fused = sym (so ∙ ap (λ (xs : List ℕ). xs ++ reverse chain) (stops (room - i) ls us next fused))

-- no room is left
pub chain_done : (room i : ℕ) (ls : List Statement) (us : Uses) (first next : ℕ) (chain : List ℕ) → room ≤ i
    → chain_to room ls us first ≡ chain_to (room - i) ls us next ++ reverse chain → reverse chain ≡ chain_to room ls us first
chain_done room i ls us first next chain le so =
    let none : room - i ≡ 0 = omega arith in
    sym (so ∙ ap (λ (xs : List ℕ). xs ++ reverse chain) (ap (λ (k : ℕ). chain_to k ls us next) none ∙ no_room ls us next))
