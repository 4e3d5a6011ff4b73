use Rattle.std.proofs.Common.{◌≡◌, ◌≤◌, ◌++◌, ◌-◌, ℕ, List, take, drop, length, ap, ◌∙◌, append_assoc, arith, length-drop}
use Rattle.std.specs.Prelude.{min}
use Rattle.std.proofs.lemmas.Result.{err_from_is_err_and}
use Rattle.std.proofs.Math.Seq.{take-add, take-length}
use Rattle.std.proofs.lemmas.List.{take-append-drop}
use Rattle.plain_text.proofs.GivenLemmas.{given_then, given_cut, cut_before}
use Rattle.plain_text.proofs.outlet.Outlet.text.Goals as goal

-- the bytes to a place, some more, and the others
in_three : (bytes : List ℕ) (at n : ℕ) → (take at bytes ++ take n (drop at bytes)) ++ drop n (drop at bytes) ≡ bytes
in_three bytes at n = append_assoc (take at bytes) (take n (drop at bytes)) (drop n (drop at bytes))
    ∙ (ap (λ (l : List ℕ). take at bytes ++ l) (take-append-drop n (drop at bytes)) ∙ take-append-drop at bytes)

-- a slice from a place to the end
to_end : (bytes : List ℕ) (at : ℕ) → take (length bytes - at) (drop at bytes) ≡ drop at bytes
to_end bytes at = rw (← length-drop at bytes) (take-length (drop at bytes))

pub returns-in_err-at-clause-cut_off : goal.returns-in_err-at-clause-cut_off
returns-in_err-at-clause-cut_off g c =
    let p = err_from_is_err_and c.from_residual.result c.from_residual.ensures.1 in
    let at = c.loop-at.at in
    let rest = drop at c.args.bytes.now in
    let n = min (length rest) (4096 - length c.loop-at.self.held) in
    let both = given_cut (take at c.args.bytes.now) (take n rest) _ _ _ _ _ _ _ _ _ c.loop-at.invariant.given c.loop-at.invariant.no_less (rw (to_end c.args.bytes.now at) at c.in_err-at.ensures.cut_off) in
    rw (p.1, ← in_three c.args.bytes.now at n) (cut_before _ (drop n rest) _ _ _ _ _ _ both)

pub loop-at-preserved : goal.loop-at-preserved
loop-at-preserved g c =
    let at = c.loop-at.at in
    let n = c.in_ok-at.field-0 in
    let more = given_then (take at c.args.bytes.now) (take n (drop at c.args.bytes.now)) _ _ _ _ _ _ c.loop-at.invariant.given (rw (to_end c.args.bytes.now at) at c.in_ok-at.ensures.given) in
    let inside : n ≤ length (drop at c.args.bytes.now) = rw (to_end c.args.bytes.now at) at c.in_ok-at.ensures.within in
    record { within = omega (arith, length-drop at c.args.bytes.now); given = rw (take-add at n c.args.bytes.now) more; no_less = omega arith }
