use Rattle.std.proofs.Common.{[], ◌∷◌, ◌++◌}
use Rattle.std.specs.Fmt.{signed_decimal}
use Rattle.std.proofs.lemmas.List.{append-nil}
use Rattle.std.proofs.lemmas.Result.{err_from_is_err_and}
use Rattle.plain_text.proofs.GivenLemmas.{cut_before, cut_after, given_after}
use Rattle.fuse_rewrite.proofs.skeleton_text.write_only_number.Goals as goal

pub returns-in_err-text-clause-cut_off : goal.returns-in_err-text-clause-cut_off
returns-in_err-text-clause-cut_off g c =
    let p = err_from_is_err_and c.from_residual.result c.from_residual.ensures.1 in
    rw p.1 (cut_before (32 ∷ []) (signed_decimal c.args.n.now ++ []) _ _ _ _ _ _ c.in_err-text.ensures.cut_off)

pub returns-clause-given : goal.returns-clause-given
returns-clause-given g c =
    given_after c.write_literal.result (32 ∷ []) (signed_decimal c.args.n.now ++ []) _ _ _ _ _ _ c.in_ok-text.ensures.given (rw (append-nil (signed_decimal c.args.n.now)) c.write_literal.ensures.given)

pub returns-clause-cut_off : goal.returns-clause-cut_off
returns-clause-cut_off g c =
    cut_after c.write_literal.result (32 ∷ []) (signed_decimal c.args.n.now ++ []) _ _ _ _ _ _ _ _ _ c.in_ok-text.ensures.given c.text.ensures.never_falls (rw (append-nil (signed_decimal c.args.n.now)) c.write_literal.ensures.cut_off)
