use Rattle.std.proofs.Common.{◌≡◌, ◌+◌, ◌-◌, ◌<◌, length, map, take, get_or, arith}
use Rattle.std.specs.Prelude.{reverse}
use Rattle.std.proofs.lemmas.Result.{err_from_is_err_and}
use Rattle.script_lang.specs.Views.{statement_of}
use Rattle.fuse_rewrite.specs.PlanText.{open_text, end_text, skeleton_at, text_of, pipe_text}
use Rattle.fuse_rewrite.proofs.PipeLemmas.{piped_none, piped_more, piped_cut, piped_all, piped_all_cut, pipe_whole, pipe_next, pipe_last}
use Rattle.fuse_rewrite.proofs.plan_text.write_pipe.Goals as goal

pub loop-left-init : goal.loop-left-init
loop-left-init g c =
    let ls = map statement_of c.args.lines.now in
    let chain = c.args.chain.now in
    record {
      within = omega arith;
      piped = piped_none (pipe_text ls c.args.n (reverse chain)) (pipe_text ls c.args.n (reverse (take (length chain) chain))) c.args.out.now _ _ c.requires.open
          (pipe_whole ls c.args.n (length chain) chain (omega arith));
    }

pub loop-left-preserved : goal.loop-left-preserved
loop-left-preserved g c =
    let ls = map statement_of c.args.lines.now in
    let chain = c.args.chain.now in
    let i = c.loop-left.left - 1 in
    let up : c.loop-left.left ≡ i + 1 = omega arith in
    let lt : i < length chain = omega arith in
    record {
      within = omega arith;
      piped = piped_more (pipe_text ls c.args.n (reverse chain)) (pipe_text ls c.loop-left.next (reverse (take c.loop-left.left chain))) (text_of open_text (skeleton_at ls c.loop-left.next))
          (pipe_text ls (get_or chain i 0) (reverse (take i chain))) _ _ _ _ _ _ _ _ _ (pipe_next ls c.loop-left.next c.loop-left.left i chain up lt) c.write_open_at.ensures.never_falls
          c.loop-left.invariant.piped c.in_ok-write_open_at.ensures.given;
    }

pub returns-in_err-write_open_at-clause-cut_off : goal.returns-in_err-write_open_at-clause-cut_off
returns-in_err-write_open_at-clause-cut_off g c =
    let p = err_from_is_err_and c.from_residual.result c.from_residual.ensures.1 in
    let ls = map statement_of c.args.lines.now in
    let chain = c.args.chain.now in
    let i = c.loop-left.left - 1 in
    let up : c.loop-left.left ≡ i + 1 = omega arith in
    let lt : i < length chain = omega arith in
    rw p.1 (piped_cut (pipe_text ls c.args.n (reverse chain)) (pipe_text ls c.loop-left.next (reverse (take c.loop-left.left chain))) (text_of open_text (skeleton_at ls c.loop-left.next))
    (pipe_text ls (get_or chain i 0) (reverse (take i chain))) _ _ _ _ _ _ _ _ _ (pipe_next ls c.loop-left.next c.loop-left.left i chain up lt) c.loop-left.invariant.piped
    c.in_err-write_open_at.ensures.cut_off)

pub returns-clause-given : goal.returns-clause-given
returns-clause-given g c =
    let ls = map statement_of c.args.lines.now in
    let chain = c.args.chain.now in
    let none : c.loop-left.left ≡ 0 = omega arith in
    piped_all c.write_end_at.result (pipe_text ls c.args.n (reverse chain)) (pipe_text ls c.loop-left.next (reverse (take c.loop-left.left chain)))
    (text_of (end_text ls) (skeleton_at ls c.loop-left.next)) _ _ _ _ _ _ _ _ (pipe_last ls c.loop-left.next c.loop-left.left chain none) c.loop-left.invariant.piped c.write_end_at.ensures.given

pub returns-clause-cut_off : goal.returns-clause-cut_off
returns-clause-cut_off g c =
    let ls = map statement_of c.args.lines.now in
    let chain = c.args.chain.now in
    let none : c.loop-left.left ≡ 0 = omega arith in
    piped_all_cut c.write_end_at.result (pipe_text ls c.args.n (reverse chain)) (pipe_text ls c.loop-left.next (reverse (take c.loop-left.left chain)))
    (text_of (end_text ls) (skeleton_at ls c.loop-left.next)) _ _ _ _ _ _ _ _ _ (pipe_last ls c.loop-left.next c.loop-left.left chain none) c.loop-left.invariant.piped c.write_end_at.ensures.cut_off
