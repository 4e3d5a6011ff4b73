use Rattle.std.proofs.Common.{◌++◌, map}
use Rattle.std.specs.Fmt.{signed_decimal}
use Rattle.std.proofs.lemmas.Result.{err_from_is_err_and}
use Rattle.plain_text.proofs.GivenLemmas.{cut_before, cut_after, given_after}
use Rattle.script_lang.specs.Views.{skeleton_of}
use Rattle.fuse_rewrite.specs.PlanText.{head_word, op_word, parts_text, function_text}
use Rattle.fuse_rewrite.proofs.skeleton_text.write_front.Goals as goal

pub returns-in_err-text-clause-cut_off : goal.returns-in_err-text-clause-cut_off
returns-in_err-text-clause-cut_off g c =
    let p = err_from_is_err_and c.from_residual.result c.from_residual.ensures.1 in
    rw p.1 (cut_before (head_word (skeleton_of c.args.skel.now).head) (parts_text (map function_text (skeleton_of c.args.skel.now).functions) ++ (parts_text (map op_word (skeleton_of c.args.skel.now).ops) ++ parts_text (map signed_decimal (skeleton_of c.args.skel.now).numbers))) _ _ _ _ _ _ (rw c.head_word.ensures at c.in_err-text.ensures.cut_off))

pub returns-clause-given : goal.returns-clause-given
returns-clause-given g c =
    given_after c.write_middle.result (head_word (skeleton_of c.args.skel.now).head) (parts_text (map function_text (skeleton_of c.args.skel.now).functions) ++ (parts_text (map op_word (skeleton_of c.args.skel.now).ops) ++ parts_text (map signed_decimal (skeleton_of c.args.skel.now).numbers))) _ _ _ _ _ _ (rw c.head_word.ensures at c.in_ok-text.ensures.given) c.write_middle.ensures.given

pub returns-clause-cut_off : goal.returns-clause-cut_off
returns-clause-cut_off g c =
    cut_after c.write_middle.result (head_word (skeleton_of c.args.skel.now).head) (parts_text (map function_text (skeleton_of c.args.skel.now).functions) ++ (parts_text (map op_word (skeleton_of c.args.skel.now).ops) ++ parts_text (map signed_decimal (skeleton_of c.args.skel.now).numbers))) _ _ _ _ _ _ _ _ _ (rw c.head_word.ensures at c.in_ok-text.ensures.given) c.text.ensures.never_falls c.write_middle.ensures.cut_off
