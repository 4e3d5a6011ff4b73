use Rattle.std.proofs.Common.{◌≡◌, ◌∙◌, ℕ, List, take, drop, ◌++◌, ap, sym, arith}
use Rattle.std.proofs.lemmas.Grind.{common_steps}
use Rattle.std.proofs.lemmas.List.{take-append-le}
use Rattle.sketo_run.proofs.FrontLemmas.{at_ok, begins, goes_on, full, ended, others_on}
use Rattle.sketo_run.proofs.script_text.script_text.Goals as goal

pub loop-init : goal.loop-init
loop-init g c = record {
  ready_now = grind (arith, common_steps);
  same = c.start.ensures.content;
  of_name = grind (arith, common_steps);
  none_fell = c.start.ensures.never_falls;
  others = λ tells. c.start.ensures.others;
  each_moves = omega arith;
  fits = grind (arith, common_steps);
  parts = rw c.new-bytes.ensures.items (begins _ _ (at_ok c.start.result _ (sym c.if-is_err.ensures.value) c.start.ensures.left ∙ ap (λ (f : List ℕ → _). f c.args.name.now) c.start.ensures.content));
}

pub returns-then-room-eq0-clause-told : goal.returns-then-room-eq0-clause-told
returns-then-room-eq0-clause-told g c = full _ _ c.loop.bytes.items c.loop.invariant.parts (omega arith)

pub returns-then-n-eq0-clause-told : goal.returns-then-n-eq0-clause-told
returns-then-n-eq0-clause-told g c = ended _ _ _ _ c.loop.bytes.items c.loop.invariant.parts c.in-Ok.ensures.piece (grind (arith, common_steps)) (omega arith)

pub loop-preserved : goal.loop-preserved
loop-preserved g c =
    let e : take c.in-Ok.n (c.read.new.buf ++ drop c.min-room.result c.loop.buf) ≡ take c.in-Ok.n c.read.new.buf = take-append-le c.in-Ok.n c.read.new.buf (drop c.min-room.result c.loop.buf) c.in-Ok.ensures.within in
    record {
      ready_now = grind (arith, common_steps);
      same = c.in-Ok.ensures.content ∙ c.loop.invariant.same;
      of_name = grind (arith, common_steps);
      none_fell = λ name. omega (arith, c.loop.invariant.none_fell name, c.in-Ok.ensures.never_falls name);
      others = λ tells. others_on _ _ _ c.args.name.now _ _ _ (tells c.loop.shelf c.loop.invariant.ready_now) c.loop.invariant.of_name c.loop.invariant.same (c.loop.invariant.others tells) c.in-Ok.ensures.others;
      each_moves = grind (arith, common_steps);
      fits = grind (arith, common_steps);
      parts = rw (c.in_ok-extend_from_slice.ensures.items, e) (goes_on _ _ _ _ c.loop.bytes.items c.loop.invariant.parts c.in-Ok.ensures.piece);
    }
