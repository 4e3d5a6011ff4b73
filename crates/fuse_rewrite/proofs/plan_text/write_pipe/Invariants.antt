use Rattle.std.proofs.Common.{◌≤◌, length, take, map}
use Rattle.std.specs.Prelude.{reverse}
use Rattle.script_lang.specs.Views.{statement_of}
use Rattle.fuse_rewrite.specs.PlanText.{pipe_text}
use Rattle.fuse_rewrite.proofs.PipeLemmas.{IsPipedTo}
use Rattle.fuse_rewrite.proofs.plan_text.write_pipe.Given as goal

-- the skeletons up to here are given
abbrev pub invariant-loop-left : goal.invariant-loop-left
invariant-loop-left g l = record {
  within : l.left ≤ length l.chain;
  piped : IsPipedTo (pipe_text (map statement_of l.lines) l.fn.n (reverse l.chain)) (pipe_text (map statement_of l.lines) l.next (reverse (take l.left l.chain)))
      l.fn.out l.out (g.O.Sink.written l.fn.sink) (g.O.Sink.written l.sink) (g.O.Sink.faults l.fn.sink) (g.O.Sink.faults l.sink);
}

abbrev pub decreases-loop-left : goal.decreases-loop-left
decreases-loop-left g l = l.left
