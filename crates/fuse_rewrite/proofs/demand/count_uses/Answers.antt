use Rattle.std.proofs.Common.{◌≡◌, ◌+◌, ◌-◌, ◌<◌, length, map, drop, arith}
use Rattle.script_lang.specs.Views.{statement_of}
use Rattle.fuse_rewrite.specs.Uses.{uses_from}
use Rattle.fuse_rewrite.proofs.BoundLemmas.{names_of_typed}
use Rattle.fuse_rewrite.proofs.LoopLemmas.{line_is, turn, turn_none}
use Rattle.fuse_rewrite.proofs.demand.count_uses.Goals as goal

pub loop-n-init : goal.loop-n-init
loop-n-init c = record {
  within = omega arith;
  count = c.requires.same;
  counted = turn_none c.args.lines.now c.args.demands.now c.requires.unused;
}

pub add_line-requires : goal.add_line-requires
add_line-requires c =
    let within : c.loop-n.n - 1 < length c.args.lines.now = omega arith in
    let here : c.loop-n.n - 1 < length c.loop-n.demands = omega arith in
    names_of_typed (map statement_of c.args.lines.now) (c.loop-n.n - 1) (length c.loop-n.demands) (statement_of c.index-lines-n.result) c.requires.typed
    (line_is c.args.lines.now (c.loop-n.n - 1) c.index-lines-n.result within c.index-lines-n.is) here

pub loop-n-preserved : goal.loop-n-preserved
loop-n-preserved c =
    let ls = map statement_of c.args.lines.now in
    let below = uses_from c.loop-n.n (drop c.loop-n.n ls) in
    let within : c.loop-n.n - 1 < length c.args.lines.now = omega arith in
    let up : c.loop-n.n ≡ c.loop-n.n - 1 + 1 = omega arith in
    let more = c.add_line.ensures below c.loop-n.invariant.counted in
    record {
      within = omega arith;
      count = omega arith;
      counted = turn ls (c.loop-n.n - 1) c.loop-n.n (statement_of c.index-lines-n.result) c.is_used-needed.result c.demand_at.result c.add_line.new.demands up
          (line_is c.args.lines.now (c.loop-n.n - 1) c.index-lines-n.result within c.index-lines-n.is) (c.demand_at.ensures below c.loop-n.invariant.counted) c.is_used-needed.ensures more;
    }
