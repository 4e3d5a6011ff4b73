use Rattle.std.proofs.Common.{length, slice_range, ap, subst}
use Rattle.list_fusion.specs.Pipes.{turned, places, type_of, block_of}
use Rattle.list_fusion.specs.Columnar.{Holds}
use Rattle.list_fusion.proofs.BlockLemmas.{turned-staged}
use Rattle.list_fusion.proofs.pipe.Pipe.part.Goals as goal

pub returns-clause-holds : goal.returns-clause-holds
returns-clause-holds c =
    let p = c.args.self.now in
    let es = turned c.args.back (slice_range (places p) c.args.from c.args.to) in
    let columns = c.pass_columns.new.columns in
    let passed = c.pass_columns.ensures.holds es c.load.ensures in
    let one = ap length c.requires.columnar.last in
    subst (λ n. Holds columns n c.pass_columns.result (turned c.args.back (block_of p c.args.from c.args.to))) one
    (subst (Holds columns (length (type_of p)) c.pass_columns.result) (turned-staged c.args.back p.stages (slice_range (places p) c.args.from c.args.to)) passed)
