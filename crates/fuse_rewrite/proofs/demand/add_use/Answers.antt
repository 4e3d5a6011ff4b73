use Rattle.fuse_rewrite.proofs.DemandLemmas.{added}
use Rattle.fuse_rewrite.proofs.demand.add_use.Goals as goal

pub returns : goal.returns
returns c us u pipe are = added us u c.args.demands.now c.args.name c.demand_at.result c.with_use.result are c.requires (c.demand_at.ensures us are) (rw pipe c.with_use.ensures)
