use Rattle.std.proofs.Common.{◌≡◌, false, rules}
use Rattle.outside.specs.MemShelf.{after_start}
use Rattle.outside.proofs.CountLemmas.{others_after_start}
use Rattle.outside.proofs.mem_shelf.MemShelfShelf.start.Goals as goal

pub returns-in_default-clause-others : goal.returns-in_default-clause-others
returns-in_default-clause-others c =
    let after : c.count_fault.new.self ≡ after_start c.args.self.now c.args.name.now false = search rules in
    rw after (others_after_start c.args.self.now c.args.name.now)
