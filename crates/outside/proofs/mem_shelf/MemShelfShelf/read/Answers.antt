use Rattle.std.proofs.Common.{◌≡◌, rules}
use Rattle.outside.specs.MemShelf.{after_failed_read}
use Rattle.outside.proofs.CountLemmas.{others_after_read}
use Rattle.outside.proofs.mem_shelf.MemShelfShelf.read.Goals as goal

pub returns-then-count_call-clause-others : goal.returns-then-count_call-clause-others
returns-then-count_call-clause-others c =
    let after : c.count_fault.new.self ≡ after_failed_read c.args.self.now = search rules in
    rw after (others_after_read c.args.self.now)
