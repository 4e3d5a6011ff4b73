use Rattle.std.proofs.Common.{sym, ◌∙◌}
use Rattle.list_fusion.proofs.HeadLemmas.{length-zipped, length-iota}
use Rattle.list_fusion.proofs.head.Head.len.Goals as goal

pub returns-in-Two : goal.returns-in-Two
returns-in-Two c =
    let can = rw c.in-Two.is at c.requires in
    rw c.in-Two.is (c.len-in-Two.ensures ∙ sym (length-zipped c.in-Two.x.now.items c.in-Two.field-1.now.items can.0))

pub returns-in-Iota : goal.returns-in-Iota
returns-in-Iota c = rw c.in-Iota.is (sym (length-iota c.in-Iota.n))
