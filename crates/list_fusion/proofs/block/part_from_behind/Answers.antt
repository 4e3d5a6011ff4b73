use Rattle.std.proofs.Common.{◌≡◌, ◌-◌, ◌++◌, length, slice_range, reverse, ap, sym, ◌∙◌}
use Rattle.list_fusion.proofs.NumberLemmas.{range-reverse}
use Rattle.list_fusion.proofs.block.part_from_behind.Goals as goal

pub returns-clause-items : goal.returns-clause-items
returns-clause-items c =
    let xs = c.args.list.now.items in
    let appended : c.append_range.new.self.items ≡ c.new-part.result.items ++ slice_range xs (c.len.result - c.args.to) (c.len-2.result - c.args.from) = c.in_ok-append_range.ensures.ok in
    c.reverse.ensures.items
    ∙ ap reverse
    (appended ∙ ap (λ es. es ++ slice_range xs (c.len.result - c.args.to) (c.len-2.result - c.args.from)) c.new-part.ensures.items
    ∙ ap (λ n. slice_range xs (n - c.args.to) (c.len-2.result - c.args.from)) c.len.ensures
    ∙ ap (λ n. slice_range xs (length xs - c.args.to) (n - c.args.from)) c.len-2.ensures)
    ∙ sym (range-reverse xs c.args.from c.args.to c.requires.ordered c.requires.within)
