use Rattle.std.proofs.Common.{◌≡◌, ◌<◌, ◌≤◌, length, ap, ◌∙◌, arith}
use Rattle.list_fusion.specs.Heads.{head_of}
use Rattle.list_fusion.proofs.ColumnLemmas.{loaded}
use Rattle.list_fusion.proofs.head.Head.load.Goals as goal

pub returns : goal.returns
returns c =
    let head = head_of c.args.self.now in
    let inv = c.loop-k.invariant in
    let width : c.len-k-end.result ≡ length head.ty = c.len-k-end.ensures.value ∙ ap length c.ty.ensures in
    let wide : length head.ty ≤ length c.loop-k.columns = omega (arith, inv.long, ap length c.ty.ensures, c.len-k-end.ensures.high) in
    loaded c.args.reversed head.items c.args.from c.args.to (length head.ty) c.loop-k.columns c.requires.ordered c.requires.within wide c.lengths.ensures
    (λ k h j below. let inside : k < c.loop-k.k = omega (arith, width, h) in inv.done k inside j below)
