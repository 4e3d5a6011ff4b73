use Rattle.std.proofs.Common.{◌<◌, ◌++◌, length, ap, sym, arith, ◌∙◌}
use Rattle.std.specs.Option.{option_to_list}
use Rattle.op_laws.specs.declared.TheConstants.{MAX_ELEMENTS}
use Rattle.list_fusion.specs.Pipes.{block_of}
use Rattle.list_fusion.proofs.BlockLemmas.{block-none, block-more, length-block}
use Rattle.list_fusion.proofs.block.build_elements.Goals as goal

pub loop-i-init : goal.loop-i-init
loop-i-init c = record { ty = c.new-list.ensures.ty ∙ c.ty.ensures; items = c.new-list.ensures.items ∙ sym (block-none c.args.pipe.now c.args.from) }

pub add-requires-clause-room : goal.add-requires-clause-room
add-requires-clause-room c =
    let short = length-block c.args.pipe.now c.args.from c.loop-i.i in
    let long = ap length c.loop-i.invariant.items in
    let n : c.loop-i.i < MAX_ELEMENTS = omega arith in
    omega (arith, short, long, n)

pub loop-i-preserved : goal.loop-i-preserved
loop-i-preserved c =
    let p = c.args.pipe.now in
    let front = block_of p c.args.from c.loop-i.i in
    record {
      ty = c.in_ok-add.ensures.ty ∙ c.loop-i.invariant.ty;
      items = c.in_ok-add.ensures.items
          ∙ ap (λ xs. xs ++ option_to_list c.element.result) c.loop-i.invariant.items
          ∙ ap (λ o. front ++ option_to_list o) c.element.ensures.value
          ∙ sym (block-more p c.args.from c.loop-i.i (omega arith) (omega arith));
    }
