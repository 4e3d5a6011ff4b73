use Rattle.std.proofs.Common.{◌≡◌, ◌+◌, ◌≤◌, ◌++◌, ◌∷◌, [], length, ap, sym, arith, ◌∙◌}
use Rattle.std.proofs.lemmas.List.{length-map, map-append}
use Rattle.op_laws.specs.declared.TheConstants.{MAX_ELEMENTS}
use Rattle.op_laws.specs.Elements.{singles}
use Rattle.list_fusion.specs.Pipes.{block_of}
use Rattle.list_fusion.proofs.BlockLemmas.{block-none, block-join, length-block}
use Rattle.list_fusion.proofs.block.build_columns.Goals as goal

pub loop-at-init : goal.loop-at-init
loop-at-init c = record { first = omega arith; within = c.requires.ordered; items = ap singles c.new-numbers.ensures.items ∙ sym (block-none c.args.pipe.now c.args.from) }

pub loop-at-preserved : goal.loop-at-preserved
loop-at-preserved c =
    let p = c.args.pipe.now in
    let from = c.args.from in
    let at = c.loop-at.at in
    let next = at + c.min.result in
    let inv = c.loop-at.invariant in
    let before = c.loop-at.numbers.items in
    let numbers = c.first_column.result.now in
    let longer : c.extend_from_slice.new.self.items ≡ before ++ numbers = c.in_ok-extend_from_slice.ensures.items in
    record {
      first = omega (arith, inv.first);
      within = omega arith;
      items = ap singles longer
          ∙ map-append (λ x. x ∷ []) before numbers
          ∙ ap (λ es. es ++ singles numbers) inv.items
          ∙ ap (λ es. block_of p from at ++ es) (c.first_column.ensures.value (block_of p at next) c.part-kept.ensures.holds)
          ∙ block-join p from at next inv.first (omega arith);
    }

pub of_w64-requires : goal.of_w64-requires
of_w64-requires c =
    let numbers = c.loop-at.numbers.items in
    let few : c.loop-at.at ≤ MAX_ELEMENTS = omega arith in
    omega (arith, few, ap length c.loop-at.invariant.items, length-map numbers (λ x. x ∷ []), length-block c.args.pipe.now c.args.from c.loop-at.at)
