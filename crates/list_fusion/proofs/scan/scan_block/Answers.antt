use Rattle.std.proofs.Common.{◌≡◌, ◌+◌, ◌≤◌, length, ap, sym, subst, arith, ◌∙◌, IfOk, false}
use Rattle.op_laws.specs.declared.TheConstants.{MAX_ELEMENTS}
use Rattle.list_fusion.specs.Pipes.{type_of, block_of}
use Rattle.list_fusion.specs.Scans.{scan_beside}
use Rattle.list_fusion.specs.Held.{scanned}
use Rattle.list_fusion.proofs.BlockLemmas.{length-block}
use Rattle.list_fusion.proofs.NumberLemmas.{plain-block, plain-admitted}
use Rattle.list_fusion.proofs.ScanLemmas.{scan-first}
use Rattle.list_fusion.proofs.scan.scan_block.Goals as goal

pub returns-in-Some-clause-items : goal.returns-in-Some-clause-items
returns-in-Some-clause-items g c =
    let op = c.args.op.now in
    let lifted = g.M.Lifted.lifted op in
    let combined = g.M.Semi.combined op in
    let finished = g.M.Lifted.finished op in
    let p = c.args.pipe.now in
    let es = block_of p c.args.from c.args.to in
    let few : c.args.nb + length es ≤ MAX_ELEMENTS = omega (arith, length-block p c.args.from c.args.to) in
    let all = plain-admitted p c.in-Some.numbers.now c.args.from c.args.to c.in-Some.ensures in
    let same = ap (λ xs. scanned lifted combined finished false c.args.before xs) (sym (plain-block p c.in-Some.numbers.now c.args.from c.args.to c.in-Some.ensures))
    ∙ scan-first (g.met.M.Lifted.lift_laws op) (g.met.M.Semi.combine_laws op) (type_of p) c.requires.takes c.args.before c.args.nb es few c.requires.before all
    ∙ ap (λ b. scan_beside finished lifted combined b c.args.before es) (sym c.if-back.false) in
    subst (λ xs. IfOk c.scan_slice.result (λ x. x.items ≡ xs)) same c.scan_slice.ensures.items
