use Rattle.std.proofs.Common.{◌≡◌, map, true, false, sym, ap, ◌∙◌, List, arith}
use Rattle.script_lang.specs.Steps.{found_from, binds}
use Rattle.script_lang.specs.declared.line.Line.{Line}
use Rattle.script_lang.specs.Views.{statement_of}
use Rattle.script_lang.proofs.ListLemmas.{drop_is, drop_all}
use Rattle.script_lang.proofs.NameLemmas.{found_here, found_next, found_done}
use Rattle.script_lang.proofs.names.found.Goals as goal

-- the line that binds the name
pub returns-then-binds : goal.returns-then-binds
returns-then-binds c =
    let e : binds c.args.name.now (statement_of c.line-item.result) ≡ true = cc in
    let d = drop_is c.args.lines.now c.loop-line.line-index c.line-item.result c.loop-line-test.true c.line-item.is in
    c.bound_at.ensures ∙ sym (found_here c.loop-line.n c.args.column c.args.name.now _ _ e)
    ∙ sym (ap (λ (ls : List Line). found_from c.loop-line.n c.args.column c.args.name.now (map statement_of ls)) d) ∙ c.loop-line.invariant.rest

-- a line that doesn't
pub loop-line-preserved : goal.loop-line-preserved
loop-line-preserved c =
    let e : binds c.args.name.now (statement_of c.line-item.result) ≡ false = cc in
    let d = drop_is c.args.lines.now c.loop-line.line-index c.line-item.result c.loop-line-test.true c.line-item.is in
    record {
      count = omega arith;
      rest = sym (found_next c.loop-line.n c.args.column c.args.name.now _ _ e)
          ∙ sym (ap (λ (ls : List Line). found_from c.loop-line.n c.args.column c.args.name.now (map statement_of ls)) d) ∙ c.loop-line.invariant.rest;
    }

-- no line binds it
pub returns : goal.returns
returns c = found_done c.loop-line.n c.args.column c.args.name.now _ _ (ap (λ (ls : List Line). map statement_of ls) (drop_all c.args.lines.now c.loop-line.line-index c.loop-line-test.false)) c.loop-line.invariant.rest
