use Rattle.std.proofs.Common.{◌==◌, ◌∷◌, [], ◌∙◌, sym, rules, tests, arith, length-append}
use Rattle.std.proofs.lemmas.Iterator.Splits.{YieldsList-from_slice_split}
use Rattle.std.proofs.lemmas.Iterator.Consumers.{YieldsList-turn, YieldsList-end}
use Rattle.script_words.specs.Lines.{lines_of, sources_of}
use Rattle.script_words.proofs.SourceLemmas.{takes, skips, is_done, few_sources}
use Rattle.script_words.proofs.sources.sources_of.Goals as goal

-- every line was taken
pub returns-clause-value : goal.returns-clause-value
returns-clause-value c =
    let ended = YieldsList-end (YieldsList-from_slice_split _ (λ b. b == 10) c.args.bytes.now (cc) (cc) (cc) (λ x b q k. search (rules, tests))) c.loop-line.yielded _ c.loop-line.yielded_by _ _ c.in-None.is c.next.ensures.steps in
    is_done (lines_of c.args.bytes.now) c.loop-line.number c.loop-line.sources.items _ (c.loop-line.invariant.counted ∙ ended.1) c.loop-line.invariant.sources

pub returns-clause-few : goal.returns-clause-few
returns-clause-few c =
    let ended = YieldsList-end (YieldsList-from_slice_split _ (λ b. b == 10) c.args.bytes.now (cc) (cc) (cc) (λ x b q k. search (rules, tests))) c.loop-line.yielded _ c.loop-line.yielded_by _ _ c.in-None.is c.next.ensures.steps in
    let all = is_done (lines_of c.args.bytes.now) c.loop-line.number c.loop-line.sources.items (sources_of c.args.bytes.now) (c.loop-line.invariant.counted ∙ ended.1) c.loop-line.invariant.sources in
    rw all (few_sources c.args.bytes.now)

-- after a line without words
pub loop-line-preserved : goal.loop-line-preserved
loop-line-preserved c =
    let turn = YieldsList-turn (YieldsList-from_slice_split _ (λ b. b == 10) c.args.bytes.now (cc) (cc) (cc) (λ x b q k. search (rules, tests))) c.loop-line.yielded _ c.loop-line.yielded_by _ _ c.in-Some.line c.in-Some.is c.next.ensures.steps in
    let here = rw (← c.loop-line.invariant.counted) at turn in
    record {
      counted = omega (arith, length-append c.loop-line.yielded (c.in-Some.line ∷ []));
      sources = skips (lines_of c.args.bytes.now) c.loop-line.number c.in-Some.line.now c.loop-line.sources.items _ here.0 here.1 (sym c.if-has_words.ensures) c.loop-line.invariant.sources;
    }

-- after a line with words
pub loop-line-preserved-in_ok-push : goal.loop-line-preserved-in_ok-push
loop-line-preserved-in_ok-push c =
    let turn = YieldsList-turn (YieldsList-from_slice_split _ (λ b. b == 10) c.args.bytes.now (cc) (cc) (cc) (λ x b q k. search (rules, tests))) c.loop-line.yielded _ c.loop-line.yielded_by _ _ c.in-Some.line c.in-Some.is c.next.ensures.steps in
    let here = rw (← c.loop-line.invariant.counted) at turn in
    record {
      counted = omega (arith, length-append c.loop-line.yielded (c.in-Some.line ∷ []));
      sources = rw (c.in_ok-push.ensures.items, c.new.ensures, c.in_ok-words_of.ensures.value) (takes (lines_of c.args.bytes.now) c.loop-line.number c.in-Some.line.now c.loop-line.sources.items _ here.0 here.1 (sym c.if-has_words.ensures) c.loop-line.invariant.sources);
    }
