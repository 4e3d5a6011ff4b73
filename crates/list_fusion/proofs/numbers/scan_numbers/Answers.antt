use Rattle.std.proofs.Common.{◌≡◌, ◌+◌, ◌≤◌, [], ◌∷◌, ◌++◌, Some, get_or, drop, pos, refl, ap, sym, subst, arith, rules, length, ◌∙◌}
use Rattle.std.proofs.lemmas.List.{append_assoc, length-append}
use Rattle.op_laws.specs.declared.TheConstants.{MAX_ELEMENTS}
use Rattle.op_laws.specs.declared.width.Width.TheVariants.{W64}
use Rattle.op_laws.specs.Admits.{Admits}
use Rattle.op_laws.specs.Elements.{singles}
use Rattle.list_fusion.specs.Held.{next_held, held_through, scanned}
use Rattle.list_fusion.proofs.NumberLemmas.{singles-drop}
use Rattle.list_fusion.proofs.numbers.scan_numbers.Goals as goal

pub joined_beside-c-requires-clause-one : goal.joined_beside-c-requires-clause-one
joined_beside-c-requires-clause-one g c =
    let lifts = g.met.M.Lifted.lift_laws c.args.op.now in
    let admitted : Admits (W64 ∷ []) c.one.result = search rules in
    rw c.lift-e.ensures (lifts.lifted_fits (W64 ∷ []) c.one.result c.requires.takes admitted)

pub push-requires-clause-admitted : goal.push-requires-clause-admitted
push-requires-clause-admitted g c =
    let op = c.args.op.now in
    let lifts = g.met.M.Lifted.lift_laws op in
    let n = c.args.n + c.loop-i.i + 1 in
    let few : n ≤ MAX_ELEMENTS = omega arith in
    let done : Admits (g.M.Lifted.gives op (W64 ∷ [])) c.finish.result = rw c.finish.ensures (lifts.finished_admitted (W64 ∷ []) c.joined_beside-c.result n c.requires.takes few c.joined_beside-c.ensures.fits) in
    subst (λ ty. Admits ty c.finish.result) (sym (c.loop-i.invariant.ty ∙ c.requires.ty)) done

pub loop-i-preserved : goal.loop-i-preserved
loop-i-preserved g c =
    let op = c.args.op.now in
    let lifted = g.M.Lifted.lifted op in
    let combined = g.M.Semi.combined op in
    let finished = g.M.Lifted.finished op in
    let numbers = c.args.numbers.now in
    let back = c.args.back in
    let held = c.loop-i.held in
    let i = c.loop-i.i in
    let x = get_or numbers i (pos 0) in
    let rest = singles (drop (i + 1) numbers) in
    let before = c.loop-i.list.items in
    let number : c.one.result ≡ x ∷ [] = search rules in
    let more = singles-drop numbers i x c.loop-i-test.true refl in
    let next : c.joined_beside-c.result ≡ next_held combined back held (lifted (x ∷ [])) = c.joined_beside-c.ensures.value ∙ ap (next_held combined back held) (c.lift-e.ensures ∙ ap lifted number) in
    let pushed : c.push.new.self.items ≡ before ++ c.finish.result ∷ [] = c.in_ok-push.ensures.ok in
    let weight : c.args.n + i + 1 ≡ c.args.n + (i + 1) = omega arith in
    record {
      ty = c.push.ensures.ty ∙ c.loop-i.invariant.ty;
      long = ap length pushed ∙ length-append before (c.finish.result ∷ []) ∙ omega (arith, c.loop-i.invariant.long);
      items = ap (λ xs. xs ++ scanned lifted combined finished back (Some c.joined_beside-c.result) rest) pushed
          ∙ append_assoc before (c.finish.result ∷ []) (scanned lifted combined finished back (Some c.joined_beside-c.result) rest)
          ∙ ap (λ v. before ++ v ∷ scanned lifted combined finished back (Some c.joined_beside-c.result) rest) c.finish.ensures
          ∙ ap (λ v. before ++ finished v ∷ scanned lifted combined finished back (Some v) rest) next
          ∙ ap (λ es. before ++ scanned lifted combined finished back held es) (sym more)
          ∙ c.loop-i.invariant.items;
      value = ap (λ v. held_through lifted combined back (Some v) rest) next ∙ ap (held_through lifted combined back held) (sym more) ∙ c.loop-i.invariant.value;
      fits = subst (λ m. g.M.Lifted.fits op c.joined_beside-c.result m) weight c.joined_beside-c.ensures.fits;
    }
