use Rattle.std.proofs.Common.{◌≡◌, ◌++◌, ◌∷◌, [], map, ap, sym, ◌∙◌}
use Rattle.scalar_expr.specs.Values.{values_of}
use Rattle.list_fusion.specs.declared.stage.Stage.TheVariants.{Map}
use Rattle.list_fusion.specs.Heads.{head_of}
use Rattle.list_fusion.specs.Stages.{staged}
use Rattle.list_fusion.specs.Pipes.{Flow, turned, elements, type_of}
use Rattle.list_fusion.proofs.StageLemmas.{AreTyped-push, type_along-push}
use Rattle.list_fusion.proofs.BlockLemmas.{elements-push}
use Rattle.list_fusion.proofs.pipe.Pipe.map.Goals as goal

pub invariant_of-self-2 : goal.invariant_of-self-2
invariant_of-self-2 c =
    let ss = c.self.inside.stages.items in
    let ty = (head_of c.self.inside.head).ty in
    let longer : c.push.new.self.items ≡ ss ++ Map c.args.f ∷ [] = c.in_ok-push.ensures.items in
    record {
      can = c.self.invariant.can;
      long = c.self.invariant.long;
      typed = rw longer (AreTyped-push ss (Map c.args.f) ty c.self.invariant.typed (c.requires ∙ sym (ap type_of c.self.view_is)));
      last = rw longer (type_along-push ss (Map c.args.f) ty ∙ sym c.gives-ty.ensures);
    }

pub returns-clause-elements : goal.returns-clause-elements
returns-clause-elements c =
    let ss = c.self.inside.stages.items in
    let es = (head_of c.self.inside.head).items in
    let longer : c.push.new.self.items ≡ ss ++ Map c.args.f ∷ [] = c.in_ok-push.ensures.items in
    ap (λ xs. turned c.self.inside.reversed (staged xs es)) longer
    ∙ elements-push c.self.inside.reversed ss (Map c.args.f) es
    ∙ ap (λ (p : Flow). map (values_of c.args.f.scalars) (elements p)) c.self.view_is
