use Rattle.std.proofs.Common.{◌≡◌, ℕ, List, ◌∷◌, ◌++◌, map, ◌∙◌, ap, sym, subst, Option, Some}
use Rattle.script_lang.specs.Views.{skeleton_of}
use Rattle.fuse_rewrite.specs.Uses.{use_by}
use Rattle.fuse_rewrite.specs.Demands.{is_by_pipe, AreDemands}
use Rattle.fuse_rewrite.specs.Arguments.{listed}
use Rattle.fuse_rewrite.proofs.DemandLemmas.{by_pipe_is}
use Rattle.fuse_rewrite.proofs.demand.add_arguments.Goals as goal

-- of two
pub returns-in-Some : goal.returns-in-Some
returns-in-Some c us are =
    let s = skeleton_of c.args.skel.now in
    let last = c.arguments_of-names.result.last in
    let piped : is_by_pipe (use_by s.head) ≡ c.takes_pipe-piped.result = by_pipe_is s.head ∙ sym c.takes_pipe-piped.ensures in
    let one = c.add_use.ensures us (use_by s.head) piped are in
    let two = c.add_use-in-Some.ensures ((last, use_by s.head) ∷ us) (use_by s.head) piped one in
    let names : listed (Some c.in-Some.name) last ≡ s.arguments = sym (ap (λ (o : Option ℕ). listed o last) c.in-Some.is) ∙ c.arguments_of-names.ensures.listed in
    subst (λ (xs : List ℕ). AreDemands (map (λ a. (a, use_by s.head)) xs ++ us) c.add_use-in-Some.new.demands) names two
