use Rattle.std.proofs.Common.{sym, ◌∙◌}
use Rattle.std.specs.Prelude.{bytes_eq}
use Rattle.outside.specs.Files.{File}
use Rattle.outside.proofs.FileLemmas.{position-map, is_some-place_of}
use Rattle.outside.proofs.files.Files.place.Goals as goal

-- the pairs have their names at the places at which the files have them
pub returns-clause-value : goal.returns-clause-value
returns-clause-value c = rw (← c.self.view_is) (rw c.deref.ensures.value at c.place_in.ensures ∙ sym (position-map (λ (f : File). bytes_eq f.name c.args.name.now) _ c.self.inside.files.items))

pub returns-clause-found : goal.returns-clause-found
returns-clause-found c = rw (returns-clause-value c) (is_some-place_of c.args.self.now.files c.args.name.now)
