use Rattle.m_bridges.proofs.AscentLemmas.{are_numbered, place_is_numbered}
use Rattle.m_bridges.proofs.laws.own_places_are_numbered.Goals as goal

pub returns-clause-bridge : goal.returns-clause-bridge
returns-clause-bridge c = λ t b is. are_numbered t b is

pub returns-clause-place : goal.returns-clause-place
returns-clause-place c = λ t m i some within. place_is_numbered m some t i within
