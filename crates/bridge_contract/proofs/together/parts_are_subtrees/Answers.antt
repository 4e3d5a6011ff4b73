use Rattle.bridge_contract.proofs.OwnLemmas.{part_is_sub}
use Rattle.bridge_contract.proofs.together.parts_are_subtrees.Goals as goal

pub returns : goal.returns
returns c = part_is_sub
