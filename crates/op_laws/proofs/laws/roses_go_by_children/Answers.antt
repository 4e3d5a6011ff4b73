use Rattle.op_laws.proofs.ChildrenLaws.{by_children}
use Rattle.op_laws.proofs.laws.roses_go_by_children.Goals as goal

pub returns : goal.returns
returns c = λ r node step at. by_children r node step at
