use Rattle.op_laws.proofs.TreeSkeletonLaws.{up_shape, down_shape, map_shape}
use Rattle.op_laws.proofs.laws.shapes_are_kept.Goals as goal

pub returns : goal.returns
returns c = record {
  up = λ leaf node t. up_shape leaf node t;
  down = λ left right at t. down_shape left right at t;
  each = λ f t. map_shape f t;
}
