use Rattle.schema.proofs.OneShapes.{one_shapes}
use Rattle.schema.proofs.laws.the_shapes_are_determined.Goals as goal

pub returns : goal.returns
returns c = one_shapes
