use Rattle.std.proofs.Common.{sym, ap}
use Rattle.thrift_value.specs.TreeOf.{tree_of}
use Rattle.schema.specs.SchemaOf.{schema_of}
use Rattle.struct_skew.specs.ReadAs.{placed_projection}
use Rattle.struct_skew.proofs.reading.projected_with.Goals as goal

pub returns-then-is_settled_struct : goal.returns-then-is_settled_struct
returns-then-is_settled_struct c =
    ap (placed_projection c.args.behind)
    (c.settled_values_mean_themselves.ensures.projected (schema_of c.args.schema.now) c.args.which (tree_of c.args.known) c.requires.sound (sym c.if-is_settled_struct.ensures) c.requires.bounds.depth c.requires.bounds.count)
