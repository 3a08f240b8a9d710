use Rattle.std.proofs.Common.{sym, ap, subst}
use Rattle.thrift_value.specs.TreeOf.{tree_of}
use Rattle.schema.specs.SchemaOf.{schema_of}
use Rattle.struct_skew.specs.Projection.{projection}
use Rattle.struct_skew.specs.ReadAs.{placed_projection, ArgFaultsOrNoMemory}
use Rattle.struct_skew.proofs.ReadParts.{skew_faults}
use Rattle.struct_skew.proofs.reading.settled_at.Goals as goal

pub returns-in-Ok : goal.returns-in-Ok
returns-in-Ok c = ap (placed_projection c.args.behind) c.in-Ok.ensures

pub returns-in-Err : goal.returns-in-Err
returns-in-Err c =
    subst (λ f. ArgFaultsOrNoMemory f (placed_projection c.args.behind (projection (schema_of c.args.schema.now) c.args.which (tree_of c.args.known)))) (sym c.arg_of_skew.ensures)
    (skew_faults c.args.behind (projection (schema_of c.args.schema.now) c.args.which (tree_of c.args.known)) c.in-Err.fault c.in-Err.ensures)
