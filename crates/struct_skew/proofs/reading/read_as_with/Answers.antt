use Rattle.std.proofs.Common.{sym, subst}
use Rattle.thrift_value.specs.TreeOf.{tree_of}
use Rattle.schema.specs.SchemaOf.{schema_of}
use Rattle.wire_model.specs.Place.{struct_at}
use Rattle.struct_skew.specs.ReadAs.{read_then_projected, ArgFaultsOrNoMemory, ArgsOrNoMemory}
use Rattle.struct_skew.proofs.ReadParts.{read_decided, wire_faults}
use Rattle.struct_skew.proofs.reading.read_as_with.Goals as goal

pub returns-in-Ok : goal.returns-in-Ok
returns-in-Ok g c =
    let s = schema_of c.args.schema.now in
    subst (ArgsOrNoMemory (λ r. (tree_of r.0, r.1)) c.projected_with.result)
    (read_decided s c.args.which (struct_at g.W.WireProtocol.wire c.args.bytes.now c.args.at) (tree_of c.in-Ok.known) c.in-Ok.behind (λ fields. c.what_is_known_decides.ensures.projected s c.args.which fields c.requires.sound) c.in-Ok.ensures.known)
    c.projected_with.ensures

pub returns-in-Err : goal.returns-in-Err
returns-in-Err g c =
    let s = schema_of c.args.schema.now in
    subst (λ f. ArgFaultsOrNoMemory f (read_then_projected g.W.WireProtocol.wire s c.args.which c.args.bytes.now c.args.at)) (sym c.arg_of_wire.ensures)
    (wire_faults s c.args.which (struct_at g.W.WireProtocol.wire c.args.bytes.now c.args.at) c.in-Err.fault c.in-Err.ensures.known)
