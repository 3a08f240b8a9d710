use Rattle.thrift_value.specs.TreeOf.{tree_of}
use Rattle.schema.specs.SchemaOf.{schema_of}
use Rattle.wire_model.specs.Place.{struct_at, IsWithinBounds}
use Rattle.wire_model.proofs.Answered.{bytes_fit, holds_of_read}
use Rattle.known_parts.specs.KnownAt.{known_at}
use Rattle.known_parts.proofs.KnownWhole.{found_bounded}
use Rattle.known_parts.proofs.public.read_known.Goals as goal

pub returns-clause-bounds : goal.returns-clause-bounds
returns-clause-bounds g c =
    let s = schema_of c.args.schema.now in
    let law = c.struct_read_is_spelled.ensures c.args.bytes.now c.args.at in
    holds_of_read (λ x behind. IsWithinBounds x) (known_at g.W.WireProtocol.wire s c.args.which c.args.bytes.now c.args.at)
    (λ x behind e.
    found_bounded s c.args.which (struct_at g.W.WireProtocol.wire c.args.bytes.now c.args.at) x behind (c.known_parts_are_smaller.ensures.depth s) (c.known_parts_are_smaller.ensures.count s)
    (λ y place read. (law y place (bytes_fit c.args.bytes.now c.type_inv.bytes) c.requires.within read).1) e)
    c.known_in.result c.known_in.ensures
