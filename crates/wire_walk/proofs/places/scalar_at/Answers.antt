use Rattle.std.proofs.lemmas.Result.{err_from_is_err_and}
use Rattle.wire_model.proofs.Answered.{bytes_behind_place}
use Rattle.std.proofs.Common.{refl}
use Rattle.thrift_value.specs.TreeOf.{tree_of}
use Rattle.wire_walk.proofs.AtPlaces.{part_in_front, part_within, part_read, part_faults}
use Rattle.wire_walk.proofs.places.scalar_at.Goals as goal

pub returns-in_err-value-clause-read : goal.returns-in_err-value-clause-read
returns-in_err-value-clause-read g c =
    let p = err_from_is_err_and c.from_residual.result c.from_residual.ensures.1 in
    rw (p.1, p.2)
    (part_faults (g.C.WireProtocol.wire.scalar c.args.tag) (c.parts_agree.ensures.uncounted.scalar c.args.tag c.requires.tag) c.args.bytes.now c.args.at c.input_at.result c.in_err-value.field-0.0 c.input_at.ensures c.in_err-value.ensures)

pub place_of-behind-requires : goal.place_of-behind-requires
place_of-behind-requires g c =
    part_within c.args.bytes.now c.args.at c.in_ok-value.rest
    (part_in_front (g.C.WireProtocol.wire.scalar c.args.tag) (c.parts_agree.ensures.scalar c.args.tag c.requires.tag) c.args.bytes.now c.args.at c.input_at.result c.in_ok-value.rest (tree_of c.in_ok-value.value) (bytes_behind_place c.args.bytes.now c.args.at c.type_inv.bytes) c.input_at.ensures c.in_ok-value.ensures)

pub returns-clause-read : goal.returns-clause-read
returns-clause-read g c =
    part_read (g.C.WireProtocol.wire.scalar c.args.tag) (c.parts_agree.ensures.uncounted.scalar c.args.tag c.requires.tag) c.args.bytes.now c.args.at c.input_at.result c.in_ok-value.rest (tree_of c.in_ok-value.value) (tree_of c.in_ok-value.value) c.place_of-behind.result c.input_at.ensures c.in_ok-value.ensures
    (part_in_front (g.C.WireProtocol.wire.scalar c.args.tag) (c.parts_agree.ensures.scalar c.args.tag c.requires.tag) c.args.bytes.now c.args.at c.input_at.result c.in_ok-value.rest (tree_of c.in_ok-value.value) (bytes_behind_place c.args.bytes.now c.args.at c.type_inv.bytes) c.input_at.ensures c.in_ok-value.ensures)
    refl c.place_of-behind.ensures
