use Rattle.std.proofs.lemmas.Result.{err_from_is_err_and}
use Rattle.wire_model.proofs.Answered.{bytes_behind_place}
use Rattle.std.proofs.Common.{refl, ◌<◌, ◌^◌, arith}
use Rattle.wire_walk.proofs.AtPlaces.{part_in_front, part_within, part_read, part_faults}
use Rattle.wire_walk.proofs.places.items_at.Goals as goal

pub returns-in_err-element-clause-read : goal.returns-in_err-element-clause-read
returns-in_err-element-clause-read g c =
    let p = err_from_is_err_and c.from_residual.result c.from_residual.ensures.1 in
    rw (p.1, p.2)
    (part_faults (g.C.WireProtocol.wire.items) (c.parts_agree.ensures.uncounted.items) c.args.bytes.now c.args.at c.input_at.result c.in_err-element.field-0.0 c.input_at.ensures c.in_err-element.ensures)

pub place_of-behind-requires : goal.place_of-behind-requires
place_of-behind-requires g c =
    part_within c.args.bytes.now c.args.at c.in_ok-element.rest
    (part_in_front (g.C.WireProtocol.wire.items) (c.parts_agree.ensures.items) c.args.bytes.now c.args.at c.input_at.result c.in_ok-element.rest (c.in_ok-element.element, c.in_ok-element.count) (bytes_behind_place c.args.bytes.now c.args.at c.type_inv.bytes) c.input_at.ensures c.in_ok-element.ensures)

pub returns-clause-read : goal.returns-clause-read
returns-clause-read g c =
    part_read (g.C.WireProtocol.wire.items) (c.parts_agree.ensures.uncounted.items) c.args.bytes.now c.args.at c.input_at.result c.in_ok-element.rest (c.in_ok-element.element, c.in_ok-element.count) (c.in_ok-element.element, c.in_ok-element.count) c.place_of-behind.result c.input_at.ensures c.in_ok-element.ensures
    (part_in_front (g.C.WireProtocol.wire.items) (c.parts_agree.ensures.items) c.args.bytes.now c.args.at c.input_at.result c.in_ok-element.rest (c.in_ok-element.element, c.in_ok-element.count) (bytes_behind_place c.args.bytes.now c.args.at c.type_inv.bytes) c.input_at.ensures c.in_ok-element.ensures)
    refl c.place_of-behind.ensures

pub overflow_cast-result : goal.overflow_cast-result
overflow_cast-result g c =
    let f = (part_in_front (g.C.WireProtocol.wire.items) (c.parts_agree.ensures.items) c.args.bytes.now c.args.at c.input_at.result c.in_ok-element.rest (c.in_ok-element.element, c.in_ok-element.count) (bytes_behind_place c.args.bytes.now c.args.at c.type_inv.bytes) c.input_at.ensures c.in_ok-element.ensures) in
    let small : c.in_ok-element.count < 2 ^ 31 = (c.parts_agree.ensures.items_range c.in_ok-element.element c.in_ok-element.count f.text f.spells).0 in
    record { fits = omega arith }
