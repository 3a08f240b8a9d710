use Rattle.std.proofs.lemmas.Result.{err_from_is_err_and}
use Rattle.wire_model.proofs.Answered.{bytes_behind_place}
use Rattle.std.proofs.Common.{refl, ◌<◌, ◌^◌, arith}
use Rattle.wire_walk.proofs.AtPlaces.{part_in_front, part_within, part_read, part_faults}
use Rattle.wire_walk.proofs.places.pairs_at.Goals as goal

pub returns-in_err-key-clause-read : goal.returns-in_err-key-clause-read
returns-in_err-key-clause-read g c =
    let p = err_from_is_err_and c.from_residual.result c.from_residual.ensures.1 in
    rw (p.1, p.2)
    (part_faults (g.C.WireProtocol.wire.pairs) (c.parts_agree.ensures.uncounted.pairs) c.args.bytes.now c.args.at c.input_at.result c.in_err-key.field-0.0 c.input_at.ensures c.in_err-key.ensures)

pub place_of-behind-requires : goal.place_of-behind-requires
place_of-behind-requires g c =
    part_within c.args.bytes.now c.args.at c.in_ok-key.rest
    (part_in_front (g.C.WireProtocol.wire.pairs) (c.parts_agree.ensures.pairs) c.args.bytes.now c.args.at c.input_at.result c.in_ok-key.rest (c.in_ok-key.key, c.in_ok-key.value, c.in_ok-key.count) (bytes_behind_place c.args.bytes.now c.args.at c.type_inv.bytes) c.input_at.ensures c.in_ok-key.ensures)

pub returns-clause-read : goal.returns-clause-read
returns-clause-read g c =
    part_read (g.C.WireProtocol.wire.pairs) (c.parts_agree.ensures.uncounted.pairs) c.args.bytes.now c.args.at c.input_at.result c.in_ok-key.rest (c.in_ok-key.key, c.in_ok-key.value, c.in_ok-key.count) (c.in_ok-key.key, c.in_ok-key.value, c.in_ok-key.count) c.place_of-behind.result c.input_at.ensures c.in_ok-key.ensures
    (part_in_front (g.C.WireProtocol.wire.pairs) (c.parts_agree.ensures.pairs) c.args.bytes.now c.args.at c.input_at.result c.in_ok-key.rest (c.in_ok-key.key, c.in_ok-key.value, c.in_ok-key.count) (bytes_behind_place c.args.bytes.now c.args.at c.type_inv.bytes) c.input_at.ensures c.in_ok-key.ensures)
    refl c.place_of-behind.ensures

pub overflow_cast-result : goal.overflow_cast-result
overflow_cast-result g c =
    let f = (part_in_front (g.C.WireProtocol.wire.pairs) (c.parts_agree.ensures.pairs) c.args.bytes.now c.args.at c.input_at.result c.in_ok-key.rest (c.in_ok-key.key, c.in_ok-key.value, c.in_ok-key.count) (bytes_behind_place c.args.bytes.now c.args.at c.type_inv.bytes) c.input_at.ensures c.in_ok-key.ensures) in
    let small : c.in_ok-key.count < 2 ^ 31 = (c.parts_agree.ensures.pairs_range c.in_ok-key.key c.in_ok-key.value c.in_ok-key.count f.text f.spells).0 in
    record { fits = omega arith }
