use Rattle.std.proofs.lemmas.Result.{err_from_is_err_and}
use Rattle.wire_model.proofs.Answered.{bytes_behind_place}
use Rattle.wire_walk.proofs.AtPlaces.{part_in_front, part_within, part_read, part_faults, text_within, text_there}
use Rattle.wire_walk.proofs.places.span_at.Goals as goal

pub returns-in_err-text-clause-read : goal.returns-in_err-text-clause-read
returns-in_err-text-clause-read g c =
    let p = err_from_is_err_and c.from_residual.result c.from_residual.ensures.1 in
    rw (p.1, p.2)
    (part_faults g.C.WireProtocol.wire.span c.parts_agree.ensures.uncounted.span c.args.bytes.now c.args.at c.input_at.result c.in_err-text.field-0.0 c.input_at.ensures c.in_err-text.ensures)

pub place_of-behind-requires : goal.place_of-behind-requires
place_of-behind-requires g c =
    part_within c.args.bytes.now c.args.at c.in_ok-text.rest
    (part_in_front g.C.WireProtocol.wire.span c.parts_agree.ensures.span c.args.bytes.now c.args.at c.input_at.result c.in_ok-text.rest c.in_ok-text.text.now (bytes_behind_place c.args.bytes.now c.args.at c.type_inv.bytes) c.input_at.ensures c.in_ok-text.ensures)

pub overflow_sub-result : goal.overflow_sub-result
overflow_sub-result g c =
    let f = (part_in_front g.C.WireProtocol.wire.span c.parts_agree.ensures.span c.args.bytes.now c.args.at c.input_at.result c.in_ok-text.rest c.in_ok-text.text.now (bytes_behind_place c.args.bytes.now c.args.at c.type_inv.bytes) c.input_at.ensures c.in_ok-text.ensures) in
    let end = c.parts_agree.ensures.span_end c.in_ok-text.text.now f.text f.spells in
    text_within c.args.bytes.now c.args.at f.text c.in_ok-text.rest.bytes end.0 c.in_ok-text.text.now c.place_of-behind.result f.whole end.1 c.place_of-behind.ensures

pub returns-clause-read : goal.returns-clause-read
returns-clause-read g c =
    let f = (part_in_front g.C.WireProtocol.wire.span c.parts_agree.ensures.span c.args.bytes.now c.args.at c.input_at.result c.in_ok-text.rest c.in_ok-text.text.now (bytes_behind_place c.args.bytes.now c.args.at c.type_inv.bytes) c.input_at.ensures c.in_ok-text.ensures) in
    let end = c.parts_agree.ensures.span_end c.in_ok-text.text.now f.text f.spells in
    part_read g.C.WireProtocol.wire.span c.parts_agree.ensures.uncounted.span c.args.bytes.now c.args.at c.input_at.result c.in_ok-text.rest c.in_ok-text.text.now _ c.place_of-behind.result c.input_at.ensures c.in_ok-text.ensures f
    (text_there c.args.bytes.now c.args.at f.text c.in_ok-text.rest.bytes end.0 c.in_ok-text.text.now c.place_of-behind.result f.whole end.1 c.place_of-behind.ensures) c.place_of-behind.ensures
