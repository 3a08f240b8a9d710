use Rattle.wire_model.proofs.Answered.{bytes_behind_place}
use Rattle.wire_walk.proofs.AtPlaces.{passed_there, passed_within, passed_to, passed_counts, passed_fewer}
use Rattle.wire_walk.proofs.places.skip_left.Goals as goal

pub place_of-behind-requires : goal.place_of-behind-requires
place_of-behind-requires g c =
    passed_within g.C.WireProtocol.format c.args.levels c.args.tag c.args.bytes.now c.args.at c.args.budget c.in_ok-rest.rest
    (passed_there g.C.WireProtocol.wire g.C.WireProtocol.format c.value_read_is_spelled.ensures c.args.levels c.args.tag c.args.bytes.now c.args.at c.args.budget c.input_at.result c.in_ok-rest.rest (bytes_behind_place c.args.bytes.now c.args.at c.type_inv.bytes) c.input_at.ensures c.in_ok-rest.ensures)

pub returns-clause-skipped : goal.returns-clause-skipped
returns-clause-skipped g c =
    passed_to g.C.WireProtocol.wire g.C.WireProtocol.format c.args.levels c.args.tag c.args.bytes.now c.args.at c.args.budget c.input_at.result c.in_ok-rest.rest c.place_of-behind.result c.budget.result
    (passed_there g.C.WireProtocol.wire g.C.WireProtocol.format c.value_read_is_spelled.ensures c.args.levels c.args.tag c.args.bytes.now c.args.at c.args.budget c.input_at.result c.in_ok-rest.rest (bytes_behind_place c.args.bytes.now c.args.at c.type_inv.bytes) c.input_at.ensures c.in_ok-rest.ensures)
    c.input_at.ensures c.in_ok-rest.ensures c.place_of-behind.ensures c.budget.ensures

pub returns-clause-counted : goal.returns-clause-counted
returns-clause-counted g c =
    passed_counts g.C.WireProtocol.wire g.C.WireProtocol.format c.value_read_is_spelled.ensures c.args.levels c.args.tag c.args.bytes.now c.args.at c.args.budget c.input_at.result c.in_ok-rest.rest c.budget.result (bytes_behind_place c.args.bytes.now c.args.at c.type_inv.bytes) c.input_at.ensures c.in_ok-rest.ensures c.budget.ensures

pub returns-clause-fewer : goal.returns-clause-fewer
returns-clause-fewer g c =
    passed_fewer g.C.WireProtocol.format c.args.levels c.args.tag c.args.bytes.now c.args.at c.args.budget c.in_ok-rest.rest c.budget.result
    (passed_there g.C.WireProtocol.wire g.C.WireProtocol.format c.value_read_is_spelled.ensures c.args.levels c.args.tag c.args.bytes.now c.args.at c.args.budget c.input_at.result c.in_ok-rest.rest (bytes_behind_place c.args.bytes.now c.args.at c.type_inv.bytes) c.input_at.ensures c.in_ok-rest.ensures)
    c.budget.ensures
