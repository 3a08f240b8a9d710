use Rattle.std.proofs.Common.{◌≡◌, Ok, sym, ap, ◌∙◌, to_z, of_z}
use Rattle.std.specs.Int.{w16}
use Rattle.std.proofs.lemmas.Int.{to_z-of_z}
use Rattle.std.proofs.lemmas.Result.{err_from_is_err_and}
use Rattle.wire_model.proofs.Answered.{bytes_behind_place}
use Rattle.wire_model.specs.AtPlace.{head_of}
use Rattle.wire_walk.specs.Steps.{field_header_of}
use Rattle.wire_walk.proofs.PassedOver.{faults_same}
use Rattle.wire_walk.proofs.AtPlaces.{part_in_front, part_within, part_read, part_faults}
use Rattle.wire_walk.proofs.places.field_at.Goals as goal

pub returns-in_err-header-clause-read : goal.returns-in_err-header-clause-read
returns-in_err-header-clause-read g c =
    let same : to_z w16 (of_z w16 c.args.last) ≡ c.args.last = to_z-of_z w16 c.args.last c.ranges.last in
    let p = err_from_is_err_and c.from_residual.result c.from_residual.ensures.1 in
    rw (p.1, p.2)
    (part_faults (g.C.WireProtocol.wire.field c.args.last) (c.parts_agree.ensures.uncounted.field c.args.last) c.args.bytes.now c.args.at c.input_at.result c.in_err-header.field-0.0 c.input_at.ensures
    (faults_same c.in_err-header.field-0.0 _ _ (ap (λ last. g.C.WireProtocol.wire.field last c.input_at.result) same) c.in_err-header.ensures))

pub place_of-behind-requires : goal.place_of-behind-requires
place_of-behind-requires g c =
    let same : to_z w16 (of_z w16 c.args.last) ≡ c.args.last = to_z-of_z w16 c.args.last c.ranges.last in
    part_within c.args.bytes.now c.args.at c.in_ok-header.rest
    (part_in_front (g.C.WireProtocol.wire.field c.args.last) (c.parts_agree.ensures.field c.args.last c.ranges.last) c.args.bytes.now c.args.at c.input_at.result c.in_ok-header.rest
    (field_header_of c.in_ok-header.header) (bytes_behind_place c.args.bytes.now c.args.at c.type_inv.bytes) c.input_at.ensures
    (ap (λ last. g.C.WireProtocol.wire.field last c.input_at.result) (sym same) ∙ c.in_ok-header.ensures))

pub returns-clause-read : goal.returns-clause-read
returns-clause-read g c =
    let same : to_z w16 (of_z w16 c.args.last) ≡ c.args.last = to_z-of_z w16 c.args.last c.ranges.last in
    let read : g.C.WireProtocol.wire.field c.args.last c.input_at.result ≡ Ok (field_header_of c.in_ok-header.header, c.in_ok-header.rest) =
    ap (λ last. g.C.WireProtocol.wire.field last c.input_at.result) (sym same) ∙ c.in_ok-header.ensures in
    part_read (g.C.WireProtocol.wire.field c.args.last) (c.parts_agree.ensures.uncounted.field c.args.last) c.args.bytes.now c.args.at c.input_at.result c.in_ok-header.rest
    (field_header_of c.in_ok-header.header) (head_of c.head_of.result) c.place_of-behind.result c.input_at.ensures read
    (part_in_front (g.C.WireProtocol.wire.field c.args.last) (c.parts_agree.ensures.field c.args.last c.ranges.last) c.args.bytes.now c.args.at c.input_at.result c.in_ok-header.rest
    (field_header_of c.in_ok-header.header) (bytes_behind_place c.args.bytes.now c.args.at c.type_inv.bytes) c.input_at.ensures read)
    (sym c.head_of.ensures.head) c.place_of-behind.ensures

pub returns-clause-flag : goal.returns-clause-flag
returns-clause-flag g c =
    let same : to_z w16 (of_z w16 c.args.last) ≡ c.args.last = to_z-of_z w16 c.args.last c.ranges.last in
    let f = part_in_front (g.C.WireProtocol.wire.field c.args.last) (c.parts_agree.ensures.field c.args.last c.ranges.last) c.args.bytes.now c.args.at c.input_at.result c.in_ok-header.rest
    (field_header_of c.in_ok-header.header) (bytes_behind_place c.args.bytes.now c.args.at c.type_inv.bytes) c.input_at.ensures
    (ap (λ last. g.C.WireProtocol.wire.field last c.input_at.result) (sym same) ∙ c.in_ok-header.ensures) in
    c.head_of.ensures.flag g.C.WireProtocol.encoder.flags (c.parts_agree.ensures.header_flag c.args.last (field_header_of c.in_ok-header.header) f.text f.spells)
