use Rattle.std.proofs.Common.{◌∙◌, ap}
use Rattle.std.specs.Int.{w16}
use Rattle.std.proofs.lemmas.Int.{to_z-of_z}
use Rattle.std.proofs.lemmas.Result.{err_from_is_err_and}
use Rattle.thrift_value.specs.TreeOf.{tree_of}
use Rattle.wire_model.specs.Encoder.{heading, text}
use Rattle.wire_walk.specs.Steps.{field_header_of}
use Rattle.processor.proofs.GoingBack.{behind_header}
use Rattle.processor.proofs.results.put_field.Goals as goal

pub returns-in_err-put_header : goal.returns-in_err-put_header
returns-in_err-put_header g c =
    let p = err_from_is_err_and c.from_residual.result c.from_residual.ensures.1 in
    rw p.1 tt

pub returns : goal.returns
returns g c =
    behind_header c.put_behind.result g.C.WireProtocol.encoder (field_header_of c.header_of-header.result) (heading g.C.WireProtocol.encoder.flags c.args.id (tree_of c.args.value.now)) _ _ _ (text g.C.WireProtocol.encoder (tree_of c.args.value.now))
    (c.header_of-header.ensures ∙ ap (λ z. heading g.C.WireProtocol.encoder.flags z (tree_of c.args.value.now)) (to_z-of_z w16 c.args.id c.ranges.id))
    c.in_ok-put_header.ensures.ok c.put_behind.ensures
