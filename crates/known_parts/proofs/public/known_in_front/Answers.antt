use Rattle.std.proofs.Common.{pos, suc, length, Ok, refl, sym, ap, ◌∙◌}
use Rattle.std.proofs.lemmas.Result.{err_from_is_err_and}
use Rattle.thrift_value.specs.declared.tag.Tag.TheVariants.{Struct}
use Rattle.thrift_value.specs.Tree.{of_struct}
use Rattle.thrift_value.proofs.Trees.{tree_of-Struct}
use Rattle.schema.specs.SchemaOf.{schema_of}
use Rattle.wire_model.specs.Reading.{value, field_list}
use Rattle.wire_walk.proofs.Faults.{fails_same, fails_told}
use Rattle.wire_walk.proofs.Opened.{not_counted, struct_is}
use Rattle.known_parts.specs.KnownAt.{read_seen, known_struct}
use Rattle.known_parts.proofs.Knowing.{seen_fails}
use Rattle.known_parts.proofs.KnownWhole.{whole_seen}
use Rattle.known_parts.proofs.public.known_in_front.Goals as goal

pub returns-in_err-rest : goal.returns-in_err-rest
returns-in_err-rest g c =
    let p = err_from_is_err_and c.from_residual.result c.from_residual.ensures.1 in
    rw (p.1, p.2)
    (seen_fails (known_struct (schema_of c.args.schema.now) c.args.which) c.in_err-rest.field-0.0 (value g.W.WireProtocol.wire 64 Struct c.args.rest)
    (not_counted g.W.WireProtocol.wire 64 Struct c.args.rest c.in_err-rest.field-0.0 (fails_told _ _ c.in_err-rest.ensures)))

pub returns-in_err-fields : goal.returns-in_err-fields
returns-in_err-fields g c =
    let p = err_from_is_err_and c.from_residual-in_err-fields.result c.from_residual-in_err-fields.ensures.1 in
    rw (p.1, p.2)
    (fails_same c.in_err-fields.field-0.0 _ _
    (sym (whole_seen (schema_of c.args.schema.now) c.args.which (value g.W.WireProtocol.wire 64 Struct c.args.rest)
    (field_list g.W.WireProtocol.wire (value g.W.WireProtocol.wire 63) (length c.in_ok-rest.rest.bytes) (pos 0) c.in_ok-rest.rest)
    (struct_is g.W.WireProtocol.wire 64 63 Struct c.args.rest c.in_ok-rest.rest c.in_ok-rest.ensures refl refl)))
    (seen_fails of_struct c.in_err-fields.field-0.0 _ c.in_err-fields.ensures))

pub returns : goal.returns
returns g c =
    whole_seen (schema_of c.args.schema.now) c.args.which (value g.W.WireProtocol.wire 64 Struct c.args.rest)
    (field_list g.W.WireProtocol.wire (value g.W.WireProtocol.wire 63) (length c.in_ok-rest.rest.bytes) (pos 0) c.in_ok-rest.rest)
    (struct_is g.W.WireProtocol.wire 64 63 Struct c.args.rest c.in_ok-rest.rest c.in_ok-rest.ensures refl refl)
    ∙ ap (read_seen of_struct) c.in_ok-fields.ensures
    ∙ ap (λ x. Ok (x, c.in_ok-fields.rest)) (sym (tree_of-Struct c.in_ok-fields.fields))
