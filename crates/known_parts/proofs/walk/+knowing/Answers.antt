use Rattle.std.proofs.Common.{◌≡◌, ℤ, suc, ◌+◌, ◌-◌, ◌∙◌, length, Some, None, Ok, sym, ap, subst, arith, rules, FitsSigned, to_z, of_z}
use Rattle.std.specs.Int.{w16}
use Rattle.std.proofs.lemmas.Int.{to_z-of_z}
use Rattle.std.proofs.lemmas.Result.{err_from_is_err_and}
use Rattle.thrift_value.specs.declared.tag.Tag.{Tag}
use Rattle.thrift_value.specs.Tree.{ItemTrees}
use Rattle.schema.specs.PlainKind.{kind_of, kind_struct, kind_map}
use Rattle.schema.specs.SchemaOf.{schema_of, plain_field}
use Rattle.wire_num.specs.Encoded.{AreByteSized}
use Rattle.wire_model.specs.declared.one_pass.FieldHead.TheVariants.{Field}
use Rattle.wire_model.specs.AtPlace.{head_of}
use Rattle.wire_model.specs.Reading.{value}
use Rattle.wire_walk.proofs.Faults.{fails_told, on_ok}
use Rattle.wire_walk.proofs.Opened.{not_counted, counted, bytes_is, held_is, no_struct, no_map, no_elements, struct_held, map_held, elements_held, set_held, list_held, scalar_is}
use Rattle.wire_walk.specs.Walked.{elements}
use Rattle.known_parts.specs.Known.{known, known_items}
use Rattle.known_parts.specs.KnownAt.{read_seen}
use Rattle.known_parts.specs.Parts.{tag_of_kind, are_same_tags}
use Rattle.known_parts.proofs.Knowing.{is_scalar, seen_fails, step_fails, is_too_deep, seen_alike, answers_alike, struct_seen, map_seen, elements_seen, set_seen, list_seen, kind_seen, tag_unknown, leaf_known, text_seen, same_tags}
use Rattle.known_parts.proofs.KnownElements.{known_items_begin, known_items_fail, known_items_step, known_items_misfit, known_items_misfit_fail, known_items_end}
use Rattle.known_parts.proofs.KnownPairs.{known_pairs_begin, known_key_fails, known_value_fails, known_pairs_step, known_pairs_misfit, known_pairs_misfit_fail, known_pairs_end}
use Rattle.known_parts.proofs.KnownFields.{known_fields_begin, known_head_fails, known_part_fails, known_field_step, known_fields_end, known_fields_run_out, flag_fails_known, flag_known, value_known, value_undeclared}
use Rattle.known_parts.proofs.walk.+knowing.Goals as goal

pub known_field-returns-in_err-rest : goal.known_field-returns-in_err-rest
known_field-returns-in_err-rest g t c =
    let p = err_from_is_err_and c.from_residual.result c.from_residual.ensures.1 in
    rw (p.1, p.2)
    (flag_fails_known g.W.WireProtocol.wire (schema_of c.args.schema.now) c.args.levels c.args.which c.args.id.now c.args.tag c.args.flag c.in-Some.flag c.args.rest c.in_err-rest.field-0.0 c.in-Some.is c.in_err-rest.ensures)

pub known_field-returns-in-Some : goal.known_field-returns-in-Some
known_field-returns-in-Some g t c =
    flag_known g.W.WireProtocol.wire (schema_of c.args.schema.now) c.args.levels c.args.which c.args.id.now c.args.tag c.args.flag c.in-Some.flag c.args.rest c.in_ok-rest.rest c.known_flag.result c.in-Some.is c.in_ok-rest.ensures c.known_flag.ensures

pub known_field-returns-in-Some-declared_field : goal.known_field-returns-in-Some-declared_field
known_field-returns-in-Some-declared_field g t c =
    let none : c.args.flag ≡ None = search (rules, c.in_default) in
    answers_alike _ c.known_value.result _ _ (value_known g.W.WireProtocol.wire (schema_of c.args.schema.now) c.args.levels c.args.which c.args.id.now c.args.tag c.args.flag (plain_field c.in-Some-declared_field.declared.now) c.args.rest none c.in-Some-declared_field.ensures) c.known_value.ensures

pub known_field-returns-in-None : goal.known_field-returns-in-None
known_field-returns-in-None g t c =
    let none : c.args.flag ≡ None = search (rules, c.in_default) in
    answers_alike _ c.unknown.result _ _ (value_undeclared g.W.WireProtocol.wire (schema_of c.args.schema.now) c.args.levels c.args.which c.args.id.now c.args.tag c.args.flag c.args.rest none c.in-None.ensures) c.unknown.ensures

pub known_fields-loop-step-init : goal.known_fields-loop-step-init
known_fields-loop-step-init g t c =
    known_fields_begin g.W.WireProtocol.wire (schema_of c.args.schema.now) c.args.levels c.args.which _ _ c.args.rest c.new-fields.ensures.items (let same : length c.bytes-step-end.result.now - 0 ≡ length c.args.rest.bytes = omega (arith, ap length c.bytes-step-end.ensures) in same)

pub known_fields-returns-in_err-head : goal.known_fields-returns-in_err-head
known_fields-returns-in_err-head g t c =
    let p = err_from_is_err_and c.from_residual.result c.from_residual.ensures.1 in
    rw (p.1, p.2)
    (known_head_fails g.W.WireProtocol.wire (schema_of c.args.schema.now) c.args.levels c.args.which c.loop-step.fields.items (length c.bytes-step-end.result.now - c.loop-step.step) (length c.bytes-step-end.result.now - (c.loop-step.step + 1)) (to_z w16 c.loop-step.last-bits) c.loop-step.rest c.args.rest c.in_err-head.field-0.0 (let more : length c.bytes-step-end.result.now - c.loop-step.step ≡ suc (length c.bytes-step-end.result.now - (c.loop-step.step + 1)) = omega arith in more) c.loop-step.invariant c.in_err-head.ensures)

pub known_fields-returns-in-Stop : goal.known_fields-returns-in-Stop
known_fields-returns-in-Stop g t c =
    known_fields_end g.W.WireProtocol.wire (schema_of c.args.schema.now) c.args.levels c.args.which c.loop-step.fields.items c.new.result (length c.bytes-step-end.result.now - c.loop-step.step) (length c.bytes-step-end.result.now - (c.loop-step.step + 1)) (to_z w16 c.loop-step.last-bits) c.loop-step.rest c.in_ok-head.behind c.args.rest (let more : length c.bytes-step-end.result.now - c.loop-step.step ≡ suc (length c.bytes-step-end.result.now - (c.loop-step.step + 1)) = omega arith in more) c.loop-step.invariant (c.in_ok-head.ensures ∙ ap (λ h. Ok (head_of h, c.in_ok-head.behind)) c.in-Stop.is) c.new.ensures

pub known_fields-returns-in_err-part-in-Field : goal.known_fields-returns-in_err-part-in-Field
known_fields-returns-in_err-part-in-Field g t c =
    let fits : FitsSigned w16 c.in-Field.id = search rules in
    let id : ℤ = to_z w16 (of_z w16 c.in-Field.id) in
    let same : c.in-Field.id ≡ id = sym (to_z-of_z w16 c.in-Field.id fits) in
    let p = err_from_is_err_and c.from_residual-in_err-part-in-Field.result c.from_residual-in_err-part-in-Field.ensures.1 in
    rw (p.1, p.2)
    (known_part_fails g.W.WireProtocol.wire (schema_of c.args.schema.now) c.args.levels c.args.which c.loop-step.fields.items (length c.bytes-step-end.result.now - c.loop-step.step) (length c.bytes-step-end.result.now - (c.loop-step.step + 1)) (to_z w16 c.loop-step.last-bits) id c.in-Field.tag c.in-Field.flag c.loop-step.rest c.in_ok-head.behind c.args.rest c.in_err-part-in-Field.field-0.0 (let more : length c.bytes-step-end.result.now - c.loop-step.step ≡ suc (length c.bytes-step-end.result.now - (c.loop-step.step + 1)) = omega arith in more) c.loop-step.invariant (c.in_ok-head.ensures ∙ ap (λ h. Ok (head_of h, c.in_ok-head.behind)) c.in-Field.is ∙ ap (λ z. Ok (head_of (Field z c.in-Field.tag c.in-Field.flag), c.in_ok-head.behind)) same) c.in_err-part-in-Field.ensures)

pub known_fields-loop-step-preserved : goal.known_fields-loop-step-preserved
known_fields-loop-step-preserved g t c =
    let fits : FitsSigned w16 c.in-Field.id = search rules in
    let id : ℤ = to_z w16 (of_z w16 c.in-Field.id) in
    let same : c.in-Field.id ≡ id = sym (to_z-of_z w16 c.in-Field.id fits) in
    known_field_step g.W.WireProtocol.wire (schema_of c.args.schema.now) c.args.levels c.args.which c.loop-step.fields.items _ c.in_ok-part-in-Field.part (length c.bytes-step-end.result.now - c.loop-step.step) (length c.bytes-step-end.result.now - (c.loop-step.step + 1)) (to_z w16 c.loop-step.last-bits) id c.in-Field.tag c.in-Field.flag c.loop-step.rest c.in_ok-head.behind c.in_ok-part-in-Field.behind c.args.rest (let more : length c.bytes-step-end.result.now - c.loop-step.step ≡ suc (length c.bytes-step-end.result.now - (c.loop-step.step + 1)) = omega arith in more) c.loop-step.invariant (c.in_ok-head.ensures ∙ ap (λ h. Ok (head_of h, c.in_ok-head.behind)) c.in-Field.is ∙ ap (λ z. Ok (head_of (Field z c.in-Field.tag c.in-Field.flag), c.in_ok-head.behind)) same) c.in_ok-part-in-Field.ensures c.in_ok-keep_some-in-Field.ensures

pub known_fields-returns : goal.known_fields-returns
known_fields-returns g t c =
    known_fields_run_out g.W.WireProtocol.wire (schema_of c.args.schema.now) c.args.levels c.args.which c.loop-step.fields.items (length c.bytes-step-end.result.now - c.loop-step.step) (to_z w16 c.loop-step.last-bits) c.loop-step.rest c.args.rest (let none : length c.bytes-step-end.result.now - c.loop-step.step ≡ 0 = omega arith in none) c.loop-step.invariant

pub known_items-loop-step-init : goal.known_items-loop-step-init
known_items-loop-step-init g t c =
    known_items_begin g.W.WireProtocol.wire (schema_of c.args.schema.now) c.args.levels (kind_of c.args.kind.now) c.args.tag _ _ c.args.count c.args.rest c.new-items.ensures.items (omega arith)

pub known_items-returns-in_err-part : goal.known_items-returns-in_err-part
known_items-returns-in_err-part g t c =
    let p = err_from_is_err_and c.from_residual.result c.from_residual.ensures.1 in
    rw (p.1, p.2)
    (known_items_fail g.W.WireProtocol.wire (schema_of c.args.schema.now) c.args.levels (kind_of c.args.kind.now) c.args.tag c.loop-step.items.items (c.args.count - c.loop-step.step) (c.args.count - (c.loop-step.step + 1)) c.loop-step.rest c.args.count c.args.rest c.in_err-part.field-0.0 (let more : c.args.count - c.loop-step.step ≡ suc (c.args.count - (c.loop-step.step + 1)) = omega arith in more) c.loop-step.invariant c.in_err-part.ensures)

pub known_items-returns-in_err-end : goal.known_items-returns-in_err-end
known_items-returns-in_err-end g t c =
    let none : c.in_ok-part.part ≡ None = search (rules, c.in_default) in
    let p = err_from_is_err_and c.from_residual-in_err-end.result c.from_residual-in_err-end.ensures.1 in
    rw (p.1, p.2)
    (known_items_misfit_fail g.W.WireProtocol.wire (schema_of c.args.schema.now) c.args.levels (kind_of c.args.kind.now) c.args.tag c.loop-step.items.items c.in_ok-part.part (c.args.count - c.loop-step.step) (c.args.count - c.loop-step.step - 1) c.loop-step.rest c.in_ok-part.behind c.args.count c.args.rest c.in_err-end.field-0.0 (let more : c.args.count - c.loop-step.step ≡ suc (c.args.count - c.loop-step.step - 1) = omega arith in more) c.loop-step.invariant none c.in_ok-part.ensures c.in_err-end.ensures)

pub known_items-returns-in_default : goal.known_items-returns-in_default
known_items-returns-in_default g t c =
    let none : c.in_ok-part.part ≡ None = search (rules, c.in_default) in
    known_items_misfit g.W.WireProtocol.wire (schema_of c.args.schema.now) c.args.levels (kind_of c.args.kind.now) c.args.tag c.loop-step.items.items c.in_ok-part.part (c.args.count - c.loop-step.step) (c.args.count - c.loop-step.step - 1) c.loop-step.rest c.in_ok-part.behind c.in_ok-end.end c.args.count c.args.rest (let more : c.args.count - c.loop-step.step ≡ suc (c.args.count - c.loop-step.step - 1) = omega arith in more) c.loop-step.invariant none c.in_ok-part.ensures c.in_ok-end.ensures

pub known_items-loop-step-preserved : goal.known_items-loop-step-preserved
known_items-loop-step-preserved g t c =
    known_items_step g.W.WireProtocol.wire (schema_of c.args.schema.now) c.args.levels (kind_of c.args.kind.now) c.args.tag c.loop-step.items.items _ c.in-Some.value c.in_ok-part.part (c.args.count - c.loop-step.step) (c.args.count - (c.loop-step.step + 1)) c.loop-step.rest c.in_ok-part.behind c.args.count c.args.rest (let more : c.args.count - c.loop-step.step ≡ suc (c.args.count - (c.loop-step.step + 1)) = omega arith in more) c.loop-step.invariant c.in-Some.is c.in_ok-part.ensures c.in_ok-keep.ensures

pub known_items-returns : goal.known_items-returns
known_items-returns g t c =
    known_items_end g.W.WireProtocol.wire (schema_of c.args.schema.now) c.args.levels (kind_of c.args.kind.now) c.args.tag c.loop-step.items.items c.new.result (c.args.count - c.loop-step.step) c.loop-step.rest c.args.count c.args.rest (let none : c.args.count - c.loop-step.step ≡ 0 = omega arith in none) c.loop-step.invariant c.new.ensures

pub known_pairs-loop-step-init : goal.known_pairs-loop-step-init
known_pairs-loop-step-init g t c =
    known_pairs_begin g.W.WireProtocol.wire (schema_of c.args.schema.now) c.args.levels (kind_of c.args.key_kind.now) (kind_of c.args.value_kind.now) c.args.key_tag c.args.value_tag _ _ c.args.count c.args.rest c.new-pairs.ensures.items (omega arith)

pub known_pairs-returns-in_err-key : goal.known_pairs-returns-in_err-key
known_pairs-returns-in_err-key g t c =
    let p = err_from_is_err_and c.from_residual.result c.from_residual.ensures.1 in
    rw (p.1, p.2)
    (known_key_fails g.W.WireProtocol.wire (schema_of c.args.schema.now) c.args.levels (kind_of c.args.key_kind.now) (kind_of c.args.value_kind.now) c.args.key_tag c.args.value_tag c.loop-step.pairs.items (c.args.count - c.loop-step.step) (c.args.count - (c.loop-step.step + 1)) c.loop-step.rest c.args.count c.args.rest c.in_err-key.field-0.0 (let more : c.args.count - c.loop-step.step ≡ suc (c.args.count - (c.loop-step.step + 1)) = omega arith in more) c.loop-step.invariant c.in_err-key.ensures)

pub known_pairs-returns-in_err-value : goal.known_pairs-returns-in_err-value
known_pairs-returns-in_err-value g t c =
    let p = err_from_is_err_and c.from_residual-in_err-value.result c.from_residual-in_err-value.ensures.1 in
    rw (p.1, p.2)
    (known_value_fails g.W.WireProtocol.wire (schema_of c.args.schema.now) c.args.levels (kind_of c.args.key_kind.now) (kind_of c.args.value_kind.now) c.args.key_tag c.args.value_tag c.loop-step.pairs.items c.in_ok-key.key (c.args.count - c.loop-step.step) (c.args.count - (c.loop-step.step + 1)) c.loop-step.rest c.in_ok-key.between c.args.count c.args.rest c.in_err-value.field-0.0 (let more : c.args.count - c.loop-step.step ≡ suc (c.args.count - (c.loop-step.step + 1)) = omega arith in more) c.loop-step.invariant c.in_ok-key.ensures c.in_err-value.ensures)

pub known_pairs-returns-in_err-end : goal.known_pairs-returns-in_err-end
known_pairs-returns-in_err-end g t c =
    let none : c.both.result ≡ None = search (rules, c.in_default) in
    let p = err_from_is_err_and c.from_residual-in_err-end.result c.from_residual-in_err-end.ensures.1 in
    rw (p.1, p.2)
    (known_pairs_misfit_fail g.W.WireProtocol.wire (schema_of c.args.schema.now) c.args.levels (kind_of c.args.key_kind.now) (kind_of c.args.value_kind.now) c.args.key_tag c.args.value_tag c.loop-step.pairs.items c.in_ok-key.key c.in_ok-value.value c.both.result (c.args.count - c.loop-step.step) (c.args.count - c.loop-step.step - 1) c.loop-step.rest c.in_ok-key.between c.in_ok-value.behind c.args.count c.args.rest c.in_err-end.field-0.0 (let more : c.args.count - c.loop-step.step ≡ suc (c.args.count - c.loop-step.step - 1) = omega arith in more) c.loop-step.invariant c.in_ok-key.ensures c.in_ok-value.ensures c.both.ensures none c.in_err-end.ensures)

pub known_pairs-returns-in_default : goal.known_pairs-returns-in_default
known_pairs-returns-in_default g t c =
    let none : c.both.result ≡ None = search (rules, c.in_default) in
    known_pairs_misfit g.W.WireProtocol.wire (schema_of c.args.schema.now) c.args.levels (kind_of c.args.key_kind.now) (kind_of c.args.value_kind.now) c.args.key_tag c.args.value_tag c.loop-step.pairs.items c.in_ok-key.key c.in_ok-value.value c.both.result (c.args.count - c.loop-step.step) (c.args.count - c.loop-step.step - 1) c.loop-step.rest c.in_ok-key.between c.in_ok-value.behind c.in_ok-end.end c.args.count c.args.rest (let more : c.args.count - c.loop-step.step ≡ suc (c.args.count - c.loop-step.step - 1) = omega arith in more) c.loop-step.invariant c.in_ok-key.ensures c.in_ok-value.ensures c.both.ensures none c.in_ok-end.ensures

pub known_pairs-loop-step-preserved : goal.known_pairs-loop-step-preserved
known_pairs-loop-step-preserved g t c =
    known_pairs_step g.W.WireProtocol.wire (schema_of c.args.schema.now) c.args.levels (kind_of c.args.key_kind.now) (kind_of c.args.value_kind.now) c.args.key_tag c.args.value_tag c.loop-step.pairs.items _ c.in-Some.found c.in_ok-key.key c.in_ok-value.value c.both.result (c.args.count - c.loop-step.step) (c.args.count - (c.loop-step.step + 1)) c.loop-step.rest c.in_ok-key.between c.in_ok-value.behind c.args.count c.args.rest (let more : c.args.count - c.loop-step.step ≡ suc (c.args.count - (c.loop-step.step + 1)) = omega arith in more) c.loop-step.invariant c.in_ok-key.ensures c.in_ok-value.ensures c.both.ensures c.in-Some.is c.in_ok-keep.ensures

pub known_pairs-returns : goal.known_pairs-returns
known_pairs-returns g t c =
    known_pairs_end g.W.WireProtocol.wire (schema_of c.args.schema.now) c.args.levels (kind_of c.args.key_kind.now) (kind_of c.args.value_kind.now) c.args.key_tag c.args.value_tag c.loop-step.pairs.items c.new.result (c.args.count - c.loop-step.step) c.loop-step.rest c.args.count c.args.rest (let none : c.args.count - c.loop-step.step ≡ 0 = omega arith in none) c.loop-step.invariant c.new.ensures

pub known_value-returns-then-not-are_same_tags : goal.known_value-returns-then-not-are_same_tags
known_value-returns-then-not-are_same_tags g t c =
    answers_alike _ c.unknown.result _ _
    (seen_alike (λ x. None) (λ x. known (schema_of c.args.schema.now) x (kind_of c.args.kind.now)) (value g.W.WireProtocol.wire c.args.levels c.args.tag c.args.rest)
    (λ x after e. sym (tag_unknown (schema_of c.args.schema.now) x (kind_of c.args.kind.now) c.args.tag (c.value_read_is_spelled.ensures c.args.levels c.args.tag c.args.rest after x (subst AreByteSized c.bytes.ensures c.are_bytes.ensures) e).kind (c.if-not-are_same_tags.ensures ∙ ap (λ a. are_same_tags a c.args.tag) c.tag_of_kind.ensures))))
    c.unknown.ensures

pub known_value-returns-in_err-rest : goal.known_value-returns-in_err-rest
known_value-returns-in_err-rest g t c =
    let p = err_from_is_err_and c.from_residual.result c.from_residual.ensures.1 in
    rw (p.1, p.2)
    (seen_fails (λ x. known (schema_of c.args.schema.now) x (kind_of c.args.kind.now)) c.in_err-rest.field-0.0 (value g.W.WireProtocol.wire c.args.levels c.args.tag c.args.rest) (not_counted g.W.WireProtocol.wire c.args.levels c.args.tag c.args.rest c.in_err-rest.field-0.0 (fails_told _ _ c.in_err-rest.ensures)))

pub known_value-returns-in-Bytes : goal.known_value-returns-in-Bytes
known_value-returns-in-Bytes g t c =
    answers_alike _ c.known_text.result _ _
    (text_seen (schema_of c.args.schema.now) (kind_of c.args.kind.now) c.args.tag (g.W.WireProtocol.wire.span c.in_ok-rest.rest) (value g.W.WireProtocol.wire c.args.levels c.args.tag c.args.rest) c.in-Bytes.is (c.if-not-are_same_tags.ensures ∙ ap (λ a. are_same_tags a c.args.tag) c.tag_of_kind.ensures)
    (bytes_is g.W.WireProtocol.wire c.args.levels c.args.tag c.args.rest c.in_ok-rest.rest c.in_ok-rest.ensures c.in-Bytes.is))
    c.known_text.ensures

pub known_value-struct_kind-requires : goal.known_value-struct_kind-requires
known_value-struct_kind-requires g t c =
    same_tags (tag_of_kind (kind_of c.args.kind.now)) c.args.tag (c.if-not-are_same_tags.ensures ∙ ap (λ a. are_same_tags a c.args.tag) c.tag_of_kind.ensures) ∙ c.in-Struct.is

pub known_value-map_kinds-requires : goal.known_value-map_kinds-requires
known_value-map_kinds-requires g t c =
    same_tags (tag_of_kind (kind_of c.args.kind.now)) c.args.tag (c.if-not-are_same_tags.ensures ∙ ap (λ a. are_same_tags a c.args.tag) c.tag_of_kind.ensures) ∙ c.in-Map.is

pub known_value-member_kind-member-requires : goal.known_value-member_kind-member-requires
known_value-member_kind-member-requires g t c =
    same_tags (tag_of_kind (kind_of c.args.kind.now)) c.args.tag (c.if-not-are_same_tags.ensures ∙ ap (λ a. are_same_tags a c.args.tag) c.tag_of_kind.ensures) ∙ c.in-Set.is

pub known_value-element_kind-element-requires : goal.known_value-element_kind-element-requires
known_value-element_kind-element-requires g t c =
    same_tags (tag_of_kind (kind_of c.args.kind.now)) c.args.tag (c.if-not-are_same_tags.ensures ∙ ap (λ a. are_same_tags a c.args.tag) c.tag_of_kind.ensures) ∙ c.in-List.is

pub known_value-returns-in_default : goal.known_value-returns-in_default
known_value-returns-in_default g t c =
    let read = scalar_is g.W.WireProtocol.wire c.args.levels c.args.tag c.args.rest c.in_ok-rest.rest c.in_ok-rest.ensures c.in_default.not-Bytes c.in_default.not-Struct c.in_default.not-Map c.in_default.not-Set c.in_default.not-List in
    answers_alike _ c.known_number.result _ _
    (ap (read_seen (λ x. Some x)) read
    ∙ seen_alike (λ x. Some x) (λ x. known (schema_of c.args.schema.now) x (kind_of c.args.kind.now)) (value g.W.WireProtocol.wire c.args.levels c.args.tag c.args.rest)
    (λ x after e. sym (leaf_known (schema_of c.args.schema.now) x (kind_of c.args.kind.now) c.args.tag (c.value_read_is_spelled.ensures c.args.levels c.args.tag c.args.rest after x (subst AreByteSized c.bytes.ensures c.are_bytes.ensures) e).kind (c.if-not-are_same_tags.ensures ∙ ap (λ a. are_same_tags a c.args.tag) c.tag_of_kind.ensures)
    c.in_default.not-Struct c.in_default.not-Map c.in_default.not-Set c.in_default.not-List)))
    c.known_number.ensures

pub known_value-returns-in-Struct : goal.known_value-returns-in-Struct
known_value-returns-in-Struct g t c =
    answers_alike _ c.known_struct.result _ _
    (kind_seen (schema_of c.args.schema.now) (kind_of c.args.kind.now) _ _ _ c.struct_kind.ensures (held_is g.W.WireProtocol.wire c.args.levels c.args.tag _ c.in_ok-rest.rest c.in-Struct.is ∙ sym (counted g.W.WireProtocol.wire c.args.levels c.args.tag c.args.rest c.in_ok-rest.rest c.in_ok-rest.ensures)))
    c.known_struct.ensures

pub known_value-returns-in-Map : goal.known_value-returns-in-Map
known_value-returns-in-Map g t c =
    answers_alike _ c.known_map.result _ _
    (kind_seen (schema_of c.args.schema.now) (kind_of c.args.kind.now) _ _ _ c.map_kinds.ensures (held_is g.W.WireProtocol.wire c.args.levels c.args.tag _ c.in_ok-rest.rest c.in-Map.is ∙ sym (counted g.W.WireProtocol.wire c.args.levels c.args.tag c.args.rest c.in_ok-rest.rest c.in_ok-rest.ensures)))
    c.known_map.ensures

pub known_value-returns-in-Set : goal.known_value-returns-in-Set
known_value-returns-in-Set g t c =
    answers_alike _ c.set_in.result _ _
    (set_seen (schema_of c.args.schema.now) (kind_of c.args.kind.now) (kind_of c.member_kind-member.result.now) _ (elements g.W.WireProtocol.wire c.args.levels c.in_ok-rest.rest) c.member_kind-member.ensures
    (set_held g.W.WireProtocol.wire c.args.levels c.args.tag c.in_ok-rest.rest c.in-Set.is ∙ sym (counted g.W.WireProtocol.wire c.args.levels c.args.tag c.args.rest c.in_ok-rest.rest c.in_ok-rest.ensures)))
    (c.set_in.ensures _ c.known_elements.ensures)

pub known_value-returns-in-List : goal.known_value-returns-in-List
known_value-returns-in-List g t c =
    answers_alike _ c.list_in.result _ _
    (list_seen (schema_of c.args.schema.now) (kind_of c.args.kind.now) (kind_of c.element_kind-element.result.now) _ (elements g.W.WireProtocol.wire c.args.levels c.in_ok-rest.rest) c.element_kind-element.ensures
    (list_held g.W.WireProtocol.wire c.args.levels c.args.tag c.in_ok-rest.rest c.in-List.is ∙ sym (counted g.W.WireProtocol.wire c.args.levels c.args.tag c.args.rest c.in_ok-rest.rest c.in_ok-rest.ensures)))
    (c.list_in.ensures _ c.known_elements-in-List.ensures)

pub known_struct-returns-in_err-levels : goal.known_struct-returns-in_err-levels
known_struct-returns-in_err-levels g t c =
    let p = err_from_is_err_and c.from_residual.result c.from_residual.ensures.1 in
    rw (p.1, p.2)
    (is_too_deep (λ x. known (schema_of c.args.schema.now) x (kind_struct c.args.which)) c.in_err-levels.field-0.0 _ c.in_err-levels.ensures.1 (no_struct g.W.WireProtocol.wire c.args.levels c.args.rest c.in_err-levels.ensures.0))

pub known_map-returns-in_err-levels : goal.known_map-returns-in_err-levels
known_map-returns-in_err-levels g t c =
    let p = err_from_is_err_and c.from_residual.result c.from_residual.ensures.1 in
    rw (p.1, p.2)
    (is_too_deep (λ x. known (schema_of c.args.schema.now) x (kind_map (kind_of c.args.key.now) (kind_of c.args.value.now))) c.in_err-levels.field-0.0 _ c.in_err-levels.ensures.1 (no_map g.W.WireProtocol.wire c.args.levels c.args.rest c.in_err-levels.ensures.0))

pub known_elements-returns-in_err-levels : goal.known_elements-returns-in_err-levels
known_elements-returns-in_err-levels g t c =
    let p = err_from_is_err_and c.from_residual.result c.from_residual.ensures.1 in
    rw (p.1, p.2)
    (is_too_deep (λ (e : Tag × ItemTrees). known_items (schema_of c.args.schema.now) e.1 (kind_of c.args.kind.now)) c.in_err-levels.field-0.0 _ c.in_err-levels.ensures.1 (no_elements g.W.WireProtocol.wire c.args.levels c.args.rest c.in_err-levels.ensures.0))

pub known_struct-returns : goal.known_struct-returns
known_struct-returns g t c =
    answers_alike _ c.struct_in.result _ _
    (struct_seen (schema_of c.args.schema.now) c.args.which _ _ (struct_held g.W.WireProtocol.wire c.args.levels c.in_ok-levels.levels c.args.rest c.in_ok-levels.ensures))
    (c.struct_in.ensures _ c.known_fields.ensures)

pub known_map-returns-in_err-key_tag : goal.known_map-returns-in_err-key_tag
known_map-returns-in_err-key_tag g t c =
    let p = err_from_is_err_and c.from_residual-in_err-key_tag.result c.from_residual-in_err-key_tag.ensures.1 in
    rw (p.1, p.2)
    (step_fails _ c.in_err-key_tag.field-0.0 _ (g.W.WireProtocol.wire.pairs c.args.rest) _ (sym (map_held g.W.WireProtocol.wire c.args.levels c.in_ok-levels.levels c.args.rest c.in_ok-levels.ensures)) (fails_told _ _ c.in_err-key_tag.ensures))

pub known_map-returns : goal.known_map-returns
known_map-returns g t c =
    answers_alike _ c.map_in.result _ _
    (map_seen (schema_of c.args.schema.now) (kind_of c.args.key.now) (kind_of c.args.value.now) c.in_ok-key_tag.key_tag c.in_ok-key_tag.value_tag _ _
    (sym (on_ok (g.W.WireProtocol.wire.pairs c.args.rest) _ (c.in_ok-key_tag.key_tag, c.in_ok-key_tag.value_tag, c.in_ok-key_tag.count) c.in_ok-key_tag.rest c.in_ok-key_tag.ensures) ∙ map_held g.W.WireProtocol.wire c.args.levels c.in_ok-levels.levels c.args.rest c.in_ok-levels.ensures))
    (c.map_in.ensures _ c.known_pairs.ensures)

pub known_elements-returns-in_err-tag : goal.known_elements-returns-in_err-tag
known_elements-returns-in_err-tag g t c =
    let p = err_from_is_err_and c.from_residual-in_err-tag.result c.from_residual-in_err-tag.ensures.1 in
    rw (p.1, p.2)
    (step_fails _ c.in_err-tag.field-0.0 _ (g.W.WireProtocol.wire.items c.args.rest) _ (sym (elements_held g.W.WireProtocol.wire c.args.levels c.in_ok-levels.levels c.args.rest c.in_ok-levels.ensures)) (fails_told _ _ c.in_err-tag.ensures))

pub known_elements-returns : goal.known_elements-returns
known_elements-returns g t c =
    answers_alike _ c.known_items.result _ _
    (elements_seen (schema_of c.args.schema.now) (kind_of c.args.kind.now) c.in_ok-tag.tag _ _
    (sym (on_ok (g.W.WireProtocol.wire.items c.args.rest) _ (c.in_ok-tag.tag, c.in_ok-tag.count) c.in_ok-tag.rest c.in_ok-tag.ensures) ∙ elements_held g.W.WireProtocol.wire c.args.levels c.in_ok-levels.levels c.args.rest c.in_ok-levels.ensures))
    c.known_items.ensures

-- what each call requires of those that it is made of

pub known_value-known_struct-requires : goal.known_value-known_struct-requires
known_value-known_struct-requires g t c κs within =
    (omega (arith, c.decreases), (search rules, (c.requires.sound, c.requires.levels)))

pub known_value-known_map-requires : goal.known_value-known_map-requires
known_value-known_map-requires g t c κs within =
    (omega (arith, c.decreases), (search rules, (c.requires.sound, c.requires.levels)))

pub known_value-known_elements-requires : goal.known_value-known_elements-requires
known_value-known_elements-requires g t c κs within =
    (omega (arith, c.decreases), (search rules, (c.requires.sound, c.requires.levels)))

pub known_value-known_elements-requires-in-List : goal.known_value-known_elements-requires-in-List
known_value-known_elements-requires-in-List g t c κs within =
    (omega (arith, c.decreases), (search rules, (c.requires.sound, c.requires.levels)))

pub known_struct-known_fields-requires : goal.known_struct-known_fields-requires
known_struct-known_fields-requires g t c κs within =
    let low : c.args.levels ≡ suc c.in_ok-levels.levels = c.in_ok-levels.ensures in
    (omega (arith, c.decreases, low), (search rules, (c.requires.sound, omega (arith, c.requires.levels, low))))

pub known_map-known_pairs-requires : goal.known_map-known_pairs-requires
known_map-known_pairs-requires g t c κs within =
    let low : c.args.levels ≡ suc c.in_ok-levels.levels = c.in_ok-levels.ensures in
    (omega (arith, c.decreases, low), (search rules, (c.requires.sound, omega (arith, c.requires.levels, low))))

pub known_elements-known_items-requires : goal.known_elements-known_items-requires
known_elements-known_items-requires g t c κs within =
    let low : c.args.levels ≡ suc c.in_ok-levels.levels = c.in_ok-levels.ensures in
    (omega (arith, c.decreases, low), (search rules, (c.requires.sound, omega (arith, c.requires.levels, low))))

pub known_field-known_value-requires : goal.known_field-known_value-requires
known_field-known_value-requires g t c κs within =
    (omega (arith, c.decreases), (search rules, (c.requires.sound, c.requires.levels)))

pub known_fields-known_field-requires : goal.known_fields-known_field-requires
known_fields-known_field-requires g t c κs within =
    (omega (arith, c.decreases), (search rules, (c.requires.sound, c.requires.levels)))

pub known_items-known_value-requires : goal.known_items-known_value-requires
known_items-known_value-requires g t c κs within =
    (omega (arith, c.decreases), (search rules, (c.requires.sound, c.requires.levels)))

pub known_pairs-known_value-requires : goal.known_pairs-known_value-requires
known_pairs-known_value-requires g t c κs within =
    (omega (arith, c.decreases), (search rules, (c.requires.sound, c.requires.levels)))

pub known_pairs-known_value-requires-in-loop-step : goal.known_pairs-known_value-requires-in-loop-step
known_pairs-known_value-requires-in-loop-step g t c κs within =
    (omega (arith, c.decreases), (search rules, (c.requires.sound, c.requires.levels)))

pub known_value-known_number-requires : goal.known_value-known_number-requires
known_value-known_number-requires g t c = is_scalar c.args.tag c.in_default.not-Bytes c.in_default.not-Struct c.in_default.not-Map c.in_default.not-Set c.in_default.not-List
