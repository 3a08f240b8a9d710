use Rattle.std.proofs.Common.{◌≡◌, ℤ, pos, suc, ◌+◌, ◌-◌, ◌∙◌, length, Ok, sym, ap, arith, rules, FitsSigned, to_z, of_z}
use Rattle.std.specs.Int.{w16}
use Rattle.std.proofs.lemmas.Int.{to_z-of_z}
use Rattle.std.proofs.lemmas.Result.{err_from_is_err_and}
use Rattle.thrift_value.specs.declared.tag.Tag.TheVariants as tags
use Rattle.thrift_value.specs.Tree.{of_bytes, of_struct, of_map, of_set, of_list}
use Rattle.wire_model.specs.AtPlace.{passed_over}
use Rattle.wire_model.specs.Decoder.{count_value}
use Rattle.wire_model.specs.Reading.{value, item_list, pair_list}
use Rattle.wire_model.specs.Wire.{typed, flagged}
use Rattle.wire_walk.specs.Steps.{field_header_of}
use Rattle.wire_walk.specs.Walked.{held, elements}
use Rattle.wire_walk.proofs.Faults.{on_ok}
use Rattle.wire_walk.proofs.Opened.{counted_first, counted, held_is, text_held, no_struct, no_map, no_elements, struct_held, map_held, elements_held, set_held, list_held, scalar_held}
use Rattle.wire_walk.proofs.PassedOver.{stops_at, exactly_too_deep, answers_same, passed_given, fields_left, header_fails_exactly, field_fails_exactly, flag_fails_exactly, field_passes, flag_passes, fields_passed, headers_run_out, items_fail_exactly, items_pass, items_passed, pairs_fail_exactly, pairs_fail_exactly_later, pairs_pass, pairs_passed}
use Rattle.wire_walk.proofs.passing.+passing.Goals as goal

pub skip-returns-in_err-rest : goal.skip-returns-in_err-rest
skip-returns-in_err-rest g t c =
    let p = err_from_is_err_and c.from_residual.result c.from_residual.ensures.1 in
    rw (p.1, p.2)
    (stops_at c.in_err-rest.field-0.0 (value g.C.WireProtocol.wire c.args.levels c.args.tag c.args.rest) (count_value c.args.rest) _ (counted_first g.C.WireProtocol.wire c.args.levels c.args.tag c.args.rest) c.in_err-rest.ensures)

pub skip-returns : goal.skip-returns
skip-returns g t c =
    answers_same c.skip_held.result _ _ (ap passed_over (sym (counted g.C.WireProtocol.wire c.args.levels c.args.tag c.args.rest c.in_ok-rest.rest c.in_ok-rest.ensures))) c.skip_held.ensures

-- what each kind of value holds

pub skip_held-returns-in-Bytes : goal.skip_held-returns-in-Bytes
skip_held-returns-in-Bytes g t c =
    answers_same c.skip_text.result _ _
    (sym (passed_given (g.C.WireProtocol.wire.span c.args.rest) of_bytes) ∙ ap passed_over (text_held g.C.WireProtocol.wire c.args.levels c.args.tag c.args.rest c.in-Bytes.is)) c.skip_text.ensures

pub skip_held-returns-in-Struct : goal.skip_held-returns-in-Struct
skip_held-returns-in-Struct g t c =
    answers_same c.skip_struct.result _ _ (ap passed_over (held_is g.C.WireProtocol.wire c.args.levels c.args.tag _ c.args.rest c.in-Struct.is)) c.skip_struct.ensures

pub skip_held-returns-in-Map : goal.skip_held-returns-in-Map
skip_held-returns-in-Map g t c =
    answers_same c.skip_map.result _ _ (ap passed_over (held_is g.C.WireProtocol.wire c.args.levels c.args.tag _ c.args.rest c.in-Map.is)) c.skip_map.ensures

pub skip_held-returns-in-Set : goal.skip_held-returns-in-Set
skip_held-returns-in-Set g t c =
    answers_same c.skip_elements.result _ _
    (sym (passed_given (elements g.C.WireProtocol.wire c.args.levels c.args.rest) (λ x. of_set x.0 x.1)) ∙ ap passed_over (set_held g.C.WireProtocol.wire c.args.levels c.args.tag c.args.rest c.in-Set.is)) c.skip_elements.ensures

pub skip_held-returns-in-List : goal.skip_held-returns-in-List
skip_held-returns-in-List g t c =
    answers_same c.skip_elements-in-List.result _ _
    (sym (passed_given (elements g.C.WireProtocol.wire c.args.levels c.args.rest) (λ x. of_list x.0 x.1)) ∙ ap passed_over (list_held g.C.WireProtocol.wire c.args.levels c.args.tag c.args.rest c.in-List.is)) c.skip_elements-in-List.ensures

pub skip_held-returns-in_default : goal.skip_held-returns-in_default
skip_held-returns-in_default g t c =
    answers_same c.skip_scalar.result _ _
    (ap passed_over (scalar_held g.C.WireProtocol.wire c.args.levels c.args.tag c.args.rest c.in_default.not-Bytes c.in_default.not-Struct c.in_default.not-Map c.in_default.not-Set c.in_default.not-List)) c.skip_scalar.ensures

pub skip_struct-returns-in_err-levels : goal.skip_struct-returns-in_err-levels
skip_struct-returns-in_err-levels g t c =
    let p = err_from_is_err_and c.from_residual.result c.from_residual.ensures.1 in
    rw (p.1, p.2)
    (exactly_too_deep c.in_err-levels.field-0.0 (held g.C.WireProtocol.wire c.args.levels tags.Struct c.args.rest) c.in_err-levels.ensures.1 (no_struct g.C.WireProtocol.wire c.args.levels c.args.rest c.in_err-levels.ensures.0))

pub skip_map-returns-in_err-levels : goal.skip_map-returns-in_err-levels
skip_map-returns-in_err-levels g t c =
    let p = err_from_is_err_and c.from_residual.result c.from_residual.ensures.1 in
    rw (p.1, p.2)
    (exactly_too_deep c.in_err-levels.field-0.0 (held g.C.WireProtocol.wire c.args.levels tags.Map c.args.rest) c.in_err-levels.ensures.1 (no_map g.C.WireProtocol.wire c.args.levels c.args.rest c.in_err-levels.ensures.0))

pub skip_elements-returns-in_err-levels : goal.skip_elements-returns-in_err-levels
skip_elements-returns-in_err-levels g t c =
    let p = err_from_is_err_and c.from_residual.result c.from_residual.ensures.1 in
    rw (p.1, p.2)
    (exactly_too_deep c.in_err-levels.field-0.0 (elements g.C.WireProtocol.wire c.args.levels c.args.rest) c.in_err-levels.ensures.1 (no_elements g.C.WireProtocol.wire c.args.levels c.args.rest c.in_err-levels.ensures.0))

pub skip_struct-returns : goal.skip_struct-returns
skip_struct-returns g t c =
    answers_same c.skip_fields.result _ _
    (sym (passed_given (fields_left g.C.WireProtocol.wire c.in_ok-levels.levels (length c.args.rest.bytes) (pos 0) c.args.rest) of_struct)
    ∙ ap passed_over (struct_held g.C.WireProtocol.wire c.args.levels c.in_ok-levels.levels c.args.rest c.in_ok-levels.ensures)) c.skip_fields.ensures

pub skip_map-returns-in_err-key : goal.skip_map-returns-in_err-key
skip_map-returns-in_err-key g t c =
    let p = err_from_is_err_and c.from_residual-in_err-key.result c.from_residual-in_err-key.ensures.1 in
    rw (p.1, p.2)
    (stops_at c.in_err-key.field-0.0 (held g.C.WireProtocol.wire c.args.levels tags.Map c.args.rest) (g.C.WireProtocol.wire.pairs c.args.rest) _ (sym (map_held g.C.WireProtocol.wire c.args.levels c.in_ok-levels.levels c.args.rest c.in_ok-levels.ensures)) c.in_err-key.ensures)

pub skip_map-returns : goal.skip_map-returns
skip_map-returns g t c =
    answers_same c.skip_pairs.result _ _
    (sym (passed_given (pair_list (value g.C.WireProtocol.wire c.in_ok-levels.levels) c.in_ok-key.key c.in_ok-key.value c.in_ok-key.count c.in_ok-key.rest) (of_map c.in_ok-key.key c.in_ok-key.value))
    ∙ ap passed_over (sym (on_ok (g.C.WireProtocol.wire.pairs c.args.rest) _ (c.in_ok-key.key, c.in_ok-key.value, c.in_ok-key.count) c.in_ok-key.rest c.in_ok-key.ensures) ∙ map_held g.C.WireProtocol.wire c.args.levels c.in_ok-levels.levels c.args.rest c.in_ok-levels.ensures)) c.skip_pairs.ensures

pub skip_elements-returns-in_err-element : goal.skip_elements-returns-in_err-element
skip_elements-returns-in_err-element g t c =
    let p = err_from_is_err_and c.from_residual-in_err-element.result c.from_residual-in_err-element.ensures.1 in
    rw (p.1, p.2)
    (stops_at c.in_err-element.field-0.0 (elements g.C.WireProtocol.wire c.args.levels c.args.rest) (g.C.WireProtocol.wire.items c.args.rest) _ (sym (elements_held g.C.WireProtocol.wire c.args.levels c.in_ok-levels.levels c.args.rest c.in_ok-levels.ensures)) c.in_err-element.ensures)

pub skip_elements-returns : goal.skip_elements-returns
skip_elements-returns g t c =
    answers_same c.skip_items.result _ _
    (sym (passed_given (item_list (value g.C.WireProtocol.wire c.in_ok-levels.levels) c.in_ok-element.element c.in_ok-element.count c.in_ok-element.rest) (λ items. (c.in_ok-element.element, items)))
    ∙ ap passed_over (sym (on_ok (g.C.WireProtocol.wire.items c.args.rest) _ (c.in_ok-element.element, c.in_ok-element.count) c.in_ok-element.rest c.in_ok-element.ensures) ∙ elements_held g.C.WireProtocol.wire c.args.levels c.in_ok-levels.levels c.args.rest c.in_ok-levels.ensures)) c.skip_items.ensures

pub skip_fields-returns-in_err-header : goal.skip_fields-returns-in_err-header
skip_fields-returns-in_err-header g t c =
    let p = err_from_is_err_and c.from_residual.result c.from_residual.ensures.1 in
    rw (p.1, p.2)
    (header_fails_exactly g.C.WireProtocol.wire c.args.levels (length c.bytes-step-end.result.now - c.loop-step.step) (length c.bytes-step-end.result.now - (c.loop-step.step + 1)) (to_z w16 c.loop-step.last-bits) c.loop-step.rest c.args.rest c.in_err-header.field-0.0
    (let more : length c.bytes-step-end.result.now - c.loop-step.step ≡ suc (length c.bytes-step-end.result.now - (c.loop-step.step + 1)) = omega arith in more)
    c.loop-step.invariant c.in_err-header.ensures)

pub skip_fields-returns-in-Stop : goal.skip_fields-returns-in-Stop
skip_fields-returns-in-Stop g t c =
    fields_passed g.C.WireProtocol.wire c.args.levels (length c.bytes-step-end.result.now - c.loop-step.step) (length c.bytes-step-end.result.now - (c.loop-step.step + 1)) (to_z w16 c.loop-step.last-bits) c.loop-step.rest c.in_ok-header.behind c.args.rest
    (let more : length c.bytes-step-end.result.now - c.loop-step.step ≡ suc (length c.bytes-step-end.result.now - (c.loop-step.step + 1)) = omega arith in more)
    c.loop-step.invariant (c.in_ok-header.ensures ∙ ap (λ h. Ok (field_header_of h, c.in_ok-header.behind)) c.in-Stop.is)

pub skip_fields-returns-in_err-rest-in-Field : goal.skip_fields-returns-in_err-rest-in-Field
skip_fields-returns-in_err-rest-in-Field g t c =
    let p = err_from_is_err_and c.from_residual-in_err-rest-in-Field.result c.from_residual-in_err-rest-in-Field.ensures.1 in
    rw (p.1, p.2)
    (field_fails_exactly g.C.WireProtocol.wire c.args.levels (length c.bytes-step-end.result.now - c.loop-step.step) (length c.bytes-step-end.result.now - (c.loop-step.step + 1)) (to_z w16 c.loop-step.last-bits) c.loop-step.rest c.in_ok-header.behind c.args.rest c.in-Field.id c.in-Field.tag c.in_err-rest-in-Field.field-0.0
    (let more : length c.bytes-step-end.result.now - c.loop-step.step ≡ suc (length c.bytes-step-end.result.now - (c.loop-step.step + 1)) = omega arith in more)
    c.loop-step.invariant (c.in_ok-header.ensures ∙ ap (λ h. Ok (field_header_of h, c.in_ok-header.behind)) c.in-Field.is) c.in_err-rest-in-Field.ensures)

pub skip_fields-loop-step-preserved-in-Field : goal.skip_fields-loop-step-preserved-in-Field
skip_fields-loop-step-preserved-in-Field g t c =
    let fits : FitsSigned w16 c.in-Field.id = search rules in
    let id : ℤ = to_z w16 (of_z w16 c.in-Field.id) in
    let same : c.in-Field.id ≡ id = sym (to_z-of_z w16 c.in-Field.id fits) in
    field_passes g.C.WireProtocol.wire c.args.levels (length c.bytes-step-end.result.now - c.loop-step.step) (length c.bytes-step-end.result.now - (c.loop-step.step + 1)) (to_z w16 c.loop-step.last-bits) c.loop-step.rest c.in_ok-header.behind c.in_ok-rest-in-Field.rest c.args.rest id c.in-Field.tag
    (let more : length c.bytes-step-end.result.now - c.loop-step.step ≡ suc (length c.bytes-step-end.result.now - (c.loop-step.step + 1)) = omega arith in more)
    c.loop-step.invariant
    (c.in_ok-header.ensures ∙ ap (λ h. Ok (field_header_of h, c.in_ok-header.behind)) c.in-Field.is ∙ ap (λ z. Ok (typed z c.in-Field.tag, c.in_ok-header.behind)) same)
    c.in_ok-rest-in-Field.ensures

pub skip_fields-returns-in_err-rest-in-Flag : goal.skip_fields-returns-in_err-rest-in-Flag
skip_fields-returns-in_err-rest-in-Flag g t c =
    let p = err_from_is_err_and c.from_residual-in_err-rest-in-Flag.result c.from_residual-in_err-rest-in-Flag.ensures.1 in
    rw (p.1, p.2)
    (flag_fails_exactly g.C.WireProtocol.wire c.args.levels (length c.bytes-step-end.result.now - c.loop-step.step) (length c.bytes-step-end.result.now - (c.loop-step.step + 1)) (to_z w16 c.loop-step.last-bits) c.loop-step.rest c.in_ok-header.behind c.args.rest c.in-Flag.id c.in-Flag.field-1 c.in_err-rest-in-Flag.field-0.0
    (let more : length c.bytes-step-end.result.now - c.loop-step.step ≡ suc (length c.bytes-step-end.result.now - (c.loop-step.step + 1)) = omega arith in more)
    c.loop-step.invariant (c.in_ok-header.ensures ∙ ap (λ h. Ok (field_header_of h, c.in_ok-header.behind)) c.in-Flag.is) c.in_err-rest-in-Flag.ensures)

pub skip_fields-loop-step-preserved : goal.skip_fields-loop-step-preserved
skip_fields-loop-step-preserved g t c =
    let fits : FitsSigned w16 c.in-Flag.id = search rules in
    let id : ℤ = to_z w16 (of_z w16 c.in-Flag.id) in
    let same : c.in-Flag.id ≡ id = sym (to_z-of_z w16 c.in-Flag.id fits) in
    flag_passes g.C.WireProtocol.wire c.args.levels (length c.bytes-step-end.result.now - c.loop-step.step) (length c.bytes-step-end.result.now - (c.loop-step.step + 1)) (to_z w16 c.loop-step.last-bits) c.loop-step.rest c.in_ok-header.behind c.in_ok-rest-in-Flag.rest c.args.rest id c.in-Flag.field-1
    (let more : length c.bytes-step-end.result.now - c.loop-step.step ≡ suc (length c.bytes-step-end.result.now - (c.loop-step.step + 1)) = omega arith in more)
    c.loop-step.invariant
    (c.in_ok-header.ensures ∙ ap (λ h. Ok (field_header_of h, c.in_ok-header.behind)) c.in-Flag.is ∙ ap (λ z. Ok (flagged z c.in-Flag.field-1, c.in_ok-header.behind)) same)
    c.in_ok-rest-in-Flag.ensures

pub skip_fields-returns : goal.skip_fields-returns
skip_fields-returns g t c =
    headers_run_out g.C.WireProtocol.wire c.args.levels (length c.bytes-step-end.result.now - c.loop-step.step) (to_z w16 c.loop-step.last-bits) c.loop-step.rest c.args.rest
    (let none : length c.bytes-step-end.result.now - c.loop-step.step ≡ 0 = omega arith in none) c.loop-step.invariant

pub skip_items-returns-in_err-rest : goal.skip_items-returns-in_err-rest
skip_items-returns-in_err-rest g t c =
    let p = err_from_is_err_and c.from_residual.result c.from_residual.ensures.1 in
    rw (p.1, p.2)
    (items_fail_exactly g.C.WireProtocol.wire c.args.levels c.args.tag (c.args.count - c.loop-step.step) (c.args.count - (c.loop-step.step + 1)) c.loop-step.rest c.args.count c.args.rest c.in_err-rest.field-0.0
    (let more : c.args.count - c.loop-step.step ≡ suc (c.args.count - (c.loop-step.step + 1)) = omega arith in more) c.loop-step.invariant c.in_err-rest.ensures)

pub skip_items-loop-step-preserved : goal.skip_items-loop-step-preserved
skip_items-loop-step-preserved g t c =
    items_pass g.C.WireProtocol.wire c.args.levels c.args.tag (c.args.count - c.loop-step.step) (c.args.count - (c.loop-step.step + 1)) c.loop-step.rest c.in_ok-rest.rest c.args.count c.args.rest
    (let more : c.args.count - c.loop-step.step ≡ suc (c.args.count - (c.loop-step.step + 1)) = omega arith in more) c.loop-step.invariant c.in_ok-rest.ensures

pub skip_items-returns : goal.skip_items-returns
skip_items-returns g t c =
    items_passed g.C.WireProtocol.wire c.args.levels c.args.tag (c.args.count - c.loop-step.step) c.loop-step.rest c.args.count c.args.rest (let none : c.args.count - c.loop-step.step ≡ 0 = omega arith in none) c.loop-step.invariant

pub skip_pairs-returns-in_err-behind : goal.skip_pairs-returns-in_err-behind
skip_pairs-returns-in_err-behind g t c =
    let p = err_from_is_err_and c.from_residual.result c.from_residual.ensures.1 in
    rw (p.1, p.2)
    (pairs_fail_exactly g.C.WireProtocol.wire c.args.levels c.args.key_tag c.args.value_tag (c.args.count - c.loop-step.step) (c.args.count - (c.loop-step.step + 1)) c.loop-step.rest c.args.count c.args.rest c.in_err-behind.field-0.0
    (let more : c.args.count - c.loop-step.step ≡ suc (c.args.count - (c.loop-step.step + 1)) = omega arith in more) c.loop-step.invariant c.in_err-behind.ensures)

pub skip_pairs-returns-in_err-rest : goal.skip_pairs-returns-in_err-rest
skip_pairs-returns-in_err-rest g t c =
    let p = err_from_is_err_and c.from_residual-in_err-rest.result c.from_residual-in_err-rest.ensures.1 in
    rw (p.1, p.2)
    (pairs_fail_exactly_later g.C.WireProtocol.wire c.args.levels c.args.key_tag c.args.value_tag (c.args.count - c.loop-step.step) (c.args.count - (c.loop-step.step + 1)) c.loop-step.rest c.in_ok-behind.behind c.args.count c.args.rest c.in_err-rest.field-0.0
    (let more : c.args.count - c.loop-step.step ≡ suc (c.args.count - (c.loop-step.step + 1)) = omega arith in more) c.loop-step.invariant c.in_ok-behind.ensures c.in_err-rest.ensures)

pub skip_pairs-loop-step-preserved : goal.skip_pairs-loop-step-preserved
skip_pairs-loop-step-preserved g t c =
    pairs_pass g.C.WireProtocol.wire c.args.levels c.args.key_tag c.args.value_tag (c.args.count - c.loop-step.step) (c.args.count - (c.loop-step.step + 1)) c.loop-step.rest c.in_ok-behind.behind c.in_ok-rest.rest c.args.count c.args.rest
    (let more : c.args.count - c.loop-step.step ≡ suc (c.args.count - (c.loop-step.step + 1)) = omega arith in more) c.loop-step.invariant c.in_ok-behind.ensures c.in_ok-rest.ensures

pub skip_pairs-returns : goal.skip_pairs-returns
skip_pairs-returns g t c =
    pairs_passed g.C.WireProtocol.wire c.args.levels c.args.key_tag c.args.value_tag (c.args.count - c.loop-step.step) c.loop-step.rest c.args.count c.args.rest (let none : c.args.count - c.loop-step.step ≡ 0 = omega arith in none) c.loop-step.invariant
