use Rattle.std.proofs.Common.{◌≡◌, ℤ, suc, ◌+◌, ◌-◌, ◌∙◌, length, Ok, refl, sym, ap, arith, rules, FitsSigned, to_z, of_z}
use Rattle.std.specs.Int.{w16}
use Rattle.std.proofs.lemmas.Int.{to_z-of_z}
use Rattle.std.proofs.lemmas.Result.{err_from_is_err_and}
use Rattle.thrift_value.specs.TreeOf.{tree_of, fields_tree, items_tree, pairs_tree}
use Rattle.thrift_value.proofs.Trees.{tree_of-Struct, tree_of-Map, tree_of-Set, tree_of-List, tree_of-Bool}
use Rattle.thrift_value.specs.declared.value.Value.TheVariants.{Bool}
use Rattle.wire_model.specs.Wire.{typed, flagged}
use Rattle.wire_walk.specs.Steps.{field_header_of}
use Rattle.wire_walk.proofs.Faults.{fails_on, fails_same, fails_told, gives_same, gives_told, too_deep, on_ok}
use Rattle.wire_walk.proofs.Opened.{not_counted, counted, held_is, text_held, no_struct, no_map, no_elements, struct_held, map_held, elements_held, set_held, list_held, scalar_held}
use Rattle.wire_walk.proofs.Lists.{items_begin, items_fail, items_step, items_end, pairs_begin, pairs_fail, pairs_fail_later, pairs_step, pairs_end, fields_begin, fields_fail, field_value_fails, flag_fails, field_step, flag_step, fields_end, fields_run_out}
use Rattle.wire_walk.proofs.reading.+reading.Goals as goal

pub read-returns-in_err-rest : goal.read-returns-in_err-rest
read-returns-in_err-rest g t c =
    let p = err_from_is_err_and c.from_residual.result c.from_residual.ensures.1 in
    rw (p.1, p.2)
    (not_counted g.C.WireProtocol.wire c.args.levels c.args.tag c.args.rest c.in_err-rest.field-0.0 (fails_told _ _ c.in_err-rest.ensures))

pub read-returns : goal.read-returns
read-returns g t c =
    gives_same _ c.read_held.result _ _ (sym (counted g.C.WireProtocol.wire c.args.levels c.args.tag c.args.rest c.in_ok-rest.rest c.in_ok-rest.ensures)) c.read_held.ensures

-- what each kind of value holds

pub read_held-returns-in-Bytes : goal.read_held-returns-in-Bytes
read_held-returns-in-Bytes g t c =
    gives_same _ c.read_text.result _ _ (text_held g.C.WireProtocol.wire c.args.levels c.args.tag c.args.rest c.in-Bytes.is) c.read_text.ensures

pub read_held-returns-in-Struct : goal.read_held-returns-in-Struct
read_held-returns-in-Struct g t c =
    gives_same _ c.open_struct.result _ _ (held_is g.C.WireProtocol.wire c.args.levels c.args.tag _ c.args.rest c.in-Struct.is) c.open_struct.ensures

pub read_held-returns-in-Map : goal.read_held-returns-in-Map
read_held-returns-in-Map g t c =
    gives_same _ c.open_map.result _ _ (held_is g.C.WireProtocol.wire c.args.levels c.args.tag _ c.args.rest c.in-Map.is) c.open_map.ensures

pub read_held-returns-in-Set : goal.read_held-returns-in-Set
read_held-returns-in-Set g t c =
    gives_same _ c.open_set.result _ _ (held_is g.C.WireProtocol.wire c.args.levels c.args.tag _ c.args.rest c.in-Set.is) c.open_set.ensures

pub read_held-returns-in-List : goal.read_held-returns-in-List
read_held-returns-in-List g t c =
    gives_same _ c.open_list.result _ _ (held_is g.C.WireProtocol.wire c.args.levels c.args.tag _ c.args.rest c.in-List.is) c.open_list.ensures

pub read_held-returns-in_default : goal.read_held-returns-in_default
read_held-returns-in_default g t c =
    gives_same _ c.scalar.result _ _ (scalar_held g.C.WireProtocol.wire c.args.levels c.args.tag c.args.rest c.in_default.not-Bytes c.in_default.not-Struct c.in_default.not-Map c.in_default.not-Set c.in_default.not-List)
    (gives_told _ _ _ c.scalar.ensures)

pub open_struct-returns-in_err-levels : goal.open_struct-returns-in_err-levels
open_struct-returns-in_err-levels g t c =
    let p = err_from_is_err_and c.from_residual.result c.from_residual.ensures.1 in
    rw (p.1, p.2)
    (too_deep c.in_err-levels.field-0.0 _ c.in_err-levels.ensures.1 (no_struct g.C.WireProtocol.wire c.args.levels c.args.rest c.in_err-levels.ensures.0))

pub open_map-returns-in_err-levels : goal.open_map-returns-in_err-levels
open_map-returns-in_err-levels g t c =
    let p = err_from_is_err_and c.from_residual.result c.from_residual.ensures.1 in
    rw (p.1, p.2)
    (too_deep c.in_err-levels.field-0.0 _ c.in_err-levels.ensures.1 (no_map g.C.WireProtocol.wire c.args.levels c.args.rest c.in_err-levels.ensures.0))

pub open_elements-returns-in_err-levels : goal.open_elements-returns-in_err-levels
open_elements-returns-in_err-levels g t c =
    let p = err_from_is_err_and c.from_residual.result c.from_residual.ensures.1 in
    rw (p.1, p.2)
    (too_deep c.in_err-levels.field-0.0 _ c.in_err-levels.ensures.1 (no_elements g.C.WireProtocol.wire c.args.levels c.args.rest c.in_err-levels.ensures.0))

pub open_struct-returns-in_err-fields : goal.open_struct-returns-in_err-fields
open_struct-returns-in_err-fields g t c =
    let p = err_from_is_err_and c.from_residual-in_err-fields.result c.from_residual-in_err-fields.ensures.1 in
    rw (p.1, p.2)
    (fails_same c.in_err-fields.field-0.0 _ _ (struct_held g.C.WireProtocol.wire c.args.levels c.in_ok-levels.levels c.args.rest c.in_ok-levels.ensures)
    (fails_on c.in_err-fields.field-0.0 _ _ c.in_err-fields.ensures))

pub open_struct-returns : goal.open_struct-returns
open_struct-returns g t c =
    sym (struct_held g.C.WireProtocol.wire c.args.levels c.in_ok-levels.levels c.args.rest c.in_ok-levels.ensures)
    ∙ on_ok _ _ (fields_tree c.in_ok-fields.fields) c.in_ok-fields.rest c.in_ok-fields.ensures
    ∙ ap (λ x. Ok (x, c.in_ok-fields.rest)) (sym (tree_of-Struct c.in_ok-fields.fields))

pub open_map-returns-in_err-key : goal.open_map-returns-in_err-key
open_map-returns-in_err-key g t c =
    let p = err_from_is_err_and c.from_residual-in_err-key.result c.from_residual-in_err-key.ensures.1 in
    rw (p.1, p.2)
    (fails_same c.in_err-key.field-0.0 _ _ (map_held g.C.WireProtocol.wire c.args.levels c.in_ok-levels.levels c.args.rest c.in_ok-levels.ensures)
    (fails_on c.in_err-key.field-0.0 (g.C.WireProtocol.wire.pairs c.args.rest) _ (fails_told _ _ c.in_err-key.ensures)))

pub open_map-returns-in_err-pairs : goal.open_map-returns-in_err-pairs
open_map-returns-in_err-pairs g t c =
    let p = err_from_is_err_and c.from_residual-in_err-pairs.result c.from_residual-in_err-pairs.ensures.1 in
    rw (p.1, p.2)
    (fails_same c.in_err-pairs.field-0.0 _ _ (sym (on_ok (g.C.WireProtocol.wire.pairs c.args.rest) _ (c.in_ok-key.key, c.in_ok-key.value, c.in_ok-key.count) c.in_ok-key.rest c.in_ok-key.ensures) ∙ map_held g.C.WireProtocol.wire c.args.levels c.in_ok-levels.levels c.args.rest c.in_ok-levels.ensures)
    (fails_on c.in_err-pairs.field-0.0 _ _ c.in_err-pairs.ensures))

pub open_map-returns : goal.open_map-returns
open_map-returns g t c =
    sym (map_held g.C.WireProtocol.wire c.args.levels c.in_ok-levels.levels c.args.rest c.in_ok-levels.ensures)
    ∙ on_ok (g.C.WireProtocol.wire.pairs c.args.rest) _ (c.in_ok-key.key, c.in_ok-key.value, c.in_ok-key.count) c.in_ok-key.rest c.in_ok-key.ensures
    ∙ on_ok _ _ (pairs_tree c.in_ok-pairs.pairs) c.in_ok-pairs.rest c.in_ok-pairs.ensures
    ∙ ap (λ x. Ok (x, c.in_ok-pairs.rest)) (sym (tree_of-Map c.in_ok-key.key c.in_ok-key.value c.in_ok-pairs.pairs))

pub open_elements-returns-in_err-element : goal.open_elements-returns-in_err-element
open_elements-returns-in_err-element g t c =
    let p = err_from_is_err_and c.from_residual-in_err-element.result c.from_residual-in_err-element.ensures.1 in
    rw (p.1, p.2)
    (fails_same c.in_err-element.field-0.0 _ _ (elements_held g.C.WireProtocol.wire c.args.levels c.in_ok-levels.levels c.args.rest c.in_ok-levels.ensures)
    (fails_on c.in_err-element.field-0.0 (g.C.WireProtocol.wire.items c.args.rest) _ (fails_told _ _ c.in_err-element.ensures)))

pub open_elements-returns-in_err-items : goal.open_elements-returns-in_err-items
open_elements-returns-in_err-items g t c =
    let p = err_from_is_err_and c.from_residual-in_err-items.result c.from_residual-in_err-items.ensures.1 in
    rw (p.1, p.2)
    (fails_same c.in_err-items.field-0.0 _ _ (sym (on_ok (g.C.WireProtocol.wire.items c.args.rest) _ (c.in_ok-element.element, c.in_ok-element.count) c.in_ok-element.rest c.in_ok-element.ensures) ∙ elements_held g.C.WireProtocol.wire c.args.levels c.in_ok-levels.levels c.args.rest c.in_ok-levels.ensures)
    (fails_on c.in_err-items.field-0.0 _ _ c.in_err-items.ensures))

pub open_elements-returns : goal.open_elements-returns
open_elements-returns g t c =
    sym (elements_held g.C.WireProtocol.wire c.args.levels c.in_ok-levels.levels c.args.rest c.in_ok-levels.ensures)
    ∙ on_ok (g.C.WireProtocol.wire.items c.args.rest) _ (c.in_ok-element.element, c.in_ok-element.count) c.in_ok-element.rest c.in_ok-element.ensures
    ∙ on_ok _ _ (items_tree c.in_ok-items.items) c.in_ok-items.rest c.in_ok-items.ensures

pub open_set-returns-in_err-element : goal.open_set-returns-in_err-element
open_set-returns-in_err-element g t c =
    let p = err_from_is_err_and c.from_residual.result c.from_residual.ensures.1 in
    rw (p.1, p.2)
    (fails_same c.in_err-element.field-0.0 _ _ (set_held g.C.WireProtocol.wire c.args.levels _ c.args.rest refl)
    (fails_on c.in_err-element.field-0.0 _ _ c.in_err-element.ensures))

pub open_set-returns : goal.open_set-returns
open_set-returns g t c =
    sym (set_held g.C.WireProtocol.wire c.args.levels _ c.args.rest refl)
    ∙ on_ok _ _ (c.in_ok-element.element, items_tree c.in_ok-element.items) c.in_ok-element.rest c.in_ok-element.ensures
    ∙ ap (λ x. Ok (x, c.in_ok-element.rest)) (sym (tree_of-Set c.in_ok-element.element c.in_ok-element.items))

pub open_list-returns-in_err-element : goal.open_list-returns-in_err-element
open_list-returns-in_err-element g t c =
    let p = err_from_is_err_and c.from_residual.result c.from_residual.ensures.1 in
    rw (p.1, p.2)
    (fails_same c.in_err-element.field-0.0 _ _ (list_held g.C.WireProtocol.wire c.args.levels _ c.args.rest refl)
    (fails_on c.in_err-element.field-0.0 _ _ c.in_err-element.ensures))

pub open_list-returns : goal.open_list-returns
open_list-returns g t c =
    sym (list_held g.C.WireProtocol.wire c.args.levels _ c.args.rest refl)
    ∙ on_ok _ _ (c.in_ok-element.element, items_tree c.in_ok-element.items) c.in_ok-element.rest c.in_ok-element.ensures
    ∙ ap (λ x. Ok (x, c.in_ok-element.rest)) (sym (tree_of-List c.in_ok-element.element c.in_ok-element.items))

pub read_items-loop-step-init : goal.read_items-loop-step-init
read_items-loop-step-init g t c =
    items_begin g.C.WireProtocol.wire c.args.levels c.args.tag _ _ c.args.count c.args.rest c.new-items.ensures.items (omega arith)

pub read_items-returns-in_err-value : goal.read_items-returns-in_err-value
read_items-returns-in_err-value g t c =
    let p = err_from_is_err_and c.from_residual.result c.from_residual.ensures.1 in
    rw (p.1, p.2)
    (items_fail g.C.WireProtocol.wire c.args.levels c.args.tag c.loop-step.items.items (c.args.count - c.loop-step.step) (c.args.count - (c.loop-step.step + 1)) c.loop-step.rest c.args.count c.args.rest c.in_err-value.field-0.0
    (let more : c.args.count - c.loop-step.step ≡ suc (c.args.count - (c.loop-step.step + 1)) = omega arith in more) c.loop-step.invariant c.in_err-value.ensures)

pub read_items-loop-step-preserved : goal.read_items-loop-step-preserved
read_items-loop-step-preserved g t c =
    items_step g.C.WireProtocol.wire c.args.levels c.args.tag c.loop-step.items.items _ c.in_ok-value.value (c.args.count - c.loop-step.step) (c.args.count - (c.loop-step.step + 1)) c.loop-step.rest c.in_ok-value.behind c.args.count c.args.rest
    (let more : c.args.count - c.loop-step.step ≡ suc (c.args.count - (c.loop-step.step + 1)) = omega arith in more) c.loop-step.invariant c.in_ok-value.ensures c.in_ok-keep.ensures

pub read_items-returns : goal.read_items-returns
read_items-returns g t c =
    items_end g.C.WireProtocol.wire c.args.levels c.args.tag c.loop-step.items.items c.new.result (c.args.count - c.loop-step.step) c.loop-step.rest c.args.count c.args.rest (let none : c.args.count - c.loop-step.step ≡ 0 = omega arith in none) c.loop-step.invariant c.new.ensures

pub read_pairs-loop-step-init : goal.read_pairs-loop-step-init
read_pairs-loop-step-init g t c =
    pairs_begin g.C.WireProtocol.wire c.args.levels c.args.key_tag c.args.value_tag _ _ c.args.count c.args.rest c.new-pairs.ensures.items (omega arith)

pub read_pairs-returns-in_err-key : goal.read_pairs-returns-in_err-key
read_pairs-returns-in_err-key g t c =
    let p = err_from_is_err_and c.from_residual.result c.from_residual.ensures.1 in
    rw (p.1, p.2)
    (pairs_fail g.C.WireProtocol.wire c.args.levels c.args.key_tag c.args.value_tag c.loop-step.pairs.items (c.args.count - c.loop-step.step) (c.args.count - (c.loop-step.step + 1)) c.loop-step.rest c.args.count c.args.rest c.in_err-key.field-0.0
    (let more : c.args.count - c.loop-step.step ≡ suc (c.args.count - (c.loop-step.step + 1)) = omega arith in more) c.loop-step.invariant c.in_err-key.ensures)

pub read_pairs-returns-in_err-value : goal.read_pairs-returns-in_err-value
read_pairs-returns-in_err-value g t c =
    let p = err_from_is_err_and c.from_residual-in_err-value.result c.from_residual-in_err-value.ensures.1 in
    rw (p.1, p.2)
    (pairs_fail_later g.C.WireProtocol.wire c.args.levels c.args.key_tag c.args.value_tag c.loop-step.pairs.items (tree_of c.in_ok-key.key) (c.args.count - c.loop-step.step) (c.args.count - (c.loop-step.step + 1)) c.loop-step.rest c.in_ok-key.behind c.args.count c.args.rest c.in_err-value.field-0.0
    (let more : c.args.count - c.loop-step.step ≡ suc (c.args.count - (c.loop-step.step + 1)) = omega arith in more) c.loop-step.invariant c.in_ok-key.ensures c.in_err-value.ensures)

pub read_pairs-loop-step-preserved : goal.read_pairs-loop-step-preserved
read_pairs-loop-step-preserved g t c =
    pairs_step g.C.WireProtocol.wire c.args.levels c.args.key_tag c.args.value_tag c.loop-step.pairs.items _ (c.in_ok-key.key, c.in_ok-value.value) (c.args.count - c.loop-step.step) (c.args.count - (c.loop-step.step + 1)) c.loop-step.rest c.in_ok-key.behind c.in_ok-value.behind c.args.count c.args.rest
    (let more : c.args.count - c.loop-step.step ≡ suc (c.args.count - (c.loop-step.step + 1)) = omega arith in more) c.loop-step.invariant c.in_ok-key.ensures c.in_ok-value.ensures c.in_ok-keep.ensures

pub read_pairs-returns : goal.read_pairs-returns
read_pairs-returns g t c =
    pairs_end g.C.WireProtocol.wire c.args.levels c.args.key_tag c.args.value_tag c.loop-step.pairs.items c.new.result (c.args.count - c.loop-step.step) c.loop-step.rest c.args.count c.args.rest (let none : c.args.count - c.loop-step.step ≡ 0 = omega arith in none) c.loop-step.invariant c.new.ensures

pub read_fields-loop-step-init : goal.read_fields-loop-step-init
read_fields-loop-step-init g t c =
    fields_begin g.C.WireProtocol.wire c.args.levels _ _ c.args.rest c.new-fields.ensures.items (let same : length c.bytes-step-end.result.now - 0 ≡ length c.args.rest.bytes = omega (arith, ap length c.bytes-step-end.ensures) in same)

pub read_fields-returns-in_err-header : goal.read_fields-returns-in_err-header
read_fields-returns-in_err-header g t c =
    let p = err_from_is_err_and c.from_residual.result c.from_residual.ensures.1 in
    rw (p.1, p.2)
    (fields_fail g.C.WireProtocol.wire c.args.levels c.loop-step.fields.items (length c.bytes-step-end.result.now - c.loop-step.step) (length c.bytes-step-end.result.now - (c.loop-step.step + 1)) (to_z w16 c.loop-step.last-bits) c.loop-step.rest c.args.rest c.in_err-header.field-0.0 (let more : length c.bytes-step-end.result.now - c.loop-step.step ≡ suc (length c.bytes-step-end.result.now - (c.loop-step.step + 1)) = omega arith in more) c.loop-step.invariant (fails_told _ _ c.in_err-header.ensures))

pub read_fields-returns-in-Stop : goal.read_fields-returns-in-Stop
read_fields-returns-in-Stop g t c =
    fields_end g.C.WireProtocol.wire c.args.levels c.loop-step.fields.items c.new.result (length c.bytes-step-end.result.now - c.loop-step.step) (length c.bytes-step-end.result.now - (c.loop-step.step + 1)) (to_z w16 c.loop-step.last-bits) c.loop-step.rest c.in_ok-header.behind c.args.rest (let more : length c.bytes-step-end.result.now - c.loop-step.step ≡ suc (length c.bytes-step-end.result.now - (c.loop-step.step + 1)) = omega arith in more) c.loop-step.invariant (c.in_ok-header.ensures ∙ ap (λ h. Ok (field_header_of h, c.in_ok-header.behind)) c.in-Stop.is) c.new.ensures

pub read_fields-returns-in_err-value-in-Field : goal.read_fields-returns-in_err-value-in-Field
read_fields-returns-in_err-value-in-Field g t c =
    let p = err_from_is_err_and c.from_residual-in_err-value-in-Field.result c.from_residual-in_err-value-in-Field.ensures.1 in
    rw (p.1, p.2)
    (field_value_fails g.C.WireProtocol.wire c.args.levels c.loop-step.fields.items (length c.bytes-step-end.result.now - c.loop-step.step) (length c.bytes-step-end.result.now - (c.loop-step.step + 1)) (to_z w16 c.loop-step.last-bits) c.loop-step.rest c.in_ok-header.behind c.args.rest c.in-Field.id c.in-Field.tag c.in_err-value-in-Field.field-0.0 (let more : length c.bytes-step-end.result.now - c.loop-step.step ≡ suc (length c.bytes-step-end.result.now - (c.loop-step.step + 1)) = omega arith in more) c.loop-step.invariant (c.in_ok-header.ensures ∙ ap (λ h. Ok (field_header_of h, c.in_ok-header.behind)) c.in-Field.is) c.in_err-value-in-Field.ensures)

pub read_fields-loop-step-preserved-in-Field : goal.read_fields-loop-step-preserved-in-Field
read_fields-loop-step-preserved-in-Field g t c =
    let fits : FitsSigned w16 c.in-Field.id = search rules in
    let id : ℤ = to_z w16 (of_z w16 c.in-Field.id) in
    let same : c.in-Field.id ≡ id = sym (to_z-of_z w16 c.in-Field.id fits) in
    field_step g.C.WireProtocol.wire c.args.levels c.loop-step.fields.items _ (length c.bytes-step-end.result.now - c.loop-step.step) (length c.bytes-step-end.result.now - (c.loop-step.step + 1)) (to_z w16 c.loop-step.last-bits) c.loop-step.rest c.in_ok-header.behind c.in_ok-value-in-Field.behind c.args.rest id c.in-Field.tag c.in_ok-value-in-Field.value
    (let more : length c.bytes-step-end.result.now - c.loop-step.step ≡ suc (length c.bytes-step-end.result.now - (c.loop-step.step + 1)) = omega arith in more)
    c.loop-step.invariant
    (c.in_ok-header.ensures ∙ ap (λ h. Ok (field_header_of h, c.in_ok-header.behind)) c.in-Field.is ∙ ap (λ z. Ok (typed z c.in-Field.tag, c.in_ok-header.behind)) same)
    c.in_ok-value-in-Field.ensures c.in_ok-keep-in-Field.ensures

pub read_fields-returns-in_err-behind-in-Flag : goal.read_fields-returns-in_err-behind-in-Flag
read_fields-returns-in_err-behind-in-Flag g t c =
    let p = err_from_is_err_and c.from_residual-in_err-behind-in-Flag.result c.from_residual-in_err-behind-in-Flag.ensures.1 in
    rw (p.1, p.2)
    (flag_fails g.C.WireProtocol.wire c.args.levels c.loop-step.fields.items (length c.bytes-step-end.result.now - c.loop-step.step) (length c.bytes-step-end.result.now - (c.loop-step.step + 1)) (to_z w16 c.loop-step.last-bits) c.loop-step.rest c.in_ok-header.behind c.args.rest c.in-Flag.id c.in-Flag.flag c.in_err-behind-in-Flag.field-0.0 (let more : length c.bytes-step-end.result.now - c.loop-step.step ≡ suc (length c.bytes-step-end.result.now - (c.loop-step.step + 1)) = omega arith in more) c.loop-step.invariant (c.in_ok-header.ensures ∙ ap (λ h. Ok (field_header_of h, c.in_ok-header.behind)) c.in-Flag.is) (fails_told _ _ c.in_err-behind-in-Flag.ensures))

pub read_fields-loop-step-preserved : goal.read_fields-loop-step-preserved
read_fields-loop-step-preserved g t c =
    let fits : FitsSigned w16 c.in-Flag.id = search rules in
    let id : ℤ = to_z w16 (of_z w16 c.in-Flag.id) in
    let same : c.in-Flag.id ≡ id = sym (to_z-of_z w16 c.in-Flag.id fits) in
    flag_step g.C.WireProtocol.wire c.args.levels c.loop-step.fields.items _ (length c.bytes-step-end.result.now - c.loop-step.step) (length c.bytes-step-end.result.now - (c.loop-step.step + 1)) (to_z w16 c.loop-step.last-bits) c.loop-step.rest c.in_ok-header.behind c.in_ok-behind-in-Flag.behind c.args.rest id c.in-Flag.flag (Bool c.in-Flag.flag)
    (let more : length c.bytes-step-end.result.now - c.loop-step.step ≡ suc (length c.bytes-step-end.result.now - (c.loop-step.step + 1)) = omega arith in more)
    c.loop-step.invariant
    (c.in_ok-header.ensures ∙ ap (λ h. Ok (field_header_of h, c.in_ok-header.behind)) c.in-Flag.is ∙ ap (λ z. Ok (flagged z c.in-Flag.flag, c.in_ok-header.behind)) same)
    c.in_ok-behind-in-Flag.ensures (tree_of-Bool c.in-Flag.flag) c.in_ok-keep-in-Flag.ensures

pub read_fields-returns : goal.read_fields-returns
read_fields-returns g t c =
    fields_run_out g.C.WireProtocol.wire c.args.levels c.loop-step.fields.items (length c.bytes-step-end.result.now - c.loop-step.step) (to_z w16 c.loop-step.last-bits) c.loop-step.rest c.args.rest (let none : length c.bytes-step-end.result.now - c.loop-step.step ≡ 0 = omega arith in none) c.loop-step.invariant
