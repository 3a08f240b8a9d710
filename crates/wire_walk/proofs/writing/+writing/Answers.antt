use Rattle.std.proofs.Common.{ℤ, ◌+◌, ◌++◌, ◌∙◌, length, drop, sym, ap, arith, rules, FitsSigned, to_z, subst}
use Rattle.std.specs.Int.{w16}
use Rattle.std.proofs.lemmas.Int.{to_z-of_z}
use Rattle.std.proofs.lemmas.Result.{err_from_is_err_and}
use Rattle.thrift_value.specs.TreeOf.{tree_of}
use Rattle.wire_model.specs.Encoder.{heading}
use Rattle.wire_walk.specs.Steps.{field_header_of}
use Rattle.wire_walk.proofs.Written.{AreFieldsWritten, grows_none, grows_on, grows_more, on_ok_all, both_written, bytes_small, bytes_in_range, bytes_text, on_ok_by, on_err_by, items_written_begin, item_ready, item_written, items_written, items_in_range, pairs_written_begin, pair_ready, pair_written, pairs_written, pairs_in_range, fields_written_begin, field_ready, field_written, fields_written, fields_in_range, own_in_range, struct_parts, map_parts, set_parts, list_parts}
use Rattle.wire_walk.proofs.writing.+writing.Goals as goal

pub put_items-put-requires : goal.put_items-put-requires
put_items-put-requires g t c κs within =
    let ready = item_ready g.C.WireProtocol.encoder c.args.items.now c.loop-value.value-index c.value-item.result c.put_items.new.into.items c.loop-value.into.items c.loop-value-test.true c.value-item.is c.loop-value.invariant in
    (omega (arith, c.decreases, ready.1), (search rules, ready.0))

pub put_items-loop-value-preserved : goal.put_items-loop-value-preserved
put_items-loop-value-preserved g t c =
    item_written g.C.WireProtocol.encoder c.args.items.now c.loop-value.value-index c.value-item.result _ _ _ c.loop-value-test.true c.value-item.is c.loop-value.invariant c.in_ok-put.ensures.ok c.in_ok-put.ensures.in_range

pub put_pairs-put-requires : goal.put_pairs-put-requires
put_pairs-put-requires g t c κs within =
    let ready = (pair_ready g.C.WireProtocol.encoder c.args.pairs.now c.loop-key.key-index c.loop-key-item.result c.put_pairs.new.into.items c.loop-key.into.items c.loop-key-test.true c.loop-key-item.is c.loop-key.invariant).0 in
    (omega (arith, c.decreases, ready.1), (search rules, ready.0))

pub put_pairs-put-requires-in-loop-key : goal.put_pairs-put-requires-in-loop-key
put_pairs-put-requires-in-loop-key g t c κs within =
    let ready = (pair_ready g.C.WireProtocol.encoder c.args.pairs.now c.loop-key.key-index c.loop-key-item.result c.put_pairs.new.into.items c.loop-key.into.items c.loop-key-test.true c.loop-key-item.is c.loop-key.invariant).1 in
    (omega (arith, c.decreases, ready.1), (search rules, ready.0))

-- fields

pub put_fields-loop-id-init : goal.put_fields-loop-id-init
put_fields-loop-id-init g t c = fields_written_begin g.C.WireProtocol.encoder c.args.fields.now c.args.into.now.items c.requires

pub put_fields-put_behind-requires : goal.put_fields-put_behind-requires
put_fields-put_behind-requires g t c κs within =
    let ready = field_ready g.C.WireProtocol.encoder (to_z w16 c.loop-id.last-bits) c.args.fields.now c.loop-id.id-index c.loop-id-item.result c.args.into.now.items c.loop-id.into.items c.loop-id-test.true c.loop-id-item.is c.loop-id.invariant in
    (omega (arith, c.decreases, ready.1), (search rules, ready.0))

pub put_fields-returns-in_err-put_header-clause-err : goal.put_fields-returns-in_err-put_header-clause-err
put_fields-returns-in_err-put_header-clause-err g t c =
    let p = err_from_is_err_and c.from_residual.result c.from_residual.ensures.1 in
    rw p.1 (grows_on _ _ _ c.loop-id.invariant.grown c.in_err-put_header.ensures.err)

pub put_fields-returns-in_err-put_behind-clause-err : goal.put_fields-returns-in_err-put_behind-clause-err
put_fields-returns-in_err-put_behind-clause-err g t c =
    let p = err_from_is_err_and c.from_residual-in_err-put_behind.result c.from_residual-in_err-put_behind.ensures.1 in
    rw p.1 (grows_on _ _ _ (grows_more _ _ _ _ c.loop-id.invariant.grown c.in_ok-put_header.ensures.ok) c.in_err-put_behind.ensures.err)

pub put_fields-loop-id-preserved : goal.put_fields-loop-id-preserved
put_fields-loop-id-preserved g t c =
    let fits : FitsSigned w16 c.loop-id-item.result.0 = search rules in
    let headed = c.header_of-header.ensures ∙ ap (λ z. heading g.C.WireProtocol.encoder.flags z (tree_of c.loop-id-item.result.1)) (to_z-of_z w16 c.loop-id-item.result.0 fits) in
    subst (λ (z : ℤ). AreFieldsWritten g.C.WireProtocol.encoder z (drop (c.loop-id.id-index + 1) c.args.fields.now) c.args.fields.now c.args.into.now.items c.put_behind.new.into.items)
    (sym (to_z-of_z w16 c.loop-id-item.result.0 fits))
    (field_written g.C.WireProtocol.encoder (to_z w16 c.loop-id.last-bits) c.args.fields.now c.loop-id.id-index c.loop-id-item.result _ _ _ _ (field_header_of c.header_of-header.result)
    c.loop-id-test.true c.loop-id-item.is c.loop-id.invariant
    headed c.in_ok-put_header.ensures.ok c.in_ok-put_behind.ensures.ok fits
    (own_in_range g.C.WireProtocol.encoder.flags c.loop-id-item.result.0 (tree_of c.loop-id-item.result.1) (field_header_of c.header_of-header.result) headed c.in_ok-put_behind.ensures.in_range))

pub put_fields-returns-clause-err : goal.put_fields-returns-clause-err
put_fields-returns-clause-err g t c = on_err_by _ _ c.put_header-2.result (λ h. grows_on _ _ _ c.loop-id.invariant.grown h) c.put_header-2.ensures.err

pub put_fields-returns-clause-in_range : goal.put_fields-returns-clause-in_range
put_fields-returns-clause-in_range g t c =
    on_ok_by _ _ c.put_header-2.result
    (λ _. fields_in_range g.C.WireProtocol.encoder (to_z w16 c.loop-id.last-bits) c.args.fields.now c.loop-id.id-index _ _ c.loop-id-test.false c.loop-id.invariant)
    c.put_header-2.ensures.ok

pub put_pairs-loop-key-preserved : goal.put_pairs-loop-key-preserved
put_pairs-loop-key-preserved g t c =
    pair_written g.C.WireProtocol.encoder c.args.pairs.now c.loop-key.key-index c.loop-key-item.result _ _ _ _ c.loop-key-test.true c.loop-key-item.is c.loop-key.invariant
    c.in_ok-put.ensures.ok c.in_ok-put-2.ensures.ok c.in_ok-put.ensures.in_range c.in_ok-put-2.ensures.in_range

pub put_fields-returns-clause-ok : goal.put_fields-returns-clause-ok
put_fields-returns-clause-ok g t c =
    on_ok_by _ _ c.put_header-2.result
    (λ e. fields_written g.C.WireProtocol.encoder (to_z w16 c.loop-id.last-bits) c.args.fields.now c.loop-id.id-index _ _ _ c.loop-id-test.false c.loop-id.invariant e)
    c.put_header-2.ensures.ok

-- a value by its kind

pub put-put_text-requires : goal.put-put_text-requires
put-put_text-requires g t c = bytes_small c.args.value.now c.in-Bytes.text c.in-Bytes.is c.requires

pub put-put_fields-requires : goal.put-put_fields-requires
put-put_fields-requires g t c κs within =
    let parts = struct_parts g.C.WireProtocol.encoder c.args.value.now c.in-Struct.fields c.as_slice.result.now c.in-Struct.is c.as_slice.ensures c.requires in
    (omega (arith, c.decreases, parts.deep), (search rules, parts.small))

pub put-returns-in-Struct-clause-ok : goal.put-returns-in-Struct-clause-ok
put-returns-in-Struct-clause-ok g t c =
    on_ok_by _ _ c.put_fields.result
    (λ e. e ∙ ap (λ z. c.args.into.now.items ++ z) (struct_parts g.C.WireProtocol.encoder c.args.value.now c.in-Struct.fields c.as_slice.result.now c.in-Struct.is c.as_slice.ensures c.requires).text_is)
    c.put_fields.ensures.ok

pub put-returns-in-Struct-clause-in_range : goal.put-returns-in-Struct-clause-in_range
put-returns-in-Struct-clause-in_range g t c =
    on_ok_by _ _ c.put_fields.result (struct_parts g.C.WireProtocol.encoder c.args.value.now c.in-Struct.fields c.as_slice.result.now c.in-Struct.is c.as_slice.ensures c.requires).ranged c.put_fields.ensures.in_range

pub put-returns-in-Struct-clause-err : goal.put-returns-in-Struct-clause-err
put-returns-in-Struct-clause-err g t c = c.put_fields.ensures.err

pub put-put_pairs-requires : goal.put-put_pairs-requires
put-put_pairs-requires g t c κs within =
    let parts = map_parts g.C.WireProtocol.encoder c.args.value.now c.in-Map.key c.in-Map.value c.in-Map.pairs c.as_slice-in-Map.result.now c.in-Map.is c.as_slice-in-Map.ensures c.requires in
    (omega (arith, c.decreases, parts.deep), (search rules, (parts.count, parts.small)))

pub put-returns-in-Map-clause-ok : goal.put-returns-in-Map-clause-ok
put-returns-in-Map-clause-ok g t c =
    on_ok_by _ _ c.put_pairs.result
    (λ e. e ∙ ap (λ z. c.args.into.now.items ++ z) (map_parts g.C.WireProtocol.encoder c.args.value.now c.in-Map.key c.in-Map.value c.in-Map.pairs c.as_slice-in-Map.result.now c.in-Map.is c.as_slice-in-Map.ensures c.requires).text_is)
    c.put_pairs.ensures.ok

pub put-returns-in-Map-clause-in_range : goal.put-returns-in-Map-clause-in_range
put-returns-in-Map-clause-in_range g t c =
    on_ok_by _ _ c.put_pairs.result (map_parts g.C.WireProtocol.encoder c.args.value.now c.in-Map.key c.in-Map.value c.in-Map.pairs c.as_slice-in-Map.result.now c.in-Map.is c.as_slice-in-Map.ensures c.requires).ranged c.put_pairs.ensures.in_range

pub put-returns-in-Map-clause-err : goal.put-returns-in-Map-clause-err
put-returns-in-Map-clause-err g t c = c.put_pairs.ensures.err

pub put-put_items-requires : goal.put-put_items-requires
put-put_items-requires g t c κs within =
    let parts = set_parts g.C.WireProtocol.encoder c.args.value.now c.in-Set.element c.in-Set.items c.as_slice-in-Set.result.now c.in-Set.is c.as_slice-in-Set.ensures c.requires in
    (omega (arith, c.decreases, parts.deep), (search rules, (parts.count, parts.small)))

pub put-returns-in-Set-clause-ok : goal.put-returns-in-Set-clause-ok
put-returns-in-Set-clause-ok g t c =
    on_ok_by _ _ c.put_items.result
    (λ e. e ∙ ap (λ z. c.args.into.now.items ++ z) (set_parts g.C.WireProtocol.encoder c.args.value.now c.in-Set.element c.in-Set.items c.as_slice-in-Set.result.now c.in-Set.is c.as_slice-in-Set.ensures c.requires).text_is)
    c.put_items.ensures.ok

pub put-returns-in-Set-clause-in_range : goal.put-returns-in-Set-clause-in_range
put-returns-in-Set-clause-in_range g t c =
    on_ok_by _ _ c.put_items.result (set_parts g.C.WireProtocol.encoder c.args.value.now c.in-Set.element c.in-Set.items c.as_slice-in-Set.result.now c.in-Set.is c.as_slice-in-Set.ensures c.requires).ranged c.put_items.ensures.in_range

pub put-returns-in-Set-clause-err : goal.put-returns-in-Set-clause-err
put-returns-in-Set-clause-err g t c = c.put_items.ensures.err

pub put-put_items-requires-in-List : goal.put-put_items-requires-in-List
put-put_items-requires-in-List g t c κs within =
    let parts = list_parts g.C.WireProtocol.encoder c.args.value.now c.in-List.element c.in-List.items c.as_slice-in-List.result.now c.in-List.is c.as_slice-in-List.ensures c.requires in
    (omega (arith, c.decreases, parts.deep), (search rules, (parts.count, parts.small)))

pub put-returns-in-List-clause-ok : goal.put-returns-in-List-clause-ok
put-returns-in-List-clause-ok g t c =
    on_ok_by _ _ c.put_items-in-List.result
    (λ e. e ∙ ap (λ z. c.args.into.now.items ++ z) (list_parts g.C.WireProtocol.encoder c.args.value.now c.in-List.element c.in-List.items c.as_slice-in-List.result.now c.in-List.is c.as_slice-in-List.ensures c.requires).text_is)
    c.put_items-in-List.ensures.ok

pub put-returns-in-List-clause-in_range : goal.put-returns-in-List-clause-in_range
put-returns-in-List-clause-in_range g t c =
    on_ok_by _ _ c.put_items-in-List.result (list_parts g.C.WireProtocol.encoder c.args.value.now c.in-List.element c.in-List.items c.as_slice-in-List.result.now c.in-List.is c.as_slice-in-List.ensures c.requires).ranged c.put_items-in-List.ensures.in_range

pub put-returns-in-List-clause-err : goal.put-returns-in-List-clause-err
put-returns-in-List-clause-err g t c = c.put_items-in-List.ensures.err

pub put-returns-in-Bytes-clause-ok : goal.put-returns-in-Bytes-clause-ok
put-returns-in-Bytes-clause-ok g t c =
    on_ok_by _ _ c.put_text.result
    (λ e. e ∙ ap (λ z. c.args.into.now.items ++ z) (bytes_text g.C.WireProtocol.encoder c.args.value.now c.in-Bytes.text c.in-Bytes.is))
    c.put_text.ensures.ok

pub put-returns-in-Bytes-clause-in_range : goal.put-returns-in-Bytes-clause-in_range
put-returns-in-Bytes-clause-in_range g t c = on_ok_all _ c.put_text.result (bytes_in_range c.args.value.now c.in-Bytes.text c.in-Bytes.is c.put_text.ensures.in_range)

pub put-returns-in-Bytes-clause-err : goal.put-returns-in-Bytes-clause-err
put-returns-in-Bytes-clause-err g t c = c.put_text.ensures.err

-- items, behind their header

pub put_items-put_items-requires : goal.put_items-put_items-requires
put_items-put_items-requires g t c = c.requires.few

pub put_items-loop-value-init : goal.put_items-loop-value-init
put_items-loop-value-init g t c = items_written_begin g.C.WireProtocol.encoder c.args.items.now c.put_items.new.into.items c.requires.small

pub put_items-returns-in_err-put_items-clause-ok : goal.put_items-returns-in_err-put_items-clause-ok
put_items-returns-in_err-put_items-clause-ok g t c =
    let p = err_from_is_err_and c.from_residual.result c.from_residual.ensures.1 in
    rw p.1 tt

pub put_items-returns-in_err-put_items-clause-in_range : goal.put_items-returns-in_err-put_items-clause-in_range
put_items-returns-in_err-put_items-clause-in_range g t c =
    let p = err_from_is_err_and c.from_residual.result c.from_residual.ensures.1 in
    rw p.1 tt

pub put_items-returns-in_err-put_items-clause-err : goal.put_items-returns-in_err-put_items-clause-err
put_items-returns-in_err-put_items-clause-err g t c =
    let p = err_from_is_err_and c.from_residual.result c.from_residual.ensures.1 in
    rw p.1 c.in_err-put_items.ensures.err

pub put_items-returns-in_err-put-clause-ok : goal.put_items-returns-in_err-put-clause-ok
put_items-returns-in_err-put-clause-ok g t c =
    let p = err_from_is_err_and c.from_residual-in_err-put.result c.from_residual-in_err-put.ensures.1 in
    rw p.1 tt

pub put_items-returns-in_err-put-clause-in_range : goal.put_items-returns-in_err-put-clause-in_range
put_items-returns-in_err-put-clause-in_range g t c =
    let p = err_from_is_err_and c.from_residual-in_err-put.result c.from_residual-in_err-put.ensures.1 in
    rw p.1 tt

pub put_items-returns-in_err-put-clause-err : goal.put_items-returns-in_err-put-clause-err
put_items-returns-in_err-put-clause-err g t c =
    let p = err_from_is_err_and c.from_residual-in_err-put.result c.from_residual-in_err-put.ensures.1 in
    rw p.1 (grows_on _ _ _ (grows_on _ _ _ (grows_more _ _ _ _ (grows_none c.args.into.now.items) c.in_ok-put_items.ensures.ok) c.loop-value.invariant.grown) c.in_err-put.ensures.err)

pub put_items-returns-clause-ok : goal.put_items-returns-clause-ok
put_items-returns-clause-ok g t c =
    both_written c.args.into.now.items c.put_items.new.into.items _ (g.C.WireProtocol.encoder.items c.args.element (length c.args.items.now)) _ c.in_ok-put_items.ensures.ok
    (items_written g.C.WireProtocol.encoder c.args.items.now c.loop-value.value-index _ _ c.loop-value-test.false c.loop-value.invariant)

pub put_items-returns-clause-in_range : goal.put_items-returns-clause-in_range
put_items-returns-clause-in_range g t c = items_in_range g.C.WireProtocol.encoder c.args.items.now c.loop-value.value-index _ _ c.loop-value-test.false c.loop-value.invariant

-- pairs, behind their header

pub put_pairs-put_pairs-requires : goal.put_pairs-put_pairs-requires
put_pairs-put_pairs-requires g t c = c.requires.few

pub put_pairs-loop-key-init : goal.put_pairs-loop-key-init
put_pairs-loop-key-init g t c = pairs_written_begin g.C.WireProtocol.encoder c.args.pairs.now c.put_pairs.new.into.items c.requires.small

pub put_pairs-returns-in_err-put_pairs-clause-ok : goal.put_pairs-returns-in_err-put_pairs-clause-ok
put_pairs-returns-in_err-put_pairs-clause-ok g t c =
    let p = err_from_is_err_and c.from_residual.result c.from_residual.ensures.1 in
    rw p.1 tt

pub put_pairs-returns-in_err-put_pairs-clause-in_range : goal.put_pairs-returns-in_err-put_pairs-clause-in_range
put_pairs-returns-in_err-put_pairs-clause-in_range g t c =
    let p = err_from_is_err_and c.from_residual.result c.from_residual.ensures.1 in
    rw p.1 tt

pub put_pairs-returns-in_err-put_pairs-clause-err : goal.put_pairs-returns-in_err-put_pairs-clause-err
put_pairs-returns-in_err-put_pairs-clause-err g t c =
    let p = err_from_is_err_and c.from_residual.result c.from_residual.ensures.1 in
    rw p.1 c.in_err-put_pairs.ensures.err

pub put_pairs-returns-in_err-put-clause-ok : goal.put_pairs-returns-in_err-put-clause-ok
put_pairs-returns-in_err-put-clause-ok g t c =
    let p = err_from_is_err_and c.from_residual-in_err-put.result c.from_residual-in_err-put.ensures.1 in
    rw p.1 tt

pub put_pairs-returns-in_err-put-clause-in_range : goal.put_pairs-returns-in_err-put-clause-in_range
put_pairs-returns-in_err-put-clause-in_range g t c =
    let p = err_from_is_err_and c.from_residual-in_err-put.result c.from_residual-in_err-put.ensures.1 in
    rw p.1 tt

pub put_pairs-returns-in_err-put-clause-err : goal.put_pairs-returns-in_err-put-clause-err
put_pairs-returns-in_err-put-clause-err g t c =
    let p = err_from_is_err_and c.from_residual-in_err-put.result c.from_residual-in_err-put.ensures.1 in
    rw p.1 (grows_on _ _ _ (grows_on _ _ _ (grows_more _ _ _ _ (grows_none c.args.into.now.items) c.in_ok-put_pairs.ensures.ok) c.loop-key.invariant.grown) c.in_err-put.ensures.err)

pub put_pairs-returns-in_err-put-2-clause-ok : goal.put_pairs-returns-in_err-put-2-clause-ok
put_pairs-returns-in_err-put-2-clause-ok g t c =
    let p = err_from_is_err_and c.from_residual-in_err-put-2.result c.from_residual-in_err-put-2.ensures.1 in
    rw p.1 tt

pub put_pairs-returns-in_err-put-2-clause-in_range : goal.put_pairs-returns-in_err-put-2-clause-in_range
put_pairs-returns-in_err-put-2-clause-in_range g t c =
    let p = err_from_is_err_and c.from_residual-in_err-put-2.result c.from_residual-in_err-put-2.ensures.1 in
    rw p.1 tt

pub put_pairs-returns-in_err-put-2-clause-err : goal.put_pairs-returns-in_err-put-2-clause-err
put_pairs-returns-in_err-put-2-clause-err g t c =
    let p = err_from_is_err_and c.from_residual-in_err-put-2.result c.from_residual-in_err-put-2.ensures.1 in
    rw p.1 (grows_on _ _ _ (grows_more _ _ _ _ (grows_on _ _ _ (grows_more _ _ _ _ (grows_none c.args.into.now.items) c.in_ok-put_pairs.ensures.ok) c.loop-key.invariant.grown) c.in_ok-put.ensures.ok) c.in_err-put-2.ensures.err)

pub put_pairs-returns-clause-ok : goal.put_pairs-returns-clause-ok
put_pairs-returns-clause-ok g t c =
    both_written c.args.into.now.items c.put_pairs.new.into.items _ (g.C.WireProtocol.encoder.pairs c.args.key c.args.value (length c.args.pairs.now)) _ c.in_ok-put_pairs.ensures.ok
    (pairs_written g.C.WireProtocol.encoder c.args.pairs.now c.loop-key.key-index _ _ c.loop-key-test.false c.loop-key.invariant)

pub put_pairs-returns-clause-in_range : goal.put_pairs-returns-clause-in_range
put_pairs-returns-clause-in_range g t c = pairs_in_range g.C.WireProtocol.encoder c.args.pairs.now c.loop-key.key-index _ _ c.loop-key-test.false c.loop-key.invariant

pub put_fields-returns-in_err-put_header-clause-ok : goal.put_fields-returns-in_err-put_header-clause-ok
put_fields-returns-in_err-put_header-clause-ok g t c =
    let p = err_from_is_err_and c.from_residual.result c.from_residual.ensures.1 in
    rw p.1 tt

pub put_fields-returns-in_err-put_header-clause-in_range : goal.put_fields-returns-in_err-put_header-clause-in_range
put_fields-returns-in_err-put_header-clause-in_range g t c =
    let p = err_from_is_err_and c.from_residual.result c.from_residual.ensures.1 in
    rw p.1 tt

pub put_fields-returns-in_err-put_behind-clause-ok : goal.put_fields-returns-in_err-put_behind-clause-ok
put_fields-returns-in_err-put_behind-clause-ok g t c =
    let p = err_from_is_err_and c.from_residual-in_err-put_behind.result c.from_residual-in_err-put_behind.ensures.1 in
    rw p.1 tt

pub put_fields-returns-in_err-put_behind-clause-in_range : goal.put_fields-returns-in_err-put_behind-clause-in_range
put_fields-returns-in_err-put_behind-clause-in_range g t c =
    let p = err_from_is_err_and c.from_residual-in_err-put_behind.result c.from_residual-in_err-put_behind.ensures.1 in
    rw p.1 tt
