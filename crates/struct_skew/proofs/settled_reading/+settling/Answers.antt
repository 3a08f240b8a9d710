use Rattle.std.proofs.Common.{◌≡◌, ℤ, suc, ◌+◌, ◌-◌, ◌∙◌, map, Ok, sym, ap, subst, arith, rules, FitsSigned, to_z, of_z}
use Rattle.std.specs.Int.{w16}
use Rattle.std.specs.Prelude.{◌<ℤ◌, AllPairs, IfSome}
use Rattle.std.proofs.lemmas.Int.{to_z-of_z}
use Rattle.std.proofs.lemmas.Option.{IfSome_then}
use Rattle.thrift_value.specs.declared.tag.Tag.TheVariants.{Bytes}
use Rattle.thrift_value.specs.TreeOf.{tree_of}
use Rattle.schema.specs.PlainKind.{kind_of}
use Rattle.schema.specs.PlainSchema.{PlainField}
use Rattle.schema.specs.SchemaOf.{schema_of, plain_field, plain_struct}
use Rattle.wire_model.specs.declared.one_pass.FieldHead.TheVariants.{Field}
use Rattle.wire_model.specs.AtPlace.{head_of}
use Rattle.known_parts.specs.Parts.{tag_of_kind, are_same_tags}
use Rattle.known_parts.proofs.Knowing.{is_scalar, same_tags}
use Rattle.struct_skew.specs.Latest.{IsRisingBy}
use Rattle.struct_skew.specs.Orders.{value_cmp, pair_cmp}
use Rattle.struct_skew.specs.ReadSettled.{ReadsFields, ReadsSettled}
use Rattle.struct_skew.proofs.SettledSteps.{told, told_on, tags_agree, items_kept_begin, items_kept_step, items_kept_end, pairs_kept_begin, pairs_kept_step, pairs_kept_end, fields_kept_begin, fields_kept_step, fields_kept_end}
use Rattle.struct_skew.proofs.SettledWhole.{struct_read, elements_read, list_read, set_read, map_read, kind_of_struct, kind_of_map, kind_of_set, kind_of_list, leaf_read, field_by_tag, field_by_flag}
use Rattle.struct_skew.proofs.settled_reading.+settling.Goals as goal

pub settled_fields-returns-in-Stop : goal.settled_fields-returns-in-Stop
settled_fields-returns-in-Stop g t c =
    fields_kept_end g.W.WireProtocol.wire c.args.levels (schema_of c.args.schema.now).structs (map plain_field c.args.declared.now) c.loop-step.fields.items c.new.result
    (c.len-step-end.result - c.loop-step.step) (c.len-step-end.result - (c.loop-step.step + 1)) (to_z w16 c.loop-step.last-bits) c.loop-step.ahead c.field.new.ahead c.args.ahead.now
    (let more : c.len-step-end.result - c.loop-step.step ≡ suc (c.len-step-end.result - (c.loop-step.step + 1)) = omega arith in more) c.loop-step.invariant
    (c.in_ok-head.ensures ∙ ap (λ h. Ok (head_of h, c.field.new.ahead)) c.in-Stop.is) c.new.ensures

pub settled_fields-loop-step-preserved : goal.settled_fields-loop-step-preserved
settled_fields-loop-step-preserved g t c =
    let fits : FitsSigned w16 c.in-Field.id = search rules in
    let id : ℤ = to_z w16 (of_z w16 c.in-Field.id) in
    let same : c.in-Field.id ≡ id = sym (to_z-of_z w16 c.in-Field.id fits) in
    let declared = map plain_field c.args.declared.now in
    fields_kept_step g.W.WireProtocol.wire c.args.levels (schema_of c.args.schema.now).structs declared c.loop-step.fields.items _
    (c.len-step-end.result - c.loop-step.step) (c.len-step-end.result - (c.loop-step.step + 1)) (to_z w16 c.loop-step.last-bits) id c.in-Field.tag c.in-Field.flag
    (plain_field c.in_ok-found-in-Field.found.now) c.loop-step.ahead c.field.new.ahead _ c.args.ahead.now c.in_ok-value-in-Field.value
    (let more : c.len-step-end.result - c.loop-step.step ≡ suc (c.len-step-end.result - (c.loop-step.step + 1)) = omega arith in more) c.loop-step.invariant
    (c.in_ok-head.ensures ∙ ap (λ h. Ok (head_of h, c.field.new.ahead)) c.in-Field.is ∙ ap (λ z. Ok (head_of (Field z c.in-Field.tag c.in-Field.flag), c.field.new.ahead)) same)
    c.if-not-is_behind.ensures (sym c.in_ok-found-in-Field.ensures) c.in_ok-value-in-Field.ensures (told_on c.keep.result tt c.in_ok-ok-in-Field.ensures.value c.keep.ensures)

pub settled_elements-loop-step-preserved : goal.settled_elements-loop-step-preserved
settled_elements-loop-step-preserved g t c =
    items_kept_step g.W.WireProtocol.wire c.in_ok-levels.levels (schema_of c.args.schema.now).structs (kind_of c.args.kind.now) c.loop-step.items.items _ c.in_ok-value.value
    (c.in_ok-tag.count - c.loop-step.step) (c.in_ok-tag.count - (c.loop-step.step + 1)) c.loop-step.ahead _ c.in_ok-tag.count _
    (let more : c.in_ok-tag.count - c.loop-step.step ≡ suc (c.in_ok-tag.count - (c.loop-step.step + 1)) = omega arith in more) c.loop-step.invariant c.in_ok-value.ensures (told_on c.put.result tt c.in_ok-ok.ensures.value c.put.ensures)

pub settled_elements-returns : goal.settled_elements-returns
settled_elements-returns g t c =
    let kind = kind_of c.args.kind.now in
    let tag = c.in_ok-tag.tag in
    elements_read g.W.WireProtocol.wire c.args.levels c.in_ok-levels.levels (schema_of c.args.schema.now).structs c.args.ahead.now _ c.in_ok-count_value.ensures (told _ _ c.deeper.result c.in_ok-levels.levels c.in_ok-levels.ensures.value c.deeper.ensures)
    tag c.in_ok-tag.count _ _ c.new.result kind c.in_ok-tag.ensures
    (sym (same_tags (tag_of_kind kind) tag (c.if-not-are_same_tags.ensures ∙ ap (λ a. are_same_tags a tag) c.tag_of_kind.ensures)))
    (items_kept_end g.W.WireProtocol.wire c.in_ok-levels.levels (schema_of c.args.schema.now).structs kind c.loop-step.items.items c.new.result
    (c.in_ok-tag.count - c.loop-step.step) c.loop-step.ahead c.in_ok-tag.count _ (let none : c.in_ok-tag.count - c.loop-step.step ≡ 0 = omega arith in none) c.loop-step.invariant c.new.ensures)

pub settled_pairs-loop-step-preserved : goal.settled_pairs-loop-step-preserved
settled_pairs-loop-step-preserved g t c =
    pairs_kept_step g.W.WireProtocol.wire c.args.levels (schema_of c.args.schema.now).structs (kind_of c.args.key_kind.now) (kind_of c.args.value_kind.now) c.loop-step.pairs.items _
    c.in_ok-key.key c.in_ok-value.value (c.args.count - c.loop-step.step) (c.args.count - (c.loop-step.step + 1)) c.loop-step.ahead _ _ c.args.count c.args.ahead.now
    (let more : c.args.count - c.loop-step.step ≡ suc (c.args.count - (c.loop-step.step + 1)) = omega arith in more) c.loop-step.invariant c.in_ok-key.ensures c.in_ok-value.ensures (told_on c.put.result tt c.in_ok-ok.ensures.value c.put.ensures)

pub settled_pairs-returns : goal.settled_pairs-returns
settled_pairs-returns g t c =
    pairs_kept_end g.W.WireProtocol.wire c.args.levels (schema_of c.args.schema.now).structs (kind_of c.args.key_kind.now) (kind_of c.args.value_kind.now) c.loop-step.pairs.items c.new.result
    (c.args.count - c.loop-step.step) c.loop-step.ahead c.args.count c.args.ahead.now (let none : c.args.count - c.loop-step.step ≡ 0 = omega arith in none) c.loop-step.invariant c.new.ensures

pub settled_list-returns : goal.settled_list-returns
settled_list-returns g t c =
    list_read g.W.WireProtocol.wire c.args.levels (schema_of c.args.schema.now).structs (kind_of c.args.element.now) c.args.ahead.now c.in_ok-tag.tag c.in_ok-tag.found _ c.in_ok-tag.ensures

pub settled_set-returns : goal.settled_set-returns
settled_set-returns g t c =
    set_read g.W.WireProtocol.wire c.args.levels (schema_of c.args.schema.now).structs (kind_of c.args.member.now) c.args.ahead.now c.in_ok-tag.tag c.in_ok-tag.found _ c.in_ok-tag.ensures
    (subst (IsRisingBy value_cmp) c.as_slice.ensures (c.is_rising.ensures.0 c.if-not-is_rising.false))

pub settled_map-returns : goal.settled_map-returns
settled_map-returns g t c =
    let names = tags_agree c.in_ok-key.key (kind_of c.args.key_kind.now) c.in_ok-key.value (kind_of c.args.value_kind.now) c.are_tags_of.result c.if-not-are_tags_of.false c.are_tags_of.ensures in
    map_read g.W.WireProtocol.wire c.args.levels c.in_ok-levels.levels (schema_of c.args.schema.now).structs c.args.ahead.now _ c.in_ok-count_value.ensures (told _ _ c.deeper.result c.in_ok-levels.levels c.in_ok-levels.ensures.value c.deeper.ensures)
    c.in_ok-key.key c.in_ok-key.value c.in_ok-key.count _ _ c.in_ok-found.found (kind_of c.args.key_kind.now) (kind_of c.args.value_kind.now) c.in_ok-key.ensures
    names.0 names.1 c.in_ok-found.ensures (subst (IsRisingBy pair_cmp) c.as_slice.ensures (c.is_rising.ensures.0 c.if-not-is_rising.false))

pub settled_struct-returns : goal.settled_struct-returns
settled_struct-returns g t c =
    let at = c.in_ok-desc.ensures in
    let all = c.if-not-has_all.ensures in
    struct_read g.W.WireProtocol.wire c.args.levels c.in_ok-levels.levels (schema_of c.args.schema.now).structs c.args.ahead.now _ c.in_ok-count_value.ensures (told _ _ c.deeper.result c.in_ok-levels.levels c.in_ok-levels.ensures.value c.deeper.ensures)
    c.args.which (plain_struct c.in_ok-desc.desc.now) c.in_ok-fields.fields c.settled_fields.new.ahead at.here
    (subst (λ ds. ReadsFields g.W.WireProtocol.wire c.in_ok-levels.levels (schema_of c.args.schema.now).structs (map plain_field ds) c.count_value.new.self c.in_ok-fields.fields c.settled_fields.new.ahead) c.as_slice.ensures c.in_ok-fields.ensures)
    all.0 all.1

pub settled_value-returns-in-Bytes : goal.settled_value-returns-in-Bytes
settled_value-returns-in-Bytes g t c =
    let structs = (schema_of c.args.schema.now).structs in
    let kind = kind_of c.args.kind.now in
    IfSome_then c.settled_text.result c.settled_text.ensures
    (λ v h. leaf_read g.W.WireProtocol.wire c.args.levels structs kind Bytes c.args.ahead.now (tree_of v) c.settled_text.new.ahead (sym c.in-Bytes.is ∙ c.requires.tag) h)

pub settled_value-returns-in_ok-which-in-Struct : goal.settled_value-returns-in_ok-which-in-Struct
settled_value-returns-in_ok-which-in-Struct g t c =
    let structs = (schema_of c.args.schema.now).structs in
    subst (λ k. IfSome c.settled_struct.result (λ v. ReadsSettled g.W.WireProtocol.wire c.args.levels structs k c.args.ahead.now (tree_of v) c.settled_struct.new.ahead))
    (kind_of_struct (kind_of c.args.kind.now) c.in_ok-which-in-Struct.which c.in_ok-which-in-Struct.ensures) c.settled_struct.ensures

pub settled_value-returns-in_ok-key-in-Map : goal.settled_value-returns-in_ok-key-in-Map
settled_value-returns-in_ok-key-in-Map g t c =
    let structs = (schema_of c.args.schema.now).structs in
    subst (λ k. IfSome c.settled_map.result (λ v. ReadsSettled g.W.WireProtocol.wire c.args.levels structs k c.args.ahead.now (tree_of v) c.settled_map.new.ahead))
    (kind_of_map (kind_of c.args.kind.now) (kind_of c.in_ok-key-in-Map.key.now, kind_of c.in_ok-key-in-Map.value.now) c.in_ok-key-in-Map.ensures) c.settled_map.ensures

pub settled_value-returns-in_ok-member-in-Set : goal.settled_value-returns-in_ok-member-in-Set
settled_value-returns-in_ok-member-in-Set g t c =
    let structs = (schema_of c.args.schema.now).structs in
    subst (λ k. IfSome c.settled_set.result (λ v. ReadsSettled g.W.WireProtocol.wire c.args.levels structs k c.args.ahead.now (tree_of v) c.settled_set.new.ahead))
    (kind_of_set (kind_of c.args.kind.now) (kind_of c.in_ok-member-in-Set.member.now) c.in_ok-member-in-Set.ensures) c.settled_set.ensures

pub settled_value-returns-in_ok-element-in-List : goal.settled_value-returns-in_ok-element-in-List
settled_value-returns-in_ok-element-in-List g t c =
    let structs = (schema_of c.args.schema.now).structs in
    subst (λ k. IfSome c.settled_list.result (λ v. ReadsSettled g.W.WireProtocol.wire c.args.levels structs k c.args.ahead.now (tree_of v) c.settled_list.new.ahead))
    (kind_of_list (kind_of c.args.kind.now) (kind_of c.in_ok-element-in-List.element.now) c.in_ok-element-in-List.ensures) c.settled_list.ensures

pub settled_value-returns-in_default : goal.settled_value-returns-in_default
settled_value-returns-in_default g t c =
    let structs = (schema_of c.args.schema.now).structs in
    let kind = kind_of c.args.kind.now in
    IfSome_then c.settled_number.result c.settled_number.ensures
    (λ v h. leaf_read g.W.WireProtocol.wire c.args.levels structs kind c.args.tag c.args.ahead.now (tree_of v) c.settled_number.new.ahead c.requires.tag h)

pub settled_field-returns : goal.settled_field-returns
settled_field-returns g t c =
    let structs = (schema_of c.args.schema.now).structs in
    let kind = kind_of c.args.kind.now in
    let same = sym (same_tags (tag_of_kind kind) c.args.tag (c.if-not-are_same_tags.ensures ∙ ap (λ a. are_same_tags a c.args.tag) c.tag_of_kind.ensures)) in
    IfSome_then c.settled_value.result c.settled_value.ensures
    (λ v h. field_by_tag g.W.WireProtocol.wire c.args.levels structs kind c.args.tag c.args.ahead.now (tree_of v) c.settled_value.new.ahead c.args.flag c.in_default.is same h)

pub settled_field-returns-in-Some : goal.settled_field-returns-in-Some
settled_field-returns-in-Some g t c =
    let structs = (schema_of c.args.schema.now).structs in
    let kind = kind_of c.args.kind.now in
    IfSome_then c.settled_flag.result c.settled_flag.ensures
    (λ v h. field_by_flag g.W.WireProtocol.wire c.args.levels structs kind c.args.tag c.args.ahead.now (tree_of v) c.settled_flag.new.ahead c.args.flag c.in-Some.flag c.in-Some.is h.0 h.1 h.2)

pub settled_fields-loop-step-init : goal.settled_fields-loop-step-init
settled_fields-loop-step-init g t c =
    fields_kept_begin g.W.WireProtocol.wire c.args.levels (schema_of c.args.schema.now).structs (map plain_field c.args.declared.now) c.new-fields.result.items _ c.args.ahead.now
    c.new-fields.ensures.items (omega (arith, c.len-step-end.ensures))

pub settled_elements-loop-step-init : goal.settled_elements-loop-step-init
settled_elements-loop-step-init g t c =
    items_kept_begin g.W.WireProtocol.wire c.in_ok-levels.levels (schema_of c.args.schema.now).structs (kind_of c.args.kind.now) c.in_ok-items.items.items _ c.in_ok-tag.count c.items.new.ahead
    c.in_ok-items.ensures (omega arith)

pub settled_pairs-loop-step-init : goal.settled_pairs-loop-step-init
settled_pairs-loop-step-init g t c =
    pairs_kept_begin g.W.WireProtocol.wire c.args.levels (schema_of c.args.schema.now).structs (kind_of c.args.key_kind.now) (kind_of c.args.value_kind.now) c.in_ok-pairs.pairs.items _ c.args.count c.args.ahead.now
    c.in_ok-pairs.ensures (omega arith)

-- what each call requires of those that it is made of

pub settled_value-settled_struct-requires : goal.settled_value-settled_struct-requires
settled_value-settled_struct-requires g t c κs within =
    (omega (arith, c.decreases), (search rules, (c.requires.sound, c.requires.needed)))

pub settled_value-settled_map-requires : goal.settled_value-settled_map-requires
settled_value-settled_map-requires g t c κs within =
    (omega (arith, c.decreases), (search rules, (c.requires.sound, c.requires.needed)))

pub settled_value-settled_set-requires : goal.settled_value-settled_set-requires
settled_value-settled_set-requires g t c κs within =
    (omega (arith, c.decreases), (search rules, (c.requires.sound, c.requires.needed)))

pub settled_value-settled_list-requires : goal.settled_value-settled_list-requires
settled_value-settled_list-requires g t c κs within =
    (omega (arith, c.decreases), (search rules, (c.requires.sound, c.requires.needed)))

pub settled_list-settled_elements-requires : goal.settled_list-settled_elements-requires
settled_list-settled_elements-requires g t c κs within =
    (omega (arith, c.decreases), (search rules, (c.requires.sound, c.requires.needed)))

pub settled_set-settled_elements-requires : goal.settled_set-settled_elements-requires
settled_set-settled_elements-requires g t c κs within =
    (omega (arith, c.decreases), (search rules, (c.requires.sound, c.requires.needed)))

pub settled_fields-settled_field-requires : goal.settled_fields-settled_field-requires
settled_fields-settled_field-requires g t c κs within =
    (omega (arith, c.decreases), (search rules, (c.requires.sound, c.requires.needed)))

pub settled_map-settled_pairs-requires : goal.settled_map-settled_pairs-requires
settled_map-settled_pairs-requires g t c κs within =
    (omega (arith, c.decreases, told _ _ c.deeper.result c.in_ok-levels.levels c.in_ok-levels.ensures.value c.deeper.ensures), (search rules, (c.requires.sound, c.requires.needed)))

pub settled_elements-settled_value-requires : goal.settled_elements-settled_value-requires
settled_elements-settled_value-requires g t c κs within =
    (omega (arith, c.decreases, told _ _ c.deeper.result c.in_ok-levels.levels c.in_ok-levels.ensures.value c.deeper.ensures), (search rules, (c.requires.sound, (c.requires.needed, sym (same_tags (tag_of_kind (kind_of c.args.kind.now)) c.in_ok-tag.tag (c.if-not-are_same_tags.ensures ∙ ap (λ a. are_same_tags a c.in_ok-tag.tag) c.tag_of_kind.ensures))))))

pub settled_field-settled_value-requires : goal.settled_field-settled_value-requires
settled_field-settled_value-requires g t c κs within =
    (omega (arith, c.decreases), (search rules, (c.requires.sound, (c.requires.needed, sym (same_tags (tag_of_kind (kind_of c.args.kind.now)) c.args.tag (c.if-not-are_same_tags.ensures ∙ ap (λ a. are_same_tags a c.args.tag) c.tag_of_kind.ensures))))))

pub settled_pairs-settled_value-requires : goal.settled_pairs-settled_value-requires
settled_pairs-settled_value-requires g t c κs within =
    (omega (arith, c.decreases), (search rules, (c.requires.sound, (c.requires.needed, c.tag_of_kind-key_tag.ensures))))

pub settled_pairs-settled_value-requires-in-loop-step : goal.settled_pairs-settled_value-requires-in-loop-step
settled_pairs-settled_value-requires-in-loop-step g t c κs within =
    (omega (arith, c.decreases), (search rules, (c.requires.sound, (c.requires.needed, c.tag_of_kind-value_tag.ensures))))

pub settled_value-settled_number-requires : goal.settled_value-settled_number-requires
settled_value-settled_number-requires g t c =
    is_scalar c.args.tag c.in_default.not-Bytes c.in_default.not-Struct c.in_default.not-Map c.in_default.not-Set c.in_default.not-List

pub settled_struct-has_all-requires : goal.settled_struct-has_all-requires
settled_struct-has_all-requires g t c = let at = c.in_ok-desc.ensures in at.needed

pub settled_struct-settled_fields-requires : goal.settled_struct-settled_fields-requires
settled_struct-settled_fields-requires g t c κs within =
    let at = c.in_ok-desc.ensures in (
      omega (arith, c.decreases, told _ _ c.deeper.result c.in_ok-levels.levels c.in_ok-levels.ensures.value c.deeper.ensures),
      (search rules, (c.requires.sound, (c.requires.needed, subst (λ ds. AllPairs (λ (f g : PlainField). f.id <ℤ g.id) (map plain_field ds)) (sym c.as_slice.ensures) at.rising))),
    )
