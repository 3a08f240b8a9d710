use Rattle.std.proofs.Common.{◌≡◌, ℕ, ℤ, Bool, Some, None, List, map, refl, sym, ap, ◌∙◌, rules, to_z, of_z}
use Rattle.std.specs.Int.{w16}
use Rattle.std.proofs.lemmas.Int.{to_z-of_z}
use Rattle.std.specs.Prelude.{◌&&◌}
use Rattle.std.specs.List.{slice_get}
use Rattle.thrift_value.specs.declared.value.Value.{Value}
use Rattle.thrift_value.specs.TreeOf.{tree_of, field_tree, field_trees, item_trees, pair_tree, pair_trees}
use Rattle.schema.specs.PlainKind.{PlainKind, kind_of}
use Rattle.schema.specs.PlainSchema.{PlainField, PlainSchema}
use Rattle.schema.specs.SchemaOf.{schema_of, plain_field}
use Rattle.schema.specs.WrittenAs.{field_with_id}
use Rattle.thrift_value.proofs.Trees.{tree_of-Bytes}
use Rattle.known_parts.specs.Parts.{are_same_tags, tag_of_kind}
use Rattle.struct_skew.specs.OutgoingTests.{do_bytes_go_out, do_fields_go_out, do_items_go_out, do_pairs_go_out, does_list_go_out, does_map_go_out, does_set_go_out, does_struct_go_out, goes_out}
use Rattle.struct_skew.specs.TidyTests.{are_rising_items}
use Rattle.struct_skew.specs.WrittenTests.{some_passes}
use Rattle.struct_skew.proofs.Scalars.{number_else}
use Rattle.struct_skew.proofs.OneTest.{outgoing_bytes, outgoing_number, struct_by_part, map_by_parts, set_by_part, list_by_part, set_by_list}
use Rattle.struct_skew.proofs.Tried.{one_fails, one_passes, all_pass}
use Rattle.struct_skew.proofs.outgoing.+outgoing.Goals as goal

-- what is tried of each field, element and pair
abbrev all_fields : PlainSchema → ℕ → List PlainField → List (ℤ × Value) → Bool
all_fields s levels declared fields = do_fields_go_out s.structs levels declared (field_trees (map field_tree fields))

abbrev declared_passes : PlainSchema → ℕ → Value → PlainField → Bool
declared_passes s levels value f = goes_out s.structs levels f.kind (tree_of value)

abbrev one_field : PlainSchema → ℕ → List PlainField → ℤ × Value → Bool
one_field s levels declared f = some_passes (field_with_id f.0 declared) (declared_passes s levels f.1)

abbrev all_items : PlainSchema → ℕ → PlainKind → List Value → Bool
all_items s levels kind items = do_items_go_out s.structs levels kind (item_trees (map tree_of items))

abbrev one_item : PlainSchema → ℕ → PlainKind → Value → Bool
one_item s levels kind value = goes_out s.structs levels kind (tree_of value)

abbrev all_pairs : PlainSchema → ℕ → PlainKind → PlainKind → List (Value × Value) → Bool
all_pairs s levels key value pairs = do_pairs_go_out s.structs levels key value (pair_trees (map pair_tree pairs))

abbrev one_pair : PlainSchema → ℕ → PlainKind → PlainKind → Value × Value → Bool
one_pair s levels key value p = one_item s levels key p.0 && one_item s levels value p.1

pub fields_go_out-returns-in_default : goal.fields_go_out-returns-in_default
fields_go_out-returns-in_default t c =
    let s = schema_of c.args.schema.now in
    let levels = c.args.levels in
    let declared = map plain_field c.args.declared.now in
    let same : to_z w16 (of_z w16 c.loop-id-item.result.0) ≡ c.loop-id-item.result.0 = to_z-of_z w16 c.loop-id-item.result.0 (search rules) in
    one_fails (all_fields s levels declared) (one_field s levels declared) (λ f fs. refl) c.args.fields.now c.loop-id.id-index c.loop-id-item.result c.loop-id-test.true c.loop-id-item.is c.loop-id.invariant
    (ap (λ o. some_passes o (declared_passes s levels c.loop-id-item.result.1)) (c.in_default.ensures ∙ ap (λ id. field_with_id id declared) same))

pub fields_go_out-returns-then-not-goes_out : goal.fields_go_out-returns-then-not-goes_out
fields_go_out-returns-then-not-goes_out t c =
    let s = schema_of c.args.schema.now in
    let levels = c.args.levels in
    let declared = map plain_field c.args.declared.now in
    let same : to_z w16 (of_z w16 c.loop-id-item.result.0) ≡ c.loop-id-item.result.0 = to_z-of_z w16 c.loop-id-item.result.0 (search rules) in
    one_fails (all_fields s levels declared) (one_field s levels declared) (λ f fs. refl) c.args.fields.now c.loop-id.id-index c.loop-id-item.result c.loop-id-test.true c.loop-id-item.is c.loop-id.invariant
    (c.if-not-goes_out.ensures ∙ ap (λ o. some_passes o (declared_passes s levels c.loop-id-item.result.1)) (c.in-Some.ensures ∙ ap (λ id. field_with_id id declared) same))

pub fields_go_out-loop-id-preserved : goal.fields_go_out-loop-id-preserved
fields_go_out-loop-id-preserved t c =
    let s = schema_of c.args.schema.now in
    let levels = c.args.levels in
    let declared = map plain_field c.args.declared.now in
    let same : to_z w16 (of_z w16 c.loop-id-item.result.0) ≡ c.loop-id-item.result.0 = to_z-of_z w16 c.loop-id-item.result.0 (search rules) in
    one_passes (all_fields s levels declared) (one_field s levels declared) (λ f fs. refl) c.args.fields.now c.loop-id.id-index c.loop-id-item.result c.loop-id-test.true c.loop-id-item.is c.loop-id.invariant
    (c.if-not-goes_out.ensures ∙ ap (λ o. some_passes o (declared_passes s levels c.loop-id-item.result.1)) (c.in-Some.ensures ∙ ap (λ id. field_with_id id declared) same))

pub fields_go_out-returns : goal.fields_go_out-returns
fields_go_out-returns t c =
    let s = schema_of c.args.schema.now in
    let levels = c.args.levels in
    let declared = map plain_field c.args.declared.now in
    all_pass (all_fields s levels declared) c.args.fields.now c.loop-id.id-index refl c.loop-id-test.false c.loop-id.invariant

pub items_go_out-returns-then-not-goes_out : goal.items_go_out-returns-then-not-goes_out
items_go_out-returns-then-not-goes_out t c =
    let s = schema_of c.args.schema.now in
    let levels = c.args.levels in
    let kind = kind_of c.args.kind.now in
    one_fails (all_items s levels kind) (one_item s levels kind) (λ x xs. refl) c.args.items.now c.loop-value.value-index c.value-item.result c.loop-value-test.true c.value-item.is c.loop-value.invariant c.if-not-goes_out.ensures

pub items_go_out-loop-value-preserved : goal.items_go_out-loop-value-preserved
items_go_out-loop-value-preserved t c =
    let s = schema_of c.args.schema.now in
    let levels = c.args.levels in
    let kind = kind_of c.args.kind.now in
    one_passes (all_items s levels kind) (one_item s levels kind) (λ x xs. refl) c.args.items.now c.loop-value.value-index c.value-item.result c.loop-value-test.true c.value-item.is c.loop-value.invariant c.if-not-goes_out.ensures

pub items_go_out-returns : goal.items_go_out-returns
items_go_out-returns t c =
    let s = schema_of c.args.schema.now in
    let levels = c.args.levels in
    let kind = kind_of c.args.kind.now in
    all_pass (all_items s levels kind) c.args.items.now c.loop-value.value-index refl c.loop-value-test.false c.loop-value.invariant

pub pairs_go_out-returns-then-not-goes_out : goal.pairs_go_out-returns-then-not-goes_out
pairs_go_out-returns-then-not-goes_out t c =
    let s = schema_of c.args.schema.now in
    let levels = c.args.levels in
    let key = kind_of c.args.key_kind.now in
    let value = kind_of c.args.value_kind.now in
    one_fails (all_pairs s levels key value) (one_pair s levels key value) (λ p ps. refl) c.args.pairs.now c.loop-key.key-index c.loop-key-item.result c.loop-key-test.true c.loop-key-item.is c.loop-key.invariant
    (ap (λ b. b && one_item s levels value c.loop-key-item.result.1) c.if-not-goes_out.ensures)

pub pairs_go_out-returns-then-not-goes_out-2 : goal.pairs_go_out-returns-then-not-goes_out-2
pairs_go_out-returns-then-not-goes_out-2 t c =
    let s = schema_of c.args.schema.now in
    let levels = c.args.levels in
    let key = kind_of c.args.key_kind.now in
    let value = kind_of c.args.value_kind.now in
    one_fails (all_pairs s levels key value) (one_pair s levels key value) (λ p ps. refl) c.args.pairs.now c.loop-key.key-index c.loop-key-item.result c.loop-key-test.true c.loop-key-item.is c.loop-key.invariant
    (c.if-not-goes_out-2.ensures ∙ ap (λ b. b && one_item s levels value c.loop-key-item.result.1) c.if-not-goes_out.ensures)

pub pairs_go_out-loop-key-preserved : goal.pairs_go_out-loop-key-preserved
pairs_go_out-loop-key-preserved t c =
    let s = schema_of c.args.schema.now in
    let levels = c.args.levels in
    let key = kind_of c.args.key_kind.now in
    let value = kind_of c.args.value_kind.now in
    one_passes (all_pairs s levels key value) (one_pair s levels key value) (λ p ps. refl) c.args.pairs.now c.loop-key.key-index c.loop-key-item.result c.loop-key-test.true c.loop-key-item.is c.loop-key.invariant
    (c.if-not-goes_out-2.ensures ∙ ap (λ b. b && one_item s levels value c.loop-key-item.result.1) c.if-not-goes_out.ensures)

pub pairs_go_out-returns : goal.pairs_go_out-returns
pairs_go_out-returns t c =
    let s = schema_of c.args.schema.now in
    let levels = c.args.levels in
    let key = kind_of c.args.key_kind.now in
    let value = kind_of c.args.value_kind.now in
    all_pass (all_pairs s levels key value) c.args.pairs.now c.loop-key.key-index refl c.loop-key-test.false c.loop-key.invariant

pub goes_out-returns-in-Some : goal.goes_out-returns-in-Some
goes_out-returns-in-Some t c =
    let structs = (schema_of c.args.schema.now).structs in
    struct_by_part structs c.args.levels (kind_of c.args.kind.now) c.args.value.now c.struct_goes_out.result c.in-Struct.fields (Some c.in-Some.which) c.in-Struct.is c.in-Some.ensures
    (c.struct_goes_out.ensures ∙ ap (λ fs. does_struct_go_out structs c.args.levels (slice_get structs c.in-Some.which) (field_trees (map field_tree fs))) c.as_slice.ensures)

pub goes_out-returns-in-None : goal.goes_out-returns-in-None
goes_out-returns-in-None t c = struct_by_part _ c.args.levels (kind_of c.args.kind.now) c.args.value.now _ c.in-Struct.fields None c.in-Struct.is c.in-None.ensures refl

pub goes_out-returns-in-Some-map_of_kind : goal.goes_out-returns-in-Some-map_of_kind
goes_out-returns-in-Some-map_of_kind t c =
    let structs = (schema_of c.args.schema.now).structs in
    let key = kind_of c.in-Some-map_of_kind.key.now in
    let value = kind_of c.in-Some-map_of_kind.value.now in
    map_by_parts structs c.args.levels (kind_of c.args.kind.now) c.args.value.now c.map_goes_out.result c.in-Map.k c.in-Map.v c.in-Map.pairs (Some (key, value)) c.in-Map.is c.in-Some-map_of_kind.ensures
    (c.map_goes_out.ensures ∙ ap (λ ps. does_map_go_out structs c.args.levels key value c.in-Map.k c.in-Map.v (pair_trees (map pair_tree ps))) c.as_slice-in-Some-map_of_kind.ensures)

pub goes_out-returns-in-None-map_of_kind : goal.goes_out-returns-in-None-map_of_kind
goes_out-returns-in-None-map_of_kind t c = map_by_parts _ c.args.levels (kind_of c.args.kind.now) c.args.value.now _ c.in-Map.k c.in-Map.v c.in-Map.pairs None c.in-Map.is c.in-None-map_of_kind.ensures refl

pub goes_out-returns-in-Some-set_of_kind : goal.goes_out-returns-in-Some-set_of_kind
goes_out-returns-in-Some-set_of_kind t c =
    let structs = (schema_of c.args.schema.now).structs in
    let member = kind_of c.in-Some-set_of_kind.member.now in
    set_by_part structs c.args.levels (kind_of c.args.kind.now) c.args.value.now c.set_goes_out.result c.in-Set.t c.in-Set.items (Some member) c.in-Set.is c.in-Some-set_of_kind.ensures
    (c.set_goes_out.ensures ∙ ap (λ items. does_set_go_out structs c.args.levels member c.in-Set.t (item_trees (map tree_of items))) c.as_slice-in-Some-set_of_kind.ensures)

pub goes_out-returns-in-None-set_of_kind : goal.goes_out-returns-in-None-set_of_kind
goes_out-returns-in-None-set_of_kind t c = set_by_part _ c.args.levels (kind_of c.args.kind.now) c.args.value.now _ c.in-Set.t c.in-Set.items None c.in-Set.is c.in-None-set_of_kind.ensures refl

pub goes_out-returns-in-Some-list_of_kind : goal.goes_out-returns-in-Some-list_of_kind
goes_out-returns-in-Some-list_of_kind t c =
    let structs = (schema_of c.args.schema.now).structs in
    let element = kind_of c.in-Some-list_of_kind.element.now in
    list_by_part structs c.args.levels (kind_of c.args.kind.now) c.args.value.now c.list_goes_out.result c.in-List.t c.in-List.items (Some element) c.in-List.is c.in-Some-list_of_kind.ensures
    (c.list_goes_out.ensures ∙ ap (λ items. does_list_go_out structs c.args.levels element c.in-List.t (item_trees (map tree_of items))) c.as_slice-in-Some-list_of_kind.ensures)

pub goes_out-returns-in-None-list_of_kind : goal.goes_out-returns-in-None-list_of_kind
goes_out-returns-in-None-list_of_kind t c = list_by_part _ c.args.levels (kind_of c.args.kind.now) c.args.value.now _ c.in-List.t c.in-List.items None c.in-List.is c.in-None-list_of_kind.ensures refl

pub set_goes_out-returns-then-not-list_goes_out : goal.set_goes_out-returns-then-not-list_goes_out
set_goes_out-returns-then-not-list_goes_out t c =
    let items = item_trees (map tree_of c.args.items.now) in
    ap (λ b. b && are_rising_items items) c.if-not-list_goes_out.ensures ∙ sym (set_by_list (schema_of c.args.schema.now).structs c.args.levels (kind_of c.args.kind.now) c.args.t items)

pub set_goes_out-returns : goal.set_goes_out-returns
set_goes_out-returns t c =
    let structs = (schema_of c.args.schema.now).structs in
    let kind = kind_of c.args.kind.now in
    let items = item_trees (map tree_of c.args.items.now) in
    c.items_rise.ensures ∙ ap (λ b. b && are_rising_items items) c.if-not-list_goes_out.ensures ∙ sym (set_by_list structs c.args.levels kind c.args.t items)

pub goes_out-returns-in_default : goal.goes_out-returns-in_default
goes_out-returns-in_default t c =
    let v = c.args.value.now in
    c.is_tag_of.ensures ∙ ap (are_same_tags (tag_of_kind (kind_of c.args.kind.now))) c.tag.ensures
    ∙ sym (outgoing_number (schema_of c.args.schema.now).structs c.args.levels (kind_of c.args.kind.now) (tree_of v)
    (number_else v c.in_default.not-Bytes c.in_default.not-Struct c.in_default.not-Map c.in_default.not-Set c.in_default.not-List))

pub goes_out-returns-in-Bytes : goal.goes_out-returns-in-Bytes
goes_out-returns-in-Bytes t c =
    let structs = (schema_of c.args.schema.now).structs in
    let kind = kind_of c.args.kind.now in
    c.bytes_go_out.ensures ∙ ap (do_bytes_go_out kind) c.as_slice-in-Bytes.ensures
    ∙ sym (ap (goes_out structs c.args.levels kind) (ap tree_of c.in-Bytes.is ∙ tree_of-Bytes c.in-Bytes.bytes) ∙ outgoing_bytes structs c.args.levels kind c.in-Bytes.bytes)
