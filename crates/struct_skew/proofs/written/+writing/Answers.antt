use Rattle.std.proofs.Common.{◌≡◌, Bool, ℤ, Some, None, List, map, refl, sym, ap, ap₂, ◌∙◌}
use Rattle.std.specs.Prelude.{◌&&◌}
use Rattle.std.specs.List.{slice_get}
use Rattle.thrift_value.specs.declared.value.Value.{Value}
use Rattle.thrift_value.specs.TreeOf.{tree_of, field_tree, field_trees, item_trees, pair_tree, pair_trees}
use Rattle.schema.specs.LookUp.{fields_at}
use Rattle.schema.specs.PlainKind.{PlainKind, kind_of}
use Rattle.schema.specs.PlainSchema.{PlainField, PlainSchema}
use Rattle.schema.specs.SchemaOf.{schema_of, plain_struct}
use Rattle.schema.specs.WrittenAs.{field_with_id}
use Rattle.struct_skew.specs.Needs.{needs_of}
use Rattle.struct_skew.specs.WrittenTests.{are_fields_written_as, are_items_written_as, are_pairs_written_as, is_struct_written, is_written_as, some_passes}
use Rattle.known_parts.specs.Parts.{are_same_tags}
use Rattle.struct_skew.proofs.Scalars.{scalar_else}
use Rattle.struct_skew.proofs.RequiredPlaces.{struct_there, known_there, struct_lacks, struct_by_fields}
use Rattle.struct_skew.proofs.Tried.{one_fails, one_passes, all_pass}
use Rattle.struct_skew.proofs.Writing.{written_scalar, struct_by_part, map_by_parts, set_by_part, list_by_part}
use Rattle.struct_skew.proofs.written.+writing.Goals as goal

pub struct_is_written-has_its_fields-requires : goal.struct_is_written-has_its_fields-requires
struct_is_written-has_its_fields-requires t c =
    let here = struct_there c.args.schema.now.structs c.args.which c.in-Some.desc.now (c.in-Some.ensures ∙ ap (λ ds. slice_get ds c.args.which) c.as_slice.ensures) in
    known_there c.required_of-required.result (λ e. slice_get (schema_of c.args.schema.now).structs c.args.which ≡ Some e) (λ e places. places.now ≡ (needs_of e).required)
    (plain_struct c.in-Some.desc.now) here c.required_of-required.ensures

pub struct_is_written-returns-then-not-has_its_fields : goal.struct_is_written-returns-then-not-has_its_fields
struct_is_written-returns-then-not-has_its_fields t c =
    let here = struct_there c.args.schema.now.structs c.args.which c.in-Some.desc.now (c.in-Some.ensures ∙ ap (λ ds. slice_get ds c.args.which) c.as_slice.ensures) in
    struct_lacks (schema_of c.args.schema.now).structs (slice_get (schema_of c.args.schema.now).structs c.args.which) (plain_struct c.in-Some.desc.now) (field_trees (map field_tree c.args.fields.now))
    here c.if-not-has_its_fields.ensures

pub struct_is_written-returns : goal.struct_is_written-returns
struct_is_written-returns t c =
    let here = struct_there c.args.schema.now.structs c.args.which c.in-Some.desc.now (c.in-Some.ensures ∙ ap (λ ds. slice_get ds c.args.which) c.as_slice.ensures) in
    struct_by_fields (schema_of c.args.schema.now) c.args.which (plain_struct c.in-Some.desc.now) (field_trees (map field_tree c.args.fields.now)) c.fields_are_written.result
    here c.if-not-has_its_fields.ensures c.fields_are_written.ensures

-- what is tried of each field, element and pair
abbrev all_fields : PlainSchema → List PlainField → List (ℤ × Value) → Bool
all_fields s declared fields = are_fields_written_as s.structs declared (field_trees (map field_tree fields))

abbrev declared_passes : PlainSchema → Value → PlainField → Bool
declared_passes s value f = is_written_as s.structs f.kind (tree_of value)

abbrev one_field : PlainSchema → List PlainField → ℤ × Value → Bool
one_field s declared f = some_passes (field_with_id f.0 declared) (declared_passes s f.1)

abbrev all_items : PlainSchema → PlainKind → List Value → Bool
all_items s kind items = are_items_written_as s.structs kind (item_trees (map tree_of items))

abbrev one_item : PlainSchema → PlainKind → Value → Bool
one_item s kind value = is_written_as s.structs kind (tree_of value)

abbrev all_pairs : PlainSchema → PlainKind → PlainKind → List (Value × Value) → Bool
all_pairs s key value pairs = are_pairs_written_as s.structs key value (pair_trees (map pair_tree pairs))

abbrev one_pair : PlainSchema → PlainKind → PlainKind → Value × Value → Bool
one_pair s key value p = one_item s key p.0 && one_item s value p.1

pub fields_are_written-returns-in_default : goal.fields_are_written-returns-in_default
fields_are_written-returns-in_default t c =
    let s = schema_of c.args.schema.now in
    let declared = fields_at s c.args.which in
    one_fails (all_fields s declared) (one_field s declared) (λ f fs. refl) c.args.fields.now c.loop-id.id-index c.loop-id-item.result c.loop-id-test.true c.loop-id-item.is c.loop-id.invariant
    (ap (λ o. some_passes o (declared_passes s c.loop-id-item.result.1)) c.in_default.ensures)

pub fields_are_written-returns-then-not-is_written_as : goal.fields_are_written-returns-then-not-is_written_as
fields_are_written-returns-then-not-is_written_as t c =
    let s = schema_of c.args.schema.now in
    let declared = fields_at s c.args.which in
    one_fails (all_fields s declared) (one_field s declared) (λ f fs. refl) c.args.fields.now c.loop-id.id-index c.loop-id-item.result c.loop-id-test.true c.loop-id-item.is c.loop-id.invariant
    (c.if-not-is_written_as.ensures ∙ ap (λ o. some_passes o (declared_passes s c.loop-id-item.result.1)) c.in-Some.ensures)

pub fields_are_written-loop-id-preserved : goal.fields_are_written-loop-id-preserved
fields_are_written-loop-id-preserved t c =
    let s = schema_of c.args.schema.now in
    let declared = fields_at s c.args.which in
    one_passes (all_fields s declared) (one_field s declared) (λ f fs. refl) c.args.fields.now c.loop-id.id-index c.loop-id-item.result c.loop-id-test.true c.loop-id-item.is c.loop-id.invariant
    (c.if-not-is_written_as.ensures ∙ ap (λ o. some_passes o (declared_passes s c.loop-id-item.result.1)) c.in-Some.ensures)

pub fields_are_written-returns : goal.fields_are_written-returns
fields_are_written-returns t c =
    let s = schema_of c.args.schema.now in
    all_pass (all_fields s (fields_at s c.args.which)) c.args.fields.now c.loop-id.id-index refl c.loop-id-test.false c.loop-id.invariant

pub items_are_written-returns-then-not-is_written_as : goal.items_are_written-returns-then-not-is_written_as
items_are_written-returns-then-not-is_written_as t c =
    let s = schema_of c.args.schema.now in
    let kind = kind_of c.args.kind.now in
    one_fails (all_items s kind) (one_item s kind) (λ x xs. refl) c.args.items.now c.loop-value.value-index c.value-item.result c.loop-value-test.true c.value-item.is c.loop-value.invariant
    c.if-not-is_written_as.ensures

pub items_are_written-loop-value-preserved : goal.items_are_written-loop-value-preserved
items_are_written-loop-value-preserved t c =
    let s = schema_of c.args.schema.now in
    let kind = kind_of c.args.kind.now in
    one_passes (all_items s kind) (one_item s kind) (λ x xs. refl) c.args.items.now c.loop-value.value-index c.value-item.result c.loop-value-test.true c.value-item.is c.loop-value.invariant
    c.if-not-is_written_as.ensures

pub items_are_written-returns : goal.items_are_written-returns
items_are_written-returns t c =
    all_pass (all_items (schema_of c.args.schema.now) (kind_of c.args.kind.now)) c.args.items.now c.loop-value.value-index refl c.loop-value-test.false c.loop-value.invariant

pub pairs_are_written-returns-then-not-is_written_as : goal.pairs_are_written-returns-then-not-is_written_as
pairs_are_written-returns-then-not-is_written_as t c =
    let s = schema_of c.args.schema.now in
    let key = kind_of c.args.key_kind.now in
    let value = kind_of c.args.value_kind.now in
    one_fails (all_pairs s key value) (one_pair s key value) (λ p ps. refl) c.args.pairs.now c.loop-key.key-index c.loop-key-item.result c.loop-key-test.true c.loop-key-item.is c.loop-key.invariant
    (ap (λ b. b && one_item s value c.loop-key-item.result.1) c.if-not-is_written_as.ensures)

pub pairs_are_written-returns-then-not-is_written_as-2 : goal.pairs_are_written-returns-then-not-is_written_as-2
pairs_are_written-returns-then-not-is_written_as-2 t c =
    let s = schema_of c.args.schema.now in
    let key = kind_of c.args.key_kind.now in
    let value = kind_of c.args.value_kind.now in
    one_fails (all_pairs s key value) (one_pair s key value) (λ p ps. refl) c.args.pairs.now c.loop-key.key-index c.loop-key-item.result c.loop-key-test.true c.loop-key-item.is c.loop-key.invariant
    (c.if-not-is_written_as-2.ensures ∙ ap (λ b. b && one_item s value c.loop-key-item.result.1) c.if-not-is_written_as.ensures)

pub pairs_are_written-loop-key-preserved : goal.pairs_are_written-loop-key-preserved
pairs_are_written-loop-key-preserved t c =
    let s = schema_of c.args.schema.now in
    let key = kind_of c.args.key_kind.now in
    let value = kind_of c.args.value_kind.now in
    one_passes (all_pairs s key value) (one_pair s key value) (λ p ps. refl) c.args.pairs.now c.loop-key.key-index c.loop-key-item.result c.loop-key-test.true c.loop-key-item.is c.loop-key.invariant
    (c.if-not-is_written_as-2.ensures ∙ ap (λ b. b && one_item s value c.loop-key-item.result.1) c.if-not-is_written_as.ensures)

pub pairs_are_written-returns : goal.pairs_are_written-returns
pairs_are_written-returns t c =
    all_pass (all_pairs (schema_of c.args.schema.now) (kind_of c.args.key_kind.now) (kind_of c.args.value_kind.now)) c.args.pairs.now c.loop-key.key-index refl c.loop-key-test.false c.loop-key.invariant

pub is_written_as-returns-in-Some : goal.is_written_as-returns-in-Some
is_written_as-returns-in-Some t c =
    let structs = (schema_of c.args.schema.now).structs in
    struct_by_part structs (kind_of c.args.kind.now) c.args.value.now c.struct_is_written.result c.in-Struct.fields (Some c.in-Some.which) c.in-Struct.is c.in-Some.ensures
    (c.struct_is_written.ensures ∙ ap (λ fs. is_struct_written structs (slice_get structs c.in-Some.which) (field_trees (map field_tree fs))) c.as_slice.ensures)

pub is_written_as-returns-in-None : goal.is_written_as-returns-in-None
is_written_as-returns-in-None t c = struct_by_part _ (kind_of c.args.kind.now) c.args.value.now _ c.in-Struct.fields None c.in-Struct.is c.in-None.ensures refl

pub is_written_as-returns-in-Some-map_of_kind : goal.is_written_as-returns-in-Some-map_of_kind
is_written_as-returns-in-Some-map_of_kind t c =
    let s = schema_of c.args.schema.now in
    let key = kind_of c.in-Some-map_of_kind.key.now in
    let value = kind_of c.in-Some-map_of_kind.value.now in
    map_by_parts s.structs (kind_of c.args.kind.now) c.args.value.now c.pairs_are_written.result _ _ c.in-Map.pairs (Some (key, value)) c.in-Map.is c.in-Some-map_of_kind.ensures
    (c.pairs_are_written.ensures ∙ ap (all_pairs s key value) c.as_slice-in-Some-map_of_kind.ensures)

pub is_written_as-returns-in-None-map_of_kind : goal.is_written_as-returns-in-None-map_of_kind
is_written_as-returns-in-None-map_of_kind t c = map_by_parts _ (kind_of c.args.kind.now) c.args.value.now _ _ _ c.in-Map.pairs None c.in-Map.is c.in-None-map_of_kind.ensures refl

pub is_written_as-returns-in-Some-set_of_kind : goal.is_written_as-returns-in-Some-set_of_kind
is_written_as-returns-in-Some-set_of_kind t c =
    let s = schema_of c.args.schema.now in
    let member = kind_of c.in-Some-set_of_kind.member.now in
    set_by_part s.structs (kind_of c.args.kind.now) c.args.value.now c.items_are_written.result _ c.in-Set.items (Some member) c.in-Set.is c.in-Some-set_of_kind.ensures
    (c.items_are_written.ensures ∙ ap (all_items s member) c.as_slice-in-Some-set_of_kind.ensures)

pub is_written_as-returns-in-None-set_of_kind : goal.is_written_as-returns-in-None-set_of_kind
is_written_as-returns-in-None-set_of_kind t c = set_by_part _ (kind_of c.args.kind.now) c.args.value.now _ _ c.in-Set.items None c.in-Set.is c.in-None-set_of_kind.ensures refl

pub is_written_as-returns-in-Some-list_of_kind : goal.is_written_as-returns-in-Some-list_of_kind
is_written_as-returns-in-Some-list_of_kind t c =
    let s = schema_of c.args.schema.now in
    let element = kind_of c.in-Some-list_of_kind.element.now in
    list_by_part s.structs (kind_of c.args.kind.now) c.args.value.now c.items_are_written-in-Some-list_of_kind.result _ c.in-List.items (Some element) c.in-List.is c.in-Some-list_of_kind.ensures
    (c.items_are_written-in-Some-list_of_kind.ensures ∙ ap (all_items s element) c.as_slice-in-Some-list_of_kind.ensures)

pub is_written_as-returns-in-None-list_of_kind : goal.is_written_as-returns-in-None-list_of_kind
is_written_as-returns-in-None-list_of_kind t c = list_by_part _ (kind_of c.args.kind.now) c.args.value.now _ _ c.in-List.items None c.in-List.is c.in-None-list_of_kind.ensures refl

pub is_written_as-returns-in_default : goal.is_written_as-returns-in_default
is_written_as-returns-in_default t c =
    let v = c.args.value.now in
    c.are_same_tags.ensures ∙ ap₂ are_same_tags c.tag_of_kind.ensures c.tag.ensures
    ∙ sym (written_scalar (schema_of c.args.schema.now).structs (kind_of c.args.kind.now) (tree_of v) (scalar_else v c.in_default.not-Struct c.in_default.not-Map c.in_default.not-Set c.in_default.not-List))
