use Rattle.std.proofs.Common.{◌≡◌, Bool, ℤ, Some, None, List, map, refl, sym, ap, ◌∙◌}
use Rattle.std.specs.Prelude.{◌&&◌}
use Rattle.std.specs.List.{slice_get}
use Rattle.thrift_value.specs.declared.value.Value.{Value}
use Rattle.thrift_value.specs.TreeOf.{tree_of, field_tree, field_trees, item_trees, pair_tree, pair_trees}
use Rattle.schema.specs.LookUp.{fields_at}
use Rattle.schema.specs.PlainKind.{PlainKind, kind_of}
use Rattle.schema.specs.PlainSchema.{PlainField, PlainSchema}
use Rattle.schema.specs.SchemaOf.{schema_of}
use Rattle.schema.specs.WrittenAs.{field_with_id}
use Rattle.known_parts.specs.Parts.{are_same_tags}
use Rattle.struct_skew.specs.FilledTests.{are_fields_filled, are_items_filled, are_pairs_filled, is_filled, is_struct_filled}
use Rattle.struct_skew.specs.WrittenTests.{some_passes}
use Rattle.struct_skew.proofs.Scalars.{scalar_else}
use Rattle.struct_skew.proofs.FilledParts.{filled_scalar, struct_by_part, map_by_parts, set_by_part, list_by_part}
use Rattle.struct_skew.proofs.Tried.{one_fails, one_passes, all_pass}
use Rattle.struct_skew.proofs.settled.+filling.Goals as goal

-- what is tried of each field, element and pair
abbrev all_fields : PlainSchema → List PlainField → List (ℤ × Value) → Bool
all_fields s declared fields = are_fields_filled s.structs declared (field_trees (map field_tree fields))

abbrev declared_passes : PlainSchema → Value → PlainField → Bool
declared_passes s value f = is_filled s.structs f.kind (tree_of value)

abbrev one_field : PlainSchema → List PlainField → ℤ × Value → Bool
one_field s declared f = some_passes (field_with_id f.0 declared) (declared_passes s f.1)

abbrev all_items : PlainSchema → PlainKind → List Value → Bool
all_items s kind items = are_items_filled s.structs kind (item_trees (map tree_of items))

abbrev one_item : PlainSchema → PlainKind → Value → Bool
one_item s kind value = is_filled s.structs kind (tree_of value)

abbrev all_pairs : PlainSchema → PlainKind → PlainKind → List (Value × Value) → Bool
all_pairs s key value pairs = are_pairs_filled s.structs key value (pair_trees (map pair_tree pairs))

abbrev one_pair : PlainSchema → PlainKind → PlainKind → Value × Value → Bool
one_pair s key value p = one_item s key p.0 && one_item s value p.1

pub fields_are_filled-returns-in_default : goal.fields_are_filled-returns-in_default
fields_are_filled-returns-in_default t c =
    let s = schema_of c.args.schema.now in
    let declared = fields_at s c.args.which in
    one_fails (all_fields s declared) (one_field s declared) (λ f fs. refl) c.args.fields.now c.loop-id.id-index c.loop-id-item.result c.loop-id-test.true c.loop-id-item.is c.loop-id.invariant
    (ap (λ o. some_passes o (declared_passes s c.loop-id-item.result.1)) c.in_default.ensures)

pub fields_are_filled-returns-then-not-is_filled : goal.fields_are_filled-returns-then-not-is_filled
fields_are_filled-returns-then-not-is_filled t c =
    let s = schema_of c.args.schema.now in
    let declared = fields_at s c.args.which in
    one_fails (all_fields s declared) (one_field s declared) (λ f fs. refl) c.args.fields.now c.loop-id.id-index c.loop-id-item.result c.loop-id-test.true c.loop-id-item.is c.loop-id.invariant
    (c.if-not-is_filled.ensures ∙ ap (λ o. some_passes o (declared_passes s c.loop-id-item.result.1)) c.in-Some.ensures)

pub fields_are_filled-loop-id-preserved : goal.fields_are_filled-loop-id-preserved
fields_are_filled-loop-id-preserved t c =
    let s = schema_of c.args.schema.now in
    let declared = fields_at s c.args.which in
    one_passes (all_fields s declared) (one_field s declared) (λ f fs. refl) c.args.fields.now c.loop-id.id-index c.loop-id-item.result c.loop-id-test.true c.loop-id-item.is c.loop-id.invariant
    (c.if-not-is_filled.ensures ∙ ap (λ o. some_passes o (declared_passes s c.loop-id-item.result.1)) c.in-Some.ensures)

pub fields_are_filled-returns : goal.fields_are_filled-returns
fields_are_filled-returns t c =
    let s = schema_of c.args.schema.now in
    all_pass (all_fields s (fields_at s c.args.which)) c.args.fields.now c.loop-id.id-index refl c.loop-id-test.false c.loop-id.invariant

pub items_are_filled-returns-then-not-is_filled : goal.items_are_filled-returns-then-not-is_filled
items_are_filled-returns-then-not-is_filled t c =
    let s = schema_of c.args.schema.now in
    let kind = kind_of c.args.kind.now in
    one_fails (all_items s kind) (one_item s kind) (λ x xs. refl) c.args.items.now c.loop-value.value-index c.value-item.result c.loop-value-test.true c.value-item.is c.loop-value.invariant
    c.if-not-is_filled.ensures

pub items_are_filled-loop-value-preserved : goal.items_are_filled-loop-value-preserved
items_are_filled-loop-value-preserved t c =
    let s = schema_of c.args.schema.now in
    let kind = kind_of c.args.kind.now in
    one_passes (all_items s kind) (one_item s kind) (λ x xs. refl) c.args.items.now c.loop-value.value-index c.value-item.result c.loop-value-test.true c.value-item.is c.loop-value.invariant
    c.if-not-is_filled.ensures

pub items_are_filled-returns : goal.items_are_filled-returns
items_are_filled-returns t c =
    all_pass (all_items (schema_of c.args.schema.now) (kind_of c.args.kind.now)) c.args.items.now c.loop-value.value-index refl c.loop-value-test.false c.loop-value.invariant

pub pairs_are_filled-returns-then-not-is_filled : goal.pairs_are_filled-returns-then-not-is_filled
pairs_are_filled-returns-then-not-is_filled t c =
    let s = schema_of c.args.schema.now in
    let key = kind_of c.args.key_kind.now in
    let value = kind_of c.args.value_kind.now in
    one_fails (all_pairs s key value) (one_pair s key value) (λ p ps. refl) c.args.pairs.now c.loop-key.key-index c.loop-key-item.result c.loop-key-test.true c.loop-key-item.is c.loop-key.invariant
    (ap (λ b. b && one_item s value c.loop-key-item.result.1) c.if-not-is_filled.ensures)

pub pairs_are_filled-returns-then-not-is_filled-2 : goal.pairs_are_filled-returns-then-not-is_filled-2
pairs_are_filled-returns-then-not-is_filled-2 t c =
    let s = schema_of c.args.schema.now in
    let key = kind_of c.args.key_kind.now in
    let value = kind_of c.args.value_kind.now in
    one_fails (all_pairs s key value) (one_pair s key value) (λ p ps. refl) c.args.pairs.now c.loop-key.key-index c.loop-key-item.result c.loop-key-test.true c.loop-key-item.is c.loop-key.invariant
    (c.if-not-is_filled-2.ensures ∙ ap (λ b. b && one_item s value c.loop-key-item.result.1) c.if-not-is_filled.ensures)

pub pairs_are_filled-loop-key-preserved : goal.pairs_are_filled-loop-key-preserved
pairs_are_filled-loop-key-preserved t c =
    let s = schema_of c.args.schema.now in
    let key = kind_of c.args.key_kind.now in
    let value = kind_of c.args.value_kind.now in
    one_passes (all_pairs s key value) (one_pair s key value) (λ p ps. refl) c.args.pairs.now c.loop-key.key-index c.loop-key-item.result c.loop-key-test.true c.loop-key-item.is c.loop-key.invariant
    (c.if-not-is_filled-2.ensures ∙ ap (λ b. b && one_item s value c.loop-key-item.result.1) c.if-not-is_filled.ensures)

pub pairs_are_filled-returns : goal.pairs_are_filled-returns
pairs_are_filled-returns t c =
    all_pass (all_pairs (schema_of c.args.schema.now) (kind_of c.args.key_kind.now) (kind_of c.args.value_kind.now)) c.args.pairs.now c.loop-key.key-index refl c.loop-key-test.false c.loop-key.invariant

pub is_filled-returns-in-Some : goal.is_filled-returns-in-Some
is_filled-returns-in-Some t c =
    let structs = (schema_of c.args.schema.now).structs in
    struct_by_part structs (kind_of c.args.kind.now) c.args.value.now c.struct_is_filled.result c.in-Struct.fields (Some c.in-Some.which) c.in-Struct.is c.in-Some.ensures
    (c.struct_is_filled.ensures ∙ ap (λ fs. is_struct_filled structs (slice_get structs c.in-Some.which) (field_trees (map field_tree fs))) c.as_slice.ensures)

pub is_filled-returns-in-None : goal.is_filled-returns-in-None
is_filled-returns-in-None t c = struct_by_part _ (kind_of c.args.kind.now) c.args.value.now _ c.in-Struct.fields None c.in-Struct.is c.in-None.ensures refl

pub is_filled-returns-then-not-are_tags_of : goal.is_filled-returns-then-not-are_tags_of
is_filled-returns-then-not-are_tags_of t c =
    let s = schema_of c.args.schema.now in
    let key = kind_of c.in-Some-map_of_kind.key.now in
    let value = kind_of c.in-Some-map_of_kind.value.now in
    map_by_parts s.structs (kind_of c.args.kind.now) c.args.value.now _ c.in-Map.k c.in-Map.v c.in-Map.pairs (Some (key, value)) c.in-Map.is c.in-Some-map_of_kind.ensures
    (ap (λ b. b && all_pairs s key value c.in-Map.pairs.list.items) c.if-not-are_tags_of.ensures)

pub is_filled-returns-else-not-are_tags_of : goal.is_filled-returns-else-not-are_tags_of
is_filled-returns-else-not-are_tags_of t c =
    let s = schema_of c.args.schema.now in
    let key = kind_of c.in-Some-map_of_kind.key.now in
    let value = kind_of c.in-Some-map_of_kind.value.now in
    let held : c.pairs_are_filled.result ≡ all_pairs s key value c.in-Map.pairs.list.items = c.pairs_are_filled.ensures ∙ ap (all_pairs s key value) c.as_slice-in-Some-map_of_kind.ensures in
    map_by_parts s.structs (kind_of c.args.kind.now) c.args.value.now c.pairs_are_filled.result c.in-Map.k c.in-Map.v c.in-Map.pairs (Some (key, value)) c.in-Map.is c.in-Some-map_of_kind.ensures
    (held ∙ ap (λ b. b && all_pairs s key value c.in-Map.pairs.list.items) c.if-not-are_tags_of.ensures)

pub is_filled-returns-in-None-map_of_kind : goal.is_filled-returns-in-None-map_of_kind
is_filled-returns-in-None-map_of_kind t c = map_by_parts _ (kind_of c.args.kind.now) c.args.value.now _ c.in-Map.k c.in-Map.v c.in-Map.pairs None c.in-Map.is c.in-None-map_of_kind.ensures refl

pub is_filled-returns-then-not-are_same_tags : goal.is_filled-returns-then-not-are_same_tags
is_filled-returns-then-not-are_same_tags t c =
    let s = schema_of c.args.schema.now in
    let member = kind_of c.in-Some-set_of_kind.member.now in
    set_by_part s.structs (kind_of c.args.kind.now) c.args.value.now _ c.in-Set.t c.in-Set.items (Some member) c.in-Set.is c.in-Some-set_of_kind.ensures
    (ap (λ b. b && all_items s member c.in-Set.items.list.items) (c.if-not-are_same_tags.ensures ∙ ap (are_same_tags c.in-Set.t) c.tag_of_kind.ensures))

pub is_filled-returns-else-not-are_same_tags : goal.is_filled-returns-else-not-are_same_tags
is_filled-returns-else-not-are_same_tags t c =
    let s = schema_of c.args.schema.now in
    let member = kind_of c.in-Some-set_of_kind.member.now in
    let held : c.items_are_filled.result ≡ all_items s member c.in-Set.items.list.items = c.items_are_filled.ensures ∙ ap (all_items s member) c.as_slice-in-Some-set_of_kind.ensures in
    set_by_part s.structs (kind_of c.args.kind.now) c.args.value.now c.items_are_filled.result c.in-Set.t c.in-Set.items (Some member) c.in-Set.is c.in-Some-set_of_kind.ensures
    (held ∙ ap (λ b. b && all_items s member c.in-Set.items.list.items) (c.if-not-are_same_tags.ensures ∙ ap (are_same_tags c.in-Set.t) c.tag_of_kind.ensures))

pub is_filled-returns-in-None-set_of_kind : goal.is_filled-returns-in-None-set_of_kind
is_filled-returns-in-None-set_of_kind t c = set_by_part _ (kind_of c.args.kind.now) c.args.value.now _ c.in-Set.t c.in-Set.items None c.in-Set.is c.in-None-set_of_kind.ensures refl

pub is_filled-returns-then-not-are_same_tags-2 : goal.is_filled-returns-then-not-are_same_tags-2
is_filled-returns-then-not-are_same_tags-2 t c =
    let s = schema_of c.args.schema.now in
    let element = kind_of c.in-Some-list_of_kind.element.now in
    list_by_part s.structs (kind_of c.args.kind.now) c.args.value.now _ c.in-List.t c.in-List.items (Some element) c.in-List.is c.in-Some-list_of_kind.ensures
    (ap (λ b. b && all_items s element c.in-List.items.list.items) (c.if-not-are_same_tags-2.ensures ∙ ap (are_same_tags c.in-List.t) c.tag_of_kind-in-Some-list_of_kind.ensures))

pub is_filled-returns-else-not-are_same_tags-2 : goal.is_filled-returns-else-not-are_same_tags-2
is_filled-returns-else-not-are_same_tags-2 t c =
    let s = schema_of c.args.schema.now in
    let element = kind_of c.in-Some-list_of_kind.element.now in
    let held : c.items_are_filled-in-Some-list_of_kind.result ≡ all_items s element c.in-List.items.list.items = c.items_are_filled-in-Some-list_of_kind.ensures ∙ ap (all_items s element) c.as_slice-in-Some-list_of_kind.ensures in
    list_by_part s.structs (kind_of c.args.kind.now) c.args.value.now c.items_are_filled-in-Some-list_of_kind.result c.in-List.t c.in-List.items (Some element) c.in-List.is c.in-Some-list_of_kind.ensures
    (held ∙ ap (λ b. b && all_items s element c.in-List.items.list.items) (c.if-not-are_same_tags-2.ensures ∙ ap (are_same_tags c.in-List.t) c.tag_of_kind-in-Some-list_of_kind.ensures))

pub is_filled-returns-in-None-list_of_kind : goal.is_filled-returns-in-None-list_of_kind
is_filled-returns-in-None-list_of_kind t c = list_by_part _ (kind_of c.args.kind.now) c.args.value.now _ c.in-List.t c.in-List.items None c.in-List.is c.in-None-list_of_kind.ensures refl

pub is_filled-returns-in_default : goal.is_filled-returns-in_default
is_filled-returns-in_default t c =
    let v = c.args.value.now in
    sym (filled_scalar (schema_of c.args.schema.now).structs (kind_of c.args.kind.now) (tree_of v) (scalar_else v c.in_default.not-Struct c.in_default.not-Map c.in_default.not-Set c.in_default.not-List))
