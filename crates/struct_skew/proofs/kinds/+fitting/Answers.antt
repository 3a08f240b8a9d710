use Rattle.std.proofs.Common.{Bool, Some, None, List, map, refl, sym, ap, ap₂, ◌∙◌}
use Rattle.std.specs.Prelude.{◌&&◌}
use Rattle.thrift_value.specs.declared.value.Value.{Value}
use Rattle.thrift_value.specs.TreeOf.{tree_of, item_trees, pair_tree, pair_trees}
use Rattle.schema.specs.PlainKind.{PlainKind, kind_of}
use Rattle.struct_skew.specs.Fits.{each_item, each_pair, fits_kind}
use Rattle.known_parts.specs.Parts.{are_same_tags}
use Rattle.struct_skew.proofs.Scalars.{no_container_else}
use Rattle.struct_skew.proofs.Fitting.{fits_by_tag, map_by_parts, set_by_part, list_by_part}
use Rattle.struct_skew.proofs.Tried.{one_fails, one_passes, all_pass}
use Rattle.struct_skew.proofs.kinds.+fitting.Goals as goal

-- what is tried of each element and pair
abbrev all_items : PlainKind → List Value → Bool
all_items kind items = each_item (fits_kind kind) (item_trees (map tree_of items))

abbrev one_item : PlainKind → Value → Bool
one_item kind value = fits_kind kind (tree_of value)

abbrev all_pairs : PlainKind → PlainKind → List (Value × Value) → Bool
all_pairs key value pairs = each_pair (fits_kind key) (fits_kind value) (pair_trees (map pair_tree pairs))

abbrev one_pair : PlainKind → PlainKind → Value × Value → Bool
one_pair key value p = one_item key p.0 && one_item value p.1

pub fits_kind-returns-in-Some : goal.fits_kind-returns-in-Some
fits_kind-returns-in-Some t c =
    let key = kind_of c.in-Some.key.now in
    let value = kind_of c.in-Some.value.now in
    map_by_parts (kind_of c.args.kind.now) c.args.raw.now c.pairs_fit.result _ _ c.in-Map.pairs (Some (key, value)) c.in-Map.is c.in-Some.ensures
    (c.pairs_fit.ensures ∙ ap (all_pairs key value) c.as_slice.ensures)

pub fits_kind-returns-in-None : goal.fits_kind-returns-in-None
fits_kind-returns-in-None t c = map_by_parts (kind_of c.args.kind.now) c.args.raw.now _ _ _ c.in-Map.pairs None c.in-Map.is c.in-None.ensures refl

pub fits_kind-returns-in-Some-set_of_kind : goal.fits_kind-returns-in-Some-set_of_kind
fits_kind-returns-in-Some-set_of_kind t c =
    let member = kind_of c.in-Some-set_of_kind.member.now in
    set_by_part (kind_of c.args.kind.now) c.args.raw.now c.items_fit.result _ c.in-Set.items (Some member) c.in-Set.is c.in-Some-set_of_kind.ensures
    (c.items_fit.ensures ∙ ap (all_items member) c.as_slice-in-Some-set_of_kind.ensures)

pub fits_kind-returns-in-None-set_of_kind : goal.fits_kind-returns-in-None-set_of_kind
fits_kind-returns-in-None-set_of_kind t c = set_by_part (kind_of c.args.kind.now) c.args.raw.now _ _ c.in-Set.items None c.in-Set.is c.in-None-set_of_kind.ensures refl

pub fits_kind-returns-in-Some-list_of_kind : goal.fits_kind-returns-in-Some-list_of_kind
fits_kind-returns-in-Some-list_of_kind t c =
    let element = kind_of c.in-Some-list_of_kind.element.now in
    list_by_part (kind_of c.args.kind.now) c.args.raw.now c.items_fit-in-Some-list_of_kind.result _ c.in-List.items (Some element) c.in-List.is c.in-Some-list_of_kind.ensures
    (c.items_fit-in-Some-list_of_kind.ensures ∙ ap (all_items element) c.as_slice-in-Some-list_of_kind.ensures)

pub fits_kind-returns-in-None-list_of_kind : goal.fits_kind-returns-in-None-list_of_kind
fits_kind-returns-in-None-list_of_kind t c = list_by_part (kind_of c.args.kind.now) c.args.raw.now _ _ c.in-List.items None c.in-List.is c.in-None-list_of_kind.ensures refl

pub items_fit-returns-then-not-fits_kind : goal.items_fit-returns-then-not-fits_kind
items_fit-returns-then-not-fits_kind t c =
    let kind = kind_of c.args.kind.now in
    one_fails (all_items kind) (one_item kind) (λ x xs. refl) c.args.items.now c.loop-value.value-index c.value-item.result c.loop-value-test.true c.value-item.is c.loop-value.invariant
    c.if-not-fits_kind.ensures

pub items_fit-loop-value-preserved : goal.items_fit-loop-value-preserved
items_fit-loop-value-preserved t c =
    let kind = kind_of c.args.kind.now in
    one_passes (all_items kind) (one_item kind) (λ x xs. refl) c.args.items.now c.loop-value.value-index c.value-item.result c.loop-value-test.true c.value-item.is c.loop-value.invariant
    c.if-not-fits_kind.ensures

pub items_fit-returns : goal.items_fit-returns
items_fit-returns t c = all_pass (all_items (kind_of c.args.kind.now)) c.args.items.now c.loop-value.value-index refl c.loop-value-test.false c.loop-value.invariant

pub pairs_fit-returns-then-not-fits_kind : goal.pairs_fit-returns-then-not-fits_kind
pairs_fit-returns-then-not-fits_kind t c =
    let key = kind_of c.args.key_kind.now in
    let value = kind_of c.args.value_kind.now in
    one_fails (all_pairs key value) (one_pair key value) (λ p ps. refl) c.args.pairs.now c.loop-key.key-index c.loop-key-item.result c.loop-key-test.true c.loop-key-item.is c.loop-key.invariant
    (ap (λ b. b && one_item value c.loop-key-item.result.1) c.if-not-fits_kind.ensures)

pub pairs_fit-returns-then-not-fits_kind-2 : goal.pairs_fit-returns-then-not-fits_kind-2
pairs_fit-returns-then-not-fits_kind-2 t c =
    let key = kind_of c.args.key_kind.now in
    let value = kind_of c.args.value_kind.now in
    one_fails (all_pairs key value) (one_pair key value) (λ p ps. refl) c.args.pairs.now c.loop-key.key-index c.loop-key-item.result c.loop-key-test.true c.loop-key-item.is c.loop-key.invariant
    (c.if-not-fits_kind-2.ensures ∙ ap (λ b. b && one_item value c.loop-key-item.result.1) c.if-not-fits_kind.ensures)

pub pairs_fit-loop-key-preserved : goal.pairs_fit-loop-key-preserved
pairs_fit-loop-key-preserved t c =
    let key = kind_of c.args.key_kind.now in
    let value = kind_of c.args.value_kind.now in
    one_passes (all_pairs key value) (one_pair key value) (λ p ps. refl) c.args.pairs.now c.loop-key.key-index c.loop-key-item.result c.loop-key-test.true c.loop-key-item.is c.loop-key.invariant
    (c.if-not-fits_kind-2.ensures ∙ ap (λ b. b && one_item value c.loop-key-item.result.1) c.if-not-fits_kind.ensures)

pub pairs_fit-returns : goal.pairs_fit-returns
pairs_fit-returns t c =
    all_pass (all_pairs (kind_of c.args.key_kind.now) (kind_of c.args.value_kind.now)) c.args.pairs.now c.loop-key.key-index refl c.loop-key-test.false c.loop-key.invariant

pub fits_kind-returns-in_default : goal.fits_kind-returns-in_default
fits_kind-returns-in_default t c =
    let v = c.args.raw.now in
    c.are_same_tags.ensures ∙ ap₂ are_same_tags c.tag_of_kind.ensures c.tag.ensures
    ∙ sym (fits_by_tag (kind_of c.args.kind.now) (tree_of v) (no_container_else v c.in_default.not-Map c.in_default.not-Set c.in_default.not-List))
