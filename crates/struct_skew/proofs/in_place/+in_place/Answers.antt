use Rattle.std.proofs.Common.{◌≡◌, ◌≤◌, Some, None, ◌+◌, get_or, refl, sym, ap, subst, ◌∙◌, map, drop, arith, rules}
use Rattle.std.specs.Int.{w8, w16, w32, w64}
use Rattle.std.proofs.lemmas.Int.{to_z-of_z}
use Rattle.std.proofs.lemmas.Result.{err_from_is_err_and}
use Rattle.std.proofs.Math.Nat.{le_trans, le-max_left, le-max_right}
use Rattle.std.specs.Prelude.{max}
use Rattle.std.specs.List.{slice_get}
use Rattle.std.specs.Option.{option_map}
use Rattle.thrift_value.specs.declared.value.Value as value
use Rattle.thrift_value.specs.Tree.{of_bool, of_i8, of_i16, of_i32, of_i64, of_double, of_uuid, of_bytes}
use Rattle.thrift_value.specs.Measures.{depth_of, items_depth, pairs_depth}
use Rattle.thrift_value.specs.TreeOf.{tree_of, field_tree, field_trees, fields_tree, item_trees, items_tree, pair_tree, pair_trees, pairs_tree}
use Rattle.thrift_value.proofs.Trees.{tree_of-Bool, tree_of-I8, tree_of-I16, tree_of-I32, tree_of-I64, tree_of-Double, tree_of-Uuid, tree_of-Bytes, tree_of-is_Struct, tree_of-is_Map, tree_of-is_Set, tree_of-is_List}
use Rattle.schema.specs.PlainKind.{kind_of}
use Rattle.schema.specs.SchemaOf.{schema_of, plain_field, plain_struct}
use Rattle.struct_skew.specs.Answering.{ProjectsOrNoMemory, SkewsOrNoMemory}
use Rattle.struct_skew.specs.declared.plan.Choice.{Choice}
use Rattle.struct_skew.specs.Needs.{PlainNeeds}
use Rattle.struct_skew.specs.Orders.{pair_meaning}
use Rattle.struct_skew.specs.Plan.{IsPlanFor, planned_fields}
use Rattle.struct_skew.specs.Projection.{meaning_of, item_meanings, pair_meanings}
use Rattle.struct_skew.specs.TakenOut.{field_if_sent, value_if_sent}
use Rattle.struct_skew.proofs.FieldValues.{struct_by_plan}
use Rattle.struct_skew.proofs.InPlace.{front_of, one_within, settled_none, settled_all, settled_more, settled_fault}
use Rattle.struct_skew.proofs.MeaningsOfKinds.{struct_meant, map_meant_by, set_meant_by, list_meant_by, meaning_of_struct, meaning_of_map, meaning_of_set, meaning_of_list, struct_kept, map_kept, set_kept, list_kept, scalar_kept}
use Rattle.struct_skew.proofs.PlanSteps.{raw_offers}
use Rattle.struct_skew.proofs.Steps.{all_gathered, get_or_same}
use Rattle.struct_skew.proofs.StructsAt.{slice_get-map}
use Rattle.struct_skew.proofs.TakingOut.{left_deep, named_deep, planned_fault, planned_more, rest_apart}
use Rattle.struct_skew.proofs.in_place.+in_place.Goals as goal

-- what a list of choices has past its end
abbrev no_choice : Choice
no_choice = record { place = 0; sent = None }

pub settle_items-settle_value-found-requires : goal.settle_items-settle_value-found-requires
settle_items-settle_value-found-requires t c =
    let i = c.loop-place.place in
    let old = c.args.items.items in (
      omega arith,
      (
        c.requires.sound,
        (
          c.requires.needed,
          one_within (λ v. depth_of (tree_of v)) (λ xs. items_depth (item_trees (map tree_of xs))) (λ x xs. refl) old i c.take_item-raw.result (drop (i + 1) old) c.args.levels
              (front_of old c.loop-place.items.items i c.take_item-raw.result (omega (arith, c.loop-place.invariant.size)) c.take_item-raw.ensures.taken c.loop-place.invariant.left) c.requires.deep,
        ),
      ),
    )

pub settle_items-loop-place-preserved : goal.settle_items-loop-place-preserved
settle_items-loop-place-preserved t c =
    let structs = (schema_of c.args.schema.now).structs in
    let kind = kind_of c.args.kind.now in
    settled_more tree_of (λ xs. item_meanings structs (item_trees (map tree_of xs)) kind) (λ x. meaning_of structs (tree_of x) kind) (λ x xs. refl)
    c.args.items.items c.loop-place.items.items c.take_item-raw.new.items.items c.put_item.new.items.items c.loop-place.place c.take_item-raw.result _
    (omega (arith, c.loop-place.invariant.size)) c.take_item-raw.ensures.taken c.take_item-raw.ensures.left
    c.settle_value-found.result c.put_item.result c.in_ok-put_item.field-0 c.settle_value-found.ensures c.put_item.ensures c.in_ok-put_item.was c.loop-place.invariant

pub settle_items-returns-in_err-put_item : goal.settle_items-returns-in_err-put_item
settle_items-returns-in_err-put_item t c =
    let structs = (schema_of c.args.schema.now).structs in
    let kind = kind_of c.args.kind.now in
    let whole = item_meanings structs (item_trees (map tree_of c.args.items.items)) kind in
    let p = err_from_is_err_and c.from_residual.result c.from_residual.ensures.1 in
    subst (λ r. ProjectsOrNoMemory (λ v. map tree_of v.items) r whole) (sym p.1)
    (subst (λ e. SkewsOrNoMemory e whole) (sym p.2)
    (settled_fault tree_of (λ xs. item_meanings structs (item_trees (map tree_of xs)) kind) (λ x. meaning_of structs (tree_of x) kind) (λ x xs. refl)
    c.args.items.items c.loop-place.items.items c.take_item-raw.new.items.items c.put_item.new.items.items c.loop-place.place c.take_item-raw.result _
    (omega (arith, c.loop-place.invariant.size)) c.take_item-raw.ensures.taken c.take_item-raw.ensures.left
    c.settle_value-found.result c.put_item.result c.in_err-put_item.field-0.0 c.settle_value-found.ensures c.put_item.ensures c.in_err-put_item.was c.loop-place.invariant))

pub settle_pair-returns : goal.settle_pair-returns
settle_pair-returns t c =
    let structs = (schema_of c.args.schema.now).structs in
    c.both_of.ensures (meaning_of structs (tree_of c.args.pair.0) (kind_of c.args.key_kind.now)) (meaning_of structs (tree_of c.args.pair.1) (kind_of c.args.value_kind.now)) c.settle_value-key.ensures c.settle_value-value.ensures

pub settle_pairs-settle_pair-found-requires : goal.settle_pairs-settle_pair-found-requires
settle_pairs-settle_pair-found-requires t c =
    let i = c.loop-place.place in
    let old = c.args.pairs.items in
    let key = depth_of (tree_of c.take_item-pair.result.0) in
    let value = depth_of (tree_of c.take_item-pair.result.1) in
    let both : max key value ≤ c.args.levels =
    one_within (λ p. max (depth_of (tree_of p.0)) (depth_of (tree_of p.1))) (λ ps. pairs_depth (pair_trees (map pair_tree ps))) (λ x xs. refl) old i c.take_item-pair.result (drop (i + 1) old) c.args.levels
    (front_of old c.loop-place.pairs.items i c.take_item-pair.result (omega (arith, c.loop-place.invariant.size)) c.take_item-pair.ensures.taken c.loop-place.invariant.left) c.requires.deep in
    (omega arith, (c.requires.sound, (c.requires.needed, (le_trans (le-max_left key value) both, le_trans (le-max_right key value) both))))

pub settle_pairs-loop-place-preserved : goal.settle_pairs-loop-place-preserved
settle_pairs-loop-place-preserved t c =
    let structs = (schema_of c.args.schema.now).structs in
    let key_kind = kind_of c.args.key_kind.now in
    let value_kind = kind_of c.args.value_kind.now in
    settled_more pair_tree (λ ps. pair_meanings structs (pair_trees (map pair_tree ps)) key_kind value_kind) (pair_meaning structs key_kind value_kind) (λ x xs. refl)
    c.args.pairs.items c.loop-place.pairs.items c.take_item-pair.new.items.items c.put_item.new.items.items c.loop-place.place c.take_item-pair.result _
    (omega (arith, c.loop-place.invariant.size)) c.take_item-pair.ensures.taken c.take_item-pair.ensures.left
    c.settle_pair-found.result c.put_item.result c.in_ok-put_item.field-0 c.settle_pair-found.ensures c.put_item.ensures c.in_ok-put_item.was c.loop-place.invariant

pub settle_pairs-returns-in_err-put_item : goal.settle_pairs-returns-in_err-put_item
settle_pairs-returns-in_err-put_item t c =
    let structs = (schema_of c.args.schema.now).structs in
    let key_kind = kind_of c.args.key_kind.now in
    let value_kind = kind_of c.args.value_kind.now in
    let whole = pair_meanings structs (pair_trees (map pair_tree c.args.pairs.items)) key_kind value_kind in
    let p = err_from_is_err_and c.from_residual.result c.from_residual.ensures.1 in
    subst (λ r. ProjectsOrNoMemory (λ v. map pair_tree v.items) r whole) (sym p.1)
    (subst (λ e. SkewsOrNoMemory e whole) (sym p.2)
    (settled_fault pair_tree (λ ps. pair_meanings structs (pair_trees (map pair_tree ps)) key_kind value_kind) (pair_meaning structs key_kind value_kind) (λ x xs. refl)
    c.args.pairs.items c.loop-place.pairs.items c.take_item-pair.new.items.items c.put_item.new.items.items c.loop-place.place c.take_item-pair.result _
    (omega (arith, c.loop-place.invariant.size)) c.take_item-pair.ensures.taken c.take_item-pair.ensures.left
    c.settle_pair-found.result c.put_item.result c.in_err-put_item.field-0.0 c.settle_pair-found.ensures c.put_item.ensures c.in_err-put_item.was c.loop-place.invariant))

pub settle_choice-returns : goal.settle_choice-returns
settle_choice-returns t c =
    let structs = (schema_of c.args.schema.now).structs in
    let here : slice_get (map plain_field c.args.desc.now.fields) c.args.place ≡ Some (plain_field c.in-Some.field.now) =
    slice_get-map plain_field c.args.desc.now.fields c.args.place
    ∙ ap (option_map plain_field) (ap (λ fs. slice_get fs c.args.place) (sym c.as_slice.ensures) ∙ sym c.in-Some.ensures) in
    subst (ProjectsOrNoMemory (option_map field_tree) c.as_field.result)
    (ap (λ f. field_if_sent structs c.args.which c.args.desc.now.kind f (option_map tree_of c.args.sent)) (sym here))
    (c.as_field.ensures _ c.settle_sent-value.ensures)

pub settle_planned-settle_choice-field-requires : goal.settle_planned-settle_choice-field-requires
settle_planned-settle_choice-field-requires t c =
    let choice = get_or c.args.plan.now c.loop-choice.choice-index no_choice in (
      omega arith,
      (
        c.requires.sound,
        (
          c.requires.needed,
          named_deep c.loop-choice.sent.items choice.sent c.take_named-raw.result c.args.levels c.take_named-raw.ensures.taken c.loop-choice.invariant.deep,
        ),
      ),
    )

pub settle_planned-loop-choice-preserved : goal.settle_planned-loop-choice-preserved
settle_planned-loop-choice-preserved t c =
    let structs = (schema_of c.args.schema.now).structs in
    let kind = c.args.desc.now.kind in
    let fields = (plain_struct c.args.desc.now).fields in
    let sent = c.loop-choice.sent.items in
    let left = c.take_named-raw.new.sent.items in
    let plan = c.args.plan.now in
    let i = c.loop-choice.choice-index in
    let choice = get_or plan i no_choice in
    let here : choice ≡ get_or plan i choice = get_or_same plan i no_choice choice c.loop-choice-test.true in record {
      kept =
          planned_more structs c.args.which kind fields c.args.sent.items sent left plan i choice c.take_named-raw.result c.settle_choice-field.result
          c.loop-choice-test.true here c.take_named-raw.ensures.taken c.settle_choice-field.ensures
          c.loop-choice.found.items c.put_any.new.into.items c.put_any.result c.in_ok-put_any.field-0 c.take_named-raw.ensures.left c.put_any.ensures c.in_ok-put_any.was c.loop-choice.invariant.apart c.loop-choice.invariant.kept;
      apart = (rest_apart plan i choice c.loop-choice-test.true here c.loop-choice.invariant.apart).1;
      deep = left_deep sent left choice.sent c.args.levels c.take_named-raw.ensures.left c.loop-choice.invariant.deep;
    }

pub settle_planned-returns-in_err-put_any : goal.settle_planned-returns-in_err-put_any
settle_planned-returns-in_err-put_any t c =
    let structs = (schema_of c.args.schema.now).structs in
    let kind = c.args.desc.now.kind in
    let fields = (plain_struct c.args.desc.now).fields in
    let plan = c.args.plan.now in
    let i = c.loop-choice.choice-index in
    let choice = get_or plan i no_choice in
    let whole = planned_fields c.args.which kind fields (raw_offers structs c.args.sent.items) plan in
    let p = err_from_is_err_and c.from_residual-in_err-put_any.result c.from_residual-in_err-put_any.ensures.1 in
    subst (λ r. ProjectsOrNoMemory (λ v. map field_tree v.items) r whole) (sym p.1)
    (subst (λ e. SkewsOrNoMemory e whole) (sym p.2)
    (planned_fault structs c.args.which kind fields c.args.sent.items c.loop-choice.sent.items c.take_named-raw.new.sent.items plan i choice c.take_named-raw.result c.settle_choice-field.result
    c.loop-choice-test.true (get_or_same plan i no_choice choice c.loop-choice-test.true) c.take_named-raw.ensures.taken c.settle_choice-field.ensures
    c.loop-choice.found.items c.put_any.new.into.items c.put_any.result c.in_err-put_any.field-0.0 c.put_any.ensures c.in_err-put_any.was c.loop-choice.invariant.kept))

pub settle_struct-returns : goal.settle_struct-returns
settle_struct-returns t c =
    let structs = (schema_of c.args.schema.now).structs in
    let s = plain_struct c.in-Some.desc.now in
    let offers = raw_offers structs c.args.sent.items in
    let declared : map plain_field c.in-Some.desc.now.fields ≡ map plain_field c.as_slice-3.result.now = ap (map plain_field) (sym c.as_slice-3.ensures) in
    let plan : IsPlanFor s.kind (map plain_field c.as_slice-3.result.now) (raw_offers structs c.as_slice-4.result.now) c.in_ok-plan.plan.items =
    c.in_ok-plan.ensures.counts structs s declared
    (c.as_slice.ensures.value ∙ ap (λ (n : PlainNeeds). n.required) c.in-Some.ensures.needed) (c.as_slice-2.ensures.value ∙ ap (λ (n : PlainNeeds). n.defaulted) c.in-Some.ensures.needed) in
    let here : IsPlanFor s.kind s.fields offers c.as_slice-5.result.now =
    subst (λ fs. IsPlanFor s.kind fs offers c.as_slice-5.result.now) (sym declared)
    (subst (λ r. IsPlanFor s.kind (map plain_field c.as_slice-3.result.now) (raw_offers structs r) c.as_slice-5.result.now) c.as_slice-4.ensures.value
    (subst (IsPlanFor s.kind (map plain_field c.as_slice-3.result.now) (raw_offers structs c.as_slice-4.result.now)) (sym c.as_slice-5.ensures.value) plan)) in
    subst (ProjectsOrNoMemory tree_of c.checked_struct.result)
    (sym (struct_by_plan structs c.args.which s offers c.as_slice-5.result.now c.in-Some.ensures.here here))
    (c.checked_struct.ensures _ c.settle_planned-found.ensures)

pub settle_value-returns-in-Struct : goal.settle_value-returns-in-Struct
settle_value-returns-in-Struct t c =
    let structs = (schema_of c.args.schema.now).structs in
    let kind = kind_of c.args.kind.now in
    subst (λ x. ProjectsOrNoMemory tree_of c.settle_fields.result (meaning_of structs x kind)) (sym (tree_of-is_Struct c.args.raw c.in-Struct.fields c.in-Struct.is)) c.settle_fields.ensures

pub settle_value-returns-in-Map : goal.settle_value-returns-in-Map
settle_value-returns-in-Map t c =
    let structs = (schema_of c.args.schema.now).structs in
    let kind = kind_of c.args.kind.now in
    subst (λ x. ProjectsOrNoMemory tree_of c.settle_map.result (meaning_of structs x kind)) (sym (tree_of-is_Map c.args.raw c.in-Map.k c.in-Map.v c.in-Map.pairs c.in-Map.is)) c.settle_map.ensures

pub settle_value-returns-in-Set : goal.settle_value-returns-in-Set
settle_value-returns-in-Set t c =
    let structs = (schema_of c.args.schema.now).structs in
    let kind = kind_of c.args.kind.now in
    subst (λ x. ProjectsOrNoMemory tree_of c.settle_set.result (meaning_of structs x kind)) (sym (tree_of-is_Set c.args.raw c.in-Set.tag c.in-Set.items c.in-Set.is)) c.settle_set.ensures

pub settle_value-returns-in-List : goal.settle_value-returns-in-List
settle_value-returns-in-List t c =
    let structs = (schema_of c.args.schema.now).structs in
    let kind = kind_of c.args.kind.now in
    subst (λ x. ProjectsOrNoMemory tree_of c.settle_list.result (meaning_of structs x kind)) (sym (tree_of-is_List c.args.raw c.in-List.tag c.in-List.items c.in-List.is)) c.settle_list.ensures

pub settle_value-returns-in-Bool : goal.settle_value-returns-in-Bool
settle_value-returns-in-Bool t c = scalar_kept (schema_of c.args.schema.now).structs (kind_of c.args.kind.now) c.args.raw _ (of_bool _) c.in-Bool.is (tree_of-Bool _) tt

pub settle_value-returns-in-I8 : goal.settle_value-returns-in-I8
settle_value-returns-in-I8 t c = scalar_kept (schema_of c.args.schema.now).structs (kind_of c.args.kind.now) c.args.raw _ (of_i8 _) (c.in-I8.is ∙ ap (λ n. value.I8 n) (sym (to_z-of_z w8 c.in-I8.number (search rules)))) (tree_of-I8 _) tt

pub settle_value-returns-in-I16 : goal.settle_value-returns-in-I16
settle_value-returns-in-I16 t c = scalar_kept (schema_of c.args.schema.now).structs (kind_of c.args.kind.now) c.args.raw _ (of_i16 _) (c.in-I16.is ∙ ap (λ n. value.I16 n) (sym (to_z-of_z w16 c.in-I16.number (search rules)))) (tree_of-I16 _) tt

pub settle_value-returns-in-I32 : goal.settle_value-returns-in-I32
settle_value-returns-in-I32 t c = scalar_kept (schema_of c.args.schema.now).structs (kind_of c.args.kind.now) c.args.raw _ (of_i32 _) (c.in-I32.is ∙ ap (λ n. value.I32 n) (sym (to_z-of_z w32 c.in-I32.number (search rules)))) (tree_of-I32 _) tt

pub settle_value-returns-in-I64 : goal.settle_value-returns-in-I64
settle_value-returns-in-I64 t c = scalar_kept (schema_of c.args.schema.now).structs (kind_of c.args.kind.now) c.args.raw _ (of_i64 _) (c.in-I64.is ∙ ap (λ n. value.I64 n) (sym (to_z-of_z w64 c.in-I64.number (search rules)))) (tree_of-I64 _) tt

pub settle_value-returns-in-Double : goal.settle_value-returns-in-Double
settle_value-returns-in-Double t c = scalar_kept (schema_of c.args.schema.now).structs (kind_of c.args.kind.now) c.args.raw _ (of_double _) c.in-Double.is (tree_of-Double _) tt

pub settle_value-returns-in-Uuid : goal.settle_value-returns-in-Uuid
settle_value-returns-in-Uuid t c = scalar_kept (schema_of c.args.schema.now).structs (kind_of c.args.kind.now) c.args.raw _ (of_uuid _) c.in-Uuid.is (tree_of-Uuid _) tt

pub settle_value-returns-in-Bytes : goal.settle_value-returns-in-Bytes
settle_value-returns-in-Bytes t c = scalar_kept (schema_of c.args.schema.now).structs (kind_of c.args.kind.now) c.args.raw _ (of_bytes _) c.in-Bytes.is (tree_of-Bytes _) tt

pub settle_list-returns-in-Some : goal.settle_list-returns-in-Some
settle_list-returns-in-Some t c =
    let structs = (schema_of c.args.schema.now).structs in
    let kind = kind_of c.args.kind.now in
    subst (ProjectsOrNoMemory tree_of c.list_of.result)
    (ap (λ xs. list_meant_by structs c.args.tag (item_trees (map tree_of xs)) (Some (kind_of c.in-Some.element.now))) c.into_vec.ensures
    ∙ ap (list_meant_by structs c.args.tag (items_tree c.args.items)) c.in-Some.ensures ∙ sym (meaning_of_list structs kind c.args.tag (items_tree c.args.items)))
    (c.list_of.ensures _ c.settle_items-found.ensures)

pub settle_list-returns-in-None : goal.settle_list-returns-in-None
settle_list-returns-in-None t c = list_kept (schema_of c.args.schema.now).structs (kind_of c.args.kind.now) c.args.tag c.args.items c.in-None.ensures

pub settle_set-returns-in-Some : goal.settle_set-returns-in-Some
settle_set-returns-in-Some t c =
    let structs = (schema_of c.args.schema.now).structs in
    let kind = kind_of c.args.kind.now in
    subst (ProjectsOrNoMemory tree_of c.set_of.result)
    (ap (λ xs. set_meant_by structs c.args.tag (item_trees (map tree_of xs)) (Some (kind_of c.in-Some.member.now))) c.into_vec.ensures
    ∙ ap (set_meant_by structs c.args.tag (items_tree c.args.items)) c.in-Some.ensures ∙ sym (meaning_of_set structs kind c.args.tag (items_tree c.args.items)))
    (c.set_of.ensures _ c.settle_items-found.ensures)

pub settle_set-returns-in-None : goal.settle_set-returns-in-None
settle_set-returns-in-None t c = set_kept (schema_of c.args.schema.now).structs (kind_of c.args.kind.now) c.args.tag c.args.items c.in-None.ensures

pub settle_map-returns-in-Some : goal.settle_map-returns-in-Some
settle_map-returns-in-Some t c =
    let structs = (schema_of c.args.schema.now).structs in
    let kind = kind_of c.args.kind.now in
    subst (ProjectsOrNoMemory tree_of c.map_of.result)
    (ap (λ xs. map_meant_by structs c.args.key_tag c.args.value_tag (pair_trees (map pair_tree xs)) (Some (kind_of c.in-Some.key.now, kind_of c.in-Some.value.now))) c.into_vec.ensures
    ∙ ap (map_meant_by structs c.args.key_tag c.args.value_tag (pairs_tree c.args.pairs)) c.in-Some.ensures ∙ sym (meaning_of_map structs kind c.args.key_tag c.args.value_tag (pairs_tree c.args.pairs)))
    (c.map_of.ensures _ c.settle_pairs-found.ensures)

pub settle_map-returns-in-None : goal.settle_map-returns-in-None
settle_map-returns-in-None t c = map_kept (schema_of c.args.schema.now).structs (kind_of c.args.kind.now) c.args.key_tag c.args.value_tag c.args.pairs c.in-None.ensures

pub settle_fields-returns-in-Some : goal.settle_fields-returns-in-Some
settle_fields-returns-in-Some t c =
    let structs = (schema_of c.args.schema.now).structs in
    let kind = kind_of c.args.kind.now in
    subst (ProjectsOrNoMemory tree_of c.settle_struct.result)
    (ap (λ xs. struct_meant structs (field_trees (map field_tree xs)) (Some c.in-Some.which)) c.into_vec.ensures
    ∙ ap (struct_meant structs (fields_tree c.args.fields)) c.in-Some.ensures ∙ sym (meaning_of_struct structs kind (fields_tree c.args.fields)))
    c.settle_struct.ensures

pub settle_fields-returns-in-None : goal.settle_fields-returns-in-None
settle_fields-returns-in-None t c = struct_kept (schema_of c.args.schema.now).structs (kind_of c.args.kind.now) c.args.fields c.in-None.ensures

pub settle_sent-returns-in-Some : goal.settle_sent-returns-in-Some
settle_sent-returns-in-Some t c =
    let structs = (schema_of c.args.schema.now).structs in
    subst (λ s. ProjectsOrNoMemory (option_map tree_of) c.some_of.result (value_if_sent structs c.args.which c.args.kind (plain_field c.args.field.now) (option_map tree_of s)))
    (sym c.in-Some.is) (c.some_of.ensures _ c.settle_value.ensures)

pub settle_sent-returns-in-None : goal.settle_sent-returns-in-None
settle_sent-returns-in-None t c =
    let structs = (schema_of c.args.schema.now).structs in
    subst (λ s. ProjectsOrNoMemory (option_map tree_of) c.unsent_value.result (value_if_sent structs c.args.which c.args.kind (plain_field c.args.field.now) (option_map tree_of s)))
    (sym c.in-None.is) c.unsent_value.ensures

pub settle_items-loop-place-init : goal.settle_items-loop-place-init
settle_items-loop-place-init t c = settled_none _ _ _

pub settle_items-returns : goal.settle_items-returns
settle_items-returns t c =
    let structs = (schema_of c.args.schema.now).structs in
    settled_all tree_of (λ xs. item_meanings structs (item_trees (map tree_of xs)) (kind_of c.args.kind.now)) c.args.items.items c.loop-place.items.items c.loop-place.place
    refl (omega (arith, c.loop-place.invariant.size)) c.loop-place.invariant

pub settle_pairs-loop-place-init : goal.settle_pairs-loop-place-init
settle_pairs-loop-place-init t c = settled_none _ _ _

pub settle_pairs-returns : goal.settle_pairs-returns
settle_pairs-returns t c =
    let structs = (schema_of c.args.schema.now).structs in
    settled_all pair_tree (λ ps. pair_meanings structs (pair_trees (map pair_tree ps)) (kind_of c.args.key_kind.now) (kind_of c.args.value_kind.now)) c.args.pairs.items c.loop-place.pairs.items c.loop-place.place
    refl (omega (arith, c.loop-place.invariant.size)) c.loop-place.invariant

pub settle_planned-returns : goal.settle_planned-returns
settle_planned-returns t c =
    let structs = (schema_of c.args.schema.now).structs in
    let found = planned_fields c.args.which c.args.desc.now.kind (plain_struct c.args.desc.now).fields in
    all_gathered field_tree (found (raw_offers structs c.args.sent.items) c.args.plan.now) (found (raw_offers structs c.loop-choice.sent.items)) c.args.plan.now c.loop-choice.choice-index
    c.loop-choice.found.items refl c.loop-choice-test.false c.loop-choice.invariant.kept
