use Rattle.std.proofs.Common.{to_z, of_z, FitsSigned, ◌∷◌, ◌++◌, ◌∙◌, [], codes, map, ap, sym, subst, arith, rules}
use Rattle.std.proofs.lemmas.List.{at_drop_all}
use Rattle.std.specs.Int.{w8, w16, w32, w64}
use Rattle.std.proofs.lemmas.Int.{to_z-of_z}
use Rattle.std.specs.List.{flat_map}
use Rattle.thrift_value.specs.TreeOf.{tree_of, pair_tree, item_trees, pair_trees}
use Rattle.value_text.specs.Handing.{HandsOver}
use Rattle.value_text.specs.ValueText.{tag_word, number_and_letter, tree_text, listed_items, listed_pairs}
use Rattle.value_text.proofs.Handed.{goes_on, hands_more, breaks, breaks_last, both_handed, hands_same, next_handed, next_fails, first_handed, next_field, next_item, next_pair, opened_fields, first_field, fields_begin, items_begin, pairs_begin, nothing_handed, no_fields_told, no_items_told, no_pairs_told}
use Rattle.value_text.proofs.ValueTexts.{bool_text, i8_text, i16_text, i32_text, i64_text, bits_text, wide_text, bytes_text, struct_text, map_text, set_text, list_text, map_opened, list_opened}
use Rattle.value_text.proofs.spelling.+value_speller.Goals as goal

pub spell_struct-returns-in_err-spell_fields : goal.spell_struct-returns-in_err-spell_fields
spell_struct-returns-in_err-spell_fields g t c =
    breaks (g.K.Sink.taken c.args.out.now) (g.K.Sink.taken c.spell_fields.new.out) (g.K.Sink.faults c.args.out.now) (g.K.Sink.faults c.spell_fields.new.out) (opened_fields c.args.fields.now) (codes "}") c.from_residual.result c.from_residual.ensures.0 (c.in_err-spell_fields.ensures {u = tt})

pub spell_struct-returns : goal.spell_struct-returns
spell_struct-returns g t c =
    goes_on (g.K.Sink.taken c.args.out.now) (g.K.Sink.taken c.spell_fields.new.out) (g.K.Sink.taken c.hand_over.new.out) (g.K.Sink.faults c.args.out.now) (g.K.Sink.faults c.spell_fields.new.out) (g.K.Sink.faults c.hand_over.new.out) (opened_fields c.args.fields.now) (codes "}") c.hand_over.result
    (c.in_ok-spell_fields.ensures {u = tt})
    (c.hand_over.ensures)

pub spell_map-returns-in_err-spell_map_head : goal.spell_map-returns-in_err-spell_map_head
spell_map-returns-in_err-spell_map_head g t c =
    breaks (g.K.Sink.taken c.args.out.now) (g.K.Sink.taken c.spell_map_head.new.out) (g.K.Sink.faults c.args.out.now) (g.K.Sink.faults c.spell_map_head.new.out) (codes "map<" ++ (tag_word c.args.key ++ (codes "," ++ (tag_word c.args.value ++ codes ">{")))) ((listed_pairs (pair_trees (map pair_tree c.args.pairs.now))) ++ (codes "}")) c.from_residual.result c.from_residual.ensures.0 (c.in_err-spell_map_head.ensures {u = tt})

pub spell_map-returns-in_err-spell_pairs : goal.spell_map-returns-in_err-spell_pairs
spell_map-returns-in_err-spell_pairs g t c =
    goes_on (g.K.Sink.taken c.args.out.now) (g.K.Sink.taken c.spell_map_head.new.out) (g.K.Sink.taken c.spell_pairs.new.out) (g.K.Sink.faults c.args.out.now) (g.K.Sink.faults c.spell_map_head.new.out) (g.K.Sink.faults c.spell_pairs.new.out) (codes "map<" ++ (tag_word c.args.key ++ (codes "," ++ (tag_word c.args.value ++ codes ">{")))) ((listed_pairs (pair_trees (map pair_tree c.args.pairs.now))) ++ (codes "}")) c.from_residual-in_err-spell_pairs.result
    (c.in_ok-spell_map_head.ensures {u = tt})
    (breaks (g.K.Sink.taken c.spell_map_head.new.out) (g.K.Sink.taken c.spell_pairs.new.out) (g.K.Sink.faults c.spell_map_head.new.out) (g.K.Sink.faults c.spell_pairs.new.out) (listed_pairs (pair_trees (map pair_tree c.args.pairs.now))) (codes "}") c.from_residual-in_err-spell_pairs.result c.from_residual-in_err-spell_pairs.ensures.0 (c.in_err-spell_pairs.ensures {u = tt}))

pub spell_map-returns : goal.spell_map-returns
spell_map-returns g t c =
    goes_on (g.K.Sink.taken c.args.out.now) (g.K.Sink.taken c.spell_map_head.new.out) (g.K.Sink.taken c.hand_over.new.out) (g.K.Sink.faults c.args.out.now) (g.K.Sink.faults c.spell_map_head.new.out) (g.K.Sink.faults c.hand_over.new.out) (codes "map<" ++ (tag_word c.args.key ++ (codes "," ++ (tag_word c.args.value ++ codes ">{")))) ((listed_pairs (pair_trees (map pair_tree c.args.pairs.now))) ++ (codes "}")) c.hand_over.result
    (c.in_ok-spell_map_head.ensures {u = tt})
    (goes_on (g.K.Sink.taken c.spell_map_head.new.out) (g.K.Sink.taken c.spell_pairs.new.out) (g.K.Sink.taken c.hand_over.new.out) (g.K.Sink.faults c.spell_map_head.new.out) (g.K.Sink.faults c.spell_pairs.new.out) (g.K.Sink.faults c.hand_over.new.out) (listed_pairs (pair_trees (map pair_tree c.args.pairs.now))) (codes "}") c.hand_over.result
    (c.in_ok-spell_pairs.ensures {u = tt})
    (c.hand_over.ensures))

pub spell_collection-returns-in_err-spell_head : goal.spell_collection-returns-in_err-spell_head
spell_collection-returns-in_err-spell_head g t c =
    breaks (g.K.Sink.taken c.args.out.now) (g.K.Sink.taken c.spell_head.new.out) (g.K.Sink.faults c.args.out.now) (g.K.Sink.faults c.spell_head.new.out) (c.args.word.now ++ (tag_word c.args.element ++ codes ">[")) ((listed_items (item_trees (map tree_of c.args.items.now))) ++ (codes "]")) c.from_residual.result c.from_residual.ensures.0 (c.in_err-spell_head.ensures {u = tt})

pub spell_collection-returns-in_err-spell_items : goal.spell_collection-returns-in_err-spell_items
spell_collection-returns-in_err-spell_items g t c =
    goes_on (g.K.Sink.taken c.args.out.now) (g.K.Sink.taken c.spell_head.new.out) (g.K.Sink.taken c.spell_items.new.out) (g.K.Sink.faults c.args.out.now) (g.K.Sink.faults c.spell_head.new.out) (g.K.Sink.faults c.spell_items.new.out) (c.args.word.now ++ (tag_word c.args.element ++ codes ">[")) ((listed_items (item_trees (map tree_of c.args.items.now))) ++ (codes "]")) c.from_residual-in_err-spell_items.result
    (c.in_ok-spell_head.ensures {u = tt})
    (breaks (g.K.Sink.taken c.spell_head.new.out) (g.K.Sink.taken c.spell_items.new.out) (g.K.Sink.faults c.spell_head.new.out) (g.K.Sink.faults c.spell_items.new.out) (listed_items (item_trees (map tree_of c.args.items.now))) (codes "]") c.from_residual-in_err-spell_items.result c.from_residual-in_err-spell_items.ensures.0 (c.in_err-spell_items.ensures {u = tt}))

pub spell_collection-returns : goal.spell_collection-returns
spell_collection-returns g t c =
    goes_on (g.K.Sink.taken c.args.out.now) (g.K.Sink.taken c.spell_head.new.out) (g.K.Sink.taken c.hand_over.new.out) (g.K.Sink.faults c.args.out.now) (g.K.Sink.faults c.spell_head.new.out) (g.K.Sink.faults c.hand_over.new.out) (c.args.word.now ++ (tag_word c.args.element ++ codes ">[")) ((listed_items (item_trees (map tree_of c.args.items.now))) ++ (codes "]")) c.hand_over.result
    (c.in_ok-spell_head.ensures {u = tt})
    (goes_on (g.K.Sink.taken c.spell_head.new.out) (g.K.Sink.taken c.spell_items.new.out) (g.K.Sink.taken c.hand_over.new.out) (g.K.Sink.faults c.spell_head.new.out) (g.K.Sink.faults c.spell_items.new.out) (g.K.Sink.faults c.hand_over.new.out) (listed_items (item_trees (map tree_of c.args.items.now))) (codes "]") c.hand_over.result
    (c.in_ok-spell_items.ensures {u = tt})
    (c.hand_over.ensures))

pub spell_field-returns-in_err-spell_id : goal.spell_field-returns-in_err-spell_id
spell_field-returns-in_err-spell_id g t c =
    breaks (g.K.Sink.taken c.args.out.now) (g.K.Sink.taken c.spell_id.new.out) (g.K.Sink.faults c.args.out.now) (g.K.Sink.faults c.spell_id.new.out) (c.args.mark ∷ number_and_letter c.args.id.now (codes "=")) (tree_text (tree_of c.args.value.now)) c.from_residual.result c.from_residual.ensures.0 (c.in_err-spell_id.ensures {u = tt})

pub spell_field-returns : goal.spell_field-returns
spell_field-returns g t c =
    goes_on (g.K.Sink.taken c.args.out.now) (g.K.Sink.taken c.spell_id.new.out) (g.K.Sink.taken c.spell_value.new.out) (g.K.Sink.faults c.args.out.now) (g.K.Sink.faults c.spell_id.new.out) (g.K.Sink.faults c.spell_value.new.out) (c.args.mark ∷ number_and_letter c.args.id.now (codes "=")) (tree_text (tree_of c.args.value.now)) c.spell_value.result
    (c.in_ok-spell_id.ensures {u = tt})
    (c.spell_value.ensures)

pub spell_next_item-returns-in_err-hand_over : goal.spell_next_item-returns-in_err-hand_over
spell_next_item-returns-in_err-hand_over g t c =
    breaks (g.K.Sink.taken c.args.out.now) (g.K.Sink.taken c.hand_over.new.out) (g.K.Sink.faults c.args.out.now) (g.K.Sink.faults c.hand_over.new.out) (codes ",") (tree_text (tree_of c.args.item.now)) c.from_residual.result c.from_residual.ensures.0 (c.in_err-hand_over.ensures {u = tt})

pub spell_next_item-returns : goal.spell_next_item-returns
spell_next_item-returns g t c =
    goes_on (g.K.Sink.taken c.args.out.now) (g.K.Sink.taken c.hand_over.new.out) (g.K.Sink.taken c.spell_value.new.out) (g.K.Sink.faults c.args.out.now) (g.K.Sink.faults c.hand_over.new.out) (g.K.Sink.faults c.spell_value.new.out) (codes ",") (tree_text (tree_of c.args.item.now)) c.spell_value.result
    (c.in_ok-hand_over.ensures {u = tt})
    (c.spell_value.ensures)

pub spell_mapped-returns-in_err-hand_over : goal.spell_mapped-returns-in_err-hand_over
spell_mapped-returns-in_err-hand_over g t c =
    breaks (g.K.Sink.taken c.args.out.now) (g.K.Sink.taken c.hand_over.new.out) (g.K.Sink.faults c.args.out.now) (g.K.Sink.faults c.hand_over.new.out) (codes "=") (tree_text (tree_of c.args.value.now)) c.from_residual.result c.from_residual.ensures.0 (c.in_err-hand_over.ensures {u = tt})

pub spell_mapped-returns : goal.spell_mapped-returns
spell_mapped-returns g t c =
    goes_on (g.K.Sink.taken c.args.out.now) (g.K.Sink.taken c.hand_over.new.out) (g.K.Sink.taken c.spell_value.new.out) (g.K.Sink.faults c.args.out.now) (g.K.Sink.faults c.hand_over.new.out) (g.K.Sink.faults c.spell_value.new.out) (codes "=") (tree_text (tree_of c.args.value.now)) c.spell_value.result
    (c.in_ok-hand_over.ensures {u = tt})
    (c.spell_value.ensures)

pub spell_fields-returns-in_err-spell_field : goal.spell_fields-returns-in_err-spell_field
spell_fields-returns-in_err-spell_field g t c =
    hands_same (g.K.Sink.taken c.args.out.now) (g.K.Sink.taken c.spell_field.new.out) (g.K.Sink.faults c.args.out.now) (g.K.Sink.faults c.spell_field.new.out) (first_field c.in-Some.first.now ++ flat_map next_field c.in-Some.more.now) (opened_fields c.args.fields.now) c.from_residual.result (sym (fields_begin c.args.fields.now c.in-Some.first.now c.in-Some.more.now c.in-Some.ensures.cases.0))
    (breaks (g.K.Sink.taken c.args.out.now) (g.K.Sink.taken c.spell_field.new.out) (g.K.Sink.faults c.args.out.now) (g.K.Sink.faults c.spell_field.new.out) (first_field c.in-Some.first.now) (flat_map next_field c.in-Some.more.now) c.from_residual.result c.from_residual.ensures.0 (c.in_err-spell_field.ensures {u = tt}))

pub spell_fields-loop-id-init : goal.spell_fields-loop-id-init
spell_fields-loop-id-init g t c =
    first_handed next_field c.in-Some.more.now (g.K.Sink.taken c.args.out.now) (g.K.Sink.taken c.spell_field.new.out) (g.K.Sink.faults c.args.out.now) (g.K.Sink.faults c.spell_field.new.out) (first_field c.in-Some.first.now) (opened_fields c.args.fields.now)
    (fields_begin c.args.fields.now c.in-Some.first.now c.in-Some.more.now c.in-Some.ensures.cases.0)
    (c.in_ok-spell_field.ensures {u = tt})

pub spell_fields-loop-id-preserved : goal.spell_fields-loop-id-preserved
spell_fields-loop-id-preserved g t c =
    next_handed next_field c.in-Some.more.now c.loop-id.id-index c.loop-id-item.result c.loop-id-item.result (g.K.Sink.taken c.args.out.now) (g.K.Sink.taken c.loop-id.out) (g.K.Sink.taken c.spell_field-in-loop-id.new.out) (g.K.Sink.faults c.args.out.now) (g.K.Sink.faults c.loop-id.out) (g.K.Sink.faults c.spell_field-in-loop-id.new.out) (opened_fields c.args.fields.now) (omega arith) c.loop-id-item.is c.loop-id.invariant
    (c.in_ok-spell_field-2.ensures {u = tt})

pub spell_fields-returns-in_err-spell_field-2 : goal.spell_fields-returns-in_err-spell_field-2
spell_fields-returns-in_err-spell_field-2 g t c =
    next_fails next_field c.in-Some.more.now c.loop-id.id-index c.loop-id-item.result c.loop-id-item.result (g.K.Sink.taken c.args.out.now) (g.K.Sink.taken c.loop-id.out) (g.K.Sink.taken c.spell_field-in-loop-id.new.out) (g.K.Sink.faults c.args.out.now) (g.K.Sink.faults c.loop-id.out) (g.K.Sink.faults c.spell_field-in-loop-id.new.out) (opened_fields c.args.fields.now) c.from_residual-in_err-spell_field-2.result (omega arith) c.loop-id-item.is c.loop-id.invariant c.from_residual-in_err-spell_field-2.ensures.0
    (breaks_last (g.K.Sink.taken c.loop-id.out) (g.K.Sink.taken c.spell_field-in-loop-id.new.out) (g.K.Sink.faults c.loop-id.out) (g.K.Sink.faults c.spell_field-in-loop-id.new.out) (next_field c.loop-id-item.result) c.from_residual-in_err-spell_field-2.result c.from_residual-in_err-spell_field-2.ensures.0 (c.in_err-spell_field-2.ensures {u = tt}))

pub spell_items-returns-in_err-spell_value : goal.spell_items-returns-in_err-spell_value
spell_items-returns-in_err-spell_value g t c =
    hands_same (g.K.Sink.taken c.args.out.now) (g.K.Sink.taken c.spell_value.new.out) (g.K.Sink.faults c.args.out.now) (g.K.Sink.faults c.spell_value.new.out) ((tree_text (tree_of c.in-Some.first.now)) ++ (flat_map next_item c.in-Some.more.now)) (listed_items (item_trees (map tree_of c.args.items.now))) c.from_residual.result (sym (items_begin c.args.items.now c.in-Some.first.now c.in-Some.more.now c.in-Some.ensures.cases.0))
    (breaks (g.K.Sink.taken c.args.out.now) (g.K.Sink.taken c.spell_value.new.out) (g.K.Sink.faults c.args.out.now) (g.K.Sink.faults c.spell_value.new.out) (tree_text (tree_of c.in-Some.first.now)) (flat_map next_item c.in-Some.more.now) c.from_residual.result c.from_residual.ensures.0 (c.in_err-spell_value.ensures {u = tt}))

pub spell_items-loop-item-init : goal.spell_items-loop-item-init
spell_items-loop-item-init g t c =
    first_handed next_item c.in-Some.more.now (g.K.Sink.taken c.args.out.now) (g.K.Sink.taken c.spell_value.new.out) (g.K.Sink.faults c.args.out.now) (g.K.Sink.faults c.spell_value.new.out) (tree_text (tree_of c.in-Some.first.now)) (listed_items (item_trees (map tree_of c.args.items.now)))
    (items_begin c.args.items.now c.in-Some.first.now c.in-Some.more.now c.in-Some.ensures.cases.0)
    (c.in_ok-spell_value.ensures {u = tt})

pub spell_items-loop-item-preserved : goal.spell_items-loop-item-preserved
spell_items-loop-item-preserved g t c =
    next_handed next_item c.in-Some.more.now c.loop-item.item-index c.item-item.result c.item-item.result (g.K.Sink.taken c.args.out.now) (g.K.Sink.taken c.loop-item.out) (g.K.Sink.taken c.spell_next_item.new.out) (g.K.Sink.faults c.args.out.now) (g.K.Sink.faults c.loop-item.out) (g.K.Sink.faults c.spell_next_item.new.out) (listed_items (item_trees (map tree_of c.args.items.now))) (omega arith) c.item-item.is c.loop-item.invariant
    (c.in_ok-spell_next_item.ensures {u = tt})

pub spell_items-returns-in_err-spell_next_item : goal.spell_items-returns-in_err-spell_next_item
spell_items-returns-in_err-spell_next_item g t c =
    next_fails next_item c.in-Some.more.now c.loop-item.item-index c.item-item.result c.item-item.result (g.K.Sink.taken c.args.out.now) (g.K.Sink.taken c.loop-item.out) (g.K.Sink.taken c.spell_next_item.new.out) (g.K.Sink.faults c.args.out.now) (g.K.Sink.faults c.loop-item.out) (g.K.Sink.faults c.spell_next_item.new.out) (listed_items (item_trees (map tree_of c.args.items.now))) c.from_residual-in_err-spell_next_item.result (omega arith) c.item-item.is c.loop-item.invariant c.from_residual-in_err-spell_next_item.ensures.0
    (breaks_last (g.K.Sink.taken c.loop-item.out) (g.K.Sink.taken c.spell_next_item.new.out) (g.K.Sink.faults c.loop-item.out) (g.K.Sink.faults c.spell_next_item.new.out) (next_item c.item-item.result) c.from_residual-in_err-spell_next_item.result c.from_residual-in_err-spell_next_item.ensures.0 (c.in_err-spell_next_item.ensures {u = tt}))

pub spell_pairs-returns-in_err-spell_value : goal.spell_pairs-returns-in_err-spell_value
spell_pairs-returns-in_err-spell_value g t c =
    hands_same (g.K.Sink.taken c.args.out.now) (g.K.Sink.taken c.spell_value.new.out) (g.K.Sink.faults c.args.out.now) (g.K.Sink.faults c.spell_value.new.out) ((tree_text (tree_of c.in-Some.first.now.0) ++ (codes "=" ++ tree_text (tree_of c.in-Some.first.now.1))) ++ (flat_map next_pair c.in-Some.more.now)) (listed_pairs (pair_trees (map pair_tree c.args.pairs.now))) c.from_residual.result (sym (pairs_begin c.args.pairs.now c.in-Some.first.now c.in-Some.more.now c.in-Some.ensures.cases.0))
    (hands_more (g.K.Sink.taken c.args.out.now) (g.K.Sink.taken c.spell_value.new.out) (g.K.Sink.faults c.args.out.now) (g.K.Sink.faults c.spell_value.new.out) (tree_text (tree_of c.in-Some.first.now.0) ++ (codes "=" ++ tree_text (tree_of c.in-Some.first.now.1))) (flat_map next_pair c.in-Some.more.now) c.from_residual.result c.from_residual.ensures.0
    (breaks (g.K.Sink.taken c.args.out.now) (g.K.Sink.taken c.spell_value.new.out) (g.K.Sink.faults c.args.out.now) (g.K.Sink.faults c.spell_value.new.out) (tree_text (tree_of c.in-Some.first.now.0)) (codes "=" ++ tree_text (tree_of c.in-Some.first.now.1)) c.from_residual.result c.from_residual.ensures.0 (c.in_err-spell_value.ensures {u = tt})))

pub spell_pairs-returns-in_err-spell_mapped : goal.spell_pairs-returns-in_err-spell_mapped
spell_pairs-returns-in_err-spell_mapped g t c =
    hands_same (g.K.Sink.taken c.args.out.now) (g.K.Sink.taken c.spell_mapped.new.out) (g.K.Sink.faults c.args.out.now) (g.K.Sink.faults c.spell_mapped.new.out) ((tree_text (tree_of c.in-Some.first.now.0) ++ (codes "=" ++ tree_text (tree_of c.in-Some.first.now.1))) ++ (flat_map next_pair c.in-Some.more.now)) (listed_pairs (pair_trees (map pair_tree c.args.pairs.now))) c.from_residual-in_err-spell_mapped.result (sym (pairs_begin c.args.pairs.now c.in-Some.first.now c.in-Some.more.now c.in-Some.ensures.cases.0))
    (hands_more (g.K.Sink.taken c.args.out.now) (g.K.Sink.taken c.spell_mapped.new.out) (g.K.Sink.faults c.args.out.now) (g.K.Sink.faults c.spell_mapped.new.out) (tree_text (tree_of c.in-Some.first.now.0) ++ (codes "=" ++ tree_text (tree_of c.in-Some.first.now.1))) (flat_map next_pair c.in-Some.more.now) c.from_residual-in_err-spell_mapped.result c.from_residual-in_err-spell_mapped.ensures.0
    (goes_on (g.K.Sink.taken c.args.out.now) (g.K.Sink.taken c.spell_value.new.out) (g.K.Sink.taken c.spell_mapped.new.out) (g.K.Sink.faults c.args.out.now) (g.K.Sink.faults c.spell_value.new.out) (g.K.Sink.faults c.spell_mapped.new.out) (tree_text (tree_of c.in-Some.first.now.0)) (codes "=" ++ tree_text (tree_of c.in-Some.first.now.1)) c.from_residual-in_err-spell_mapped.result
    (c.in_ok-spell_value.ensures {u = tt})
    (breaks_last (g.K.Sink.taken c.spell_value.new.out) (g.K.Sink.taken c.spell_mapped.new.out) (g.K.Sink.faults c.spell_value.new.out) (g.K.Sink.faults c.spell_mapped.new.out) (codes "=" ++ tree_text (tree_of c.in-Some.first.now.1)) c.from_residual-in_err-spell_mapped.result c.from_residual-in_err-spell_mapped.ensures.0 (c.in_err-spell_mapped.ensures {u = tt}))))

pub spell_pairs-loop-key-init : goal.spell_pairs-loop-key-init
spell_pairs-loop-key-init g t c =
    first_handed next_pair c.in-Some.more.now (g.K.Sink.taken c.args.out.now) (g.K.Sink.taken c.spell_mapped.new.out) (g.K.Sink.faults c.args.out.now) (g.K.Sink.faults c.spell_mapped.new.out) (tree_text (tree_of c.in-Some.first.now.0) ++ (codes "=" ++ tree_text (tree_of c.in-Some.first.now.1))) (listed_pairs (pair_trees (map pair_tree c.args.pairs.now)))
    (pairs_begin c.args.pairs.now c.in-Some.first.now c.in-Some.more.now c.in-Some.ensures.cases.0)
    (both_handed (g.K.Sink.taken c.args.out.now) (g.K.Sink.taken c.spell_value.new.out) (g.K.Sink.taken c.spell_mapped.new.out) (g.K.Sink.faults c.args.out.now) (g.K.Sink.faults c.spell_value.new.out) (g.K.Sink.faults c.spell_mapped.new.out) (tree_text (tree_of c.in-Some.first.now.0)) (codes "=" ++ tree_text (tree_of c.in-Some.first.now.1)) (c.in_ok-spell_value.ensures {u = tt}) (c.in_ok-spell_mapped.ensures {u = tt}))

pub spell_pairs-loop-key-preserved : goal.spell_pairs-loop-key-preserved
spell_pairs-loop-key-preserved g t c =
    next_handed next_pair c.in-Some.more.now c.loop-key.key-index c.loop-key-item.result c.loop-key-item.result (g.K.Sink.taken c.args.out.now) (g.K.Sink.taken c.loop-key.out) (g.K.Sink.taken c.spell_mapped-in-loop-key.new.out) (g.K.Sink.faults c.args.out.now) (g.K.Sink.faults c.loop-key.out) (g.K.Sink.faults c.spell_mapped-in-loop-key.new.out) (listed_pairs (pair_trees (map pair_tree c.args.pairs.now))) (omega arith) c.loop-key-item.is c.loop-key.invariant
    (both_handed (g.K.Sink.taken c.loop-key.out) (g.K.Sink.taken c.spell_next_item.new.out) (g.K.Sink.taken c.spell_mapped-in-loop-key.new.out) (g.K.Sink.faults c.loop-key.out) (g.K.Sink.faults c.spell_next_item.new.out) (g.K.Sink.faults c.spell_mapped-in-loop-key.new.out) (codes "," ++ tree_text (tree_of c.loop-key-item.result.0)) (codes "=" ++ tree_text (tree_of c.loop-key-item.result.1)) (c.in_ok-spell_next_item.ensures {u = tt}) (c.in_ok-spell_mapped-2.ensures {u = tt}))

pub spell_pairs-returns-in_err-spell_next_item : goal.spell_pairs-returns-in_err-spell_next_item
spell_pairs-returns-in_err-spell_next_item g t c =
    next_fails next_pair c.in-Some.more.now c.loop-key.key-index c.loop-key-item.result c.loop-key-item.result (g.K.Sink.taken c.args.out.now) (g.K.Sink.taken c.loop-key.out) (g.K.Sink.taken c.spell_next_item.new.out) (g.K.Sink.faults c.args.out.now) (g.K.Sink.faults c.loop-key.out) (g.K.Sink.faults c.spell_next_item.new.out) (listed_pairs (pair_trees (map pair_tree c.args.pairs.now))) c.from_residual-in_err-spell_next_item.result (omega arith) c.loop-key-item.is c.loop-key.invariant c.from_residual-in_err-spell_next_item.ensures.0
    (breaks (g.K.Sink.taken c.loop-key.out) (g.K.Sink.taken c.spell_next_item.new.out) (g.K.Sink.faults c.loop-key.out) (g.K.Sink.faults c.spell_next_item.new.out) (codes "," ++ tree_text (tree_of c.loop-key-item.result.0)) (codes "=" ++ tree_text (tree_of c.loop-key-item.result.1)) c.from_residual-in_err-spell_next_item.result c.from_residual-in_err-spell_next_item.ensures.0 (c.in_err-spell_next_item.ensures {u = tt}))

pub spell_pairs-returns-in_err-spell_mapped-2 : goal.spell_pairs-returns-in_err-spell_mapped-2
spell_pairs-returns-in_err-spell_mapped-2 g t c =
    next_fails next_pair c.in-Some.more.now c.loop-key.key-index c.loop-key-item.result c.loop-key-item.result (g.K.Sink.taken c.args.out.now) (g.K.Sink.taken c.loop-key.out) (g.K.Sink.taken c.spell_mapped-in-loop-key.new.out) (g.K.Sink.faults c.args.out.now) (g.K.Sink.faults c.loop-key.out) (g.K.Sink.faults c.spell_mapped-in-loop-key.new.out) (listed_pairs (pair_trees (map pair_tree c.args.pairs.now))) c.from_residual-in_err-spell_mapped-2.result (omega arith) c.loop-key-item.is c.loop-key.invariant c.from_residual-in_err-spell_mapped-2.ensures.0
    (goes_on (g.K.Sink.taken c.loop-key.out) (g.K.Sink.taken c.spell_next_item.new.out) (g.K.Sink.taken c.spell_mapped-in-loop-key.new.out) (g.K.Sink.faults c.loop-key.out) (g.K.Sink.faults c.spell_next_item.new.out) (g.K.Sink.faults c.spell_mapped-in-loop-key.new.out) (codes "," ++ tree_text (tree_of c.loop-key-item.result.0)) (codes "=" ++ tree_text (tree_of c.loop-key-item.result.1)) c.from_residual-in_err-spell_mapped-2.result
    (c.in_ok-spell_next_item.ensures {u = tt})
    (breaks_last (g.K.Sink.taken c.spell_next_item.new.out) (g.K.Sink.taken c.spell_mapped-in-loop-key.new.out) (g.K.Sink.faults c.spell_next_item.new.out) (g.K.Sink.faults c.spell_mapped-in-loop-key.new.out) (codes "=" ++ tree_text (tree_of c.loop-key-item.result.1)) c.from_residual-in_err-spell_mapped-2.result c.from_residual-in_err-spell_mapped-2.ensures.0 (c.in_err-spell_mapped-2.ensures {u = tt})))

pub spell_value-returns-in-Bool : goal.spell_value-returns-in-Bool
spell_value-returns-in-Bool g t c =
    hands_same (g.K.Sink.taken c.args.out.now) (g.K.Sink.taken c.spell_bool.new.out) (g.K.Sink.faults c.args.out.now) (g.K.Sink.faults c.spell_bool.new.out) _ (tree_text (tree_of c.args.value.now)) c.spell_bool.result
    (bool_text c.args.value.now c.in-Bool.truth c.in-Bool.is) c.spell_bool.ensures

pub spell_value-returns-in-I8 : goal.spell_value-returns-in-I8
spell_value-returns-in-I8 g t c =
    let fits : FitsSigned w8 c.in-I8.n = search rules in
    let wide : FitsSigned w64 c.from.result = search rules in
    hands_same (g.K.Sink.taken c.args.out.now) (g.K.Sink.taken c.spell_number.new.out) (g.K.Sink.faults c.args.out.now) (g.K.Sink.faults c.spell_number.new.out) _ (tree_text (tree_of c.args.value.now)) c.spell_number.result
    (i8_text c.args.value.now c.in-I8.n (to_z w64 (of_z w64 c.from.result)) c.in-I8.is (to_z-of_z w64 c.from.result wide ∙ c.from.ensures ∙ to_z-of_z w8 c.in-I8.n fits)) c.spell_number.ensures

pub spell_value-returns-in-I16 : goal.spell_value-returns-in-I16
spell_value-returns-in-I16 g t c =
    let fits : FitsSigned w16 c.in-I16.n = search rules in
    let wide : FitsSigned w64 c.from-in-I16.result = search rules in
    hands_same (g.K.Sink.taken c.args.out.now) (g.K.Sink.taken c.spell_number-in-I16.new.out) (g.K.Sink.faults c.args.out.now) (g.K.Sink.faults c.spell_number-in-I16.new.out) _ (tree_text (tree_of c.args.value.now)) c.spell_number-in-I16.result
    (i16_text c.args.value.now c.in-I16.n (to_z w64 (of_z w64 c.from-in-I16.result)) c.in-I16.is (to_z-of_z w64 c.from-in-I16.result wide ∙ c.from-in-I16.ensures ∙ to_z-of_z w16 c.in-I16.n fits)) c.spell_number-in-I16.ensures

pub spell_value-returns-in-I32 : goal.spell_value-returns-in-I32
spell_value-returns-in-I32 g t c =
    let fits : FitsSigned w32 c.in-I32.n = search rules in
    let wide : FitsSigned w64 c.from-in-I32.result = search rules in
    hands_same (g.K.Sink.taken c.args.out.now) (g.K.Sink.taken c.spell_number-in-I32.new.out) (g.K.Sink.faults c.args.out.now) (g.K.Sink.faults c.spell_number-in-I32.new.out) _ (tree_text (tree_of c.args.value.now)) c.spell_number-in-I32.result
    (i32_text c.args.value.now c.in-I32.n (to_z w64 (of_z w64 c.from-in-I32.result)) c.in-I32.is (to_z-of_z w64 c.from-in-I32.result wide ∙ c.from-in-I32.ensures ∙ to_z-of_z w32 c.in-I32.n fits)) c.spell_number-in-I32.ensures

pub spell_value-returns-in-I64 : goal.spell_value-returns-in-I64
spell_value-returns-in-I64 g t c =
    let fits : FitsSigned w64 c.in-I64.n = search rules in
    hands_same (g.K.Sink.taken c.args.out.now) (g.K.Sink.taken c.spell_number-in-I64.new.out) (g.K.Sink.faults c.args.out.now) (g.K.Sink.faults c.spell_number-in-I64.new.out) _ (tree_text (tree_of c.args.value.now)) c.spell_number-in-I64.result
    (i64_text c.args.value.now c.in-I64.n (to_z w64 (of_z w64 c.in-I64.n)) c.in-I64.is (to_z-of_z w64 c.in-I64.n fits)) c.spell_number-in-I64.ensures

pub spell_value-returns-in-Double : goal.spell_value-returns-in-Double
spell_value-returns-in-Double g t c =
    hands_same (g.K.Sink.taken c.args.out.now) (g.K.Sink.taken c.spell_double.new.out) (g.K.Sink.faults c.args.out.now) (g.K.Sink.faults c.spell_double.new.out) _ (tree_text (tree_of c.args.value.now)) c.spell_double.result
    (bits_text c.args.value.now c.in-Double.bits c.in-Double.is) c.spell_double.ensures

pub spell_value-returns-in-Uuid : goal.spell_value-returns-in-Uuid
spell_value-returns-in-Uuid g t c =
    hands_same (g.K.Sink.taken c.args.out.now) (g.K.Sink.taken c.spell_uuid.new.out) (g.K.Sink.faults c.args.out.now) (g.K.Sink.faults c.spell_uuid.new.out) _ (tree_text (tree_of c.args.value.now)) c.spell_uuid.result
    (wide_text c.args.value.now c.in-Uuid.uuid c.number.result c.in-Uuid.is c.number.ensures) c.spell_uuid.ensures

pub spell_value-returns-in-Bytes : goal.spell_value-returns-in-Bytes
spell_value-returns-in-Bytes g t c =
    hands_same (g.K.Sink.taken c.args.out.now) (g.K.Sink.taken c.spell_quoted.new.out) (g.K.Sink.faults c.args.out.now) (g.K.Sink.faults c.spell_quoted.new.out) _ (tree_text (tree_of c.args.value.now)) c.spell_quoted.result
    (bytes_text c.args.value.now c.in-Bytes.text c.as_slice.result.now c.in-Bytes.is c.as_slice.ensures) c.spell_quoted.ensures

pub spell_value-returns-in-Struct : goal.spell_value-returns-in-Struct
spell_value-returns-in-Struct g t c =
    hands_same (g.K.Sink.taken c.args.out.now) (g.K.Sink.taken c.spell_struct.new.out) (g.K.Sink.faults c.args.out.now) (g.K.Sink.faults c.spell_struct.new.out) _ (tree_text (tree_of c.args.value.now)) c.spell_struct.result
    (struct_text c.args.value.now c.in-Struct.fields c.as_slice-in-Struct.result.now c.in-Struct.is c.as_slice-in-Struct.ensures) c.spell_struct.ensures

pub spell_value-returns-in-Map : goal.spell_value-returns-in-Map
spell_value-returns-in-Map g t c =
    hands_same (g.K.Sink.taken c.args.out.now) (g.K.Sink.taken c.spell_map.new.out) (g.K.Sink.faults c.args.out.now) (g.K.Sink.faults c.spell_map.new.out) _ (tree_text (tree_of c.args.value.now)) c.spell_map.result
    (map_opened (tag_word c.in-Map.key) (tag_word c.in-Map.value) (listed_pairs (pair_trees (map pair_tree c.as_slice-in-Map.result.now)) ++ codes "}")
    ∙ map_text c.args.value.now c.in-Map.key c.in-Map.value c.in-Map.pairs c.as_slice-in-Map.result.now c.in-Map.is c.as_slice-in-Map.ensures) c.spell_map.ensures

pub spell_value-returns-in-Set : goal.spell_value-returns-in-Set
spell_value-returns-in-Set g t c =
    hands_same (g.K.Sink.taken c.args.out.now) (g.K.Sink.taken c.spell_collection.new.out) (g.K.Sink.faults c.args.out.now) (g.K.Sink.faults c.spell_collection.new.out) _ (tree_text (tree_of c.args.value.now)) c.spell_collection.result
    (list_opened (codes "set<") (tag_word c.in-Set.element) (listed_items (item_trees (map tree_of c.as_slice-in-Set.result.now)) ++ codes "]")
    ∙ set_text c.args.value.now c.in-Set.element c.in-Set.items c.as_slice-in-Set.result.now c.in-Set.is c.as_slice-in-Set.ensures) c.spell_collection.ensures

pub spell_value-returns-in-List : goal.spell_value-returns-in-List
spell_value-returns-in-List g t c =
    hands_same (g.K.Sink.taken c.args.out.now) (g.K.Sink.taken c.spell_collection-in-List.new.out) (g.K.Sink.faults c.args.out.now) (g.K.Sink.faults c.spell_collection-in-List.new.out) _ (tree_text (tree_of c.args.value.now)) c.spell_collection-in-List.result
    (list_opened (codes "list<") (tag_word c.in-List.element) (listed_items (item_trees (map tree_of c.as_slice-in-List.result.now)) ++ codes "]")
    ∙ list_text c.args.value.now c.in-List.element c.in-List.items c.as_slice-in-List.result.now c.in-List.is c.as_slice-in-List.ensures) c.spell_collection-in-List.ensures

-- to the end

pub spell_fields-returns : goal.spell_fields-returns
spell_fields-returns g t c =
    subst (λ s. HandsOver (g.K.Sink.taken c.args.out.now) (g.K.Sink.taken c.loop-id.out) (g.K.Sink.faults c.args.out.now) (g.K.Sink.faults c.loop-id.out) (opened_fields c.args.fields.now) s)
    (at_drop_all (flat_map next_field) c.in-Some.more.now c.loop-id.id-index (omega arith)) c.loop-id.invariant

pub spell_items-returns : goal.spell_items-returns
spell_items-returns g t c =
    subst (λ s. HandsOver (g.K.Sink.taken c.args.out.now) (g.K.Sink.taken c.loop-item.out) (g.K.Sink.faults c.args.out.now) (g.K.Sink.faults c.loop-item.out) (listed_items (item_trees (map tree_of c.args.items.now))) s)
    (at_drop_all (flat_map next_item) c.in-Some.more.now c.loop-item.item-index (omega arith)) c.loop-item.invariant

pub spell_pairs-returns : goal.spell_pairs-returns
spell_pairs-returns g t c =
    subst (λ s. HandsOver (g.K.Sink.taken c.args.out.now) (g.K.Sink.taken c.loop-key.out) (g.K.Sink.faults c.args.out.now) (g.K.Sink.faults c.loop-key.out) (listed_pairs (pair_trees (map pair_tree c.args.pairs.now))) s)
    (at_drop_all (flat_map next_pair) c.in-Some.more.now c.loop-key.key-index (omega arith)) c.loop-key.invariant

-- of none

pub spell_fields-returns-in_default : goal.spell_fields-returns-in_default
spell_fields-returns-in_default g t c =
    hands_same (g.K.Sink.taken c.args.out.now) (g.K.Sink.taken c.hand_over.new.out) (g.K.Sink.faults c.args.out.now) (g.K.Sink.faults c.hand_over.new.out) (codes "{") (opened_fields c.args.fields.now) c.hand_over.result
    (no_fields_told c.args.fields.now ((c.in_default.ensures {u = tt}).cases)) c.hand_over.ensures

pub spell_items-returns-in_default : goal.spell_items-returns-in_default
spell_items-returns-in_default g t c =
    nothing_handed (g.K.Sink.taken c.args.out.now) (g.K.Sink.faults c.args.out.now) (listed_items (item_trees (map tree_of c.args.items.now))) (no_items_told c.args.items.now ((c.in_default.ensures {u = tt}).cases))

pub spell_pairs-returns-in_default : goal.spell_pairs-returns-in_default
spell_pairs-returns-in_default g t c =
    nothing_handed (g.K.Sink.taken c.args.out.now) (g.K.Sink.faults c.args.out.now) (listed_pairs (pair_trees (map pair_tree c.args.pairs.now))) (no_pairs_told c.args.pairs.now ((c.in_default.ensures {u = tt}).cases))

-- a field that is a number

pub spell_field-returns-in-Some : goal.spell_field-returns-in-Some
spell_field-returns-in-Some g t c =
    let fits : FitsSigned w16 c.args.id.now = search rules in
    let wide : FitsSigned w64 c.in-Some.number = search rules in
    hands_same (g.K.Sink.taken c.args.out.now) (g.K.Sink.taken c.spell_numbered.new.out) (g.K.Sink.faults c.args.out.now) (g.K.Sink.faults c.spell_numbered.new.out) _
    ((c.args.mark ∷ number_and_letter c.args.id.now (codes "=")) ++ tree_text (tree_of c.args.value.now)) c.spell_numbered.result
    (λ k. (c.args.mark ∷ number_and_letter (to_z-of_z w16 c.args.id.now fits k) (codes "=")) ++ (ap (λ n. number_and_letter n (c.in-Some.letter ∷ [])) (to_z-of_z w64 c.in-Some.number wide) ∙ sym (c.in-Some.ensures {u = tt})) k)
    c.spell_numbered.ensures
