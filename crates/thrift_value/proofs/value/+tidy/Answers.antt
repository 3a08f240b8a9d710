use Rattle.std.specs.Prelude.{◌↔◌, IsTrue}
use Rattle.std.proofs.Common.{true}
use Rattle.thrift_value.proofs.Leaves.{IsOfLeaves, of_leaf}
use Rattle.std.proofs.Common.{◌≡◌, ℤ, map, refl, sym, subst}
use Rattle.thrift_value.specs.declared.tag.Tag.{Tag}
use Rattle.thrift_value.specs.declared.value.Value.{Value}
use Rattle.thrift_value.specs.Tags.{tag_of}
use Rattle.thrift_value.specs.Tidy.{IsTidy, AreTidyFields, AreTidyItems, AreTidyPairs}
use Rattle.thrift_value.specs.TreeOf.{tree_of, field_tree, pair_tree, field_trees, item_trees, pair_trees, fields_tree, items_tree, pairs_tree}
use Rattle.thrift_value.proofs.Trees.{tree_of-is_Struct, tree_of-is_Map, tree_of-is_Set, tree_of-is_List}
use Rattle.thrift_value.proofs.TidyLaws.{tag_is, tag_is_not, tidy_struct, tidy_map, tidy_set, first_failed, second_decides}
use Rattle.thrift_value.proofs.Walks.{IsOfEach, passed, stopped, all_passed}
use Rattle.thrift_value.proofs.value.+tidy.Goals as goal

tidy_fields : IsOfEach (λ (f : ℤ × Value). IsTidy (tree_of f.1)) (λ fs. AreTidyFields (field_trees (map field_tree fs)))
tidy_fields = record {
  none = (tt, tt);
  more = λ _ _ q rest. ((q.tagged, rest.0), (q.in_order, rest.1));
  head = λ _ _ all. record { tagged = all.0.0; in_order = all.1.0 };
  tail = λ _ _ all. (all.0.1, all.1.1);
}

tidy_items : (element : Tag) → IsOfEach (λ x. (tag_of (tree_of x) ≡ element) × IsTidy (tree_of x)) (λ xs. AreTidyItems element (item_trees (map tree_of xs)))
tidy_items element = record {
  none = (tt, tt);
  more = λ _ _ q rest. ((q.0, q.1.tagged, rest.0), (q.1.in_order, rest.1));
  head = λ _ _ all. (all.0.0, record { tagged = all.0.1; in_order = all.1.0 });
  tail = λ _ _ all. (all.0.2, all.1.1);
}

tidy_pairs : (key value : Tag)
    → IsOfEach (λ (p : Value × Value). (tag_of (tree_of p.0) ≡ key) × (tag_of (tree_of p.1) ≡ value) × IsTidy (tree_of p.0) × IsTidy (tree_of p.1))
    (λ ps. AreTidyPairs key value (pair_trees (map pair_tree ps)))
tidy_pairs key value = record {
  none = (tt, tt);
  more = λ _ _ q rest. ((q.0, q.1, q.2.tagged, q.3.tagged, rest.0), (q.2.in_order, q.3.in_order, rest.1));
  head = λ _ _ all. (all.0.0, all.0.1, record { tagged = all.0.2; in_order = all.1.0 }, record { tagged = all.0.3; in_order = all.1.1 });
  tail = λ _ _ all. (all.0.4, all.1.2);
}

pub Fields::are_tidy-loop-value-preserved : goal.Fields::are_tidy-loop-value-preserved
Fields::are_tidy-loop-value-preserved t c =
    passed tidy_fields (AreTidyFields (fields_tree c.args.self.now)) c.deref-value-items.result.now c.loop-value.value-index c.loop-value-item.result c.loop-value-test.true c.loop-value-item.is (c.if-not-is_tidy.ensures.0 refl) c.loop-value.invariant

pub Fields::are_tidy-returns : goal.Fields::are_tidy-returns
Fields::are_tidy-returns t c =
    all_passed tidy_fields (AreTidyFields (fields_tree c.args.self.now)) c.deref-value-items.result.now c.loop-value.value-index c.loop-value-test.false c.loop-value.invariant

pub Fields::are_tidy-returns-then-not-is_tidy : goal.Fields::are_tidy-returns-then-not-is_tidy
Fields::are_tidy-returns-then-not-is_tidy t c =
    stopped tidy_fields (AreTidyFields (fields_tree c.args.self.now)) c.deref-value-items.result.now c.loop-value.value-index c.loop-value-item.result c.loop-value-test.true c.loop-value-item.is c.if-not-is_tidy.ensures.1 c.loop-value.invariant

pub Items::are_tidy-loop-value-preserved : goal.Items::are_tidy-loop-value-preserved
Items::are_tidy-loop-value-preserved t c =
    let tag = tag_is c.tag.result _ c.args.element c.ne.result c.tag.ensures c.ne.ensures c.if-ne.false in
    passed (tidy_items c.args.element) (AreTidyItems c.args.element (items_tree c.args.self.now)) c.deref-value-items.result.now c.loop-value.value-index c.value-item.result c.loop-value-test.true c.value-item.is (tag, c.if-not-is_tidy.ensures.0 refl) c.loop-value.invariant

pub Items::are_tidy-returns : goal.Items::are_tidy-returns
Items::are_tidy-returns t c =
    all_passed (tidy_items c.args.element) (AreTidyItems c.args.element (items_tree c.args.self.now)) c.deref-value-items.result.now c.loop-value.value-index c.loop-value-test.false c.loop-value.invariant

pub Items::are_tidy-returns-then-not-is_tidy : goal.Items::are_tidy-returns-then-not-is_tidy
Items::are_tidy-returns-then-not-is_tidy t c =
    stopped (tidy_items c.args.element) (AreTidyItems c.args.element (items_tree c.args.self.now)) c.deref-value-items.result.now c.loop-value.value-index c.value-item.result c.loop-value-test.true c.value-item.is (λ q. c.if-not-is_tidy.ensures.1 q.1) c.loop-value.invariant

pub Pairs::are_tidy-loop-k-preserved : goal.Pairs::are_tidy-loop-k-preserved
Pairs::are_tidy-loop-k-preserved t c =
    let p = c.loop-k-item.result in
    let tk = tag_is c.tag.result _ c.args.key c.ne.result c.tag.ensures c.ne.ensures c.if-ne.false in
    let tv = tag_is c.tag-in-loop-k.result _ c.args.value c.ne-in-loop-k.result c.tag-in-loop-k.ensures c.ne-in-loop-k.ensures c.if-ne-2.false in
    passed (tidy_pairs c.args.key c.args.value) (AreTidyPairs c.args.key c.args.value (pairs_tree c.args.self.now)) c.deref-k-items.result.now c.loop-k.k-index p c.loop-k-test.true c.loop-k-item.is
    (tk, tv, c.if-not-is_tidy.ensures.0 refl, c.if-not-is_tidy-2.ensures.0 refl) c.loop-k.invariant

pub Pairs::are_tidy-returns : goal.Pairs::are_tidy-returns
Pairs::are_tidy-returns t c =
    all_passed (tidy_pairs c.args.key c.args.value) (AreTidyPairs c.args.key c.args.value (pairs_tree c.args.self.now)) c.deref-k-items.result.now c.loop-k.k-index c.loop-k-test.false c.loop-k.invariant

pub Pairs::are_tidy-returns-then-not-is_tidy : goal.Pairs::are_tidy-returns-then-not-is_tidy
Pairs::are_tidy-returns-then-not-is_tidy t c =
    stopped (tidy_pairs c.args.key c.args.value) (AreTidyPairs c.args.key c.args.value (pairs_tree c.args.self.now)) c.deref-k-items.result.now c.loop-k.k-index c.loop-k-item.result c.loop-k-test.true c.loop-k-item.is
    (λ q. c.if-not-is_tidy.ensures.1 q.2) c.loop-k.invariant

pub Pairs::are_tidy-returns-then-not-is_tidy-2 : goal.Pairs::are_tidy-returns-then-not-is_tidy-2
Pairs::are_tidy-returns-then-not-is_tidy-2 t c =
    stopped (tidy_pairs c.args.key c.args.value) (AreTidyPairs c.args.key c.args.value (pairs_tree c.args.self.now)) c.deref-k-items.result.now c.loop-k.k-index c.loop-k-item.result c.loop-k-test.true c.loop-k-item.is
    (λ q. c.if-not-is_tidy-2.ensures.1 q.3) c.loop-k.invariant

pub Value::is_tidy-returns-then-not-rise : goal.Value::is_tidy-returns-then-not-rise
Value::is_tidy-returns-then-not-rise t c =
    first_failed (tidy_struct _ _ (tree_of-is_Struct _ c.in-Struct.fields c.in-Struct.is)) c.if-not-rise.ensures.1

pub Value::is_tidy-returns-else-not-rise : goal.Value::is_tidy-returns-else-not-rise
Value::is_tidy-returns-else-not-rise t c =
    second_decides (tidy_struct _ _ (tree_of-is_Struct _ c.in-Struct.fields c.in-Struct.is)) c.are_tidy.result (c.if-not-rise.ensures.0 refl) c.are_tidy.ensures

pub Value::is_tidy-returns-then-not-rise-2 : goal.Value::is_tidy-returns-then-not-rise-2
Value::is_tidy-returns-then-not-rise-2 t c =
    first_failed (tidy_map _ _ _ _ (tree_of-is_Map _ c.in-Map.key c.in-Map.value c.in-Map.pairs c.in-Map.is)) c.if-not-rise-2.ensures.1

pub Value::is_tidy-returns-else-not-rise-2 : goal.Value::is_tidy-returns-else-not-rise-2
Value::is_tidy-returns-else-not-rise-2 t c =
    second_decides (tidy_map _ _ _ _ (tree_of-is_Map _ c.in-Map.key c.in-Map.value c.in-Map.pairs c.in-Map.is)) c.are_tidy-in-Map.result (c.if-not-rise-2.ensures.0 refl) c.are_tidy-in-Map.ensures

pub Value::is_tidy-returns-then-not-rise-3 : goal.Value::is_tidy-returns-then-not-rise-3
Value::is_tidy-returns-then-not-rise-3 t c =
    first_failed (tidy_set _ _ _ (tree_of-is_Set _ c.in-Set.element c.in-Set.items c.in-Set.is)) c.if-not-rise-3.ensures.1

pub Value::is_tidy-returns-else-not-rise-3 : goal.Value::is_tidy-returns-else-not-rise-3
Value::is_tidy-returns-else-not-rise-3 t c =
    second_decides (tidy_set _ _ _ (tree_of-is_Set _ c.in-Set.element c.in-Set.items c.in-Set.is)) c.are_tidy-in-Set.result (c.if-not-rise-3.ensures.0 refl) c.are_tidy-in-Set.ensures

tidy_leaves : IsOfLeaves (λ x. IsTrue true ↔ IsTidy x)
tidy_leaves = record {
  bool = λ _. (λ _. record { tagged = tt; in_order = tt }, λ _. refl);
  i8 = λ _. (λ _. record { tagged = tt; in_order = tt }, λ _. refl);
  i16 = λ _. (λ _. record { tagged = tt; in_order = tt }, λ _. refl);
  i32 = λ _. (λ _. record { tagged = tt; in_order = tt }, λ _. refl);
  i64 = λ _. (λ _. record { tagged = tt; in_order = tt }, λ _. refl);
  double = λ _. (λ _. record { tagged = tt; in_order = tt }, λ _. refl);
  uuid = λ _. (λ _. record { tagged = tt; in_order = tt }, λ _. refl);
}

pub Value::is_tidy-returns-in-Bool : goal.Value::is_tidy-returns-in-Bool
Value::is_tidy-returns-in-Bool t c = of_leaf (λ x. IsTrue true ↔ IsTidy x) tidy_leaves c.args.self.now (λ _. (λ _. record { tagged = tt; in_order = tt }, λ _. refl)) c.in-Bool.is

pub Value::is_tidy-returns-in-Bool-2 : goal.Value::is_tidy-returns-in-Bool-2
Value::is_tidy-returns-in-Bool-2 t c = of_leaf (λ x. IsTrue true ↔ IsTidy x) tidy_leaves c.args.self.now (λ _. (λ _. record { tagged = tt; in_order = tt }, λ _. refl)) c.in-Bool.is

pub Value::is_tidy-returns-in-Bool-3 : goal.Value::is_tidy-returns-in-Bool-3
Value::is_tidy-returns-in-Bool-3 t c = of_leaf (λ x. IsTrue true ↔ IsTidy x) tidy_leaves c.args.self.now (λ _. (λ _. record { tagged = tt; in_order = tt }, λ _. refl)) c.in-Bool.is

pub Value::is_tidy-returns-in-Bool-4 : goal.Value::is_tidy-returns-in-Bool-4
Value::is_tidy-returns-in-Bool-4 t c = of_leaf (λ x. IsTrue true ↔ IsTidy x) tidy_leaves c.args.self.now (λ _. (λ _. record { tagged = tt; in_order = tt }, λ _. refl)) c.in-Bool.is

pub Value::is_tidy-returns-in-Bool-5 : goal.Value::is_tidy-returns-in-Bool-5
Value::is_tidy-returns-in-Bool-5 t c = of_leaf (λ x. IsTrue true ↔ IsTidy x) tidy_leaves c.args.self.now (λ _. (λ _. record { tagged = tt; in_order = tt }, λ _. refl)) c.in-Bool.is

pub Value::is_tidy-returns-in-Bool-6 : goal.Value::is_tidy-returns-in-Bool-6
Value::is_tidy-returns-in-Bool-6 t c = of_leaf (λ x. IsTrue true ↔ IsTidy x) tidy_leaves c.args.self.now (λ _. (λ _. record { tagged = tt; in_order = tt }, λ _. refl)) c.in-Bool.is

pub Value::is_tidy-returns-in-Bool-7 : goal.Value::is_tidy-returns-in-Bool-7
Value::is_tidy-returns-in-Bool-7 t c = of_leaf (λ x. IsTrue true ↔ IsTidy x) tidy_leaves c.args.self.now (λ _. (λ _. record { tagged = tt; in_order = tt }, λ _. refl)) c.in-Bool.is

pub Value::is_tidy-returns-in-Bool-8 : goal.Value::is_tidy-returns-in-Bool-8
Value::is_tidy-returns-in-Bool-8 t c = of_leaf (λ x. IsTrue true ↔ IsTidy x) tidy_leaves c.args.self.now (λ _. (λ _. record { tagged = tt; in_order = tt }, λ _. refl)) c.in-Bool.is

pub Value::is_tidy-returns-in-List : goal.Value::is_tidy-returns-in-List
Value::is_tidy-returns-in-List t c =
    let is = tree_of-is_List _ c.in-List.element c.in-List.items c.in-List.is in (
      λ yes. let h = c.are_tidy-in-List.ensures.0 yes in subst IsTidy (sym is) (record { tagged = h.0; in_order = h.1 }),
      λ tidy. let at = subst IsTidy is tidy in c.are_tidy-in-List.ensures.1 (at.tagged, at.in_order),
    )

pub Items::are_tidy-returns-then-ne : goal.Items::are_tidy-returns-then-ne
Items::are_tidy-returns-then-ne t c =
    stopped (tidy_items c.args.element) (AreTidyItems c.args.element (items_tree c.args.self.now)) c.deref-value-items.result.now c.loop-value.value-index c.value-item.result c.loop-value-test.true c.value-item.is
    (λ q. absurd (tag_is_not c.tag.result _ c.args.element c.ne.result c.tag.ensures c.ne.ensures c.if-ne.true q.0)) c.loop-value.invariant

pub Pairs::are_tidy-returns-then-ne : goal.Pairs::are_tidy-returns-then-ne
Pairs::are_tidy-returns-then-ne t c =
    let p = c.loop-k-item.result in
    stopped (tidy_pairs c.args.key c.args.value) (AreTidyPairs c.args.key c.args.value (pairs_tree c.args.self.now)) c.deref-k-items.result.now c.loop-k.k-index p c.loop-k-test.true c.loop-k-item.is
    (λ q. absurd (tag_is_not c.tag.result _ c.args.key c.ne.result c.tag.ensures c.ne.ensures c.if-ne.true q.0)) c.loop-k.invariant

pub Pairs::are_tidy-returns-then-ne-2 : goal.Pairs::are_tidy-returns-then-ne-2
Pairs::are_tidy-returns-then-ne-2 t c =
    let p = c.loop-k-item.result in
    stopped (tidy_pairs c.args.key c.args.value) (AreTidyPairs c.args.key c.args.value (pairs_tree c.args.self.now)) c.deref-k-items.result.now c.loop-k.k-index p c.loop-k-test.true c.loop-k-item.is
    (λ q. absurd (tag_is_not c.tag-in-loop-k.result _ c.args.value c.ne-in-loop-k.result c.tag-in-loop-k.ensures c.ne-in-loop-k.ensures c.if-ne-2.true q.1)) c.loop-k.invariant
