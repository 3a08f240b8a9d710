use Rattle.std.proofs.Common.{◌≡◌, ◌<◌, ◌^◌, sym, subst}
use Rattle.thrift_value.specs.Sizes.{items_len, pairs_len, HavePairsSmallSizes}
use Rattle.thrift_value.specs.declared.tag.Tag.{Tag}
use Rattle.thrift_value.specs.Tree.{Tree, of_map, of_set, of_list, ItemTrees, PairTrees}
use Rattle.thrift_value.proofs.Trees.{tree_of-is_Struct, tree_of-is_Map, tree_of-is_Set, tree_of-is_List}
use Rattle.thrift_value.proofs.TidyLaws.{first_failed, second_decides}
use Rattle.std.specs.Prelude.{◌↔◌, IsTrue}
use Rattle.std.proofs.Common.{true}
use Rattle.thrift_value.proofs.Leaves.{IsOfLeaves, of_number}
use Rattle.std.proofs.Common.{map, refl}
use Rattle.thrift_value.specs.Sizes.{HasSmallSizes, HaveFieldsSmallSizes, HaveItemsSmallSizes}
use Rattle.thrift_value.specs.TreeOf.{tree_of, field_tree, pair_tree, field_trees, item_trees, pair_trees, fields_tree, items_tree, pairs_tree}
use Rattle.thrift_value.specs.declared.value.Value.{Value}
use Rattle.std.proofs.Common.{ℤ}
use Rattle.thrift_value.proofs.Walks.{IsOfEach, passed, stopped, all_passed}
use Rattle.thrift_value.proofs.value.+sizes.Goals as goal

small_fields : IsOfEach (λ (f : ℤ × Value). HasSmallSizes (tree_of f.1)) (λ fs. HaveFieldsSmallSizes (field_trees (map field_tree fs)))
small_fields = record { none = tt; more = λ _ _ q rest. (q, rest); head = λ _ _ all. all.0; tail = λ _ _ all. all.1 }

small_items : IsOfEach (λ x. HasSmallSizes (tree_of x)) (λ xs. HaveItemsSmallSizes (item_trees (map tree_of xs)))
small_items = record { none = tt; more = λ _ _ q rest. (q, rest); head = λ _ _ all. all.0; tail = λ _ _ all. all.1 }

small_pairs : IsOfEach (λ (p : Value × Value). HasSmallSizes (tree_of p.0) × HasSmallSizes (tree_of p.1)) (λ ps. HavePairsSmallSizes (pair_trees (map pair_tree ps)))
small_pairs = record { none = tt; more = λ _ _ q rest. (q.0, q.1, rest); head = λ _ _ all. (all.0, all.1); tail = λ _ _ all. all.2 }

pub Fields::have_small_sizes-loop-value-preserved : goal.Fields::have_small_sizes-loop-value-preserved
Fields::have_small_sizes-loop-value-preserved t c =
    passed small_fields (HaveFieldsSmallSizes (fields_tree c.args.self.now)) c.deref-value-items.result.now c.loop-value.value-index c.loop-value-item.result c.loop-value-test.true c.loop-value-item.is (c.if-not-has_small_sizes.ensures.0 refl) c.loop-value.invariant

pub Items::have_small_sizes-loop-value-preserved : goal.Items::have_small_sizes-loop-value-preserved
Items::have_small_sizes-loop-value-preserved t c =
    passed small_items (HaveItemsSmallSizes (items_tree c.args.self.now)) c.deref-value-items.result.now c.loop-value.value-index c.value-item.result c.loop-value-test.true c.value-item.is (c.if-not-has_small_sizes.ensures.0 refl) c.loop-value.invariant

pub Fields::have_small_sizes-returns : goal.Fields::have_small_sizes-returns
Fields::have_small_sizes-returns t c =
    all_passed small_fields (HaveFieldsSmallSizes (fields_tree c.args.self.now)) c.deref-value-items.result.now c.loop-value.value-index c.loop-value-test.false c.loop-value.invariant

pub Items::have_small_sizes-returns : goal.Items::have_small_sizes-returns
Items::have_small_sizes-returns t c =
    all_passed small_items (HaveItemsSmallSizes (items_tree c.args.self.now)) c.deref-value-items.result.now c.loop-value.value-index c.loop-value-test.false c.loop-value.invariant

pub Fields::have_small_sizes-returns-then-not-has_small_sizes : goal.Fields::have_small_sizes-returns-then-not-has_small_sizes
Fields::have_small_sizes-returns-then-not-has_small_sizes t c =
    stopped small_fields (HaveFieldsSmallSizes (fields_tree c.args.self.now)) c.deref-value-items.result.now c.loop-value.value-index c.loop-value-item.result c.loop-value-test.true c.loop-value-item.is c.if-not-has_small_sizes.ensures.1 c.loop-value.invariant

pub Items::have_small_sizes-returns-then-not-has_small_sizes : goal.Items::have_small_sizes-returns-then-not-has_small_sizes
Items::have_small_sizes-returns-then-not-has_small_sizes t c =
    stopped small_items (HaveItemsSmallSizes (items_tree c.args.self.now)) c.deref-value-items.result.now c.loop-value.value-index c.value-item.result c.loop-value-test.true c.value-item.is c.if-not-has_small_sizes.ensures.1 c.loop-value.invariant

pub Pairs::have_small_sizes-loop-key-preserved : goal.Pairs::have_small_sizes-loop-key-preserved
Pairs::have_small_sizes-loop-key-preserved t c =
    passed small_pairs (HavePairsSmallSizes (pairs_tree c.args.self.now)) c.deref-key-items.result.now c.loop-key.key-index c.loop-key-item.result c.loop-key-test.true c.loop-key-item.is (c.if-not-has_small_sizes.ensures.0 refl, c.if-not-has_small_sizes-2.ensures.0 refl) c.loop-key.invariant

pub Pairs::have_small_sizes-returns : goal.Pairs::have_small_sizes-returns
Pairs::have_small_sizes-returns t c =
    all_passed small_pairs (HavePairsSmallSizes (pairs_tree c.args.self.now)) c.deref-key-items.result.now c.loop-key.key-index c.loop-key-test.false c.loop-key.invariant

pub Pairs::have_small_sizes-returns-then-not-has_small_sizes : goal.Pairs::have_small_sizes-returns-then-not-has_small_sizes
Pairs::have_small_sizes-returns-then-not-has_small_sizes t c =
    stopped small_pairs (HavePairsSmallSizes (pairs_tree c.args.self.now)) c.deref-key-items.result.now c.loop-key.key-index c.loop-key-item.result c.loop-key-test.true c.loop-key-item.is (λ q. c.if-not-has_small_sizes.ensures.1 q.0) c.loop-key.invariant

pub Pairs::have_small_sizes-returns-then-not-has_small_sizes-2 : goal.Pairs::have_small_sizes-returns-then-not-has_small_sizes-2
Pairs::have_small_sizes-returns-then-not-has_small_sizes-2 t c =
    stopped small_pairs (HavePairsSmallSizes (pairs_tree c.args.self.now)) c.deref-key-items.result.now c.loop-key.key-index c.loop-key-item.result c.loop-key-test.true c.loop-key-item.is (λ q. c.if-not-has_small_sizes-2.ensures.1 q.1) c.loop-key.invariant

small_leaves : IsOfLeaves (λ x. IsTrue true ↔ HasSmallSizes x)
small_leaves = record {
  bool = λ _. (λ _. tt, λ _. refl);
  i8 = λ _. (λ _. tt, λ _. refl);
  i16 = λ _. (λ _. tt, λ _. refl);
  i32 = λ _. (λ _. tt, λ _. refl);
  i64 = λ _. (λ _. tt, λ _. refl);
  double = λ _. (λ _. tt, λ _. refl);
  uuid = λ _. (λ _. tt, λ _. refl);
}

pub Value::has_small_sizes-returns-in-Bool : goal.Value::has_small_sizes-returns-in-Bool
Value::has_small_sizes-returns-in-Bool t c = of_number (λ x. IsTrue true ↔ HasSmallSizes x) small_leaves c.args.self.now c.in-Bool.is

pub Value::has_small_sizes-returns-in-Bool-2 : goal.Value::has_small_sizes-returns-in-Bool-2
Value::has_small_sizes-returns-in-Bool-2 t c = of_number (λ x. IsTrue true ↔ HasSmallSizes x) small_leaves c.args.self.now c.in-Bool.is

pub Value::has_small_sizes-returns-in-Bool-3 : goal.Value::has_small_sizes-returns-in-Bool-3
Value::has_small_sizes-returns-in-Bool-3 t c = of_number (λ x. IsTrue true ↔ HasSmallSizes x) small_leaves c.args.self.now c.in-Bool.is

pub Value::has_small_sizes-returns-in-Bool-4 : goal.Value::has_small_sizes-returns-in-Bool-4
Value::has_small_sizes-returns-in-Bool-4 t c = of_number (λ x. IsTrue true ↔ HasSmallSizes x) small_leaves c.args.self.now c.in-Bool.is

pub Value::has_small_sizes-returns-in-Bool-5 : goal.Value::has_small_sizes-returns-in-Bool-5
Value::has_small_sizes-returns-in-Bool-5 t c = of_number (λ x. IsTrue true ↔ HasSmallSizes x) small_leaves c.args.self.now c.in-Bool.is

pub Value::has_small_sizes-returns-in-Bool-6 : goal.Value::has_small_sizes-returns-in-Bool-6
Value::has_small_sizes-returns-in-Bool-6 t c = of_number (λ x. IsTrue true ↔ HasSmallSizes x) small_leaves c.args.self.now c.in-Bool.is

pub Value::has_small_sizes-returns-in-Bool-7 : goal.Value::has_small_sizes-returns-in-Bool-7
Value::has_small_sizes-returns-in-Bool-7 t c = of_number (λ x. IsTrue true ↔ HasSmallSizes x) small_leaves c.args.self.now c.in-Bool.is

small_map : (x : Tree) (key value : Tag) (pairs : PairTrees) → x ≡ of_map key value pairs → HasSmallSizes x ↔ (HavePairsSmallSizes pairs × (pairs_len pairs < 2 ^ 31))
small_map x key value pairs is = (λ w. let at = subst HasSmallSizes is w in (at.1, at.0), λ h. subst HasSmallSizes (sym is) (h.1, h.0))

small_set : (x : Tree) (element : Tag) (items : ItemTrees) → x ≡ of_set element items → HasSmallSizes x ↔ (HaveItemsSmallSizes items × (items_len items < 2 ^ 31))
small_set x element items is = (λ w. let at = subst HasSmallSizes is w in (at.1, at.0), λ h. subst HasSmallSizes (sym is) (h.1, h.0))

small_list : (x : Tree) (element : Tag) (items : ItemTrees) → x ≡ of_list element items → HasSmallSizes x ↔ (HaveItemsSmallSizes items × (items_len items < 2 ^ 31))
small_list x element items is = (λ w. let at = subst HasSmallSizes is w in (at.1, at.0), λ h. subst HasSmallSizes (sym is) (h.1, h.0))

pub Value::has_small_sizes-returns-in-Struct : goal.Value::has_small_sizes-returns-in-Struct
Value::has_small_sizes-returns-in-Struct t c =
    subst (λ x. IsTrue c.have_small_sizes.result ↔ HasSmallSizes x) (sym (tree_of-is_Struct _ c.in-Struct.fields c.in-Struct.is)) c.have_small_sizes.ensures

pub Value::has_small_sizes-returns-then-not-is_short : goal.Value::has_small_sizes-returns-then-not-is_short
Value::has_small_sizes-returns-then-not-is_short t c =
    first_failed (small_map _ _ _ _ (tree_of-is_Map _ c.in-Map.field-0 c.in-Map.field-1 c.in-Map.pairs c.in-Map.is)) c.if-not-is_short.ensures.1

pub Value::has_small_sizes-returns-else-not-is_short : goal.Value::has_small_sizes-returns-else-not-is_short
Value::has_small_sizes-returns-else-not-is_short t c =
    second_decides (small_map _ _ _ _ (tree_of-is_Map _ c.in-Map.field-0 c.in-Map.field-1 c.in-Map.pairs c.in-Map.is)) c.have_small_sizes-in-Map.result (c.if-not-is_short.ensures.0 refl) c.have_small_sizes-in-Map.ensures

pub Value::has_small_sizes-returns-then-not-is_short-2 : goal.Value::has_small_sizes-returns-then-not-is_short-2
Value::has_small_sizes-returns-then-not-is_short-2 t c =
    first_failed (small_set _ _ _ (tree_of-is_Set _ c.in-Set.field-0 c.in-Set.items c.in-Set.is)) c.if-not-is_short-2.ensures.1

pub Value::has_small_sizes-returns-else-not-is_short-2 : goal.Value::has_small_sizes-returns-else-not-is_short-2
Value::has_small_sizes-returns-else-not-is_short-2 t c =
    second_decides (small_set _ _ _ (tree_of-is_Set _ c.in-Set.field-0 c.in-Set.items c.in-Set.is)) c.have_small_sizes-in-Set.result (c.if-not-is_short-2.ensures.0 refl) c.have_small_sizes-in-Set.ensures

pub Value::has_small_sizes-returns-then-not-is_short-3 : goal.Value::has_small_sizes-returns-then-not-is_short-3
Value::has_small_sizes-returns-then-not-is_short-3 t c =
    first_failed (small_list _ _ _ (tree_of-is_List _ c.in-List.field-0 c.in-List.items c.in-List.is)) c.if-not-is_short-3.ensures.1

pub Value::has_small_sizes-returns-else-not-is_short-3 : goal.Value::has_small_sizes-returns-else-not-is_short-3
Value::has_small_sizes-returns-else-not-is_short-3 t c =
    second_decides (small_list _ _ _ (tree_of-is_List _ c.in-List.field-0 c.in-List.items c.in-List.is)) c.have_small_sizes-in-List.result (c.if-not-is_short-3.ensures.0 refl) c.have_small_sizes-in-List.ensures
