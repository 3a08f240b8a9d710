use Rattle.std.proofs.Common.{◌≡◌, ◌-◌, ◌+◌, ◌^◌, min, map, refl, ap, arith}
use Rattle.thrift_value.specs.Measures.{count_of, fields_count, items_count, pairs_count}
use Rattle.thrift_value.specs.TreeOf.{tree_of, field_tree, pair_tree, field_trees, item_trees, pair_trees, pairs_tree}
use Rattle.thrift_value.proofs.Leaves.{IsOfLeaves, of_leaf}
use Rattle.thrift_value.proofs.Trees.{tree_of-is_Struct, tree_of-is_Map, tree_of-is_Set, tree_of-is_List}
use Rattle.thrift_value.proofs.Walks.{summed, summed_on}
use Rattle.thrift_value.proofs.value.+count.Goals as goal

pub Fields::count-returns : goal.Fields::count-returns
Fields::count-returns t c =
    summed (λ fs. fields_count (field_trees (map field_tree fs))) c.deref-value-items.result.now _ _ _ _ refl (omega arith) c.loop-value.invariant

pub Items::count-returns : goal.Items::count-returns
Items::count-returns t c =
    summed (λ xs. items_count (item_trees (map tree_of xs))) c.deref-value-items.result.now _ _ _ _ refl (omega arith) c.loop-value.invariant

pub Pairs::count-returns : goal.Pairs::count-returns
Pairs::count-returns t c =
    summed (λ ps. pairs_count (pair_trees (map pair_tree ps))) c.deref-key-items.result.now _ _ _ _ refl (omega arith) c.loop-key.invariant

pub Fields::count-loop-value-preserved : goal.Fields::count-loop-value-preserved
Fields::count-loop-value-preserved t c =
    summed_on (λ fs. fields_count (field_trees (map field_tree fs))) c.deref-value-items.result.now c.loop-value.value-index c.loop-value-item.result c.loop-value.count c.saturating_add-count.result
    (count_of (tree_of c.loop-value-item.result.1)) c.count.result _ _ c.loop-value-test.true c.loop-value-item.is refl c.count.ensures c.saturating_add-count.ensures c.loop-value.invariant

pub Items::count-loop-value-preserved : goal.Items::count-loop-value-preserved
Items::count-loop-value-preserved t c =
    summed_on (λ xs. items_count (item_trees (map tree_of xs))) c.deref-value-items.result.now c.loop-value.value-index c.value-item.result c.loop-value.count c.saturating_add-count.result
    (count_of (tree_of c.value-item.result)) c.count.result _ _ c.loop-value-test.true c.value-item.is refl c.count.ensures c.saturating_add-count.ensures c.loop-value.invariant

pub Pairs::count-loop-key-preserved : goal.Pairs::count-loop-key-preserved
Pairs::count-loop-key-preserved t c =
    summed_on (λ ps. pairs_count (pair_trees (map pair_tree ps))) c.deref-key-items.result.now c.loop-key.key-index c.loop-key-item.result c.loop-key.count c.saturating_add-count.result
    (count_of (tree_of c.loop-key-item.result.0) + count_of (tree_of c.loop-key-item.result.1))
    (min (count_of (tree_of c.loop-key-item.result.0) + count_of (tree_of c.loop-key-item.result.1)) (2 ^ 64 - 1)) (pairs_count (pairs_tree c.args.self.now)) (2 ^ 64 - 1)
    c.loop-key-test.true c.loop-key-item.is refl refl
    (omega (arith, c.saturating_add.ensures, c.saturating_add-count.ensures, c.count.ensures, c.count-in-loop-key.ensures)) c.loop-key.invariant

count_leaves : IsOfLeaves (λ x. 1 ≡ min (count_of x) (2 ^ 64 - 1))
count_leaves = record { bool = λ _. refl; i8 = λ _. refl; i16 = λ _. refl; i32 = λ _. refl; i64 = λ _. refl; double = λ _. refl; uuid = λ _. refl }

pub Value::count-returns-in-Bool : goal.Value::count-returns-in-Bool
Value::count-returns-in-Bool t c = of_leaf (λ x. 1 ≡ min (count_of x) (2 ^ 64 - 1)) count_leaves c.args.self.now (λ _. refl) c.in-Bool.is

pub Value::count-returns-in-Bool-2 : goal.Value::count-returns-in-Bool-2
Value::count-returns-in-Bool-2 t c = of_leaf (λ x. 1 ≡ min (count_of x) (2 ^ 64 - 1)) count_leaves c.args.self.now (λ _. refl) c.in-Bool.is

pub Value::count-returns-in-Bool-3 : goal.Value::count-returns-in-Bool-3
Value::count-returns-in-Bool-3 t c = of_leaf (λ x. 1 ≡ min (count_of x) (2 ^ 64 - 1)) count_leaves c.args.self.now (λ _. refl) c.in-Bool.is

pub Value::count-returns-in-Bool-4 : goal.Value::count-returns-in-Bool-4
Value::count-returns-in-Bool-4 t c = of_leaf (λ x. 1 ≡ min (count_of x) (2 ^ 64 - 1)) count_leaves c.args.self.now (λ _. refl) c.in-Bool.is

pub Value::count-returns-in-Bool-5 : goal.Value::count-returns-in-Bool-5
Value::count-returns-in-Bool-5 t c = of_leaf (λ x. 1 ≡ min (count_of x) (2 ^ 64 - 1)) count_leaves c.args.self.now (λ _. refl) c.in-Bool.is

pub Value::count-returns-in-Bool-6 : goal.Value::count-returns-in-Bool-6
Value::count-returns-in-Bool-6 t c = of_leaf (λ x. 1 ≡ min (count_of x) (2 ^ 64 - 1)) count_leaves c.args.self.now (λ _. refl) c.in-Bool.is

pub Value::count-returns-in-Bool-7 : goal.Value::count-returns-in-Bool-7
Value::count-returns-in-Bool-7 t c = of_leaf (λ x. 1 ≡ min (count_of x) (2 ^ 64 - 1)) count_leaves c.args.self.now (λ _. refl) c.in-Bool.is

pub Value::count-returns-in-Bool-8 : goal.Value::count-returns-in-Bool-8
Value::count-returns-in-Bool-8 t c = of_leaf (λ x. 1 ≡ min (count_of x) (2 ^ 64 - 1)) count_leaves c.args.self.now (λ _. refl) c.in-Bool.is

pub Value::count-returns-in-Struct : goal.Value::count-returns-in-Struct
Value::count-returns-in-Struct t c = omega (arith, ap count_of (tree_of-is_Struct _ c.in-Struct.fields c.in-Struct.is), c.count.ensures, c.saturating_add.ensures)

pub Value::count-returns-in-Map : goal.Value::count-returns-in-Map
Value::count-returns-in-Map t c = omega (arith, ap count_of (tree_of-is_Map _ c.in-Map.field-0 c.in-Map.field-1 c.in-Map.pairs c.in-Map.is), c.count-in-Map.ensures, c.saturating_add-in-Map.ensures)

pub Value::count-returns-in-Set : goal.Value::count-returns-in-Set
Value::count-returns-in-Set t c = omega (arith, ap count_of (tree_of-is_Set _ c.in-Set.field-0 c.in-Set.items c.in-Set.is), c.count-in-Set.ensures, c.saturating_add-in-Set.ensures)

pub Value::count-returns-in-List : goal.Value::count-returns-in-List
Value::count-returns-in-List t c = omega (arith, ap count_of (tree_of-is_List _ c.in-List.field-0 c.in-List.items c.in-List.is), c.count-in-List.ensures, c.saturating_add-in-List.ensures)
