use Rattle.std.proofs.Common.{◌≡◌, ◌-◌, ◌^◌, max, min, map, refl, ap, arith}
use Rattle.thrift_value.specs.Measures.{depth_of, fields_depth, items_depth, pairs_depth}
use Rattle.thrift_value.specs.TreeOf.{tree_of, field_tree, pair_tree, field_trees, item_trees, pair_trees, pairs_tree}
use Rattle.thrift_value.proofs.Leaves.{IsOfLeaves, of_leaf}
use Rattle.thrift_value.proofs.Trees.{tree_of-is_Struct, tree_of-is_Map, tree_of-is_Set, tree_of-is_List}
use Rattle.thrift_value.proofs.Walks.{topped, topped_on}
use Rattle.thrift_value.proofs.value.+depth.Goals as goal

pub Fields::depth-returns : goal.Fields::depth-returns
Fields::depth-returns t c =
    topped (λ fs. fields_depth (field_trees (map field_tree fs))) c.deref-value-items.result.now _ _ _ _ refl (omega arith) c.loop-value.invariant

pub Items::depth-returns : goal.Items::depth-returns
Items::depth-returns t c =
    topped (λ xs. items_depth (item_trees (map tree_of xs))) c.deref-value-items.result.now _ _ _ _ refl (omega arith) c.loop-value.invariant

pub Pairs::depth-returns : goal.Pairs::depth-returns
Pairs::depth-returns t c =
    topped (λ ps. pairs_depth (pair_trees (map pair_tree ps))) c.deref-key-items.result.now _ _ _ _ refl (omega arith) c.loop-key.invariant

pub Fields::depth-loop-value-preserved : goal.Fields::depth-loop-value-preserved
Fields::depth-loop-value-preserved t c =
    topped_on (λ fs. fields_depth (field_trees (map field_tree fs))) c.deref-value-items.result.now c.loop-value.value-index c.loop-value-item.result c.loop-value.depth c.max-depth.result
    (depth_of (tree_of c.loop-value-item.result.1)) c.depth.result _ _ c.loop-value-test.true c.loop-value-item.is refl c.depth.ensures c.max-depth.ensures c.loop-value.invariant

pub Items::depth-loop-value-preserved : goal.Items::depth-loop-value-preserved
Items::depth-loop-value-preserved t c =
    topped_on (λ xs. items_depth (item_trees (map tree_of xs))) c.deref-value-items.result.now c.loop-value.value-index c.value-item.result c.loop-value.depth c.max-depth.result
    (depth_of (tree_of c.value-item.result)) c.depth.result _ _ c.loop-value-test.true c.value-item.is refl c.depth.ensures c.max-depth.ensures c.loop-value.invariant

pub Pairs::depth-loop-key-preserved : goal.Pairs::depth-loop-key-preserved
Pairs::depth-loop-key-preserved t c =
    topped_on (λ ps. pairs_depth (pair_trees (map pair_tree ps))) c.deref-key-items.result.now c.loop-key.key-index c.loop-key-item.result c.loop-key.depth c.max-depth.result
    (max (depth_of (tree_of c.loop-key-item.result.0)) (depth_of (tree_of c.loop-key-item.result.1))) c.max.result (pairs_depth (pairs_tree c.args.self.now)) (2 ^ 32 - 1)
    c.loop-key-test.true c.loop-key-item.is refl (omega (arith, c.max.ensures, c.depth.ensures, c.depth-in-loop-key.ensures)) c.max-depth.ensures c.loop-key.invariant

depth_leaves : IsOfLeaves (λ x. 0 ≡ min (depth_of x) (2 ^ 32 - 1))
depth_leaves = record { bool = λ _. refl; i8 = λ _. refl; i16 = λ _. refl; i32 = λ _. refl; i64 = λ _. refl; double = λ _. refl; uuid = λ _. refl }

pub Value::depth-returns-in-Bool : goal.Value::depth-returns-in-Bool
Value::depth-returns-in-Bool t c = of_leaf (λ x. 0 ≡ min (depth_of x) (2 ^ 32 - 1)) depth_leaves c.args.self.now (λ _. refl) c.in-Bool.is

pub Value::depth-returns-in-Bool-2 : goal.Value::depth-returns-in-Bool-2
Value::depth-returns-in-Bool-2 t c = of_leaf (λ x. 0 ≡ min (depth_of x) (2 ^ 32 - 1)) depth_leaves c.args.self.now (λ _. refl) c.in-Bool.is

pub Value::depth-returns-in-Bool-3 : goal.Value::depth-returns-in-Bool-3
Value::depth-returns-in-Bool-3 t c = of_leaf (λ x. 0 ≡ min (depth_of x) (2 ^ 32 - 1)) depth_leaves c.args.self.now (λ _. refl) c.in-Bool.is

pub Value::depth-returns-in-Bool-4 : goal.Value::depth-returns-in-Bool-4
Value::depth-returns-in-Bool-4 t c = of_leaf (λ x. 0 ≡ min (depth_of x) (2 ^ 32 - 1)) depth_leaves c.args.self.now (λ _. refl) c.in-Bool.is

pub Value::depth-returns-in-Bool-5 : goal.Value::depth-returns-in-Bool-5
Value::depth-returns-in-Bool-5 t c = of_leaf (λ x. 0 ≡ min (depth_of x) (2 ^ 32 - 1)) depth_leaves c.args.self.now (λ _. refl) c.in-Bool.is

pub Value::depth-returns-in-Bool-6 : goal.Value::depth-returns-in-Bool-6
Value::depth-returns-in-Bool-6 t c = of_leaf (λ x. 0 ≡ min (depth_of x) (2 ^ 32 - 1)) depth_leaves c.args.self.now (λ _. refl) c.in-Bool.is

pub Value::depth-returns-in-Bool-7 : goal.Value::depth-returns-in-Bool-7
Value::depth-returns-in-Bool-7 t c = of_leaf (λ x. 0 ≡ min (depth_of x) (2 ^ 32 - 1)) depth_leaves c.args.self.now (λ _. refl) c.in-Bool.is

pub Value::depth-returns-in-Bool-8 : goal.Value::depth-returns-in-Bool-8
Value::depth-returns-in-Bool-8 t c = of_leaf (λ x. 0 ≡ min (depth_of x) (2 ^ 32 - 1)) depth_leaves c.args.self.now (λ _. refl) c.in-Bool.is

pub Value::depth-returns-in-Struct : goal.Value::depth-returns-in-Struct
Value::depth-returns-in-Struct t c = omega (arith, ap depth_of (tree_of-is_Struct _ c.in-Struct.fields c.in-Struct.is), c.depth.ensures, c.saturating_add.ensures)

pub Value::depth-returns-in-Map : goal.Value::depth-returns-in-Map
Value::depth-returns-in-Map t c = omega (arith, ap depth_of (tree_of-is_Map _ c.in-Map.field-0 c.in-Map.field-1 c.in-Map.pairs c.in-Map.is), c.depth-in-Map.ensures, c.saturating_add-in-Map.ensures)

pub Value::depth-returns-in-Set : goal.Value::depth-returns-in-Set
Value::depth-returns-in-Set t c = omega (arith, ap depth_of (tree_of-is_Set _ c.in-Set.field-0 c.in-Set.items c.in-Set.is), c.depth-in-Set.ensures, c.saturating_add-in-Set.ensures)

pub Value::depth-returns-in-List : goal.Value::depth-returns-in-List
Value::depth-returns-in-List t c = omega (arith, ap depth_of (tree_of-is_List _ c.in-List.field-0 c.in-List.items c.in-List.is), c.depth-in-List.ensures, c.saturating_add-in-List.ensures)
