use Rattle.std.specs.Ordering.{ordering_then, int_cmp, nat_cmp}
use Rattle.std.proofs.Common.{◌≡◌, length, map, refl, arith, rules, sym, ap, ap₂, ◌∙◌}
use Rattle.thrift_value.specs.Tags.{rank}
use Rattle.thrift_value.specs.Order.{tree_cmp, fields_cmp, items_cmp, pairs_cmp}
use Rattle.thrift_value.specs.TreeOf.{tree_of, field_tree, pair_tree, field_trees, item_trees, pair_trees, fields_of, items_of, pairs_of}
use Rattle.thrift_value.proofs.Apart.{apart, ranked}
use Rattle.thrift_value.proofs.Trees.{tree_of-Bool, tree_of-I8, tree_of-I16, tree_of-I32, tree_of-I64, tree_of-Double, tree_of-Uuid, tree_of-Bytes, tree_of-Struct, tree_of-Map, tree_of-Set, tree_of-List, tree_of-is_Struct, tree_of-is_Map, tree_of-is_Set, tree_of-is_List}
use Rattle.thrift_value.proofs.Walks.{levelled, alike, decided, then_grouped}
use Rattle.thrift_value.proofs.value.+compare.Goals.{Value::compare-in_default-via-in-Bool+in_default, Value::compare-in_default-via-in-I8+in_default, Value::compare-in_default-via-in-I16+in_default, Value::compare-in_default-via-in-I32+in_default, Value::compare-in_default-via-in-I64+in_default, Value::compare-in_default-via-in-Double+in_default, Value::compare-in_default-via-in-Bytes+in_default, Value::compare-in_default-via-in-Struct+in_default, Value::compare-in_default-via-in-Map+in_default, Value::compare-in_default-via-in-Set+in_default, Value::compare-in_default-via-in-List+in_default, Value::compare-in_default-via-in-Uuid+in_default}
use Rattle.thrift_value.proofs.value.+compare.Goals as goal

pub Fields::compare-returns : goal.Fields::compare-returns
Fields::compare-returns t c =
    let left = levelled (λ xs ys. fields_cmp (field_trees (map field_tree xs)) (field_trees (map field_tree ys)))
    (record { both = refl; first = λ _ _. refl; second = λ _ _. refl })
    (fields_of c.args.self.now) (fields_of c.args.other.now) c.loop-i.i c.len-fields.result c.len-others.result
    (search rules) (search rules) (omega arith) (omega arith) in
    c.cmp-2.ensures ∙ sym left ∙ c.loop-i.invariant

pub Items::compare-returns : goal.Items::compare-returns
Items::compare-returns t c =
    let left = levelled (λ xs ys. items_cmp (item_trees (map tree_of xs)) (item_trees (map tree_of ys)))
    (record { both = refl; first = λ _ _. refl; second = λ _ _. refl })
    (items_of c.args.self.now) (items_of c.args.other.now) c.loop-i.i c.len-items.result c.len-others.result
    (search rules) (search rules) (omega arith) (omega arith) in
    c.cmp.ensures ∙ sym left ∙ c.loop-i.invariant

pub Pairs::compare-returns : goal.Pairs::compare-returns
Pairs::compare-returns t c =
    let left = levelled (λ xs ys. pairs_cmp (pair_trees (map pair_tree xs)) (pair_trees (map pair_tree ys)))
    (record { both = refl; first = λ _ _. refl; second = λ _ _. refl })
    (pairs_of c.args.self.now) (pairs_of c.args.other.now) c.loop-i.i c.len-pairs.result c.len-others.result
    (search rules) (search rules) (omega arith) (omega arith) in
    c.cmp.ensures ∙ sym left ∙ c.loop-i.invariant

pub Fields::compare-loop-i-preserved : goal.Fields::compare-loop-i-preserved
Fields::compare-loop-i-preserved t c =
    let mine : length (fields_of c.args.self.now) ≡ c.len-fields.result = search rules in
    let others : length (fields_of c.args.other.now) ≡ c.len-others.result = search rules in
    alike (λ f g. ordering_then (int_cmp f.0 g.0) (tree_cmp (tree_of f.1) (tree_of g.1))) (λ xs ys. fields_cmp (field_trees (map field_tree xs)) (field_trees (map field_tree ys)))
    (λ f g _ _. then_grouped (int_cmp f.0 g.0) _ _) (fields_of c.args.self.now) (fields_of c.args.other.now) c.loop-i.i c.index.result.now c.index-in-loop-i.result.now c.then-order.result _
    (omega arith) (omega arith) c.index.ensures c.index-in-loop-i.ensures (c.then-order.ensures ∙ ap₂ ordering_then c.cmp.ensures c.compare.ensures) c.if-is_ne.ensures c.loop-i.invariant

pub Items::compare-loop-i-preserved : goal.Items::compare-loop-i-preserved
Items::compare-loop-i-preserved t c =
    let mine : length (items_of c.args.self.now) ≡ c.len-items.result = search rules in
    let others : length (items_of c.args.other.now) ≡ c.len-others.result = search rules in
    alike (λ x y. tree_cmp (tree_of x) (tree_of y)) (λ xs ys. items_cmp (item_trees (map tree_of xs)) (item_trees (map tree_of ys)))
    (λ _ _ _ _. refl) (items_of c.args.self.now) (items_of c.args.other.now) c.loop-i.i c.index.result.now c.index-in-loop-i.result.now c.compare-order.result _
    (omega arith) (omega arith) c.index.ensures c.index-in-loop-i.ensures c.compare-order.ensures c.if-is_ne.ensures c.loop-i.invariant

pub Pairs::compare-loop-i-preserved : goal.Pairs::compare-loop-i-preserved
Pairs::compare-loop-i-preserved t c =
    let mine : length (pairs_of c.args.self.now) ≡ c.len-pairs.result = search rules in
    let others : length (pairs_of c.args.other.now) ≡ c.len-others.result = search rules in
    alike (λ p q. ordering_then (tree_cmp (tree_of p.0) (tree_of q.0)) (tree_cmp (tree_of p.1) (tree_of q.1))) (λ xs ys. pairs_cmp (pair_trees (map pair_tree xs)) (pair_trees (map pair_tree ys)))
    (λ p q _ _. then_grouped (tree_cmp (tree_of p.0) (tree_of q.0)) _ _) (pairs_of c.args.self.now) (pairs_of c.args.other.now) c.loop-i.i c.index.result.now c.index-in-loop-i.result.now c.then-order.result _
    (omega arith) (omega arith) c.index.ensures c.index-in-loop-i.ensures (c.then-order.ensures ∙ ap₂ ordering_then c.compare.ensures c.compare-in-loop-i.ensures) c.if-is_ne.ensures c.loop-i.invariant

pub Fields::compare-returns-then-is_ne : goal.Fields::compare-returns-then-is_ne
Fields::compare-returns-then-is_ne t c =
    let mine : length (fields_of c.args.self.now) ≡ c.len-fields.result = search rules in
    let others : length (fields_of c.args.other.now) ≡ c.len-others.result = search rules in
    decided (λ f g. ordering_then (int_cmp f.0 g.0) (tree_cmp (tree_of f.1) (tree_of g.1))) (λ xs ys. fields_cmp (field_trees (map field_tree xs)) (field_trees (map field_tree ys)))
    (λ f g _ _. then_grouped (int_cmp f.0 g.0) _ _) (fields_of c.args.self.now) (fields_of c.args.other.now) c.loop-i.i c.index.result.now c.index-in-loop-i.result.now c.then-order.result _
    (omega arith) (omega arith) c.index.ensures c.index-in-loop-i.ensures (c.then-order.ensures ∙ ap₂ ordering_then c.cmp.ensures c.compare.ensures) c.if-is_ne.ensures c.loop-i.invariant

pub Items::compare-returns-then-is_ne : goal.Items::compare-returns-then-is_ne
Items::compare-returns-then-is_ne t c =
    let mine : length (items_of c.args.self.now) ≡ c.len-items.result = search rules in
    let others : length (items_of c.args.other.now) ≡ c.len-others.result = search rules in
    decided (λ x y. tree_cmp (tree_of x) (tree_of y)) (λ xs ys. items_cmp (item_trees (map tree_of xs)) (item_trees (map tree_of ys)))
    (λ _ _ _ _. refl) (items_of c.args.self.now) (items_of c.args.other.now) c.loop-i.i c.index.result.now c.index-in-loop-i.result.now c.compare-order.result _
    (omega arith) (omega arith) c.index.ensures c.index-in-loop-i.ensures c.compare-order.ensures c.if-is_ne.ensures c.loop-i.invariant

pub Pairs::compare-returns-then-is_ne : goal.Pairs::compare-returns-then-is_ne
Pairs::compare-returns-then-is_ne t c =
    let mine : length (pairs_of c.args.self.now) ≡ c.len-pairs.result = search rules in
    let others : length (pairs_of c.args.other.now) ≡ c.len-others.result = search rules in
    decided (λ p q. ordering_then (tree_cmp (tree_of p.0) (tree_of q.0)) (tree_cmp (tree_of p.1) (tree_of q.1))) (λ xs ys. pairs_cmp (pair_trees (map pair_tree xs)) (pair_trees (map pair_tree ys)))
    (λ p q _ _. then_grouped (tree_cmp (tree_of p.0) (tree_of q.0)) _ _) (pairs_of c.args.self.now) (pairs_of c.args.other.now) c.loop-i.i c.index.result.now c.index-in-loop-i.result.now c.then-order.result _
    (omega arith) (omega arith) c.index.ensures c.index-in-loop-i.ensures (c.then-order.ensures ∙ ap₂ ordering_then c.compare.ensures c.compare-in-loop-i.ensures) c.if-is_ne.ensures c.loop-i.invariant

-- two values of one kind

pub Value::compare-returns-in-Bool-Bool : goal.Value::compare-returns-in-Bool-Bool
Value::compare-returns-in-Bool-Bool t c = c.cmp.ensures ∙ sym (ap₂ tree_cmp (ap tree_of c.in-Bool-Bool.is-0 ∙ tree_of-Bool c.in-Bool-Bool.a) (ap tree_of c.in-Bool-Bool.is-1 ∙ tree_of-Bool c.in-Bool-Bool.b))

pub Value::compare-returns-in-I8-I8 : goal.Value::compare-returns-in-I8-I8
Value::compare-returns-in-I8-I8 t c = c.cmp-in-I8-I8.ensures ∙ sym (ap₂ tree_cmp (ap tree_of c.in-I8-I8.is-0 ∙ tree_of-I8 c.in-I8-I8.a) (ap tree_of c.in-I8-I8.is-1 ∙ tree_of-I8 c.in-I8-I8.b))

pub Value::compare-returns-in-I16-I16 : goal.Value::compare-returns-in-I16-I16
Value::compare-returns-in-I16-I16 t c = c.cmp-in-I16-I16.ensures ∙ sym (ap₂ tree_cmp (ap tree_of c.in-I16-I16.is-0 ∙ tree_of-I16 c.in-I16-I16.a) (ap tree_of c.in-I16-I16.is-1 ∙ tree_of-I16 c.in-I16-I16.b))

pub Value::compare-returns-in-I32-I32 : goal.Value::compare-returns-in-I32-I32
Value::compare-returns-in-I32-I32 t c = c.cmp-in-I32-I32.ensures ∙ sym (ap₂ tree_cmp (ap tree_of c.in-I32-I32.is-0 ∙ tree_of-I32 c.in-I32-I32.a) (ap tree_of c.in-I32-I32.is-1 ∙ tree_of-I32 c.in-I32-I32.b))

pub Value::compare-returns-in-I64-I64 : goal.Value::compare-returns-in-I64-I64
Value::compare-returns-in-I64-I64 t c = c.cmp-in-I64-I64.ensures ∙ sym (ap₂ tree_cmp (ap tree_of c.in-I64-I64.is-0 ∙ tree_of-I64 c.in-I64-I64.a) (ap tree_of c.in-I64-I64.is-1 ∙ tree_of-I64 c.in-I64-I64.b))

pub Value::compare-returns-in-Double-Double : goal.Value::compare-returns-in-Double-Double
Value::compare-returns-in-Double-Double t c = c.cmp-in-Double-Double.ensures ∙ sym (ap₂ tree_cmp (ap tree_of c.in-Double-Double.is-0 ∙ tree_of-Double c.in-Double-Double.a) (ap tree_of c.in-Double-Double.is-1 ∙ tree_of-Double c.in-Double-Double.b))

pub Value::compare-returns-in-Struct-Struct : goal.Value::compare-returns-in-Struct-Struct
Value::compare-returns-in-Struct-Struct t c = c.compare.ensures ∙ sym (ap₂ tree_cmp (tree_of-is_Struct _ c.in-Struct-Struct.a c.in-Struct-Struct.is-0) (tree_of-is_Struct _ c.in-Struct-Struct.b c.in-Struct-Struct.is-1))

pub Value::compare-returns-in-Map-Map : goal.Value::compare-returns-in-Map-Map
Value::compare-returns-in-Map-Map t c = c.compare-in-Map-Map.ensures ∙ sym (ap₂ tree_cmp (tree_of-is_Map _ c.in-Map-Map.field-0-0 c.in-Map-Map.field-1-0 c.in-Map-Map.a c.in-Map-Map.is-0) (tree_of-is_Map _ c.in-Map-Map.field-0-1 c.in-Map-Map.field-1-1 c.in-Map-Map.b c.in-Map-Map.is-1))

pub Value::compare-returns-in-Set-Set : goal.Value::compare-returns-in-Set-Set
Value::compare-returns-in-Set-Set t c = c.compare-in-Set-Set.ensures ∙ sym (ap₂ tree_cmp (tree_of-is_Set _ c.in-Set-Set.field-0-0 c.in-Set-Set.a c.in-Set-Set.is-0) (tree_of-is_Set _ c.in-Set-Set.field-0-1 c.in-Set-Set.b c.in-Set-Set.is-1))

pub Value::compare-returns-in-List-List : goal.Value::compare-returns-in-List-List
Value::compare-returns-in-List-List t c = c.compare-in-List-List.ensures ∙ sym (ap₂ tree_cmp (tree_of-is_List _ c.in-List-List.field-0-0 c.in-List-List.a c.in-List-List.is-0) (tree_of-is_List _ c.in-List-List.field-0-1 c.in-List-List.b c.in-List-List.is-1))

-- two values of different kinds

pub Value::compare-returns-in_default : goal.Value::compare-returns-in_default
Value::compare-returns-in_default t c =
    c.cmp-in_default.ensures ∙ ranked c.tag.result c.tag-in_default.result ∙ ap₂ (λ s o. nat_cmp (rank s) (rank o)) c.tag.ensures c.tag-in_default.ensures
    ∙ sym (elim c.in_default.branch [
      | Value::compare-in_default-via-in-Bool+in_default w ↦ apart _ _ _ (ap tree_of w.in_default.is-0 ∙ tree_of-Bool _) (λ k. w.in_default.not-Bool-1 k.0 k.1)
      | Value::compare-in_default-via-in-I8+in_default w ↦ apart _ _ _ (ap tree_of w.in_default.is-0 ∙ tree_of-I8 _) (λ k. w.in_default.not-I8-1 k.0 k.1)
      | Value::compare-in_default-via-in-I16+in_default w ↦ apart _ _ _ (ap tree_of w.in_default.is-0 ∙ tree_of-I16 _) (λ k. w.in_default.not-I16-1 k.0 k.1)
      | Value::compare-in_default-via-in-I32+in_default w ↦ apart _ _ _ (ap tree_of w.in_default.is-0 ∙ tree_of-I32 _) (λ k. w.in_default.not-I32-1 k.0 k.1)
      | Value::compare-in_default-via-in-I64+in_default w ↦ apart _ _ _ (ap tree_of w.in_default.is-0 ∙ tree_of-I64 _) (λ k. w.in_default.not-I64-1 k.0 k.1)
      | Value::compare-in_default-via-in-Double+in_default w ↦ apart _ _ _ (ap tree_of w.in_default.is-0 ∙ tree_of-Double _) (λ k. w.in_default.not-Double-1 k.0 k.1)
      | Value::compare-in_default-via-in-Bytes+in_default w ↦ apart _ _ _ (ap tree_of w.in_default.is-0 ∙ tree_of-Bytes _) (λ k. w.in_default.not-Bytes-1 k.0 k.1)
      | Value::compare-in_default-via-in-Struct+in_default w ↦ apart _ _ _ (ap tree_of w.in_default.is-0 ∙ tree_of-Struct _) (λ k. w.in_default.not-Struct-1 k.0 k.1)
      | Value::compare-in_default-via-in-Map+in_default w ↦ apart _ _ _ (ap tree_of w.in_default.is-0 ∙ tree_of-Map _ _ _) (λ k. w.in_default.not-Map-1 k.0 k.1.0 k.1.1.0 k.1.1.1)
      | Value::compare-in_default-via-in-Set+in_default w ↦ apart _ _ _ (ap tree_of w.in_default.is-0 ∙ tree_of-Set _ _) (λ k. w.in_default.not-Set-1 k.0 k.1.0 k.1.1)
      | Value::compare-in_default-via-in-List+in_default w ↦ apart _ _ _ (ap tree_of w.in_default.is-0 ∙ tree_of-List _ _) (λ k. w.in_default.not-List-1 k.0 k.1.0 k.1.1)
      | Value::compare-in_default-via-in-Uuid+in_default w ↦ apart _ _ _ (ap tree_of w.in_default.is-0 ∙ tree_of-Uuid _) (λ k. w.in_default.not-Uuid-1 k.0 k.1)
    ])
