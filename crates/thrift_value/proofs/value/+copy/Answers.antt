use Rattle.std.proofs.Common.{◌≡◌, ◌∙◌, ◌++◌, ◌∷◌, [], ℤ, false, true, MatchResult, FitsSigned, map, ap, sym, take_all, rules}
use Rattle.std.specs.Int.{w8, w16, w32, w64}
use Rattle.std.proofs.lemmas.Int.{to_z-of_z}
use Rattle.thrift_value.specs.declared.value.Value as value
use Rattle.thrift_value.specs.declared.value.Value.{Value}
use Rattle.thrift_value.specs.Tree.{of_bytes, of_struct, of_map, of_set, of_list}
use Rattle.thrift_value.specs.TreeOf.{tree_of, field_tree, pair_tree, field_trees, item_trees, pair_trees}
use Rattle.thrift_value.proofs.Trees.{tree_of-Bytes, tree_of-Struct, tree_of-Map, tree_of-Set, tree_of-List, tree_of-is_Struct, tree_of-is_Map, tree_of-is_Set, tree_of-is_List}
use Rattle.thrift_value.proofs.Walks.{copied, none_made}
use Rattle.thrift_value.proofs.value.+copy.Goals as goal

pub Fields::try_clone-loop-id-preserved : goal.Fields::try_clone-loop-id-preserved
Fields::try_clone-loop-id-preserved t c =
    let f : ℤ × Value = c.loop-id-item.result in
    let put : MatchResult c.try_clone.result (λ y. c.put_beside.new.copies.items ≡ c.loop-id.copies.items ++ (f.0, y) ∷ []) (λ _. false ≡ true) = search (rules, c.in_ok-put_beside.ensures) in
    copied field_tree tree_of (λ y. (f.0, y)) f.1 c.deref-id-items.result.now c.loop-id.id-index f c.loop-id.copies.items c.put_beside.new.copies.items c.try_clone.result
    c.loop-id-test.true c.loop-id-item.is (λ y e. λ k. (f.0, e k)) c.try_clone.ensures put c.loop-id.invariant

pub Items::try_clone-loop-value-preserved : goal.Items::try_clone-loop-value-preserved
Items::try_clone-loop-value-preserved t c =
    copied tree_of tree_of (λ y. y) c.value-item.result c.deref-value-items.result.now c.loop-value.value-index c.value-item.result c.loop-value.copies.items c.put.new.copies.items c.try_clone.result
    c.loop-value-test.true c.value-item.is (λ y e. e) c.try_clone.ensures c.in_ok-put.ensures c.loop-value.invariant

pub Pairs::try_clone-loop-key-preserved : goal.Pairs::try_clone-loop-key-preserved
Pairs::try_clone-loop-key-preserved t c =
    let p : Value × Value = c.loop-key-item.result in
    copied pair_tree tree_of (λ y. (c.in_ok-key.key, y)) p.1 c.deref-key-items.result.now c.loop-key.key-index p c.loop-key.copies.items c.put_beside.new.copies.items c.try_clone-in-loop-key.result
    c.loop-key-test.true c.loop-key-item.is (λ y e. λ k. (c.in_ok-key.ensures k, e k)) c.try_clone-in-loop-key.ensures c.in_ok-put_beside.ensures c.loop-key.invariant

-- what was copied to the end

pub Fields::try_clone-returns : goal.Fields::try_clone-returns
Fields::try_clone-returns t c =
    ap (λ xs. field_trees (map field_tree xs)) c.new.ensures
    ∙ ap field_trees (c.loop-id.invariant ∙ ap (map field_tree) (take_all c.loop-id.id-index c.deref-id-items.result.now c.loop-id-test.false ∙ c.deref-id-items.ensures.value))

pub Items::try_clone-returns : goal.Items::try_clone-returns
Items::try_clone-returns t c =
    ap (λ xs. item_trees (map tree_of xs)) c.new.ensures
    ∙ ap item_trees (c.loop-value.invariant ∙ ap (map tree_of) (take_all c.loop-value.value-index c.deref-value-items.result.now c.loop-value-test.false ∙ c.deref-value-items.ensures.value))

pub Pairs::try_clone-returns : goal.Pairs::try_clone-returns
Pairs::try_clone-returns t c =
    ap (λ xs. pair_trees (map pair_tree xs)) c.new.ensures
    ∙ ap pair_trees (c.loop-key.invariant ∙ ap (map pair_tree) (take_all c.loop-key.key-index c.deref-key-items.result.now c.loop-key-test.false ∙ c.deref-key-items.ensures.value))

-- a copy of each kind

pub Value::try_clone-returns-in-Bool : goal.Value::try_clone-returns-in-Bool
Value::try_clone-returns-in-Bool t c = ap tree_of (sym c.in-Bool.is)

pub Value::try_clone-returns-in-I8 : goal.Value::try_clone-returns-in-I8
Value::try_clone-returns-in-I8 t c =
    let fits : FitsSigned w8 c.in-I8.n = search rules in
    ap (λ n. tree_of (value.I8 n)) (to_z-of_z w8 c.in-I8.n fits) ∙ ap tree_of (sym c.in-I8.is)

pub Value::try_clone-returns-in-I16 : goal.Value::try_clone-returns-in-I16
Value::try_clone-returns-in-I16 t c =
    let fits : FitsSigned w16 c.in-I16.n = search rules in
    ap (λ n. tree_of (value.I16 n)) (to_z-of_z w16 c.in-I16.n fits) ∙ ap tree_of (sym c.in-I16.is)

pub Value::try_clone-returns-in-I32 : goal.Value::try_clone-returns-in-I32
Value::try_clone-returns-in-I32 t c =
    let fits : FitsSigned w32 c.in-I32.n = search rules in
    ap (λ n. tree_of (value.I32 n)) (to_z-of_z w32 c.in-I32.n fits) ∙ ap tree_of (sym c.in-I32.is)

pub Value::try_clone-returns-in-I64 : goal.Value::try_clone-returns-in-I64
Value::try_clone-returns-in-I64 t c =
    let fits : FitsSigned w64 c.in-I64.n = search rules in
    ap (λ n. tree_of (value.I64 n)) (to_z-of_z w64 c.in-I64.n fits) ∙ ap tree_of (sym c.in-I64.is)

pub Value::try_clone-returns-in-Double : goal.Value::try_clone-returns-in-Double
Value::try_clone-returns-in-Double t c = ap tree_of (sym c.in-Double.is)

pub Value::try_clone-returns-in-Uuid : goal.Value::try_clone-returns-in-Uuid
Value::try_clone-returns-in-Uuid t c = ap (λ n. tree_of (value.Uuid n)) (c.new.ensures ∙ c.number.ensures) ∙ ap tree_of (sym c.in-Uuid.is)

pub Value::try_clone-returns-in_ok-try_clone-in-Bytes : goal.Value::try_clone-returns-in_ok-try_clone-in-Bytes
Value::try_clone-returns-in_ok-try_clone-in-Bytes t c =
    tree_of-Bytes _ ∙ ap of_bytes c.in_ok-try_clone-in-Bytes.ensures ∙ sym (ap tree_of c.in-Bytes.is ∙ tree_of-Bytes c.in-Bytes.text)

pub Value::try_clone-returns-in_ok-try_clone-in-Struct : goal.Value::try_clone-returns-in_ok-try_clone-in-Struct
Value::try_clone-returns-in_ok-try_clone-in-Struct t c = tree_of-Struct _ ∙ ap of_struct c.in_ok-try_clone-in-Struct.ensures ∙ sym (tree_of-is_Struct _ c.in-Struct.fields c.in-Struct.is)

pub Value::try_clone-returns-in_ok-try_clone-in-Map : goal.Value::try_clone-returns-in_ok-try_clone-in-Map
Value::try_clone-returns-in_ok-try_clone-in-Map t c = tree_of-Map _ _ _ ∙ ap (of_map c.in-Map.key c.in-Map.value) c.in_ok-try_clone-in-Map.ensures ∙ sym (tree_of-is_Map _ c.in-Map.key c.in-Map.value c.in-Map.pairs c.in-Map.is)

pub Value::try_clone-returns-in_ok-try_clone-in-Set : goal.Value::try_clone-returns-in_ok-try_clone-in-Set
Value::try_clone-returns-in_ok-try_clone-in-Set t c = tree_of-Set _ _ ∙ ap (of_set c.in-Set.element) c.in_ok-try_clone-in-Set.ensures ∙ sym (tree_of-is_Set _ c.in-Set.element c.in-Set.items c.in-Set.is)

pub Value::try_clone-returns-in_ok-try_clone-in-List : goal.Value::try_clone-returns-in_ok-try_clone-in-List
Value::try_clone-returns-in_ok-try_clone-in-List t c = tree_of-List _ _ ∙ ap (of_list c.in-List.element) c.in_ok-try_clone-in-List.ensures ∙ sym (tree_of-is_List _ c.in-List.element c.in-List.items c.in-List.is)

-- where there is no memory

pub Fields::try_clone-returns-in_err-copies : goal.Fields::try_clone-returns-in_err-copies
Fields::try_clone-returns-in_err-copies t c = none_made _ _ c.from_residual.ensures.0

pub Fields::try_clone-returns-in_err-put_beside : goal.Fields::try_clone-returns-in_err-put_beside
Fields::try_clone-returns-in_err-put_beside t c = none_made _ _ c.from_residual-in_err-put_beside.ensures.0

pub Items::try_clone-returns-in_err-copies : goal.Items::try_clone-returns-in_err-copies
Items::try_clone-returns-in_err-copies t c = none_made _ _ c.from_residual.ensures.0

pub Items::try_clone-returns-in_err-put : goal.Items::try_clone-returns-in_err-put
Items::try_clone-returns-in_err-put t c = none_made _ _ c.from_residual-in_err-put.ensures.0

pub Pairs::try_clone-returns-in_err-copies : goal.Pairs::try_clone-returns-in_err-copies
Pairs::try_clone-returns-in_err-copies t c = none_made _ _ c.from_residual.ensures.0

pub Pairs::try_clone-returns-in_err-key : goal.Pairs::try_clone-returns-in_err-key
Pairs::try_clone-returns-in_err-key t c = none_made _ _ c.from_residual-in_err-key.ensures.0

pub Pairs::try_clone-returns-in_err-put_beside : goal.Pairs::try_clone-returns-in_err-put_beside
Pairs::try_clone-returns-in_err-put_beside t c = none_made _ _ c.from_residual-in_err-put_beside.ensures.0

pub Value::try_clone-returns-in_err-try_clone-in-Bytes : goal.Value::try_clone-returns-in_err-try_clone-in-Bytes
Value::try_clone-returns-in_err-try_clone-in-Bytes t c = none_made _ _ c.from_residual.ensures.0

pub Value::try_clone-returns-in_err-try_clone-in-Struct : goal.Value::try_clone-returns-in_err-try_clone-in-Struct
Value::try_clone-returns-in_err-try_clone-in-Struct t c = none_made _ _ c.from_residual-in_err-try_clone-in-Struct.ensures.0

pub Value::try_clone-returns-in_err-try_clone-in-Map : goal.Value::try_clone-returns-in_err-try_clone-in-Map
Value::try_clone-returns-in_err-try_clone-in-Map t c = none_made _ _ c.from_residual-in_err-try_clone-in-Map.ensures.0

pub Value::try_clone-returns-in_err-try_clone-in-Set : goal.Value::try_clone-returns-in_err-try_clone-in-Set
Value::try_clone-returns-in_err-try_clone-in-Set t c = none_made _ _ c.from_residual-in_err-try_clone-in-Set.ensures.0

pub Value::try_clone-returns-in_err-try_clone-in-List : goal.Value::try_clone-returns-in_err-try_clone-in-List
Value::try_clone-returns-in_err-try_clone-in-List t c = none_made _ _ c.from_residual-in_err-try_clone-in-List.ensures.0
