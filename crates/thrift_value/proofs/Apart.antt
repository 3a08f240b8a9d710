-- Values of different kinds are ordered by their tags.
use Rattle.std.proofs.Common.{◌≡◌, ℕ, ℤ, Bool, List, refl, sym, ap, ◌∙◌, subst}
use Rattle.std.specs.Ordering.{nat_cmp}
use Rattle.thrift_value.specs.declared.tag.Tag.{Tag}
use Rattle.thrift_value.specs.declared.tag.Tag.TheVariants as tags
use Rattle.thrift_value.specs.declared.value.Value as value
use Rattle.thrift_value.specs.declared.value.Value.{Value, Value-F, roll-Value, out-Value, roll-out-Value}
use Rattle.thrift_value.specs.declared.value.Value.TheOpen as layer
use Rattle.thrift_value.specs.declared.value.Value.TheViews.{rolls-Bool, rolls-I8, rolls-I16, rolls-I32, rolls-I64, rolls-Double, rolls-Bytes, rolls-Struct, rolls-Map, rolls-Set, rolls-List, rolls-Uuid}
use Rattle.thrift_value.specs.declared.value.Fields.{Fields}
use Rattle.thrift_value.specs.declared.value.Items.{Items}
use Rattle.thrift_value.specs.declared.value.Pairs.{Pairs}
use Rattle.thrift_value.specs.contracts.tag.TagOrd.TheImpl.{ghosts}
use Rattle.thrift_value.specs.Order.{tree_cmp}
use Rattle.thrift_value.specs.Tags.{tag_of, rank}
use Rattle.thrift_value.specs.Tree.{Tree, of_bool, of_i8, of_i16, of_i32, of_i64, of_double, of_bytes, of_struct, of_map, of_set, of_list, of_uuid}
use Rattle.thrift_value.specs.TreeOf.{tree_of}
use Rattle.thrift_value.proofs.Trees.{tree_of-Bool, tree_of-I8, tree_of-I16, tree_of-I32, tree_of-I64, tree_of-Double, tree_of-Uuid, tree_of-Bytes, tree_of-Struct, tree_of-Map, tree_of-Set, tree_of-List}

-- a value is of this kind
abbrev pub IsOf : Tag → Value → Type 0
IsOf tags.Bool v = (b : Bool) × (v ≡ value.Bool b)
IsOf tags.I8 v = (n : ℤ) × (v ≡ value.I8 n)
IsOf tags.I16 v = (n : ℤ) × (v ≡ value.I16 n)
IsOf tags.I32 v = (n : ℤ) × (v ≡ value.I32 n)
IsOf tags.I64 v = (n : ℤ) × (v ≡ value.I64 n)
IsOf tags.Double v = (n : ℕ) × (v ≡ value.Double n)
IsOf tags.Bytes v = (text : List ℕ) × (v ≡ value.Bytes text)
IsOf tags.Struct v = (fields : Fields) × (v ≡ value.Struct fields)
IsOf tags.Map v = (k : Tag) × ((w : Tag) × ((pairs : Pairs) × (v ≡ value.Map k w pairs)))
IsOf tags.Set v = (t : Tag) × ((items : Items) × (v ≡ value.Set t items))
IsOf tags.List v = (t : Tag) × ((items : Items) × (v ≡ value.List t items))
IsOf tags.Uuid v = (n : ℕ) × (v ≡ value.Uuid n)

-- each value is of the kind that its tag says
is_of : (v : Value) (x : Tree) → tree_of v ≡ x → IsOf (tag_of x) v → IsOf (tag_of (tree_of v)) v
is_of v x is h = subst (λ y. IsOf (tag_of y) v) (sym is) h

layer_is : (x : Value-F Value Fields Items Pairs) → IsOf (tag_of (tree_of (roll-Value x))) (roll-Value x)
layer_is (layer.Bool b) = subst (λ y. IsOf (tag_of (tree_of y)) y) (sym (rolls-Bool b)) (is_of _ _ (tree_of-Bool b) (b, refl))
layer_is (layer.I8 n) = subst (λ y. IsOf (tag_of (tree_of y)) y) (sym (rolls-I8 n)) (is_of _ _ (tree_of-I8 n) (n, refl))
layer_is (layer.I16 n) = subst (λ y. IsOf (tag_of (tree_of y)) y) (sym (rolls-I16 n)) (is_of _ _ (tree_of-I16 n) (n, refl))
layer_is (layer.I32 n) = subst (λ y. IsOf (tag_of (tree_of y)) y) (sym (rolls-I32 n)) (is_of _ _ (tree_of-I32 n) (n, refl))
layer_is (layer.I64 n) = subst (λ y. IsOf (tag_of (tree_of y)) y) (sym (rolls-I64 n)) (is_of _ _ (tree_of-I64 n) (n, refl))
layer_is (layer.Double n) = subst (λ y. IsOf (tag_of (tree_of y)) y) (sym (rolls-Double n)) (is_of _ _ (tree_of-Double n) (n, refl))
layer_is (layer.Bytes text) = subst (λ y. IsOf (tag_of (tree_of y)) y) (sym (rolls-Bytes text)) (is_of _ _ (tree_of-Bytes text) (text, refl))
layer_is (layer.Struct fields) = subst (λ y. IsOf (tag_of (tree_of y)) y) (sym (rolls-Struct fields)) (is_of _ _ (tree_of-Struct fields) (fields, refl))
layer_is (layer.Map k w pairs) = subst (λ y. IsOf (tag_of (tree_of y)) y) (sym (rolls-Map k w pairs)) (is_of _ _ (tree_of-Map k w pairs) (k, (w, (pairs, refl))))
layer_is (layer.Set t items) = subst (λ y. IsOf (tag_of (tree_of y)) y) (sym (rolls-Set t items)) (is_of _ _ (tree_of-Set t items) (t, (items, refl)))
layer_is (layer.List t items) = subst (λ y. IsOf (tag_of (tree_of y)) y) (sym (rolls-List t items)) (is_of _ _ (tree_of-List t items) (t, (items, refl)))
layer_is (layer.Uuid n) = subst (λ y. IsOf (tag_of (tree_of y)) y) (sym (rolls-Uuid n)) (is_of _ _ (tree_of-Uuid n) (n, refl))

kind_is : (v : Value) → IsOf (tag_of (tree_of v)) v
kind_is v = subst (λ y. IsOf (tag_of (tree_of y)) y) (roll-out-Value v) (layer_is (out-Value v))

-- the order of tags is that of their ranks
abbrev each : (P : Tag → Type 0) → Type 0
each P = P tags.Bool × P tags.I8 × P tags.I16 × P tags.I32 × P tags.I64 × P tags.Double × P tags.Bytes × P tags.Struct × P tags.Map × P tags.Set × P tags.List × P tags.Uuid

each_tag : (P : Tag → Type 0) → each P → (t : Tag) → P t
each_tag P h tags.Bool = h.0
each_tag P h tags.I8 = h.1
each_tag P h tags.I16 = h.2
each_tag P h tags.I32 = h.3
each_tag P h tags.I64 = h.4
each_tag P h tags.Double = h.5
each_tag P h tags.Bytes = h.6
each_tag P h tags.Struct = h.7
each_tag P h tags.Map = h.8
each_tag P h tags.Set = h.9
each_tag P h tags.List = h.10
each_tag P h tags.Uuid = h.11

pub ranked : (s t : Tag) → ghosts.cmp s t ≡ nat_cmp (rank s) (rank t)
ranked tags.Bool t = each_tag (λ t. ghosts.cmp tags.Bool t ≡ nat_cmp (rank tags.Bool) (rank t)) (refl, refl, refl, refl, refl, refl, refl, refl, refl, refl, refl, refl) t
ranked tags.I8 t = each_tag (λ t. ghosts.cmp tags.I8 t ≡ nat_cmp (rank tags.I8) (rank t)) (refl, refl, refl, refl, refl, refl, refl, refl, refl, refl, refl, refl) t
ranked tags.I16 t = each_tag (λ t. ghosts.cmp tags.I16 t ≡ nat_cmp (rank tags.I16) (rank t)) (refl, refl, refl, refl, refl, refl, refl, refl, refl, refl, refl, refl) t
ranked tags.I32 t = each_tag (λ t. ghosts.cmp tags.I32 t ≡ nat_cmp (rank tags.I32) (rank t)) (refl, refl, refl, refl, refl, refl, refl, refl, refl, refl, refl, refl) t
ranked tags.I64 t = each_tag (λ t. ghosts.cmp tags.I64 t ≡ nat_cmp (rank tags.I64) (rank t)) (refl, refl, refl, refl, refl, refl, refl, refl, refl, refl, refl, refl) t
ranked tags.Double t = each_tag (λ t. ghosts.cmp tags.Double t ≡ nat_cmp (rank tags.Double) (rank t)) (refl, refl, refl, refl, refl, refl, refl, refl, refl, refl, refl, refl) t
ranked tags.Bytes t = each_tag (λ t. ghosts.cmp tags.Bytes t ≡ nat_cmp (rank tags.Bytes) (rank t)) (refl, refl, refl, refl, refl, refl, refl, refl, refl, refl, refl, refl) t
ranked tags.Struct t = each_tag (λ t. ghosts.cmp tags.Struct t ≡ nat_cmp (rank tags.Struct) (rank t)) (refl, refl, refl, refl, refl, refl, refl, refl, refl, refl, refl, refl) t
ranked tags.Map t = each_tag (λ t. ghosts.cmp tags.Map t ≡ nat_cmp (rank tags.Map) (rank t)) (refl, refl, refl, refl, refl, refl, refl, refl, refl, refl, refl, refl) t
ranked tags.Set t = each_tag (λ t. ghosts.cmp tags.Set t ≡ nat_cmp (rank tags.Set) (rank t)) (refl, refl, refl, refl, refl, refl, refl, refl, refl, refl, refl, refl) t
ranked tags.List t = each_tag (λ t. ghosts.cmp tags.List t ≡ nat_cmp (rank tags.List) (rank t)) (refl, refl, refl, refl, refl, refl, refl, refl, refl, refl, refl, refl) t
ranked tags.Uuid t = each_tag (λ t. ghosts.cmp tags.Uuid t ≡ nat_cmp (rank tags.Uuid) (rank t)) (refl, refl, refl, refl, refl, refl, refl, refl, refl, refl, refl, refl) t

-- trees of different tags
trees_apart : (x y : Tree) → (tag_of y ≡ tag_of x → ⊥) → tree_cmp x y ≡ nat_cmp (rank (tag_of x)) (rank (tag_of y))
trees_apart (of_bool _) (of_bool _) differ = absurd (differ refl)
trees_apart (of_i8 _) (of_i8 _) differ = absurd (differ refl)
trees_apart (of_i16 _) (of_i16 _) differ = absurd (differ refl)
trees_apart (of_i32 _) (of_i32 _) differ = absurd (differ refl)
trees_apart (of_i64 _) (of_i64 _) differ = absurd (differ refl)
trees_apart (of_double _) (of_double _) differ = absurd (differ refl)
trees_apart (of_bytes _) (of_bytes _) differ = absurd (differ refl)
trees_apart (of_struct _) (of_struct _) differ = absurd (differ refl)
trees_apart (of_map _ _ _) (of_map _ _ _) differ = absurd (differ refl)
trees_apart (of_set _ _) (of_set _ _) differ = absurd (differ refl)
trees_apart (of_list _ _) (of_list _ _) differ = absurd (differ refl)
trees_apart (of_uuid _) (of_uuid _) differ = absurd (differ refl)
trees_apart x y differ = refl

-- the other value isn't of this one's kind
pub apart : (v w : Value) (x : Tree) → tree_of v ≡ x → (IsOf (tag_of x) w → ⊥)
    → tree_cmp (tree_of v) (tree_of w) ≡ nat_cmp (rank (tag_of (tree_of v))) (rank (tag_of (tree_of w)))
apart v w x is other = trees_apart (tree_of v) (tree_of w) (λ same. other (subst (λ t. IsOf t w) (same ∙ ap tag_of is) (kind_is w)))
