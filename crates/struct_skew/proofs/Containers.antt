-- Sets and maps in memory, in order.
use Rattle.std.proofs.Common.{◌≡◌, ℕ, ℤ, Bool, false, cond, List, [], ◌∷◌, length, map, Result, Ok, Err, Ordering, Less, Equal, Greater, refl, sym, ap, ap₂, ◌∙◌}
use Rattle.std.specs.Prelude.{not, ◌&&◌, ◌==◌}
use Rattle.std.proofs.lemmas.List.{length-map}
use Rattle.thrift_value.specs.declared.tag.Tag.{Tag}
use Rattle.thrift_value.specs.declared.value.Fields.{Fields}
use Rattle.thrift_value.specs.declared.value.Value as value
use Rattle.thrift_value.specs.declared.value.Value.{Value}
use Rattle.thrift_value.specs.declared.value.Items.{Items}
use Rattle.thrift_value.specs.declared.value.Pairs.{Pairs}
use Rattle.thrift_value.specs.Order.{tree_cmp}
use Rattle.thrift_value.specs.Tree.{Tree, of_struct, of_set, of_map}
use Rattle.thrift_value.specs.TreeOf.{tree_of, field_tree, pair_tree, field_trees, item_trees, pair_trees, fields_of, items_of, pairs_of}
use Rattle.thrift_value.proofs.Trees.{tree_of-Struct, tree_of-Set, tree_of-Map}
use Rattle.schema.specs.PlainKind.{PlainKind}
use Rattle.schema.specs.declared.types.FieldsKind.{FieldsKind}
use Rattle.struct_skew.specs.declared.fault.SkewFault.TheVariants.{UnionFields}
use Rattle.struct_skew.specs.Unions.{one_of_union}
use Rattle.struct_skew.specs.declared.fault.SkewFault.{SkewFault}
use Rattle.known_parts.specs.Parts.{tag_of_kind}
use Rattle.struct_skew.specs.Latest.{by_order, with_earlier, latest_of_each}
use Rattle.struct_skew.specs.Orders.{value_cmp, pair_cmp}
use Rattle.struct_skew.specs.Projection.{is_union, key_cmp, map_meaning, set_meaning}
use Rattle.struct_skew.specs.Results.{with_value, and_if_ok}

module _ {A B : Type 0} (cmp : B → B → Ordering) (f : A → B) where
  abbrev seen : A → A → Ordering
  seen x y = cmp (f x) (f y)

  map-by_order : (o : Ordering) (a b c : List A) → map f (by_order o a b c) ≡ by_order o (map f a) (map f b) (map f c)
  map-by_order Less a b c = refl
  map-by_order Equal a b c = refl
  map-by_order Greater a b c = refl

  map-earlier : (x : A) (ys : List A) → map f (with_earlier seen x ys) ≡ with_earlier cmp (f x) (map f ys)
  map-earlier x [] = refl
  map-earlier x (y ∷ ys) =
      map-by_order (cmp (f x) (f y)) (x ∷ (y ∷ ys)) (y ∷ ys) (y ∷ with_earlier seen x ys)
      ∙ ap (λ zs. by_order (cmp (f x) (f y)) (f x ∷ (f y ∷ map f ys)) (f y ∷ map f ys) (f y ∷ zs)) (map-earlier x ys)

  -- items by what they are seen as
  pub map-latest : (xs : List A) → map f (latest_of_each seen xs) ≡ latest_of_each cmp (map f xs)
  map-latest [] = refl
  map-latest (x ∷ xs) = map-earlier x (latest_of_each seen xs) ∙ ap (with_earlier cmp (f x)) (map-latest xs)

-- a set that was made of members in order
pub set_meant : (kind : PlainKind) (made all : List Value) (t : Tag) (items : Items) (meant : Result (List Tree) SkewFault) → meant ≡ Ok (map tree_of made)
    → all ≡ latest_of_each value_cmp made → items_of items ≡ all → t ≡ tag_of_kind kind → with_value (set_meaning kind) meant ≡ Ok (tree_of (value.Set t items))
set_meant kind made all t items meant means ordered put tagged =
    let inner : map tree_of (items_of items) ≡ latest_of_each tree_cmp (map tree_of made) = ap (map tree_of) (put ∙ ordered) ∙ map-latest tree_cmp tree_of made in
    ap (with_value (set_meaning kind)) means
    ∙ sym (ap Ok (tree_of-Set t items ∙ ap₂ (λ u xs. of_set u (item_trees xs)) tagged inner))

-- a map that was made of pairs in order
pub map_meant : (key_kind value_kind : PlainKind) (made all : List (Value × Value)) (k v : Tag) (pairs : Pairs) (meant : Result (List (Tree × Tree)) SkewFault)
    → meant ≡ Ok (map pair_tree made) → all ≡ latest_of_each pair_cmp made → pairs_of pairs ≡ all → k ≡ tag_of_kind key_kind → v ≡ tag_of_kind value_kind
    → with_value (map_meaning key_kind value_kind) meant ≡ Ok (tree_of (value.Map k v pairs))
map_meant key_kind value_kind made all k v pairs meant means ordered put key_tag value_tag =
    let inner : map pair_tree (pairs_of pairs) ≡ latest_of_each key_cmp (map pair_tree made) = ap (map pair_tree) (put ∙ ordered) ∙ map-latest key_cmp pair_tree made in
    ap (with_value (map_meaning key_kind value_kind)) means
    ∙ sym (ap Ok (tree_of-Map k v pairs ∙ (λ i. of_map (key_tag i) (value_tag i) (pair_trees (inner i)))))

-- a struct of as many fields as it may have
pub struct_meant : (which : ℕ) (kind : FieldsKind) (made : List (ℤ × Value)) (n : ℕ) (wrong : Bool) (fields : Fields) (meant : Result (List (ℤ × Tree)) SkewFault) → meant ≡ Ok (map field_tree made)
    → n ≡ length made → wrong ≡ (is_union kind && not (n == 1)) → wrong ≡ false → fields_of fields ≡ made → and_if_ok meant (one_of_union which kind) ≡ Ok (tree_of (value.Struct fields))
struct_meant which kind made n wrong fields meant means count test right put =
    let size : length (map field_tree made) ≡ n = length-map made field_tree ∙ sym count in
    ap (λ r. and_if_ok r (one_of_union which kind)) means
    ∙ ap (λ m. cond (is_union kind && not (m == 1)) (Err (UnionFields which)) (Ok (of_struct (field_trees (map field_tree made))))) size
    ∙ ap (λ b. cond b (Err (UnionFields which)) (Ok (of_struct (field_trees (map field_tree made))))) (sym test ∙ right)
    ∙ sym (ap Ok (tree_of-Struct fields ∙ ap (λ fs. of_struct (field_trees (map field_tree fs))) put))
