-- What a service keeps from one call to the next: the pairs of a map.
use Rattle.std.specs.Prelude.{◌≡◌, ℕ, List, [], ◌∷◌, map, Option, None, Some, if◌then◌else◌, refl}
use Rattle.std.specs.Ordering.{is_eq, match_ordering}
use Rattle.thrift_value.specs.declared.tag.Tag.{Tag}
use Rattle.thrift_value.specs.declared.tag.Tag.TheVariants.{Bytes}
use Rattle.thrift_value.specs.Tree.{Tree, of_bytes, of_map, ItemTrees, no_items, item, PairTrees, no_pairs, pair}
use Rattle.thrift_value.specs.Order.{tree_cmp}
use Rattle.thrift_value.specs.Tags.{tag_of}
use Rattle.thrift_value.specs.Tidy.{IsWellTagged, AreWellTaggedPairs}
use Rattle.thrift_value.specs.TreeOf.{pair_trees}

-- the pairs of a map; what is no map has none
abbrev pub pairs_in : Tree → PairTrees
pairs_in (of_map _ _ pairs) = pairs
pairs_in _ = no_pairs

-- a memory of texts, whose keys have this tag
abbrev pub texts_by : Tag → PairTrees → Tree
texts_by key pairs = of_map key Bytes pairs

-- the memory is one of texts
abbrev pub AreTextsBy : Tag → Tree → Type 0
AreTextsBy key (of_map k v pairs) = (k ≡ key) × (v ≡ Bytes) × AreWellTaggedPairs key Bytes pairs
AreTextsBy key _ = ⊥

-- the value at a key
abbrev pub value_at_key : Tree → PairTrees → Option Tree
value_at_key key no_pairs = None
value_at_key key (pair k value more) = if is_eq (tree_cmp key k) then Some value else value_at_key key more

-- the pairs with this value at the key: in the place of an equal key, or where the key belongs in the order
abbrev pub pairs_with : Tree → Tree → PairTrees → PairTrees
pairs_with key value no_pairs = pair key value no_pairs
pairs_with key value (pair k v more) =
    match_ordering (tree_cmp key k) (pair key value (pair k v more)) (pair k value more) (pair k v (pairs_with key value more))

-- the pairs without the one at the key
abbrev pub pairs_without : Tree → PairTrees → PairTrees
pairs_without key no_pairs = no_pairs
pairs_without key (pair k v more) = if is_eq (tree_cmp key k) then more else pair k v (pairs_without key more)

-- the keys, in order
abbrev pub map_keys_of : PairTrees → ItemTrees
map_keys_of no_pairs = no_items
map_keys_of (pair key _ more) = item key (map_keys_of more)

-- a text by its key, as a pair of a memory, where keys and texts are kept in any form
abbrev pub text_pair : {K X : Type 0} → (K → Tree) → (X → List ℕ) → K × X → Tree × Tree
text_pair key_tree text_in e = (key_tree e.0, of_bytes (text_in e.1))

-- the memory that keeps these texts
abbrev pub texts_tree : {K X : Type 0} → Tag → (K → Tree) → (X → List ℕ) → List (K × X) → Tree
texts_tree tag key_tree text_in entries = texts_by tag (pair_trees (map (text_pair key_tree text_in) entries))

-- its pairs are well tagged
text_pairs_are : {K X : Type 0} (tag : Tag) (key_tree : K → Tree) (text_in : X → List ℕ) → ((k : K) → tag_of (key_tree k) ≡ tag) → ((k : K) → IsWellTagged (key_tree k))
    → (entries : List (K × X)) → AreWellTaggedPairs tag Bytes (pair_trees (map (text_pair key_tree text_in) entries))
text_pairs_are tag key_tree text_in is tagged [] = tt
text_pairs_are tag key_tree text_in is tagged (e ∷ es) = (is e.0, refl, tagged e.0, tt, text_pairs_are tag key_tree text_in is tagged es)

-- so it is a memory of texts
pub texts_tree_is : {K X : Type 0} (tag : Tag) (key_tree : K → Tree) (text_in : X → List ℕ) → ((k : K) → tag_of (key_tree k) ≡ tag) → ((k : K) → IsWellTagged (key_tree k))
    → (entries : List (K × X)) → AreTextsBy tag (texts_tree tag key_tree text_in entries)
texts_tree_is tag key_tree text_in is tagged entries = (refl, refl, text_pairs_are tag key_tree text_in is tagged entries)
