-- What holds of a value and its plain form.
use Rattle.std.specs.Prelude.{◌↔◌}
use Rattle.std.proofs.Common.{◌≡◌, ℕ, ℤ, ◌<◌, ◌<ℤ◌, Bool, true, false, true≢false, List, [], ◌∷◌, Ordering, Less, Equal, Greater, nat_cmp, refl, sym, ap, ◌∙◌, subst}
use Rattle.std.specs.Ordering.{ordering_then, int_cmp, bool_cmp, is_eq, MatchOrdering}
use Rattle.std.specs.Cmp.Lexicographic.{slice_cmp}
use Rattle.std.proofs.lemmas.Cmp.{ranked, int_ranked, tied_itself}
use Rattle.thrift_value.specs.declared.tag.Tag.{Tag}
use Rattle.thrift_value.specs.Tree.{Tree, of_bool, of_i8, of_i16, of_i32, of_i64, of_double, of_bytes, of_struct, of_map, of_set, of_list, of_uuid, FieldTrees, no_fields, field, ItemTrees, no_items, item, PairTrees, no_pairs, pair}
use Rattle.thrift_value.specs.Tags.{tag_of}
use Rattle.thrift_value.specs.Order.{tree_cmp, fields_cmp, items_cmp, pairs_cmp}
use Rattle.thrift_value.specs.Tidy.{IsWellTagged, AreWellTaggedFields, AreWellTaggedItems, AreWellTaggedPairs}
use Rattle.thrift_value.specs.Plain.{plain, plain_fields, plain_items, plain_pairs}
use Rattle.thrift_value.proofs.TotalOrder.{text, texts_cmp, numbers, field_numbers, item_numbers, pair_numbers, tree_cmp-text, tree_cmp_total}

mutual
  -- element tags don't count in the order
  numbers-plain : (x : Tree) (rest : List ℤ) → numbers (plain x) rest ≡ numbers x rest
  numbers-plain (of_struct fs) rest = rw (field_numbers-plain fs rest) refl
  numbers-plain (of_map _ _ no_pairs) rest = refl
  numbers-plain (of_map _ _ (pair k x xs)) rest = rw (pair_numbers-plain xs rest, numbers-plain x (pair_numbers xs rest), numbers-plain k (numbers x (pair_numbers xs rest))) refl
  numbers-plain (of_set _ no_items) rest = refl
  numbers-plain (of_set _ (item x xs)) rest = rw (item_numbers-plain xs rest, numbers-plain x (item_numbers xs rest)) refl
  numbers-plain (of_list _ no_items) rest = refl
  numbers-plain (of_list _ (item x xs)) rest = rw (item_numbers-plain xs rest, numbers-plain x (item_numbers xs rest)) refl
  numbers-plain x rest = refl

  field_numbers-plain : (fs : FieldTrees) (rest : List ℤ) → field_numbers (plain_fields fs) rest ≡ field_numbers fs rest
  field_numbers-plain no_fields rest = refl
  field_numbers-plain (field id x xs) rest = rw (field_numbers-plain xs rest, numbers-plain x (field_numbers xs rest)) refl

  item_numbers-plain : (xs : ItemTrees) (rest : List ℤ) → item_numbers (plain_items xs) rest ≡ item_numbers xs rest
  item_numbers-plain no_items rest = refl
  item_numbers-plain (item x xs) rest = rw (item_numbers-plain xs rest, numbers-plain x (item_numbers xs rest)) refl

  pair_numbers-plain : (ps : PairTrees) (rest : List ℤ) → pair_numbers (plain_pairs ps) rest ≡ pair_numbers ps rest
  pair_numbers-plain no_pairs rest = refl
  pair_numbers-plain (pair k x xs) rest = rw (pair_numbers-plain xs rest, numbers-plain x (pair_numbers xs rest), numbers-plain k (numbers x (pair_numbers xs rest))) refl

-- a value and its plain form are alike in order
pub tree_cmp-plain : (x y : Tree) → tree_cmp (plain x) y ≡ tree_cmp x y
tree_cmp-plain x y = sym (tree_cmp-text (plain x) y) ∙ ap (λ t. texts_cmp t (text y)) (numbers-plain x []) ∙ tree_cmp-text x y

-- the parts of an order that answers Equal
then_both : (o p : Ordering) → ordering_then o p ≡ Equal → (o ≡ Equal) × (p ≡ Equal)
then_both Less p e = absurd cc
then_both Equal p e = (refl, e)
then_both Greater p e = absurd cc

unequal : (o : Ordering) → is_eq o ≡ false → o ≡ Equal → ⊥
unequal o off e = absurd (true≢false (sym (ap is_eq e) ∙ off))

bool_same : (a b : Bool) → bool_cmp a b ≡ Equal → a ≡ b
bool_same false false e = refl
bool_same false true e = absurd (unequal _ refl e)
bool_same true false e = absurd (unequal _ refl e)
bool_same true true e = refl

int_same : (a b : ℤ) → int_cmp a b ≡ Equal → a ≡ b
int_same a b e = subst (λ o. MatchOrdering o (a <ℤ b) (a ≡ b) (b <ℤ a)) e (int_ranked a b (int_cmp a b) refl)

nat_same : (a b : ℕ) → nat_cmp a b ≡ Equal → a ≡ b
nat_same a b e = subst (λ o. MatchOrdering o (a < b) (a ≡ b) (b < a)) e (ranked a b (nat_cmp a b) refl)

bytes_same : (a b : List ℕ) → slice_cmp nat_cmp a b ≡ Equal → a ≡ b
bytes_same [] [] e = refl
bytes_same [] (y ∷ ys) e = absurd (unequal _ refl e)
bytes_same (x ∷ xs) [] e = absurd (unequal _ refl e)
bytes_same (x ∷ xs) (y ∷ ys) e =
    let both = then_both (nat_cmp x y) (slice_cmp nat_cmp xs ys) e in
    rw (nat_same x y both.0, bytes_same xs ys both.1) refl

-- values that are alike in order have one tag
same_tag : (x y : Tree) → tree_cmp x y ≡ Equal → tag_of x ≡ tag_of y
same_tag (of_bool _) (of_bool _) e = refl
same_tag (of_i8 _) (of_i8 _) e = refl
same_tag (of_i16 _) (of_i16 _) e = refl
same_tag (of_i32 _) (of_i32 _) e = refl
same_tag (of_i64 _) (of_i64 _) e = refl
same_tag (of_double _) (of_double _) e = refl
same_tag (of_bytes _) (of_bytes _) e = refl
same_tag (of_struct _) (of_struct _) e = refl
same_tag (of_map _ _ _) (of_map _ _ _) e = refl
same_tag (of_set _ _) (of_set _ _) e = refl
same_tag (of_list _ _) (of_list _ _) e = refl
same_tag (of_uuid _) (of_uuid _) e = refl
same_tag x y e = absurd (unequal _ refl e)

mutual
  same_plain : (x y : Tree) → IsWellTagged x → IsWellTagged y → tree_cmp x y ≡ Equal → plain x ≡ plain y
  same_plain (of_bool a) (of_bool b) h g e = ap of_bool (bool_same a b e)
  same_plain (of_i8 a) (of_i8 b) h g e = ap of_i8 (int_same a b e)
  same_plain (of_i16 a) (of_i16 b) h g e = ap of_i16 (int_same a b e)
  same_plain (of_i32 a) (of_i32 b) h g e = ap of_i32 (int_same a b e)
  same_plain (of_i64 a) (of_i64 b) h g e = ap of_i64 (int_same a b e)
  same_plain (of_double a) (of_double b) h g e = ap of_double (nat_same a b e)
  same_plain (of_uuid a) (of_uuid b) h g e = ap of_uuid (nat_same a b e)
  same_plain (of_bytes a) (of_bytes b) h g e = ap of_bytes (bytes_same a b e)
  same_plain (of_struct a) (of_struct b) h g e = ap of_struct (same_plain_fields a b h g e)
  same_plain (of_map _ _ no_pairs) (of_map _ _ no_pairs) h g e = refl
  same_plain (of_map k v (pair j x xs)) (of_map l w (pair i y ys)) h g e =
      let keys = then_both (tree_cmp j i) (ordering_then (tree_cmp x y) (pairs_cmp xs ys)) e in
      let values = then_both (tree_cmp x y) (pairs_cmp xs ys) keys.1 in
      let k-is : k ≡ l = sym h.0 ∙ same_tag j i keys.0 ∙ g.0 in
      let v-is : v ≡ w = sym h.1 ∙ same_tag x y values.0 ∙ g.1 in
      let key = same_plain j i h.2 g.2 keys.0 in
      let value = same_plain x y h.3 g.3 values.0 in
      let more = same_plain_pairs k v l w xs ys h.4 g.4 values.1 in
      λ z. of_map (k-is z) (v-is z) (pair (key z) (value z) (more z))
  same_plain (of_set _ no_items) (of_set _ no_items) h g e = refl
  same_plain (of_set t (item x xs)) (of_set u (item y ys)) h g e =
      let both = then_both (tree_cmp x y) (items_cmp xs ys) e in
      let t-is : t ≡ u = sym h.0 ∙ same_tag x y both.0 ∙ g.0 in
      let value = same_plain x y h.1 g.1 both.0 in
      let more = same_plain_items t u xs ys h.2 g.2 both.1 in
      λ z. of_set (t-is z) (item (value z) (more z))
  same_plain (of_list _ no_items) (of_list _ no_items) h g e = refl
  same_plain (of_list t (item x xs)) (of_list u (item y ys)) h g e =
      let both = then_both (tree_cmp x y) (items_cmp xs ys) e in
      let t-is : t ≡ u = sym h.0 ∙ same_tag x y both.0 ∙ g.0 in
      let value = same_plain x y h.1 g.1 both.0 in
      let more = same_plain_items t u xs ys h.2 g.2 both.1 in
      λ z. of_list (t-is z) (item (value z) (more z))
  same_plain x y h g e = absurd (unequal _ refl e)

  same_plain_fields : (a b : FieldTrees) → AreWellTaggedFields a → AreWellTaggedFields b → fields_cmp a b ≡ Equal → plain_fields a ≡ plain_fields b
  same_plain_fields no_fields no_fields h g e = refl
  same_plain_fields no_fields (field _ _ _) h g e = absurd (unequal _ refl e)
  same_plain_fields (field _ _ _) no_fields h g e = absurd (unequal _ refl e)
  same_plain_fields (field i x xs) (field j y ys) h g e =
      let ids = then_both (int_cmp i j) (ordering_then (tree_cmp x y) (fields_cmp xs ys)) e in
      let values = then_both (tree_cmp x y) (fields_cmp xs ys) ids.1 in
      let id-is = int_same i j ids.0 in
      let value = same_plain x y h.0 g.0 values.0 in
      let more = same_plain_fields xs ys h.1 g.1 values.1 in
      λ z. field (id-is z) (value z) (more z)

  same_plain_items : (t u : Tag) (a b : ItemTrees) → AreWellTaggedItems t a → AreWellTaggedItems u b → items_cmp a b ≡ Equal → plain_items a ≡ plain_items b
  same_plain_items t u no_items no_items h g e = refl
  same_plain_items t u no_items (item _ _) h g e = absurd (unequal _ refl e)
  same_plain_items t u (item _ _) no_items h g e = absurd (unequal _ refl e)
  same_plain_items t u (item x xs) (item y ys) h g e =
      let both = then_both (tree_cmp x y) (items_cmp xs ys) e in
      let value = same_plain x y h.1 g.1 both.0 in
      let more = same_plain_items t u xs ys h.2 g.2 both.1 in
      λ z. item (value z) (more z)

  same_plain_pairs : (k v l w : Tag) (a b : PairTrees) → AreWellTaggedPairs k v a → AreWellTaggedPairs l w b → pairs_cmp a b ≡ Equal → plain_pairs a ≡ plain_pairs b
  same_plain_pairs k v l w no_pairs no_pairs h g e = refl
  same_plain_pairs k v l w no_pairs (pair _ _ _) h g e = absurd (unequal _ refl e)
  same_plain_pairs k v l w (pair _ _ _) no_pairs h g e = absurd (unequal _ refl e)
  same_plain_pairs k v l w (pair j x xs) (pair i y ys) h g e =
      let keys = then_both (tree_cmp j i) (ordering_then (tree_cmp x y) (pairs_cmp xs ys)) e in
      let values = then_both (tree_cmp x y) (pairs_cmp xs ys) keys.1 in
      let key = same_plain j i h.2 g.2 keys.0 in
      let value = same_plain x y h.3 g.3 values.0 in
      let more = same_plain_pairs k v l w xs ys h.4 g.4 values.1 in
      λ z. pair (key z) (value z) (more z)

-- well tagged values are alike in order exactly where their plain forms are the same
pub alike_plain : (x y : Tree) → IsWellTagged x → IsWellTagged y → (tree_cmp x y ≡ Equal) ↔ (plain x ≡ plain y)
alike_plain x y h g = (
  same_plain x y h g,
  λ e. sym (tree_cmp-plain x y) ∙ ap (λ p. tree_cmp p y) e ∙ tree_cmp-plain y y ∙ tied_itself tree_cmp_total y,
)
