-- What the tests of values decide.
use Rattle.std.proofs.Common.{◌≡◌, ℕ, ◌^◌, ℤ, ◌<ℤ◌, Bool, true, false, cond, List, length, Option, Some, None, Ordering, Less, Equal, Greater, refl, sym, ap, ◌∙◌, arith}
use Rattle.std.specs.Prelude.{nat_lt, not, ◌&&◌, ◌||◌, ◌==◌, MatchOption, All}
use Rattle.std.specs.Bool.{Decides}
use Rattle.std.specs.List.{slice_get}
use Rattle.std.specs.Ordering.{int_cmp, int_eq, is_lt, MatchOrdering}
use Rattle.std.proofs.lemmas.Bool.{false≢true, eqb-true, eq-eqb}
use Rattle.std.proofs.lemmas.Bool.Decides.{Decides-and, Decides-or, Decides-ltb, Decides-int_eq, Decides-by_and}
use Rattle.std.proofs.lemmas.Cmp.{int_ranked}
use Rattle.std.proofs.lemmas.Int.{ints}
use Rattle.thrift_value.specs.declared.tag.Tag.{Tag}
use Rattle.thrift_value.specs.declared.tag.Tag.TheVariants as tag
use Rattle.thrift_value.specs.Order.{tree_cmp}
use Rattle.thrift_value.specs.Sizes.{items_len, pairs_len, HasSmallSizes, HaveFieldsSmallSizes, HaveItemsSmallSizes, HavePairsSmallSizes}
use Rattle.thrift_value.specs.Tags.{tag_of, rank}
use Rattle.thrift_value.specs.Tidy.{IsTidy, AreTidyFields, AreTidyItems, AreTidyPairs, IsBelowIds, IsBelowItems, IsBelowKeys, AreRisingFields, AreRisingItems, AreRisingPairs}
use Rattle.thrift_value.specs.Tree.{Tree, of_bool, of_i8, of_i16, of_i32, of_i64, of_double, of_bytes, of_struct, of_map, of_set, of_list, of_uuid, FieldTrees, no_fields, field, ItemTrees, no_items, item, PairTrees, no_pairs, pair}
use Rattle.schema.specs.declared.types.FieldNeed.{FieldNeed}
use Rattle.schema.specs.declared.types.FieldNeed.TheVariants as need
use Rattle.schema.specs.declared.types.FieldsKind.{FieldsKind}
use Rattle.schema.specs.declared.types.FieldsKind.TheVariants as of_kind
use Rattle.schema.specs.PlainKind.{PlainKind, kind_bool, kind_i8, kind_i16, kind_i32, kind_i64, kind_double, kind_text, kind_binary, kind_uuid, kind_enum, kind_struct, kind_map, kind_set, kind_list}
use Rattle.schema.specs.PlainSchema.{PlainField, PlainStruct}
use Rattle.schema.specs.WrittenAs.{field_with_id, HasFieldTree, IsOneField, HasItsFields, IsWrittenAs, AreFieldsWrittenAs, AreItemsWrittenAs, ArePairsWrittenAs, MayBeWrittenAs}
use Rattle.known_parts.specs.Parts.{are_same_tags}
use Rattle.struct_skew.specs.Projection.{is_required, is_union}
use Rattle.struct_skew.specs.TidyTests.{is_below_ids, is_below_items, is_below_keys, are_rising_fields, are_rising_items, are_rising_pairs, is_tidy, are_tidy_fields, are_tidy_items, are_tidy_pairs, has_small_sizes, have_fields_small_sizes, have_items_small_sizes, have_pairs_small_sizes}
use Rattle.struct_skew.specs.WrittenTests.{some_passes, has_field_tree, is_one_field, has_required_fields, has_its_fields, is_written_as, are_fields_written_as, are_items_written_as, are_pairs_written_as, may_be_written}

-- what always holds, and what never does
pub always : {P : Type 0} → P → Decides true P
always p = (λ _. p, λ _. refl)

pub never : {P : Type 0} → (P → ⊥) → Decides false P
never refuted = (λ e. absurd (false≢true e), λ p. absurd (refuted p))

-- one id, and one value, before another
pub id_before : (i j : ℤ) → Decides (is_lt (int_cmp i j)) (i <ℤ j)
id_before i j = by_order (int_cmp i j) (int_ranked i j (int_cmp i j) refl)
  where
    by_order : (o : Ordering) → MatchOrdering o (i <ℤ j) (i ≡ j) (j <ℤ i) → Decides (is_lt o) (i <ℤ j)
    by_order Less low = always low
    by_order Equal same = never (λ low. omega (arith, ints, same))
    by_order Greater high = never (λ low. omega (arith, ints))

pub comes_first : (o : Ordering) → Decides (is_lt o) (o ≡ Less)
comes_first Less = always refl
comes_first Equal = never (λ e. absurd cc)
comes_first Greater = never (λ e. absurd cc)

-- the tag of a rank
tag_ranked : ℕ → Tag
tag_ranked n =
    cond (n == 0) tag.Bool (cond (n == 1) tag.I8 (cond (n == 2) tag.I16 (cond (n == 3) tag.I32 (cond (n == 4) tag.I64 (cond (n == 5) tag.Double
    (cond (n == 6) tag.Bytes (cond (n == 7) tag.Struct (cond (n == 8) tag.Map (cond (n == 9) tag.Set (cond (n == 10) tag.List tag.Uuid))))))))))

its_tag : (t : Tag) → tag_ranked (rank t) ≡ t
unfolding tag_ranked
its_tag tag.Bool = refl
its_tag tag.I8 = refl
its_tag tag.I16 = refl
its_tag tag.I32 = refl
its_tag tag.I64 = refl
its_tag tag.Double = refl
its_tag tag.Bytes = refl
its_tag tag.Struct = refl
its_tag tag.Map = refl
its_tag tag.Set = refl
its_tag tag.List = refl
its_tag tag.Uuid = refl

pub same_tag : (a b : Tag) → Decides (are_same_tags a b) (a ≡ b)
same_tag a b =
    (λ e. sym (its_tag a) ∙ ap tag_ranked (eqb-true (rank a) (rank b) e) ∙ its_tag b, λ e. eq-eqb (rank a) (rank b) (ap rank e))

-- rising
below_ids : (id : ℤ) (fields : FieldTrees) → Decides (is_below_ids id fields) (IsBelowIds id fields)
below_ids id no_fields = always tt
below_ids id (field next _ more) = Decides-and (is_lt (int_cmp id next)) (is_below_ids id more) (id_before id next) (below_ids id more)

below_items : (value : Tree) (items : ItemTrees) → Decides (is_below_items value items) (IsBelowItems value items)
below_items value no_items = always tt
below_items value (item next more) = Decides-and (is_lt (tree_cmp value next)) (is_below_items value more) (comes_first (tree_cmp value next)) (below_items value more)

below_keys : (key : Tree) (pairs : PairTrees) → Decides (is_below_keys key pairs) (IsBelowKeys key pairs)
below_keys key no_pairs = always tt
below_keys key (pair next _ more) = Decides-and (is_lt (tree_cmp key next)) (is_below_keys key more) (comes_first (tree_cmp key next)) (below_keys key more)

pub rising_fields : (fields : FieldTrees) → Decides (are_rising_fields fields) (AreRisingFields fields)
rising_fields no_fields = always tt
rising_fields (field id _ more) = Decides-and (is_below_ids id more) (are_rising_fields more) (below_ids id more) (rising_fields more)

pub rising_items : (items : ItemTrees) → Decides (are_rising_items items) (AreRisingItems items)
rising_items no_items = always tt
rising_items (item value more) = Decides-and (is_below_items value more) (are_rising_items more) (below_items value more) (rising_items more)

pub rising_pairs : (pairs : PairTrees) → Decides (are_rising_pairs pairs) (AreRisingPairs pairs)
rising_pairs no_pairs = always tt
rising_pairs (pair key _ more) = Decides-and (is_below_keys key more) (are_rising_pairs more) (below_keys key more) (rising_pairs more)

-- a tidy value, and the parts of one

mutual
  pub decides_tidy : (x : Tree) → Decides (is_tidy x) (IsTidy x)
  decides_tidy (of_bool _) = always (record { tagged = tt; in_order = tt })
  decides_tidy (of_i8 _) = always (record { tagged = tt; in_order = tt })
  decides_tidy (of_i16 _) = always (record { tagged = tt; in_order = tt })
  decides_tidy (of_i32 _) = always (record { tagged = tt; in_order = tt })
  decides_tidy (of_i64 _) = always (record { tagged = tt; in_order = tt })
  decides_tidy (of_double _) = always (record { tagged = tt; in_order = tt })
  decides_tidy (of_uuid _) = always (record { tagged = tt; in_order = tt })
  decides_tidy (of_bytes _) = always (record { tagged = tt; in_order = tt })
  decides_tidy (of_struct fields) =
      let both = Decides-and (are_rising_fields fields) (are_tidy_fields fields) (rising_fields fields) (tidy_fields fields) in (
        λ e. let h = both.0 e in record { tagged = h.1.0; in_order = (h.0, h.1.1) },
        λ t. both.1 (t.in_order.0, (t.tagged, t.in_order.1)),
      )
  decides_tidy (of_map key value pairs) =
      let both = Decides-and (are_rising_pairs pairs) (are_tidy_pairs key value pairs) (rising_pairs pairs) (tidy_pairs key value pairs) in (
        λ e. let h = both.0 e in record { tagged = h.1.0; in_order = (h.0, h.1.1) },
        λ t. both.1 (t.in_order.0, (t.tagged, t.in_order.1)),
      )
  decides_tidy (of_set element items) =
      let both = Decides-and (are_rising_items items) (are_tidy_items element items) (rising_items items) (tidy_items element items) in (
        λ e. let h = both.0 e in record { tagged = h.1.0; in_order = (h.0, h.1.1) },
        λ t. both.1 (t.in_order.0, (t.tagged, t.in_order.1)),
      )
  decides_tidy (of_list element items) =
      let all = tidy_items element items in (λ e. let h = all.0 e in record { tagged = h.0; in_order = h.1 }, λ t. all.1 (t.tagged, t.in_order))

  tidy_fields : (fields : FieldTrees) → Decides (are_tidy_fields fields) (AreTidyFields fields)
  tidy_fields no_fields = always (tt, tt)
  tidy_fields (field _ value more) =
      let both = Decides-and (is_tidy value) (are_tidy_fields more) (decides_tidy value) (tidy_fields more) in (
        λ e. let h = both.0 e in ((h.0.tagged, h.1.0), (h.0.in_order, h.1.1)),
        λ t. both.1 (record { tagged = t.0.0; in_order = t.1.0 }, (t.0.1, t.1.1)),
      )

  tidy_items : (element : Tag) (items : ItemTrees) → Decides (are_tidy_items element items) (AreTidyItems element items)
  tidy_items element no_items = always (tt, tt)
  tidy_items element (item value more) =
      let first = Decides-and (are_same_tags (tag_of value) element) (is_tidy value) (same_tag (tag_of value) element) (decides_tidy value) in
      let both = Decides-and (are_same_tags (tag_of value) element && is_tidy value) (are_tidy_items element more) first (tidy_items element more) in (
        λ e. let h = both.0 e in ((h.0.0, h.0.1.tagged, h.1.0), (h.0.1.in_order, h.1.1)),
        λ t. both.1 ((t.0.0, record { tagged = t.0.1; in_order = t.1.0 }), (t.0.2, t.1.1)),
      )

  tidy_pairs : (key value : Tag) (pairs : PairTrees) → Decides (are_tidy_pairs key value pairs) (AreTidyPairs key value pairs)
  tidy_pairs key value no_pairs = always (tt, tt)
  tidy_pairs key value (pair k v more) =
      let one = Decides-and (are_same_tags (tag_of k) key) (is_tidy k) (same_tag (tag_of k) key) (decides_tidy k) in
      let other = Decides-and (are_same_tags (tag_of v) value) (is_tidy v) (same_tag (tag_of v) value) (decides_tidy v) in
      let first = Decides-and (are_same_tags (tag_of k) key && is_tidy k) (are_same_tags (tag_of v) value && is_tidy v) one other in
      let both =
      Decides-and ((are_same_tags (tag_of k) key && is_tidy k) && (are_same_tags (tag_of v) value && is_tidy v)) (are_tidy_pairs key value more) first
      (tidy_pairs key value more) in (
        λ e. let h = both.0 e in ((h.0.0.0, h.0.1.0, h.0.0.1.tagged, h.0.1.1.tagged, h.1.0), (h.0.0.1.in_order, h.0.1.1.in_order, h.1.1)),
        λ t. both.1 (
          ((t.0.0, record { tagged = t.0.2; in_order = t.1.0 }), (t.0.1, record { tagged = t.0.3; in_order = t.1.1 })),
          (t.0.4, t.1.2),
        ),
      )

mutual
  pub decides_sizes : (x : Tree) → Decides (has_small_sizes x) (HasSmallSizes x)
  decides_sizes (of_bytes bytes) = Decides-ltb (length bytes) (2 ^ 31)
  decides_sizes (of_struct fields) = small_fields fields
  decides_sizes (of_map _ _ pairs) = Decides-and (nat_lt (pairs_len pairs) (2 ^ 31)) (have_pairs_small_sizes pairs) (Decides-ltb (pairs_len pairs) (2 ^ 31)) (small_pairs pairs)
  decides_sizes (of_set _ items) = Decides-and (nat_lt (items_len items) (2 ^ 31)) (have_items_small_sizes items) (Decides-ltb (items_len items) (2 ^ 31)) (small_items items)
  decides_sizes (of_list _ items) = Decides-and (nat_lt (items_len items) (2 ^ 31)) (have_items_small_sizes items) (Decides-ltb (items_len items) (2 ^ 31)) (small_items items)
  decides_sizes (of_bool _) = always tt
  decides_sizes (of_i8 _) = always tt
  decides_sizes (of_i16 _) = always tt
  decides_sizes (of_i32 _) = always tt
  decides_sizes (of_i64 _) = always tt
  decides_sizes (of_double _) = always tt
  decides_sizes (of_uuid _) = always tt

  small_fields : (fields : FieldTrees) → Decides (have_fields_small_sizes fields) (HaveFieldsSmallSizes fields)
  small_fields no_fields = always tt
  small_fields (field _ value more) = Decides-and (has_small_sizes value) (have_fields_small_sizes more) (decides_sizes value) (small_fields more)

  small_items : (items : ItemTrees) → Decides (have_items_small_sizes items) (HaveItemsSmallSizes items)
  small_items no_items = always tt
  small_items (item value more) = Decides-and (has_small_sizes value) (have_items_small_sizes more) (decides_sizes value) (small_items more)

  small_pairs : (pairs : PairTrees) → Decides (have_pairs_small_sizes pairs) (HavePairsSmallSizes pairs)
  small_pairs no_pairs = always tt
  small_pairs (pair key value more) =
      let first = Decides-and (has_small_sizes key) (has_small_sizes value) (decides_sizes key) (decides_sizes value) in
      let both = Decides-and (has_small_sizes key && has_small_sizes value) (have_pairs_small_sizes more) first (small_pairs more) in (
        λ e. let h = both.0 e in (h.0.0, h.0.1, h.1),
        λ t. both.1 ((t.0, t.1), t.2),
      )

-- what is said of an item that is there
of_some : {A : Type 0} (o : Option A) (test : A → Bool) (P : A → Type 0) → ((x : A) → Decides (test x) (P x)) → Decides (some_passes o test) (MatchOption o ⊥ P)
of_some None test P each = never (λ h. h)
of_some (Some x) test P each = each x

-- a field with an id
pub has_field : (id : ℤ) (fields : FieldTrees) → Decides (has_field_tree id fields) (HasFieldTree id fields)
has_field id no_fields = never (λ h. h)
has_field id (field next _ more) = Decides-or (int_eq next id) (has_field_tree id more) (Decides-int_eq next id) (has_field id more)

one_field : (fields : FieldTrees) → Decides (is_one_field fields) (IsOneField fields)
one_field no_fields = never (λ h. h)
one_field (field _ _ no_fields) = always tt
one_field (field _ _ (field _ _ _)) = never (λ h. h)

-- what holds where a test passes
where_true : (b : Bool) (P Q : Type 0) (x : Bool) → Decides b P → Decides x Q → Decides (not b || x) (P → Q)
where_true true P Q x is decides = (λ e p. decides.0 e, λ f. decides.1 (f (is.0 refl)))
where_true false P Q x is decides = (λ e p. absurd (false≢true (is.1 p)), λ f. refl)

pub required_need : (n : FieldNeed) → Decides (is_required n) (n ≡ need.Required)
required_need need.Default = never (λ e. absurd cc)
required_need need.Required = always refl
required_need need.Optional = never (λ e. absurd cc)

pub union_kind : (k : FieldsKind) → Decides (is_union k) (k ≡ of_kind.Union)
union_kind of_kind.Struct = never (λ e. absurd cc)
union_kind of_kind.Union = always refl
union_kind of_kind.Exception = never (λ e. absurd cc)
union_kind of_kind.Args = never (λ e. absurd cc)

required_fields : (fields : FieldTrees) (fs : List PlainField)
    → Decides (has_required_fields fs fields) (All (λ (f : PlainField). f.need ≡ need.Required → HasFieldTree f.id fields) fs)
required_fields fields fs =
    Decides-by_and (λ (f : PlainField). not (is_required f.need) || has_field_tree f.id fields) (λ (f : PlainField). f.need ≡ need.Required → HasFieldTree f.id fields)
    (λ gs. has_required_fields gs fields)
    (λ f. where_true (is_required f.need) (f.need ≡ need.Required) (HasFieldTree f.id fields) (has_field_tree f.id fields) (required_need f.need) (has_field f.id fields))
    refl (λ _ _. refl) fs

pub its_fields : (s : PlainStruct) (fields : FieldTrees) → Decides (has_its_fields s fields) (HasItsFields s fields)
its_fields s fields =
    let union = where_true (is_union s.kind) (s.kind ≡ of_kind.Union) (IsOneField fields) (is_one_field fields) (union_kind s.kind) (one_field fields) in
    let both = Decides-and (has_required_fields s.fields fields) (not (is_union s.kind) || is_one_field fields) (required_fields fields s.fields) union in (
      λ e. let h = both.0 e in record { required = h.0; of_union = h.1 },
      λ t. both.1 (t.required, t.of_union),
    )

mutual
  pub decides_type : (structs : List PlainStruct) (kind : PlainKind) (x : Tree) → Decides (is_written_as structs kind x) (IsWrittenAs structs kind x)
  decides_type structs kind_bool (of_bool _) = always tt
  decides_type structs kind_i8 (of_i8 _) = always tt
  decides_type structs kind_i16 (of_i16 _) = always tt
  decides_type structs kind_i32 (of_i32 _) = always tt
  decides_type structs kind_i64 (of_i64 _) = always tt
  decides_type structs kind_double (of_double _) = always tt
  decides_type structs kind_uuid (of_uuid _) = always tt
  decides_type structs kind_text (of_bytes _) = always tt
  decides_type structs kind_binary (of_bytes _) = always tt
  decides_type structs (kind_enum _) (of_i32 _) = always tt
  decides_type structs (kind_struct which) (of_struct fields) =
      of_some (slice_get structs which) (λ s. has_its_fields s fields && are_fields_written_as structs s.fields fields)
      (λ s. HasItsFields s fields × AreFieldsWrittenAs structs s.fields fields)
      (λ s. Decides-and (has_its_fields s fields) (are_fields_written_as structs s.fields fields) (its_fields s fields) (fields_type structs s.fields fields))
  decides_type structs (kind_map key value) (of_map _ _ pairs) = pairs_type structs key value pairs
  decides_type structs (kind_set member) (of_set _ items) = items_type structs member items
  decides_type structs (kind_list element) (of_list _ items) = items_type structs element items
  decides_type structs _ _ = never (λ h. h)

  fields_type : (structs : List PlainStruct) (declared : List PlainField) (fields : FieldTrees)
      → Decides (are_fields_written_as structs declared fields) (AreFieldsWrittenAs structs declared fields)
  fields_type structs declared no_fields = always tt
  fields_type structs declared (field id value more) =
      Decides-and (some_passes (field_with_id id declared) (λ f. is_written_as structs f.kind value)) (are_fields_written_as structs declared more)
      (of_some (field_with_id id declared) (λ f. is_written_as structs f.kind value) (λ f. IsWrittenAs structs f.kind value) (λ f. decides_type structs f.kind value))
      (fields_type structs declared more)

  items_type : (structs : List PlainStruct) (kind : PlainKind) (items : ItemTrees) → Decides (are_items_written_as structs kind items) (AreItemsWrittenAs structs kind items)
  items_type structs kind no_items = always tt
  items_type structs kind (item value more) =
      Decides-and (is_written_as structs kind value) (are_items_written_as structs kind more) (decides_type structs kind value) (items_type structs kind more)

  pairs_type : (structs : List PlainStruct) (key_kind value_kind : PlainKind) (pairs : PairTrees)
      → Decides (are_pairs_written_as structs key_kind value_kind pairs) (ArePairsWrittenAs structs key_kind value_kind pairs)
  pairs_type structs key_kind value_kind no_pairs = always tt
  pairs_type structs key_kind value_kind (pair key value more) =
      let first = Decides-and (is_written_as structs key_kind key) (is_written_as structs value_kind value) (decides_type structs key_kind key) (decides_type structs value_kind value) in
      let both =
      Decides-and (is_written_as structs key_kind key && is_written_as structs value_kind value) (are_pairs_written_as structs key_kind value_kind more) first
      (pairs_type structs key_kind value_kind more) in (
        λ e. let h = both.0 e in (h.0.0, h.0.1, h.1),
        λ t. both.1 ((t.0, t.1), t.2),
      )

pub decides_written : (structs : List PlainStruct) (kind : PlainKind) (x : Tree) → Decides (may_be_written structs kind x) (MayBeWrittenAs structs kind x)
decides_written structs kind x =
    let both = Decides-and (is_written_as structs kind x) (has_small_sizes x) (decides_type structs kind x) (decides_sizes x) in (
      λ e. let h = both.0 e in record { fits = h.0; sizes = h.1 },
      λ t. both.1 (t.fits, t.sizes),
    )
