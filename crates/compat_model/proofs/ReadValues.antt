-- Values that one schema writes and another reads: by one induction, each has a meaning, and is kept.
use Rattle.std.proofs.Common.{◌≡◌, ℕ, ℤ, true, List, [], ◌∷◌, Option, Some, None, Ok, Less, Equal, refl, sym, ap, ap₂, subst, ◌∙◌}
use Rattle.std.specs.Prelude.{⊤, All, MatchOption, is_some}
use Rattle.std.specs.List.{slice_get}
use Rattle.std.specs.Option.{option_map}
use Rattle.std.specs.Prelude.{unwrap_or}
use Rattle.std.proofs.lemmas.Bool.{false≢true}
use Rattle.std.proofs.lemmas.Cmp.{alike_right}
use Rattle.thrift_value.specs.declared.tag.Tag.{Tag}
use Rattle.thrift_value.specs.Order.{tree_cmp, items_cmp}
use Rattle.thrift_value.specs.Plain.{plain, plain_fields, plain_items, plain_pairs}
use Rattle.thrift_value.specs.Tidy.{IsTidy, AreTidyFields, AreTidyItems, AreTidyPairs, IsBelowItems, IsBelowKeys, AreRisingFields, AreRisingItems, AreRisingPairs}
use Rattle.thrift_value.specs.Tree.{Tree, of_bool, of_i8, of_i16, of_i32, of_i64, of_double, of_bytes, of_struct, of_map, of_set, of_list, of_uuid, FieldTrees, no_fields, field, ItemTrees, no_items, item, PairTrees, no_pairs, pair}
use Rattle.thrift_value.specs.TreeOf.{item_trees, pair_trees}
use Rattle.thrift_value.proofs.TotalOrder.{tree_cmp_total}
use Rattle.schema.specs.declared.types.FieldNeed.TheVariants.{Required}
use Rattle.schema.specs.declared.types.FieldsKind.TheVariants.{Union}
use Rattle.schema.specs.PlainKind.{PlainKind, kind_bool, kind_i8, kind_i16, kind_i32, kind_i64, kind_double, kind_text, kind_binary, kind_uuid, kind_enum, kind_struct, kind_map, kind_set, kind_list}
use Rattle.schema.specs.PlainSchema.{PlainField, PlainStruct, PlainSchema}
use Rattle.schema.specs.Sound.{IsSoundStruct}
use Rattle.schema.specs.WrittenAs.{field_with_id, HasFieldTree, HasItsFields, IsOneField, IsWrittenAs, AreFieldsWrittenAs, AreItemsWrittenAs, ArePairsWrittenAs}
use Rattle.struct_skew.specs.Latest.{latest_of_each, ComesBefore, IsRisingBy}
use Rattle.struct_skew.specs.Projection.{is_union, struct_value, key_cmp, map_meaning, set_meaning, list_meaning, meaning_of, offers_of, item_meanings, pair_meanings}
use Rattle.struct_skew.specs.Results.{with_value, both_values, with_first}
use Rattle.struct_skew.proofs.Each.{from_all}
use Rattle.struct_skew.proofs.LatestLaws.{rising_stay}
use Rattle.struct_skew.proofs.MeaningsOfKinds.{IsScalar, meaning_of_scalar}
use Rattle.struct_skew.proofs.Rightness.{AreRisingDeclared, rising_declared}
use Rattle.struct_skew.proofs.StructsAt.{All-at}
use Rattle.compat_model.specs.KeptValues.{AreFieldsKeptUnder, AreItemsKeptUnder, ArePairsKeptUnder}
use Rattle.compat_model.specs.Likeness.{has_no_struct}
use Rattle.compat_model.proofs.FoundIn.{each_at, declared_id}
use Rattle.compat_model.proofs.Likenesses.{scalar_kept, kept_equal, items_equal, AreLikeIn, like_fits}
use Rattle.compat_model.proofs.ReadFields.{Reading, FieldReading, AreRead, StructReading, struct_read, one_sent, sent_of}

-- elements and pairs as lists
abbrev listed_items : ItemTrees → List Tree
listed_items no_items = []
listed_items (item value more) = value ∷ listed_items more

abbrev listed_pairs : PairTrees → List (Tree × Tree)
listed_pairs no_pairs = []
listed_pairs (pair key value more) = (key, value) ∷ listed_pairs more

same_items : (items : ItemTrees) → item_trees (listed_items items) ≡ items
same_items no_items = refl
same_items (item value more) = ap (item value) (same_items more)

same_pairs : (pairs : PairTrees) → pair_trees (listed_pairs pairs) ≡ pairs
same_pairs no_pairs = refl
same_pairs (pair key value more) = ap (pair key value) (same_pairs more)

-- equal values stand alike to others
alike_less : (a b x y : Tree) → tree_cmp a b ≡ Less → tree_cmp a x ≡ Equal → tree_cmp b y ≡ Equal → tree_cmp x y ≡ Less
alike_less a b x y low one other = sym (alike_right tree_cmp_total b y x other) ∙ sym (tree_cmp_total.congr a x b one) ∙ low

-- each member, and each key, is equal to the one that is read of it
abbrev AreEqualItems : ItemTrees → ItemTrees → Type 0
AreEqualItems no_items no_items = ⊤
AreEqualItems (item x more) (item y others) = (tree_cmp x y ≡ Equal) × AreEqualItems more others
AreEqualItems _ _ = ⊥

abbrev HaveEqualKeys : PairTrees → PairTrees → Type 0
HaveEqualKeys no_pairs no_pairs = ⊤
HaveEqualKeys (pair k _ more) (pair l _ others) = (tree_cmp k l ≡ Equal) × HaveEqualKeys more others
HaveEqualKeys _ _ = ⊥

items_before : (x y : Tree) (items others : ItemTrees) → tree_cmp x y ≡ Equal → AreEqualItems items others → IsBelowItems x items → ComesBefore tree_cmp y (listed_items others)
items_before x y no_items no_items same equal below = tt
items_before x y (item a more) (item b others) same equal below =
    (alike_less x a y b below.0 same equal.0, items_before x y more others same equal.1 below.1)
items_before x y no_items (item _ _) same equal below = absurd equal
items_before x y (item _ _) no_items same equal below = absurd equal

items_rise : (items others : ItemTrees) → AreEqualItems items others → AreRisingItems items → IsRisingBy tree_cmp (listed_items others)
items_rise no_items no_items equal rising = tt
items_rise (item x more) (item y others) equal rising = (items_before x y more others equal.0 equal.1 rising.0, items_rise more others equal.1 rising.1)
items_rise no_items (item _ _) equal rising = absurd equal
items_rise (item _ _) no_items equal rising = absurd equal

pairs_before : (x y w : Tree) (pairs others : PairTrees) → tree_cmp x y ≡ Equal → HaveEqualKeys pairs others → IsBelowKeys x pairs → ComesBefore key_cmp (y, w) (listed_pairs others)
pairs_before x y w no_pairs no_pairs same equal below = tt
pairs_before x y w (pair a _ more) (pair b _ others) same equal below =
    (alike_less x a y b below.0 same equal.0, pairs_before x y w more others same equal.1 below.1)
pairs_before x y w no_pairs (pair _ _ _) same equal below = absurd equal
pairs_before x y w (pair _ _ _) no_pairs same equal below = absurd equal

pairs_rise : (pairs others : PairTrees) → HaveEqualKeys pairs others → AreRisingPairs pairs → IsRisingBy key_cmp (listed_pairs others)
pairs_rise no_pairs no_pairs equal rising = tt
pairs_rise (pair x _ more) (pair y w others) equal rising = (pairs_before x y w more others equal.0 equal.1 rising.0, pairs_rise more others equal.1 rising.1)
pairs_rise no_pairs (pair _ _ _) equal rising = absurd equal
pairs_rise (pair _ _ _) no_pairs equal rising = absurd equal

-- so they stay as they are where they are put in order
items_stay : (items others : ItemTrees) → AreEqualItems items others → AreRisingItems items → item_trees (latest_of_each tree_cmp (listed_items others)) ≡ others
items_stay items others equal rising = ap item_trees (rising_stay tree_cmp (listed_items others) (items_rise items others equal rising)) ∙ same_items others

pairs_stay : (pairs others : PairTrees) → HaveEqualKeys pairs others → AreRisingPairs pairs → pair_trees (latest_of_each key_cmp (listed_pairs others)) ≡ others
pairs_stay pairs others equal rising = ap pair_trees (rising_stay key_cmp (listed_pairs others) (pairs_rise pairs others equal rising)) ∙ same_pairs others

-- what is kept without structs is equal, and so are the keys of what is kept
equal_items : (structs : List PlainStruct) (kind : PlainKind) (items others : ItemTrees) → has_no_struct kind ≡ true → AreItemsKeptUnder structs kind items others → AreEqualItems items others
equal_items structs kind no_items no_items free kept = tt
equal_items structs kind (item x more) (item y others) free kept = (kept_equal structs kind x y free kept.0, equal_items structs kind more others free kept.1)
equal_items structs kind no_items (item _ _) free kept = absurd kept
equal_items structs kind (item _ _) no_items free kept = absurd kept

equal_keys : (structs : List PlainStruct) (kind : PlainKind) (pairs others : PairTrees) → ArePairsKeptUnder structs kind pairs others → HaveEqualKeys pairs others
equal_keys structs kind no_pairs no_pairs kept = tt
equal_keys structs kind (pair _ _ more) (pair _ _ others) kept = (kept.0, equal_keys structs kind more others kept.2)
equal_keys structs kind no_pairs (pair _ _ _) kept = absurd kept
equal_keys structs kind (pair _ _ _) no_pairs kept = absurd kept

module _ (s t : PlainSchema) (P : ℕ → ℕ → Type 0) (Strict : Type 0) where
  -- one struct reads another: a union reads a union and knows its fields, fields of one id have like types, and what has to be there
  -- had to be there before
  pub record ReadsStruct (d e : PlainStruct) : Type 0 where
    pub union : is_union e.kind ≡ true → d.kind ≡ Union
    pub known : is_union e.kind ≡ true → (f : PlainField) (id : ℤ) → field_with_id id d.fields ≡ Some f → is_some (field_with_id id e.fields) ≡ true
    pub like : (id : ℤ) (f g : PlainField) → field_with_id id d.fields ≡ Some f → field_with_id id e.fields ≡ Some g → AreLikeIn P Strict f.kind g.kind
    pub required : (g : PlainField) → field_with_id g.id e.fields ≡ Some g → g.need ≡ Required → (f : PlainField) × (field_with_id g.id d.fields ≡ Some f) × (f.need ≡ Required)

  -- each struct of a pair reads the other
  abbrev pub AreClosedPairs : Type 0
  AreClosedPairs = (a b : ℕ) → P a b → (d e : PlainStruct) → slice_get s.structs a ≡ Some d → slice_get t.structs b ≡ Some e → ReadsStruct d e

  abbrev Read : PlainKind → Tree → Type 0
  Read = Reading t.structs Strict

  -- what is read of elements, and of pairs
  record ItemsRead (kind : PlainKind) (items : ItemTrees) : Type 0 where
    others : ItemTrees
    mean : item_meanings t.structs (plain_items items) kind ≡ Ok (listed_items others)
    kept : Strict → AreItemsKeptUnder t.structs kind items others

  record PairsRead (key value : PlainKind) (pairs : PairTrees) : Type 0 where
    others : PairTrees
    mean : pair_meanings t.structs (plain_pairs pairs) key value ≡ Ok (listed_pairs others)
    kept : Strict → ArePairsKeptUnder t.structs value pairs others

  scalar_read : (l : PlainKind) (v : Tree) → IsScalar v → plain v ≡ v → Read l v
  scalar_read l v h same = record {
    value = v;
    means = ap (λ x. meaning_of t.structs x l) same ∙ meaning_of_scalar t.structs v l h;
    kept = λ _. scalar_kept t.structs l v h;
  }

  module _ (sound : All (IsSoundStruct t) t.structs) (closed : AreClosedPairs) where
    -- a struct, whose fields were read
    struct_there : (a b : ℕ) (d e : PlainStruct) (fields : FieldTrees) → ReadsStruct d e → slice_get t.structs b ≡ Some e → AreRisingFields fields → HasItsFields d fields
        → AreFieldsWrittenAs s.structs d.fields fields → AreRead t.structs Strict e.fields fields → Read (kind_struct b) (of_struct fields)
    struct_there a b d e fields reads here rising its typed read = record {
      value = of_struct read_struct.value;
      means = ap (λ o. struct_value b o (offers_of t.structs (plain_fields fields))) here ∙ read_struct.means;
      kept =
          λ strict.
          subst (λ (o : Option PlainStruct). AreFieldsKeptUnder t.structs (unwrap_or (option_map (λ (x : PlainStruct). x.fields) o) []) fields read_struct.value) (sym here) (read_struct.kept strict);
    }
      where
        rise : AreRisingDeclared e.fields
        rise = rising_declared e.fields (All-at (IsSoundStruct t) t.structs b e sound here).fields.rising

        required : (g : PlainField) → field_with_id g.id e.fields ≡ Some g → g.need ≡ Required → HasFieldTree g.id fields
        required g finds need =
            let before = reads.required g finds need in
            subst (λ i. HasFieldTree i fields) (declared_id g.id d.fields before.0 before.1)
            (each_at (λ (f : PlainField). f.need ≡ Required → HasFieldTree f.id fields) g.id d.fields before.0 (from_all (λ (f : PlainField). f.need ≡ Required → HasFieldTree f.id fields) d.fields its.required) before.1 before.2)

        one : is_union e.kind ≡ true → sent_of e.fields fields ≡ 1
        one union = of_one fields (its.of_union (reads.union union)) typed
          where
            known : (id : ℤ) (v : Tree) (o : Option PlainField) → field_with_id id d.fields ≡ o → MatchOption o ⊥ (λ (f : PlainField). IsWrittenAs s.structs f.kind v) → is_some (field_with_id id e.fields) ≡ true
            known id v None is held = absurd held
            known id v (Some f) is held = reads.known union f id is

            of_one : (fs : FieldTrees) → IsOneField fs → AreFieldsWrittenAs s.structs d.fields fs → sent_of e.fields fs ≡ 1
            of_one no_fields single held = absurd single
            of_one (field id v no_fields) single held = one_sent id v e.fields rise (known id v (field_with_id id d.fields) refl held.0)
            of_one (field _ _ (field _ _ _)) single held = absurd single

        read_struct : StructReading t.structs Strict b e rise fields rising read required one
        read_struct = struct_read t.structs Strict b e rise fields rising read required one

    -- what isn't declared is passed over
    nothing_kept : (fields : FieldTrees) → AreFieldsKeptUnder t.structs [] fields no_fields
    nothing_kept no_fields = tt
    nothing_kept (field _ _ more) = (tt, nothing_kept more)

    struct_at_place : (a b : ℕ) (fields : FieldTrees) → P a b → AreRisingFields fields → (o p : Option PlainStruct) → slice_get s.structs a ≡ o → slice_get t.structs b ≡ p
        → MatchOption o ⊥ (λ (d : PlainStruct). HasItsFields d fields × AreFieldsWrittenAs s.structs d.fields fields)
        → ((d e : PlainStruct) → ReadsStruct d e → AreFieldsWrittenAs s.structs d.fields fields → AreRead t.structs Strict e.fields fields)
        → Read (kind_struct b) (of_struct fields)
    struct_at_place a b held is rising None p there here typed read = absurd typed
    struct_at_place a b fields is rising (Some d) None there here typed read = record {
      value = of_struct no_fields;
      means = ap (λ o. struct_value b o (offers_of t.structs (plain_fields fields))) here;
      kept =
          λ _.
          subst (λ (o : Option PlainStruct). AreFieldsKeptUnder t.structs (unwrap_or (option_map (λ (x : PlainStruct). x.fields) o) []) fields no_fields) (sym here) (nothing_kept fields);
    }
    struct_at_place a b fields is rising (Some d) (Some e) there here typed read =
        let reads = closed a b is d e there here in
        struct_there a b d e fields reads here rising typed.0 typed.1 (read d e reads typed.1)

    -- a field, where both structs declare its id
    field_of_both : (o p : Option PlainField) (v : Tree) → ((f g : PlainField) → o ≡ Some f → p ≡ Some g → IsWrittenAs s.structs f.kind v → FieldReading t.structs Strict g.kind v)
        → MatchOption o ⊥ (λ (f : PlainField). IsWrittenAs s.structs f.kind v) → MatchOption p ⊤ (λ (g : PlainField). FieldReading t.structs Strict g.kind v)
    field_of_both None p v read typed = absurd typed
    field_of_both (Some f) None v read typed = tt
    field_of_both (Some f) (Some g) v read typed = read f g refl refl typed

    mutual
      pub read : (k l : PlainKind) (v : Tree) → AreLikeIn P Strict k l → IsTidy v → IsWrittenAs s.structs k v → Read l v
      read kind_bool l (of_bool b) like tidy typed = scalar_read l (of_bool b) tt refl
      read kind_i8 l (of_i8 n) like tidy typed = scalar_read l (of_i8 n) tt refl
      read kind_i16 l (of_i16 n) like tidy typed = scalar_read l (of_i16 n) tt refl
      read kind_i32 l (of_i32 n) like tidy typed = scalar_read l (of_i32 n) tt refl
      read kind_i64 l (of_i64 n) like tidy typed = scalar_read l (of_i64 n) tt refl
      read kind_double l (of_double n) like tidy typed = scalar_read l (of_double n) tt refl
      read kind_uuid l (of_uuid n) like tidy typed = scalar_read l (of_uuid n) tt refl
      read kind_text l (of_bytes b) like tidy typed = scalar_read l (of_bytes b) tt refl
      read kind_binary l (of_bytes b) like tidy typed = scalar_read l (of_bytes b) tt refl
      read (kind_enum _) l (of_i32 n) like tidy typed = scalar_read l (of_i32 n) tt refl
      read (kind_struct a) (kind_struct b) (of_struct fields) like tidy typed =
          struct_at_place a b fields like tidy.in_order.0 (slice_get s.structs a) (slice_get t.structs b) refl refl typed
          (λ d e reads is. read_fields d e reads fields (tidy.tagged, tidy.in_order.1) is)
      read (kind_struct _) _ (of_struct _) like tidy typed = absurd (false≢true like)
      read (kind_map key value) (kind_map l w) (of_map k0 t0 no_pairs) like tidy typed =
          record { value = map_meaning l w []; means = refl; kept = λ _. tt }
      read (kind_map key value) (kind_map l w) (of_map k0 t0 (pair a b more)) like tidy typed =
          let all = read_pairs key l value w k0 t0 (pair a b more) like.1 like.2 like.0 (tidy.tagged, tidy.in_order.1) typed in record {
            value = map_meaning l w (listed_pairs all.others);
            means = ap (with_value (map_meaning l w)) all.mean;
            kept =
                λ strict.
                subst (ArePairsKeptUnder t.structs w (pair a b more)) (sym (pairs_stay (pair a b more) all.others (equal_keys t.structs w (pair a b more) all.others (all.kept strict)) tidy.in_order.0))
                (all.kept strict);
          }
      read (kind_map _ _) _ (of_map _ _ _) like tidy typed = absurd (false≢true like)
      read (kind_set member) (kind_set other) (of_set t0 no_items) like tidy typed =
          record { value = set_meaning other []; means = refl; kept = λ _. refl }
      read (kind_set member) (kind_set other) (of_set t0 (item v more)) like tidy typed =
          let all = read_items member other t0 (item v more) like.1 (tidy.tagged, tidy.in_order.1) typed in record {
            value = set_meaning other (listed_items all.others);
            means = ap (with_value (set_meaning other)) all.mean;
            kept =
                λ strict.
                ap (items_cmp (item v more)) (items_stay (item v more) all.others (equal_items t.structs other (item v more) all.others (like.0 strict) (all.kept strict)) tidy.in_order.0)
                ∙ items_equal t.structs other (item v more) all.others (like.0 strict) (all.kept strict);
          }
      read (kind_set _) _ (of_set _ _) like tidy typed = absurd (false≢true like)
      read (kind_list element) (kind_list other) (of_list t0 no_items) like tidy typed =
          record { value = list_meaning other []; means = refl; kept = λ _. tt }
      read (kind_list element) (kind_list other) (of_list t0 (item v more)) like tidy typed =
          let all = read_items element other t0 (item v more) like (tidy.tagged, tidy.in_order) typed in record {
            value = list_meaning other (listed_items all.others);
            means = ap (with_value (list_meaning other)) all.mean;
            kept = λ strict. subst (AreItemsKeptUnder t.structs other (item v more)) (sym (same_items all.others)) (all.kept strict);
          }
      read (kind_list _) _ (of_list _ _) like tidy typed = absurd (false≢true like)
      read _ _ _ like tidy typed = absurd typed

      read_fields : (d e : PlainStruct) → ReadsStruct d e → (fields : FieldTrees) → AreTidyFields fields → AreFieldsWrittenAs s.structs d.fields fields
          → AreRead t.structs Strict e.fields fields
      read_fields d e reads no_fields tidy typed = tt
      read_fields d e reads (field id v more) tidy typed = (
        field_of_both (field_with_id id d.fields) (field_with_id id e.fields) v
            (λ f g of_d of_e is.
            let like = reads.like id f g of_d of_e in
            record { fits = like_fits P Strict s.structs f.kind g.kind v like is; read = read f.kind g.kind v like (record { tagged = tidy.0.0; in_order = tidy.1.0 }) is }) typed.0,
        read_fields d e reads more (tidy.0.1, tidy.1.1) typed.1,
      )

      read_items : (k l : PlainKind) (t0 : Tag) (items : ItemTrees) → AreLikeIn P Strict k l → AreTidyItems t0 items → AreItemsWrittenAs s.structs k items → ItemsRead l items
      read_items k l t0 no_items like tidy typed = record { others = no_items; mean = refl; kept = λ _. tt }
      read_items k l t0 (item v more) like tidy typed =
          let one = read k l v like (record { tagged = tidy.0.1; in_order = tidy.1.0 }) typed.0 in
          let rest = read_items k l t0 more like (tidy.0.2, tidy.1.1) typed.1 in
          record { others = item one.value rest.others; mean = ap₂ with_first one.means rest.mean; kept = λ strict. (one.kept strict, rest.kept strict) }

      read_pairs : (j k l m : PlainKind) (k0 t0 : Tag) (pairs : PairTrees) → AreLikeIn P Strict j k → AreLikeIn P Strict l m → (Strict → has_no_struct k ≡ true) → AreTidyPairs k0 t0 pairs
          → ArePairsWrittenAs s.structs j l pairs → PairsRead k m pairs
      read_pairs j k l m k0 t0 no_pairs keys values free tidy typed = record { others = no_pairs; mean = refl; kept = λ _. tt }
      read_pairs j k l m k0 t0 (pair a b more) keys values free tidy typed =
          let key = read j k a keys (record { tagged = tidy.0.2; in_order = tidy.1.0 }) typed.0 in
          let value = read l m b values (record { tagged = tidy.0.3; in_order = tidy.1.1 }) typed.1 in
          let rest = read_pairs j k l m k0 t0 more keys values free (tidy.0.4, tidy.1.2) typed.2 in
          record {
            others = pair key.value value.value rest.others;
            mean = ap₂ with_first (ap₂ both_values key.means value.means) rest.mean;
            kept = λ strict. (kept_equal t.structs k a key.value (free strict) (key.kept strict), value.kept strict, rest.kept strict);
          }
