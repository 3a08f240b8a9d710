-- What is projected is tidy and of its type, and its faults name what is declared.
use Rattle.std.proofs.Common.{◌≡◌, ℕ, zero, suc, ◌<◌, ◌^◌, ℤ, ◌<ℤ◌, Bool, true, false, true≢false, cond, List, [], ◌∷◌, length, get_or, Option, Some, None, Result, Ok, Err, refl, sym, ap, subst, ◌∙◌, inl, inr, arith}
use Rattle.std.specs.Prelude.{⊤, MatchOption, MatchResult, All, AllPairs, unwrap_or, not, ◌&&◌, ◌==◌}
use Rattle.std.specs.List.{slice_get}
use Rattle.std.specs.Option.{option_map}
use Rattle.std.specs.Ordering.{int_eq}
use Rattle.std.proofs.lemmas.Bool.{false≢true, and_parts, eqb-true}
use Rattle.std.proofs.lemmas.Bool.Decides.{Decides-int_eq}
use Rattle.std.proofs.lemmas.Int.{ints}
use Rattle.thrift_value.specs.Order.{tree_cmp}
use Rattle.thrift_value.specs.Sizes.{items_len, pairs_len, HasSmallSizes, HaveFieldsSmallSizes, HaveItemsSmallSizes, HavePairsSmallSizes}
use Rattle.thrift_value.specs.Tags.{tag_of}
use Rattle.thrift_value.specs.Tidy.{IsTidy, AreWellTaggedFields, AreWellTaggedItems, AreWellTaggedPairs, AreFieldsInOrder, AreItemsInOrder, ArePairsInOrder, IsBelowIds, IsBelowItems, IsBelowKeys, AreRisingFields, AreRisingItems, AreRisingPairs}
use Rattle.thrift_value.specs.Tree.{Tree, of_bool, of_i8, of_i16, of_i32, of_i64, of_double, of_bytes, of_struct, of_map, of_set, of_list, of_uuid, FieldTrees, no_fields, field, ItemTrees, no_items, item, PairTrees, no_pairs, pair}
use Rattle.thrift_value.specs.TreeOf.{field_trees, item_trees, pair_trees}
use Rattle.thrift_value.proofs.TotalOrder.{tree_cmp_total}
use Rattle.std.proofs.lemmas.Cmp.{on_total}
use Rattle.schema.specs.declared.types.FieldNeed.TheVariants as need
use Rattle.schema.specs.declared.types.FieldsKind.{FieldsKind}
use Rattle.schema.specs.declared.types.FieldsKind.TheVariants as of_kind
use Rattle.schema.specs.LookUp.{field_at}
use Rattle.schema.specs.PlainKind.{PlainKind, kind_bool, kind_i8, kind_i16, kind_i32, kind_i64, kind_double, kind_text, kind_binary, kind_uuid, kind_enum, kind_struct, kind_map, kind_set, kind_list}
use Rattle.schema.specs.PlainSchema.{PlainField, PlainStruct, PlainSchema}
use Rattle.schema.specs.Sound.{IsKindIn, IsPlaceIn, IsSoundField, IsSoundStruct, IsValueOf}
use Rattle.schema.specs.WrittenAs.{field_with_id, HasFieldTree, HasItsFields, IsOneField, IsWrittenAs, AreFieldsWrittenAs, AreItemsWrittenAs, ArePairsWrittenAs}
use Rattle.struct_skew.specs.declared.fault.SkewFault.{SkewFault}
use Rattle.struct_skew.specs.declared.fault.SkewFault.TheVariants.{Missing, UnionFields}
use Rattle.struct_skew.specs.Fits.{each_item, each_pair, fits_kind}
use Rattle.known_parts.specs.Parts.{tag_of_kind}
use Rattle.struct_skew.specs.Latest.{latest_of_each, ComesBefore, IsRisingBy}
use Rattle.struct_skew.specs.Offers.{Offer, is_offer_of, last_offer, last_offer_behind}
use Rattle.struct_skew.specs.Projection.{is_required, is_union, counted_default, unsent_value, field_value, field_values, checked_struct, struct_value, key_cmp, map_meaning, set_meaning, list_meaning, meaning_of, offers_of, item_meanings, pair_meanings}
use Rattle.struct_skew.specs.ProjectionLaws.{NamesDeclared}
use Rattle.struct_skew.specs.Results.{with_value, and_if_ok, both_values, with_first, with_field_value}
use Rattle.struct_skew.specs.Unions.{one_of_union}
use Rattle.struct_skew.proofs.Deciding.{required_need, union_kind}
use Rattle.struct_skew.proofs.Each.{Each, from_all, to_all, Each-then, Each-latest, length-latest}
use Rattle.struct_skew.proofs.FieldValues.{checked_alike}
use Rattle.struct_skew.proofs.LatestLaws.{IsRisingBy-latest}
use Rattle.struct_skew.proofs.StructsAt.{All-at}

-- a value is tidy and of a type, and its sizes are small where something holds
pub record IsRight (structs : List PlainStruct) (small : Type 0) (kind : PlainKind) (v : Tree) : Type 0 where
  pub tidy : IsTidy v
  pub typed : IsWrittenAs structs kind v
  pub sized : small → HasSmallSizes v

-- a value of a type has the type's tag
pub written_tag : (structs : List PlainStruct) (kind : PlainKind) (v : Tree) → IsWrittenAs structs kind v → tag_of v ≡ tag_of_kind kind
written_tag structs kind_bool (of_bool _) h = refl
written_tag structs kind_i8 (of_i8 _) h = refl
written_tag structs kind_i16 (of_i16 _) h = refl
written_tag structs kind_i32 (of_i32 _) h = refl
written_tag structs kind_i64 (of_i64 _) h = refl
written_tag structs kind_double (of_double _) h = refl
written_tag structs kind_uuid (of_uuid _) h = refl
written_tag structs kind_text (of_bytes _) h = refl
written_tag structs kind_binary (of_bytes _) h = refl
written_tag structs (kind_enum _) (of_i32 _) h = refl
written_tag structs (kind_struct _) (of_struct _) h = refl
written_tag structs (kind_map key value) (of_map _ _ pairs) h = refl
written_tag structs (kind_set member) (of_set _ items) h = refl
written_tag structs (kind_list element) (of_list _ items) h = refl
written_tag structs _ _ h = absurd h

-- items and pairs that rise
pub rising_items : (xs : List Tree) → IsRisingBy tree_cmp xs → AreRisingItems (item_trees xs)
rising_items [] rising = tt
rising_items (x ∷ xs) rising = (before x xs rising.0, rising_items xs rising.1)
  where
    before : (x : Tree) (ys : List Tree) → ComesBefore tree_cmp x ys → IsBelowItems x (item_trees ys)
    before x [] h = tt
    before x (y ∷ ys) h = (h.0, before x ys h.1)

pub rising_pairs : (ps : List (Tree × Tree)) → IsRisingBy key_cmp ps → AreRisingPairs (pair_trees ps)
rising_pairs [] rising = tt
rising_pairs (p ∷ ps) rising = (before p ps rising.0, rising_pairs ps rising.1)
  where
    before : (p : Tree × Tree) (qs : List (Tree × Tree)) → ComesBefore key_cmp p qs → IsBelowKeys p.0 (pair_trees qs)
    before p [] h = tt
    before p (q ∷ qs) h = (h.0, before p qs h.1)

len_items : (xs : List Tree) → items_len (item_trees xs) ≡ length xs
len_items [] = refl
len_items (x ∷ xs) = ap suc (len_items xs)

len_pairs : (ps : List (Tree × Tree)) → pairs_len (pair_trees ps) ≡ length ps
len_pairs [] = refl
len_pairs (p ∷ ps) = ap suc (len_pairs ps)

-- declared fields by rising id
abbrev pub IsBelowDeclared : ℤ → List PlainField → Type 0
IsBelowDeclared id [] = ⊤
IsBelowDeclared id (f ∷ fs) = (id <ℤ f.id) × IsBelowDeclared id fs

abbrev pub AreRisingDeclared : List PlainField → Type 0
AreRisingDeclared [] = ⊤
AreRisingDeclared (f ∷ fs) = IsBelowDeclared f.id fs × AreRisingDeclared fs

below_declared : (id : ℤ) (fs : List PlainField) → ((k : ℕ) (d : PlainField) → k < length fs → id <ℤ (get_or fs k d).id) → IsBelowDeclared id fs
below_declared id [] h = tt
below_declared id (f ∷ fs) h = (h zero f (omega arith), below_declared id fs (λ k d low. h (suc k) d (omega arith)))

pub rising_declared : (fs : List PlainField) → AllPairs (λ (f g : PlainField). f.id <ℤ g.id) fs → AreRisingDeclared fs
rising_declared [] rising = tt
rising_declared (f ∷ fs) rising = (
  below_declared f.id fs (λ k d low. rising zero (suc k) d (omega arith) (omega arith)),
  rising_declared fs (λ i j d low within. rising (suc i) (suc j) d (omega arith) (omega arith)),
)

-- the declared field with an id of each of some fields is that field
abbrev pub Finds : List PlainField → List PlainField → Type 0
Finds declared fs = Each (λ (f : PlainField). field_with_id f.id declared ≡ Some f) fs

other_id : (f : PlainField) (id : ℤ) → f.id <ℤ id → int_eq f.id id ≡ false
other_id f id low = no_test (int_eq f.id id) (λ e. let same = (Decides-int_eq f.id id).0 e in omega (arith, ints, same))
  where
    no_test : (b : Bool) → (b ≡ true → ⊥) → b ≡ false
    no_test true never = absurd (never refl)
    no_test false never = refl

still_found : (f : PlainField) (declared gs : List PlainField) → IsBelowDeclared f.id gs → Finds declared gs → Finds (f ∷ declared) gs
still_found f declared [] below finds = tt
still_found f declared (g ∷ gs) below finds =
    (ap (λ b. cond b (Some f) (field_with_id g.id declared)) (other_id f g.id below.0) ∙ finds.0, still_found f declared gs below.1 finds.1)

pub each_found : (fs : List PlainField) → AreRisingDeclared fs → Finds fs fs
each_found [] rising = tt
each_found (f ∷ fs) rising =
    (ap (λ b. cond b (Some f) (field_with_id f.id fs)) ((Decides-int_eq f.id f.id).1 refl), still_found f fs fs rising.0 (each_found fs rising.1))

-- a field in front of others, where it has a value
abbrev pub put_field : ℤ → Option Tree → List (ℤ × Tree) → List (ℤ × Tree)
put_field id None rest = rest
put_field id (Some v) rest = (id, v) ∷ rest

module _ (s : PlainSchema) (sound : All (IsSoundStruct s) s.structs) (small : Type 0) where
  abbrev Right : PlainKind → Tree → Type 0
  Right = IsRight s.structs small

  -- what is found, or a fault that names what is declared
  abbrev Meant : {A : Type 0} → (A → Type 0) → Result A SkewFault → Type 0
  Meant P r = MatchResult r P (NamesDeclared s)

  -- containers of values that are right
  items_tagged : (kind : PlainKind) (xs : List Tree) → Each (Right kind) xs → AreWellTaggedItems (tag_of_kind kind) (item_trees xs)
  items_tagged kind [] h = tt
  items_tagged kind (x ∷ xs) h = (written_tag s.structs kind x h.0.typed, h.0.tidy.tagged, items_tagged kind xs h.1)

  items_ordered : (kind : PlainKind) (xs : List Tree) → Each (Right kind) xs → AreItemsInOrder (item_trees xs)
  items_ordered kind [] h = tt
  items_ordered kind (x ∷ xs) h = (h.0.tidy.in_order, items_ordered kind xs h.1)

  items_typed : (kind : PlainKind) (xs : List Tree) → Each (Right kind) xs → AreItemsWrittenAs s.structs kind (item_trees xs)
  items_typed kind [] h = tt
  items_typed kind (x ∷ xs) h = (h.0.typed, items_typed kind xs h.1)

  items_sized : (kind : PlainKind) (xs : List Tree) → Each (Right kind) xs → small → HaveItemsSmallSizes (item_trees xs)
  items_sized kind [] h y = tt
  items_sized kind (x ∷ xs) h y = (h.0.sized y, items_sized kind xs h.1 y)

  list_right : (kind : PlainKind) (n : ℕ) (xs : List Tree) → Each (Right kind) xs → length xs ≡ n → (small → n < 2 ^ 31) → Right (kind_list kind) (list_meaning kind xs)
  list_right kind n xs h len few = record {
    tidy = record { tagged = items_tagged kind xs h; in_order = items_ordered kind xs h };
    typed = items_typed kind xs h;
    sized = λ y. (subst (λ m. m < 2 ^ 31) (sym (len_items xs ∙ len)) (few y), items_sized kind xs h y);
  }

  set_right : (kind : PlainKind) (n : ℕ) (xs : List Tree) → Each (Right kind) xs → length xs ≡ n → (small → n < 2 ^ 31) → Right (kind_set kind) (set_meaning kind xs)
  set_right kind n xs all len few =
      let ys = latest_of_each tree_cmp xs in
      let h : Each (Right kind) ys = Each-latest (Right kind) tree_cmp xs all in record {
        tidy = record { tagged = items_tagged kind ys h; in_order = (rising_items ys (IsRisingBy-latest tree_cmp tree_cmp_total xs), items_ordered kind ys h) };
        typed = items_typed kind ys h;
        sized = λ y. (let size = few y in let fewer = length-latest tree_cmp xs in omega (arith, size, fewer, len, len_items ys), items_sized kind ys h y);
      }

  abbrev RightPair : PlainKind → PlainKind → Tree × Tree → Type 0
  RightPair key value p = Right key p.0 × Right value p.1

  pairs_tagged : (key value : PlainKind) (ps : List (Tree × Tree)) → Each (RightPair key value) ps → AreWellTaggedPairs (tag_of_kind key) (tag_of_kind value) (pair_trees ps)
  pairs_tagged key value [] h = tt
  pairs_tagged key value (p ∷ ps) h =
      (written_tag s.structs key p.0 h.0.0.typed, written_tag s.structs value p.1 h.0.1.typed, h.0.0.tidy.tagged, h.0.1.tidy.tagged, pairs_tagged key value ps h.1)

  pairs_ordered : (key value : PlainKind) (ps : List (Tree × Tree)) → Each (RightPair key value) ps → ArePairsInOrder (pair_trees ps)
  pairs_ordered key value [] h = tt
  pairs_ordered key value (p ∷ ps) h = (h.0.0.tidy.in_order, h.0.1.tidy.in_order, pairs_ordered key value ps h.1)

  pairs_typed : (key value : PlainKind) (ps : List (Tree × Tree)) → Each (RightPair key value) ps → ArePairsWrittenAs s.structs key value (pair_trees ps)
  pairs_typed key value [] h = tt
  pairs_typed key value (p ∷ ps) h = (h.0.0.typed, h.0.1.typed, pairs_typed key value ps h.1)

  pairs_sized : (key value : PlainKind) (ps : List (Tree × Tree)) → Each (RightPair key value) ps → small → HavePairsSmallSizes (pair_trees ps)
  pairs_sized key value [] h y = tt
  pairs_sized key value (p ∷ ps) h y = (h.0.0.sized y, h.0.1.sized y, pairs_sized key value ps h.1 y)

  map_right : (key value : PlainKind) (n : ℕ) (ps : List (Tree × Tree)) → Each (RightPair key value) ps → length ps ≡ n → (small → n < 2 ^ 31)
      → Right (kind_map key value) (map_meaning key value ps)
  map_right key value n ps all len few =
      let qs = latest_of_each key_cmp ps in
      let h : Each (RightPair key value) qs = Each-latest (RightPair key value) key_cmp ps all in record {
        tidy = record { tagged = pairs_tagged key value qs h; in_order = (rising_pairs qs (IsRisingBy-latest key_cmp (on_total (λ p. p.0) tree_cmp_total) ps), pairs_ordered key value qs h) };
        typed = pairs_typed key value qs h;
        sized = λ y. (let size = few y in let fewer = length-latest key_cmp ps in omega (arith, size, fewer, len, len_pairs qs), pairs_sized key value qs h y);
      }

  -- what is found for a declared field
  abbrev FieldRight : PlainField → Option Tree → Type 0
  FieldRight f None = is_required f.need ≡ false
  FieldRight f (Some v) = Right f.kind v

  -- what is found for declared fields
  abbrev Found : List PlainField → List (ℤ × Tree) → Type 0
  Found [] found = found ≡ []
  Found (f ∷ fs) found = (v : Option Tree) × (rest : List (ℤ × Tree)) × (found ≡ put_field f.id v rest) × FieldRight f v × Found fs rest

  module _ (P : List PlainField → List (ℤ × Tree) → Type 0) (none : P [] [])
      (without : (f : PlainField) (fs : List PlainField) (rest : List (ℤ × Tree)) → is_required f.need ≡ false → P fs rest → P (f ∷ fs) rest)
      (more : (f : PlainField) (fs : List PlainField) (v : Tree) (rest : List (ℤ × Tree)) → Right f.kind v → P fs rest → P (f ∷ fs) ((f.id, v) ∷ rest)) where
    by_value : (f : PlainField) (fs : List PlainField) (v : Option Tree) (rest : List (ℤ × Tree)) → FieldRight f v → P fs rest → P (f ∷ fs) (put_field f.id v rest)
    by_value f fs None rest right p = without f fs rest right p
    by_value f fs (Some v) rest right p = more f fs v rest right p

    by_found : (fs : List PlainField) (found : List (ℤ × Tree)) → Found fs found → P fs found
    by_found [] found is = subst (P []) (sym is) none
    by_found (f ∷ fs) found is = subst (P (f ∷ fs)) (sym is.2) (by_value f fs is.0 is.1 is.3 (by_found fs is.1 is.4))

  fields_tagged : (fs : List PlainField) (found : List (ℤ × Tree)) → Found fs found → AreWellTaggedFields (field_trees found)
  fields_tagged = by_found (λ _ found. AreWellTaggedFields (field_trees found)) tt (λ _ _ _ _ p. p) (λ _ _ _ _ right p. (right.tidy.tagged, p))

  fields_ordered : (fs : List PlainField) (found : List (ℤ × Tree)) → Found fs found → AreFieldsInOrder (field_trees found)
  fields_ordered = by_found (λ _ found. AreFieldsInOrder (field_trees found)) tt (λ _ _ _ _ p. p) (λ _ _ _ _ right p. (right.tidy.in_order, p))

  fields_sized : (fs : List PlainField) (found : List (ℤ × Tree)) → Found fs found → small → HaveFieldsSmallSizes (field_trees found)
  fields_sized = by_found (λ _ found. small → HaveFieldsSmallSizes (field_trees found)) (λ _. tt) (λ _ _ _ _ p. p) (λ _ _ _ _ right p y. (right.sized y, p y))

  fields_typed : (declared fs : List PlainField) (found : List (ℤ × Tree)) → Found fs found → Finds declared fs → AreFieldsWrittenAs s.structs declared (field_trees found)
  fields_typed declared =
      by_found (λ fs found. Finds declared fs → AreFieldsWrittenAs s.structs declared (field_trees found)) (λ _. tt) (λ _ _ _ _ p finds. p finds.1)
      (λ f _ v _ right p finds. (subst (λ o. MatchOption o ⊥ (λ (g : PlainField). IsWrittenAs s.structs g.kind v)) (sym finds.0) right.typed, p finds.1))

  -- fields by rising id, also behind an id that is below all
  abbrev Rise : List PlainField → List (ℤ × Tree) → Type 0
  Rise fs found = (AreRisingDeclared fs → AreRisingFields (field_trees found)) × ((id : ℤ) → IsBelowDeclared id fs → IsBelowIds id (field_trees found))

  fields_rise : (fs : List PlainField) (found : List (ℤ × Tree)) → Found fs found → Rise fs found
  fields_rise =
      by_found Rise ((λ _. tt), (λ _ _. tt)) (λ _ _ _ _ p. ((λ rising. p.0 rising.1), (λ id below. p.1 id below.1)))
      (λ f _ _ _ _ p. ((λ rising. (p.1 f.id rising.0, p.0 rising.1)), (λ id below. (below.0, p.1 id below.1))))

  abbrev IsThere : List (ℤ × Tree) → PlainField → Type 0
  IsThere found f = f.need ≡ need.Required → HasFieldTree f.id (field_trees found)

  required_there : (fs : List PlainField) (found : List (ℤ × Tree)) → Found fs found → Each (IsThere found) fs
  required_there =
      by_found (λ fs found. Each (IsThere found) fs) tt
      (λ f fs rest unneeded p. ((λ e. absurd (true≢false (sym ((required_need f.need).1 e) ∙ unneeded))), p))
      (λ f fs v rest right p. ((λ _. inl refl), Each-then (IsThere rest) (IsThere ((f.id, v) ∷ rest)) (λ g there e. inr (there e)) fs p))

  -- what is right of raw fields
  abbrev OfferRight : Offer → Type 0
  OfferRight o = (kind : PlainKind) → IsKindIn s kind → fits_kind kind o.value ≡ true → Meant (Right kind) (o.meaning kind)

  abbrev Good : PlainField → Option Offer → Type 0
  Good f None = ⊤
  Good f (Some o) = Meant (Right f.kind) (o.meaning f.kind)

  last_good : (f : PlainField) → IsKindIn s f.kind → (before : Option Offer) → Good f before → (offers : List Offer) → Each OfferRight offers → Good f (last_offer_behind f before offers)
  last_good f inn before good [] all = good
  last_good f inn before good (o ∷ os) all = last_good f inn (cond (is_offer_of f o) (Some o) before) (chosen (is_offer_of f o) refl) os all.1
    where
      chosen : (b : Bool) → is_offer_of f o ≡ b → Good f (cond b (Some o) before)
      chosen true e = all.0 f.kind inn (and_parts (int_eq f.id o.id) (fits_kind f.kind o.value) e).1
      chosen false e = good

  default_right : (f : PlainField) (d : Option Tree) → MatchOption d ⊤ (IsValueOf s f.kind) → is_required f.need ≡ false → FieldRight f d
  default_right f None is unneeded = unneeded
  default_right f (Some v) is unneeded = record { tidy = is.tidy; typed = is.written.fits; sized = λ _. is.written.sizes }

  unsent_right : (which : ℕ) (kind : FieldsKind) (f : PlainField) → field_at s which f.id ≡ Some f → IsSoundField s f → Meant (FieldRight f) (unsent_value which kind f)
  unsent_right which kind f here is = by_need (is_required f.need) refl
    where
      by_kind : (u : Bool) → is_required f.need ≡ false → FieldRight f (cond u None f.default)
      by_kind true unneeded = unneeded
      by_kind false unneeded = default_right f f.default is.default unneeded

      by_need : (b : Bool) → is_required f.need ≡ b → Meant (FieldRight f) (cond b (Err (Missing which f.id)) (Ok (counted_default kind f)))
      by_need true e = subst (λ o. MatchOption o ⊥ (λ (g : PlainField). g.need ≡ need.Required)) (sym here) ((required_need f.need).0 e)
      by_need false e = by_kind (is_union kind) e

  field_right : (which : ℕ) (kind : FieldsKind) (f : PlainField) (o : Option Offer) → field_at s which f.id ≡ Some f → IsSoundField s f → Good f o → Meant (FieldRight f) (field_value which kind f o)
  field_right which kind f None here is good = unsent_right which kind f here is
  field_right which kind f (Some o) here is good = as_some (o.meaning f.kind) good
    where
      as_some : (r : Result Tree SkewFault) → Meant (Right f.kind) r → Meant (FieldRight f) (with_value Some r)
      as_some (Ok v) right = right
      as_some (Err e) names = names

  fields_found : (which : ℕ) (kind : FieldsKind) (offers : List Offer) → Each OfferRight offers → (fs : List PlainField)
      → Each (λ (f : PlainField). field_at s which f.id ≡ Some f) fs → Each (IsSoundField s) fs → Meant (Found fs) (field_values which kind fs offers)
  fields_found which kind offers all [] here is = refl
  fields_found which kind offers all (f ∷ fs) here is =
      joined (field_value which kind f (last_offer f offers)) (field_values which kind fs offers)
      (field_right which kind f (last_offer f offers) here.0 is.0 (last_good f is.0.kind None tt offers all)) (fields_found which kind offers all fs here.1 is.1)
    where
      joined : (r : Result (Option Tree) SkewFault) (t : Result (List (ℤ × Tree)) SkewFault) → Meant (FieldRight f) r → Meant (Found fs) t → Meant (Found (f ∷ fs)) (with_field_value f.id r t)
      joined (Ok (Some v)) (Ok rest) right found = (Some v, rest, refl, right, found)
      joined (Ok (Some v)) (Err e) right names = names
      joined (Ok None) (Ok rest) right found = (None, rest, refl, right, found)
      joined (Ok None) (Err e) right names = names
      joined (Err e) t names more = names

  -- a struct of what was found
  module _ (which : ℕ) (d : PlainStruct) (here : slice_get s.structs which ≡ Some d) where
    is : IsSoundStruct s d
    is = All-at (IsSoundStruct s) s.structs which d sound here

    rising : AreRisingDeclared d.fields
    rising = rising_declared d.fields is.fields.rising

    found_at : Each (λ (f : PlainField). field_at s which f.id ≡ Some f) d.fields
    found_at =
        Each-then (λ (f : PlainField). field_with_id f.id d.fields ≡ Some f) (λ (f : PlainField). field_at s which f.id ≡ Some f)
        (λ f e. ap (λ o. field_with_id f.id (unwrap_or (option_map (λ (x : PlainStruct). x.fields) o) [])) here ∙ e) d.fields (each_found d.fields rising)

    struct_of_found : (found : List (ℤ × Tree)) → Found d.fields found → (d.kind ≡ of_kind.Union → IsOneField (field_trees found)) → Right (kind_struct which) (of_struct (field_trees found))
    struct_of_found found h one = record {
      tidy = record { tagged = fields_tagged d.fields found h; in_order = ((fields_rise d.fields found h).0 rising, fields_ordered d.fields found h) };
      typed =
          subst (λ o. MatchOption o ⊥ (λ (x : PlainStruct). HasItsFields x (field_trees found) × AreFieldsWrittenAs s.structs x.fields (field_trees found))) (sym here)
          (record { required = to_all (IsThere found) d.fields (required_there d.fields found h); of_union = one }, fields_typed d.fields d.fields found h (each_found d.fields rising));
      sized = fields_sized d.fields found h;
    }

    one_of : (found : List (ℤ × Tree)) → Found d.fields found → Meant (Right (kind_struct which)) (one_of_union which d.kind found)
    one_of found h = by_kind (is_union d.kind) (length found == 1) refl refl
      where
        single : (xs : List (ℤ × Tree)) → length xs ≡ 1 → IsOneField (field_trees xs)
        single [] e = absurd (omega (arith, e))
        single (x ∷ []) e = tt
        single (x ∷ (y ∷ ys)) e = absurd (omega (arith, e))

        by_kind : (u one : Bool) → is_union d.kind ≡ u → (length found == 1) ≡ one
            → Meant (Right (kind_struct which)) (cond (u && not one) (Err (UnionFields which)) (Ok (of_struct (field_trees found))))
        by_kind true true e f = struct_of_found found h (λ _. single found (eqb-true (length found) 1 f))
        by_kind true false e f = subst (λ o. MatchOption o ⊥ (λ (x : PlainStruct). x.kind ≡ of_kind.Union)) (sym here) ((union_kind d.kind).0 e)
        by_kind false one e f = struct_of_found found h (λ is_one. absurd (false≢true (sym e ∙ (union_kind d.kind).1 is_one)))

    struct_right : (offers : List Offer) → Each OfferRight offers → Meant (Right (kind_struct which)) (struct_value which (Some d) offers)
    struct_right offers all = checked (field_values which d.kind d.fields offers) refl (fields_found which d.kind offers all d.fields found_at (from_all (IsSoundField s) d.fields is.fields.each))
      where
        checked : (r : Result (List (ℤ × Tree)) SkewFault) → field_values which d.kind d.fields offers ≡ r → Meant (Found d.fields) r
            → Meant (Right (kind_struct which)) (and_if_ok r (checked_struct which d offers))
        checked (Ok found) e h = subst (Meant (Right (kind_struct which))) (sym (checked_alike which d offers found e)) (one_of found h)
        checked (Err e) _ names = names

  place_right : (which : ℕ) (offers : List Offer) → IsPlaceIn s.structs which → Each OfferRight offers → (o : Option PlainStruct) → slice_get s.structs which ≡ o
      → Meant (Right (kind_struct which)) (struct_value which o offers)
  place_right which offers within all (Some d) here = struct_right which d here offers all
  place_right which offers within all None here = absurd (no_place s.structs which within here)
    where
      no_place : (ds : List PlainStruct) (k : ℕ) → k < length ds → slice_get ds k ≡ None → ⊥
      no_place [] k low none = omega arith
      no_place (d ∷ ds) zero low none = cc
      no_place (d ∷ ds) (suc k) low none = no_place ds k (omega arith) none

  -- what a container's elements are, and how many
  abbrev Items : PlainKind → ℕ → List Tree → Type 0
  Items kind n xs = Each (Right kind) xs × (length xs ≡ n)

  abbrev Pairs : PlainKind → PlainKind → ℕ → List (Tree × Tree) → Type 0
  Pairs key value n ps = Each (RightPair key value) ps × (length ps ≡ n)

  Meant-then : {A B : Type 0} (P : A → Type 0) (Q : B → Type 0) (f : A → B) → ((x : A) → P x → Q (f x)) → (r : Result A SkewFault) → Meant P r → Meant Q (with_value f r)
  Meant-then P Q f on (Ok x) h = on x h
  Meant-then P Q f on (Err e) names = names

  one_more : (kind : PlainKind) (n : ℕ) (r : Result Tree SkewFault) (t : Result (List Tree) SkewFault) → Meant (Right kind) r → Meant (Items kind n) t → Meant (Items kind (suc n)) (with_first r t)
  one_more kind n (Ok x) (Ok xs) right all = ((right, all.0), ap suc all.1)
  one_more kind n (Ok x) (Err e) right names = names
  one_more kind n (Err e) t names all = names

  pair_more : (key value : PlainKind) (n : ℕ) (r q : Result Tree SkewFault) (t : Result (List (Tree × Tree)) SkewFault) → Meant (Right key) r → Meant (Right value) q → Meant (Pairs key value n) t
      → Meant (Pairs key value (suc n)) (with_first (both_values r q) t)
  pair_more key value n (Ok x) (Ok y) (Ok ps) one other all = (((one, other), all.0), ap suc all.1)
  pair_more key value n (Ok x) (Ok y) (Err e) one other names = names
  pair_more key value n (Ok x) (Err e) t one names all = names
  pair_more key value n (Err e) q t names other all = names

  mutual
    pub meaning_right : (raw : Tree) (kind : PlainKind) → IsKindIn s kind → fits_kind kind raw ≡ true → (small → HasSmallSizes raw) → Meant (Right kind) (meaning_of s.structs raw kind)
    meaning_right (of_bool _) kind_bool inn fits sized = record { tidy = record { tagged = tt; in_order = tt }; typed = tt; sized = sized }
    meaning_right (of_i8 _) kind_i8 inn fits sized = record { tidy = record { tagged = tt; in_order = tt }; typed = tt; sized = sized }
    meaning_right (of_i16 _) kind_i16 inn fits sized = record { tidy = record { tagged = tt; in_order = tt }; typed = tt; sized = sized }
    meaning_right (of_i32 _) kind_i32 inn fits sized = record { tidy = record { tagged = tt; in_order = tt }; typed = tt; sized = sized }
    meaning_right (of_i32 _) (kind_enum _) inn fits sized = record { tidy = record { tagged = tt; in_order = tt }; typed = tt; sized = sized }
    meaning_right (of_i64 _) kind_i64 inn fits sized = record { tidy = record { tagged = tt; in_order = tt }; typed = tt; sized = sized }
    meaning_right (of_double _) kind_double inn fits sized = record { tidy = record { tagged = tt; in_order = tt }; typed = tt; sized = sized }
    meaning_right (of_uuid _) kind_uuid inn fits sized = record { tidy = record { tagged = tt; in_order = tt }; typed = tt; sized = sized }
    meaning_right (of_bytes _) kind_text inn fits sized = record { tidy = record { tagged = tt; in_order = tt }; typed = tt; sized = sized }
    meaning_right (of_bytes _) kind_binary inn fits sized = record { tidy = record { tagged = tt; in_order = tt }; typed = tt; sized = sized }
    meaning_right (of_struct fields) (kind_struct which) inn fits sized =
        place_right which (offers_of s.structs fields) inn (offers_right fields sized) (slice_get s.structs which) refl
    meaning_right (of_map _ _ pairs) (kind_map key value) inn fits sized =
        Meant-then (Pairs key value (pairs_len pairs)) (Right (kind_map key value)) (map_meaning key value)
        (λ ps h. map_right key value (pairs_len pairs) ps h.0 h.1 (λ y. (sized y).0)) (pair_meanings s.structs pairs key value)
        (pairs_right pairs key value inn.0 inn.1 fits (λ y. (sized y).1))
    meaning_right (of_set _ items) (kind_set member) inn fits sized =
        Meant-then (Items member (items_len items)) (Right (kind_set member)) (set_meaning member)
        (λ xs h. set_right member (items_len items) xs h.0 h.1 (λ y. (sized y).0)) (item_meanings s.structs items member)
        (items_right items member inn fits (λ y. (sized y).1))
    meaning_right (of_list _ items) (kind_list element) inn fits sized =
        Meant-then (Items element (items_len items)) (Right (kind_list element)) (list_meaning element)
        (λ xs h. list_right element (items_len items) xs h.0 h.1 (λ y. (sized y).0)) (item_meanings s.structs items element)
        (items_right items element inn fits (λ y. (sized y).1))
    meaning_right _ _ inn fits sized = absurd (false≢true fits)

    offers_right : (fields : FieldTrees) → (small → HaveFieldsSmallSizes fields) → Each OfferRight (offers_of s.structs fields)
    offers_right no_fields sized = tt
    offers_right (field id value more) sized = ((λ kind inn fits. meaning_right value kind inn fits (λ y. (sized y).0)), offers_right more (λ y. (sized y).1))

    items_right : (items : ItemTrees) (kind : PlainKind) → IsKindIn s kind → each_item (fits_kind kind) items ≡ true → (small → HaveItemsSmallSizes items)
        → Meant (Items kind (items_len items)) (item_meanings s.structs items kind)
    items_right no_items kind inn fits sized = (tt, refl)
    items_right (item value more) kind inn fits sized =
        let both = and_parts (fits_kind kind value) (each_item (fits_kind kind) more) fits in
        one_more kind (items_len more) (meaning_of s.structs value kind) (item_meanings s.structs more kind)
        (meaning_right value kind inn both.0 (λ y. (sized y).0)) (items_right more kind inn both.1 (λ y. (sized y).1))

    pairs_right : (pairs : PairTrees) (key_kind value_kind : PlainKind) → IsKindIn s key_kind → IsKindIn s value_kind → each_pair (fits_kind key_kind) (fits_kind value_kind) pairs ≡ true
        → (small → HavePairsSmallSizes pairs) → Meant (Pairs key_kind value_kind (pairs_len pairs)) (pair_meanings s.structs pairs key_kind value_kind)
    pairs_right no_pairs key_kind value_kind key_in value_in fits sized = (tt, refl)
    pairs_right (pair key value more) key_kind value_kind key_in value_in fits sized =
        let both = and_parts (fits_kind key_kind key && fits_kind value_kind value) (each_pair (fits_kind key_kind) (fits_kind value_kind) more) fits in
        let first = and_parts (fits_kind key_kind key) (fits_kind value_kind value) both.0 in
        pair_more key_kind value_kind (pairs_len more) (meaning_of s.structs key key_kind) (meaning_of s.structs value value_kind) (pair_meanings s.structs more key_kind value_kind)
        (meaning_right key key_kind key_in first.0 (λ y. (sized y).0)) (meaning_right value value_kind value_in first.1 (λ y. (sized y).1))
        (pairs_right more key_kind value_kind key_in value_in both.1 (λ y. (sized y).2))
