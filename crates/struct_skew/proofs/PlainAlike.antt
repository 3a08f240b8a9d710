-- A value and its plain form fit the same types, and mean the same under them.
use Rattle.std.proofs.Common.{◌≡◌, ℕ, Bool, true, false, cond, List, [], ◌∷◌, Option, Some, None, refl, ap, ap₂}
use Rattle.std.specs.Prelude.{◌&&◌}
use Rattle.std.specs.List.{slice_get}
use Rattle.std.specs.Ordering.{int_eq}
use Rattle.std.proofs.lemmas.Bool.{false≢true}
use Rattle.thrift_value.specs.Plain.{plain, plain_fields, plain_items, plain_pairs}
use Rattle.thrift_value.specs.Tree.{Tree, of_struct, of_map, of_set, of_list, FieldTrees, no_fields, field, ItemTrees, no_items, item, PairTrees, no_pairs, pair}
use Rattle.schema.specs.PlainKind.{PlainKind, kind_struct, kind_map, kind_set, kind_list}
use Rattle.schema.specs.PlainSchema.{PlainField, PlainStruct}
use Rattle.struct_skew.specs.Fits.{each_item, each_pair, fits_kind}
use Rattle.struct_skew.specs.Offers.{Offer, last_offer, last_offer_behind}
use Rattle.struct_skew.specs.Projection.{struct_value, map_meaning, set_meaning, list_meaning, meaning_of, offers_of, item_meanings, pair_meanings}
use Rattle.struct_skew.specs.Results.{with_value, both_values, with_first}
use Rattle.struct_skew.proofs.Alike.{AreAlike, AreAllAlike, none_alike, alike_on, struct_alike}

-- both of two tests
pub both : (a b : Bool) → (a && b) ≡ true → (a ≡ true) × (b ≡ true)
both true true e = (refl, refl)
both true false e = absurd (false≢true e)
both false b e = absurd (false≢true e)

mutual
  pub fits_alike : (kind : PlainKind) (v : Tree) → fits_kind kind (plain v) ≡ fits_kind kind v
  fits_alike (kind_map key value) (of_map _ _ no_pairs) = refl
  fits_alike (kind_map key value) (of_map _ _ (pair a b more)) = pairs_fit_alike key value (pair a b more)
  fits_alike _ (of_map _ _ no_pairs) = refl
  fits_alike _ (of_map _ _ (pair a b more)) = refl
  fits_alike (kind_set member) (of_set _ no_items) = refl
  fits_alike (kind_set member) (of_set _ (item a more)) = items_fit_alike member (item a more)
  fits_alike _ (of_set _ no_items) = refl
  fits_alike _ (of_set _ (item a more)) = refl
  fits_alike (kind_list element) (of_list _ no_items) = refl
  fits_alike (kind_list element) (of_list _ (item a more)) = items_fit_alike element (item a more)
  fits_alike _ (of_list _ no_items) = refl
  fits_alike _ (of_list _ (item a more)) = refl
  fits_alike _ _ = refl

  items_fit_alike : (kind : PlainKind) (items : ItemTrees) → each_item (fits_kind kind) (plain_items items) ≡ each_item (fits_kind kind) items
  items_fit_alike kind no_items = refl
  items_fit_alike kind (item v more) = ap₂ (λ a b. a && b) (fits_alike kind v) (items_fit_alike kind more)

  pairs_fit_alike : (key value : PlainKind) (pairs : PairTrees) → each_pair (fits_kind key) (fits_kind value) (plain_pairs pairs) ≡ each_pair (fits_kind key) (fits_kind value) pairs
  pairs_fit_alike key value no_pairs = refl
  pairs_fit_alike key value (pair a b more) =
      ap₂ (λ x y. x && y) (ap₂ (λ x y. x && y) (fits_alike key a) (fits_alike value b)) (pairs_fit_alike key value more)

structs_alike : (which : ℕ) (s : Option PlainStruct) (one other : List Offer) → ((f : PlainField) → AreAlike f (last_offer f one) (last_offer f other))
    → struct_value which s one ≡ struct_value which s other
structs_alike which None one other same = refl
structs_alike which (Some s) one other same = struct_alike which s one other (each s.fields)
  where
    each : (fs : List PlainField) → AreAllAlike fs one other
    each [] = tt
    each (f ∷ fs) = (same f, each fs)

module _ (structs : List PlainStruct) where
  mutual
    pub means_alike : (kind : PlainKind) (v : Tree) → fits_kind kind v ≡ true → meaning_of structs (plain v) kind ≡ meaning_of structs v kind
    means_alike (kind_struct which) (of_struct fields) fit =
        structs_alike which (slice_get structs which) (offers_of structs (plain_fields fields)) (offers_of structs fields)
        (λ f. offers_alike f None None (none_alike f) fields)
    means_alike _ (of_struct fields) fit = absurd (false≢true fit)
    means_alike (kind_map key value) (of_map _ _ no_pairs) fit = refl
    means_alike (kind_map key value) (of_map _ _ (pair a b more)) fit = ap (with_value (map_meaning key value)) (pairs_mean_alike key value (pair a b more) fit)
    means_alike _ (of_map _ _ no_pairs) fit = absurd (false≢true fit)
    means_alike _ (of_map _ _ (pair a b more)) fit = absurd (false≢true fit)
    means_alike (kind_set member) (of_set _ no_items) fit = refl
    means_alike (kind_set member) (of_set _ (item a more)) fit = ap (with_value (set_meaning member)) (items_mean_alike member (item a more) fit)
    means_alike _ (of_set _ no_items) fit = absurd (false≢true fit)
    means_alike _ (of_set _ (item a more)) fit = absurd (false≢true fit)
    means_alike (kind_list element) (of_list _ no_items) fit = refl
    means_alike (kind_list element) (of_list _ (item a more)) fit = ap (with_value (list_meaning element)) (items_mean_alike element (item a more) fit)
    means_alike _ (of_list _ no_items) fit = absurd (false≢true fit)
    means_alike _ (of_list _ (item a more)) fit = absurd (false≢true fit)
    means_alike _ _ fit = refl

    offers_alike : (f : PlainField) (one other : Option Offer) → AreAlike f one other → (fields : FieldTrees)
        → AreAlike f (last_offer_behind f one (offers_of structs (plain_fields fields))) (last_offer_behind f other (offers_of structs fields))
    offers_alike f one other h no_fields = h
    offers_alike f one other h (field id v more) =
        let x : Offer = record { id = id; value = plain v; meaning = meaning_of structs (plain v) } in
        let y : Offer = record { id = id; value = v; meaning = meaning_of structs v } in
        offers_alike f (cond (int_eq f.id id && fits_kind f.kind (plain v)) (Some x) one) (cond (int_eq f.id id && fits_kind f.kind v) (Some y) other)
        (alike_on f (int_eq f.id id) (fits_kind f.kind (plain v)) (fits_kind f.kind v) one other x y h (λ _. fits_alike f.kind v) (λ _. means_alike f.kind v)) more

    items_mean_alike : (kind : PlainKind) (items : ItemTrees) → each_item (fits_kind kind) items ≡ true → item_meanings structs (plain_items items) kind ≡ item_meanings structs items kind
    items_mean_alike kind no_items fit = refl
    items_mean_alike kind (item v more) fit =
        let parts = both (fits_kind kind v) (each_item (fits_kind kind) more) fit in
        ap₂ with_first (means_alike kind v parts.0) (items_mean_alike kind more parts.1)

    pairs_mean_alike : (key value : PlainKind) (pairs : PairTrees) → each_pair (fits_kind key) (fits_kind value) pairs ≡ true
        → pair_meanings structs (plain_pairs pairs) key value ≡ pair_meanings structs pairs key value
    pairs_mean_alike key value no_pairs fit = refl
    pairs_mean_alike key value (pair a b more) fit =
        let parts = both (fits_kind key a && fits_kind value b) (each_pair (fits_kind key) (fits_kind value) more) fit in
        let here = both (fits_kind key a) (fits_kind value b) parts.0 in
        ap₂ with_first (ap₂ both_values (means_alike key a here.0) (means_alike value b here.1)) (pairs_mean_alike key value more parts.1)
