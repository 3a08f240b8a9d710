-- What is known of a value means what the value means.
use Rattle.std.proofs.Common.{◌≡◌, ℕ, ℤ, Bool, true, false, cond, [], Option, Some, None, refl, sym, ap, ap₂, ◌∙◌}
use Rattle.std.specs.Prelude.{◌&&◌, is_some, unwrap_or}
use Rattle.std.specs.List.{slice_get}
use Rattle.std.specs.Option.{option_map}
use Rattle.std.specs.Ordering.{int_eq}
use Rattle.std.proofs.lemmas.Bool.{and_from}
use Rattle.std.proofs.lemmas.Bool.Decides.{Decides-int_eq}
use Rattle.thrift_value.specs.declared.tag.Tag.{Tag}
use Rattle.thrift_value.specs.Tags.{tag_of}
use Rattle.thrift_value.specs.Tree.{Tree, of_bool, of_i8, of_i16, of_i32, of_i64, of_double, of_bytes, of_struct, of_map, of_set, of_list, of_uuid, FieldTrees, no_fields, field, ItemTrees, no_items, item, PairTrees, no_pairs, pair}
use Rattle.schema.specs.LookUp.{field_at}
use Rattle.schema.specs.PlainKind.{PlainKind, kind_struct, kind_map, kind_set, kind_list}
use Rattle.schema.specs.PlainSchema.{PlainField, PlainStruct, PlainSchema}
use Rattle.schema.specs.Sound.{IsSoundStruct, IsSound}
use Rattle.schema.specs.WrittenAs.{field_with_id}
use Rattle.known_parts.specs.Known.{known, known_by, known_fields, known_items, known_pairs, with_known, with_known_item, with_known_pair}
use Rattle.known_parts.specs.Parts.{tag_of_kind, are_same_tags}
use Rattle.struct_skew.specs.Fits.{each_item, each_pair, fits_kind}
use Rattle.struct_skew.specs.Offers.{Offer, last_offer, last_offer_behind}
use Rattle.struct_skew.specs.Projection.{struct_value, map_meaning, set_meaning, list_meaning, meaning_of, offers_of, item_meanings, pair_meanings, bounded, projection}
use Rattle.struct_skew.specs.Results.{with_value, and_if_ok, both_values, with_first}
use Rattle.struct_skew.proofs.Alike.{AreAlike, none_alike, alike_on, alike_past, struct_alike}
use Rattle.struct_skew.proofs.Each.{Each-then}
use Rattle.struct_skew.proofs.Fitting.{fits_by_tag}
use Rattle.struct_skew.proofs.Rightness.{rising_declared, each_found}
use Rattle.struct_skew.proofs.StructsAt.{All-at}
use Rattle.std.specs.Prelude.{All}

-- what is known of a value is nothing where it doesn't fit; else it fits, and means the same
abbrev Keeps : PlainSchema → PlainKind → Tree → Option Tree → Type 0
Keeps s kind raw None = fits_kind kind raw ≡ false
Keeps s kind raw (Some part) = (fits_kind kind raw ≡ true) × (fits_kind kind part ≡ true) × (meaning_of s.structs part kind ≡ meaning_of s.structs raw kind)

-- the same of elements, and of pairs
abbrev KeepsItems : PlainSchema → PlainKind → ItemTrees → Option ItemTrees → Type 0
KeepsItems s kind raw None = each_item (fits_kind kind) raw ≡ false
KeepsItems s kind raw (Some parts) =
    (each_item (fits_kind kind) raw ≡ true) × (each_item (fits_kind kind) parts ≡ true) × (item_meanings s.structs parts kind ≡ item_meanings s.structs raw kind)

abbrev KeepsPairs : PlainSchema → PlainKind → PlainKind → PairTrees → Option PairTrees → Type 0
KeepsPairs s key value raw None = each_pair (fits_kind key) (fits_kind value) raw ≡ false
KeepsPairs s key value raw (Some parts) =
    (each_pair (fits_kind key) (fits_kind value) raw ≡ true) × (each_pair (fits_kind key) (fits_kind value) parts ≡ true)
    × (pair_meanings s.structs parts key value ≡ pair_meanings s.structs raw key value)

-- tests of which one fails
fails_first : (a b : Bool) → a ≡ false → (a && b) ≡ false
fails_first a b e = ap (λ x. x && b) e

fails_behind : (a b : Bool) → b ≡ false → (a && b) ≡ false
fails_behind true b e = e
fails_behind false b e = refl

-- one declared field has an id
one_declared : (o : Option PlainField) (f g : PlainField) → o ≡ Some f → o ≡ Some g → f ≡ g
one_declared o f g one other = let same : Some f ≡ Some g = sym one ∙ other in cc

none_declared : (o : Option PlainField) (f : PlainField) → o ≡ Some f → o ≡ None → ⊥
none_declared o f one other = let same : Some f ≡ None = sym one ∙ other in absurd cc

module _ (s : PlainSchema) where
  by_tag : (kind : PlainKind) (raw : Tree) (same : Bool) → fits_kind kind raw ≡ same → Keeps s kind raw (cond same (Some raw) None)
  by_tag kind raw true e = (e, e, refl)
  by_tag kind raw false e = e

  map_keeps : (k v : Tag) (key value : PlainKind) (raw : PairTrees) (parts : Option PairTrees) → KeepsPairs s key value raw parts
      → Keeps s (kind_map key value) (of_map k v raw) (option_map (of_map (tag_of_kind key) (tag_of_kind value)) parts)
  map_keeps k v key value raw None h = h
  map_keeps k v key value raw (Some parts) h = (h.0, h.1, ap (with_value (map_meaning key value)) h.2)

  set_keeps : (t : Tag) (member : PlainKind) (raw : ItemTrees) (parts : Option ItemTrees) → KeepsItems s member raw parts
      → Keeps s (kind_set member) (of_set t raw) (option_map (of_set (tag_of_kind member)) parts)
  set_keeps t member raw None h = h
  set_keeps t member raw (Some parts) h = (h.0, h.1, ap (with_value (set_meaning member)) h.2)

  list_keeps : (t : Tag) (element : PlainKind) (raw : ItemTrees) (parts : Option ItemTrees) → KeepsItems s element raw parts
      → Keeps s (kind_list element) (of_list t raw) (option_map (of_list (tag_of_kind element)) parts)
  list_keeps t element raw None h = h
  list_keeps t element raw (Some parts) h = (h.0, h.1, ap (with_value (list_meaning element)) h.2)

  item_keeps : (kind : PlainKind) (raw : Tree) (more : ItemTrees) (part : Option Tree) (parts : Option ItemTrees) → Keeps s kind raw part → KeepsItems s kind more parts
      → KeepsItems s kind (item raw more) (with_known_item part parts)
  item_keeps kind raw more None parts h rest = fails_first (fits_kind kind raw) (each_item (fits_kind kind) more) h
  item_keeps kind raw more (Some p) None h rest = fails_behind (fits_kind kind raw) (each_item (fits_kind kind) more) rest
  item_keeps kind raw more (Some p) (Some ps) h rest = (
    and_from (fits_kind kind raw) (each_item (fits_kind kind) more) h.0 rest.0,
    and_from (fits_kind kind p) (each_item (fits_kind kind) ps) h.1 rest.1,
    ap₂ with_first h.2 rest.2,
  )

  pair_keeps : (key_kind value_kind : PlainKind) (k v : Tree) (more : PairTrees) (key value : Option Tree) (parts : Option PairTrees) → Keeps s key_kind k key → Keeps s value_kind v value
      → KeepsPairs s key_kind value_kind more parts → KeepsPairs s key_kind value_kind (pair k v more) (with_known_pair key value parts)
  pair_keeps key_kind value_kind k v more None value parts one other rest =
      fails_first (fits_kind key_kind k && fits_kind value_kind v) (each_pair (fits_kind key_kind) (fits_kind value_kind) more) (fails_first (fits_kind key_kind k) (fits_kind value_kind v) one)
  pair_keeps key_kind value_kind k v more (Some p) None parts one other rest =
      fails_first (fits_kind key_kind k && fits_kind value_kind v) (each_pair (fits_kind key_kind) (fits_kind value_kind) more) (fails_behind (fits_kind key_kind k) (fits_kind value_kind v) other)
  pair_keeps key_kind value_kind k v more (Some p) (Some q) None one other rest =
      fails_behind (fits_kind key_kind k && fits_kind value_kind v) (each_pair (fits_kind key_kind) (fits_kind value_kind) more) rest
  pair_keeps key_kind value_kind k v more (Some p) (Some q) (Some ps) one other rest = (
    and_from (fits_kind key_kind k && fits_kind value_kind v) (each_pair (fits_kind key_kind) (fits_kind value_kind) more) (and_from (fits_kind key_kind k) (fits_kind value_kind v) one.0 other.0) rest.0,
    and_from (fits_kind key_kind p && fits_kind value_kind q) (each_pair (fits_kind key_kind) (fits_kind value_kind) ps) (and_from (fits_kind key_kind p) (fits_kind value_kind q) one.1 other.1) rest.1,
    ap₂ with_first (ap₂ both_values one.2 other.2) rest.2,
  )

  -- the offers of a raw value
  abbrev offer_with : ℤ → Tree → Offer
  offer_with id raw = record { id = id; value = raw; meaning = meaning_of s.structs raw }

  -- a field that is passed over counts for no declared one
  passed_undeclared : (f : PlainField) (id : ℤ) (raw : Tree) (o : ℤ → Option PlainField) → o f.id ≡ Some f → o id ≡ None → (int_eq f.id id && fits_kind f.kind raw) ≡ false
  passed_undeclared f id raw o finds none = by_test (int_eq f.id id) refl
    where
      by_test : (b : Bool) → int_eq f.id id ≡ b → (b && fits_kind f.kind raw) ≡ false
      by_test true e = absurd (none_declared (o f.id) f finds (ap o ((Decides-int_eq f.id id).0 e) ∙ none))
      by_test false e = refl

  passed_misfit : (f g : PlainField) (id : ℤ) (raw : Tree) (o : ℤ → Option PlainField) → o f.id ≡ Some f → o id ≡ Some g → fits_kind g.kind raw ≡ false
      → (int_eq f.id id && fits_kind f.kind raw) ≡ false
  passed_misfit f g id raw o finds is misfit = by_test (int_eq f.id id) refl
    where
      by_test : (b : Bool) → int_eq f.id id ≡ b → (b && fits_kind f.kind raw) ≡ false
      by_test true e = ap (λ (h : PlainField). fits_kind h.kind raw) (one_declared (o id) f g (sym (ap o ((Decides-int_eq f.id id).0 e)) ∙ finds) is) ∙ misfit
      by_test false e = refl

  -- the declared field of an id that is one's own
  its_own : (f g : PlainField) (id : ℤ) (o : ℤ → Option PlainField) → o f.id ≡ Some f → o id ≡ Some g → int_eq f.id id ≡ true → f ≡ g
  its_own f g id o finds is e = one_declared (o id) f g (sym (ap o ((Decides-int_eq f.id id).0 e)) ∙ finds) is

  module _ (which : ℕ) where
    part_alike : (f g : PlainField) (id : ℤ) (raw : Tree) (one other : Option Offer) (fields more : FieldTrees) → field_at s which f.id ≡ Some f → field_at s which id ≡ Some g
        → AreAlike f one other → (part : Option Tree) → Keeps s g.kind raw part
        → ((a b : Option Offer) → AreAlike f a b → AreAlike f (last_offer_behind f a (offers_of s.structs fields)) (last_offer_behind f b (offers_of s.structs more)))
        → AreAlike f (last_offer_behind f one (offers_of s.structs (with_known id part fields)))
        (last_offer_behind f (cond (int_eq f.id id && fits_kind f.kind raw) (Some (offer_with id raw)) other) (offers_of s.structs more))
    part_alike f g id raw one other kept more finds is same None h rest =
        rest one (cond (int_eq f.id id && fits_kind f.kind raw) (Some (offer_with id raw)) other)
        (alike_past f (int_eq f.id id && fits_kind f.kind raw) one other (offer_with id raw) same (passed_misfit f g id raw (field_at s which) finds is h))
    part_alike f g id raw one other kept more finds is same (Some part) h rest =
        let own : int_eq f.id id ≡ true → f ≡ g = its_own f g id (field_at s which) finds is in
        rest (cond (int_eq f.id id && fits_kind f.kind part) (Some (offer_with id part)) one) (cond (int_eq f.id id && fits_kind f.kind raw) (Some (offer_with id raw)) other)
        (alike_on f (int_eq f.id id) (fits_kind f.kind part) (fits_kind f.kind raw) one other (offer_with id part) (offer_with id raw) same
        (λ e. ap (λ (d : PlainField). fits_kind d.kind part) (own e) ∙ h.1 ∙ sym (ap (λ (d : PlainField). fits_kind d.kind raw) (own e) ∙ h.0))
        (λ e _. ap (λ (d : PlainField). meaning_of s.structs part d.kind) (own e) ∙ h.2 ∙ sym (ap (λ (d : PlainField). meaning_of s.structs raw d.kind) (own e))))

    field_alike : (f : PlainField) (id : ℤ) (raw : Tree) (one other : Option Offer) (kept more : FieldTrees) → field_at s which f.id ≡ Some f → AreAlike f one other
        → (o : Option PlainField) → field_at s which id ≡ o → ((kind : PlainKind) → Keeps s kind raw (known s raw kind))
        → ((a b : Option Offer) → AreAlike f a b → AreAlike f (last_offer_behind f a (offers_of s.structs kept)) (last_offer_behind f b (offers_of s.structs more)))
        → AreAlike f (last_offer_behind f one (offers_of s.structs (with_known id (known_by (known s raw) o) kept)))
        (last_offer_behind f (cond (int_eq f.id id && fits_kind f.kind raw) (Some (offer_with id raw)) other) (offers_of s.structs more))
    field_alike f id raw one other kept more finds same None is each rest =
        rest one (cond (int_eq f.id id && fits_kind f.kind raw) (Some (offer_with id raw)) other)
        (alike_past f (int_eq f.id id && fits_kind f.kind raw) one other (offer_with id raw) same (passed_undeclared f id raw (field_at s which) finds is))
    field_alike f id raw one other kept more finds same (Some g) is each rest = part_alike f g id raw one other kept more finds is same (known s raw g.kind) (each g.kind) rest

module _ (s : PlainSchema) (sound : All (IsSoundStruct s) s.structs) where
  -- a struct, where its declared kept come to the same
  struct_keeps : (which : ℕ) (kept : FieldTrees)
      → ((f : PlainField) → field_at s which f.id ≡ Some f → AreAlike f (last_offer f (offers_of s.structs (known_fields s which kept))) (last_offer f (offers_of s.structs kept)))
      → struct_value which (slice_get s.structs which) (offers_of s.structs (known_fields s which kept)) ≡ struct_value which (slice_get s.structs which) (offers_of s.structs kept)
  struct_keeps which fields alike = by_struct (slice_get s.structs which) refl
    where
      by_struct : (o : Option PlainStruct) → slice_get s.structs which ≡ o
          → struct_value which o (offers_of s.structs (known_fields s which fields)) ≡ struct_value which o (offers_of s.structs fields)
      by_struct None here = refl
      by_struct (Some d) here =
          struct_alike which d (offers_of s.structs (known_fields s which fields)) (offers_of s.structs fields)
          (Each-then (λ (f : PlainField). field_with_id f.id d.fields ≡ Some f)
          (λ (f : PlainField). AreAlike f (last_offer f (offers_of s.structs (known_fields s which fields))) (last_offer f (offers_of s.structs fields)))
          (λ f finds. alike f (ap (λ o. field_with_id f.id (unwrap_or (option_map (λ (x : PlainStruct). x.fields) o) [])) here ∙ finds))
          d.fields (each_found d.fields (rising_declared d.fields (All-at (IsSoundStruct s) s.structs which d sound here).fields.rising)))

  mutual
    pub keeps : (raw : Tree) (kind : PlainKind) → Keeps s kind raw (known s raw kind)
    keeps (of_struct fields) (kind_struct which) = (refl, refl, struct_keeps which fields (λ f finds. offers_keep which f finds fields None None (none_alike f)))
    keeps (of_struct fields) kind = by_tag s kind (of_struct fields) (are_same_tags (tag_of_kind kind) (tag_of (of_struct fields))) (fits_by_tag kind (of_struct fields) tt)
    keeps (of_map k v pairs) (kind_map key value) = map_keeps s k v key value pairs (known_pairs s pairs key value) (pairs_keep pairs key value)
    keeps (of_map k v pairs) kind = by_tag s kind (of_map k v pairs) (are_same_tags (tag_of_kind kind) (tag_of (of_map k v pairs))) refl
    keeps (of_set t items) (kind_set member) = set_keeps s t member items (known_items s items member) (items_keep items member)
    keeps (of_set t items) kind = by_tag s kind (of_set t items) (are_same_tags (tag_of_kind kind) (tag_of (of_set t items))) refl
    keeps (of_list t items) (kind_list element) = list_keeps s t element items (known_items s items element) (items_keep items element)
    keeps (of_list t items) kind = by_tag s kind (of_list t items) (are_same_tags (tag_of_kind kind) (tag_of (of_list t items))) refl
    keeps (of_bool b) kind = by_tag s kind (of_bool b) (are_same_tags (tag_of_kind kind) (tag_of (of_bool b))) (fits_by_tag kind (of_bool b) tt)
    keeps (of_i8 n) kind = by_tag s kind (of_i8 n) (are_same_tags (tag_of_kind kind) (tag_of (of_i8 n))) (fits_by_tag kind (of_i8 n) tt)
    keeps (of_i16 n) kind = by_tag s kind (of_i16 n) (are_same_tags (tag_of_kind kind) (tag_of (of_i16 n))) (fits_by_tag kind (of_i16 n) tt)
    keeps (of_i32 n) kind = by_tag s kind (of_i32 n) (are_same_tags (tag_of_kind kind) (tag_of (of_i32 n))) (fits_by_tag kind (of_i32 n) tt)
    keeps (of_i64 n) kind = by_tag s kind (of_i64 n) (are_same_tags (tag_of_kind kind) (tag_of (of_i64 n))) (fits_by_tag kind (of_i64 n) tt)
    keeps (of_double n) kind = by_tag s kind (of_double n) (are_same_tags (tag_of_kind kind) (tag_of (of_double n))) (fits_by_tag kind (of_double n) tt)
    keeps (of_uuid n) kind = by_tag s kind (of_uuid n) (are_same_tags (tag_of_kind kind) (tag_of (of_uuid n))) (fits_by_tag kind (of_uuid n) tt)
    keeps (of_bytes text) kind = by_tag s kind (of_bytes text) (are_same_tags (tag_of_kind kind) (tag_of (of_bytes text))) (fits_by_tag kind (of_bytes text) tt)

    offers_keep : (which : ℕ) (f : PlainField) → field_at s which f.id ≡ Some f → (fields : FieldTrees) (one other : Option Offer) → AreAlike f one other
        → AreAlike f (last_offer_behind f one (offers_of s.structs (known_fields s which fields))) (last_offer_behind f other (offers_of s.structs fields))
    offers_keep which f finds no_fields one other same = same
    offers_keep which f finds (field id raw more) one other same =
        field_alike s which f id raw one other (known_fields s which more) more finds same (field_at s which id) refl (keeps raw) (offers_keep which f finds more)

    items_keep : (raw : ItemTrees) (kind : PlainKind) → KeepsItems s kind raw (known_items s raw kind)
    items_keep no_items kind = (refl, refl, refl)
    items_keep (item raw more) kind = item_keeps s kind raw more (known s raw kind) (known_items s more kind) (keeps raw kind) (items_keep more kind)

    pairs_keep : (raw : PairTrees) (key value : PlainKind) → KeepsPairs s key value raw (known_pairs s raw key value)
    pairs_keep no_pairs key value = (refl, refl, refl)
    pairs_keep (pair k v more) key value =
        pair_keeps s key value k v more (known s k key) (known s v value) (known_pairs s more key value) (keeps k key) (keeps v value) (pairs_keep more key value)

-- the known part of a struct has its projection
pub known_decides : (s : PlainSchema) (which : ℕ) (fields : FieldTrees) → IsSound s → projection s which (of_struct (known_fields s which fields)) ≡ projection s which (of_struct fields)
known_decides s which fields sound = ap (λ r. and_if_ok r bounded) (keeps s sound.all_else.structs (of_struct fields) (kind_struct which)).2

-- something is known exactly where the value fits
pub known_where_it_fits : (s : PlainSchema) (kind : PlainKind) (raw : Tree) → IsSound s → is_some (known s raw kind) ≡ fits_kind kind raw
known_where_it_fits s kind raw sound = by_part (known s raw kind) (keeps s sound.all_else.structs raw kind)
  where
    by_part : (part : Option Tree) → Keeps s kind raw part → is_some part ≡ fits_kind kind raw
    by_part None h = sym h
    by_part (Some p) h = sym h.0
