-- What a raw struct means under a declared one, whatever version of it the writer had.
use Rattle.std.specs.Prelude.{ℕ, ℤ, Bool, true, false, not, ◌&&◌, ◌==◌, nat_lt, if◌then◌else◌, List, [], ◌∷◌, count_by, Option, Some, None, is_some, Result, Ok, Err}
use Rattle.std.specs.List.{slice_get}
use Rattle.std.specs.declared.cmp.Ordering.{Ordering}
use Rattle.thrift_value.specs.Measures.{count_of, depth_of}
use Rattle.thrift_value.specs.Order.{tree_cmp}
use Rattle.thrift_value.specs.Tree.{Tree, of_struct, of_map, of_set, of_list, FieldTrees, no_fields, field, ItemTrees, no_items, item, PairTrees, no_pairs, pair}
use Rattle.thrift_value.specs.TreeOf.{field_trees, item_trees, pair_trees}
use Rattle.schema.specs.declared.types.FieldNeed.{FieldNeed}
use Rattle.schema.specs.declared.types.FieldNeed.TheVariants.{Required}
use Rattle.schema.specs.declared.types.FieldsKind.{FieldsKind}
use Rattle.schema.specs.declared.types.FieldsKind.TheVariants.{Union}
use Rattle.schema.specs.PlainKind.{PlainKind, kind_struct, kind_map, kind_set, kind_list}
use Rattle.schema.specs.PlainSchema.{PlainField, PlainStruct, PlainSchema}
use Rattle.struct_skew.specs.declared.fault.SkewFault.{SkewFault}
use Rattle.struct_skew.specs.declared.fault.SkewFault.TheVariants.{Missing, UnionFields, TooDeep, TooMany}
use Rattle.known_parts.specs.Parts.{tag_of_kind}
use Rattle.struct_skew.specs.Latest.{latest_of_each}
use Rattle.struct_skew.specs.Offers.{Offer, last_offer}
use Rattle.struct_skew.specs.Results.{with_value, and_if_ok, both_values, with_first, with_field_value}
use Rattle.limits.specs.Limits.{most_levels, most_values}

-- a field has to be there
abbrev pub is_required : FieldNeed → Bool
is_required Required = true
is_required _ = false

-- exactly one field has to be there
abbrev pub is_union : FieldsKind → Bool
is_union Union = true
is_union _ = false

-- the default that counts; those of a union's fields don't
abbrev pub counted_default : FieldsKind → PlainField → Option Tree
counted_default kind f = if is_union kind then None else f.default

-- the value of a declared field for which nothing that fits was sent: of a required one it is missing, even where it has a default
-- (own choice); another has its default, or none
abbrev pub unsent_value : ℕ → FieldsKind → PlainField → Result (Option Tree) SkewFault
unsent_value which kind f = if is_required f.need then Err (Missing which f.id) else Ok (counted_default kind f)

-- the value of a declared field: what the last raw field that fits means under its type
abbrev pub field_value : ℕ → FieldsKind → PlainField → Option Offer → Result (Option Tree) SkewFault
field_value which kind f (Some offer) = with_value Some (offer.meaning f.kind)
field_value which kind f None = unsent_value which kind f

-- the declared fields that have a value, in order of declaration, which is that of ids; or the first fault
abbrev pub field_values : ℕ → FieldsKind → List PlainField → List Offer → Result (List (ℤ × Tree)) SkewFault
field_values which kind [] offers = Ok []
field_values which kind (f ∷ fs) offers =
    with_field_value f.id (field_value which kind f (last_offer f offers)) (field_values which kind fs offers)

-- how many declared fields were sent as something that fits
abbrev pub sent_count : List PlainField → List Offer → ℕ
sent_count fields offers = count_by (λ f. is_some (last_offer f offers)) fields

-- a struct of these fields; of a union exactly one has to be sent (own choice)
abbrev pub checked_struct : ℕ → PlainStruct → List Offer → List (ℤ × Tree) → Result Tree SkewFault
checked_struct which s offers fields =
    if is_union s.kind && not (sent_count s.fields offers == 1) then Err (UnionFields which) else Ok (of_struct (field_trees fields))

-- the struct at a number of what is sent. No number of a sound schema is no place; there it would be empty
abbrev pub struct_value : ℕ → Option PlainStruct → List Offer → Result Tree SkewFault
struct_value which None offers = Ok (of_struct no_fields)
struct_value which (Some s) offers = and_if_ok (field_values which s.kind s.fields offers) (checked_struct which s offers)

-- pairs by their keys
abbrev pub key_cmp : Tree × Tree → Tree × Tree → Ordering
key_cmp p q = tree_cmp p.0 q.0

-- a map, a set and a list under the types of their elements, with the tags of these types, also where they are empty; keys and
-- members rise, and of equal ones the last counts
abbrev pub map_meaning : PlainKind → PlainKind → List (Tree × Tree) → Tree
map_meaning key value pairs = of_map (tag_of_kind key) (tag_of_kind value) (pair_trees (latest_of_each key_cmp pairs))

abbrev pub set_meaning : PlainKind → List Tree → Tree
set_meaning member items = of_set (tag_of_kind member) (item_trees (latest_of_each tree_cmp items))

abbrev pub list_meaning : PlainKind → List Tree → Tree
list_meaning element items = of_list (tag_of_kind element) (item_trees items)

abbrev mutual
  -- what a raw value means under a type that it fits
  pub meaning_of : List PlainStruct → Tree → PlainKind → Result Tree SkewFault
  meaning_of structs (of_struct fields) (kind_struct which) = struct_value which (slice_get structs which) (offers_of structs fields)
  meaning_of structs (of_map _ _ pairs) (kind_map key value) = with_value (map_meaning key value) (pair_meanings structs pairs key value)
  meaning_of structs (of_set _ items) (kind_set member) = with_value (set_meaning member) (item_meanings structs items member)
  meaning_of structs (of_list _ items) (kind_list element) = with_value (list_meaning element) (item_meanings structs items element)
  meaning_of structs value _ = Ok value

  -- the fields of a raw struct
  pub offers_of : List PlainStruct → FieldTrees → List Offer
  offers_of structs no_fields = []
  offers_of structs (field id value more) = record { id = id; value = value; meaning = meaning_of structs value } ∷ offers_of structs more

  -- what elements mean, or the first fault; those that are replaced later count here
  pub item_meanings : List PlainStruct → ItemTrees → PlainKind → Result (List Tree) SkewFault
  item_meanings structs no_items kind = Ok []
  item_meanings structs (item value more) kind = with_first (meaning_of structs value kind) (item_meanings structs more kind)

  -- the same of pairs, each key before its value
  pub pair_meanings : List PlainStruct → PairTrees → PlainKind → PlainKind → Result (List (Tree × Tree)) SkewFault
  pair_meanings structs no_pairs key_kind value_kind = Ok []
  pair_meanings structs (pair key value more) key_kind value_kind =
      with_first (both_values (meaning_of structs key key_kind) (meaning_of structs value value_kind)) (pair_meanings structs more key_kind value_kind)

-- a projected struct, where it has at most 64 levels and 4,000,000 values
abbrev pub bounded : Tree → Result Tree SkewFault
bounded value =
    if nat_lt most_levels (depth_of value) then Err TooDeep
    else if nat_lt most_values (count_of value) then Err TooMany
    else Ok value

-- what a raw value means under a type, where it has at most 64 levels and 4,000,000 values
abbrev pub meaning_within_bounds : PlainSchema → PlainKind → Tree → Result Tree SkewFault
meaning_within_bounds s kind raw = and_if_ok (meaning_of s.structs raw kind) bounded

-- the projection of a raw value on the struct at a number
abbrev pub projection : PlainSchema → ℕ → Tree → Result Tree SkewFault
projection s which raw = meaning_within_bounds s (kind_struct which) raw
