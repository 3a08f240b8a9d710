-- What is known of a value is no larger than the value.
use Rattle.std.proofs.Common.{◌≡◌, ℕ, ◌≤◌, ◌+◌, ℤ, Bool, true, false, cond, Option, Some, None, max, refl, subst, arith}
use Rattle.std.specs.Prelude.{⊤, MatchOption}
use Rattle.std.specs.Option.{option_map}
use Rattle.std.proofs.Math.Nat.{le-max_left, le-max_right, max-le}
use Rattle.thrift_value.specs.Measures.{depth_of, fields_depth, items_depth, pairs_depth, count_of, fields_count, items_count, pairs_count}
use Rattle.thrift_value.specs.Tags.{tag_of}
use Rattle.thrift_value.specs.Tree.{Tree, of_struct, of_map, of_set, of_list, FieldTrees, no_fields, field, ItemTrees, no_items, item, PairTrees, no_pairs, pair}
use Rattle.schema.specs.LookUp.{field_at}
use Rattle.schema.specs.PlainKind.{PlainKind, kind_struct, kind_map, kind_set, kind_list}
use Rattle.schema.specs.PlainSchema.{PlainField, PlainSchema}
use Rattle.known_parts.specs.Known.{known, known_by, known_fields, known_items, known_pairs, with_known, with_known_item, with_known_pair}
use Rattle.known_parts.specs.Parts.{tag_of_kind, are_same_tags}

-- a depth and a count that are at most others
abbrev IsWithin : ℕ → ℕ → ℕ → ℕ → Type 0
IsWithin depth count depth_bound count_bound = (depth ≤ depth_bound) × (count ≤ count_bound)

-- what is known of a value, where something is, is no larger
abbrev IsPart : Tree → Option Tree → Type 0
IsPart raw part = MatchOption part ⊤ (λ p. IsWithin (depth_of p) (count_of p) (depth_of raw) (count_of raw))

abbrev AreParts : ItemTrees → Option ItemTrees → Type 0
AreParts raw part = MatchOption part ⊤ (λ p. IsWithin (items_depth p) (items_count p) (items_depth raw) (items_count raw))

abbrev ArePairParts : PairTrees → Option PairTrees → Type 0
ArePairParts raw part = MatchOption part ⊤ (λ p. IsWithin (pairs_depth p) (pairs_count p) (pairs_depth raw) (pairs_count raw))

max_within : (a b c d : ℕ) → a ≤ c → b ≤ d → max a b ≤ max c d
max_within a b c d one other = max-le (omega (arith, one, le-max_left c d)) (omega (arith, other, le-max_right c d))

max_more : (a b d : ℕ) → a ≤ d → a ≤ max b d
max_more a b d low = omega (arith, low, le-max_right b d)

both_within : (a b c d : ℕ) → a ≤ c → b ≤ d → a + b ≤ c + d
both_within a b c d one other = omega arith

by_tag : (same : Bool) (raw : Tree) → IsPart raw (cond same (Some raw) None)
by_tag true raw = (omega arith, omega arith)
by_tag false raw = tt

module _ (s : PlainSchema) where
  -- a field in front
  one_more : (id : ℤ) (raw : Tree) (more : FieldTrees) (part : Option Tree) (parts : FieldTrees) → IsPart raw part
      → IsWithin (fields_depth parts) (fields_count parts) (fields_depth more) (fields_count more)
      → IsWithin (fields_depth (with_known id part parts)) (fields_count (with_known id part parts)) (fields_depth (field id raw more)) (fields_count (field id raw more))
  one_more id raw more None parts here rest = (max_more (fields_depth parts) (depth_of raw) (fields_depth more) rest.0, omega (arith, rest.1))
  one_more id raw more (Some p) parts here rest =
      (max_within (depth_of p) (fields_depth parts) (depth_of raw) (fields_depth more) here.0 rest.0, both_within (count_of p) (fields_count parts) (count_of raw) (fields_count more) here.1 rest.1)

  item_more : (raw : Tree) (more : ItemTrees) (part : Option Tree) (parts : Option ItemTrees) → IsPart raw part → AreParts more parts → AreParts (item raw more) (with_known_item part parts)
  item_more raw more None parts here rest = tt
  item_more raw more (Some p) None here rest = tt
  item_more raw more (Some p) (Some ps) here rest =
      (max_within (depth_of p) (items_depth ps) (depth_of raw) (items_depth more) here.0 rest.0, both_within (count_of p) (items_count ps) (count_of raw) (items_count more) here.1 rest.1)

  pair_more : (k v : Tree) (more : PairTrees) (key value : Option Tree) (parts : Option PairTrees) → IsPart k key → IsPart v value → ArePairParts more parts
      → ArePairParts (pair k v more) (with_known_pair key value parts)
  pair_more k v more None value parts one other rest = tt
  pair_more k v more (Some p) None parts one other rest = tt
  pair_more k v more (Some p) (Some q) None one other rest = tt
  pair_more k v more (Some p) (Some q) (Some ps) one other rest = (
    max_within (max (depth_of p) (depth_of q)) (pairs_depth ps) (max (depth_of k) (depth_of v)) (pairs_depth more) (max_within (depth_of p) (depth_of q) (depth_of k) (depth_of v) one.0 other.0) rest.0,
    both_within (count_of p + count_of q) (pairs_count ps) (count_of k + count_of v) (pairs_count more) (both_within (count_of p) (count_of q) (count_of k) (count_of v) one.1 other.1) rest.1,
  )

  -- a container of parts
  container : {T : Type 0} (depth count : T → ℕ) (whole : T → Tree) (raw : Tree) (d n : ℕ) (parts : Option T)
      → ((t : T) → (depth_of (whole t) ≡ depth t + 1) × (count_of (whole t) ≡ count t + 1)) → depth_of raw ≡ d + 1 → count_of raw ≡ n + 1
      → MatchOption parts ⊤ (λ t. IsWithin (depth t) (count t) d n) → IsPart raw (option_map whole parts)
  container depth count whole raw d n None measures deep many within = tt
  container depth count whole raw d n (Some t) measures deep many within =
      (omega (arith, (measures t).0, deep, within.0), omega (arith, (measures t).1, many, within.1))

  mutual
    pub smaller : (raw : Tree) (kind : PlainKind) → IsPart raw (known s raw kind)
    smaller (of_struct fields) (kind_struct which) =
        let all = fields_smaller which fields in (omega (arith, all.0), omega (arith, all.1))
    smaller (of_map k v pairs) (kind_map key value) =
        container pairs_depth pairs_count (of_map (tag_of_kind key) (tag_of_kind value)) (of_map k v pairs) (pairs_depth pairs) (pairs_count pairs) (known_pairs s pairs key value)
        (λ t. (refl, refl)) refl refl (pairs_smaller pairs key value)
    smaller (of_set t items) (kind_set member) =
        container items_depth items_count (of_set (tag_of_kind member)) (of_set t items) (items_depth items) (items_count items) (known_items s items member)
        (λ t. (refl, refl)) refl refl (items_smaller items member)
    smaller (of_list t items) (kind_list element) =
        container items_depth items_count (of_list (tag_of_kind element)) (of_list t items) (items_depth items) (items_count items) (known_items s items element)
        (λ t. (refl, refl)) refl refl (items_smaller items element)
    smaller raw kind = by_tag (are_same_tags (tag_of_kind kind) (tag_of raw)) raw

    fields_smaller : (which : ℕ) (fields : FieldTrees)
        → IsWithin (fields_depth (known_fields s which fields)) (fields_count (known_fields s which fields)) (fields_depth fields) (fields_count fields)
    fields_smaller which no_fields = (omega arith, omega arith)
    fields_smaller which (field id raw more) =
        one_more id raw more (known_by (known s raw) (field_at s which id)) (known_fields s which more) (by_field (field_at s which id) (smaller raw)) (fields_smaller which more)
      where
        by_field : (f : Option PlainField) → ((kind : PlainKind) → IsPart raw (known s raw kind)) → IsPart raw (known_by (known s raw) f)
        by_field None each = tt
        by_field (Some f) each = each f.kind

    items_smaller : (items : ItemTrees) (kind : PlainKind) → AreParts items (known_items s items kind)
    items_smaller no_items kind = (omega arith, omega arith)
    items_smaller (item raw more) kind = item_more raw more (known s raw kind) (known_items s more kind) (smaller raw kind) (items_smaller more kind)

    pairs_smaller : (pairs : PairTrees) (key value : PlainKind) → ArePairParts pairs (known_pairs s pairs key value)
    pairs_smaller no_pairs key value = (omega arith, omega arith)
    pairs_smaller (pair k v more) key value =
        pair_more k v more (known s k key) (known s v value) (known_pairs s more key value) (smaller k key) (smaller v value) (pairs_smaller more key value)

pub part_within : (s : PlainSchema) (raw part : Tree) (kind : PlainKind) → known s raw kind ≡ Some part → (depth_of part ≤ depth_of raw) × (count_of part ≤ count_of raw)
part_within s raw part kind is = subst (IsPart raw) is (smaller s raw kind)
