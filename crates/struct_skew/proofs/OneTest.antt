-- What goes out, where the parts of the type are known or known to be none; and that one test tells what several tell.
use Rattle.std.proofs.Common.{◌≡◌, ℕ, ◌+◌, ◌-◌, ◌≤◌, ◌^◌, max, Bool, true, false, List, [], ◌∷◌, length, map, Option, Some, None, refl, sym, ap, subst, ◌∙◌, arith}
use Rattle.std.specs.Prelude.{⊤, nat_le, nat_lt, ◌&&◌}
use Rattle.std.specs.Bool.{Decides, one_answer}
use Rattle.std.specs.List.{slice_get}
use Rattle.std.proofs.lemmas.Bool.{false≢true, and_parts, and_from, leb-true, ltb-true, le-leb, lt-ltb}
use Rattle.std.proofs.lemmas.Bool.Decides.{Decides-at}
use Rattle.thrift_value.specs.declared.tag.Tag.{Tag}
use Rattle.thrift_value.specs.declared.tag.Tag.TheVariants as tag
use Rattle.thrift_value.specs.declared.value.Value as value
use Rattle.thrift_value.specs.declared.value.Value.{Value}
use Rattle.thrift_value.specs.declared.value.Fields.{Fields}
use Rattle.thrift_value.specs.declared.value.Items.{Items}
use Rattle.thrift_value.specs.declared.value.Pairs.{Pairs}
use Rattle.thrift_value.specs.TreeOf.{tree_of, pair_tree, item_trees, pair_trees, fields_tree, items_tree, pairs_tree}
use Rattle.thrift_value.proofs.Trees.{tree_of-is_Struct, tree_of-is_Map, tree_of-is_Set, tree_of-is_List}
use Rattle.thrift_value.specs.Measures.{depth_of, fields_depth, items_depth, pairs_depth}
use Rattle.thrift_value.specs.Sizes.{items_len, pairs_len}
use Rattle.thrift_value.specs.Tags.{tag_of}
use Rattle.thrift_value.specs.Tree.{Tree, of_bool, of_i8, of_i16, of_i32, of_i64, of_double, of_bytes, of_struct, of_map, of_set, of_list, of_uuid, FieldTrees, no_fields, field, ItemTrees, no_items, item, PairTrees, no_pairs, pair}
use Rattle.schema.specs.PlainKind.{PlainKind, kind_bool, kind_i8, kind_i16, kind_i32, kind_i64, kind_double, kind_text, kind_binary, kind_uuid, kind_enum, kind_struct, kind_map, kind_set, kind_list}
use Rattle.schema.specs.PlainSchema.{PlainField, PlainStruct}
use Rattle.schema.specs.WrittenAs.{field_with_id}
use Rattle.known_parts.specs.Parts.{tag_of_kind, are_same_tags, struct_of_kind, map_of_kind, set_of_kind, list_of_kind}
use Rattle.struct_skew.specs.OutgoingTests.{are_named_items, are_named_pairs, are_few_items, do_bytes_go_out, goes_out, do_fields_go_out, do_items_go_out, do_pairs_go_out, does_struct_go_out, does_map_go_out, does_set_go_out, does_list_go_out}
use Rattle.struct_skew.specs.TidyTests.{are_rising_fields, are_rising_items, are_rising_pairs, is_tidy, are_tidy_fields, are_tidy_items, are_tidy_pairs, has_small_sizes, have_fields_small_sizes, have_items_small_sizes, have_pairs_small_sizes}
use Rattle.struct_skew.specs.WrittenTests.{some_passes, has_its_fields, is_written_as, are_fields_written_as, are_items_written_as, are_pairs_written_as, may_be_written}
use Rattle.struct_skew.proofs.Deciding.{same_tag}
use Rattle.struct_skew.proofs.Writing.{written_scalar}

-- a struct, a map, a set and a list under a type of parts that are known, or of none
abbrev pub struct_out_under : List PlainStruct → ℕ → FieldTrees → Option ℕ → Bool
struct_out_under structs levels held (Some which) = does_struct_go_out structs levels (slice_get structs which) held
struct_out_under structs levels held None = false

abbrev pub map_out_under : List PlainStruct → ℕ → Tag → Tag → PairTrees → Option (PlainKind × PlainKind) → Bool
map_out_under structs levels k v pairs (Some p) = does_map_go_out structs levels p.0 p.1 k v pairs
map_out_under structs levels k v pairs None = false

abbrev pub set_out_under : List PlainStruct → ℕ → Tag → ItemTrees → Option PlainKind → Bool
set_out_under structs levels t items (Some kind) = does_set_go_out structs levels kind t items
set_out_under structs levels t items None = false

abbrev pub list_out_under : List PlainStruct → ℕ → Tag → ItemTrees → Option PlainKind → Bool
list_out_under structs levels t items (Some kind) = does_list_go_out structs levels kind t items
list_out_under structs levels t items None = false

-- a bool, a number or a uuid
abbrev pub IsNumber : Tree → Type 0
IsNumber (of_bytes _) = ⊥
IsNumber (of_struct _) = ⊥
IsNumber (of_map _ _ _) = ⊥
IsNumber (of_set _ _) = ⊥
IsNumber (of_list _ _) = ⊥
IsNumber _ = ⊤

pub outgoing_struct : (structs : List PlainStruct) (n : ℕ) (kind : PlainKind) (fields : FieldTrees) → goes_out structs n kind (of_struct fields) ≡ struct_out_under structs n fields (struct_of_kind kind)
outgoing_struct structs n (kind_struct _) _ = refl
outgoing_struct structs n _ _ = refl

pub outgoing_map : (structs : List PlainStruct) (n : ℕ) (kind : PlainKind) (k v : Tag) (pairs : PairTrees) → goes_out structs n kind (of_map k v pairs) ≡ map_out_under structs n k v pairs (map_of_kind kind)
outgoing_map structs n (kind_map key value) k v pairs = refl
outgoing_map structs n _ k v pairs = refl

pub outgoing_set : (structs : List PlainStruct) (n : ℕ) (kind : PlainKind) (t : Tag) (items : ItemTrees) → goes_out structs n kind (of_set t items) ≡ set_out_under structs n t items (set_of_kind kind)
outgoing_set structs n (kind_set member) t items = refl
outgoing_set structs n _ t items = refl

pub outgoing_list : (structs : List PlainStruct) (n : ℕ) (kind : PlainKind) (t : Tag) (items : ItemTrees) → goes_out structs n kind (of_list t items) ≡ list_out_under structs n t items (list_of_kind kind)
outgoing_list structs n (kind_list element) t items = refl
outgoing_list structs n _ t items = refl

pub outgoing_bytes : (structs : List PlainStruct) (n : ℕ) (kind : PlainKind) (bytes : List ℕ) → goes_out structs n kind (of_bytes bytes) ≡ do_bytes_go_out kind bytes
outgoing_bytes structs n (kind_struct _) bytes = refl
outgoing_bytes structs n (kind_map _ _) bytes = refl
outgoing_bytes structs n (kind_set _) bytes = refl
outgoing_bytes structs n (kind_list _) bytes = refl
outgoing_bytes structs n _ bytes = refl

pub outgoing_number : (structs : List PlainStruct) (n : ℕ) (kind : PlainKind) (value : Tree) → IsNumber value → goes_out structs n kind value ≡ are_same_tags (tag_of_kind kind) (tag_of value)
outgoing_number structs n kind (of_bytes _) h = absurd h
outgoing_number structs n kind (of_struct _) h = absurd h
outgoing_number structs n kind (of_map _ _ _) h = absurd h
outgoing_number structs n kind (of_set _ _) h = absurd h
outgoing_number structs n kind (of_list _ _) h = absurd h
outgoing_number structs n kind_bool _ h = refl
outgoing_number structs n kind_i8 _ h = refl
outgoing_number structs n kind_i16 _ h = refl
outgoing_number structs n kind_i32 _ h = refl
outgoing_number structs n kind_i64 _ h = refl
outgoing_number structs n kind_double _ h = refl
outgoing_number structs n kind_uuid _ h = refl
outgoing_number structs n kind_text _ h = refl
outgoing_number structs n kind_binary _ h = refl
outgoing_number structs n (kind_enum _) _ h = refl
outgoing_number structs n (kind_struct _) _ h = refl
outgoing_number structs n (kind_map _ _) _ h = refl
outgoing_number structs n (kind_set _) _ h = refl
outgoing_number structs n (kind_list _) _ h = refl

-- values in memory, by the parts of their types
module _ (structs : List PlainStruct) (n : ℕ) (kind : PlainKind) (v : Value) (r : Bool) where
  pub struct_by_part : (fields : Fields) (part : Option ℕ) → v ≡ value.Struct fields → part ≡ struct_of_kind kind → r ≡ struct_out_under structs n (fields_tree fields) part
      → r ≡ goes_out structs n kind (tree_of v)
  struct_by_part fields part is known here =
      here ∙ sym (ap (goes_out structs n kind) (tree_of-is_Struct v fields is) ∙ outgoing_struct structs n kind (fields_tree fields) ∙ ap (struct_out_under structs n (fields_tree fields)) (sym known))

  pub map_by_parts : (k t : Tag) (pairs : Pairs) (parts : Option (PlainKind × PlainKind)) → v ≡ value.Map k t pairs → parts ≡ map_of_kind kind → r ≡ map_out_under structs n k t (pairs_tree pairs) parts
      → r ≡ goes_out structs n kind (tree_of v)
  map_by_parts k t pairs parts is known here =
      here ∙ sym (ap (goes_out structs n kind) (tree_of-is_Map v k t pairs is) ∙ outgoing_map structs n kind k t (pairs_tree pairs) ∙ ap (map_out_under structs n k t (pairs_tree pairs)) (sym known))

  pub set_by_part : (t : Tag) (items : Items) (part : Option PlainKind) → v ≡ value.Set t items → part ≡ set_of_kind kind → r ≡ set_out_under structs n t (items_tree items) part
      → r ≡ goes_out structs n kind (tree_of v)
  set_by_part t items part is known here =
      here ∙ sym (ap (goes_out structs n kind) (tree_of-is_Set v t items is) ∙ outgoing_set structs n kind t (items_tree items) ∙ ap (set_out_under structs n t (items_tree items)) (sym known))

  pub list_by_part : (t : Tag) (items : Items) (part : Option PlainKind) → v ≡ value.List t items → part ≡ list_of_kind kind → r ≡ list_out_under structs n t (items_tree items) part
      → r ≡ goes_out structs n kind (tree_of v)
  list_by_part t items part is known here =
      here ∙ sym (ap (goes_out structs n kind) (tree_of-is_List v t items is) ∙ outgoing_list structs n kind t (items_tree items) ∙ ap (list_out_under structs n t (items_tree items)) (sym known))

-- a set goes out where a list of its members does and they rise
rise_last : (a b r c : Bool) → (a && (b && (r && c))) ≡ ((a && (b && c)) && r)
rise_last false b r c = refl
rise_last true false r c = refl
rise_last true true true true = refl
rise_last true true true false = refl
rise_last true true false true = refl
rise_last true true false false = refl

pub set_by_list : (structs : List PlainStruct) (n : ℕ) (kind : PlainKind) (t : Tag) (items : ItemTrees)
    → does_set_go_out structs n kind t items ≡ (does_list_go_out structs n kind t items && are_rising_items items)
set_by_list structs n kind t items = rise_last (nat_lt 0 n) (are_few_items t kind items) (are_rising_items items) (do_items_go_out structs (n - 1) kind items)

-- elements, and pairs, of which there are some
pub some_named_items : (t : Tag) (kind : PlainKind) (items : List Value) → 1 ≤ length items → are_same_tags (tag_of_kind kind) t ≡ are_named_items t kind (item_trees (map tree_of items))
some_named_items t kind [] some = absurd (omega arith)
some_named_items t kind (x ∷ xs) some = refl

pub some_named_pairs : (k v : Tag) (key value : PlainKind) (pairs : List (Value × Value)) → 1 ≤ length pairs
    → (are_same_tags (tag_of_kind key) k && are_same_tags (tag_of_kind value) v) ≡ are_named_pairs k v key value (pair_trees (map pair_tree pairs))
some_named_pairs k v key value [] some = absurd (omega arith)
some_named_pairs k v key value (p ∷ ps) some = refl

-- levels
none_deep : (n : ℕ) → nat_le 0 n ≡ true
none_deep n = le-leb 0 n (omega arith)

both_deep : (a b n : ℕ) → Decides (nat_le (max a b) n) ((nat_le a n ≡ true) × (nat_le b n ≡ true))
both_deep a b n = (
  λ e. let h = leb-true (max a b) n e in (le-leb a n (omega (arith, h)), le-leb b n (omega (arith, h))),
  λ h. let one = leb-true a n h.0 in let other = leb-true b n h.1 in le-leb (max a b) n (omega (arith, one, other)),
)

one_deeper : (d n : ℕ) → Decides (nat_le (d + 1) n) ((nat_lt 0 n ≡ true) × (nat_le d (n - 1) ≡ true))
one_deeper d n = (
  λ e. let h = leb-true (d + 1) n e in (lt-ltb 0 n (omega (arith, h)), le-leb d (n - 1) (omega (arith, h))),
  λ h. let opens = ltb-true 0 n h.0 in let rest = leb-true d (n - 1) h.1 in le-leb (d + 1) n (omega (arith, opens, rest)),
)

-- a value of a type has the type's tag
written_tag : (structs : List PlainStruct) (kind : PlainKind) (x : Tree) → is_written_as structs kind x ≡ true → tag_of x ≡ tag_of_kind kind
written_tag structs kind_bool (of_bool _) e = refl
written_tag structs kind_i8 (of_i8 _) e = refl
written_tag structs kind_i16 (of_i16 _) e = refl
written_tag structs kind_i32 (of_i32 _) e = refl
written_tag structs kind_i64 (of_i64 _) e = refl
written_tag structs kind_double (of_double _) e = refl
written_tag structs kind_uuid (of_uuid _) e = refl
written_tag structs kind_text (of_bytes _) e = refl
written_tag structs kind_binary (of_bytes _) e = refl
written_tag structs (kind_enum _) (of_i32 _) e = refl
written_tag structs (kind_struct _) (of_struct _) e = refl
written_tag structs (kind_map _ _) (of_map _ _ _) e = refl
written_tag structs (kind_set _) (of_set _ _) e = refl
written_tag structs (kind_list _) (of_list _ _) e = refl
written_tag structs _ _ e = absurd (false≢true e)

module _ (structs : List PlainStruct) where
  -- what the several tests tell of a value, of fields, of elements and of pairs with the tags of their types
  abbrev Passes : ℕ → PlainKind → Tree → Type 0
  Passes n kind x = (is_tidy x ≡ true) × (nat_le (depth_of x) n ≡ true) × (is_written_as structs kind x ≡ true) × (has_small_sizes x ≡ true)

  abbrev FieldPasses : ℕ → Option PlainField → Tree → Type 0
  FieldPasses n o x =
      (is_tidy x ≡ true) × (nat_le (depth_of x) n ≡ true) × (some_passes o (λ f. is_written_as structs f.kind x) ≡ true) × (has_small_sizes x ≡ true)

  abbrev FieldsPass : ℕ → List PlainField → FieldTrees → Type 0
  FieldsPass n declared fields =
      (are_tidy_fields fields ≡ true) × (nat_le (fields_depth fields) n ≡ true) × (are_fields_written_as structs declared fields ≡ true) × (have_fields_small_sizes fields ≡ true)

  abbrev ItemsPass : ℕ → PlainKind → ItemTrees → Type 0
  ItemsPass n kind items =
      (are_tidy_items (tag_of_kind kind) items ≡ true) × (nat_le (items_depth items) n ≡ true) × (are_items_written_as structs kind items ≡ true) × (have_items_small_sizes items ≡ true)

  abbrev PairsPass : ℕ → PlainKind → PlainKind → PairTrees → Type 0
  PairsPass n key value pairs =
      (are_tidy_pairs (tag_of_kind key) (tag_of_kind value) pairs ≡ true) × (nat_le (pairs_depth pairs) n ≡ true) × (are_pairs_written_as structs key value pairs ≡ true)
      × (have_pairs_small_sizes pairs ≡ true)

  -- a bool, a number or a uuid, and bytes
  number_out : (n : ℕ) (kind : PlainKind) (x : Tree) → IsNumber x → is_tidy x ≡ true → nat_le (depth_of x) n ≡ true → has_small_sizes x ≡ true → (is_written_as structs kind x ≡ are_same_tags (tag_of_kind kind) (tag_of x))
      → Decides (goes_out structs n kind x) (Passes n kind x)
  number_out n kind x number tidy shallow small written =
      Decides-at (goes_out structs n kind x) (are_same_tags (tag_of_kind kind) (tag_of x)) (outgoing_number structs n kind x number) (λ e. (tidy, shallow, written ∙ e, small), λ h. sym written ∙ h.2)

  bytes_out : (n : ℕ) (kind : PlainKind) (bytes : List ℕ) → Decides (goes_out structs n kind (of_bytes bytes)) (Passes n kind (of_bytes bytes))
  bytes_out n kind bytes =
      let written = written_scalar structs kind (of_bytes bytes) tt in
      Decides-at (goes_out structs n kind (of_bytes bytes)) (do_bytes_go_out kind bytes) (outgoing_bytes structs n kind bytes) (
        λ e. let h = and_parts (are_same_tags (tag_of_kind kind) tag.Bytes) (nat_lt (length bytes) (2 ^ 31)) e in (refl, none_deep n, written ∙ h.0, h.1),
        λ h. and_from (are_same_tags (tag_of_kind kind) tag.Bytes) (nat_lt (length bytes) (2 ^ 31)) (sym written ∙ h.2) h.3,
      )

  field_out : (n : ℕ) (o : Option PlainField) (x : Tree) → ((f : PlainField) → Decides (goes_out structs n f.kind x) (Passes n f.kind x))
      → Decides (some_passes o (λ f. goes_out structs n f.kind x)) (FieldPasses n o x)
  field_out n None x each = (λ e. absurd (false≢true e), λ h. absurd (false≢true h.2))
  field_out n (Some f) x each = each f

  struct_out : (n : ℕ) (o : Option PlainStruct) (held : FieldTrees) → ((s : PlainStruct) → Decides (do_fields_go_out structs (n - 1) s.fields held) (FieldsPass (n - 1) s.fields held))
      → Decides (does_struct_go_out structs n o held)
      (((are_rising_fields held && are_tidy_fields held) ≡ true) × (nat_le (fields_depth held + 1) n ≡ true)
      × (some_passes o (λ s. has_its_fields s held && are_fields_written_as structs s.fields held) ≡ true) × (have_fields_small_sizes held ≡ true))
  struct_out n None held each = (λ e. absurd (false≢true (and_parts (nat_lt 0 n) false e).1), λ h. absurd (false≢true h.2))
  struct_out n (Some s) held each =
      let rest = do_fields_go_out structs (n - 1) s.fields held in
      let written = are_fields_written_as structs s.fields held in (
        λ e.
            let opens = and_parts (nat_lt 0 n) (are_rising_fields held && (has_its_fields s held && rest)) e in
            let rising = and_parts (are_rising_fields held) (has_its_fields s held && rest) opens.1 in
            let has = and_parts (has_its_fields s held) rest rising.1 in
            let all = (each s).0 has.1 in (
              and_from (are_rising_fields held) (are_tidy_fields held) rising.0 all.0,
              (one_deeper (fields_depth held) n).1 (opens.0, all.1),
              and_from (has_its_fields s held) written has.0 all.2,
              all.3,
            ),
        λ h.
            let tidied = and_parts (are_rising_fields held) (are_tidy_fields held) h.0 in
            let deep = (one_deeper (fields_depth held) n).0 h.1 in
            let has = and_parts (has_its_fields s held) written h.2 in
            and_from (nat_lt 0 n) (are_rising_fields held && (has_its_fields s held && rest)) deep.0
            (and_from (are_rising_fields held) (has_its_fields s held && rest) tidied.0
            (and_from (has_its_fields s held) rest has.0 ((each s).1 (tidied.1, deep.1, has.1, h.3)))),
      )

  -- elements that have the tag that their container names
  named_items : (t : Tag) (kind : PlainKind) (items : ItemTrees) → are_items_written_as structs kind items ≡ true
      → Decides (are_named_items t kind items && are_tidy_items (tag_of_kind kind) items) (are_tidy_items t items ≡ true)
  named_items t kind no_items written = (λ e. refl, λ h. refl)
  named_items t kind (item v more) written =
      let tidy = λ (u : Tag). are_tidy_items u (item v more) in (
        λ e. let h = and_parts (are_same_tags (tag_of_kind kind) t) (tidy (tag_of_kind kind)) e in subst (λ u. tidy u ≡ true) ((same_tag (tag_of_kind kind) t).0 h.0) h.1,
        λ h.
            let front = and_parts (are_same_tags (tag_of v) t && is_tidy v) (are_tidy_items t more) h in
            let its = (same_tag (tag_of v) t).0 (and_parts (are_same_tags (tag_of v) t) (is_tidy v) front.0).0 in
            let same : tag_of_kind kind ≡ t = sym (written_tag structs kind v (and_parts (is_written_as structs kind v) (are_items_written_as structs kind more) written).0) ∙ its in
            and_from (are_same_tags (tag_of_kind kind) t) (tidy (tag_of_kind kind)) ((same_tag (tag_of_kind kind) t).1 same) (subst (λ u. tidy u ≡ true) (sym same) h),
      )

  named_pairs : (k v : Tag) (key value : PlainKind) (pairs : PairTrees) → are_pairs_written_as structs key value pairs ≡ true
      → Decides (are_named_pairs k v key value pairs && are_tidy_pairs (tag_of_kind key) (tag_of_kind value) pairs) (are_tidy_pairs k v pairs ≡ true)
  named_pairs k v key value no_pairs written = (λ e. refl, λ h. refl)
  named_pairs k v key value (pair a b more) written =
      let tidy = λ (t u : Tag). are_tidy_pairs t u (pair a b more) in
      let names = are_same_tags (tag_of_kind key) k && are_same_tags (tag_of_kind value) v in
      let one = and_parts (is_written_as structs key a && is_written_as structs value b) (are_pairs_written_as structs key value more) written in
      let each = and_parts (is_written_as structs key a) (is_written_as structs value b) one.0 in (
        λ e.
            let h = and_parts names (tidy (tag_of_kind key) (tag_of_kind value)) e in
            let both = and_parts (are_same_tags (tag_of_kind key) k) (are_same_tags (tag_of_kind value) v) h.0 in
            subst (λ t. tidy t v ≡ true) ((same_tag (tag_of_kind key) k).0 both.0) (subst (λ u. tidy (tag_of_kind key) u ≡ true) ((same_tag (tag_of_kind value) v).0 both.1) h.1),
        λ h.
            let front = and_parts ((are_same_tags (tag_of a) k && is_tidy a) && (are_same_tags (tag_of b) v && is_tidy b)) (are_tidy_pairs k v more) h in
            let two = and_parts (are_same_tags (tag_of a) k && is_tidy a) (are_same_tags (tag_of b) v && is_tidy b) front.0 in
            let same_key : tag_of_kind key ≡ k = sym (written_tag structs key a each.0) ∙ (same_tag (tag_of a) k).0 (and_parts (are_same_tags (tag_of a) k) (is_tidy a) two.0).0 in
            let same_value : tag_of_kind value ≡ v = sym (written_tag structs value b each.1) ∙ (same_tag (tag_of b) v).0 (and_parts (are_same_tags (tag_of b) v) (is_tidy b) two.1).0 in
            and_from names (tidy (tag_of_kind key) (tag_of_kind value))
            (and_from (are_same_tags (tag_of_kind key) k) (are_same_tags (tag_of_kind value) v) ((same_tag (tag_of_kind key) k).1 same_key) ((same_tag (tag_of_kind value) v).1 same_value))
            (subst (λ t. tidy t (tag_of_kind value) ≡ true) (sym same_key) (subst (λ u. tidy k u ≡ true) (sym same_value) h)),
      )

  list_out : (n : ℕ) (kind : PlainKind) (t : Tag) (items : ItemTrees) → Decides (do_items_go_out structs (n - 1) kind items) (ItemsPass (n - 1) kind items)
      → Decides (does_list_go_out structs n kind t items)
      ((are_tidy_items t items ≡ true) × (nat_le (items_depth items + 1) n ≡ true) × (are_items_written_as structs kind items ≡ true)
      × ((nat_lt (items_len items) (2 ^ 31) && have_items_small_sizes items) ≡ true))
  list_out n kind t items each =
      let rest = do_items_go_out structs (n - 1) kind items in
      let few = nat_lt (items_len items) (2 ^ 31) in
      let own = are_tidy_items (tag_of_kind kind) items in (
        λ e.
            let opens = and_parts (nat_lt 0 n) (are_few_items t kind items && rest) e in
            let sized = and_parts (are_few_items t kind items) rest opens.1 in
            let named = and_parts few (are_named_items t kind items) sized.0 in
            let all = each.0 sized.1 in (
              (named_items t kind items all.2).0 (and_from (are_named_items t kind items) own named.1 all.0),
              (one_deeper (items_depth items) n).1 (opens.0, all.1),
              all.2,
              and_from few (have_items_small_sizes items) named.0 all.3,
            ),
        λ h.
            let named = and_parts (are_named_items t kind items) own ((named_items t kind items h.2).1 h.0) in
            let deep = (one_deeper (items_depth items) n).0 h.1 in
            let sized = and_parts few (have_items_small_sizes items) h.3 in
            and_from (nat_lt 0 n) (are_few_items t kind items && rest) deep.0
            (and_from (are_few_items t kind items) rest (and_from few (are_named_items t kind items) sized.0 named.0) (each.1 (named.1, deep.1, h.2, sized.1))),
      )

  set_out : (n : ℕ) (kind : PlainKind) (t : Tag) (items : ItemTrees) → Decides (do_items_go_out structs (n - 1) kind items) (ItemsPass (n - 1) kind items)
      → Decides (does_set_go_out structs n kind t items)
      (((are_rising_items items && are_tidy_items t items) ≡ true) × (nat_le (items_depth items + 1) n ≡ true) × (are_items_written_as structs kind items ≡ true)
      × ((nat_lt (items_len items) (2 ^ 31) && have_items_small_sizes items) ≡ true))
  set_out n kind t items each =
      let list = list_out n kind t items each in
      let few = are_few_items t kind items in
      let rising = are_rising_items items in
      let rest = do_items_go_out structs (n - 1) kind items in (
        λ e.
            let opens = and_parts (nat_lt 0 n) (few && (rising && rest)) e in
            let sized = and_parts few (rising && rest) opens.1 in
            let rises = and_parts rising rest sized.1 in
            let all = list.0 (and_from (nat_lt 0 n) (few && rest) opens.0 (and_from few rest sized.0 rises.1)) in
            (and_from rising (are_tidy_items t items) rises.0 all.0, all.1, all.2, all.3),
        λ h.
            let rises = and_parts rising (are_tidy_items t items) h.0 in
            let opens = and_parts (nat_lt 0 n) (few && rest) (list.1 (rises.1, h.1, h.2, h.3)) in
            let sized = and_parts few rest opens.1 in
            and_from (nat_lt 0 n) (few && (rising && rest)) opens.0 (and_from few (rising && rest) sized.0 (and_from rising rest rises.0 sized.1)),
      )

  map_out : (n : ℕ) (key value : PlainKind) (k v : Tag) (pairs : PairTrees) → Decides (do_pairs_go_out structs (n - 1) key value pairs) (PairsPass (n - 1) key value pairs)
      → Decides (does_map_go_out structs n key value k v pairs)
      (((are_rising_pairs pairs && are_tidy_pairs k v pairs) ≡ true) × (nat_le (pairs_depth pairs + 1) n ≡ true) × (are_pairs_written_as structs key value pairs ≡ true)
      × ((nat_lt (pairs_len pairs) (2 ^ 31) && have_pairs_small_sizes pairs) ≡ true))
  map_out n key value k v pairs each =
      let rising = are_rising_pairs pairs in
      let rest = do_pairs_go_out structs (n - 1) key value pairs in
      let few = nat_lt (pairs_len pairs) (2 ^ 31) in
      let names = are_named_pairs k v key value pairs in
      let own = are_tidy_pairs (tag_of_kind key) (tag_of_kind value) pairs in (
        λ e.
            let opens = and_parts (nat_lt 0 n) ((few && names) && (rising && rest)) e in
            let sized = and_parts (few && names) (rising && rest) opens.1 in
            let rises = and_parts rising rest sized.1 in
            let named = and_parts few names sized.0 in
            let all = each.0 rises.1 in (
              and_from rising (are_tidy_pairs k v pairs) rises.0 ((named_pairs k v key value pairs all.2).0 (and_from names own named.1 all.0)),
              (one_deeper (pairs_depth pairs) n).1 (opens.0, all.1),
              all.2,
              and_from few (have_pairs_small_sizes pairs) named.0 all.3,
            ),
        λ h.
            let rises = and_parts rising (are_tidy_pairs k v pairs) h.0 in
            let named = and_parts names own ((named_pairs k v key value pairs h.2).1 rises.1) in
            let deep = (one_deeper (pairs_depth pairs) n).0 h.1 in
            let sized = and_parts few (have_pairs_small_sizes pairs) h.3 in
            and_from (nat_lt 0 n) ((few && names) && (rising && rest)) deep.0
            (and_from (few && names) (rising && rest) (and_from few names sized.0 named.0) (and_from rising rest rises.0 (each.1 (named.1, deep.1, h.2, sized.1)))),
      )

  mutual
    decides_out : (n : ℕ) (kind : PlainKind) (x : Tree) → Decides (goes_out structs n kind x) (Passes n kind x)
    decides_out n kind (of_bool b) = number_out n kind (of_bool b) tt refl (none_deep n) refl (written_scalar structs kind (of_bool b) tt)
    decides_out n kind (of_i8 i) = number_out n kind (of_i8 i) tt refl (none_deep n) refl (written_scalar structs kind (of_i8 i) tt)
    decides_out n kind (of_i16 i) = number_out n kind (of_i16 i) tt refl (none_deep n) refl (written_scalar structs kind (of_i16 i) tt)
    decides_out n kind (of_i32 i) = number_out n kind (of_i32 i) tt refl (none_deep n) refl (written_scalar structs kind (of_i32 i) tt)
    decides_out n kind (of_i64 i) = number_out n kind (of_i64 i) tt refl (none_deep n) refl (written_scalar structs kind (of_i64 i) tt)
    decides_out n kind (of_double d) = number_out n kind (of_double d) tt refl (none_deep n) refl (written_scalar structs kind (of_double d) tt)
    decides_out n kind (of_uuid u) = number_out n kind (of_uuid u) tt refl (none_deep n) refl (written_scalar structs kind (of_uuid u) tt)
    decides_out n kind (of_bytes bytes) = bytes_out n kind bytes
    decides_out n (kind_struct which) (of_struct fields) = struct_out n (slice_get structs which) fields (λ s. fields_out (n - 1) s.fields fields)
    decides_out n (kind_map key value) (of_map k v pairs) = map_out n key value k v pairs (pairs_out (n - 1) key value pairs)
    decides_out n (kind_set member) (of_set t items) = set_out n member t items (items_out (n - 1) member items)
    decides_out n (kind_list element) (of_list t items) = list_out n element t items (items_out (n - 1) element items)
    decides_out n _ _ = (λ e. absurd (false≢true e), λ h. absurd (false≢true h.2))

    fields_out : (n : ℕ) (declared : List PlainField) (fields : FieldTrees) → Decides (do_fields_go_out structs n declared fields) (FieldsPass n declared fields)
    fields_out n declared no_fields = (λ e. (refl, none_deep n, refl, refl), λ h. refl)
    fields_out n declared (field id x more) =
        let o = field_with_id id declared in
        let mine = field_out n o x (λ f. decides_out n f.kind x) in
        let others = fields_out n declared more in
        let goes = some_passes o (λ f. goes_out structs n f.kind x) in
        let rest = do_fields_go_out structs n declared more in
        let written = some_passes o (λ f. is_written_as structs f.kind x) in (
          λ e.
              let h = and_parts goes rest e in
              let a = mine.0 h.0 in
              let b = others.0 h.1 in (
                and_from (is_tidy x) (are_tidy_fields more) a.0 b.0,
                (both_deep (depth_of x) (fields_depth more) n).1 (a.1, b.1),
                and_from written (are_fields_written_as structs declared more) a.2 b.2,
                and_from (has_small_sizes x) (have_fields_small_sizes more) a.3 b.3,
              ),
          λ h.
              let t = and_parts (is_tidy x) (are_tidy_fields more) h.0 in
              let d = (both_deep (depth_of x) (fields_depth more) n).0 h.1 in
              let w = and_parts written (are_fields_written_as structs declared more) h.2 in
              let s = and_parts (has_small_sizes x) (have_fields_small_sizes more) h.3 in
              and_from goes rest (mine.1 (t.0, d.0, w.0, s.0)) (others.1 (t.1, d.1, w.1, s.1)),
        )

    items_out : (n : ℕ) (kind : PlainKind) (items : ItemTrees) → Decides (do_items_go_out structs n kind items) (ItemsPass n kind items)
    items_out n kind no_items = (λ e. (refl, none_deep n, refl, refl), λ h. refl)
    items_out n kind (item x more) =
        let t = tag_of_kind kind in
        let mine = decides_out n kind x in
        let others = items_out n kind more in
        let tagged = are_same_tags (tag_of x) t in (
          λ e.
              let h = and_parts (goes_out structs n kind x) (do_items_go_out structs n kind more) e in
              let a = mine.0 h.0 in
              let b = others.0 h.1 in (
                and_from (tagged && is_tidy x) (are_tidy_items t more) (and_from tagged (is_tidy x) ((same_tag (tag_of x) t).1 (written_tag structs kind x a.2)) a.0) b.0,
                (both_deep (depth_of x) (items_depth more) n).1 (a.1, b.1),
                and_from (is_written_as structs kind x) (are_items_written_as structs kind more) a.2 b.2,
                and_from (has_small_sizes x) (have_items_small_sizes more) a.3 b.3,
              ),
          λ h.
              let front = and_parts (tagged && is_tidy x) (are_tidy_items t more) h.0 in
              let d = (both_deep (depth_of x) (items_depth more) n).0 h.1 in
              let w = and_parts (is_written_as structs kind x) (are_items_written_as structs kind more) h.2 in
              let s = and_parts (has_small_sizes x) (have_items_small_sizes more) h.3 in
              and_from (goes_out structs n kind x) (do_items_go_out structs n kind more) (mine.1 ((and_parts tagged (is_tidy x) front.0).1, d.0, w.0, s.0)) (others.1 (front.1, d.1, w.1, s.1)),
        )

    pairs_out : (n : ℕ) (key value : PlainKind) (pairs : PairTrees) → Decides (do_pairs_go_out structs n key value pairs) (PairsPass n key value pairs)
    pairs_out n key value no_pairs = (λ e. (refl, none_deep n, refl, refl), λ h. refl)
    pairs_out n key value (pair x y more) =
        let k = tag_of_kind key in
        let v = tag_of_kind value in
        let one = decides_out n key x in
        let other = decides_out n value y in
        let others = pairs_out n key value more in
        let goes_x = goes_out structs n key x in
        let goes_y = goes_out structs n value y in
        let tidy_x = are_same_tags (tag_of x) k && is_tidy x in
        let tidy_y = are_same_tags (tag_of y) v && is_tidy y in
        let written_x = is_written_as structs key x in
        let written_y = is_written_as structs value y in
        let rest = do_pairs_go_out structs n key value more in (
          λ e.
              let h = and_parts (goes_x && goes_y) rest e in
              let two = and_parts goes_x goes_y h.0 in
              let a = one.0 two.0 in
              let b = other.0 two.1 in
              let c = others.0 h.1 in (
                and_from (tidy_x && tidy_y) (are_tidy_pairs k v more)
                    (and_from tidy_x tidy_y (and_from (are_same_tags (tag_of x) k) (is_tidy x) ((same_tag (tag_of x) k).1 (written_tag structs key x a.2)) a.0)
                    (and_from (are_same_tags (tag_of y) v) (is_tidy y) ((same_tag (tag_of y) v).1 (written_tag structs value y b.2)) b.0)) c.0,
                (both_deep (max (depth_of x) (depth_of y)) (pairs_depth more) n).1 ((both_deep (depth_of x) (depth_of y) n).1 (a.1, b.1), c.1),
                and_from (written_x && written_y) (are_pairs_written_as structs key value more) (and_from written_x written_y a.2 b.2) c.2,
                and_from (has_small_sizes x && has_small_sizes y) (have_pairs_small_sizes more) (and_from (has_small_sizes x) (has_small_sizes y) a.3 b.3) c.3,
              ),
          λ h.
              let t = and_parts (tidy_x && tidy_y) (are_tidy_pairs k v more) h.0 in
              let tt_ = and_parts tidy_x tidy_y t.0 in
              let d = (both_deep (max (depth_of x) (depth_of y)) (pairs_depth more) n).0 h.1 in
              let dd = (both_deep (depth_of x) (depth_of y) n).0 d.0 in
              let w = and_parts (written_x && written_y) (are_pairs_written_as structs key value more) h.2 in
              let ww = and_parts written_x written_y w.0 in
              let s = and_parts (has_small_sizes x && has_small_sizes y) (have_pairs_small_sizes more) h.3 in
              let ss = and_parts (has_small_sizes x) (has_small_sizes y) s.0 in
              and_from (goes_x && goes_y) rest
              (and_from goes_x goes_y (one.1 ((and_parts (are_same_tags (tag_of x) k) (is_tidy x) tt_.0).1, dd.0, ww.0, ss.0))
              (other.1 ((and_parts (are_same_tags (tag_of y) v) (is_tidy y) tt_.1).1, dd.1, ww.1, ss.1)))
              (others.1 (t.1, d.1, w.1, s.1)),
        )

-- the one test tells what the several tell
pub one_test : (structs : List PlainStruct) (n : ℕ) (kind : PlainKind) (x : Tree)
    → goes_out structs n kind x ≡ (is_tidy x && (nat_le (depth_of x) n && may_be_written structs kind x))
one_test structs n kind x =
    let deep = nat_le (depth_of x) n in
    let may = may_be_written structs kind x in
    one_answer (goes_out structs n kind x) (is_tidy x && (deep && may)) (decides_out structs n kind x) (
      λ e.
          let a = and_parts (is_tidy x) (deep && may) e in
          let b = and_parts deep may a.1 in
          let c = and_parts (is_written_as structs kind x) (has_small_sizes x) b.1 in
          (a.0, b.0, c.0, c.1),
      λ h. and_from (is_tidy x) (deep && may) h.0 (and_from deep may h.1 (and_from (is_written_as structs kind x) (has_small_sizes x) h.2 h.3)),
    )
