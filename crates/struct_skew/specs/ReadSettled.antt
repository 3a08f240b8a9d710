-- What is read where all is in order: a value that means itself, as the protocol reads it.
use Rattle.std.specs.Prelude.{◌≡◌, ◌<ℤ◌, ⊤, ℕ, ℤ, pos, Bool, length, List, [], ◌∷◌, Option, MatchOption, Ok}
use Rattle.std.specs.List.{AllByRecursion}
use Rattle.thrift_value.specs.declared.tag.Tag.{Tag}
use Rattle.thrift_value.specs.declared.tag.Tag.TheVariants as tags
use Rattle.thrift_value.specs.declared.value.Value.{Value}
use Rattle.thrift_value.specs.declared.value.Fields.{Fields}
use Rattle.thrift_value.specs.declared.value.Items.{Items}
use Rattle.thrift_value.specs.declared.value.Pairs.{Pairs}
use Rattle.thrift_value.specs.Tidy.{IsTidy}
use Rattle.thrift_value.specs.Tree.{Tree, of_bool, of_set, of_list}
use Rattle.thrift_value.specs.TreeOf.{tree_of, fields_of, items_of, pairs_of, fields_tree, items_tree, pairs_tree}
use Rattle.schema.specs.PlainKind.{PlainKind}
use Rattle.schema.specs.PlainSchema.{PlainField, PlainStruct}
use Rattle.schema.specs.WrittenAs.{field_with_id, IsWrittenAs}
use Rattle.wire_model.specs.Decoder.{Unread, count_value}
use Rattle.wire_model.specs.Reading.{value, field_list, item_list, pair_list}
use Rattle.wire_model.specs.Wire.{Wire}
use Rattle.known_parts.specs.Parts.{tag_of_kind}
use Rattle.struct_skew.specs.Filled.{IsFilled}

-- a value means itself under a type: it is tidy and of that type, and nothing is left to fill in
pub record IsSettled (structs : List PlainStruct) (kind : PlainKind) (v : Tree) : Type 0 where
  pub tidy : IsTidy v
  pub typed : IsWrittenAs structs kind v
  pub filled : IsFilled structs kind v

-- a value that means itself is read under a type's tag
pub record ReadsSettled (wire : Wire) (levels : ℕ) (structs : List PlainStruct) (kind : PlainKind) (before : Unread) (x : Tree) (after : Unread) : Type 0 where
  pub read : value wire levels (tag_of_kind kind) before ≡ Ok (x, after)
  pub settled : IsSettled structs kind x

-- a number, a bool, a uuid or bytes of a tag is read, whatever the levels, and means itself under each type of the tag
pub record ReadsLeaf (wire : Wire) (tag : Tag) (before : Unread) (x : Tree) (after : Unread) : Type 0 where
  pub read : (levels : ℕ) → value wire levels tag before ≡ Ok (x, after)
  pub settled : (structs : List PlainStruct) (kind : PlainKind) → tag ≡ tag_of_kind kind → IsSettled structs kind x

-- behind a field's head a value is read that means itself: a bool that the head has, or a value of the head's tag
pub record ReadsField (wire : Wire) (levels : ℕ) (structs : List PlainStruct) (kind : PlainKind) (tag : Tag) (flag : Option Bool) (before : Unread) (x : Tree) (after : Unread) : Type 0 where
  pub read : MatchOption flag (value wire levels tag before ≡ Ok (x, after)) (λ b. (count_value before ≡ Ok (tt, after)) × (x ≡ of_bool b))
  pub settled : IsSettled structs kind x

-- a field is declared, and its value means itself
abbrev pub IsFieldSettled : List PlainStruct → List PlainField → ℤ × Value → Type 0
IsFieldSettled structs declared f = MatchOption (field_with_id f.0 declared) ⊥ (λ d. IsSettled structs d.kind (tree_of f.1))

-- the ids rise
abbrev pub AreIdsRising : List (ℤ × Value) → Type 0
AreIdsRising [] = ⊤
AreIdsRising (f ∷ fs) = AllByRecursion (λ g. f.0 <ℤ g.0) fs × AreIdsRising fs

-- the fields of a struct up to its end are read: each is declared and means itself, and their ids rise
pub record ReadsFields (wire : Wire) (levels : ℕ) (structs : List PlainStruct) (declared : List PlainField) (before : Unread) (fields : Fields) (after : Unread) : Type 0 where
  pub read : field_list wire (value wire levels) (length before.bytes) (pos 0) before ≡ Ok (fields_tree fields, after)
  pub settled : AllByRecursion (IsFieldSettled structs declared) (fields_of fields)
  pub rising : AreIdsRising (fields_of fields)

-- so many values that mean themselves are read
pub record ReadsItems (wire : Wire) (levels : ℕ) (structs : List PlainStruct) (kind : PlainKind) (count : ℕ) (before : Unread) (items : Items) (after : Unread) : Type 0 where
  pub read : item_list (value wire levels) (tag_of_kind kind) count before ≡ Ok (items_tree items, after)
  pub settled : AllByRecursion (λ v. IsSettled structs kind (tree_of v)) (items_of items)

-- a list is read, and a set just so, of elements that mean themselves, with the tag of their type
pub record ReadsElements (wire : Wire) (levels : ℕ) (structs : List PlainStruct) (kind : PlainKind) (before : Unread) (tag : Tag) (items : Items) (after : Unread) : Type 0 where
  pub list : value wire levels tags.List before ≡ Ok (of_list tag (items_tree items), after)
  pub set : value wire levels tags.Set before ≡ Ok (of_set tag (items_tree items), after)
  pub tagged : tag ≡ tag_of_kind kind
  pub settled : AllByRecursion (λ v. IsSettled structs kind (tree_of v)) (items_of items)

-- a key and its value mean themselves
abbrev pub IsPairSettled : List PlainStruct → PlainKind → PlainKind → Value × Value → Type 0
IsPairSettled structs key value p = IsSettled structs key (tree_of p.0) × IsSettled structs value (tree_of p.1)

-- so many pairs of keys and values that mean themselves are read
pub record ReadsPairs (wire : Wire) (levels : ℕ) (structs : List PlainStruct) (key_kind value_kind : PlainKind) (count : ℕ) (before : Unread) (pairs : Pairs) (after : Unread) : Type 0 where
  pub read : pair_list (value wire levels) (tag_of_kind key_kind) (tag_of_kind value_kind) count before ≡ Ok (pairs_tree pairs, after)
  pub settled : AllByRecursion (IsPairSettled structs key_kind value_kind) (pairs_of pairs)
