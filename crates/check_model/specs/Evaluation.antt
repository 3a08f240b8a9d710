-- What a constant value is worth against a type: a function of the values that aren't under evaluation, in reading order, with
-- the first fault (Thrift IDL, 'Constant Values').
use Rattle.std.specs.Prelude.{ℕ, zero, suc, ℤ, Bool, true, false, List, [], ◌∷◌, map, length, slice_get, slice_index_or, slice_set, Option, Some, None, Ok, Err, if◌then◌else◌}
use Rattle.std.specs.Ordering.{int_eq}
use Rattle.std.specs.Option.{option_or, option_and_then, option_map_or}
use Rattle.std.specs.List.{find}
use Rattle.std.specs.Str.{bytes_eq}
use Rattle.idl_token.specs.declared.Place.{Place}
use Rattle.thrift_value.specs.declared.tag.Tag.{Tag}
use Rattle.thrift_value.specs.declared.tag.Tag.TheVariants as tag
use Rattle.thrift_value.specs.Tree.{Tree, of_struct, of_map, of_set, of_list, FieldTrees, no_fields, field, ItemTrees, no_items, item, PairTrees, no_pairs, pair}
use Rattle.idl_include.specs.ConstExpr.{ConstExpr, int_const, double_const, literal_const, name_const, list_const, map_const, ConstItems, no_consts, const_item, ConstEntries, no_entries, const_entry, place_of_const}
use Rattle.idl_include.specs.Program.{Program}
use Rattle.idl_include.specs.Numbering.{Filed}
use Rattle.idl_include.specs.Spots.{GivenValue, values_of}
use Rattle.idl_include.specs.ConstNames.{ConstMeaning, enum_value, given_value, value_number, const_meaning}
use Rattle.schema.specs.declared.types.FieldNeed.{FieldNeed}
use Rattle.schema.specs.declared.types.FieldNeed.TheVariants as wanted
use Rattle.schema.specs.declared.types.FieldsKind.{FieldsKind}
use Rattle.schema.specs.declared.types.FieldsKind.TheVariants as fields
use Rattle.schema.specs.PlainKind.{PlainKind, kind_bool, kind_i8, kind_i16, kind_i32, kind_i64, kind_double, kind_text, kind_binary, kind_uuid, kind_enum, kind_struct, kind_map, kind_set, kind_list}
use Rattle.schema.specs.PlainSchema.{PlainField, PlainStruct, PlainSchema}
use Rattle.check_model.specs.FieldLists.{NumberedField, FieldsDecl, fields_by_id, field_lists}
use Rattle.check_model.specs.TidyRows.{tidy_members, tidy_pairs}
use Rattle.check_model.specs.Worths.{wrong_kind, unknown_name, const_cycle, unknown_field, missing_field, Worth, valued, flawed, and_next, seen_at, only_if, one_more, one_level, most_const_levels}
use Rattle.check_model.specs.Scalars.{OneWorth, int_worth, double_worth, literal_worth, enum_worth}

-- what constants are evaluated in: the program, and its schema, of which neither defaults nor constants count here
pub record Setting : Type 0 where
  pub program : Program
  pub schema : PlainSchema

-- what the given value of some number is worth against a type, with so many levels left, behind so many values
abbrev pub NamedWorth : Type 0
NamedWorth = ℕ → PlainKind → ℕ → ℕ → Worth Tree

-- the tag of a type's values
abbrev pub kind_tag : PlainKind → Tag
kind_tag kind_bool = tag.Bool
kind_tag kind_i8 = tag.I8
kind_tag kind_i16 = tag.I16
kind_tag kind_i32 = tag.I32
kind_tag kind_i64 = tag.I64
kind_tag kind_double = tag.Double
kind_tag kind_text = tag.Bytes
kind_tag kind_binary = tag.Bytes
kind_tag kind_uuid = tag.Uuid
kind_tag (kind_enum _) = tag.I32
kind_tag (kind_struct _) = tag.Struct
kind_tag (kind_map _ _) = tag.Map
kind_tag (kind_set _) = tag.Set
kind_tag (kind_list _) = tag.List

-- a value, or what is wrong with it
abbrev pub judged : Place → ℕ → OneWorth → Worth Tree
judged at count (Ok value) = valued value count
judged at count (Err flaw) = flawed at flaw

-- one value, without others inside
abbrev pub single : Place → ℕ → OneWorth → Worth Tree
single at count worth = one_more at count (λ n. judged at n worth)

-- a name, by what it stands for: the number of an enum's value is one value, and a constant is worth what its tree is
abbrev pub name_worth : NamedWorth → PlainKind → ℕ → ℕ → Place → Option ConstMeaning → Worth Tree
name_worth named kind levels count at None = flawed at unknown_name
name_worth named kind levels count at (Some (enum_value which number)) = single at count (enum_worth kind which number)
name_worth named kind levels count at (Some (given_value which)) = seen_at at (named which kind levels count)

-- a container, of which some forms fit a type: one value more, the form, one level less, and then what is in it
abbrev pub opened : Place → Bool → ℕ → ℕ → (ℕ → ℕ → Worth Tree) → Worth Tree
opened at fits levels count inside = one_more at count (λ n. only_if fits at wrong_kind (one_level at levels (λ left. inside left n)))

-- the type takes a list in brackets
abbrev pub takes_brackets : PlainKind → Bool
takes_brackets (kind_set _) = true
takes_brackets (kind_list _) = true
takes_brackets _ = false

-- the type takes keys and values in braces
abbrev pub takes_braces : PlainKind → Bool
takes_braces (kind_struct _) = true
takes_braces (kind_map _ _) = true
takes_braces _ = false

-- the type of what stands in brackets
abbrev pub element_kind : PlainKind → PlainKind
element_kind (kind_set member) = member
element_kind (kind_list element) = element
element_kind other = other

-- a list, or a set of the members by rising order
abbrev pub row_tree : PlainKind → ItemTrees → Tree
row_tree (kind_set member) items = of_set (kind_tag member) (tidy_members items)
row_tree other items = of_list (kind_tag (element_kind other)) items

-- the field of a struct that a key names; it is none where the key is no literal, or no field has this name
abbrev pub field_of_key : List PlainField → ℕ → ConstExpr → Worth PlainField
field_of_key items count (literal_const name) =
    option_map_or (λ (f : PlainField). valued f count) (find (λ (f : PlainField). bytes_eq f.name name.text) items) (flawed name.at unknown_field)
field_of_key items count key = flawed (place_of_const key) wrong_kind

-- a value that is given for the field of an id
pub record FieldValue : Type 0 where
  pub id : ℤ
  pub value : Tree

-- the last value that is given for a field
abbrev pub last_given : ℤ → List FieldValue → Option Tree
last_given id [] = None
last_given id (given ∷ more) = option_or (last_given id more) (if int_eq given.id id then Some given.value else None)

-- a field in front of others, if it has a value
abbrev pub with_field : ℤ → Option Tree → FieldTrees → FieldTrees
with_field id None more = more
with_field id (Some value) more = field id value more

-- a field that is neither given nor has a default
abbrev pub missing_worth : Place → ℕ → FieldNeed → Worth (Option Tree)
missing_worth at count wanted.Required = flawed at missing_field
missing_worth at count _ = valued None count

-- a struct's field that isn't given: its default, by its number among the given values; else it may be missing, or not
abbrev pub default_worth : NamedWorth → Place → ℕ → ℕ → PlainField → Option ℕ → Worth (Option Tree)
default_worth named at levels count f (Some which) = and_next (seen_at at (named which f.kind levels count)) (λ value n. valued (Some value) n)
default_worth named at levels count f None = missing_worth at count f.need

-- a struct's field: what was given last, or else its default
abbrev pub field_worth : NamedWorth → Place → ℕ → ℕ → PlainField → Option ℕ → Option Tree → Worth (Option Tree)
field_worth named at levels count f default (Some value) = valued (Some value) count
field_worth named at levels count f default None = default_worth named at levels count f default

-- the fields of a struct by rising id; `default` has the number of a field's default among the given values
abbrev pub fields_worth : NamedWorth → (ℤ → Option ℕ) → List FieldValue → Place → ℕ → ℕ → List PlainField → Worth FieldTrees
fields_worth named default given at levels count [] = valued no_fields count
fields_worth named default given at levels count (f ∷ more) =
    and_next (field_worth named at levels count f (default f.id) (last_given f.id given)) (λ value n.
    and_next (fields_worth named default given at levels n more) (λ rest m.
    valued (with_field f.id value rest) m))

-- the fields of a union: exactly one entry, and no default
abbrev pub union_worth : List FieldValue → Place → ℕ → Worth FieldTrees
union_worth (given ∷ []) at count = valued (field given.id given.value no_fields) count
union_worth _ at count = flawed at wrong_kind

-- the number of a field's default among the given values, if it has one
abbrev pub default_in : Program → FieldsDecl → ℤ → Option ℕ
default_in program list id =
    option_and_then (λ (f : NumberedField). option_and_then (λ (tree : ConstExpr). value_number program list.file f.decl.at) f.decl.default)
    (find (λ (f : NumberedField). int_eq f.id id) (fields_by_id list.fields))

-- the same of a field of the struct of some number
unfoldable pub default_of : Program → ℕ → ℤ → Option ℕ
default_of program which id = option_and_then (λ list. default_in program list id) (slice_get (field_lists program) which)

-- what is made of the values that are given for a struct's fields
abbrev pub made_fields : NamedWorth → (ℤ → Option ℕ) → Place → ℕ → FieldsKind → List PlainField → List FieldValue → ℕ → Worth FieldTrees
made_fields named default at levels fields.Union items given count = union_worth given at count
made_fields named default at levels _ items given count = fields_worth named default given at levels count items

-- the struct of some number, or one without fields
abbrev pub struct_numbered : PlainSchema → ℕ → PlainStruct
struct_numbered schema which = slice_index_or schema.structs which (record { file = 0; name = []; kind = fields.Struct; fields = [] })

-- what stands in braces, by the type: pairs of a map, or fields of a struct
abbrev pub braced : PlainKind → (PlainKind → PlainKind → Worth PairTrees) → (ℕ → Worth FieldTrees) → Worth Tree
braced (kind_map key value) pairs struct = and_next (pairs key value) (λ made n. valued (of_map (kind_tag key) (kind_tag value) (tidy_pairs made)) n)
braced (kind_struct which) pairs struct = and_next (struct which) (λ made n. valued (of_struct made) n)
braced other pairs struct = and_next (struct 0) (λ made n. valued (of_struct made) n)

abbrev mutual
  -- a value that stands in a file
  pub worth_by : Setting → NamedWorth → ℕ → PlainKind → ℕ → ℕ → ConstExpr → Worth Tree
  worth_by s named file kind levels count (int_const n at) = single at count (int_worth kind n)
  worth_by s named file kind levels count (double_const digits) = single digits.at count (double_worth kind digits.text)
  worth_by s named file kind levels count (literal_const literal) = single literal.at count (literal_worth kind literal.text)
  worth_by s named file kind levels count (name_const name) =
      name_worth named kind levels count name.at (const_meaning s.program file name.text)
  worth_by s named file kind levels count (list_const at items) = opened at (takes_brackets kind) levels count (λ left n.
      and_next (items_by s named file (element_kind kind) left n items) (λ made m. valued (row_tree kind made) m))
  worth_by s named file kind levels count (map_const at entries) = opened at (takes_braces kind) levels count (λ left n.
      braced kind (λ key value. pairs_by s named file key value left n entries) (λ which.
      and_next (given_by s named file (struct_numbered s.schema which).fields left n entries) (λ given m.
      made_fields named (default_of s.program which) at left (struct_numbered s.schema which).kind (struct_numbered s.schema which).fields given m)))

  -- the values of a list, each against one type
  pub items_by : Setting → NamedWorth → ℕ → PlainKind → ℕ → ℕ → ConstItems → Worth ItemTrees
  items_by s named file kind levels count no_consts = valued no_items count
  items_by s named file kind levels count (const_item x more) =
      and_next (worth_by s named file kind levels count x) (λ value n.
      and_next (items_by s named file kind levels n more) (λ rest m. valued (item value rest) m))

  -- keys and values of a map, each against its type
  pub pairs_by : Setting → NamedWorth → ℕ → PlainKind → PlainKind → ℕ → ℕ → ConstEntries → Worth PairTrees
  pairs_by s named file key value levels count no_entries = valued no_pairs count
  pairs_by s named file key value levels count (const_entry k v more) =
      and_next (worth_by s named file key levels count k) (λ first n.
      and_next (worth_by s named file value levels n v) (λ second m.
      and_next (pairs_by s named file key value levels m more) (λ rest o. valued (pair first second rest) o)))

  -- the values that are given for a struct's fields, in order
  pub given_by : Setting → NamedWorth → ℕ → List PlainField → ℕ → ℕ → ConstEntries → Worth (List FieldValue)
  given_by s named file items levels count no_entries = valued [] count
  given_by s named file items levels count (const_entry key v more) =
      and_next (field_of_key items count key) (λ f n.
      and_next (worth_by s named file f.kind levels n v) (λ value m.
      and_next (given_by s named file items levels m more) (λ rest o. valued (record { id = f.id; value = value } ∷ rest) o)))

-- the given value of this number isn't under evaluation
abbrev pub is_free : List Bool → ℕ → Bool
is_free free which = slice_index_or free which false

-- a value by its number, with what the others are worth
abbrev pub on_entering : Setting → NamedWorth → Bool → Option (Filed GivenValue) → PlainKind → ℕ → ℕ → Worth Tree
on_entering s named true (Some v) kind levels count = worth_by s named v.file kind levels count v.item.tree
on_entering s named _ _ kind levels count = flawed (record { line = 0; column = 0 }) const_cycle

-- what given values are worth of which so many are free, at most: one that isn't free needs itself
unfoldable pub named_worth : Setting → ℕ → List Bool → NamedWorth
named_worth s zero free which kind levels count = flawed (record { line = 0; column = 0 }) const_cycle
named_worth s (suc left) free which kind levels count =
    on_entering s (named_worth s left (slice_set free which false)) (is_free free which) (slice_get (values_of s.program) which) kind levels count

-- all given values are free
abbrev pub all_free : Program → List Bool
all_free program = map (λ v. true) (values_of program)

-- What a value that stands in a file is worth against a type, where none is under evaluation.
unfoldable pub evaluated : Setting → ℕ → PlainKind → ConstExpr → Worth Tree
evaluated s file kind tree =
    worth_by s (named_worth s (length (values_of s.program)) (all_free s.program)) file kind most_const_levels 0 tree

-- What the given value of some number is worth against its type, where it is under evaluation itself.
unfoldable pub given_worth : Setting → ℕ → PlainKind → Filed GivenValue → Worth Tree
given_worth s which kind v =
    worth_by s (named_worth s (length (values_of s.program)) (slice_set (all_free s.program) which false)) v.file kind most_const_levels 0 v.item.tree
