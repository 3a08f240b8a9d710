-- The fields that a literal of a struct is made of: those that are given, and those that have a default or have to be given.
use Rattle.std.specs.Prelude.{◌≡◌, ◌⊎◌, ⊤, ℕ, ℤ, List, [], ◌∷◌, Option, Some}
use Rattle.idl_token.specs.declared.Place.{Place}
use Rattle.thrift_value.specs.declared.value.Value.{Value}
use Rattle.thrift_value.specs.Tree.{Tree, FieldTrees, no_fields, field}
use Rattle.thrift_value.specs.TreeOf.{tree_of}
use Rattle.schema.specs.PlainSchema.{PlainField}
use Rattle.schema.specs.SchemaOf.{plain_field}
use Rattle.check_model.specs.Worths.{Worth, valued, and_next}
use Rattle.check_model.specs.Evaluation.{NamedWorth, FieldValue, with_field, default_worth}
use Rattle.idl_const.specs.declared.ground.FieldEntry.{FieldEntry}
use Rattle.idl_const.specs.declared.ground.FieldEntry.TheVariants as entry

-- a field that is given, by its id, or one that isn't, with the number of its default
pub data PlainFieldEntry : Type 0 where
  given_entry : FieldValue → PlainFieldEntry
  owed_entry : PlainField → Option ℕ → PlainFieldEntry

-- the same in memory
abbrev pub entry_in : FieldEntry → PlainFieldEntry
entry_in (entry.Given id value) = given_entry (record { id = id; value = tree_of value })
entry_in (entry.Owed f default) = owed_entry (plain_field f.now) default

-- values that are given, in memory
abbrev pub given_in_memory : ℤ × Value → FieldValue
given_in_memory p = record { id = p.0; value = tree_of p.1 }

-- the id of an entry
abbrev pub entry_id : PlainFieldEntry → ℤ
entry_id (given_entry v) = v.id
entry_id (owed_entry f default) = f.id

-- what an entry is worth: the value that is given, or else the default
abbrev pub entry_worth : NamedWorth → Place → ℕ → ℕ → PlainFieldEntry → Worth (Option Tree)
entry_worth named at levels count (given_entry v) = valued (Some v.value) count
entry_worth named at levels count (owed_entry f default) = default_worth named at levels count f default

-- what entries are worth, as fields
abbrev pub entries_worth : NamedWorth → Place → ℕ → ℕ → List PlainFieldEntry → Worth FieldTrees
entries_worth named at levels count [] = valued no_fields count
entries_worth named at levels count (e ∷ more) =
    and_next (entry_worth named at levels count e) (λ value n.
    and_next (entries_worth named at levels n more) (λ rest m.
    valued (with_field (entry_id e) value rest) m))

-- one of the fields has this id
abbrev pub HasFieldId : List PlainField → ℤ → Type 0
HasFieldId [] id = ⊥
HasFieldId (f ∷ more) id = (f.id ≡ id) ⊎ HasFieldId more id

-- each value is given for one of the fields
abbrev pub AreGivenFor : List PlainField → List FieldValue → Type 0
AreGivenFor items [] = ⊤
AreGivenFor items (v ∷ more) = HasFieldId items v.id × AreGivenFor items more

-- fields in front of others
abbrev pub fields_in_front : List (ℤ × Value) → FieldTrees → FieldTrees
fields_in_front [] more = more
fields_in_front (f ∷ fs) more = field f.0 (tree_of f.1) (fields_in_front fs more)
