-- What a literal of a struct is made of, field by field: the fields that are given, and among them those that are owed.
use Rattle.std.specs.Prelude.{ℕ, ℤ, List, [], ◌∷◌, Option, Some, None}
use Rattle.thrift_value.specs.Tree.{Tree}
use Rattle.schema.specs.declared.types.FieldNeed.{FieldNeed}
use Rattle.schema.specs.declared.types.FieldNeed.TheVariants as wanted
use Rattle.schema.specs.PlainSchema.{PlainField}
use Rattle.schema.specs.SchemaOf.{plain_field}
use Rattle.idl_const.specs.declared.field_rows.OwedField.{OwedField}
use Rattle.idl_const.specs.FieldEntries.{PlainFieldEntry, given_entry, owed_entry}

-- a field without a default in front of others, if it has to be given
abbrev pub needed_before : FieldNeed → PlainField → List PlainFieldEntry → List PlainFieldEntry
needed_before wanted.Required f rest = owed_entry f None ∷ rest
needed_before _ f rest = rest

-- a field that isn't given in front of others, if it has a default or has to be given
abbrev pub owed_before : PlainField → Option ℕ → List PlainFieldEntry → List PlainFieldEntry
owed_before f None rest = needed_before f.need f rest
owed_before f (Some which) rest = owed_entry f (Some which) ∷ rest

-- a field in front of others, by what is given for it
abbrev pub entry_before : PlainField → Option ℕ → Option Tree → List PlainFieldEntry → List PlainFieldEntry
entry_before f default None rest = owed_before f default rest
entry_before f default (Some value) rest = given_entry (record { id = f.id; value = value }) ∷ rest

-- what is made of fields, with the numbers of their defaults and what is given for them
abbrev pub entries_for : (ℤ → Option ℕ) → (ℤ → Option Tree) → List PlainField → List PlainFieldEntry
entries_for default given [] = []
entries_for default given (f ∷ more) = entry_before f (default f.id) (given f.id) (entries_for default given more)

-- the fields that are owed: what is made of all where none is given
abbrev pub owed_entries : (ℤ → Option ℕ) → List PlainField → List PlainFieldEntry
owed_entries default fields = entries_for default (λ id. None) fields

-- owed fields in memory
abbrev pub owed_in : OwedField → PlainFieldEntry
owed_in o = owed_entry (plain_field o.field.now) o.default
