-- Fields of a schema beside the same as they are written.
use Rattle.std.specs.Prelude.{◌≡◌, ⊤, ℕ, List, [], ◌∷◌, Option}
use Rattle.schema.specs.PlainSchema.{PlainField}
use Rattle.check_model.specs.FieldLists.{NumberedField}
use Rattle.idl_const.specs.FieldEntries.{PlainFieldEntry}
use Rattle.idl_const.specs.FieldRows.{owed_before}

-- the fields that are owed, of those of a schema, each with the number of the default of the one beside it
abbrev pub owed_beside : (NumberedField → Option ℕ) → List NumberedField → List PlainField → List PlainFieldEntry
owed_beside number (s ∷ sorted) (f ∷ fields) = owed_before f (number s) (owed_beside number sorted fields)
owed_beside number _ _ = []

-- each field of a schema has the id of the one beside it
abbrev pub HaveSameIds : List NumberedField → List PlainField → Type 0
HaveSameIds sorted [] = ⊤
HaveSameIds [] (f ∷ fields) = ⊥
HaveSameIds (s ∷ sorted) (f ∷ fields) = (s.id ≡ f.id) × HaveSameIds sorted fields
