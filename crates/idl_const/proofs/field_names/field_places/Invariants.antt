use Rattle.std.proofs.Common.{◌≡◌, ℕ, List, map, take}
use Rattle.std.specs.List.{position_from}
use Rattle.std.specs.Str.{bytes_eq}
use Rattle.schema.specs.PlainSchema.{PlainField}
use Rattle.schema.specs.SchemaOf.{plain_field}
use Rattle.idl_names.specs.NameMaps.{number_of_name}
use Rattle.idl_const.proofs.field_names.field_places.Given as goal

-- the fields so far
abbrev pub invariant-loop-place : goal.invariant-loop-place
invariant-loop-place l = (name : List ℕ) → number_of_name l.places name ≡ position_from (λ (f : PlainField). bytes_eq f.name name) 0 (map plain_field (take l.place l.fields))
