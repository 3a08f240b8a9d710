-- Values by the places of what they are given for: the names of constants, and fields.
use Rattle.std.specs.Prelude.{◌≡◌, ℕ, ◌==◌, ◌&&◌, Bool, slice_get, Option, Some, None}
use Rattle.std.specs.Option.{option_or}
use Rattle.indexmap.specs.IndexMap.{IndexMap, get_by}
use Rattle.std.specs.declared.hash.FoldHasher.{FoldHasher}
use Rattle.std.specs.declared.hash.BuildHasherDefault.{BuildHasherDefault}
use Rattle.idl_token.specs.declared.Place.{Place}
use Rattle.idl_include.specs.Program.{Program}
use Rattle.idl_include.specs.Numbering.{Filed}
use Rattle.idl_include.specs.Spots.{GivenValue, values_of}
use Rattle.idl_include.specs.ConstNames.{value_number}
use Rattle.idl_names.specs.NameMaps.{number_if}
use Rattle.const_evaluator.specs.declared.places.ValuePlaces.{ValuePlaces}

-- the number of a file, a line and a column
abbrev pub PlaceKey : Type 0
PlaceKey = ℕ × ℕ × ℕ

-- numbers by place
abbrev pub PlaceMap : Type 0
PlaceMap = IndexMap PlaceKey ℕ (BuildHasherDefault FoldHasher)

-- it is this place in this file
abbrev pub is_key_of : ℕ → Place → PlaceKey → Bool
is_key_of file owner key = ((file == key.0) && (owner.line == key.1)) && (owner.column == key.2)

-- the number of a place in a file
abbrev pub number_of_place : PlaceMap → ℕ → Place → Option ℕ
number_of_place m file owner = get_by (is_key_of file owner) m

-- places have one more, which wasn't there
pub record HasNewPlace (file : ℕ) (owner : Place) (number : ℕ) (old new : PlaceMap) : Type 0 where
  pub absent : number_of_place old file owner ≡ None
  pub found : (f : ℕ) (other : Place) → number_of_place new f other ≡ option_or (number_of_place old f other) (number_if (is_key_of f other (file, owner.line, owner.column)) number)

-- the number of the value that is given for what stands at a place in a file
abbrev pub number_at_place : ValuePlaces → ℕ → Place → Option ℕ
number_at_place places file owner = number_of_place places.numbers file owner

-- the values of a program have these places, each one of its own
pub record ArePlaces (program : Program) (places : ValuePlaces) : Type 0 where
  pub numbers : (file : ℕ) (owner : Place) → number_at_place places file owner ≡ value_number program file owner
  pub own : (which : ℕ) (v : Filed GivenValue) → slice_get (values_of program) which ≡ Some v → value_number program v.file v.item.owner ≡ Some which
