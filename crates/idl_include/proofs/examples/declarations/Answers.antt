use Rattle.std.proofs.Common.{refl}
use Rattle.idl_include.specs.Decoded.{declarations_of}
use Rattle.idl_include.specs.FieldIds.{field_ids}
use Rattle.idl_include.specs.EnumNumbers.{enum_numbers}
use Rattle.idl_include.specs.Names.{type_named, sought}
use Rattle.idl_include.specs.Numbering.{typedefs_of, enums_of, structs_of, constants_of}
use Rattle.idl_include.specs.ConstNames.{const_meaning, value_number}
use Rattle.idl_include.specs.Spots.{values_of, spots_of, spots_in_declaration, spots_in_field}
use Rattle.idl_include.proofs.examples.declarations.Goals as goal

pub returns-clause-decoded : goal.returns-clause-decoded
unfolding declarations_of field_ids enum_numbers type_named const_meaning sought typedefs_of enums_of structs_of constants_of value_number values_of spots_of spots_in_declaration spots_in_field
returns-clause-decoded c = refl

pub returns-clause-ids : goal.returns-clause-ids
unfolding declarations_of field_ids enum_numbers type_named const_meaning sought typedefs_of enums_of structs_of constants_of value_number values_of spots_of spots_in_declaration spots_in_field
returns-clause-ids c = refl

pub returns-clause-numbers : goal.returns-clause-numbers
unfolding declarations_of field_ids enum_numbers type_named const_meaning sought typedefs_of enums_of structs_of constants_of value_number values_of spots_of spots_in_declaration spots_in_field
returns-clause-numbers c = refl

pub returns-clause-struct_name : goal.returns-clause-struct_name
unfolding declarations_of field_ids enum_numbers type_named const_meaning sought typedefs_of enums_of structs_of constants_of value_number values_of spots_of spots_in_declaration spots_in_field
returns-clause-struct_name c = refl

pub returns-clause-number_named : goal.returns-clause-number_named
unfolding declarations_of field_ids enum_numbers type_named const_meaning sought typedefs_of enums_of structs_of constants_of value_number values_of spots_of spots_in_declaration spots_in_field
returns-clause-number_named c = refl

pub returns-clause-bare_number : goal.returns-clause-bare_number
unfolding declarations_of field_ids enum_numbers type_named const_meaning sought typedefs_of enums_of structs_of constants_of value_number values_of spots_of spots_in_declaration spots_in_field
returns-clause-bare_number c = refl

pub returns-clause-constant : goal.returns-clause-constant
unfolding declarations_of field_ids enum_numbers type_named const_meaning sought typedefs_of enums_of structs_of constants_of value_number values_of spots_of spots_in_declaration spots_in_field
returns-clause-constant c = refl
