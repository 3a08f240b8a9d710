use Rattle.std.proofs.Common.{refl}
use Rattle.check_model.specs.Evaluation.{given_worth, evaluated, named_worth, default_of}
use Rattle.check_model.specs.Worths.{most_const_values, most_const_levels}
use Rattle.check_model.specs.FieldLists.{field_lists, fields_by_id}
use Rattle.idl_include.specs.ConstNames.{const_meaning, value_number}
use Rattle.idl_include.specs.Names.{sought, type_named}
use Rattle.idl_include.specs.Spots.{values_of, spots_of, spots_in_declaration, spots_in_field}
use Rattle.idl_include.specs.Numbering.{constants_of, enums_of, structs_of, all_functions, services_of, typedefs_of}
use Rattle.idl_include.specs.EnumNumbers.{enum_numbers}
use Rattle.check_model.proofs.examples.constants.Goals as goal

pub returns-clause-out_of_range : goal.returns-clause-out_of_range
unfolding given_worth evaluated named_worth most_const_values most_const_levels default_of field_lists fields_by_id const_meaning sought value_number values_of spots_of spots_in_declaration spots_in_field constants_of enums_of structs_of all_functions services_of typedefs_of enum_numbers type_named
returns-clause-out_of_range c = refl

pub returns-clause-other_form : goal.returns-clause-other_form
unfolding given_worth evaluated named_worth most_const_values most_const_levels default_of field_lists fields_by_id const_meaning sought value_number values_of spots_of spots_in_declaration spots_in_field constants_of enums_of structs_of all_functions services_of typedefs_of enum_numbers type_named
returns-clause-other_form c = refl

pub returns-clause-cycle : goal.returns-clause-cycle
unfolding given_worth evaluated named_worth most_const_values most_const_levels default_of field_lists fields_by_id const_meaning sought value_number values_of spots_of spots_in_declaration spots_in_field constants_of enums_of structs_of all_functions services_of typedefs_of enum_numbers type_named
returns-clause-cycle c = refl

pub returns-clause-cycle_of_others : goal.returns-clause-cycle_of_others
unfolding given_worth evaluated named_worth most_const_values most_const_levels default_of field_lists fields_by_id const_meaning sought value_number values_of spots_of spots_in_declaration spots_in_field constants_of enums_of structs_of all_functions services_of typedefs_of enum_numbers type_named
returns-clause-cycle_of_others c = refl

pub returns-clause-default_cycle : goal.returns-clause-default_cycle
unfolding given_worth evaluated named_worth most_const_values most_const_levels default_of field_lists fields_by_id const_meaning sought value_number values_of spots_of spots_in_declaration spots_in_field constants_of enums_of structs_of all_functions services_of typedefs_of enum_numbers type_named
returns-clause-default_cycle c = refl

pub returns-clause-number : goal.returns-clause-number
unfolding given_worth evaluated named_worth most_const_values most_const_levels default_of field_lists fields_by_id const_meaning sought value_number values_of spots_of spots_in_declaration spots_in_field constants_of enums_of structs_of all_functions services_of typedefs_of enum_numbers type_named
returns-clause-number c = refl

pub returns-clause-other_enum : goal.returns-clause-other_enum
unfolding given_worth evaluated named_worth most_const_values most_const_levels default_of field_lists fields_by_id const_meaning sought value_number values_of spots_of spots_in_declaration spots_in_field constants_of enums_of structs_of all_functions services_of typedefs_of enum_numbers type_named
returns-clause-other_enum c = refl

pub returns-clause-given : goal.returns-clause-given
unfolding given_worth evaluated named_worth most_const_values most_const_levels default_of field_lists fields_by_id const_meaning sought value_number values_of spots_of spots_in_declaration spots_in_field constants_of enums_of structs_of all_functions services_of typedefs_of enum_numbers type_named
returns-clause-given c = refl

pub returns-clause-no_field : goal.returns-clause-no_field
unfolding given_worth evaluated named_worth most_const_values most_const_levels default_of field_lists fields_by_id const_meaning sought value_number values_of spots_of spots_in_declaration spots_in_field constants_of enums_of structs_of all_functions services_of typedefs_of enum_numbers type_named
returns-clause-no_field c = refl
