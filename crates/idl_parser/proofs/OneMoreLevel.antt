-- One more level leaves each phrase as it is, but for symbols that open a level.
use Rattle.std.proofs.Common.{ℕ, zero, suc, refl}
use Rattle.idl_parser.proofs.Deeper.{Deeper, opened, at_chain, at_either, at_maybe, at_many, at_marked, plain}
use Rattle.idl_parser.specs.Parts.{separator, annotation_value, annotation_entry, annotation}
use Rattle.idl_parser.specs.Types.{base, cpp_type, map_type_rest, set_type_rest, list_type_rest, container, no_container, inner_type, bare_type, type_of}
use Rattle.idl_parser.specs.Constants.{list_item, list_value_rest, map_entry, map_value_rest, collection, no_collection, inner_value, value_of}
use Rattle.idl_parser.specs.Fields.{field_id, field_need, field_default, field_ending, field, fields}
use Rattle.idl_parser.specs.Definitions.{constant_rest, constant, typedef_rest, typedef, enum_number, enum_value, closing, enum_rest, struct_word, struct_rest, structure, fields_in_parentheses, oneway, result_type, throws, function, parent, service_rest, service, bare_definition, definition}
use Rattle.idl_parser.specs.Documents.{namespace_rest, header, document}

deeper_type : (levels : ℕ) → Deeper (type_of levels) (type_of (suc levels))
unfolding separator annotation_value annotation_entry annotation base cpp_type map_type_rest set_type_rest list_type_rest container no_container inner_type bare_type type_of list_item list_value_rest map_entry map_value_rest collection no_collection inner_value value_of field_id field_need field_default field_ending field fields constant_rest typedef_rest enum_number enum_value closing enum_rest struct_word struct_rest fields_in_parentheses oneway result_type throws function parent service_rest bare_definition definition namespace_rest header document
deeper_type zero =
    at_chain _ _ _ _ _ (at_either _ _ _ _ (plain _ refl) (at_either _ _ _ _ (plain _ refl) (at_either _ _ _ _ (opened _ _ _ _) (at_either _ _ _ _
    (opened _ _ _ _) (opened _ _ _ _))))) (plain _ refl)
deeper_type (suc n) =
    at_chain _ _ _ _ _ (at_either _ _ _ _ (plain _ refl) (at_either _ _ _ _ (plain _ refl) (at_either _ _ _ _ (at_chain _ _ _ _ _ (plain _ refl)
    (at_chain _ _ _ _ _ (plain _ refl) (at_chain _ _ _ _ _ (plain _ refl) (at_chain _ _ _ _ _ (deeper_type n) (at_chain _ _ _ _ _ (plain _ refl)
    (at_chain _ _ _ _ _ (deeper_type n) (plain _ refl))))))) (at_either _ _ _ _ (at_chain _ _ _ _ _ (plain _ refl) (at_chain _ _ _ _ _ (plain _
    refl) (at_chain _ _ _ _ _ (plain _ refl) (at_chain _ _ _ _ _ (deeper_type n) (plain _ refl))))) (at_chain _ _ _ _ _ (plain _ refl) (at_chain _
    _ _ _ _ (plain _ refl) (at_chain _ _ _ _ _ (plain _ refl) (at_chain _ _ _ _ _ (deeper_type n) (plain _ refl))))))))) (plain _ refl)

deeper_value : (levels : ℕ) → Deeper (value_of levels) (value_of (suc levels))
unfolding separator annotation_value annotation_entry annotation base cpp_type map_type_rest set_type_rest list_type_rest container no_container inner_type bare_type type_of list_item list_value_rest map_entry map_value_rest collection no_collection inner_value value_of field_id field_need field_default field_ending field fields constant_rest typedef_rest enum_number enum_value closing enum_rest struct_word struct_rest fields_in_parentheses oneway result_type throws function parent service_rest bare_definition definition namespace_rest header document
deeper_value zero =
    at_either _ _ _ _ (plain _ refl) (at_either _ _ _ _ (plain _ refl) (at_either _ _ _ _ (plain _ refl) (at_either _ _ _ _ (plain _ refl) (at_either
    _ _ _ _ (opened _ _ _ _) (opened _ _ _ _)))))
deeper_value (suc n) =
    at_either _ _ _ _ (plain _ refl) (at_either _ _ _ _ (plain _ refl) (at_either _ _ _ _ (plain _ refl) (at_either _ _ _ _ (plain _ refl) (at_either
    _ _ _ _ (at_chain _ _ _ _ _ (plain _ refl) (at_chain _ _ _ _ _ (at_many _ _ _ (at_chain _ _ _ _ _ (deeper_value n) (plain _ refl))) (plain _
    refl))) (at_chain _ _ _ _ _ (plain _ refl) (at_chain _ _ _ _ _ (at_many _ _ _ (at_chain _ _ _ _ _ (deeper_value n) (at_chain _ _ _ _ _ (plain _
    refl) (at_chain _ _ _ _ _ (deeper_value n) (plain _ refl))))) (plain _ refl)))))))

deeper_field : (levels : ℕ) → Deeper (field levels) (field (suc levels))
unfolding separator annotation_value annotation_entry annotation base cpp_type map_type_rest set_type_rest list_type_rest container no_container inner_type bare_type type_of list_item list_value_rest map_entry map_value_rest collection no_collection inner_value value_of field_id field_need field_default field_ending field fields constant_rest typedef_rest enum_number enum_value closing enum_rest struct_word struct_rest fields_in_parentheses oneway result_type throws function parent service_rest bare_definition definition namespace_rest header document
deeper_field levels =
    at_marked _ _ (at_chain _ _ _ _ _ (plain _ refl) (at_chain _ _ _ _ _ (plain _ refl) (at_chain _ _ _ _ _ (deeper_type levels) (at_chain _ _ _ _ _
    (plain _ refl) (at_chain _ _ _ _ _ (at_maybe _ _ _ (at_chain _ _ _ _ _ (plain _ refl) (deeper_value levels))) (plain _ refl))))))

deeper_fields : (levels : ℕ) → Deeper (fields levels) (fields (suc levels))
unfolding separator annotation_value annotation_entry annotation base cpp_type map_type_rest set_type_rest list_type_rest container no_container inner_type bare_type type_of list_item list_value_rest map_entry map_value_rest collection no_collection inner_value value_of field_id field_need field_default field_ending field fields constant_rest typedef_rest enum_number enum_value closing enum_rest struct_word struct_rest fields_in_parentheses oneway result_type throws function parent service_rest bare_definition definition namespace_rest header document
deeper_fields levels =
    at_many _ _ _ (deeper_field levels)

deeper_constant : (levels : ℕ) → Deeper (constant levels) (constant (suc levels))
unfolding separator annotation_value annotation_entry annotation base cpp_type map_type_rest set_type_rest list_type_rest container no_container inner_type bare_type type_of list_item list_value_rest map_entry map_value_rest collection no_collection inner_value value_of field_id field_need field_default field_ending field fields constant_rest typedef_rest enum_number enum_value closing enum_rest struct_word struct_rest fields_in_parentheses oneway result_type throws function parent service_rest bare_definition definition namespace_rest header document
deeper_constant levels =
    at_chain _ _ _ _ _ (plain _ refl) (at_chain _ _ _ _ _ (deeper_type levels) (at_chain _ _ _ _ _ (plain _ refl) (at_chain _ _ _ _ _ (plain _ refl)
    (deeper_value levels))))

deeper_typedef : (levels : ℕ) → Deeper (typedef levels) (typedef (suc levels))
unfolding separator annotation_value annotation_entry annotation base cpp_type map_type_rest set_type_rest list_type_rest container no_container inner_type bare_type type_of list_item list_value_rest map_entry map_value_rest collection no_collection inner_value value_of field_id field_need field_default field_ending field fields constant_rest typedef_rest enum_number enum_value closing enum_rest struct_word struct_rest fields_in_parentheses oneway result_type throws function parent service_rest bare_definition definition namespace_rest header document
deeper_typedef levels =
    at_chain _ _ _ _ _ (plain _ refl) (at_chain _ _ _ _ _ (deeper_type levels) (plain _ refl))

deeper_structure : (levels : ℕ) → Deeper (structure levels) (structure (suc levels))
unfolding separator annotation_value annotation_entry annotation base cpp_type map_type_rest set_type_rest list_type_rest container no_container inner_type bare_type type_of list_item list_value_rest map_entry map_value_rest collection no_collection inner_value value_of field_id field_need field_default field_ending field fields constant_rest typedef_rest enum_number enum_value closing enum_rest struct_word struct_rest fields_in_parentheses oneway result_type throws function parent service_rest bare_definition definition namespace_rest header document
deeper_structure levels =
    at_chain _ _ _ _ _ (plain _ refl) (at_chain _ _ _ _ _ (plain _ refl) (at_chain _ _ _ _ _ (plain _ refl) (at_chain _ _ _ _ _ (deeper_fields
    levels) (plain _ refl))))

deeper_throws : (levels : ℕ) → Deeper (throws levels) (throws (suc levels))
unfolding separator annotation_value annotation_entry annotation base cpp_type map_type_rest set_type_rest list_type_rest container no_container inner_type bare_type type_of list_item list_value_rest map_entry map_value_rest collection no_collection inner_value value_of field_id field_need field_default field_ending field fields constant_rest typedef_rest enum_number enum_value closing enum_rest struct_word struct_rest fields_in_parentheses oneway result_type throws function parent service_rest bare_definition definition namespace_rest header document
deeper_throws levels =
    at_maybe _ _ _ (at_chain _ _ _ _ _ (plain _ refl) (at_chain _ _ _ _ _ (plain _ refl) (at_chain _ _ _ _ _ (deeper_fields levels) (plain _ refl))))

deeper_function : (levels : ℕ) → Deeper (function levels) (function (suc levels))
unfolding separator annotation_value annotation_entry annotation base cpp_type map_type_rest set_type_rest list_type_rest container no_container inner_type bare_type type_of list_item list_value_rest map_entry map_value_rest collection no_collection inner_value value_of field_id field_need field_default field_ending field fields constant_rest typedef_rest enum_number enum_value closing enum_rest struct_word struct_rest fields_in_parentheses oneway result_type throws function parent service_rest bare_definition definition namespace_rest header document
deeper_function levels =
    at_marked _ _ (at_chain _ _ _ _ _ (plain _ refl) (at_chain _ _ _ _ _ (at_either _ _ _ _ (plain _ refl) (deeper_type levels)) (at_chain _ _ _ _ _
    (plain _ refl) (at_chain _ _ _ _ _ (at_chain _ _ _ _ _ (plain _ refl) (at_chain _ _ _ _ _ (deeper_fields levels) (plain _ refl))) (at_chain _ _
    _ _ _ (deeper_throws levels) (plain _ refl))))))

deeper_service : (levels : ℕ) → Deeper (service levels) (service (suc levels))
unfolding separator annotation_value annotation_entry annotation base cpp_type map_type_rest set_type_rest list_type_rest container no_container inner_type bare_type type_of list_item list_value_rest map_entry map_value_rest collection no_collection inner_value value_of field_id field_need field_default field_ending field fields constant_rest typedef_rest enum_number enum_value closing enum_rest struct_word struct_rest fields_in_parentheses oneway result_type throws function parent service_rest bare_definition definition namespace_rest header document
deeper_service levels =
    at_chain _ _ _ _ _ (plain _ refl) (at_chain _ _ _ _ _ (plain _ refl) (at_chain _ _ _ _ _ (plain _ refl) (at_chain _ _ _ _ _ (plain _ refl)
    (at_chain _ _ _ _ _ (at_many _ _ _ (deeper_function levels)) (plain _ refl)))))

deeper_definition : (levels : ℕ) → Deeper (definition levels) (definition (suc levels))
unfolding separator annotation_value annotation_entry annotation base cpp_type map_type_rest set_type_rest list_type_rest container no_container inner_type bare_type type_of list_item list_value_rest map_entry map_value_rest collection no_collection inner_value value_of field_id field_need field_default field_ending field fields constant_rest typedef_rest enum_number enum_value closing enum_rest struct_word struct_rest fields_in_parentheses oneway result_type throws function parent service_rest bare_definition definition namespace_rest header document
deeper_definition levels =
    at_chain _ _ _ _ _ (at_either _ _ _ _ (deeper_constant levels) (at_either _ _ _ _ (deeper_typedef levels) (at_either _ _ _ _ (plain _ refl)
    (at_either _ _ _ _ (deeper_structure levels) (deeper_service levels))))) (plain _ refl)

pub deeper_document : (levels : ℕ) → Deeper (document levels) (document (suc levels))
unfolding separator annotation_value annotation_entry annotation base cpp_type map_type_rest set_type_rest list_type_rest container no_container inner_type bare_type type_of list_item list_value_rest map_entry map_value_rest collection no_collection inner_value value_of field_id field_need field_default field_ending field fields constant_rest typedef_rest enum_number enum_value closing enum_rest struct_word struct_rest fields_in_parentheses oneway result_type throws function parent service_rest bare_definition definition namespace_rest header document
deeper_document levels =
    at_chain _ _ _ _ _ (plain _ refl) (at_many _ _ _ (deeper_definition levels))
