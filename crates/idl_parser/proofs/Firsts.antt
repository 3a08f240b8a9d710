-- The symbols with which the phrases of a row begin.
use Rattle.std.proofs.Common.{◌≡◌, ℕ, zero, suc, refl}
use Rattle.idl_parser.specs.Shapes.{first}
use Rattle.idl_parser.specs.Starts.{entry_starts, value_starts, field_starts, function_starts, definition_starts, header_starts}
use Rattle.idl_parser.specs.Parts.{annotation_entry, annotation}
use Rattle.idl_parser.specs.Types.{base, container, no_container, inner_type, bare_type, type_of}
use Rattle.idl_parser.specs.Constants.{list_item, map_entry, collection, no_collection, inner_value, value_of}
use Rattle.idl_parser.specs.Fields.{field_id, field_need, field}
use Rattle.idl_parser.specs.Definitions.{enum_value, struct_word, oneway, result_type, function, bare_definition, definition}
use Rattle.idl_parser.specs.Documents.{header}

pub first_of_entry : first annotation_entry ≡ entry_starts
unfolding annotation_entry
first_of_entry = refl

pub first_of_item : (levels : ℕ) → first (list_item (value_of levels)) ≡ value_starts
unfolding list_item collection no_collection inner_value value_of
first_of_item zero = refl
first_of_item (suc n) = refl

pub first_of_pair : (levels : ℕ) → first (map_entry (value_of levels)) ≡ value_starts
unfolding map_entry collection no_collection inner_value value_of
first_of_pair zero = refl
first_of_pair (suc n) = refl

pub first_of_field : (levels : ℕ) → first (field levels) ≡ field_starts
unfolding annotation base container no_container inner_type bare_type type_of field_id field_need field
first_of_field zero = refl
first_of_field (suc n) = refl

pub first_of_enum_value : first enum_value ≡ entry_starts
unfolding enum_value
first_of_enum_value = refl

pub first_of_function : (levels : ℕ) → first (function levels) ≡ function_starts
unfolding annotation base container no_container inner_type bare_type type_of oneway result_type function
first_of_function zero = refl
first_of_function (suc n) = refl

pub first_of_definition : (levels : ℕ) → first (definition levels) ≡ definition_starts
unfolding struct_word bare_definition definition
first_of_definition levels = refl

pub first_of_header : first header ≡ header_starts
unfolding header
first_of_header = refl
