-- The grammar is clear: one symbol of look-ahead decides.
use Rattle.std.proofs.Common.{◌≡◌, true, false, ℕ, zero, suc, [], refl}
use Rattle.idl_parser.specs.Shapes.{starts_in, can_be, more, IsClear}
use Rattle.idl_parser.specs.Parts.{separator, annotation_value, annotation_entry, annotation}
use Rattle.idl_parser.specs.Types.{base, cpp_type, map_type_rest, set_type_rest, list_type_rest, container, no_container, inner_type, bare_type, type_of}
use Rattle.idl_parser.specs.Constants.{list_item, list_value_rest, map_entry, map_value_rest, collection, no_collection, inner_value, value_of}
use Rattle.idl_parser.specs.Fields.{field_id, field_need, field_default, field_ending, field, fields}
use Rattle.idl_parser.specs.Definitions.{constant_rest, constant, typedef_rest, typedef, enum_number, enum_value, closing, enum_rest, enumeration, struct_word, struct_rest, structure, fields_in_parentheses, oneway, result_type, throws, function, parent, service_rest, service, bare_definition, definition}
use Rattle.idl_parser.specs.Documents.{namespace_rest, header, document}

clear_separator : IsClear separator
unfolding separator annotation_value annotation_entry annotation base cpp_type map_type_rest set_type_rest list_type_rest container no_container inner_type bare_type type_of list_item list_value_rest map_entry map_value_rest collection no_collection inner_value value_of field_id field_need field_default field_ending field fields constant_rest typedef_rest enum_number enum_value closing enum_rest struct_word struct_rest fields_in_parentheses oneway result_type throws function parent service_rest bare_definition definition namespace_rest header document
clear_separator =
    ((tt, tt, refl, refl, refl), refl)

clear_annotation : IsClear annotation
unfolding separator annotation_value annotation_entry annotation base cpp_type map_type_rest set_type_rest list_type_rest container no_container inner_type bare_type type_of list_item list_value_rest map_entry map_value_rest collection no_collection inner_value value_of field_id field_need field_default field_ending field fields constant_rest typedef_rest enum_number enum_value closing enum_rest struct_word struct_rest fields_in_parentheses oneway result_type throws function parent service_rest bare_definition definition namespace_rest header document
clear_annotation =
    ((tt, (((tt, (((tt, tt, refl, refl), refl), clear_separator, refl, refl), refl, refl), refl, refl), tt, refl, refl), refl, refl), refl)

clear_base : IsClear base
unfolding separator annotation_value annotation_entry annotation base cpp_type map_type_rest set_type_rest list_type_rest container no_container inner_type bare_type type_of list_item list_value_rest map_entry map_value_rest collection no_collection inner_value value_of field_id field_need field_default field_ending field fields constant_rest typedef_rest enum_number enum_value closing enum_rest struct_word struct_rest fields_in_parentheses oneway result_type throws function parent service_rest bare_definition definition namespace_rest header document
clear_base = (
  tt,
  (
    tt,
    (
      tt,
      (tt, (tt, (tt, (tt, (tt, (tt, tt, refl, refl, refl), refl, refl, refl), refl, refl, refl), refl, refl, refl), refl, refl, refl), refl, refl, refl),
      refl,
      refl,
      refl,
    ),
    refl,
    refl,
    refl,
  ),
  refl,
  refl,
  refl,
)

clear_cpp_type : IsClear cpp_type
unfolding separator annotation_value annotation_entry annotation base cpp_type map_type_rest set_type_rest list_type_rest container no_container inner_type bare_type type_of list_item list_value_rest map_entry map_value_rest collection no_collection inner_value value_of field_id field_need field_default field_ending field fields constant_rest typedef_rest enum_number enum_value closing enum_rest struct_word struct_rest fields_in_parentheses oneway result_type throws function parent service_rest bare_definition definition namespace_rest header document
clear_cpp_type =
    ((tt, tt, refl, refl), refl)

clear_type : (levels : ℕ) → IsClear (type_of levels)
unfolding separator annotation_value annotation_entry annotation base cpp_type map_type_rest set_type_rest list_type_rest container no_container inner_type bare_type type_of list_item list_value_rest map_entry map_value_rest collection no_collection inner_value value_of field_id field_need field_default field_ending field fields constant_rest typedef_rest enum_number enum_value closing enum_rest struct_word struct_rest fields_in_parentheses oneway result_type throws function parent service_rest bare_definition definition namespace_rest header document
clear_type zero =
    ((clear_base, (tt, (tt, (tt, tt, refl, refl, refl), refl, refl, refl), refl, refl, refl), refl, refl, refl), clear_annotation, refl, refl)
clear_type (suc zero) = (
  (
    clear_base,
    (
      tt,
      (
        (
          tt,
          (
            clear_cpp_type,
            (tt, (clear_type zero, (tt, (clear_type zero, tt, refl, refl), refl, refl), refl, refl), refl, refl),
            refl,
            refl,
          ),
          refl,
          refl,
        ),
        (
          (tt, (clear_cpp_type, (tt, (clear_type zero, tt, refl, refl), refl, refl), refl, refl), refl, refl),
          (
            tt,
            (clear_cpp_type, (tt, (clear_type zero, (tt, clear_cpp_type, refl, refl), refl, refl), refl, refl), refl, refl),
            refl,
            refl,
          ),
          refl,
          refl,
          refl,
        ),
        refl,
        refl,
        refl,
      ),
      refl,
      refl,
      refl,
    ),
    refl,
    refl,
    refl,
  ),
  clear_annotation,
  refl,
  refl,
)
clear_type (suc (suc n)) = (
  (
    clear_base,
    (
      tt,
      (
        (
          tt,
          (
            clear_cpp_type,
            (
              tt,
              (clear_type (suc n), (tt, (clear_type (suc n), tt, refl, refl), refl, refl), refl, refl),
              refl,
              refl,
            ),
            refl,
            refl,
          ),
          refl,
          refl,
        ),
        (
          (tt, (clear_cpp_type, (tt, (clear_type (suc n), tt, refl, refl), refl, refl), refl, refl), refl, refl),
          (
            tt,
            (clear_cpp_type, (tt, (clear_type (suc n), (tt, clear_cpp_type, refl, refl), refl, refl), refl, refl), refl, refl),
            refl,
            refl,
          ),
          refl,
          refl,
          refl,
        ),
        refl,
        refl,
        refl,
      ),
      refl,
      refl,
      refl,
    ),
    refl,
    refl,
    refl,
  ),
  clear_annotation,
  refl,
  refl,
)

clear_value : (levels : ℕ) → IsClear (value_of levels)
unfolding separator annotation_value annotation_entry annotation base cpp_type map_type_rest set_type_rest list_type_rest container no_container inner_type bare_type type_of list_item list_value_rest map_entry map_value_rest collection no_collection inner_value value_of field_id field_need field_default field_ending field fields constant_rest typedef_rest enum_number enum_value closing enum_rest struct_word struct_rest fields_in_parentheses oneway result_type throws function parent service_rest bare_definition definition namespace_rest header document
clear_value zero =
    (tt, (tt, (tt, (tt, (tt, tt, refl, refl, refl), refl, refl, refl), refl, refl, refl), refl, refl, refl), refl, refl, refl)
clear_value (suc zero) = (
  tt,
  (
    tt,
    (
      tt,
      (
        tt,
        (
          (tt, (((clear_value zero, clear_separator, refl, refl), refl, refl), tt, refl, refl), refl, refl),
          (
            tt,
            (
              (
                (
                  clear_value zero,
                  (tt, (clear_value zero, clear_separator, refl, refl), refl, refl),
                  refl,
                  refl,
                ),
                refl,
                refl,
              ),
              tt,
              refl,
              refl,
            ),
            refl,
            refl,
          ),
          refl,
          refl,
          refl,
        ),
        refl,
        refl,
        refl,
      ),
      refl,
      refl,
      refl,
    ),
    refl,
    refl,
    refl,
  ),
  refl,
  refl,
  refl,
)
clear_value (suc (suc n)) = (
  tt,
  (
    tt,
    (
      tt,
      (
        tt,
        (
          (tt, (((clear_value (suc n), clear_separator, refl, refl), refl, refl), tt, refl, refl), refl, refl),
          (
            tt,
            (
              (
                (
                  clear_value
                      (suc n),
                  (tt, (clear_value (suc n), clear_separator, refl, refl), refl, refl),
                  refl,
                  refl,
                ),
                refl,
                refl,
              ),
              tt,
              refl,
              refl,
            ),
            refl,
            refl,
          ),
          refl,
          refl,
          refl,
        ),
        refl,
        refl,
        refl,
      ),
      refl,
      refl,
      refl,
    ),
    refl,
    refl,
    refl,
  ),
  refl,
  refl,
  refl,
)

clear_ending : IsClear field_ending
unfolding separator annotation_value annotation_entry annotation base cpp_type map_type_rest set_type_rest list_type_rest container no_container inner_type bare_type type_of list_item list_value_rest map_entry map_value_rest collection no_collection inner_value value_of field_id field_need field_default field_ending field fields constant_rest typedef_rest enum_number enum_value closing enum_rest struct_word struct_rest fields_in_parentheses oneway result_type throws function parent service_rest bare_definition definition namespace_rest header document
clear_ending =
    (clear_annotation, clear_separator, refl, refl)

clear_enumeration : IsClear enumeration
unfolding separator annotation_value annotation_entry annotation base cpp_type map_type_rest set_type_rest list_type_rest container no_container inner_type bare_type type_of list_item list_value_rest map_entry map_value_rest collection no_collection inner_value value_of field_id field_need field_default field_ending field fields constant_rest typedef_rest enum_number enum_value closing enum_rest struct_word struct_rest fields_in_parentheses oneway result_type throws function parent service_rest bare_definition definition namespace_rest header document
clear_enumeration = (
  tt,
  (
    tt,
    (
      tt,
      (
        ((tt, (((tt, tt, refl, refl), refl), clear_ending, refl, refl), refl, refl), refl, refl),
        (tt, clear_annotation, refl, refl),
        refl,
        refl,
      ),
      refl,
      refl,
    ),
    refl,
    refl,
  ),
  refl,
  refl,
)

clear_header : IsClear header
unfolding separator annotation_value annotation_entry annotation base cpp_type map_type_rest set_type_rest list_type_rest container no_container inner_type bare_type type_of list_item list_value_rest map_entry map_value_rest collection no_collection inner_value value_of field_id field_need field_default field_ending field fields constant_rest typedef_rest enum_number enum_value closing enum_rest struct_word struct_rest fields_in_parentheses oneway result_type throws function parent service_rest bare_definition definition namespace_rest header document
clear_header = (
  (tt, tt, refl, refl),
  (
    (tt, tt, refl, refl),
    (tt, ((tt, tt, refl, refl, refl), (tt, clear_annotation, refl, refl), refl, refl), refl, refl),
    refl,
    refl,
    refl,
  ),
  refl,
  refl,
  refl,
)

clear_field : (levels : ℕ) → IsClear (field levels)
unfolding separator annotation_value annotation_entry annotation base cpp_type map_type_rest set_type_rest list_type_rest container no_container inner_type bare_type type_of list_item list_value_rest map_entry map_value_rest collection no_collection inner_value value_of field_id field_need field_default field_ending field fields constant_rest typedef_rest enum_number enum_value closing enum_rest struct_word struct_rest fields_in_parentheses oneway result_type throws function parent service_rest bare_definition definition namespace_rest header document
clear_field zero = (
  (
    ((tt, tt, refl, refl), refl),
    (
      ((tt, tt, refl, refl, refl), refl),
      (
        clear_type zero,
        (
          tt,
          (
            ((tt, clear_value zero, refl, refl), refl),
            clear_ending,
            refl,
            refl,
          ),
          refl,
          refl,
        ),
        refl,
        refl,
      ),
      refl,
      refl,
    ),
    refl,
    refl,
  ),
  refl,
)
clear_field (suc n) = (
  (
    ((tt, tt, refl, refl), refl),
    (
      ((tt, tt, refl, refl, refl), refl),
      (
        clear_type (suc n),
        (
          tt,
          (
            ((tt, clear_value (suc n), refl, refl), refl),
            clear_ending,
            refl,
            refl,
          ),
          refl,
          refl,
        ),
        refl,
        refl,
      ),
      refl,
      refl,
    ),
    refl,
    refl,
  ),
  refl,
)

clear_fields : (levels : ℕ) → IsClear (fields levels)
unfolding separator annotation_value annotation_entry annotation base cpp_type map_type_rest set_type_rest list_type_rest container no_container inner_type bare_type type_of list_item list_value_rest map_entry map_value_rest collection no_collection inner_value value_of field_id field_need field_default field_ending field fields constant_rest typedef_rest enum_number enum_value closing enum_rest struct_word struct_rest fields_in_parentheses oneway result_type throws function parent service_rest bare_definition definition namespace_rest header document
clear_fields zero =
    (clear_field zero, refl, refl)
clear_fields (suc n) =
    (clear_field (suc n), refl, refl)

clear_constant : (levels : ℕ) → IsClear (constant levels)
unfolding separator annotation_value annotation_entry annotation base cpp_type map_type_rest set_type_rest list_type_rest container no_container inner_type bare_type type_of list_item list_value_rest map_entry map_value_rest collection no_collection inner_value value_of field_id field_need field_default field_ending field fields constant_rest typedef_rest enum_number enum_value closing enum_rest struct_word struct_rest fields_in_parentheses oneway result_type throws function parent service_rest bare_definition definition namespace_rest header document
clear_constant zero =
    (tt, (clear_type zero, (tt, (tt, clear_value zero, refl, refl), refl, refl), refl, refl), refl, refl)
clear_constant (suc n) =
    (tt, (clear_type (suc n), (tt, (tt, clear_value (suc n), refl, refl), refl, refl), refl, refl), refl, refl)

clear_typedef : (levels : ℕ) → IsClear (typedef levels)
unfolding separator annotation_value annotation_entry annotation base cpp_type map_type_rest set_type_rest list_type_rest container no_container inner_type bare_type type_of list_item list_value_rest map_entry map_value_rest collection no_collection inner_value value_of field_id field_need field_default field_ending field fields constant_rest typedef_rest enum_number enum_value closing enum_rest struct_word struct_rest fields_in_parentheses oneway result_type throws function parent service_rest bare_definition definition namespace_rest header document
clear_typedef zero =
    (tt, (clear_type zero, (tt, clear_annotation, refl, refl), refl, refl), refl, refl)
clear_typedef (suc n) =
    (tt, (clear_type (suc n), (tt, clear_annotation, refl, refl), refl, refl), refl, refl)

clear_structure : (levels : ℕ) → IsClear (structure levels)
unfolding separator annotation_value annotation_entry annotation base cpp_type map_type_rest set_type_rest list_type_rest container no_container inner_type bare_type type_of list_item list_value_rest map_entry map_value_rest collection no_collection inner_value value_of field_id field_need field_default field_ending field fields constant_rest typedef_rest enum_number enum_value closing enum_rest struct_word struct_rest fields_in_parentheses oneway result_type throws function parent service_rest bare_definition definition namespace_rest header document
clear_structure zero = (
  (tt, (tt, tt, refl, refl, refl), refl, refl, refl),
  (
    tt,
    (tt, (clear_fields zero, (tt, clear_annotation, refl, refl), refl, refl), refl, refl),
    refl,
    refl,
  ),
  refl,
  refl,
)
clear_structure (suc n) = (
  (tt, (tt, tt, refl, refl, refl), refl, refl, refl),
  (
    tt,
    (
      tt,
      (clear_fields (suc n), (tt, clear_annotation, refl, refl), refl, refl),
      refl,
      refl,
    ),
    refl,
    refl,
  ),
  refl,
  refl,
)

clear_throws : (levels : ℕ) → IsClear (throws levels)
unfolding separator annotation_value annotation_entry annotation base cpp_type map_type_rest set_type_rest list_type_rest container no_container inner_type bare_type type_of list_item list_value_rest map_entry map_value_rest collection no_collection inner_value value_of field_id field_need field_default field_ending field fields constant_rest typedef_rest enum_number enum_value closing enum_rest struct_word struct_rest fields_in_parentheses oneway result_type throws function parent service_rest bare_definition definition namespace_rest header document
clear_throws zero =
    ((tt, (tt, (clear_fields zero, tt, refl, refl), refl, refl), refl, refl), refl)
clear_throws (suc n) =
    ((tt, (tt, (clear_fields (suc n), tt, refl, refl), refl, refl), refl, refl), refl)

clear_function : (levels : ℕ) → IsClear (function levels)
unfolding separator annotation_value annotation_entry annotation base cpp_type map_type_rest set_type_rest list_type_rest container no_container inner_type bare_type type_of list_item list_value_rest map_entry map_value_rest collection no_collection inner_value value_of field_id field_need field_default field_ending field fields constant_rest typedef_rest enum_number enum_value closing enum_rest struct_word struct_rest fields_in_parentheses oneway result_type throws function parent service_rest bare_definition definition namespace_rest header document
clear_function zero = (
  (
    (tt, refl),
    (
      (tt, clear_type zero, refl, refl, refl),
      (
        tt,
        (
          (tt, (clear_fields zero, tt, refl, refl), refl, refl),
          (
            clear_throws zero,
            clear_ending,
            refl,
            refl,
          ),
          refl,
          refl,
        ),
        refl,
        refl,
      ),
      refl,
      refl,
    ),
    refl,
    refl,
  ),
  refl,
)
clear_function (suc n) = (
  (
    (tt, refl),
    (
      (tt, clear_type (suc n), refl, refl, refl),
      (
        tt,
        (
          (tt, (clear_fields (suc n), tt, refl, refl), refl, refl),
          (
            clear_throws (suc n),
            clear_ending,
            refl,
            refl,
          ),
          refl,
          refl,
        ),
        refl,
        refl,
      ),
      refl,
      refl,
    ),
    refl,
    refl,
  ),
  refl,
)

clear_service : (levels : ℕ) → IsClear (service levels)
unfolding separator annotation_value annotation_entry annotation base cpp_type map_type_rest set_type_rest list_type_rest container no_container inner_type bare_type type_of list_item list_value_rest map_entry map_value_rest collection no_collection inner_value value_of field_id field_need field_default field_ending field fields constant_rest typedef_rest enum_number enum_value closing enum_rest struct_word struct_rest fields_in_parentheses oneway result_type throws function parent service_rest bare_definition definition namespace_rest header document
clear_service zero = (
  tt,
  (
    tt,
    (
      ((tt, tt, refl, refl), refl),
      (tt, ((clear_function zero, refl, refl), (tt, clear_annotation, refl, refl), refl, refl), refl, refl),
      refl,
      refl,
    ),
    refl,
    refl,
  ),
  refl,
  refl,
)
clear_service (suc n) = (
  tt,
  (
    tt,
    (
      ((tt, tt, refl, refl), refl),
      (
        tt,
        ((clear_function (suc n), refl, refl), (tt, clear_annotation, refl, refl), refl, refl),
        refl,
        refl,
      ),
      refl,
      refl,
    ),
    refl,
    refl,
  ),
  refl,
  refl,
)

clear_definition : (levels : ℕ) → IsClear (definition levels)
unfolding separator annotation_value annotation_entry annotation base cpp_type map_type_rest set_type_rest list_type_rest container no_container inner_type bare_type type_of list_item list_value_rest map_entry map_value_rest collection no_collection inner_value value_of field_id field_need field_default field_ending field fields constant_rest typedef_rest enum_number enum_value closing enum_rest struct_word struct_rest fields_in_parentheses oneway result_type throws function parent service_rest bare_definition definition namespace_rest header document
clear_definition zero = (
  (
    clear_constant zero,
    (
      clear_typedef zero,
      (clear_enumeration, (clear_structure zero, clear_service zero, refl, refl, refl), refl, refl, refl),
      refl,
      refl,
      refl,
    ),
    refl,
    refl,
    refl,
  ),
  clear_separator,
  refl,
  refl,
)
clear_definition (suc n) = (
  (
    clear_constant (suc n),
    (
      clear_typedef (suc n),
      (
        clear_enumeration,
        (clear_structure (suc n), clear_service (suc n), refl, refl, refl),
        refl,
        refl,
        refl,
      ),
      refl,
      refl,
      refl,
    ),
    refl,
    refl,
    refl,
  ),
  clear_separator,
  refl,
  refl,
)

pub clear_document : (levels : ℕ) → IsClear (document levels)
unfolding separator annotation_value annotation_entry annotation base cpp_type map_type_rest set_type_rest list_type_rest container no_container inner_type bare_type type_of list_item list_value_rest map_entry map_value_rest collection no_collection inner_value value_of field_id field_need field_default field_ending field fields constant_rest typedef_rest enum_number enum_value closing enum_rest struct_word struct_rest fields_in_parentheses oneway result_type throws function parent service_rest bare_definition definition namespace_rest header document
clear_document zero =
    ((clear_header, refl, refl), (clear_definition zero, refl, refl), refl, refl)
clear_document (suc n) =
    ((clear_header, refl, refl), (clear_definition (suc n), refl, refl), refl, refl)

pub can_be_document : (levels : ℕ) → can_be (document levels) ≡ true
unfolding separator annotation_value annotation_entry annotation base cpp_type map_type_rest set_type_rest list_type_rest container no_container inner_type bare_type type_of list_item list_value_rest map_entry map_value_rest collection no_collection inner_value value_of field_id field_need field_default field_ending field fields constant_rest typedef_rest enum_number enum_value closing enum_rest struct_word struct_rest fields_in_parentheses oneway result_type throws function parent service_rest bare_definition definition namespace_rest header document
can_be_document levels = refl

pub nothing_behind : (levels : ℕ) → starts_in (more (document levels)) [] ≡ false
nothing_behind levels = refl
