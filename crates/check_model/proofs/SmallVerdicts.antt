-- Small programs with their verdicts.
use Rattle.std.proofs.Common.{◌≡◌, ℕ, Bool, true, false, List, [], ◌∷◌, codes, pos, take, drop, get_or, None, Some, slice_get, refl, ap, sym, subst, ◌∙◌}
use Rattle.idl_token.specs.declared.Place.{Place}
use Rattle.thrift_value.specs.Tree.{of_i32}
use Rattle.idl_parser.specs.declared.tree.StructKind.{StructKind}
use Rattle.idl_parser.specs.declared.tree.StructKind.TheVariants as kind
use Rattle.idl_include.specs.Declarations.{StructDecl}
use Rattle.idl_include.specs.TypeExpr.{name_expr}
use Rattle.idl_include.specs.ConstExpr.{name_const}
use Rattle.idl_include.specs.FileNames.{base_name}
use Rattle.idl_include.specs.Numbering.{Filed, constants_of, typedefs_of, enums_of, structs_of, services_of, all_functions}
use Rattle.idl_include.specs.Names.{an_enum, sought, type_named}
use Rattle.idl_include.specs.FieldIds.{field_ids}
use Rattle.idl_include.specs.EnumNumbers.{enum_numbers}
use Rattle.idl_include.specs.Spots.{GivenValue, given_name, Spot, spots_of, spots_in_declaration, spots_in_field, values_of}
use Rattle.idl_include.specs.ConstNames.{value_number, const_meaning}
use Rattle.idl_include.specs.SmallPrograms.{column, written_at, named_number, doubled_id, named_kinds}
use Rattle.schema.specs.PlainKind.{PlainKind, kind_enum, kind_struct}
use Rattle.schema.specs.PlainSchema.{PlainConstant}
use Rattle.check_model.specs.Resolved.{alias_kind, TypeMeans}
use Rattle.check_model.specs.FieldLists.{field_lists}
use Rattle.check_model.specs.Worths.{ConstFlaw, Worth, valued, flawed, most_const_values, most_const_levels}
use Rattle.check_model.specs.Evaluation.{named_worth, given_worth}
use Rattle.check_model.specs.SchemaParts.{DefaultRule, NoDefault, IsSchemaWith, IsPartialSchema, files_of}
use Rattle.check_model.specs.Passes.{dotted_name, duplicate_name, unknown_type, typedef_cycle, field_id, duplicate_id, enum_number, service_cycle, duplicate_function, oneway_not_void, oneway_throws, not_exception, struct_loop, bad_constant, MeansException, HasConstFlaw}
use Rattle.check_model.specs.FirstFlaw.{found_by, FindsNothing, IsFirstFlaw, HasNoFlaw}
use Rattle.check_model.specs.ProgramSchema.{DefaultIn, IsConstantOf, IsSchemaOf}
use Rattle.check_model.specs.SmallSchemas.{named_schema, named_constant}
use Rattle.check_model.proofs.FirstOnes.{somes}
use Rattle.check_model.proofs.Meanings.{one_meaning}
use Rattle.check_model.proofs.OneSchema.{one_partial}

off : false ≡ true → ⊥
off e = cc

on : true ≡ false → ⊥
on e = cc

some_none : {A : Type 0} (x : A) → Some x ≡ None → ⊥
some_none x e = cc

-- whether something was made
made : {A : Type 0} → Worth A → Bool
made (valued x n) = true
made (flawed at flaw) = false

valued_flawed : {A : Type 0} (x : A) (n : ℕ) (at : Place) (flaw : ConstFlaw) → valued x n ≡ flawed at flaw → ⊥
unfolding made
valued_flawed x n at flaw e = on (ap made e)

-- `enum E { X = 4, Y } const E C = E.Y`
schema_with : (D : DefaultRule) (constants : List PlainConstant) → IsSchemaWith D named_number (named_schema constants)
unfolding files_of base_name typedefs_of enums_of enum_numbers field_lists structs_of all_functions services_of
schema_with D constants = record { files = refl; aliases = tt; enums = refl; structs = tt; services = tt }

partial : IsPartialSchema named_number (named_schema [])
partial = record { made = schema_with NoDefault []; constants = refl }

-- the value that C gives
c_value : GivenValue
c_value = record { owner = column 29; type = name_expr (written_at (codes "E") 27); tree = name_const (written_at (codes "E.Y") 33) }

c_means : TypeMeans named_number 0 (name_expr (written_at (codes "E") 27)) (kind_enum 0)
unfolding type_named sought typedefs_of enums_of structs_of
c_means = (0, refl)

c_number : value_number named_number 0 (column 29) ≡ Some 0
unfolding value_number values_of spots_of spots_in_declaration spots_in_field
c_number = refl

c_worth : given_worth (record { program = named_number; schema = named_schema [] }) 0 (kind_enum 0) (record { file = 0; item = c_value }) ≡ valued (of_i32 (pos 5)) 1
unfolding c_value given_worth named_worth most_const_values most_const_levels const_meaning sought value_number values_of spots_of spots_in_declaration spots_in_field constants_of enums_of enum_numbers
c_worth = refl

not_flawed : (at : Place) (flaw : ConstFlaw) → HasConstFlaw named_number 0 c_value at flaw → ⊥
unfolding c_value
not_flawed at flaw p = valued_flawed (of_i32 (pos 5)) 1 at flaw (
    sym c_worth
    ∙ (λ i. given_worth (record { program = named_number; schema = one_partial named_number (named_schema []) p.schema partial p.made i })
    (somes 0 p.which (sym c_number ∙ p.number) i)
    (one_meaning named_number 0 c_value.type (kind_enum 0) p.kind c_means p.means i) (record { file = 0; item = c_value }))
    ∙ p.worth)

named_dotted_name : FindsNothing named_number dotted_name
unfolding spots_of spots_in_declaration spots_in_field type_named sought typedefs_of enums_of structs_of services_of constants_of field_ids c_value
named_dotted_name = ((λ f h. off h.0), ((λ f h. h.0), ((λ f h. off h.0), ((λ f h. h.0), ((λ f h. off h.0), ((λ f h. h.0), ((λ f h. off h.0), ((λ f h. h.0), tt))))))))

named_duplicate_name : FindsNothing named_number duplicate_name
unfolding spots_of spots_in_declaration spots_in_field type_named sought typedefs_of enums_of structs_of services_of constants_of field_ids c_value
named_duplicate_name = ((λ f h. off h.0), ((λ f h. h.0), ((λ f h. off h.0), ((λ f h. h.0), ((λ f h. off h.0), ((λ f h. h.0), ((λ f h. off h.0), ((λ f h. h.0), tt))))))))

named_unknown_type : FindsNothing named_number unknown_type
unfolding spots_of spots_in_declaration spots_in_field type_named sought typedefs_of enums_of structs_of services_of constants_of field_ids c_value
named_unknown_type = ((λ f h. h.0), ((λ f h. h.0), ((λ f h. h.0), ((λ f h. h.0), ((λ f h. h.0), ((λ f h. some_none (an_enum 0) h.0), ((λ f h. h.0), ((λ f h. h.0), tt))))))))

named_typedef_cycle : FindsNothing named_number typedef_cycle
unfolding spots_of spots_in_declaration spots_in_field type_named sought typedefs_of enums_of structs_of services_of constants_of field_ids c_value
named_typedef_cycle = ((λ f h. h.0), ((λ f h. h.0), ((λ f h. h.0), ((λ f h. h.0), ((λ f h. h.0), ((λ f h. h.0), ((λ f h. h.0), ((λ f h. h.0), tt))))))))

named_field_id : FindsNothing named_number field_id
unfolding spots_of spots_in_declaration spots_in_field type_named sought typedefs_of enums_of structs_of services_of constants_of field_ids c_value
named_field_id = ((λ f h. h.0), ((λ f h. h.0), ((λ f h. h.0), ((λ f h. h.0), ((λ f h. h.0), ((λ f h. h.0), ((λ f h. h.0), ((λ f h. h.0), tt))))))))

named_duplicate_id : FindsNothing named_number duplicate_id
unfolding spots_of spots_in_declaration spots_in_field type_named sought typedefs_of enums_of structs_of services_of constants_of field_ids c_value
named_duplicate_id = ((λ f h. h.0), ((λ f h. h.0), ((λ f h. h.0), ((λ f h. h.0), ((λ f h. h.0), ((λ f h. h.0), ((λ f h. h.0), ((λ f h. h.0), tt))))))))

named_enum_number : FindsNothing named_number enum_number
unfolding spots_of spots_in_declaration spots_in_field type_named sought typedefs_of enums_of structs_of services_of constants_of field_ids c_value
named_enum_number = ((λ f h. h.0), ((λ f h. on h.0), ((λ f h. h.0), ((λ f h. on h.0), ((λ f h. h.0), ((λ f h. h.0), ((λ f h. h.0), ((λ f h. h.0), tt))))))))

named_service_cycle : FindsNothing named_number service_cycle
unfolding spots_of spots_in_declaration spots_in_field type_named sought typedefs_of enums_of structs_of services_of constants_of field_ids c_value
named_service_cycle = ((λ f h. h.0), ((λ f h. h.0), ((λ f h. h.0), ((λ f h. h.0), ((λ f h. h.0), ((λ f h. h.0), ((λ f h. h.0), ((λ f h. h.0), tt))))))))

named_duplicate_function : FindsNothing named_number duplicate_function
unfolding spots_of spots_in_declaration spots_in_field type_named sought typedefs_of enums_of structs_of services_of constants_of field_ids c_value
named_duplicate_function = ((λ f h. h.0), ((λ f h. h.0), ((λ f h. h.0), ((λ f h. h.0), ((λ f h. h.0), ((λ f h. h.0), ((λ f h. h.0), ((λ f h. h.0), tt))))))))

named_oneway_not_void : FindsNothing named_number oneway_not_void
unfolding spots_of spots_in_declaration spots_in_field type_named sought typedefs_of enums_of structs_of services_of constants_of field_ids c_value
named_oneway_not_void = ((λ f h. h.0), ((λ f h. h.0), ((λ f h. h.0), ((λ f h. h.0), ((λ f h. h.0), ((λ f h. h.0), ((λ f h. h.0), ((λ f h. h.0), tt))))))))

named_oneway_throws : FindsNothing named_number oneway_throws
unfolding spots_of spots_in_declaration spots_in_field type_named sought typedefs_of enums_of structs_of services_of constants_of field_ids c_value
named_oneway_throws = ((λ f h. h.0), ((λ f h. h.0), ((λ f h. h.0), ((λ f h. h.0), ((λ f h. h.0), ((λ f h. h.0), ((λ f h. h.0), ((λ f h. h.0), tt))))))))

named_not_exception : FindsNothing named_number not_exception
unfolding spots_of spots_in_declaration spots_in_field type_named sought typedefs_of enums_of structs_of services_of constants_of field_ids c_value
named_not_exception = ((λ f h. h.0), ((λ f h. h.0), ((λ f h. h.0), ((λ f h. h.0), ((λ f h. h.0), ((λ f h. h.0), ((λ f h. h.0), ((λ f h. h.0), tt))))))))

named_struct_loop : FindsNothing named_number struct_loop
unfolding spots_of spots_in_declaration spots_in_field type_named sought typedefs_of enums_of structs_of services_of constants_of field_ids c_value
named_struct_loop = ((λ f h. h.0), ((λ f h. h.0), ((λ f h. h.0), ((λ f h. h.0), ((λ f h. h.0), ((λ f h. h.0), ((λ f h. h.0), ((λ f h. h.0), tt))))))))

named_bad_constant : FindsNothing named_number bad_constant
unfolding spots_of spots_in_declaration spots_in_field type_named sought typedefs_of enums_of structs_of services_of constants_of field_ids c_value
named_bad_constant = ((λ f h. h), ((λ f h. h), ((λ f h. h), ((λ f h. h), ((λ f h. h), ((λ f h. h), ((λ f h. h), ((λ f h. not_flawed h.0 h.1 h.2), tt))))))))

no_flaw : HasNoFlaw named_number
no_flaw = (named_dotted_name, (named_duplicate_name, (named_unknown_type, (named_typedef_cycle, (named_field_id, (named_duplicate_id, (named_enum_number, (named_service_cycle, (named_duplicate_function, (named_oneway_not_void, (named_oneway_throws, (named_not_exception, (named_struct_loop, (named_bad_constant, tt))))))))))))))

c_constant : IsConstantOf (record { program = named_number; schema = named_schema [] }) (record { file = 0; item = record { name = written_at (codes "C") 29; type = name_expr (written_at (codes "E") 27); value = name_const (written_at (codes "E.Y") 33) } }) named_constant
unfolding c_value
c_constant = record { file = refl; name = refl; kind = c_means; value = record { which = 0; number = c_number; count = 1; worth = c_worth } }

pub accepted : IsSchemaOf named_number (named_schema (named_constant ∷ []))
unfolding constants_of
accepted = record {
  faultless = no_flaw;
  partial = named_schema [];
  made = partial;
  whole = schema_with (DefaultIn (record { program = named_number; schema = named_schema [] })) (named_constant ∷ []);
  constants = (c_constant, tt);
}

-- `struct S { 1: i32 a 1: i32 b }`
doubled_dotted_name : FindsNothing doubled_id dotted_name
unfolding spots_of spots_in_declaration spots_in_field type_named sought typedefs_of enums_of structs_of services_of constants_of field_ids
doubled_dotted_name = ((λ f h. off h.0), ((λ f h. h.0), ((λ f h. h.0), ((λ f h. off h.0), ((λ f h. h.0), ((λ f h. off h.0), tt))))))

doubled_duplicate_name : FindsNothing doubled_id duplicate_name
unfolding spots_of spots_in_declaration spots_in_field type_named sought typedefs_of enums_of structs_of services_of constants_of field_ids
doubled_duplicate_name = ((λ f h. off h.0), ((λ f h. h.0), ((λ f h. h.0), ((λ f h. off h.0), ((λ f h. h.0), ((λ f h. off h.0), tt))))))

doubled_unknown_type : FindsNothing doubled_id unknown_type
unfolding spots_of spots_in_declaration spots_in_field type_named sought typedefs_of enums_of structs_of services_of constants_of field_ids
doubled_unknown_type = ((λ f h. h.0), ((λ f h. h.0), ((λ f h. h.0), ((λ f h. h.0), ((λ f h. h.0), ((λ f h. h.0), tt))))))

doubled_typedef_cycle : FindsNothing doubled_id typedef_cycle
unfolding spots_of spots_in_declaration spots_in_field type_named sought typedefs_of enums_of structs_of services_of constants_of field_ids
doubled_typedef_cycle = ((λ f h. h.0), ((λ f h. h.0), ((λ f h. h.0), ((λ f h. h.0), ((λ f h. h.0), ((λ f h. h.0), tt))))))

doubled_field_id : FindsNothing doubled_id field_id
unfolding spots_of spots_in_declaration spots_in_field type_named sought typedefs_of enums_of structs_of services_of constants_of field_ids
doubled_field_id = ((λ f h. h.0), ((λ f h. h.0), ((λ f h. off h.0), ((λ f h. h.0), ((λ f h. off h.0), ((λ f h. h.0), tt))))))

-- the spots before the second field's, and behind it
before : List Spot
before = take 4 (spots_of doubled_id)

pub repeated_id : IsFirstFlaw doubled_id (record { file = 0; at = column 21; kind = found_by duplicate_id })
unfolding before spots_of spots_in_declaration spots_in_field type_named sought typedefs_of enums_of structs_of services_of constants_of field_ids
repeated_id = record {
  earlier = dotted_name ∷ duplicate_name ∷ unknown_type ∷ typedef_cycle ∷ field_id ∷ [];
  pass = duplicate_id;
  later = enum_number ∷ service_cycle ∷ duplicate_function ∷ oneway_not_void ∷ oneway_throws ∷ not_exception ∷ struct_loop ∷ bad_constant ∷ [];
  split = refl;
  clear = (doubled_dotted_name, (doubled_duplicate_name, (doubled_unknown_type, (doubled_typedef_cycle, (doubled_field_id, tt)))));
  first = record {
    before = before;
    spot = get_or (spots_of doubled_id) 4 (record { file = 0; shows = given_name [] (written_at [] 0) });
    after = drop 5 (spots_of doubled_id);
    split = refl;
    clear = ((λ f h. h.0), ((λ f h. h.0), ((λ f h. off h.0), ((λ f h. h.0), tt))));
    here = (refl, refl);
  };
}

-- an exception that is named by a typedef, and a struct that is thrown
pub thrown_exception : MeansException named_kinds 0 (name_expr (written_at (codes "U") 1))
unfolding alias_kind type_named sought typedefs_of enums_of structs_of
thrown_exception = (1, (1, refl), record { file = 0; item = record { name = written_at (codes "X") 35; kind = kind.Exception; fields = [] } }, refl, refl)

t_means : TypeMeans named_kinds 0 (name_expr (written_at (codes "T") 1)) (kind_struct 0)
unfolding type_named sought typedefs_of enums_of structs_of
t_means = (0, refl)

-- the number of a struct
number_or : ℕ → PlainKind → ℕ
number_or d (kind_struct n) = n
number_or d _ = d

-- whether a struct is an exception
is_exception : StructKind → Bool
is_exception kind.Exception = true
is_exception _ = false

pub thrown_struct : MeansException named_kinds 0 (name_expr (written_at (codes "T") 1)) → ⊥
unfolding number_or is_exception structs_of
thrown_struct (k, means, s, at, is) =
    let zero_is : 0 ≡ k = ap (number_or 0) (one_meaning named_kinds 0 (name_expr (written_at (codes "T") 1)) (kind_struct 0) (kind_struct k) t_means means) in
    let t : Filed StructDecl = record { file = 0; item = record { name = written_at (codes "T") 20; kind = kind.Struct; fields = [] } } in
    let P : ℕ → Type 0 = λ n. slice_get (structs_of named_kinds) n ≡ Some s in
    let same = somes t s (subst P (sym zero_is) at) in
    off (ap (λ (d : Filed StructDecl). is_exception d.item.kind) same ∙ ap is_exception is)
