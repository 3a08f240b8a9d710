-- What tables of a program tell of it, by number.
use Rattle.std.proofs.Common.{◌≡◌, ℕ, ℤ, zero, suc, List, [], ◌∷◌, map, slice_get, Option, Some, None, refl, ap, sym, subst, ◌∙◌}
use Rattle.std.specs.Prelude.{slice_index_or}
use Rattle.std.specs.Option.{option_map, option_and_then}
use Rattle.std.proofs.lemmas.Option.{slice_get-map}
use Rattle.schema.specs.declared.types.FieldsKind.TheVariants as fields
use Rattle.schema.specs.PlainSchema.{PlainStruct, PlainSchema}
use Rattle.idl_include.specs.Numbering.{Filed}
use Rattle.idl_include.specs.Program.{Program}
use Rattle.idl_include.specs.Spots.{GivenValue, values_of}
use Rattle.idl_include.specs.ConstNames.{value_number}
use Rattle.idl_names.specs.declared.spot.GivenTree.{GivenTree}
use Rattle.idl_names.specs.SpotsIn.{filed_value}
use Rattle.check_model.specs.FieldLists.{FieldsDecl, field_lists}
use Rattle.check_model.specs.Evaluation.{struct_numbered, default_in, default_of}
use Rattle.idl_const.specs.Given.{tree_given, tree_numbered}
use Rattle.const_evaluator.specs.declared.places.ValuePlaces.{ValuePlaces}
use Rattle.const_evaluator.specs.Places.{number_at_place, ArePlaces}
use Rattle.const_evaluator.specs.declared.struct_tables.StructTable.{StructTable}
use Rattle.const_evaluator.specs.GivenFields.{FiledFields, fields_filed, default_by, default_among}
use Rattle.const_evaluator.specs.StructTables.{struct_in_table, IsStructTable, AreStructTables}

-- the item at a place, by what stands there
abbrev or_else : {A : Type 0} → A → Option A → A
or_else d None = d
or_else d (Some x) = x

index_is : {A : Type 0} (xs : List A) (k : ℕ) (d : A) → slice_index_or xs k d ≡ or_else d (slice_get xs k)
index_is [] k d = refl
index_is (x ∷ xs) zero d = refl
index_is (x ∷ xs) (suc k) d = index_is xs k d

-- no struct has this number
abbrev pub no_fields : PlainStruct
no_fields = record { file = 0; name = []; kind = fields.Struct; fields = [] }

struct_by : (schema : PlainSchema) (tables : List StructTable) (which : ℕ) (o : Option StructTable) → map struct_in_table tables ≡ schema.structs → o ≡ slice_get tables which
    → struct_numbered schema which ≡ or_else no_fields (option_map struct_in_table o)
struct_by schema tables which o same there =
    index_is schema.structs which no_fields
    ∙ ap (λ (ss : List PlainStruct). or_else no_fields (slice_get ss which)) (sym same)
    ∙ ap (or_else no_fields) (slice_get-map struct_in_table tables which ∙ ap (option_map struct_in_table) (sym there))

pub struct_there : (schema : PlainSchema) (tables : List StructTable) (which : ℕ) (t : StructTable) → map struct_in_table tables ≡ schema.structs → Some t ≡ slice_get tables which
    → struct_numbered schema which ≡ struct_in_table t
struct_there schema tables which t same there = struct_by schema tables which (Some t) same there

pub no_struct : (schema : PlainSchema) (tables : List StructTable) (which : ℕ) → map struct_in_table tables ≡ schema.structs → None ≡ slice_get tables which
    → struct_numbered schema which ≡ no_fields
no_struct schema tables which same none = struct_by schema tables which None same none

pub value_there : (program : Program) (values : List GivenTree) (which : ℕ) (o : Option GivenTree) → map filed_value values ≡ values_of program → o ≡ slice_get values which
    → option_map tree_given (option_map filed_value o) ≡ tree_numbered program which
unfolding tree_numbered
value_there program values which o are there =
    ap (option_map tree_given) (ap (option_map filed_value) there ∙ sym (slice_get-map filed_value values which) ∙ ap (λ (vs : List (Filed GivenValue)). slice_get vs which) are)

-- ---- numbers of defaults

default_by_list : (program : Program) (id : ℤ) (o : Option FieldsDecl)
    → option_and_then (λ (l : FiledFields). default_by (value_number program) l id) (option_map fields_filed o) ≡ option_and_then (λ (d : FieldsDecl). default_in program d id) o
default_by_list program id None = refl
default_by_list program id (Some d) = refl

default_is : (program : Program) (which : ℕ) (id : ℤ) → default_among (value_number program) (map fields_filed (field_lists program)) which id ≡ default_of program which id
unfolding default_of
default_is program which id =
    ap (λ (o : Option FiledFields). option_and_then (λ (l : FiledFields). default_by (value_number program) l id) o) (slice_get-map fields_filed (field_lists program) which)
    ∙ default_by_list program id (slice_get (field_lists program) which)

pub tables_are : (program : Program) (places : ValuePlaces) (lists : List FiledFields) (tables : List StructTable) → ArePlaces program places
    → lists ≡ map fields_filed (field_lists program) → AreStructTables (default_among (number_at_place places) lists) tables → AreStructTables (default_of program) tables
tables_are program places lists tables are all h which t e =
    let numbers : number_at_place places ≡ value_number program = λ i file at. are.numbers file at i in
    let first : default_among (number_at_place places) lists which ≡ default_among (value_number program) (map fields_filed (field_lists program)) which =
    λ i. default_among (numbers i) (all i) which in
    let then_of : default_among (value_number program) (map fields_filed (field_lists program)) which ≡ default_of program which = λ i id. default_is program which id i in
    subst (λ (default : ℤ → Option ℕ). IsStructTable default t) (first ∙ then_of) (h which t e)
