-- A schema is built where each type means something and each default is said.
use Rattle.std.proofs.Common.{◌≡◌, ℕ, suc, ◌+◌, Bool, true, false, List, [], ◌∷◌, map, length, Option, None, Some, refl, int_le, if◌then◌else◌}
use Rattle.std.specs.List.{AllByRecursion, AllZip, flat_map}
use Rattle.thrift_value.specs.Tree.{Tree}
use Rattle.idl_include.specs.TypeExpr.{TypeExpr}
use Rattle.idl_include.specs.Declarations.{FieldDecl, FunctionDecl, TypedefDecl, StructDecl, ServiceDecl}
use Rattle.idl_include.specs.Program.{Program}
use Rattle.idl_include.specs.Numbering.{Filed, filed, typedefs_of, enums_of, structs_of, services_of, functions_in, all_functions}
use Rattle.idl_include.specs.FieldIds.{one_more_unnumbered}
use Rattle.idl_include.specs.Cycles.{parent_named}
use Rattle.schema.specs.declared.types.FieldsKind.{FieldsKind}
use Rattle.schema.specs.declared.types.FieldsKind.TheVariants as fields
use Rattle.schema.specs.PlainKind.{PlainKind}
use Rattle.schema.specs.PlainSchema.{PlainField, PlainStruct, PlainFunction, PlainService, PlainAlias, PlainConstant, PlainSchema}
use Rattle.check_model.specs.Resolved.{TypeMeans}
use Rattle.check_model.specs.FieldLists.{NumberedField, FieldsDecl, need_in, numbered_behind, put_by_id, put_all_by_id, fields_by_id, fields_of_struct, args_of_function, field_lists}
use Rattle.check_model.specs.SchemaParts.{IsAliasOf, DefaultRule, IsFieldOf, AreFieldsOf, IsStructFrom, ResultMeans, IsFunctionOf, AreFunctionsOf, AreServicesOf, IsSchemaWith, enum_made, files_of}
use Rattle.check_model.proofs.Shown.{both_all, mapped, weaker}

-- what is there for each element is there for a list
pub zip_made : {A B : Type 0} (R : A → B → Type 0) (xs : List A) → AllByRecursion (λ x. (y : B) × R x y) xs → (ys : List B) × AllZip R xs ys
zip_made R [] h = ([], tt)
zip_made R (x ∷ xs) h = let (ys, rest) = zip_made R xs h.1 in (h.0.0 ∷ ys, (h.0.1, rest))

module _ (Q : FieldDecl → Type 0) where
  numbered_all : (n : ℕ) (fs : List FieldDecl) → AllByRecursion Q fs → AllByRecursion (λ (f : NumberedField). Q f.decl) (numbered_behind n fs)
  numbered_all n [] h = tt
  numbered_all n (f ∷ fs) h = (h.0, numbered_all (one_more_unnumbered n f.id) fs h.1)

  put_either : (b : Bool) (f other : NumberedField) (more put : List NumberedField) → Q f.decl → Q other.decl → AllByRecursion (λ (f : NumberedField). Q f.decl) more
      → AllByRecursion (λ (f : NumberedField). Q f.decl) put → AllByRecursion (λ (f : NumberedField). Q f.decl) (if b then other ∷ put else f ∷ other ∷ more)
  put_either true f other more put h g k l = (g, l)
  put_either false f other more put h g k l = (h, (g, k))

  put_all : (f : NumberedField) (more : List NumberedField) → Q f.decl → AllByRecursion (λ (f : NumberedField). Q f.decl) more
      → AllByRecursion (λ (f : NumberedField). Q f.decl) (put_by_id f more)
  put_all f [] h k = (h, tt)
  put_all f (other ∷ more) h k = put_either (int_le other.id f.id) f other more (put_by_id f more) h k.0 k.1 (put_all f more h k.1)

  sorted_all : (fs more : List NumberedField) → AllByRecursion (λ (f : NumberedField). Q f.decl) fs → AllByRecursion (λ (f : NumberedField). Q f.decl) more
      → AllByRecursion (λ (f : NumberedField). Q f.decl) (put_all_by_id fs more)
  sorted_all [] more h k = k
  sorted_all (f ∷ fs) more h k = sorted_all fs (put_by_id f more) h.1 (put_all f more h.0 k)

  by_id_all : (fs : List FieldDecl) → AllByRecursion Q fs → AllByRecursion (λ (f : NumberedField). Q f.decl) (fields_by_id fs)
  unfolding fields_by_id
  by_id_all fs h = sorted_all (numbered_behind 0 fs) [] (numbered_all 0 fs h) tt

flat_all : {A B : Type 0} (Q : B → Type 0) (f : A → List B) (xs : List A) → AllByRecursion (λ x. AllByRecursion Q (f x)) xs → AllByRecursion Q (flat_map f xs)
flat_all Q f [] h = tt
flat_all Q f (x ∷ xs) h = both_all Q (f x) (flat_map f xs) h.0 (flat_all Q f xs h.1)

module _ (D : DefaultRule) (program : Program) where
  -- a type that stands in a file means something, and a field has a type and a default or none
  abbrev pub TypeMade : ℕ → TypeExpr → Type 0
  TypeMade file t = (kind : PlainKind) × TypeMeans program file t kind

  abbrev pub FieldMade : ℕ → FieldDecl → Type 0
  FieldMade file f = (kind : PlainKind) × TypeMeans program file f.type kind × (default : Option Tree) × D file f kind default

  abbrev pub ResultMade : ℕ → Option TypeExpr → Type 0
  ResultMade file None = Unit {0}
  ResultMade file (Some t) = TypeMade file t

  abbrev pub FunctionMade : ℕ → FunctionDecl → Type 0
  FunctionMade file f = ResultMade file f.result × AllByRecursion (FieldMade file) f.arguments × AllByRecursion (FieldMade file) f.throws

  field_made : (file : ℕ) (list : FieldsKind) (f : NumberedField) → FieldMade file f.decl → (p : PlainField) × IsFieldOf D program file list f p
  field_made file list f (kind, means, default, said) = (
    record { id = f.id; need = need_in list f.decl.need; kind = kind; name = f.decl.name.text; default = default },
    record { id = refl; need = refl; kind = means; name = refl; default = said },
  )

  fields_made : (file : ℕ) (list : FieldsKind) (fs : List FieldDecl) → AllByRecursion (FieldMade file) fs → (ps : List PlainField) × AreFieldsOf D program file list fs ps
  fields_made file list fs h =
      zip_made (IsFieldOf D program file list) (fields_by_id fs)
      (weaker (λ (f : NumberedField). FieldMade file f.decl) (λ f. (p : PlainField) × IsFieldOf D program file list f p) (field_made file list)
      (fields_by_id fs) (by_id_all (FieldMade file) fs h))

  struct_made : (d : FieldsDecl) → AllByRecursion (FieldMade d.file) d.fields → (p : PlainStruct) × IsStructFrom D program d p
  struct_made d h =
      let (ps, are) = fields_made d.file d.kind d.fields h in
      (record { file = d.file; name = d.name; kind = d.kind; fields = ps }, record { file = refl; name = refl; kind = refl; fields = are })

  result_made : (file : ℕ) (o : Option TypeExpr) → ResultMade file o → (r : Option PlainKind) × ResultMeans program file o r
  result_made file None h = (None, tt)
  result_made file (Some t) h = (Some h.0, h.1)

  function_made : (file number : ℕ) (f : FunctionDecl) → FunctionMade file f → (p : PlainFunction) × IsFunctionOf D program file number f p
  function_made file number f (result, arguments, throws) =
      let (r, means) = result_made file f.result result in
      let (ts, are) = fields_made file fields.Args f.throws throws in (
        record { name = f.name.text; oneway = f.oneway; args = number; result = r; throws = ts },
        record { name = refl; oneway = refl; args = refl; result = means; throws = are },
      )

  functions_made : (file number : ℕ) (fs : List FunctionDecl) → AllByRecursion (FunctionMade file) fs → (ps : List PlainFunction) × AreFunctionsOf D program file number fs ps
  functions_made file number [] h = ([], tt)
  functions_made file number (f ∷ fs) h =
      let (p, is) = function_made file number f h.0 in
      let (ps, are) = functions_made file (suc number) fs h.1 in
      (p ∷ ps, (is, are))

  services_made : (number : ℕ) (ss : List (Filed ServiceDecl)) → AllByRecursion (λ (s : Filed ServiceDecl). AllByRecursion (FunctionMade s.file) s.item.functions) ss
      → (ps : List PlainService) × AreServicesOf D program number ss ps
  services_made number [] h = ([], tt)
  services_made number (s ∷ ss) h =
      let (fs, made) = functions_made s.file number s.item.functions h.0 in
      let (ps, are) = services_made (number + length s.item.functions) ss h.1 in (
        record { file = s.file; name = s.item.name.text; parent = parent_named program s; functions = fs } ∷ ps,
        (record { file = refl; name = refl; parent = refl; functions = made }, are),
      )

  alias_made : (t : Filed TypedefDecl) → TypeMade t.file t.item.type → (a : PlainAlias) × IsAliasOf program t a
  alias_made t (kind, means) = (record { file = t.file; name = t.item.name.text; kind = kind }, record { file = refl; name = refl; kind = means })

  args_all : (file : ℕ) (fs : List FunctionDecl) → AllByRecursion (FunctionMade file) fs
      → AllByRecursion (λ (f : Filed FunctionDecl). AllByRecursion (FieldMade f.file) f.item.arguments) (filed file fs)
  args_all file [] h = tt
  args_all file (f ∷ fs) h = (h.0.1, args_all file fs h.1)

  lists_all : AllByRecursion (λ (s : Filed StructDecl). AllByRecursion (FieldMade s.file) s.item.fields) (structs_of program)
      → AllByRecursion (λ (s : Filed ServiceDecl). AllByRecursion (FunctionMade s.file) s.item.functions) (services_of program)
      → AllByRecursion (λ (d : FieldsDecl). AllByRecursion (FieldMade d.file) d.fields) (field_lists program)
  unfolding field_lists all_functions
  lists_all structs services =
      let Q : FieldsDecl → Type 0 = λ d. AllByRecursion (FieldMade d.file) d.fields in
      let R : Filed FunctionDecl → Type 0 = λ f. AllByRecursion (FieldMade f.file) f.item.arguments in
      both_all Q (map fields_of_struct (structs_of program)) (map args_of_function (flat_map functions_in (services_of program)))
      (mapped Q fields_of_struct (structs_of program) structs)
      (mapped Q args_of_function (flat_map functions_in (services_of program))
      (flat_all R functions_in (services_of program)
      (weaker (λ (s : Filed ServiceDecl). AllByRecursion (FunctionMade s.file) s.item.functions) (λ s. AllByRecursion R (functions_in s))
      (λ s h. args_all s.file s.item.functions h) (services_of program) services)))

  pub schema_made : AllByRecursion (λ (t : Filed TypedefDecl). TypeMade t.file t.item.type) (typedefs_of program)
      → AllByRecursion (λ (s : Filed StructDecl). AllByRecursion (FieldMade s.file) s.item.fields) (structs_of program)
      → AllByRecursion (λ (s : Filed ServiceDecl). AllByRecursion (FunctionMade s.file) s.item.functions) (services_of program)
      → (constants : List PlainConstant) → (schema : PlainSchema) × IsSchemaWith D program schema × (schema.constants ≡ constants)
  schema_made typedefs structs services constants =
      let (aliases, a) = zip_made (IsAliasOf program) (typedefs_of program)
      (weaker (λ (t : Filed TypedefDecl). TypeMade t.file t.item.type) (λ t. (a : PlainAlias) × IsAliasOf program t a) alias_made (typedefs_of program) typedefs) in
      let (lists, l) = zip_made (IsStructFrom D program) (field_lists program)
      (weaker (λ (d : FieldsDecl). AllByRecursion (FieldMade d.file) d.fields) (λ d. (p : PlainStruct) × IsStructFrom D program d p) struct_made
      (field_lists program) (lists_all structs services)) in
      let (ss, s) = services_made (length (structs_of program)) (services_of program) services in (
        record { files = files_of program; structs = lists; enums = map enum_made (enums_of program); services = ss; aliases = aliases; constants = constants },
        record { files = refl; aliases = a; enums = refl; structs = l; services = s },
        refl,
      )
