-- The schema of a program, part by part. What is said of a field's default is left open: a schema is made twice, first without defaults.
use Rattle.std.specs.Prelude.{◌≡◌, ⊤, ℕ, suc, ℤ, ◌+◌, List, [], ◌∷◌, map, length, Option, Some, None}
use Rattle.std.specs.List.{AllZip}
use Rattle.thrift_value.specs.Tree.{Tree}
use Rattle.idl_include.specs.TypeExpr.{TypeExpr}
use Rattle.idl_include.specs.Declarations.{FieldDecl, FunctionDecl, TypedefDecl, EnumValueDecl, EnumDecl, ServiceDecl, Declaration, of_const, of_typedef, of_enum, of_struct_decl, of_service}
use Rattle.idl_include.specs.Program.{Program, base_of_file}
use Rattle.idl_include.specs.Numbering.{Filed, Counts, none_counted, counted, all_counted, typedefs_of, enums_of, structs_of, services_of}
use Rattle.idl_include.specs.EnumNumbers.{enum_numbers}
use Rattle.idl_include.specs.Cycles.{parent_named}
use Rattle.schema.specs.declared.types.FieldsKind.{FieldsKind}
use Rattle.schema.specs.declared.types.FieldsKind.TheVariants as fields
use Rattle.schema.specs.declared.types.DefRef.{DefRef}
use Rattle.schema.specs.declared.types.DefRef.TheVariants as ref
use Rattle.schema.specs.PlainKind.{PlainKind}
use Rattle.schema.specs.PlainSchema.{PlainField, PlainStruct, PlainEnum, PlainFunction, PlainService, PlainAlias, PlainFile, PlainSchema}
use Rattle.check_model.specs.Resolved.{TypeMeans}
use Rattle.check_model.specs.FieldLists.{NumberedField, FieldsDecl, need_in, fields_by_id, field_lists}

-- a definition by its kind and its number, behind so many
abbrev pub ref_behind : Counts → Declaration → DefRef
ref_behind n (of_const c) = ref.Constant n.constants
ref_behind n (of_typedef t) = ref.Alias n.aliases
ref_behind n (of_enum e) = ref.Enum n.enums
ref_behind n (of_struct_decl s) = ref.Struct n.structs
ref_behind n (of_service s) = ref.Service n.services

-- definitions in order, behind so many
abbrev pub refs_behind : Counts → List Declaration → List DefRef
refs_behind n [] = []
refs_behind n (d ∷ more) = ref_behind n d ∷ refs_behind (counted n d) more

-- files in order, behind so many definitions
abbrev pub files_behind : Counts → Program → List PlainFile
files_behind n [] = []
files_behind n (file ∷ files) =
    record { base = base_of_file file; includes = file.includes; defs = refs_behind n file.declarations }
    ∷ files_behind (all_counted n file.declarations) files

-- the files of a program's schema
unfoldable pub files_of : Program → List PlainFile
files_of program = files_behind none_counted program

-- the names of an enum's values with their numbers
abbrev pub named_numbers : List EnumValueDecl → List ℤ → List (List ℕ × ℤ)
named_numbers (value ∷ values) (number ∷ numbers) = (value.name.text, number) ∷ named_numbers values numbers
named_numbers _ _ = []

-- an enum of the schema
abbrev pub enum_made : Filed EnumDecl → PlainEnum
enum_made e = record { file = e.file; name = e.item.name.text; values = named_numbers e.item.values (enum_numbers e.item.values) }

-- the typedef of the schema
pub record IsAliasOf (program : Program) (t : Filed TypedefDecl) (a : PlainAlias) : Type 0 where
  pub file : a.file ≡ t.file
  pub name : a.name ≡ t.item.name.text
  pub kind : TypeMeans program t.file t.item.type a.kind

-- what is said of a default: of a field that stands in a file and has a type
abbrev pub DefaultRule : Type 1
DefaultRule = ℕ → FieldDecl → PlainKind → Option Tree → Type 0

-- a field of a list of some kind, with its id
pub record IsFieldOf (Default : DefaultRule) (program : Program) (file : ℕ) (list : FieldsKind) (f : NumberedField) (p : PlainField) : Type 0 where
  pub id : p.id ≡ f.id
  pub need : p.need ≡ need_in list f.decl.need
  pub kind : TypeMeans program file f.decl.type p.kind
  pub name : p.name ≡ f.decl.name.text
  pub default : Default file f.decl p.kind p.default

-- the fields of a list of some kind, by rising id
abbrev pub AreFieldsOf : DefaultRule → Program → ℕ → FieldsKind → List FieldDecl → List PlainField → Type 0
AreFieldsOf Default program file list decls plain = AllZip (IsFieldOf Default program file list) (fields_by_id decls) plain

-- a struct, a union, an exception, or the arguments of a function
pub record IsStructFrom (Default : DefaultRule) (program : Program) (d : FieldsDecl) (p : PlainStruct) : Type 0 where
  pub file : p.file ≡ d.file
  pub name : p.name ≡ d.name
  pub kind : p.kind ≡ d.kind
  pub fields : AreFieldsOf Default program d.file d.kind d.fields p.fields

-- a result: a type or none
abbrev pub ResultMeans : Program → ℕ → Option TypeExpr → Option PlainKind → Type 0
ResultMeans program file None None = ⊤
ResultMeans program file (Some type) (Some kind) = TypeMeans program file type kind
ResultMeans program file _ _ = ⊥

-- a function that stands in a file, with the number of its arguments' struct
pub record IsFunctionOf (Default : DefaultRule) (program : Program) (file number : ℕ) (f : FunctionDecl) (p : PlainFunction) : Type 0 where
  pub name : p.name ≡ f.name.text
  pub oneway : p.oneway ≡ f.oneway
  pub args : p.args ≡ number
  pub result : ResultMeans program file f.result p.result
  pub throws : AreFieldsOf Default program file fields.Args f.throws p.throws

-- functions in order, the first of which has the struct of this number
abbrev pub AreFunctionsOf : DefaultRule → Program → ℕ → ℕ → List FunctionDecl → List PlainFunction → Type 0
AreFunctionsOf Default program file args [] [] = ⊤
AreFunctionsOf Default program file args (f ∷ fs) (p ∷ ps) =
    IsFunctionOf Default program file args f p × AreFunctionsOf Default program file (suc args) fs ps
AreFunctionsOf Default program file args _ _ = ⊥

-- a service, the first function of which has the struct of this number
pub record IsServiceOf (Default : DefaultRule) (program : Program) (args : ℕ) (s : Filed ServiceDecl) (p : PlainService) : Type 0 where
  pub file : p.file ≡ s.file
  pub name : p.name ≡ s.item.name.text
  pub parent : p.parent ≡ parent_named program s
  pub functions : AreFunctionsOf Default program s.file args s.item.functions p.functions

-- services in order, the first function of which has the struct of this number
abbrev pub AreServicesOf : DefaultRule → Program → ℕ → List (Filed ServiceDecl) → List PlainService → Type 0
AreServicesOf Default program args [] [] = ⊤
AreServicesOf Default program args (s ∷ ss) (p ∷ ps) =
    IsServiceOf Default program args s p × AreServicesOf Default program (args + length s.item.functions) ss ps
AreServicesOf Default program args _ _ = ⊥

-- the schema of a program but for its constants
pub record IsSchemaWith (Default : DefaultRule) (program : Program) (schema : PlainSchema) : Type 0 where
  pub files : schema.files ≡ files_of program
  pub aliases : AllZip (IsAliasOf program) (typedefs_of program) schema.aliases
  pub enums : schema.enums ≡ map enum_made (enums_of program)
  pub structs : AllZip (IsStructFrom Default program) (field_lists program) schema.structs
  pub services : AreServicesOf Default program (length (structs_of program)) (services_of program) schema.services

-- no default is there yet
abbrev pub NoDefault : DefaultRule
NoDefault file field kind default = default ≡ None

-- The schema of a program without its defaults and constants.
pub record IsPartialSchema (program : Program) (schema : PlainSchema) : Type 0 where
  pub made : IsSchemaWith NoDefault program schema
  pub constants : schema.constants ≡ []
