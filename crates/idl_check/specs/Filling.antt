-- A schema gets its defaults and constants: what each part was and is.
use Rattle.std.specs.Prelude.{◌≡◌, ℕ, List, Option, Some, MatchOption}
use Rattle.std.specs.List.{AllZip}
use Rattle.thrift_value.specs.Tree.{Tree}
use Rattle.idl_include.specs.Declarations.{FieldDecl, FunctionDecl, ServiceDecl, ConstDecl}
use Rattle.idl_include.specs.Program.{Program}
use Rattle.idl_include.specs.Numbering.{Filed, constants_of}
use Rattle.schema.specs.PlainSchema.{PlainField, PlainStruct, PlainFunction, PlainService, PlainConstant, PlainSchema}
use Rattle.check_model.specs.Resolved.{TypeMeans}
use Rattle.check_model.specs.FieldLists.{NumberedField, fields_by_id}
use Rattle.check_model.specs.SchemaParts.{IsSchemaWith}
use Rattle.check_model.specs.ProgramSchema.{DefaultIn, IsConstantOf}
use Rattle.idl_check.specs.Taking.{IsWorthAt}
use Rattle.idl_check.specs.Sites.{SitedFields, AllZipped}

-- a field that has a default got what it is worth
abbrev pub IsDefaultFilled : Program → ℕ → FieldDecl → Option Tree → Option Tree → Type 0
IsDefaultFilled program file f old new = MatchOption f.default (new ≡ old) (λ _. (value : Tree) × (new ≡ Some value) × IsWorthAt program file f.at value)

-- a field got its default, and stayed as it was
pub record IsFieldFilled (program : Program) (file : ℕ) (f : NumberedField) (old new : PlainField) : Type 0 where
  pub id : new.id ≡ old.id
  pub need : new.need ≡ old.need
  pub kind : new.kind ≡ old.kind
  pub name : new.name ≡ old.name
  pub default : IsDefaultFilled program file f.decl old.default new.default

-- so did the fields of a list
abbrev pub AreDefaultsFilled : Program → ℕ → List FieldDecl → List PlainField → List PlainField → Type 0
AreDefaultsFilled program file decls old new = AllZipped (IsFieldFilled program file) (fields_by_id decls) old new

-- so did those of a struct
pub record IsStructFilled (program : Program) (d : SitedFields) (old new : PlainStruct) : Type 0 where
  pub file : new.file ≡ old.file
  pub name : new.name ≡ old.name
  pub kind : new.kind ≡ old.kind
  pub fields : AreDefaultsFilled program d.file d.fields old.fields new.fields

-- so did the exceptions of a function
pub record IsFunctionFilled (program : Program) (file : ℕ) (f : FunctionDecl) (old new : PlainFunction) : Type 0 where
  pub name : new.name ≡ old.name
  pub oneway : new.oneway ≡ old.oneway
  pub args : new.args ≡ old.args
  pub result : new.result ≡ old.result
  pub throws : AreDefaultsFilled program file f.throws old.throws new.throws

-- so did those of a service's functions
pub record IsServiceFilled (program : Program) (s : Filed ServiceDecl) (old new : PlainService) : Type 0 where
  pub file : new.file ≡ old.file
  pub name : new.name ≡ old.name
  pub parent : new.parent ≡ old.parent
  pub functions : AllZipped (IsFunctionFilled program s.file) s.item.functions old.functions new.functions

-- a constant has what its value is worth
pub record IsConstantTaken (program : Program) (c : Filed ConstDecl) (p : PlainConstant) : Type 0 where
  pub file : p.file ≡ c.file
  pub name : p.name ≡ c.item.name.text
  pub kind : TypeMeans program c.file c.item.type p.kind
  pub value : IsWorthAt program c.file c.item.name.at p.value

-- The schema of a program with its defaults and constants, as they are evaluated beside the schema without them.
pub record IsWholeSchema (program : Program) (partial schema : PlainSchema) : Type 0 where
  pub whole : IsSchemaWith (DefaultIn (record { program = program; schema = partial })) program schema
  pub constants : AllZip (IsConstantOf (record { program = program; schema = partial })) (constants_of program) schema.constants
