-- The lists of fields of a program, as they are written, with the numbers of defaults.
use Rattle.std.specs.Prelude.{ℕ, ℤ, List, map, slice_get, Option}
use Rattle.std.specs.Ordering.{int_eq}
use Rattle.std.specs.Option.{option_and_then}
use Rattle.std.specs.List.{find}
use Rattle.idl_token.specs.declared.Place.{Place}
use Rattle.idl_parser.specs.declared.tree.Function.{Function}
use Rattle.idl_parser.specs.declared.tree.Service.{Service}
use Rattle.idl_parser.specs.declared.tree.Struct.{Struct}
use Rattle.idl_include.specs.ConstExpr.{ConstExpr}
use Rattle.idl_include.specs.DeclaredIn.{field_in}
use Rattle.idl_include.specs.Declarations.{FieldDecl}
use Rattle.idl_include.specs.Numbering.{Filed}
use Rattle.idl_names.specs.declared.filed.InFile.{InFile}
use Rattle.check_model.specs.FieldLists.{NumberedField, FieldsDecl, fields_by_id}
use Rattle.schema_bare.specs.GivenLists.{struct_given, args_given}
use Rattle.const_evaluator.specs.declared.given_fields.GivenFields.{GivenFields}

-- a list of fields, with the number of its file
abbrev pub FiledFields : Type 0
FiledFields = Filed (List FieldDecl)

-- the fields of a struct of the schema
abbrev pub fields_filed : FieldsDecl → FiledFields
fields_filed d = record { file = d.file; item = d.fields }

-- the same in memory
abbrev pub fields_given : GivenFields → FiledFields
fields_given g = record { file = g.file; item = map field_in g.fields.now }

-- the fields of a struct, union or exception
abbrev pub struct_fields : InFile Struct → FiledFields
struct_fields s = fields_filed (struct_given s)

-- the arguments of a function that stands in a file
abbrev pub args_fields : ℕ → Function → FiledFields
args_fields file f = fields_filed (args_given file f)

-- the arguments of the functions of a service
abbrev pub service_fields : InFile Service → List FiledFields
service_fields s = map (args_fields s.file) s.item.now.functions.items

-- numbers of given values, by file and place
abbrev pub NumberRule : Type 0
NumberRule = ℕ → Place → Option ℕ

-- the number of a field's default, if it has one
abbrev pub default_number : NumberRule → ℕ → FieldDecl → Option ℕ
default_number number file field = option_and_then (λ (tree : ConstExpr). number file field.at) field.default

-- the same of the field of some id
abbrev pub default_by : NumberRule → FiledFields → ℤ → Option ℕ
default_by number list id =
    option_and_then (λ (f : NumberedField). default_number number list.file f.decl) (find (λ (f : NumberedField). int_eq f.id id) (fields_by_id list.item))

-- the same in the list of some number
abbrev pub default_among : NumberRule → List FiledFields → ℕ → ℤ → Option ℕ
default_among number lists which id = option_and_then (λ (list : FiledFields). default_by number list id) (slice_get lists which)
