-- The text of a schema: a line for each file and definition, with a line more for each field of a struct and each function.
use Rattle.std.specs.Prelude.{ℕ, ℤ, List, [], ◌∷◌, ◌++◌, codes, map, flat_map, unwrap_or, Option, Some, None}
use Rattle.std.specs.List.{slice_get}
use Rattle.std.specs.Option.{option_map}
use Rattle.text_out.specs.Decimal.{decimal_of}
use Rattle.text_out.specs.Line.{line_of}
use Rattle.thrift_value.specs.Tree.{Tree}
use Rattle.value_text.specs.ValueText.{tree_text}
use Rattle.schema.specs.declared.types.FieldNeed.{FieldNeed}
use Rattle.schema.specs.declared.types.FieldNeed.TheVariants.{Default, Required, Optional}
use Rattle.schema.specs.declared.types.FieldsKind.{FieldsKind}
use Rattle.schema.specs.declared.types.FieldsKind.TheVariants as of_kind
use Rattle.schema.specs.declared.types.DefRef.{DefRef}
use Rattle.schema.specs.declared.types.DefRef.TheVariants as definition
use Rattle.schema.specs.LookUp.{base_at, dotted, fields_at}
use Rattle.schema.specs.PlainKind.{PlainKind, kind_bool, kind_i8, kind_i16, kind_i32, kind_i64, kind_double, kind_text, kind_binary, kind_uuid, kind_enum, kind_struct, kind_map, kind_set, kind_list}
use Rattle.schema.specs.PlainSchema.{PlainField, PlainStruct, PlainEnum, PlainFunction, PlainService, PlainAlias, PlainConstant, PlainFile, PlainSchema}
use Rattle.schema.specs.Shapes.{joined, oneway_front}

-- what stands at a number, as a text; nothing where nothing stands there
abbrev pub text_at : {A : Type 0} → (A → List ℕ) → List A → ℕ → List ℕ
text_at text items n = unwrap_or (option_map text (slice_get items n)) []

-- the name of an enum, a struct or a service with its file's base name
abbrev pub enum_name : PlainSchema → PlainEnum → List ℕ
enum_name s e = dotted (base_at s e.file) e.name

abbrev pub struct_name : PlainSchema → PlainStruct → List ℕ
struct_name s d = dotted (base_at s d.file) d.name

abbrev pub service_name : PlainSchema → PlainService → List ℕ
service_name s v = dotted (base_at s v.file) v.name

-- a type
abbrev pub kind_name : PlainSchema → PlainKind → List ℕ
kind_name s kind_bool = codes "bool"
kind_name s kind_i8 = codes "i8"
kind_name s kind_i16 = codes "i16"
kind_name s kind_i32 = codes "i32"
kind_name s kind_i64 = codes "i64"
kind_name s kind_double = codes "double"
kind_name s kind_text = codes "string"
kind_name s kind_binary = codes "binary"
kind_name s kind_uuid = codes "uuid"
kind_name s (kind_enum which) = text_at (enum_name s) s.enums which
kind_name s (kind_struct which) = text_at (struct_name s) s.structs which
kind_name s (kind_map key value) = codes "map<" ++ (kind_name s key ++ (codes "," ++ (kind_name s value ++ codes ">")))
kind_name s (kind_set member) = codes "set<" ++ (kind_name s member ++ codes ">")
kind_name s (kind_list element) = codes "list<" ++ (kind_name s element ++ codes ">")

-- what is said of a field's presence
abbrev pub need_word : FieldNeed → List ℕ
need_word Default = codes "default"
need_word Required = codes "required"
need_word Optional = codes "optional"

-- a default, where there is one
abbrev pub default_part : Option Tree → List ℕ
default_part None = []
default_part (Some value) = codes " = " ++ tree_text value

-- a field's id and what is said of its presence
abbrev pub front_part : PlainField → List ℕ
front_part f = decimal_of f.id ++ (codes " " ++ (need_word f.need ++ codes " "))

-- a field
unfoldable pub field_in_text : PlainSchema → PlainField → List ℕ
field_in_text s f = front_part f ++ (kind_name s f.kind ++ (codes " " ++ (f.name ++ default_part f.default)))

-- a text on an indented line
abbrev pub indented_line : List ℕ → List ℕ
indented_line text = codes "  " ++ line_of text

-- a field on a line of its own
abbrev pub field_line_of : PlainSchema → PlainField → List ℕ
field_line_of s f = indented_line (field_in_text s f)

-- fields in parentheses
abbrev pub fields_in_text : PlainSchema → List PlainField → List ℕ
fields_in_text s fields = codes "(" ++ (joined (codes ", ") (map (field_in_text s) fields) ++ codes ")")

-- the type of a result
abbrev pub result_name : PlainSchema → Option PlainKind → List ℕ
result_name s None = codes "void"
result_name s (Some kind) = kind_name s kind

-- the exceptions of a function, where it has some
abbrev pub throws_part : PlainSchema → List PlainField → List ℕ
throws_part s [] = []
throws_part s (f ∷ fs) = codes " throws " ++ fields_in_text s (f ∷ fs)

-- a function
unfoldable pub function_in_text : PlainSchema → PlainFunction → List ℕ
function_in_text s f =
    oneway_front f.oneway ++ (result_name s f.result ++ (codes " " ++ (f.name ++ (fields_in_text s (fields_at s f.args) ++ throws_part s f.throws))))

-- a function on a line of its own
abbrev pub function_line_of : PlainSchema → PlainFunction → List ℕ
function_line_of s f = indented_line (function_in_text s f)

-- a typedef
unfoldable pub alias_in_text : PlainSchema → PlainAlias → List ℕ
alias_in_text s a = codes "typedef " ++ (a.name ++ (codes " " ++ line_of (kind_name s a.kind)))

-- a constant
unfoldable pub constant_in_text : PlainSchema → PlainConstant → List ℕ
constant_in_text s c = codes "const " ++ (c.name ++ (codes " " ++ (kind_name s c.kind ++ (codes " " ++ line_of (tree_text c.value)))))

-- a value of an enum, behind a blank
abbrev pub enum_value_part : List ℕ × ℤ → List ℕ
enum_value_part v = codes " " ++ (v.0 ++ (codes "=" ++ decimal_of v.1))

-- an enum
unfoldable pub enum_in_text : PlainEnum → List ℕ
enum_in_text e = codes "enum " ++ (e.name ++ line_of (flat_map enum_value_part e.values))

-- the word with which a struct, a union or an exception begins; arguments are no definition
abbrev pub struct_word_part : FieldsKind → List ℕ
struct_word_part of_kind.Struct = codes "struct "
struct_word_part of_kind.Union = codes "union "
struct_word_part of_kind.Exception = codes "exception "
struct_word_part of_kind.Args = codes "args "

-- a struct, union or exception
unfoldable pub struct_in_text : PlainSchema → PlainStruct → List ℕ
struct_in_text s d = struct_word_part d.kind ++ (line_of d.name ++ flat_map (field_line_of s) d.fields)

-- the service that a service extends, where it extends one
abbrev pub parent_part : PlainSchema → Option ℕ → List ℕ
parent_part s None = []
parent_part s (Some parent) = codes " extends " ++ text_at (service_name s) s.services parent

-- a service
unfoldable pub service_in_text : PlainSchema → PlainService → List ℕ
service_in_text s v = codes "service " ++ (v.name ++ (line_of (parent_part s v.parent) ++ flat_map (function_line_of s) v.functions))

-- a definition
abbrev pub def_in_text : PlainSchema → DefRef → List ℕ
def_in_text s (definition.Alias n) = text_at (alias_in_text s) s.aliases n
def_in_text s (definition.Constant n) = text_at (constant_in_text s) s.constants n
def_in_text s (definition.Enum n) = text_at enum_in_text s.enums n
def_in_text s (definition.Struct n) = text_at (struct_in_text s) s.structs n
def_in_text s (definition.Service n) = text_at (service_in_text s) s.services n

-- a file and its definitions
unfoldable pub file_in_text : PlainSchema → PlainFile → List ℕ
file_in_text s f = codes "file " ++ (line_of f.base ++ flat_map (def_in_text s) f.defs)

-- a schema
abbrev pub schema_text : PlainSchema → List ℕ
schema_text s = flat_map (file_in_text s) s.files
