-- What a check looks at: the spots of a program, in reading order. Files go by number; a spot stands at the place of what it shows.
use Rattle.std.specs.Prelude.{ℕ, suc, List, [], ◌∷◌, ◌++◌, map, Option, Some, None}
use Rattle.std.specs.List.{filter_map}
use Rattle.idl_token.specs.declared.Place.{Place}
use Rattle.idl_include.specs.Written.{Written}
use Rattle.idl_include.specs.TypeExpr.{TypeExpr, names_in_type}
use Rattle.idl_include.specs.ConstExpr.{ConstExpr}
use Rattle.idl_include.specs.Declarations.{FieldDecl, FunctionDecl, EnumValueDecl, StructDecl, Declaration, of_const, of_typedef, of_enum, of_struct_decl, of_service, declared_name}
use Rattle.idl_include.specs.Program.{Program}
use Rattle.idl_include.specs.Numbering.{Filed, Counts, none_counted, counted, all_counted}

-- a value that a program gives: of a constant, with the place of its name, or the default of a field, with the place of the field
pub record GivenValue : Type 0 where
  pub owner : Place
  pub type : TypeExpr
  pub tree : ConstExpr

-- something that a check looks at
pub data Spotted : Type 0 where
  -- a name that is given, and those that were given before it in the same list
  given_name : List Written → Written → Spotted
  -- the name of a type, and of a service that is extended
  type_use : Written → Spotted
  parent_use : Written → Spotted
  -- a typedef, by its number and its name
  typedef_spot : ℕ → Written → Spotted
  -- a field, and those before it in its list
  field_spot : List FieldDecl → FieldDecl → Spotted
  -- a field of a list of exceptions that a function throws
  thrown_spot : FieldDecl → Spotted
  -- a value of an enum, and those before it
  enum_value_spot : List EnumValueDecl → EnumValueDecl → Spotted
  -- a struct, union or exception, with its number
  struct_spot : ℕ → StructDecl → Spotted
  -- a service, by its number and its name
  service_spot : ℕ → Written → Spotted
  -- a function of the service of some number, and those before it
  function_spot : ℕ → List FunctionDecl → FunctionDecl → Spotted
  -- a value
  value_spot : GivenValue → Spotted

-- a spot, with the number of its file
pub record Spot : Type 0 where
  pub file : ℕ
  pub shows : Spotted

-- the names in a type
abbrev pub type_spots : TypeExpr → List Spotted
type_spots type = map type_use (names_in_type type)

-- a default, if there is one
abbrev pub default_spots : FieldDecl → Option ConstExpr → List Spotted
default_spots field None = []
default_spots field (Some tree) = value_spot (record { owner = field.at; type = field.type; tree = tree }) ∷ []

-- a field behind others of its list
unfoldable pub spots_in_field : List FieldDecl → FieldDecl → List Spotted
spots_in_field before field =
    field_spot before field ∷ (type_spots field.type
    ++ given_name (map (λ (f : FieldDecl). f.name) before) field.name ∷ default_spots field field.default)

-- fields behind others of their list
abbrev pub spots_in_fields : List FieldDecl → List FieldDecl → List Spotted
spots_in_fields before [] = []
spots_in_fields before (field ∷ more) = spots_in_field before field ++ spots_in_fields (before ++ field ∷ []) more

-- the exceptions that a function throws, behind others of their list
abbrev pub spots_in_throws : List FieldDecl → List FieldDecl → List Spotted
spots_in_throws before [] = []
spots_in_throws before (field ∷ more) =
    thrown_spot field ∷ (spots_in_field before field ++ spots_in_throws (before ++ field ∷ []) more)

-- a result, if there is one
abbrev pub result_spots : Option TypeExpr → List Spotted
result_spots None = []
result_spots (Some type) = type_spots type

-- a function of the service of some number, behind others. That it gives a name matters to no other name here: two functions
-- of one name are looked for among all functions of a service.
unfoldable pub spots_in_function : ℕ → List FunctionDecl → FunctionDecl → List Spotted
spots_in_function service before function =
    function_spot service before function ∷ (result_spots function.result ++ given_name [] function.name
    ∷ (spots_in_fields [] function.arguments ++ spots_in_throws [] function.throws))

-- functions of the service of some number, behind others
abbrev pub spots_in_functions : ℕ → List FunctionDecl → List FunctionDecl → List Spotted
spots_in_functions service before [] = []
spots_in_functions service before (function ∷ more) =
    spots_in_function service before function ++ spots_in_functions service (before ++ function ∷ []) more

-- the values of an enum, behind others
abbrev pub spots_in_enum : List EnumValueDecl → List EnumValueDecl → List Spotted
spots_in_enum before [] = []
spots_in_enum before (value ∷ more) =
    enum_value_spot before value ∷ given_name (map (λ (v : EnumValueDecl). v.name) before) value.name
    ∷ spots_in_enum (before ++ value ∷ []) more

-- a parent, if there is one
abbrev pub parent_spots : Option Written → List Spotted
parent_spots None = []
parent_spots (Some name) = parent_use name ∷ []

-- a definition behind others in its file, whose names are given, and behind so many definitions of the program
unfoldable pub spots_in_declaration : List Written → Counts → Declaration → List Spotted
spots_in_declaration before n (of_const c) =
    type_spots c.type ++ given_name before c.name ∷ value_spot (record { owner = c.name.at; type = c.type; tree = c.value }) ∷ []
spots_in_declaration before n (of_typedef t) = type_spots t.type ++ given_name before t.name ∷ typedef_spot n.aliases t.name ∷ []
spots_in_declaration before n (of_enum e) = given_name before e.name ∷ spots_in_enum [] e.values
spots_in_declaration before n (of_struct_decl s) = given_name before s.name ∷ struct_spot n.structs s ∷ spots_in_fields [] s.fields
spots_in_declaration before n (of_service s) =
    given_name before s.name ∷ service_spot n.services s.name ∷ (parent_spots s.parent ++ spots_in_functions n.services [] s.functions)

-- definitions behind others
abbrev pub spots_in_declarations : List Written → Counts → List Declaration → List Spotted
spots_in_declarations before n [] = []
spots_in_declarations before n (d ∷ more) =
    spots_in_declaration before n d ++ spots_in_declarations (before ++ declared_name d ∷ []) (counted n d) more

-- spots of the file of some number
abbrev pub in_file : ℕ → List Spotted → List Spot
in_file number shown = map (λ x. record { file = number; shows = x }) shown

-- the spots of files, the first of which has this number, behind so many definitions
abbrev pub spots_from : ℕ → Counts → Program → List Spot
spots_from number n [] = []
spots_from number n (file ∷ files) =
    in_file number (spots_in_declarations [] n file.declarations) ++ spots_from (suc number) (all_counted n file.declarations) files

-- The spots of a program, in reading order.
unfoldable pub spots_of : Program → List Spot
spots_of program = spots_from 0 none_counted program

-- a spot's value, with the number of its file, if it shows one
abbrev pub value_at : ℕ → Spotted → Option (Filed GivenValue)
value_at file (value_spot v) = Some (record { file = file; item = v })
value_at file _ = None

-- The values that a program gives, in reading order.
unfoldable pub values_of : Program → List (Filed GivenValue)
values_of program = filter_map (λ (s : Spot). value_at s.file s.shows) (spots_of program)
