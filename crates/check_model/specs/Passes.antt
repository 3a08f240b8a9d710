-- What is wrong with a program: the passes over its spots, one after another, and at which spots each finds a fault.
use Rattle.std.specs.Prelude.{◌≡◌, ◌⊎◌, ℕ, ℤ, pos, int_le, nat_le, not, ◌&&◌, Bool, true, false, List, [], ◌∷◌, map, slice_get, is_some, Option, Some, None}
use Rattle.std.specs.Ordering.{int_eq}
use Rattle.std.specs.List.{list_any}
use Rattle.idl_token.specs.declared.Place.{Place}
use Rattle.idl_parser.specs.declared.tree.StructKind.{StructKind}
use Rattle.idl_parser.specs.declared.tree.StructKind.TheVariants as kind
use Rattle.graph_cycles.specs.Walks.{OnCycle}
use Rattle.idl_include.specs.Written.{Written}
use Rattle.idl_include.specs.TypeExpr.{TypeExpr}
use Rattle.idl_include.specs.Declarations.{FieldDecl, FunctionDecl, EnumValueDecl, StructDecl}
use Rattle.idl_include.specs.Loading.{is_among}
use Rattle.idl_include.specs.Program.{Program}
use Rattle.idl_include.specs.Numbering.{Filed, structs_of}
use Rattle.idl_include.specs.Names.{is_dotted, type_named, service_for_name}
use Rattle.idl_include.specs.FieldIds.{id_behind, unnumbered_in, field_ids}
use Rattle.idl_include.specs.EnumNumbers.{number_or, next_number}
use Rattle.idl_include.specs.Cycles.{alias_graph, parent_graph, HasFunction, Inherits}
use Rattle.idl_include.specs.Spots.{GivenValue, Spotted, given_name, type_use, parent_use, typedef_spot, field_spot, thrown_spot, enum_value_spot, struct_spot, service_spot, function_spot, value_spot}
use Rattle.idl_include.specs.ConstNames.{value_number}
use Rattle.schema.specs.PlainKind.{PlainKind, kind_struct}
use Rattle.schema.specs.PlainSchema.{PlainSchema}
use Rattle.check_model.specs.Resolved.{TypeMeans}
use Rattle.check_model.specs.FiniteValues.{has_no_items, HasFiniteValue}
use Rattle.check_model.specs.Scalars.{has_bits}
use Rattle.check_model.specs.Worths.{ConstFlaw, flawed}
use Rattle.check_model.specs.Evaluation.{given_worth}
use Rattle.check_model.specs.SchemaParts.{IsPartialSchema}

-- the passes, each named for what it finds
pub data Pass : Type 0 where
  dotted_name : Pass
  duplicate_name : Pass
  unknown_type : Pass
  typedef_cycle : Pass
  field_id : Pass
  duplicate_id : Pass
  enum_number : Pass
  service_cycle : Pass
  duplicate_function : Pass
  oneway_not_void : Pass
  oneway_throws : Pass
  not_exception : Pass
  struct_loop : Pass
  bad_constant : Pass

-- the passes in their order
abbrev pub passes : List Pass
passes =
    dotted_name ∷ duplicate_name ∷ unknown_type ∷ typedef_cycle ∷ field_id ∷ duplicate_id ∷ enum_number ∷ service_cycle
    ∷ duplicate_function ∷ oneway_not_void ∷ oneway_throws ∷ not_exception ∷ struct_loop ∷ bad_constant ∷ []

-- the name was given before in the same list
abbrev pub is_repeated : List Written → Written → Bool
is_repeated before name = is_among name.text (map (λ (other : Written). other.text) before)

-- a written number outside 1 to 32767, or a field without one behind 32768 of them
abbrev pub is_bad_id : List FieldDecl → Option ℤ → Bool
is_bad_id before (Some id) = not (int_le (pos 1) id && int_le id (pos 32767))
is_bad_id before None = nat_le 32768 (unnumbered_in before)

-- a field before this one has its id
abbrev pub is_id_repeated : List FieldDecl → FieldDecl → Bool
is_id_repeated before field = list_any (int_eq (id_behind (unnumbered_in before) field.id)) (field_ids before)

-- the number of an enum's value behind others
abbrev pub number_behind : List EnumValueDecl → EnumValueDecl → ℤ
number_behind before value = number_or (next_number (pos 0) before) value.number

-- an earlier function of the service has this name, or one that the service inherits
abbrev pub IsRepeatedFunction : Program → ℕ → List FunctionDecl → List ℕ → Type 0
IsRepeatedFunction program service before name = HasFunction before name ⊎ Inherits program service name

-- the type means an exception
abbrev pub MeansException : Program → ℕ → TypeExpr → Type 0
MeansException program file type =
    (k : ℕ) × TypeMeans program file type (kind_struct k) × (s : Filed StructDecl) × (slice_get (structs_of program) k ≡ Some s) × (s.item.kind ≡ kind.Exception)

-- a struct of this number has no finite value
abbrev pub HasNoFiniteValue : Program → ℕ → Type 0
HasNoFiniteValue program k = (schema : PlainSchema) × IsPartialSchema program schema × (HasFiniteValue schema k → ⊥)

-- a union may be without a finite value, a struct or an exception may not
abbrev pub NeedsFiniteValue : StructKind → Type 0
NeedsFiniteValue kind.Union = ⊥
NeedsFiniteValue _ = Unit {0}

-- A pass finds a fault in what is spotted in the file of some number.
abbrev pub FindsFault : Pass → Program → ℕ → Spotted → Type 0
FindsFault dotted_name program file (given_name before name) = is_dotted name.text ≡ true
FindsFault duplicate_name program file (given_name before name) = is_repeated before name ≡ true
FindsFault unknown_type program file (type_use name) = type_named program file name.text ≡ None
FindsFault unknown_type program file (parent_use name) = service_for_name program file name.text ≡ None
FindsFault typedef_cycle program file (typedef_spot number name) = OnCycle (alias_graph program) number
FindsFault field_id program file (field_spot before field) = is_bad_id before field.id ≡ true
FindsFault duplicate_id program file (field_spot before field) = is_id_repeated before field ≡ true
FindsFault enum_number program file (enum_value_spot before value) = has_bits 32 (number_behind before value) ≡ false
FindsFault service_cycle program file (service_spot number name) = OnCycle (parent_graph program) number
FindsFault duplicate_function program file (function_spot service before f) = IsRepeatedFunction program service before f.name.text
FindsFault oneway_not_void program file (function_spot service before f) = (f.oneway ≡ true) × (is_some f.result ≡ true)
FindsFault oneway_throws program file (function_spot service before f) = (f.oneway ≡ true) × (has_no_items f.throws ≡ false)
FindsFault not_exception program file (thrown_spot field) = MeansException program file field.type → ⊥
FindsFault struct_loop program file (struct_spot number s) = NeedsFiniteValue s.kind × HasNoFiniteValue program number
FindsFault _ program file _ = ⊥

-- the place of what is spotted
abbrev pub place_shown : Spotted → Place
place_shown (given_name before name) = name.at
place_shown (type_use name) = name.at
place_shown (parent_use name) = name.at
place_shown (typedef_spot number name) = name.at
place_shown (field_spot before field) = field.at
place_shown (thrown_spot field) = field.at
place_shown (enum_value_spot before value) = value.name.at
place_shown (struct_spot number s) = s.name.at
place_shown (service_spot number name) = name.at
place_shown (function_spot service before f) = f.at
place_shown (value_spot v) = v.owner

-- A given value that stands in a file has a first fault at this place.
pub record HasConstFlaw (program : Program) (file : ℕ) (v : GivenValue) (at : Place) (flaw : ConstFlaw) : Type 0 where
  pub schema : PlainSchema
  pub made : IsPartialSchema program schema
  pub kind : PlainKind
  pub means : TypeMeans program file v.type kind
  pub which : ℕ
  pub number : value_number program file v.owner ≡ Some which
  pub worth : given_worth (record { program = program; schema = schema }) which kind (record { file = file; item = v }) ≡ flawed at flaw
