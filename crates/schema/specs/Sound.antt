-- What holds of the schema of every program of IDL files that has no fault.
use Rattle.std.specs.Prelude.{◌≡◌, ◌≢◌, ◌<◌, ◌≤◌, ◌<ℤ◌, ◌^◌, ⊤, ℕ, ℤ, IsTrue, ◌&&◌, ◌||◌, ◌==◌, nat_le, Bool, true, false, filter, List, [], ◌∷◌, length, map, All, AllPairs, Option, Some, MatchOption}
use Rattle.std.specs.List.{slice_get}
use Rattle.std.specs.Option.{option_map}
use Rattle.thrift_value.specs.Measures.{depth_of}
use Rattle.thrift_value.specs.Tidy.{IsTidy}
use Rattle.thrift_value.specs.Tree.{Tree}
use Rattle.schema.specs.declared.types.FieldsKind.{FieldsKind}
use Rattle.schema.specs.declared.types.FieldsKind.TheVariants.{Exception, Args}
use Rattle.schema.specs.declared.types.DefRef.{DefRef}
use Rattle.schema.specs.declared.types.DefRef.TheVariants.{Alias, Constant, Enum, Struct, Service}
use Rattle.schema.specs.Inherited.{parent_of, functions_of}
use Rattle.schema.specs.PlainKind.{PlainKind, kind_enum, kind_struct, kind_map, kind_set, kind_list}
use Rattle.schema.specs.PlainSchema.{PlainField, PlainStruct, PlainEnum, PlainFunction, PlainService, PlainAlias, PlainConstant, PlainFile, PlainSchema}
use Rattle.schema.specs.WrittenAs.{MayBeWrittenAs}

-- a letter, a digit or `_`
abbrev pub is_name_byte : ℕ → Bool
is_name_byte b =
    (nat_le 48 b && nat_le b 57) || (nat_le 65 b && nat_le b 90) || (nat_le 97 b && nat_le b 122) || b == 95

-- one or more letters, digits or `_`, and at most as many as a file has bytes
pub record IsSchemaName (name : List ℕ) : Type 0 where
  pub some : 1 ≤ length name
  pub short : length name ≤ 2 ^ 22
  pub bytes : All (λ b. IsTrue (is_name_byte b)) name

-- all of the names are different
abbrev pub AreDifferent : List (List ℕ) → Type 0
AreDifferent names = AllPairs (λ a b. a ≢ b) names

-- a number of one of the items
abbrev pub IsPlaceIn : {A : Type 0} → List A → ℕ → Type 0
IsPlaceIn items n = n < length items

-- a list whose places are numbers of 32 bits
abbrev pub HasNumbers : {A : Type 0} → List A → Type 0
HasNumbers items = length items < 2 ^ 32

-- each enum and each struct that a type names is one of the schema's
abbrev pub IsKindIn : PlainSchema → PlainKind → Type 0
IsKindIn s (kind_enum which) = IsPlaceIn s.enums which
IsKindIn s (kind_struct which) = IsPlaceIn s.structs which
IsKindIn s (kind_map key value) = IsKindIn s key × IsKindIn s value
IsKindIn s (kind_set member) = IsKindIn s member
IsKindIn s (kind_list element) = IsKindIn s element
IsKindIn s _ = ⊤

-- the struct at a number is of this kind
abbrev pub IsStructOf : PlainSchema → FieldsKind → ℕ → Type 0
IsStructOf s kind which = MatchOption (slice_get s.structs which) ⊥ (λ d. d.kind ≡ kind)

-- a default or a constant: tidy, of at most 64 levels, and of its type
pub record IsValueOf (s : PlainSchema) (kind : PlainKind) (value : Tree) : Type 0 where
  pub tidy : IsTidy value
  pub levels : depth_of value ≤ 64
  pub written : MayBeWrittenAs s.structs kind value

-- a field
pub record IsSoundField (s : PlainSchema) (f : PlainField) : Type 0 where
  pub name : IsSchemaName f.name
  pub kind : IsKindIn s f.kind
  pub default : MatchOption f.default ⊤ (IsValueOf s f.kind)

-- fields by rising id, so that no id stands twice
pub record AreSoundFields (s : PlainSchema) (fields : List PlainField) : Type 0 where
  pub rising : AllPairs (λ (f g : PlainField). f.id <ℤ g.id) fields
  pub each : All (IsSoundField s) fields

-- a struct, union, exception or the arguments of a function
pub record IsSoundStruct (s : PlainSchema) (d : PlainStruct) : Type 0 where
  pub file : IsPlaceIn s.files d.file
  pub name : IsSchemaName d.name
  pub fields : AreSoundFields s d.fields

-- an enum
pub record IsSoundEnum (s : PlainSchema) (e : PlainEnum) : Type 0 where
  pub file : IsPlaceIn s.files e.file
  pub name : IsSchemaName e.name
  pub values : All (λ (v : List ℕ × ℤ). IsSchemaName v.0) e.values

-- a type of an exception
abbrev pub IsException : PlainSchema → PlainKind → Type 0
IsException s (kind_struct which) = IsStructOf s Exception which
IsException s _ = ⊥

-- a function
pub record IsSoundFunction (s : PlainSchema) (f : PlainFunction) : Type 0 where
  pub name : IsSchemaName f.name
  pub args : IsStructOf s Args f.args
  pub result : MatchOption f.result ⊤ (IsKindIn s)
  pub throws : AreSoundFields s f.throws
  pub exceptions : All (λ (t : PlainField). IsException s t.kind) f.throws

-- a service
pub record IsSoundService (s : PlainSchema) (v : PlainService) : Type 0 where
  pub file : IsPlaceIn s.files v.file
  pub name : IsSchemaName v.name
  pub parent : MatchOption v.parent ⊤ (IsPlaceIn s.services)
  pub functions : All (IsSoundFunction s) v.functions

-- a typedef
pub record IsSoundAlias (s : PlainSchema) (a : PlainAlias) : Type 0 where
  pub file : IsPlaceIn s.files a.file
  pub name : IsSchemaName a.name
  pub kind : IsKindIn s a.kind

-- a constant
pub record IsSoundConstant (s : PlainSchema) (c : PlainConstant) : Type 0 where
  pub file : IsPlaceIn s.files c.file
  pub name : IsSchemaName c.name
  pub kind : IsKindIn s c.kind
  pub value : IsValueOf s c.kind c.value

-- a definition's number is a place in the list of its kind
abbrev pub IsDefIn : PlainSchema → DefRef → Type 0
IsDefIn s (Alias n) = IsPlaceIn s.aliases n
IsDefIn s (Constant n) = IsPlaceIn s.constants n
IsDefIn s (Enum n) = IsPlaceIn s.enums n
IsDefIn s (Struct n) = IsPlaceIn s.structs n
IsDefIn s (Service n) = IsPlaceIn s.services n

-- the name of a definition
abbrev pub def_name : PlainSchema → DefRef → Option (List ℕ)
def_name s (Alias n) = option_map (λ (a : PlainAlias). a.name) (slice_get s.aliases n)
def_name s (Constant n) = option_map (λ (c : PlainConstant). c.name) (slice_get s.constants n)
def_name s (Enum n) = option_map (λ (e : PlainEnum). e.name) (slice_get s.enums n)
def_name s (Struct n) = option_map (λ (d : PlainStruct). d.name) (slice_get s.structs n)
def_name s (Service n) = option_map (λ (v : PlainService). v.name) (slice_get s.services n)

-- definitions of one file: each number is a place, and their names are different
pub record AreSoundDefs (s : PlainSchema) (defs : List DefRef) : Type 0 where
  pub places : All (IsDefIn s) defs
  pub names : AllPairs (λ a b. def_name s a ≢ def_name s b) defs

-- a definition is no constant
abbrev pub is_no_constant : DefRef → Bool
is_no_constant (Constant _) = false
is_no_constant _ = true

-- a file but for its constants
pub record IsSoundFile (s : PlainSchema) (f : PlainFile) : Type 0 where
  pub includes : All (IsPlaceIn s.files) f.includes
  pub defs : AreSoundDefs s (filter is_no_constant f.defs)

-- one service extends another through those between, in order
abbrev pub Extends : List PlainService → ℕ → List ℕ → ℕ → Type 0
Extends services child [] parent = parent_of services child ≡ Some parent
Extends services child (next ∷ between) parent = (parent_of services child ≡ Some next) × Extends services next between parent

-- no service reaches itself by `extends`
abbrev pub HasNoServiceLoop : List PlainService → Type 0
HasNoServiceLoop services = (which : ℕ) (between : List ℕ) → Extends services which between which → ⊥

-- the functions of each service, inherited ones included, have different names
abbrev pub HaveDifferentFunctions : List PlainService → Type 0
HaveDifferentFunctions services =
    (which : ℕ) → IsPlaceIn services which → AreDifferent (map (λ (f : PlainFunction). f.name) (functions_of services which))

-- each number that a schema holds fits 32 bits
pub record HasShortLists (s : PlainSchema) : Type 0 where
  pub files : HasNumbers s.files
  pub structs : HasNumbers s.structs
  pub enums : HasNumbers s.enums
  pub services : HasNumbers s.services
  pub aliases : HasNumbers s.aliases
  pub constants : HasNumbers s.constants

-- a schema but for its constants, which may not stand in its list yet
pub record IsSoundButConstants (s : PlainSchema) : Type 0 where
  pub short : HasShortLists s
  pub files : All (IsSoundFile s) s.files
  pub bases : AreDifferent (map (λ (f : PlainFile). f.base) s.files)
  pub structs : All (IsSoundStruct s) s.structs
  pub enums : All (IsSoundEnum s) s.enums
  pub services : All (IsSoundService s) s.services
  pub aliases : All (IsSoundAlias s) s.aliases
  pub no_loop : HasNoServiceLoop s.services
  pub functions : HaveDifferentFunctions s.services

-- a schema
pub record IsSound (s : PlainSchema) : Type 0 where
  pub all_else : IsSoundButConstants s
  pub constants : All (IsSoundConstant s) s.constants
  pub defs : All (λ (f : PlainFile). AreSoundDefs s f.defs) s.files
