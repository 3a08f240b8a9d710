-- How typedefs and services lead to one another.
use Rattle.std.specs.Prelude.{◌≡◌, ℕ, List, [], ◌∷◌, map, true, slice_get, Option, Some, None}
use Rattle.std.specs.Option.{option_and_then, option_map_or}
use Rattle.std.specs.List.{filter_map, list_any}
use Rattle.std.specs.Str.{bytes_eq}
use Rattle.graph_cycles.specs.Walks.{Graph, LeadsTo}
use Rattle.idl_include.specs.Written.{Written}
use Rattle.idl_include.specs.TypeExpr.{names_in_type}
use Rattle.idl_include.specs.Declarations.{FunctionDecl, TypedefDecl, ServiceDecl}
use Rattle.idl_include.specs.Program.{Program}
use Rattle.idl_include.specs.Numbering.{Filed, typedefs_of, services_of}
use Rattle.idl_include.specs.Names.{NamedType, an_alias, type_named, service_for_name}

-- the typedef that a name stands for, if it is one
abbrev pub alias_in : NamedType → Option ℕ
alias_in (an_alias number) = Some number
alias_in _ = None

-- the typedefs that a typedef's type names, also inside containers
abbrev pub aliases_below : Program → Filed TypedefDecl → List ℕ
aliases_below program t = filter_map (λ (name : Written). option_and_then alias_in (type_named program t.file name.text)) (names_in_type t.item.type)

-- each typedef with those that its type names
unfoldable pub alias_graph : Program → Graph
alias_graph program = map (aliases_below program) (typedefs_of program)

-- the service's parent, if it has one
abbrev pub parent_named : Program → Filed ServiceDecl → Option ℕ
parent_named program s = option_and_then (λ (name : Written). service_for_name program s.file name.text) s.item.parent

-- what is there, as a list
abbrev pub listed : Option ℕ → List ℕ
listed None = []
listed (Some x) = x ∷ []

-- each service with its parent
unfoldable pub parent_graph : Program → Graph
parent_graph program = map (λ s. listed (parent_named program s)) (services_of program)

-- a service's own functions
abbrev pub functions_by_number : Program → ℕ → List FunctionDecl
functions_by_number program service = option_map_or (λ (s : Filed ServiceDecl). s.item.functions) (slice_get (services_of program) service) []

-- one of the functions has this name
abbrev pub HasFunction : List FunctionDecl → List ℕ → Type 0
HasFunction functions name = list_any (λ (f : FunctionDecl). bytes_eq f.name.text name) functions ≡ true

-- some service that this one extends, directly or not, has a function of this name
abbrev pub Inherits : Program → ℕ → List ℕ → Type 0
Inherits program service name =
    (ancestor : ℕ) × LeadsTo (parent_graph program) service ancestor × HasFunction (functions_by_number program ancestor) name
