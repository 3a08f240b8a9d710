-- What tables of names find.
use Rattle.std.specs.Prelude.{◌≡◌, ℕ, ◌&&◌, Bool, List, [], map, Option, Some, slice_get, AllPairs, ◌<ℤ◌}
use Rattle.std.specs.Option.{option_and_then, option_map_or, option_or}
use Rattle.std.specs.Str.{bytes_eq}
use Rattle.idl_names.specs.NameMaps.{NameMap, number_of_name, number_if}
use Rattle.schema.specs.LookUp.{function_named}
use Rattle.schema.specs.PlainSchema.{PlainField, PlainFunction, PlainSchema}
use Rattle.schema.specs.Shapes.{shown_function}
use Rattle.compat_model.specs.declared.break_kind.BreakKind.TheVariants as breaks
use Rattle.compat_model.specs.Breaks.{PlainBreak, whole_break, break_of_functions}
use Rattle.compat_model.specs.NamedThings.{main_struct_named, main_service_named}
use Rattle.compat_model.specs.StructPairs.{SchemaChange, StructPair, PairsOfFunctions}
use Rattle.compat_check.specs.declared.change.Change.{Change}
use Rattle.compat_check.specs.declared.functions.FunctionTable.{FunctionTable}
use Rattle.compat_check.specs.Plain.{change_of}

-- names have one more, where a test holds and it isn't there
abbrev pub HasOneMoreIf : Bool → List ℕ → ℕ → NameMap → NameMap → Type 0
HasOneMoreIf holds name number old new =
    (other : List ℕ) → number_of_name new other ≡ option_or (number_of_name old other) (number_if (holds && bytes_eq name other) number)

-- the new main file's structs and services are found by their names
abbrev pub HasStructs : Change → Type 0
HasStructs c = (name : List ℕ) → number_of_name c.structs name ≡ main_struct_named (change_of c).new name

abbrev pub HasServices : Change → Type 0
HasServices c = (name : List ℕ) → number_of_name c.services name ≡ main_service_named (change_of c).new name

-- how a function is looked up by its name
abbrev pub LooksUp : Type 0
LooksUp = List ℕ → Option PlainFunction

-- the function that a table has under a name
abbrev pub tabled_function : FunctionTable → LooksUp
tabled_function table name = option_and_then (slice_get (map shown_function table.functions.items)) (number_of_name table.places name)

-- a table has the functions of a service
abbrev pub HasFunctions : PlainSchema → ℕ → FunctionTable → Type 0
HasFunctions s which table = tabled_function table ≡ function_named s which

-- the break of a function, where another is looked up by its name
abbrev pub break_looked_up : SchemaChange → LooksUp → PlainFunction → Option PlainBreak
break_looked_up ch look f = option_map_or (break_of_functions ch f) (look f.name) (Some (whole_break breaks.Gone f.name))

-- the pairs that it gives
abbrev pub pairs_looked_up : PairsOfFunctions → LooksUp → PlainFunction → List StructPair
pairs_looked_up pairs look f = option_map_or (pairs f) (look f.name) []

-- fields by rising id
abbrev pub StandByRisingId : List PlainField → Type 0
StandByRisingId fields = AllPairs (λ (f g : PlainField). f.id <ℤ g.id) fields

-- a function throws by rising id
abbrev pub ThrowsRising : PlainFunction → Type 0
ThrowsRising f = StandByRisingId f.throws
