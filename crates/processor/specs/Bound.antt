-- Bindings in memory, as plain data.
use Rattle.std.specs.Prelude.{ℕ, List, Option}
use Rattle.struct_skew.specs.Needs.{PlainNeeds}
use Rattle.call_model.specs.Offices.{Binding}
use Rattle.processor.specs.declared.bindings.Bindings.{Bindings}

-- the services that are bound
abbrev pub bound_names : Bindings → List Binding
bound_names b = b.names

-- the slot of the default service, if there is one
abbrev pub default_bound : Bindings → Option ℕ
default_bound b = b.default_slot

-- what the structs of their schema need
abbrev pub needs_in : Bindings → List PlainNeeds
needs_in b = b.needed

-- the tables of their schema's functions, one for each service
abbrev pub tables_in : Bindings → List (List ℕ)
tables_in b = b.tables
