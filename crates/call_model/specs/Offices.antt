-- What a host serves: services of a schema, each under a name.
use Rattle.std.specs.Prelude.{◌≡◌, ℕ, ◌≤◌, ◌<◌, ◌^◌, List, length, map, Option, Some, All}
use Rattle.call_rules.specs.Desks.{longest_payload}
use Rattle.envelope.specs.declared.head.Protocol.{Protocol}
use Rattle.schema.specs.PlainSchema.{PlainSchema}
use Rattle.schema.specs.Sound.{IsSound, IsPlaceIn, AreDifferent}

-- a service that is bound: the name under which calls ask for it, and its number in the schema
abbrev pub Binding : Type 0
Binding = List ℕ × ℕ

-- a schema, the services that are bound, whose places are their slots, the slot of the default service, if there is one, the protocol, and
-- the longest payload that may come in, and that a reply may have
pub record PlainOffice : Type 0 where
  pub schema : PlainSchema
  pub bindings : List Binding
  pub default_slot : Option ℕ
  pub protocol : Protocol
  pub max_frame : ℕ

-- the name of a binding
abbrev pub bound_name : Binding → List ℕ
bound_name binding = binding.0

-- what may be served: a sound schema, one or more of its services under different names, and one of these or none by default
pub record IsSoundOffice (office : PlainOffice) : Type 0 where
  pub schema : IsSound office.schema
  pub some : 1 ≤ length office.bindings
  pub few : length office.bindings < 2 ^ 32
  pub names : AreDifferent (map bound_name office.bindings)
  pub services : All (λ (b : Binding). IsPlaceIn office.schema.services b.1) office.bindings
  pub default_slot : (slot : ℕ) → office.default_slot ≡ Some slot → slot < length office.bindings
  pub least : 1 ≤ office.max_frame
  pub most : office.max_frame ≤ longest_payload
