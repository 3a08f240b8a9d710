-- Which function a message's name asks for (Thrift: TMultiplexedProcessor).
use Rattle.std.specs.Prelude.{ℕ, ◌+◌, ◌==◌, Bool, List, [], ◌∷◌, take, drop, Option, Some, None, option_and_then, position}
use Rattle.std.specs.List.{slice_get}
use Rattle.std.specs.Option.{option_map}
use Rattle.std.specs.Str.{bytes_eq}
use Rattle.schema.specs.PlainSchema.{PlainFunction}
use Rattle.schema.specs.LookUp.{function_named}
use Rattle.call_model.specs.Offices.{Binding, PlainOffice}

-- what stands between a service's name and a method's: `:`
abbrev pub is_separator : ℕ → Bool
is_separator b = b == 58

-- the place of the first separator of a name
abbrev pub separator_of : List ℕ → Option ℕ
separator_of name = position is_separator name

-- the part in front of the first separator, which names a service; none where there is no separator
abbrev pub service_part : List ℕ → Option (List ℕ)
service_part name = option_map (λ at. take at name) (separator_of name)

-- what stands behind a separator at this place; where there is none, the whole name
abbrev pub method_behind : Option ℕ → List ℕ → List ℕ
method_behind (Some at) name = drop (at + 1) name
method_behind None name = name

-- the part behind the first separator, which names a method
abbrev pub method_part : List ℕ → List ℕ
method_part name = method_behind (separator_of name) name

-- a binding has this name
abbrev pub has_bound_name : List ℕ → Binding → Bool
has_bound_name name b = bytes_eq b.0 name

-- the only slot, where there is just one
abbrev pub only_slot : List Binding → Option ℕ
only_slot (b ∷ []) = Some 0
only_slot _ = None

-- the slot that a name without a service asks for: that of the default service (TMultiplexedProcessor: registerDefault). Own choice: without
-- a default it asks for the only service that is bound, and where there are several for none
abbrev pub slot_by_default : Option ℕ → List Binding → Option ℕ
slot_by_default (Some slot) bindings = Some slot
slot_by_default None bindings = only_slot bindings

-- the slot of the service that is asked for
abbrev pub slot_asked : Option ℕ → List Binding → Option (List ℕ) → Option ℕ
slot_asked default_slot bindings (Some name) = position (has_bound_name name) bindings
slot_asked default_slot bindings None = slot_by_default default_slot bindings

-- a slot and the number of its service
pub record Bound : Type 0 where
  pub slot : ℕ
  pub service : ℕ

-- the service at a slot
abbrev pub bound_at : List Binding → ℕ → Option Bound
bound_at bindings slot = option_map (λ (b : Binding). record { slot = slot; service = b.1 }) (slice_get bindings slot)

-- the service that a message's name asks for
abbrev pub service_asked : Option ℕ → List Binding → List ℕ → Option Bound
service_asked default_slot bindings name = option_and_then (bound_at bindings) (slot_asked default_slot bindings (service_part name))

-- the function that a message's name asks for of a service, inherited ones included
abbrev pub function_asked : PlainOffice → Bound → List ℕ → Option PlainFunction
function_asked office bound name = function_named office.schema bound.service (method_part name)
