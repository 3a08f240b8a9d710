-- The default service, which names without a service ask for (Thrift: TMultiplexedProcessor's registerDefault).
use Rattle.std.specs.Prelude.{ℕ, Bool, List, Option, None, Some, Result, Ok, Err, position}
use Rattle.std.specs.Str.{bytes_eq}
use Rattle.service_binding.specs.Binding.{NumberedName}
use Rattle.service_binding.specs.declared.fault.BindKind.{BindKind}
use Rattle.service_binding.specs.declared.fault.BindKind.TheVariants.{NotBound}

-- what is bound has this name
abbrev pub has_numbered_name : List ℕ → NumberedName → Bool
has_numbered_name name binding = bytes_eq binding.0 name

-- a place, or none
abbrev pub slot_or_not_bound : Option ℕ → Result (Option ℕ) BindKind
slot_or_not_bound None = Err NotBound
slot_or_not_bound (Some slot) = Ok (Some slot)

-- the slot of the default: the place of what is bound under its name, or none where no default is given
abbrev pub slot_for_default : List NumberedName → Option (List ℕ) → Result (Option ℕ) BindKind
slot_for_default bindings None = Ok None
slot_for_default bindings (Some name) = slot_or_not_bound (position (has_numbered_name name) bindings)
