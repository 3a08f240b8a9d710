-- The parts of a message's name are no longer than the name.
use Rattle.std.proofs.Common.{ℕ, ◌+◌, ◌≤◌, List, length, take, Option, Some, None, unwrap_or, arith}
use Rattle.std.proofs.lemmas.List.{length-take, length-drop}
use Rattle.std.specs.Option.{option_map}
use Rattle.call_model.specs.Names.{separator_of, service_part, method_behind, method_part}

method_short : (at : Option ℕ) (name : List ℕ) → length (method_behind at name) ≤ length name
method_short (Some at) name = omega (arith, length-drop (at + 1) name)
method_short None name = omega arith

-- the method's part
pub method_within : (name : List ℕ) → length (method_part name) ≤ length name
method_within name = method_short (separator_of name) name

front_short : (at : Option ℕ) (name : List ℕ) → length (unwrap_or (option_map (λ n. take n name) at) name) ≤ length name
front_short (Some at) name = omega (arith, length-take at name)
front_short None name = omega arith

-- the service's part, or the whole name
pub service_within : (name : List ℕ) → length (unwrap_or (service_part name) name) ≤ length name
service_within name = front_short (separator_of name) name
