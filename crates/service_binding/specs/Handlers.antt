-- Which handler a pair takes of those that were handed in.
use Rattle.std.specs.Prelude.{Bool, true, false, List, [], ◌∷◌, drop, filter, count_by, Result, Ok, Err}
use Rattle.std.specs.List.{list_any}
use Rattle.call_rules.specs.declared.kind.Kind.{Kind}
use Rattle.call_rules.specs.declared.kind.Kind.TheVariants.{Calculator, Store, Mirror}
use Rattle.call_rules.specs.Handling.{ServiceState}
use Rattle.service_binding.specs.Pairs.{NamedKind}
use Rattle.service_binding.specs.declared.fault.BindKind.{BindKind}
use Rattle.service_binding.specs.declared.fault.BindKind.TheVariants.{UnknownKind, SameKind}

-- two kinds are one
abbrev pub same_kind : Kind → Kind → Bool
same_kind Calculator Calculator = true
same_kind Store Store = true
same_kind Mirror Mirror = true
same_kind _ _ = false

-- a handler, which is seen as its service, is of a kind
abbrev pub is_of_kind : Kind → ServiceState → Bool
is_of_kind kind service = same_kind kind service.kind

-- a handler of a kind was handed in
abbrev pub is_handed_in : Kind → List ServiceState → Bool
is_handed_in kind services = list_any (is_of_kind kind) services

-- the handlers of a kind, in the order in which they were handed in
abbrev pub services_of_kind : Kind → List ServiceState → List ServiceState
services_of_kind kind services = filter (is_of_kind kind) services

-- a pair asks for a handler of a kind
abbrev pub asks_for : Kind → NamedKind → Bool
asks_for kind pair = same_kind kind pair.1

-- the handlers of a kind that these pairs leave: each pair of the kind takes the first that isn't taken
abbrev pub left_behind : Kind → List NamedKind → List ServiceState → List ServiceState
left_behind kind pairs services = drop (count_by (asks_for kind) pairs) (services_of_kind kind services)

-- the first handler of those that are left; or why there is none, by whether any was handed in
abbrev pub first_left : Bool → List ServiceState → Result ServiceState BindKind
first_left handed (service ∷ _) = Ok service
first_left true [] = Err SameKind
first_left false [] = Err UnknownKind

-- the handler that a pair takes behind these others
abbrev pub handler_for : List ServiceState → List NamedKind → NamedKind → Result ServiceState BindKind
handler_for services before pair = first_left (is_handed_in pair.1 services) (left_behind pair.1 before services)
