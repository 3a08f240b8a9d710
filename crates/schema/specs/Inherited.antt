-- The functions of a service, inherited ones included (Thrift IDL, 'Service').
use Rattle.std.specs.Prelude.{◌≡◌, ℕ, zero, suc, MatchOption, List, [], ◌∷◌, length, flat_map, Option, option_and_then, unwrap_or}
use Rattle.std.specs.List.{slice_get}
use Rattle.std.specs.Option.{option_map}
use Rattle.schema.specs.PlainSchema.{PlainFunction, PlainService}

-- the number of the service that a service extends
abbrev pub parent_of : List PlainService → ℕ → Option ℕ
parent_of services which = option_and_then (λ (s : PlainService). s.parent) (slice_get services which)

-- a service, the one that it extends, and so on, at most so many
abbrev pub lineage_within : ℕ → List PlainService → ℕ → List ℕ
lineage_within zero services which = []
lineage_within (suc most) services which = which ∷ unwrap_or (option_map (lineage_within most services) (parent_of services which)) []

-- a service and all that it inherits from, the nearest first; none stands in its own lineage twice, so there are no more than services
abbrev pub lineage : List PlainService → ℕ → List ℕ
lineage services which = lineage_within (length services) services which

-- a service's own functions
abbrev pub own_functions : List PlainService → ℕ → List PlainFunction
own_functions services which = unwrap_or (option_map (λ (s : PlainService). s.functions) (slice_get services which)) []

-- its own functions in order, then those that it inherits, the nearest first
abbrev pub functions_of : List PlainService → ℕ → List PlainFunction
functions_of services which = flat_map (own_functions services) (lineage services which)

-- the lineage of a service, with no bound: itself, and then the lineage of the service that it extends, where it extends one
abbrev pub IsLineage : List PlainService → ℕ → List ℕ → Type 0
IsLineage services which [] = ⊥
IsLineage services which (first ∷ more) =
    (first ≡ which) × MatchOption (parent_of services which) (more ≡ []) (λ parent. IsLineage services parent more)
