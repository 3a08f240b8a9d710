use Rattle.std.proofs.Common.{◌≡◌, map, drop}
use Rattle.std.specs.List.{position_from}
use Rattle.schema.specs.LookUp.{service_named, is_service_name}
use Rattle.schema.specs.SchemaOf.{schema_of, plain_service}
use Rattle.schema.proofs.types.Schema.service.Given as goal

-- what is found in what is left is what is found in all
abbrev pub invariant-loop-place : goal.invariant-loop-place
invariant-loop-place l =
    position_from (is_service_name (schema_of l.self) l.name) l.place (map plain_service (drop l.place l.self.services)) ≡ service_named (schema_of l.self) l.name
