use Rattle.std.proofs.Common.{◌≡◌, ℕ, true, List, map, take}
use Rattle.std.specs.List.{AllZip}
use Rattle.schema.specs.PlainSchema.{PlainService}
use Rattle.schema.specs.SchemaOf.{plain_service}
use Rattle.processor.specs.Tables.{is_table}
use Rattle.processor.proofs.tabling.tables_of.Given as goal

-- the tables so far
abbrev pub invariant-loop-service : goal.invariant-loop-service
invariant-loop-service l =
    AllZip (λ (service : PlainService) (table : List ℕ). is_table service.functions table ≡ true) (map plain_service (take l.service-index l.services)) l.tables.items
