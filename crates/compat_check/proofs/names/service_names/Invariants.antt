use Rattle.std.proofs.Common.{map, take}
use Rattle.std.specs.Prelude.{◌==◌}
use Rattle.schema.specs.PlainSchema.{PlainService}
use Rattle.schema.specs.SchemaOf.{plain_service}
use Rattle.compat_check.proofs.Tables.{FindsFirst}
use Rattle.compat_check.proofs.names.service_names.Given as goal

-- the ones so far
abbrev pub invariant-loop-place : goal.invariant-loop-place
invariant-loop-place l = FindsFirst (λ (x : PlainService). x.file == 0) (λ (x : PlainService). x.name) l.names (map plain_service (take l.place l.services))
