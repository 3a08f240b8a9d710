use Rattle.std.proofs.Common.{map, take}
use Rattle.schema.specs.PlainSchema.{PlainStruct}
use Rattle.schema.specs.SchemaOf.{plain_struct}
use Rattle.compat_model.specs.NamedThings.{is_main_struct}
use Rattle.compat_check.proofs.Tables.{FindsFirst}
use Rattle.compat_check.proofs.names.struct_names.Given as goal

-- the ones so far
abbrev pub invariant-loop-place : goal.invariant-loop-place
invariant-loop-place l = FindsFirst is_main_struct (λ (x : PlainStruct). x.name) l.names (map plain_struct (take l.place l.structs))
