use Rattle.std.proofs.Common.{map, take}
use Rattle.std.specs.List.{AllZip}
use Rattle.idl_include.specs.SourcesOf.{program_in}
use Rattle.schema.specs.SchemaOf.{plain_field}
use Rattle.check_model.specs.SchemaParts.{NoDefault, IsFieldOf}
use Rattle.schema_bare.specs.ById.{numbered_in}
use Rattle.schema_bare.proofs.fields.fields_made.Given as goal

abbrev pub invariant-loop-by_id : goal.invariant-loop-by_id
invariant-loop-by_id l =
    AllZip (IsFieldOf NoDefault (program_in l.tables.names.now) l.file l.list) (map numbered_in (take l.by_id-index l.sorted)) (map plain_field l.made.items)
