use Rattle.std.proofs.Common.{map, take}
use Rattle.std.specs.List.{AllZip}
use Rattle.idl_include.specs.SourcesOf.{program_in}
use Rattle.idl_names.specs.FiledIn.{filed_by, typedef_declared}
use Rattle.schema.specs.SchemaOf.{plain_alias}
use Rattle.check_model.specs.SchemaParts.{IsAliasOf}
use Rattle.schema_bare.proofs.typedefs.all_aliases.Given as goal

abbrev pub invariant-loop-one : goal.invariant-loop-one
invariant-loop-one l =
    AllZip (IsAliasOf (program_in l.tables.names.now)) (map (filed_by typedef_declared) (take l.one-index l.given)) (map plain_alias l.made.items)
