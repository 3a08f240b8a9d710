use Rattle.std.proofs.Common.{◌≡◌, map, take}
use Rattle.idl_names.specs.FiledIn.{filed_enums}
use Rattle.schema.specs.SchemaOf.{plain_enum}
use Rattle.check_model.specs.SchemaParts.{enum_made}
use Rattle.schema_bare.proofs.enums.all_enums.Given as goal

abbrev pub invariant-loop-one : goal.invariant-loop-one
invariant-loop-one l =
    map plain_enum l.made.items ≡ map enum_made (filed_enums (take l.one-index l.given))
