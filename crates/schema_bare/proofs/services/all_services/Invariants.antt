use Rattle.std.proofs.Common.{◌≡◌, map, take}
use Rattle.idl_include.specs.SourcesOf.{program_in}
use Rattle.idl_names.specs.FiledIn.{filed_services}
use Rattle.schema.specs.SchemaOf.{plain_service}
use Rattle.check_model.specs.SchemaParts.{NoDefault, AreServicesOf}
use Rattle.schema_bare.proofs.Serving.{behind_services}
use Rattle.schema_bare.proofs.services.all_services.Given as goal

abbrev pub invariant-loop-one : goal.invariant-loop-one
invariant-loop-one l =
    record {
      counted : l.next ≡ behind_services l.first (filed_services (take l.one-index l.given));
      made : AreServicesOf NoDefault (program_in l.tables.names.now) l.first (filed_services (take l.one-index l.given)) (map plain_service l.made.items);
    }
