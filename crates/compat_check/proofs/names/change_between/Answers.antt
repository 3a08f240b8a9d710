use Rattle.std.proofs.Common.{List, map, ap, ◌∙◌}
use Rattle.std.specs.Prelude.{◌==◌, ◌&&◌}
use Rattle.std.specs.List.{position_from}
use Rattle.std.specs.Str.{bytes_eq}
use Rattle.schema.specs.declared.types.ServiceDesc.{ServiceDesc}
use Rattle.schema.specs.PlainSchema.{PlainService}
use Rattle.schema.specs.SchemaOf.{plain_service}
use Rattle.compat_check.proofs.names.change_between.Goals as goal

pub returns-clause-services : goal.returns-clause-services
returns-clause-services c = λ name.
    c.in_ok-services.ensures name
    ∙ ap (λ (vs : List ServiceDesc). position_from (λ (v : PlainService). v.file == 0 && bytes_eq v.name name) 0 (map plain_service vs)) c.as_slice-2.ensures
