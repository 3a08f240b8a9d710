-- What an office in memory serves.
use Rattle.schema.specs.SchemaOf.{schema_of}
use Rattle.call_model.specs.Offices.{PlainOffice}
use Rattle.processor.specs.declared.office.Office.{Office}
use Rattle.processor.specs.Bound.{bound_names, default_bound}

-- an office
abbrev pub plain_office : Office → PlainOffice
plain_office o =
    record { schema = schema_of o.schema; bindings = bound_names o.bindings; default_slot = default_bound o.bindings; protocol = o.protocol; max_frame = o.max_frame }
