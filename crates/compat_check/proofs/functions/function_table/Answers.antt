use Rattle.std.proofs.Common.{rules}
use Rattle.schema.specs.SchemaOf.{schema_of}
use Rattle.compat_check.proofs.Tables.{has_functions}
use Rattle.compat_check.proofs.functions.function_table.Goals as goal

pub returns : goal.returns
returns c =
    has_functions (schema_of c.args.schema.now) c.args.service c.in_ok-functions.functions.items c.as_slice.result.now c.in_ok-places.places (search rules)
    c.in_ok-functions.ensures c.in_ok-places.ensures
