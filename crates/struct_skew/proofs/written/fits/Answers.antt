use Rattle.thrift_value.specs.TreeOf.{tree_of}
use Rattle.schema.specs.PlainKind.{kind_of}
use Rattle.schema.specs.SchemaOf.{schema_of}
use Rattle.struct_skew.specs.TidyTests.{has_small_sizes}
use Rattle.struct_skew.specs.WrittenTests.{is_written_as}
use Rattle.struct_skew.proofs.Writing.{first_decides, last_fails}
use Rattle.struct_skew.proofs.written.fits.Goals as goal

pub returns : goal.returns
returns c =
    let value = tree_of c.args.value.now in
    first_decides (is_written_as (schema_of c.args.schema.now).structs (kind_of c.args.kind.now) value) (has_small_sizes value) c.is_written_as.result c.is_written_as.ensures c.if-not-has_small_sizes.ensures

pub returns-then-not-has_small_sizes : goal.returns-then-not-has_small_sizes
returns-then-not-has_small_sizes c =
    let value = tree_of c.args.value.now in
    last_fails (is_written_as (schema_of c.args.schema.now).structs (kind_of c.args.kind.now) value) (has_small_sizes value) c.if-not-has_small_sizes.ensures
