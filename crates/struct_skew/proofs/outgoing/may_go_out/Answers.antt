use Rattle.std.proofs.Common.{◌∙◌}
use Rattle.schema.specs.PlainKind.{kind_of}
use Rattle.schema.specs.SchemaOf.{schema_of}
use Rattle.thrift_value.specs.TreeOf.{tree_of}
use Rattle.struct_skew.proofs.OneTest.{one_test}
use Rattle.struct_skew.proofs.outgoing.may_go_out.Goals as goal

pub returns : goal.returns
returns c = c.goes_out.ensures ∙ one_test (schema_of c.args.schema.now).structs c.args.levels (kind_of c.args.kind.now) (tree_of c.args.value.now)
