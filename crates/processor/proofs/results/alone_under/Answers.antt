use Rattle.std.proofs.Common.{sym, ◌∙◌}
use Rattle.schema.specs.PlainKind.{kind_of}
use Rattle.schema.specs.SchemaOf.{schema_of}
use Rattle.thrift_value.specs.TreeOf.{tree_of}
use Rattle.processor.proofs.GoingBack.{small_where_it_may}
use Rattle.processor.proofs.results.alone_under.Goals as goal

pub returns-then-may_go_back-clause-sizes : goal.returns-then-may_go_back-clause-sizes
returns-then-may_go_back-clause-sizes c =
    small_where_it_may (schema_of c.args.schema.now).structs (kind_of c.args.kind.now) (tree_of c.args.value.now) (sym c.may_go_back.ensures ∙ c.if-may_go_back.true)
