use Rattle.std.proofs.Common.{sym, ◌∙◌}
use Rattle.schema.specs.SchemaOf.{schema_of}
use Rattle.thrift_value.specs.TreeOf.{tree_of}
use Rattle.client_desk.proofs.GoingOut.{goes_out}
use Rattle.client_desk.proofs.client.Client.ask_function.Goals as goal

pub ask_checked-requires-clause-args : goal.ask_checked-requires-clause-args
ask_checked-requires-clause-args c =
    goes_out (schema_of c.args.self.now.schema) c.args.function.now.args (tree_of c.args.args.now) (sym c.in_ok-may.ensures ∙ c.if-may.true)
