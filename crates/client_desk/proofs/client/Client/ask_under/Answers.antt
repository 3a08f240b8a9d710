use Rattle.schema.specs.SchemaOf.{plain_function}
use Rattle.thrift_value.specs.TreeOf.{tree_of}
use Rattle.client_desk.proofs.Sizes.{too_long}
use Rattle.client_desk.proofs.client.Client.ask_under.Goals as goal

pub returns-then-name-self : goal.returns-then-name-self
returns-then-name-self c =
    too_long c.args.self.now.max_frame c.args.self.now.protocol c.args.name.now (plain_function c.args.function.now) (tree_of c.args.args.now) c.args.id c.if-name-self.true
