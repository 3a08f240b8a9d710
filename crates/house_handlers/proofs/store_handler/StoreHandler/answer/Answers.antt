use Rattle.thrift_value.specs.TreeOf.{tree_of}
use Rattle.call_rules.proofs.Plainness.{answered_plainly}
use Rattle.house_handlers.specs.Kept.{store_service, store_is_kept}
use Rattle.house_handlers.proofs.store_handler.StoreHandler.answer.Goals as goal

pub returns-clause-plain : goal.returns-clause-plain
returns-clause-plain c =
    answered_plainly (store_service c.args.self.now) c.args.method.now (tree_of c.args.args.now) c.respond.result (store_is_kept c.args.self.now) c.respond.ensures.answered
