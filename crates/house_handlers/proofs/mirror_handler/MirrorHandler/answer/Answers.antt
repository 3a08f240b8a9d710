use Rattle.thrift_value.specs.TreeOf.{tree_of}
use Rattle.call_rules.proofs.Plainness.{answered_plainly}
use Rattle.house_handlers.specs.Kept.{mirror_service, mirror_is_kept}
use Rattle.house_handlers.proofs.mirror_handler.MirrorHandler.answer.Goals as goal

pub returns-clause-plain : goal.returns-clause-plain
returns-clause-plain c =
    answered_plainly (mirror_service c.args.self.now) c.args.method.now (tree_of c.args.args.now) c.respond.result (mirror_is_kept c.args.self.now) c.respond.ensures.answered
