use Rattle.thrift_value.specs.TreeOf.{tree_of}
use Rattle.call_rules.proofs.Plainness.{answered_plainly}
use Rattle.calculator.specs.Kept.{calculator_service, calculator_is_kept}
use Rattle.calculator.proofs.handler.CalculatorHandler.answer.Goals as goal

pub returns-clause-plain : goal.returns-clause-plain
returns-clause-plain c =
    answered_plainly (calculator_service c.args.self.now) c.args.method.now (tree_of c.args.args.now) c.respond.result (calculator_is_kept c.args.self.now) c.respond.ensures.answered
