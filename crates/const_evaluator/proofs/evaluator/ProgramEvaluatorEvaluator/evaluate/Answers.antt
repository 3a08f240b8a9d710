use Rattle.schema.specs.PlainKind.{kind_of}
use Rattle.idl_include.specs.SourcesOf.{program_in}
use Rattle.idl_names.specs.SpotsIn.{filed_value}
use Rattle.const_evaluator.proofs.GivenWorths.{worth_of_given}
use Rattle.const_evaluator.proofs.evaluator.ProgramEvaluatorEvaluator.evaluate.Goals as goal

pub returns-clause-worth : goal.returns-clause-worth
returns-clause-worth c = λ program right there.
    worth_of_given c.args.self.now.ground.now program (program_in c.args.self.now.types.now.names.now) right.here right.names c.requires.ground c.args.which
    (filed_value c.args.given.now) (kind_of c.in-Ok.kind) there c.in-Ok.ensures c.evaluate_given.result c.evaluate_given.ensures.worth
