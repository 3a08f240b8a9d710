use Rattle.std.proofs.Common.{Some, None}
use Rattle.idl_const.proofs.FieldPlaces.{got}
use Rattle.const_evaluator.specs.ProgramGrounds.{ground_program}
use Rattle.const_evaluator.proofs.InTables.{value_there}
use Rattle.const_evaluator.proofs.ground.ProgramGroundGround.given.Goals as goal

pub returns-in-Some : goal.returns-in-Some
returns-in-Some c =
    value_there (ground_program c.args.self.now) c.args.self.now.values.now c.args.which (Some c.in-Some.value.now) c.requires.values
    (got c.args.self.now.values.now c.args.which (Some c.in-Some.value) c.in-Some.ensures.lookup)

pub returns-in-None : goal.returns-in-None
returns-in-None c =
    value_there (ground_program c.args.self.now) c.args.self.now.values.now c.args.which None c.requires.values
    (got c.args.self.now.values.now c.args.which None c.in-None.ensures.lookup)
