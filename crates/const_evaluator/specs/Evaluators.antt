-- Who evaluates the values of a program.
use Rattle.std.specs.Prelude.{◌≡◌}
use Rattle.idl_include.specs.Program.{Program}
use Rattle.idl_include.specs.SourcesOf.{program_in}
use Rattle.idl_types.specs.Known.{AreAliasTypes}
use Rattle.idl_const.specs.Idle.{NoneEntered}
use Rattle.const_evaluator.specs.ProgramGrounds.{ground_program, IsProgramGround}
use Rattle.const_evaluator.specs.declared.evaluator.ProgramEvaluator.{ProgramEvaluator}

-- its tables are right, and no value is under evaluation
pub record CanEvaluate (e : ProgramEvaluator) : Type 0 where
  pub ground : IsProgramGround e.ground.now
  pub aliases : AreAliasTypes (program_in e.types.now.names.now) e.types.now.aliases.now
  pub idle : NoneEntered (ground_program e.ground.now) e.work

-- its tables are those of a program
pub record IsEvaluatorOf (e : ProgramEvaluator) (program : Program) : Type 0 where
  pub here : ground_program e.ground.now ≡ program
  pub names : program_in e.types.now.names.now ≡ program
