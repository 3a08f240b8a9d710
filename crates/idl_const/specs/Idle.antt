-- No evaluation is going on.
use Rattle.std.specs.Prelude.{◌≡◌}
use Rattle.idl_include.specs.Program.{Program}
use Rattle.check_model.specs.Evaluation.{all_free}
use Rattle.idl_const.specs.declared.progress.Progress.{Progress}

-- no given value of a program is under evaluation
abbrev pub NoneEntered : Program → Progress → Type 0
NoneEntered program work = work.free.items ≡ all_free program
