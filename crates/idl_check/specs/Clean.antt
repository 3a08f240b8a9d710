-- What a program's schema is sound by: which passes find nothing.
use Rattle.idl_include.specs.Program.{Program}
use Rattle.check_model.specs.Passes.{dotted_name, duplicate_name, duplicate_id, service_cycle, duplicate_function, not_exception}
use Rattle.check_model.specs.FirstFlaw.{FindsNothing}

-- no name that a program gives has a dot or is given twice, nor is an id or a function; no service extends itself; what is thrown are exceptions
pub record IsClean (program : Program) : Type 0 where
  pub dots : FindsNothing program dotted_name
  pub names : FindsNothing program duplicate_name
  pub ids : FindsNothing program duplicate_id
  pub services : FindsNothing program service_cycle
  pub functions : FindsNothing program duplicate_function
  pub exceptions : FindsNothing program not_exception
