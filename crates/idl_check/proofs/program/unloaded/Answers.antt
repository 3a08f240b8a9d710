use Rattle.std.proofs.Common.{sym}
use Rattle.idl_include.specs.Loads.{flaw_kind}
use Rattle.idl_check.proofs.Telling.{loading_refused}
use Rattle.idl_check.proofs.program.unloaded.Goals as goal

pub returns-in-Some-clause-why : goal.returns-in-Some-clause-why
returns-in-Some-clause-why c = λ come flaw.
    loading_refused come c.args.fault.file c.args.fault.at (flaw_kind c.args.fault.kind) c.in-Some.kind (sym c.in-Some.ensures) flaw
