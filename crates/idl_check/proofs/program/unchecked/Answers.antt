use Rattle.std.proofs.Common.{sym}
use Rattle.check_passes.specs.Faults.{flaw_told}
use Rattle.idl_check.proofs.Telling.{fault_within, stands_at, check_refused}
use Rattle.idl_check.proofs.program.unchecked.Goals as goal

pub bounds-files-fault : goal.bounds-files-fault
bounds-files-fault c =
    fault_within _ c.args.files.now c.args.fault.file c.args.fault.at (flaw_told c.args.fault.kind) c.in-Some.kind (sym c.in-Some.ensures) c.requires

pub returns-in-Some-clause-why : goal.returns-in-Some-clause-why
returns-in-Some-clause-why c =
    let inside = fault_within _ c.args.files.now c.args.fault.file c.args.fault.at (flaw_told c.args.fault.kind) c.in-Some.kind (sym c.in-Some.ensures) c.requires in
    check_refused _ c.args.files.now c.args.fault.file c.args.fault.at (flaw_told c.args.fault.kind) c.in-Some.kind c.index-files-fault.result c.refused_in.result
    (sym c.in-Some.ensures) c.requires (stands_at c.args.files.now c.args.fault.file c.index-files-fault.result inside c.index-files-fault.is) c.refused_in.ensures
