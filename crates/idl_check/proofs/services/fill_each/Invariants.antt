use Rattle.std.proofs.Common.{◌≡◌, length}
use Rattle.idl_include.specs.Program.{Program}
use Rattle.schema.specs.SchemaOf.{plain_service}
use Rattle.idl_names.specs.FiledIn.{filed_by, service_declared}
use Rattle.idl_check.specs.Filling.{IsServiceFilled}
use Rattle.idl_check.specs.Taking.{AreWorths}
use Rattle.idl_check.proofs.Zips.{AreFilledBelow}
use Rattle.idl_check.proofs.services.fill_each.Given as goal

-- those so far
abbrev pub invariant-loop-place : goal.invariant-loop-place
invariant-loop-place l =
    (length l.services.items ≡ length l.given)
    × ((program : Program) → AreWorths program l.fn.worths
    → AreFilledBelow (IsServiceFilled program) (filed_by service_declared) plain_service l.given l.place l.fn.services.items l.services.items × AreWorths program l.worths)
