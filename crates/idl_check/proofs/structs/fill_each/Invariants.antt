use Rattle.std.proofs.Common.{◌≡◌, length}
use Rattle.idl_include.specs.Program.{Program}
use Rattle.schema.specs.SchemaOf.{plain_struct}
use Rattle.idl_check.specs.Sites.{sited_in}
use Rattle.idl_check.specs.Filling.{IsStructFilled}
use Rattle.idl_check.specs.Taking.{AreWorths}
use Rattle.idl_check.proofs.Zips.{AreFilledBelow}
use Rattle.idl_check.proofs.structs.fill_each.Given as goal

-- those so far
abbrev pub invariant-loop-place : goal.invariant-loop-place
invariant-loop-place l =
    (length l.structs.items ≡ length l.sites)
    × ((program : Program) → AreWorths program l.fn.worths
    → AreFilledBelow (IsStructFilled program) sited_in plain_struct l.sites l.place l.fn.structs.items l.structs.items × AreWorths program l.worths)
