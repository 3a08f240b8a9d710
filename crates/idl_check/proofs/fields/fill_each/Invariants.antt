use Rattle.std.proofs.Common.{◌≡◌, length}
use Rattle.idl_include.specs.Program.{Program}
use Rattle.schema.specs.SchemaOf.{plain_field}
use Rattle.schema_bare.specs.ById.{numbered_in}
use Rattle.idl_check.specs.Filling.{IsFieldFilled}
use Rattle.idl_check.specs.Taking.{AreWorths}
use Rattle.idl_check.proofs.Zips.{AreFilledBelow}
use Rattle.idl_check.proofs.fields.fill_each.Given as goal

-- those so far
abbrev pub invariant-loop-place : goal.invariant-loop-place
invariant-loop-place l =
    (length l.fields.items ≡ length l.sorted)
    × ((program : Program) → AreWorths program l.fn.worths
    → AreFilledBelow (IsFieldFilled program l.file) numbered_in plain_field l.sorted l.place l.fn.fields.items l.fields.items × AreWorths program l.worths)
