use Rattle.std.proofs.Common.{◌≡◌, length}
use Rattle.idl_include.specs.Program.{Program}
use Rattle.schema.specs.SchemaOf.{plain_function}
use Rattle.idl_include.specs.DeclaredIn.{function_in}
use Rattle.idl_check.specs.Filling.{IsFunctionFilled}
use Rattle.idl_check.specs.Taking.{AreWorths}
use Rattle.idl_check.proofs.Zips.{AreFilledBelow}
use Rattle.idl_check.proofs.services.fill_functions.Given as goal

-- those so far
abbrev pub invariant-loop-place : goal.invariant-loop-place
invariant-loop-place l =
    (length l.functions.items ≡ length l.given)
    × ((program : Program) → AreWorths program l.fn.worths
    → AreFilledBelow (IsFunctionFilled program l.file) function_in plain_function l.given l.place l.fn.functions.items l.functions.items × AreWorths program l.worths)
