-- Steps of a comparison on the way to what it promises. No clause of `host` cites them.
use Rattle.std.specs.Prelude.{◌≡◌, ℕ, ◌⊎◌, Bool, true, false, List, Option}
use Rattle.streams.specs.Content.{told_more}
use Rattle.streams.specs.Taken.{IsTakenInPart}
use Rattle.compat_model.specs.declared.break_kind.BreakKind.{BreakKind}
use Rattle.compat_model.specs.declared.break_kind.BreakKind.TheVariants as breaks
use Rattle.compat_model.specs.Breaks.{PlainBreak, IsCompatible, IsFirstBreak}
use Rattle.compat_model.specs.StructPairs.{SchemaChange}
use Rattle.compat_check.specs.Lines.{break_text}
use Rattle.thrift_host.specs.declared.status.Status.{Status}
use Rattle.thrift_host.specs.declared.status.Status.TheVariants as status
use Rattle.thrift_host.specs.Errors.{Errors}
use Rattle.thrift_host.specs.Steps.{EndsAs}
use Rattle.thrift_host.specs.Compats.{compatible_text}

-- there was no memory
abbrev pub is_no_memory : BreakKind → Bool
is_no_memory breaks.NoMemory = true
is_no_memory _ = false

-- how it ends where an answer was to be written: with its status, with a write fault, or for want of memory
abbrev pub EndsTelling : Status → List ℕ → Status → Option (List ℕ) → Option (List ℕ) → Errors → Type 0
EndsTelling meant text ended before now e =
    (EndsAs meant ended e × (now ≡ told_more before text))
    ⊎ ((EndsAs status.WriteFault ended e × IsTakenInPart before now text) ⊎ (EndsAs status.NoMemory ended e × (now ≡ before)))

-- how it ends with a break that was found
abbrev pub EndsBroken : PlainBreak → Status → Option (List ℕ) → Option (List ℕ) → Errors → Type 0
EndsBroken b ended before now e =
    ((is_no_memory b.kind ≡ false) × EndsTelling status.Incompatible (break_text b) ended before now e) ⊎ (EndsAs status.NoMemory ended e × (now ≡ before))

-- how it ends with what a change comes to
abbrev pub EndsComparing : SchemaChange → Status → Option (List ℕ) → Option (List ℕ) → Errors → Type 0
EndsComparing ch ended before now e =
    (IsCompatible ch × EndsTelling status.Done compatible_text ended before now e)
    ⊎ (((b : PlainBreak) × IsFirstBreak ch b × EndsTelling status.Incompatible (break_text b) ended before now e) ⊎ (EndsAs status.NoMemory ended e × (now ≡ before)))
