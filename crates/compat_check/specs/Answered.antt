-- What is answered of a change.
use Rattle.std.specs.Prelude.{◌≡◌, pos, [], ◌⊎◌, Option, Some, None}
use Rattle.compat_model.specs.declared.break_kind.BreakKind.TheVariants.{NoMemory}
use Rattle.compat_model.specs.Breaks.{PlainBreak, IsCompatible, IsFirstBreak}
use Rattle.compat_model.specs.StructPairs.{SchemaChange}
use Rattle.compat_check.specs.declared.answering.Break.{Break}

-- the first break of a change, or none where it is compatible
abbrev pub IsFirstOrNone : SchemaChange → Option PlainBreak → Type 0
IsFirstOrNone ch None = IsCompatible ch
IsFirstOrNone ch (Some b) = IsFirstBreak ch b

-- a break in memory, as plain data
abbrev pub plain_break : Break → PlainBreak
plain_break b = record { name = b.name; id = b.id; kind = b.kind }

-- want of memory
abbrev pub no_memory_break : PlainBreak
no_memory_break = record { name = []; id = pos 0; kind = NoMemory }

-- it is this break, or there was no memory for its name
abbrev pub IsOwnBreak : PlainBreak → Break → Type 0
IsOwnBreak found b = (plain_break b ≡ found) ⊎ (plain_break b ≡ no_memory_break)

-- it is the first break of a change, or there was no memory
abbrev pub IsBreakOrNoMemory : SchemaChange → Break → Type 0
IsBreakOrNoMemory ch b = IsFirstBreak ch (plain_break b) ⊎ (plain_break b ≡ no_memory_break)
