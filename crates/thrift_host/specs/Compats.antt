-- What is promised of a comparison of an IDL with the one that comes after it.
use Rattle.std.specs.Prelude.{◌≡◌, ℕ, ◌⊎◌, List, Option, codes}
use Rattle.streams.specs.Content.{told_more}
use Rattle.streams.specs.Taken.{IsTakenInPart}
use Rattle.streams.specs.Files.{File}
use Rattle.text_out.specs.Line.{line_of}
use Rattle.schema.specs.PlainSchema.{PlainSchema}
use Rattle.idl_check.specs.Lines.{idl_refusal_text}
use Rattle.idl_check.specs.Verdicts.{accepted, IsIdlVerdict, IsUnreadIdl}
use Rattle.compat_model.specs.Breaks.{PlainBreak, IsCompatible, IsFirstBreak}
use Rattle.compat_model.specs.StructPairs.{SchemaChange}
use Rattle.compat_check.specs.Lines.{break_text}
use Rattle.recorded_runs.specs.Recorded.{Streams}
use Rattle.thrift_host.specs.declared.status.Status.{Status}
use Rattle.thrift_host.specs.declared.status.Status.TheVariants.{Done, IdlRefused, FileFault, WriteFault, NoMemory, Incompatible}
use Rattle.thrift_host.specs.Checks.{AreUntouched, IsRefusedWith}
use Rattle.thrift_host.specs.Errors.{Errors, IsSaid, IsLineSaid}

-- the line of a compatible change
abbrev pub compatible_text : List ℕ
compatible_text = line_of (codes "compatible")

-- the line that tells what a change comes to, by its definition
abbrev pub TellsChange : SchemaChange → List ℕ → Type 0
TellsChange ch text = (IsCompatible ch × (text ≡ compatible_text)) ⊎ ((b : PlainBreak) × IsFirstBreak ch b × (text ≡ break_text b))

-- a change from the schema of one IDL to that of another
abbrev pub IsChangeOf : Option (List File) → (old new : List ℕ) → SchemaChange → Type 0
IsChangeOf files old new ch = IsIdlVerdict files old (accepted ch.old) × IsIdlVerdict files new (accepted ch.new)

-- nothing was read, and this was written
abbrev pub IsLineWritten : List ℕ → Streams → Type 0
IsLineWritten text s = (s.left ≡ s.left_before) × (s.taken ≡ told_more s.taken_before text)

-- the same of a beginning of it
abbrev pub IsLineWrittenInPart : List ℕ → Streams → Type 0
IsLineWrittenInPart text s = (s.left ≡ s.left_before) × IsTakenInPart s.taken_before s.taken text

-- this holds of the old IDL, or the old one is accepted and this holds of the new one
abbrev pub OfFirst : Option (List File) → (old new : List ℕ) → (List ℕ → Type 0) → Type 0
OfFirst files old new Holds = Holds old ⊎ ((schema : PlainSchema) × IsIdlVerdict files old (accepted schema) × Holds new)

-- What a status says of a comparison: it reads no input, and writes nothing but with Done, Incompatible and WriteFault.
abbrev pub MeansCompat : Option (List File) → (old new : List ℕ) → Status → Streams → Type 0
MeansCompat files old new Done s = (ch : SchemaChange) × IsChangeOf files old new ch × IsCompatible ch × IsLineWritten compatible_text s
MeansCompat files old new Incompatible s =
    (ch : SchemaChange) × IsChangeOf files old new ch × ((b : PlainBreak) × IsFirstBreak ch b × IsLineWritten (break_text b) s)
MeansCompat files old new WriteFault s =
    (ch : SchemaChange) × IsChangeOf files old new ch × ((text : List ℕ) × TellsChange ch text × IsLineWrittenInPart text s)
MeansCompat files old new IdlRefused s = OfFirst files old new (λ idl. IsRefusedWith files idl (λ _ _ _. AreUntouched s))
MeansCompat files old new FileFault s = OfFirst files old new (IsUnreadIdl files) × AreUntouched s
MeansCompat files old new NoMemory s = AreUntouched s
MeansCompat files old new _ s = ⊥

-- The line of its status was added to the errors: a refused IDL's has the file, the place and the kind.
abbrev pub SaysCompat : Option (List File) → (old new : List ℕ) → Status → Errors → Type 0
SaysCompat files old new IdlRefused e = OfFirst files old new (λ idl. IsRefusedWith files idl (λ file at kind. IsSaid e (idl_refusal_text file at kind)))
SaysCompat files old new status e = IsLineSaid status e
