-- What is promised of a check of an IDL.
use Rattle.std.specs.Prelude.{◌≡◌, ℕ, List, Option}
use Rattle.streams.specs.Content.{told_more}
use Rattle.streams.specs.Taken.{IsTakenInPart}
use Rattle.streams.specs.Files.{File}
use Rattle.idl_token.specs.declared.Place.{Place}
use Rattle.recorded_runs.specs.Recorded.{Streams}
use Rattle.thrift_host.specs.declared.status.Status.{Status}
use Rattle.thrift_host.specs.declared.status.Status.TheVariants.{Done, IdlRefused, FileFault, WriteFault, NoMemory}
use Rattle.schema.specs.PlainSchema.{PlainSchema}
use Rattle.schema.specs.SchemaText.{schema_text}
use Rattle.idl_check.specs.declared.kinds.IdlFaultKind.{IdlFaultKind}
use Rattle.idl_check.specs.Lines.{idl_refusal_text}
use Rattle.idl_check.specs.Verdicts.{accepted, refused, IsIdlVerdict, IsUnreadIdl}
use Rattle.thrift_host.specs.Errors.{Errors, IsSaid, IsLineSaid}

-- nothing was read, and nothing written
abbrev pub AreUntouched : Streams → Type 0
AreUntouched s = (s.left ≡ s.left_before) × (s.taken ≡ s.taken_before)

-- the IDL is accepted, nothing was read, and the text of its schema was written
pub record IsPrinted (files : Option (List File)) (idl : List ℕ) (s : Streams) : Type 0 where
  pub schema : PlainSchema
  pub verdict : IsIdlVerdict files idl (accepted schema)
  pub unread : s.left ≡ s.left_before
  pub written : s.taken ≡ told_more s.taken_before (schema_text schema)

-- the same of a beginning of the text
pub record IsPrintedInPart (files : Option (List File)) (idl : List ℕ) (s : Streams) : Type 0 where
  pub schema : PlainSchema
  pub verdict : IsIdlVerdict files idl (accepted schema)
  pub unread : s.left ≡ s.left_before
  pub written : IsTakenInPart s.taken_before s.taken (schema_text schema)

-- the IDL is refused for a fault of which this holds
abbrev pub IsRefusedWith : Option (List File) → List ℕ → (List ℕ → Place → IdlFaultKind → Type 0) → Type 0
IsRefusedWith files idl Holds =
    (file : List ℕ) × (at : Place) × (kind : IdlFaultKind) × IsIdlVerdict files idl (refused file at kind) × Holds file at kind

-- What a status says of a check: it reads no input, and writes nothing but with Done and WriteFault.
abbrev pub MeansCheck : Option (List File) → List ℕ → Status → Streams → Type 0
MeansCheck files idl Done s = IsPrinted files idl s
MeansCheck files idl IdlRefused s = IsRefusedWith files idl (λ _ _ _. AreUntouched s)
MeansCheck files idl FileFault s = IsUnreadIdl files idl × AreUntouched s
MeansCheck files idl WriteFault s = IsPrintedInPart files idl s
MeansCheck files idl NoMemory s = AreUntouched s
MeansCheck files idl _ s = ⊥

-- The line of its status was added to the errors: a refused IDL's has the file, the place and the kind.
abbrev pub SaysCheck : Option (List File) → List ℕ → Status → Errors → Type 0
SaysCheck files idl IdlRefused e = IsRefusedWith files idl (λ file at kind. IsSaid e (idl_refusal_text file at kind))
SaysCheck files idl status e = IsLineSaid status e
