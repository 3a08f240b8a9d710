-- What the answers say of the verdict. A file fault and want of memory are none.
use Rattle.std.specs.Prelude.{◌≡◌, ⊤, ℕ, Bool, true, false, List, Result, Ok, Err}
use Rattle.idl_token.specs.declared.Place.{Place}
use Rattle.schema.specs.declared.types.Schema.{Schema}
use Rattle.schema.specs.SchemaOf.{schema_of}
use Rattle.schema.specs.Sound.{IsSound}
use Rattle.idl_check.specs.declared.refusal.NoSchema.{NoSchema}
use Rattle.idl_check.specs.declared.refusal.NoSchema.TheVariants.{Refused, FileFault, NoMemory}
use Rattle.idl_check.specs.declared.kinds.IdlFaultKind.{IdlFaultKind}
use Rattle.idl_check.specs.Verdicts.{IdlVerdict, accepted, refused}

-- why there is no schema: this holds of the verdict, or that of a file fault
abbrev pub TellsWhy : (IdlVerdict → Type 0) → Type 0 → NoSchema → Type 0
TellsWhy Verdict Unread (Refused r) = Verdict (refused r.file r.at r.kind)
TellsWhy Verdict Unread FileFault = Unread
TellsWhy Verdict Unread NoMemory = ⊤

-- What a schema, which is sound, or a reason for none says.
abbrev pub TellsSchema : (IdlVerdict → Type 0) → Type 0 → Result Schema NoSchema → Type 0
TellsSchema Verdict Unread (Ok schema) = Verdict (accepted (schema_of schema)) × IsSound (schema_of schema)
TellsSchema Verdict Unread (Err reason) = TellsWhy Verdict Unread reason

-- a file couldn't be read
abbrev pub is_file_fault : NoSchema → Bool
is_file_fault FileFault = true
is_file_fault _ = false

-- a refusal at this place of a file, or want of memory
abbrev pub RefusesIn : List ℕ → Place → IdlFaultKind → NoSchema → Type 0
RefusesIn file at kind (Refused r) = (r.file ≡ file) × (r.at ≡ at) × (r.kind ≡ kind)
RefusesIn file at kind FileFault = ⊥
RefusesIn file at kind NoMemory = ⊤
