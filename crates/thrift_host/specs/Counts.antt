-- What the counts of faults tell of a status.
use Rattle.std.specs.Prelude.{◌≡◌, ◌≢◌, ⊤, ℕ, Option, Some}
use Rattle.streams.specs.Cause.{Rose}
use Rattle.command_line.specs.Words.{PlainCommand, serves}
use Rattle.thrift_host.specs.declared.status.Status.{Status}
use Rattle.thrift_host.specs.declared.status.Status.TheVariants.{FileFault, ReadFault, WriteFault, NetFault, JournalFault, NoMemory}
use Rattle.thrift_host.specs.Surroundings.{Surroundings}

-- serving ends with this, and went on to its end before: links are handed back, and the last lines of the journal and the summary are written
abbrev pub GoesOn : Status → Type 0
GoesOn NetFault = ⊤
GoesOn JournalFault = ⊤
GoesOn NoMemory = ⊤
GoesOn _ = ⊥

-- what may fail on the way there
abbrev pub MayFollow : Status → Type 0
MayFollow WriteFault = ⊤
MayFollow NetFault = ⊤
MayFollow JournalFault = ⊤
MayFollow _ = ⊥

-- A status rules out each fault that it doesn't tell of, but for those that may follow where serving goes on.
abbrev pub RulesOut : Option PlainCommand → (status fault : Status) → Type 0
RulesOut (Some (serves says port accept journal)) status fault = (status ≢ fault) × (GoesOn status → MayFollow fault → ⊥)
RulesOut _ status fault = status ≢ fault

-- A status that tells of a fault comes only where the fault's count rose, and the count of one that it rules out is as before.
pub record TellsCount (command : Option PlainCommand) (status fault : Status) (before now : ℕ) : Type 0 where
  pub rose : status ≡ fault → Rose before now
  pub kept : RulesOut command status fault → now ≡ before

module _ (before after : Surroundings) where
  -- what a status tells of each count
  pub record CountsTell (command : Option PlainCommand) (status : Status) : Type 0 where
    pub files : TellsCount command status FileFault before.files.faults after.files.faults
    pub input : TellsCount command status ReadFault before.input.faults after.input.faults
    pub output : TellsCount command status WriteFault before.output.faults after.output.faults
    pub binder : TellsCount command status NetFault before.binder.faults after.binder.faults
    pub sinks : TellsCount command status JournalFault before.files.sink_faults after.files.sink_faults

  -- None of these counts rose. One that stands at its end tells nothing.
  pub record NoneRose : Type 0 where
    pub files : Rose before.files.faults after.files.faults → ⊥
    pub input : Rose before.input.faults after.input.faults → ⊥
    pub output : Rose before.output.faults after.output.faults → ⊥
    pub binder : Rose before.binder.faults after.binder.faults → ⊥
    pub sinks : Rose before.files.sink_faults after.files.sink_faults → ⊥
