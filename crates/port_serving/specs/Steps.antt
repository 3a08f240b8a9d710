-- Steps on the way to a place that was served. No part of the promise: no public clause cites them.
use Rattle.std.specs.Prelude.{◌≡◌, ◌⊎◌, ℕ, Bool, false, List, [], Option, Some}
use Rattle.streams.specs.Content.{told_more}
use Rattle.streams.specs.Taken.{IsTakenInPart}
use Rattle.streams.specs.Files.{File}
use Rattle.streams.specs.Making.{told_with_file, IsThere}
use Rattle.outside.specs.LinksState.{Listening, LinksState}
use Rattle.outside.specs.Binding.{PastLinks, HandedOut, StartListening, one_more_out, there_and_back}
use Rattle.outside.specs.declared.binder.BindFail.{BindFail}
use Rattle.outside.specs.declared.binder.BindFail.TheVariants as binds
use Rattle.run_report.specs.declared.fault.ReportFault.{ReportFault}
use Rattle.run_report.specs.declared.fault.ReportFault.TheVariants as reports
use Rattle.call_rules.specs.Entries.{CallEntry}
use Rattle.run_report.specs.Summary.{listening_line}
use Rattle.port_serving.specs.declared.fault.PortFault.{PortFault}
use Rattle.port_serving.specs.declared.fault.PortFault.TheVariants as faults
use Rattle.port_serving.specs.FileJournals.{HoldsInFile}
use Rattle.port_serving.specs.Places.{HasLinksBack}

-- the fault where it can't be listened
abbrev pub fault_of_binding : BindFail → PortFault
fault_of_binding binds.Failed = faults.NetFault
fault_of_binding binds.NoMemory = faults.NoMemory

-- the fault where the summary isn't written
abbrev pub fault_of_summary : ReportFault → PortFault
fault_of_summary reports.Failed = faults.WriteFault
fault_of_summary reports.NoMemory = faults.NoMemory

-- A journal was begun: it has no entries, holds nothing, is whole, and has counted no fault; the files are as they were.
pub record BeginsJournal (before now : Option (List File)) (entries : List CallEntry) (held : List ℕ) (failed : Bool) (count : ℕ) : Type 0 where
  pub files : now ≡ before
  pub none : entries ≡ []
  pub empty : held ≡ []
  pub whole : failed ≡ false
  pub faultless : count ≡ 0

-- A journal was opened over a new file of this name: it has no entries, holds nothing, is whole, and has counted no fault.
pub record OpensJournal (before now : Option (List File)) (name : List ℕ) (entries : List CallEntry) (held : List ℕ) (failed : Bool) (count : ℕ) : Type 0 where
  pub files : now ≡ told_with_file before name (Some [])
  pub there : IsThere now name
  pub none : entries ≡ []
  pub empty : held ≡ []
  pub whole : failed ≡ false
  pub faultless : count ≡ 0

-- what is known of the files where none was opened
abbrev pub EndsOpening : PortFault → (before now : Option (List File)) → List ℕ → Type 0
EndsOpening faults.FileFault before now name = now ≡ before
EndsOpening faults.NoMemory before now name = HoldsInFile before now name []
EndsOpening _ before now name = ⊥

-- what a binder and an output tell: the links that came back, how many links and pipes were handed out and came back, and what was written
pub record PortState : Type 0 where
  pub past : Option (List PastLinks)
  pub handed : HandedOut
  pub taken : Option (List ℕ)

-- links listen, the line that tells so was written, and none came back
pub record StartsListening (before now : PortState) (listening : Listening) (links : LinksState) : Type 0 where
  pub starts : StartListening before.past listening links
  pub same : now.past ≡ before.past
  pub out : now.handed ≡ one_more_out before.handed
  pub line : now.taken ≡ told_more before.taken (listening_line listening.port)

-- nothing is listened to, and nothing was written
pub record IsSilent (before now : PortState) : Type 0 where
  pub past : now.past ≡ before.past
  pub handed : now.handed ≡ before.handed
  pub taken : now.taken ≡ before.taken

-- the links came back, on which nothing had happened, and a beginning of the line was written
pub record IsLineBroken (before now : PortState) (listening : Listening) : Type 0 where
  pub back : HasLinksBack before.past now.past listening [] false
  pub once : now.handed ≡ there_and_back before.handed
  pub begun : IsTakenInPart before.taken now.taken (listening_line listening.port)

-- what is known of the binder and the output where nothing is listened to
abbrev pub EndsListening : PortFault → (before now : PortState) → Listening → Type 0
EndsListening faults.NetFault before now listening = IsSilent before now
EndsListening faults.WriteFault before now listening = IsLineBroken before now listening
EndsListening faults.NoMemory before now listening = IsSilent before now ⊎ IsLineBroken before now listening
EndsListening _ before now listening = ⊥
