-- What is promised of serving connections at a port.
use Rattle.std.specs.Prelude.{◌≡◌, ◌⊎◌, ℕ, List, Option}
use Rattle.outside.specs.Binding.{PastLinks, HandedOut}
use Rattle.streams.specs.Files.{File}
use Rattle.call_rules.specs.Handling.{ServiceState}
use Rattle.call_model.specs.Offices.{PlainOffice}
use Rattle.call_model.specs.Desk.{desk_of}
use Rattle.recorded_runs.specs.Recorded.{Streams}
use Rattle.host_loop.specs.Served.{ServerSetting}
use Rattle.port_serving.specs.Places.{PortPlace, PlaceChange}
use Rattle.port_serving.specs.Answered.{OutputChange, HasServedAll, MeansPortFault}
use Rattle.port_serving.specs.declared.fault.PortFault.{PortFault}
use Rattle.port_serving.specs.declared.fault.PortFault.TheVariants as port_faults
use Rattle.thrift_host.specs.declared.status.Status.{Status}
use Rattle.thrift_host.specs.declared.status.Status.TheVariants.{Done, IdlRefused, BindRefused, FileFault, WriteFault, NetFault, JournalFault, NoMemory}
use Rattle.thrift_host.specs.Checks.{AreUntouched}
use Rattle.thrift_host.specs.Runs.{AskedRun, IsArranged, MeansUnarranged, arranged_office}

-- Serving that is asked for: as a run is, and where.
pub record AskedServing : Type 0 where
  pub run : AskedRun
  pub place : PortPlace

-- what a command did: to its input and its output, and to the files and the binder
pub record HostChange : Type 0 where
  pub streams : Streams
  pub place : PlaceChange

-- what it did to the files and the binder, by what each was before and is then
abbrev pub place_change : (files_before files : Option (List File)) (sink_faults_before sink_faults : ℕ) (past_before past : Option (List PastLinks)) (handed_before handed : HandedOut)
    → PlaceChange
place_change files_before files sink_faults_before sink_faults past_before past handed_before handed =
    record {
      files_before = files_before;
      files = files;
      sink_faults_before = sink_faults_before;
      sink_faults = sink_faults;
      past_before = past_before;
      past = past;
      handed_before = handed_before;
      handed = handed;
    }

-- what it did, by what was left of its input and what its output had taken, before and then, and by what became of files and binder
abbrev pub host_change : (left_before left taken_before taken : Option (List ℕ)) → PlaceChange → HostChange
host_change left_before left taken_before taken place =
    record { streams = record { left_before = left_before; left = left; taken_before = taken_before; taken = taken }; place = place }

-- what it did to its output
abbrev pub output_of : HostChange → OutputChange
output_of c = record { taken_before = c.streams.taken_before; taken = c.streams.taken }

-- the files are as before, and no links came back
abbrev pub IsPlaceKept : PlaceChange → Type 0
IsPlaceKept p = (p.files ≡ p.files_before) × (p.past ≡ p.past_before)

-- nor were any handed out: nothing was listened to
abbrev pub IsPlaceUntouched : PlaceChange → Type 0
IsPlaceUntouched p = IsPlaceKept p × (p.handed ≡ p.handed_before)

-- nothing was read, and nothing written; the files are as before, and nothing was listened to
abbrev pub IsAllUntouched : HostChange → Type 0
IsAllUntouched c = AreUntouched c.streams × IsPlaceUntouched c.place

-- what serves at an office and by services: with the read budget of the words
abbrev pub setting_at : AskedRun → PlainOffice → List ServiceState → ServerSetting
setting_at r office services = record { desk = desk_of office; services = services; budget = r.says.limits.read_budget }

-- it is arranged, and this holds of what serves: its office, and the services of its handlers, from the memories that these had
abbrev pub IsServedBy : AskedRun → (ServerSetting → Type 0) → Type 0
IsServedBy r Holds = (a : IsArranged r) × Holds (setting_at r (arranged_office r a) a.bound)

module _ (a : AskedServing) (c : HostChange) where
  -- it is arranged, and connections were served to the end, or the port isn't served for this fault
  abbrev pub IsAllServed : Type 0
  IsAllServed = IsServedBy a.run (λ s. HasServedAll s a.place c.place (output_of c))

  abbrev pub IsUnservedFor : PortFault → Type 0
  IsUnservedFor fault = IsServedBy a.run (λ s. MeansPortFault s a.place c.place (output_of c) fault)

  -- What a status says of serving that was asked for. Done says that connections were served at the port until all was over, that the journal's file holds the lines of
  -- the calls, that the links came back with their tape, and that the summary was written; and that tape, calls and causes meet the headline at its office and from the
  -- memories of its handlers. A file fault may be the IDL's or the journal's; want of memory may come at any time.
  abbrev pub MeansServing : Status → Type 0
  MeansServing IdlRefused = MeansUnarranged a.run IdlRefused c.streams × IsPlaceUntouched c.place
  MeansServing BindRefused = MeansUnarranged a.run BindRefused c.streams × IsPlaceUntouched c.place
  MeansServing FileFault = (MeansUnarranged a.run FileFault c.streams × IsPlaceUntouched c.place) ⊎ IsUnservedFor port_faults.FileFault
  MeansServing Done = IsAllServed
  MeansServing NetFault = IsUnservedFor port_faults.NetFault
  MeansServing JournalFault = IsUnservedFor port_faults.JournalFault
  MeansServing WriteFault = IsUnservedFor port_faults.WriteFault
  MeansServing NoMemory = IsAllUntouched c ⊎ IsUnservedFor port_faults.NoMemory
  MeansServing _ = ⊥
