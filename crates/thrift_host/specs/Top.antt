-- What the top call promises of its status, of what it was given, and of its errors' line.
use Rattle.std.specs.Prelude.{◌≡◌, ⊤, ℕ, List, Option, Some}
use Rattle.streams.specs.Files.{File}
use Rattle.call_rules.specs.Handling.{ServiceState}
use Rattle.command_line.specs.Served.{PlainServed}
use Rattle.command_line.specs.Words.{PlainCommand, checks, compares, rehearses, records, serves, runs, calls}
use Rattle.port_calls.specs.Called.{CallChange}
use Rattle.port_serving.specs.Places.{PortPlace, PlaceChange}
use Rattle.thrift_host.specs.declared.status.Status.{Status}
use Rattle.thrift_host.specs.declared.status.Status.TheVariants.{Usage, NoMemory}
use Rattle.thrift_host.specs.Errors.{Errors, IsLineSaid}
use Rattle.thrift_host.specs.Checks.{AreUntouched, MeansCheck, SaysCheck}
use Rattle.thrift_host.specs.Calls.{MeansPortCall}
use Rattle.thrift_host.specs.Compats.{MeansCompat, SaysCompat}
use Rattle.thrift_host.specs.Runs.{AskedRun, SaysUnarranged, MeansRun, SaysRun, rehearsing, recording}
use Rattle.thrift_host.specs.Serving.{HostChange, IsPlaceKept, MeansServing}
use Rattle.thrift_host.specs.Workloads.{asked_workload, MeansWorkload}
use Rattle.recorded_runs.specs.Recorded.{Streams}

-- a run that is asked for by these words, with these files and handlers
abbrev pub asked_run : PlainServed → Option (List File) → List ServiceState → AskedRun
asked_run says files handlers = record { says = says; files = files; handlers = handlers }

-- the place of these words
abbrev pub asked_place : (port accept : ℕ) (journal : List ℕ) → PortPlace
asked_place port accept journal = record { listening = record { port = port; accept = accept }; journal = journal }

-- What a status says where the words are no command: it is Usage, or want of memory.
abbrev pub MeansUsage : Status → Streams → Type 0
MeansUsage Usage s = AreUntouched s
MeansUsage NoMemory s = AreUntouched s
MeansUsage _ s = ⊥

-- What a status says of the command that the words are, with these handlers: Usage comes for the words alone, where they are no command. Serving reads nothing
-- of the input, and neither does a call, of which `MeansCalled` says the rest.
abbrev pub Means : Option PlainCommand → List ServiceState → Status → HostChange → Type 0
Means (Some (checks idl)) handlers status c = MeansCheck c.place.files_before idl status c.streams
Means (Some (compares old new)) handlers status c = MeansCompat c.place.files_before old new status c.streams
Means (Some (rehearses says)) handlers status c = MeansRun rehearsing (asked_run says c.place.files_before handlers) status c.streams
Means (Some (records says)) handlers status c = MeansRun recording (asked_run says c.place.files_before handlers) status c.streams
Means (Some (serves says port accept journal)) handlers status c =
    (c.streams.left ≡ c.streams.left_before)
    × MeansServing (record { run = asked_run says c.place.files_before handlers; place = asked_place port accept journal }) c status
Means (Some (runs seed size workers)) handlers status c = MeansWorkload (asked_workload workers c.place.files_before handlers) seed size status c.streams
Means (Some (calls asking)) handlers status c = c.streams.left ≡ c.streams.left_before
Means _ handlers status c = MeansUsage status c.streams

-- What a status says of the ports that were dialled and listened at: of a call its output and its errors' line belong to that. Serving dials no port, and any other
-- command neither dials nor listens.
abbrev pub MeansCalled : Option PlainCommand → Option (List File) → Status → CallChange → Errors → Type 0
MeansCalled (Some (calls asking)) files status c e = MeansPortCall files asking status c e
MeansCalled (Some (serves says port accept journal)) files status c e = c.dialled.called ≡ c.dialled_before.called
MeansCalled _ files status c e = c.dialled ≡ c.dialled_before

-- All commands but `serve` leave the files as they were, and no links come back to the binder.
abbrev pub KeepsPlace : Option PlainCommand → PlaceChange → Type 0
KeepsPlace (Some (serves says port accept journal)) p = ⊤
KeepsPlace _ p = IsPlaceKept p

-- The line of its status was added to the errors; that of a call stands in `MeansCalled`.
abbrev pub Says : Option PlainCommand → List ServiceState → Status → HostChange → Errors → Type 0
Says (Some (checks idl)) handlers status c e = SaysCheck c.place.files_before idl status e
Says (Some (compares old new)) handlers status c e = SaysCompat c.place.files_before old new status e
Says (Some (rehearses says)) handlers status c e = SaysRun rehearsing (asked_run says c.place.files_before handlers) status c.streams e
Says (Some (records says)) handlers status c e = SaysRun recording (asked_run says c.place.files_before handlers) status c.streams e
Says (Some (serves says port accept journal)) handlers status c e = SaysUnarranged (asked_run says c.place.files_before handlers) status e
Says (Some (runs seed size workers)) handlers status c e = SaysUnarranged (asked_workload workers c.place.files_before handlers) status e
Says (Some (calls asking)) handlers status c e = ⊤
Says _ handlers status c e = IsLineSaid status e
