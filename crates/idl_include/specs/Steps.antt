-- What the steps of loading come to.
use Rattle.std.specs.Prelude.{◌≡◌, ◌≤◌, ℕ, true, false, List, length, Option, Result, MatchResult, ⊤}
use Rattle.std.specs.Str.{bytes_eq, is_utf8}
use Rattle.std.specs.List.{list_any}
use Rattle.streams.specs.Files.{File}
use Rattle.streams.specs.Cause.{Rose}
use Rattle.idl_parser.specs.Unplaced.{nowhere}
use Rattle.idl_include.specs.Written.{Written}
use Rattle.idl_include.specs.FileNames.{included_name}
use Rattle.idl_include.specs.Readings.{LoadFlawKind, too_many, FileReading, unread}
use Rattle.idl_include.specs.Loading.{Loaded, loaded, stopped, load_include, load_includes, load_file}
use Rattle.idl_include.specs.declared.faults.LoadFault.{LoadFault}
use Rattle.idl_include.specs.declared.faults.LoadStop.{LoadStop}
use Rattle.idl_include.specs.declared.faults.LoadStop.TheVariants as stops
use Rattle.idl_include.specs.declared.sources.IdlFile.{IdlFile}
use Rattle.idl_include.specs.SourcesOf.{program_in, AreBegun}
use Rattle.idl_include.specs.Begun.{include_meant}
use Rattle.idl_include.specs.Loads.{Tells, AreRead, IsReadableFile, LoadStopsAt, is_file, is_unread, is_wrong_want}

-- what each file is read as
abbrev pub FileReader : Type 0
FileReader = List ℕ → FileReading

-- how far loading has come: what is told of the files, how many faults were counted, and the files that were begun
pub record LoadStage : Type 0 where
  pub told : Option (List File)
  pub faults : ℕ
  pub begun : List IdlFile

-- a stage by its parts
abbrev pub load_stage : Option (List File) → ℕ → List IdlFile → LoadStage
load_stage told faults begun = record { told = told; faults = faults; begun = begun }

-- a file is to be loaded, and what it includes, at most so many levels deep
abbrev pub file_left : ℕ → List (List ℕ) → List ℕ → List IdlFile → FileReader → Loaded
file_left levels above name begun reader = load_file is_utf8 reader levels above name (program_in begun)

-- includes of the file of number `of` are to be followed
abbrev pub includes_left : ℕ → List (List ℕ) → List ℕ → ℕ → List Written → List IdlFile → FileReader → Loaded
includes_left levels above file of wanted begun reader =
    load_includes is_utf8 (load_file is_utf8 reader levels above) above file of wanted (program_in begun)

-- one of them is to be followed
abbrev pub include_left : ℕ → List (List ℕ) → List ℕ → ℕ → Written → List IdlFile → FileReader → Loaded
include_left levels above file of wanted begun reader =
    load_include (load_file is_utf8 reader levels above (included_name file wanted.text)) (record { file = file; at = wanted.at; kind = too_many }) of
    (include_meant above file wanted begun) (program_in begun)

-- nothing is left
abbrev pub all_loaded : List IdlFile → FileReader → Loaded
all_loaded begun reader = loaded (program_in begun)

-- From one stage to a later one the files stay as they are, and none that was begun is changed or lost: a reader is right about
-- those begun later where it is right about all files, and right about those begun before where it is right about those begun later.
pub record LoadMoves (before after : LoadStage) : Type 0 where
  pub same : after.told ≡ before.told
  pub later : before.faults ≤ after.faults
  pub kept : (reader : FileReader) → AreRead reader after.begun → AreRead reader before.begun
  pub read : (reader : FileReader) → Tells before.told reader → AreRead reader before.begun → AreRead reader after.begun

-- Loading went on: by each reader that is right about the files begun by now, what was left before comes to what is left now; and no fault was counted.
pub record LoadProceeds (before after : LoadStage) (was is : FileReader → Loaded) : Type 0 where
  pub moves : LoadMoves before after
  pub longer : length before.begun ≤ length after.begun
  pub begun : AreBegun after.begun
  pub comes : (reader : FileReader) → AreRead reader after.begun → was reader ≡ is reader
  pub quiet : after.faults ≡ before.faults

-- A file that wasn't begun before couldn't be read: where a reader, right about the files begun by then, gives it a flaw, loading stops there.
pub record StopsUnread (told : Option (List File)) (begun : List IdlFile) (was : FileReader → Loaded) (fault : LoadFault) : Type 0 where
  pub place : fault.at ≡ nowhere
  pub readable : IsReadableFile told fault.file
  pub no_name : list_any (λ file. bytes_eq file.name fault.file) begun ≡ false
  pub stops_there : (flaw : LoadFlawKind) (reader : FileReader) → AreRead reader begun → reader fault.file ≡ unread nowhere flaw
      → was reader ≡ stopped (record { file = fault.file; at = nowhere; kind = flaw })

-- the same of a step that ended for it, if it did
abbrev pub EndsUnread : Option (List File) → List IdlFile → (FileReader → Loaded) → LoadStop → Type 0
EndsUnread told begun was stops.NoMemory = ⊤
EndsUnread told begun was (stops.At fault) = is_file fault.kind ≡ true → StopsUnread told begun was fault

-- Loading ended: at the flaw at which it stops, at a file that couldn't be read, or for want of memory. A fault was counted only in the second case.
pub record LoadEnds (before after : LoadStage) (was : FileReader → Loaded) (stop : LoadStop) : Type 0 where
  pub moves : LoadMoves before after
  pub flaw : (reader : FileReader) → Tells before.told reader → AreRead reader after.begun → LoadStopsAt (was reader) stop
  pub read : EndsUnread before.told after.begun was stop
  pub rose : is_unread stop ≡ true → Rose before.faults after.faults
  pub quiet : is_unread stop ≡ false → after.faults ≡ before.faults
  pub outer : is_wrong_want stop ≡ false

-- a step of loading
abbrev pub LoadSteps : {A : Type 0} → Result A LoadStop → LoadStage → LoadStage → (FileReader → Loaded) → (A → FileReader → Loaded) → Type 0
LoadSteps result before after was is = MatchResult result (λ done. LoadProceeds before after was (is done)) (LoadEnds before after was)
