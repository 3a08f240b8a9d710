-- What loading a program answers, beside what it comes to.
use Rattle.std.specs.Prelude.{◌≡◌, ℕ, Bool, true, false, List, [], ◌∷◌, Option, Some, None, MatchOption, Result, Ok, Err, ⊤}
use Rattle.std.specs.Str.{bytes_eq}
use Rattle.streams.specs.Files.{File, OnTold, content_of, fits}
use Rattle.streams.specs.declared.files.FileFail.{FileFail}
use Rattle.streams.specs.declared.files.FileFail.TheVariants as fails
use Rattle.idl_token.specs.declared.Place.{Place}
use Rattle.idl_token.specs.Limits.{longest_idl_text}
use Rattle.idl_token.specs.declared.LexKind.TheVariants as lex
use Rattle.idl_parser.specs.declared.ParseKind.TheVariants as parse
use Rattle.idl_parser.specs.declared.tree.Document.{Document}
use Rattle.idl_parser.specs.Trees.{document_node}
use Rattle.idl_parser.specs.Unplaced.{nowhere}
use Rattle.idl_include.specs.Readings.{LoadFlawKind, absent, too_long, bad_name, lexed_badly, parsed_badly, includes_itself, same_base, too_many, FileReading, read_as, unread, IsTreeOf, IsTextReadAs, IsHeldReadAs, IsReaderOf}
use Rattle.idl_include.specs.Loading.{Loaded, loaded, stopped, program_of}
use Rattle.idl_include.specs.declared.faults.LoadKind.{LoadKind}
use Rattle.idl_include.specs.declared.faults.LoadKind.TheVariants as kinds
use Rattle.idl_include.specs.declared.faults.LoadFault.{LoadFault}
use Rattle.idl_include.specs.declared.faults.LoadStop.{LoadStop}
use Rattle.idl_include.specs.declared.faults.LoadStop.TheVariants as stops
use Rattle.idl_include.specs.declared.sources.IdlFile.{IdlFile}
use Rattle.idl_include.specs.declared.sources.Sources.{Sources}
use Rattle.idl_include.specs.SourcesOf.{program_in, sources_in}

-- the flaw of a program that a kind of fault tells; that a file couldn't be read, and that memory ran out, tell none
abbrev pub flaw_kind : LoadKind → Option LoadFlawKind
flaw_kind kinds.Absent = Some absent
flaw_kind kinds.TooLong = Some too_long
flaw_kind kinds.File = None
flaw_kind kinds.BadName = Some bad_name
flaw_kind (kinds.Lex kind) = Some (lexed_badly kind)
flaw_kind (kinds.Parse kind) = Some (parsed_badly kind)
flaw_kind kinds.Cycle = Some includes_itself
flaw_kind kinds.SameBase = Some same_base
flaw_kind kinds.TooMany = Some too_many
flaw_kind kinds.NoMemory = None

-- want of memory is said of the whole load, never of its lexer or parser
abbrev pub is_inner_want : LoadKind → Bool
is_inner_want (kinds.Lex lex.NoMemory) = true
is_inner_want (kinds.Parse parse.NoMemory) = true
is_inner_want _ = false

-- a file couldn't be read
abbrev pub is_file : LoadKind → Bool
is_file kinds.File = true
is_file _ = false

-- where the files are told, the reader says what each is read as
abbrev pub Tells : Option (List File) → (List ℕ → FileReading) → Type 0
Tells None reader = ⊥
Tells (Some files) reader = IsReaderOf files reader

-- the flaw is the one at which loading stops
abbrev pub IsFlawOf : Loaded → LoadFault → Type 0
IsFlawOf come fault = MatchOption (flaw_kind fault.kind) ⊤ (λ kind. come ≡ stopped (record { file = fault.file; at = fault.at; kind = kind }))

-- the reader says of each of the files that it is read as its document
abbrev pub AreRead : (List ℕ → FileReading) → List IdlFile → Type 0
AreRead reader [] = ⊤
AreRead reader (file ∷ files) = (reader file.name ≡ read_as (document_node file.document)) × AreRead reader files

-- What loading answers: the files of the program, with the documents that they are read as, or the flaw at which it stops.
abbrev pub IsLoaded : (List ℕ → FileReading) → Loaded → Result Sources LoadFault → Type 0
IsLoaded reader come (Ok sources) = (come ≡ loaded (program_in (sources_in sources))) × AreRead reader (sources_in sources)
IsLoaded reader come (Err fault) = IsFlawOf come fault

-- where the files are told, the file is there and isn't too long
abbrev pub IsReadableFile : Option (List File) → List ℕ → Type 0
IsReadableFile told name = OnTold told name (λ held. fits longest_idl_text held ≡ true)

-- the function says of each name what its file is read as, but of this one name that it has this flaw
pub record IsReaderBut (files : List File) (name : List ℕ) (flaw : LoadFlawKind) (reader : List ℕ → FileReading) : Type 0 where
  pub others : (other : List ℕ) → bytes_eq other name ≡ false → IsHeldReadAs (content_of files other) (reader other)
  pub but : reader name ≡ unread nowhere flaw

-- the same where the files are told
abbrev pub TellsBut : Option (List File) → List ℕ → LoadFlawKind → (List ℕ → FileReading) → Type 0
TellsBut None name flaw reader = ⊥
TellsBut (Some files) name flaw reader = IsReaderBut files name flaw reader

-- Loading ended at a file that couldn't be read: it is there and isn't too long, and where it alone has a flaw, of whatever kind, loading stops at it.
pub record IsReadFault (told : Option (List File)) (main : List ℕ) (fault : LoadFault) : Type 0 where
  pub place : fault.at ≡ nowhere
  pub readable : IsReadableFile told fault.file
  pub stops_there : (flaw : LoadFlawKind) (reader : List ℕ → FileReading) → TellsBut told fault.file flaw reader
      → program_of reader main ≡ stopped (record { file = fault.file; at = nowhere; kind = flaw })

-- the same of a step, which may end for want of memory
abbrev pub LoadStopsAt : Loaded → LoadStop → Type 0
LoadStopsAt come stops.NoMemory = ⊤
LoadStopsAt come (stops.At fault) = IsFlawOf come fault

-- a file that can't be read has this flaw
abbrev pub IsFlawOfFile : List ℕ → FileReading → LoadFault → Type 0
IsFlawOfFile name reading fault = MatchOption (flaw_kind fault.kind) ⊤ (λ kind. (fault.file ≡ name) × (reading ≡ unread fault.at kind))

-- what a file is read as, or why not
abbrev pub IsRead : List ℕ → FileReading → Result Document LoadStop → Type 0
IsRead name reading (Ok document) = reading ≡ read_as (document_node document)
IsRead name reading (Err stops.NoMemory) = ⊤
IsRead name reading (Err (stops.At fault)) = IsFlawOfFile name reading fault

-- what a text is read as, or why not
abbrev pub IsTextRead : List ℕ → List ℕ → Result Document LoadStop → Type 0
IsTextRead name text (Ok document) = IsTreeOf text (document_node document)
IsTextRead name text (Err stops.NoMemory) = ⊤
IsTextRead name text (Err (stops.At fault)) = MatchOption (flaw_kind fault.kind) ⊥ (λ kind. (fault.file ≡ name) × IsTextReadAs text (unread fault.at kind))

-- a stop is at this fault, or for want of memory
abbrev pub StopsWith : List ℕ → Place → LoadKind → LoadStop → Type 0
StopsWith file at kind stops.NoMemory = ⊤
StopsWith file at kind (stops.At fault) = (fault.file ≡ file) × (fault.at ≡ at) × (fault.kind ≡ kind)

-- a stop is at this fault of a file as a whole
abbrev pub StopsIn : List ℕ → LoadKind → LoadStop → Type 0
StopsIn file kind stops.NoMemory = ⊥
StopsIn file kind (stops.At fault) = (fault.file ≡ file) × (fault.at ≡ nowhere) × (fault.kind ≡ kind)

-- a fault of a file that couldn't be read tells its name, and no place in it
abbrev pub IsUnreadAt : Option (List File) → List ℕ → LoadStop → Type 0
IsUnreadAt told name stops.NoMemory = ⊤
IsUnreadAt told name (stops.At fault) = is_file fault.kind ≡ true → (fault.file ≡ name) × (fault.at ≡ nowhere) × IsReadableFile told name

-- how loading ends at a file that isn't read
abbrev pub IsUnread : List ℕ → FileFail → LoadStop → Type 0
IsUnread name fails.Absent stop = StopsIn name kinds.Absent stop
IsUnread name fails.TooLong stop = StopsIn name kinds.TooLong stop
IsUnread name fails.Failed stop = StopsIn name kinds.File stop
IsUnread name fails.NoMemory stop = stop ≡ stops.NoMemory

-- a step ended for a file that couldn't be read
abbrev pub is_unread : LoadStop → Bool
is_unread (stops.At fault) = is_file fault.kind
is_unread stops.NoMemory = false

-- a step ended for want of memory of the lexer or the parser
abbrev pub is_wrong_want : LoadStop → Bool
is_wrong_want (stops.At fault) = is_inner_want fault.kind
is_wrong_want stops.NoMemory = false
