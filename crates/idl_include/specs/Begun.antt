-- Files that were begun, and what an include means among them.
use Rattle.std.specs.Prelude.{◌≡◌, ◌<◌, ℕ, Bool, false, List, [], ◌∷◌, ◌++◌, length, map, Some, string_bytes, if◌then◌else◌, ⊤}
use Rattle.std.specs.Str.{bytes_eq, is_utf8}
use Rattle.std.specs.List.{list_any}
use Rattle.idl_token.specs.declared.Place.{Place}
use Rattle.idl_parser.specs.declared.tree.Document.{Document}
use Rattle.idl_include.specs.Written.{Written}
use Rattle.idl_include.specs.FileNames.{base_name, included_name}
use Rattle.idl_include.specs.DeclaredIn.{includes_of_document}
use Rattle.idl_include.specs.Readings.{LoadFlawKind, FileReading}
use Rattle.idl_include.specs.Loading.{IncludeCase, include_case, refused_include, loaded_before, new_file}
use Rattle.idl_include.specs.declared.faults.LoadKind.{LoadKind}
use Rattle.idl_include.specs.declared.faults.LoadStop.{LoadStop}
use Rattle.idl_include.specs.declared.faults.LoadStop.TheVariants as stops
use Rattle.idl_include.specs.declared.sources.IdlFile.{IdlFile}
use Rattle.idl_include.specs.declared.opening.WantedFile.{WantedFile}
use Rattle.idl_include.specs.declared.meanings.NameMeaning.{NameMeaning}
use Rattle.idl_include.specs.declared.meanings.NameMeaning.TheVariants as by_name
use Rattle.idl_include.specs.declared.meanings.IncludeMeaning.{IncludeMeaning}
use Rattle.idl_include.specs.declared.meanings.IncludeMeaning.TheVariants as by_literal
use Rattle.idl_include.specs.SourcesOf.{program_in, AreBegun}
use Rattle.idl_include.specs.Loads.{AreRead, flaw_kind, is_file, is_inner_want}

-- a literal that is to be followed
abbrev pub written_in : WantedFile → Written
written_in wanted = record { text = wanted.text; at = wanted.at }

-- the literals in order
abbrev pub wanted_in : List WantedFile → List Written
wanted_in = map written_in

-- a file of this name and document, which includes nothing yet
pub record IsFreshFile (name : List ℕ) (document : Document) (file : IdlFile) : Type 0 where
  pub name_is : file.name ≡ name
  pub base_is : file.base ≡ base_name name
  pub document_is : file.document ≡ document
  pub no_includes : file.includes.items ≡ []

-- a file was begun: it stands behind those begun before, and these are the literals of its includes
pub record IsStarted (name : List ℕ) (document : Document) (before after : List IdlFile) (wanted : List Written) : Type 0 where
  pub file : IdlFile
  pub fresh : IsFreshFile name document file
  pub behind : after ≡ before ++ file ∷ []
  pub literals : wanted ≡ includes_of_document document

-- neither the name nor its base name is that of a file that was begun
pub record IsNewName (name : List ℕ) (files : List IdlFile) : Type 0 where
  pub no_name : list_any (λ file. bytes_eq file.name name) files ≡ false
  pub no_base : list_any (λ file. bytes_eq file.base (base_name name)) files ≡ false

-- what an include of the file of this name comes to, while the files of the names `above` are being loaded
abbrev pub include_meant : List (List ℕ) → List ℕ → Written → List IdlFile → IncludeCase
include_meant above file wanted begun = include_case (is_utf8 wanted.text) above (program_in begun) (included_name file wanted.text)

-- an include is refused with this kind of fault
pub record IsRefusedAs (meant : IncludeCase) (kind : LoadKind) : Type 0 where
  pub flaw : LoadFlawKind
  pub told : flaw_kind kind ≡ Some flaw
  pub refused : meant ≡ refused_include flaw
  pub no_read : is_file kind ≡ false
  pub no_want : is_inner_want kind ≡ false

-- what a name means is what the include comes to
abbrev pub IsNameMeaning : List ℕ → List IdlFile → IncludeCase → NameMeaning → Type 0
IsNameMeaning text files meant (by_name.Refused kind) = IsRefusedAs meant kind
IsNameMeaning text files meant (by_name.Before number) = (meant ≡ loaded_before number) × (number < length files)
IsNameMeaning text files meant by_name.New = (meant ≡ new_file) × IsNewName text files

-- the same of a literal that isn't refused
abbrev pub IsIncludeMeaning : List ℕ → List IdlFile → IncludeCase → IncludeMeaning → Type 0
IsIncludeMeaning text files meant (by_literal.Before number) = (meant ≡ loaded_before number) × (number < length files)
IsIncludeMeaning text files meant (by_literal.New other) = (meant ≡ new_file) × (string_bytes other ≡ text) × IsNewName text files

-- and of one that is refused: the fault tells the including file and the place of the literal
abbrev pub IsRefusedAt : List ℕ → Place → IncludeCase → LoadStop → Type 0
IsRefusedAt file at meant stops.NoMemory = ⊤
IsRefusedAt file at meant (stops.At fault) = (fault.file ≡ file) × (fault.at ≡ at) × IsRefusedAs meant fault.kind

-- the file is the same, but that one number more may stand among its includes
pub record HasInclude (more : Bool) (number : ℕ) (old new : IdlFile) : Type 0 where
  pub name : new.name ≡ old.name
  pub base : new.base ≡ old.base
  pub document : new.document ≡ old.document
  pub includes : new.includes.items ≡ (if more then old.includes.items ++ number ∷ [] else old.includes.items)

-- the files are as many as before, sound, and read as before
pub record KeepsFiles (old new : List IdlFile) : Type 0 where
  pub as_many : length new ≡ length old
  pub begun : AreBegun new
  pub kept : (reader : List ℕ → FileReading) → AreRead reader new → AreRead reader old
  pub read : (reader : List ℕ → FileReading) → AreRead reader old → AreRead reader new
