-- How a program is loaded: depth first, the main file, then each include in order, each file once.
use Rattle.std.specs.Prelude.{ℕ, zero, suc, Bool, true, false, nat_le, List, [], ◌∷◌, ◌++◌, length, Option, Some, None, if◌then◌else◌}
use Rattle.std.specs.Str.{bytes_eq, is_utf8}
use Rattle.std.specs.List.{list_any, position_from}
use Rattle.idl_token.specs.declared.Place.{Place}
use Rattle.idl_include.specs.Written.{Written}
use Rattle.idl_parser.specs.Unplaced.{nowhere}
use Rattle.idl_include.specs.Decoded.{declarations_of, includes_of}
use Rattle.idl_include.specs.FileNames.{base_name, included_name}
use Rattle.idl_include.specs.Program.{SourceFile, Program, base_of_file}
use Rattle.idl_include.specs.Readings.{LoadFlawKind, bad_name, includes_itself, same_base, too_many, FileReading, read_as, unread}

-- how many files a program has at most
abbrev pub most_files : ℕ
most_files = 256

-- where and why a program can't be loaded: the file, the place in it, or 0:0, and the cause
pub record LoadFlaw : Type 0 where
  pub file : List ℕ
  pub at : Place
  pub kind : LoadFlawKind

-- what loading comes to: the files that were begun by then, or the first fault
pub data Loaded : Type 0 where
  loaded : Program → Loaded
  stopped : LoadFlaw → Loaded

-- one step of loading and then another
abbrev pub and_then : Loaded → (Program → Loaded) → Loaded
and_then (loaded files) next = next files
and_then (stopped flaw) next = stopped flaw

-- what an include comes to before its file is read
pub data IncludeCase : Type 0 where
  refused_include : LoadFlawKind → IncludeCase
  -- the file of this number
  loaded_before : ℕ → IncludeCase
  new_file : IncludeCase

-- one of the names is this one
abbrev pub is_among : List ℕ → List (List ℕ) → Bool
is_among name names = list_any (λ other. bytes_eq other name) names

-- a name that is no file's: another file may have its base name
abbrev pub new_include : Program → List ℕ → IncludeCase
new_include files name =
    if list_any (λ file. bytes_eq (base_of_file file) (base_name name)) files then refused_include same_base else new_file

-- a file that was begun, if this is one
abbrev pub begun_or : Option ℕ → IncludeCase → IncludeCase
begun_or (Some number) other = loaded_before number
begun_or None other = other

-- an include of the file of this name, which is one or not, while the files of the names `above` are being loaded
unfoldable pub include_case : Bool → List (List ℕ) → Program → List ℕ → IncludeCase
include_case false above files name = refused_include bad_name
include_case true above files name =
    if is_among name above then refused_include includes_itself
    else begun_or (position_from (λ file. bytes_eq file.name name) 0 files) (new_include files name)

-- one more number among those of a file's includes
abbrev pub with_include : ℕ → SourceFile → SourceFile
with_include number file = record file { includes = file.includes ++ number ∷ [] }

-- the same in the file of some number
abbrev pub linked : ℕ → ℕ → Program → Program
linked of number [] = []
linked zero number (file ∷ files) = with_include number file ∷ files
linked (suc of) number (file ∷ files) = file ∷ linked of number files

-- the file of number `of` includes what this case says; `enter` loads a new file
abbrev pub load_include : (Program → Loaded) → LoadFlaw → ℕ → IncludeCase → Program → Loaded
load_include enter flaw of (refused_include kind) files = stopped (record flaw { kind = kind })
load_include enter flaw of (loaded_before number) files = loaded (linked of number files)
load_include enter flaw of new_file files = and_then (enter files) (λ more. loaded (linked of (length files) more))

-- the includes of the file of number `of`, one after another; `is_name` tells literals that are names, and `enter` loads a new file
abbrev pub load_includes : (List ℕ → Bool) → (List ℕ → Program → Loaded) → List (List ℕ) → List ℕ → ℕ → List Written → Program → Loaded
load_includes is_name enter above file of [] files = loaded files
load_includes is_name enter above file of (literal ∷ more) files =
    let name = included_name file literal.text in
    let flaw : LoadFlaw = record { file = file; at = literal.at; kind = too_many } in
    and_then (load_include (enter name) flaw of (include_case (is_name literal.text) above files name) files)
    (λ next. load_includes is_name enter above file of more next)

-- one more file, and its includes
abbrev pub load_read : (List ℕ → Bool) → (List ℕ → Program → Loaded) → List (List ℕ) → List ℕ → FileReading → Program → Loaded
load_read is_name enter above name (unread at kind) files = stopped (record { file = name; at = at; kind = kind })
load_read is_name enter above name (read_as tree) files =
    load_includes is_name enter above name (length files) (includes_of tree)
    (files ++ record { name = name; declarations = declarations_of tree; includes = [] } ∷ [])

-- a file, where there is room for one more, or not
abbrev pub load_within : Bool → (List ℕ → Bool) → (List ℕ → Program → Loaded) → List (List ℕ) → List ℕ → FileReading → Program → Loaded
load_within false is_name enter above name reading files = stopped (record { file = name; at = nowhere; kind = too_many })
load_within true is_name enter above name reading files = load_read is_name enter above name reading files

-- a file and what it includes, at most so many levels deep, while the files of the names `above` are being loaded. There are no
-- more levels than files, so these don't run out first.
unfoldable pub load_file : (List ℕ → Bool) → (List ℕ → FileReading) → ℕ → List (List ℕ) → List ℕ → Program → Loaded
load_file is_name reader zero above name files = stopped (record { file = name; at = nowhere; kind = too_many })
load_file is_name reader (suc left) above name files =
    load_within (nat_le (suc (length files)) most_files) is_name (load_file is_name reader left (name ∷ above)) (name ∷ above) name (reader name) files

-- the program of a main file, or its first fault, where these literals are names of files
abbrev pub program_by : (List ℕ → Bool) → (List ℕ → FileReading) → List ℕ → Loaded
program_by is_name reader main = load_file is_name reader (suc most_files) [] main []

-- The program of a main file, or its first fault, where each file is read as the reader says. The name of a file is UTF-8.
unfoldable pub program_of : (List ℕ → FileReading) → List ℕ → Loaded
program_of reader main = program_by is_utf8 reader main
