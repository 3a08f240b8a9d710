-- Base names of included files.
use Rattle.std.specs.Prelude.{◌≡◌, ℕ, List}
use Rattle.std.specs.List.{find}
use Rattle.std.specs.Option.{option_or}
use Rattle.idl_include.specs.FileNames.{base_name}
use Rattle.idl_include.specs.Names.{has_base}
use Rattle.idl_include.specs.Program.{Program}
use Rattle.idl_include.specs.declared.sources.IdlFile.{IdlFile}
use Rattle.idl_names.specs.NameMaps.{NameMap, number_of_name, number_if}

-- the base name that a file has in memory is that of its name
abbrev pub HasOwnBase : IdlFile → Type 0
HasOwnBase file = file.base ≡ base_name file.name

-- base names have that of one file more, unless it is there
abbrev pub NotesInclude : Program → ℕ → NameMap → NameMap → Type 0
NotesInclude program number old new =
    (base : List ℕ) → number_of_name new base ≡ option_or (number_of_name old base) (number_if (has_base program base number) number)

-- base names of the files that a file includes
abbrev pub HasIncludes : Program → NameMap → IdlFile → Type 0
HasIncludes program map file = (base : List ℕ) → number_of_name map base ≡ find (has_base program base) file.includes.items
