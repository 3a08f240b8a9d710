-- A program: the files that its main file includes, directly or not, each with what it declares.
use Rattle.std.specs.Prelude.{ℕ, List}
use Rattle.idl_include.specs.Declarations.{Declaration}
use Rattle.idl_include.specs.FileNames.{base_name}

-- a file: its name, its definitions in order, and the numbers of the files that its includes mean, one for each include
pub record SourceFile : Type 0 where
  pub name : List ℕ
  pub declarations : List Declaration
  pub includes : List ℕ

-- files by number, in the order in which their loading began: the main file is number 0
abbrev pub Program : Type 0
Program = List SourceFile

-- the base name of a file
abbrev pub base_of_file : SourceFile → List ℕ
base_of_file file = base_name file.name
