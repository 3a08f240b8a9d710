-- The files of a program in memory, as the program that they are.
use Rattle.std.specs.Prelude.{◌≡◌, ◌<◌, ◌≤◌, ℕ, false, List, [], ◌∷◌, All, length, map, ⊤}
use Rattle.idl_parser.specs.declared.tree.Document.{Document}
use Rattle.idl_parser.specs.Trees.{document_node}
use Rattle.idl_token.specs.Limits.{longest_idl_text}
use Rattle.idl_include.specs.Program.{SourceFile, Program}
use Rattle.idl_include.specs.FileNames.{base_name}
use Rattle.idl_include.specs.Loading.{most_files, is_among}
use Rattle.idl_include.specs.DeclaredIn.{definitions_in}
use Rattle.idl_include.specs.Readings.{IsTreeOf}
use Rattle.idl_include.specs.declared.sources.IdlFile.{IdlFile}
use Rattle.idl_include.specs.declared.sources.Sources.{Sources}

-- a file: its name, what its document declares, and the numbers of the files that it includes
abbrev pub file_in : IdlFile → SourceFile
file_in source = record { name = source.name; declarations = definitions_in source.document; includes = source.includes.items }

-- the files by number
abbrev pub sources_in : Sources → List IdlFile
sources_in sources = sources.files.items

-- the program of these files
abbrev pub program_in : List IdlFile → Program
program_in = map file_in

-- the document is that of some text within the limit (Thrift IDL, 'Document')
pub record IsOfSomeText (document : Document) : Type 0 where
  pub text : List ℕ
  pub short : length text ≤ longest_idl_text
  pub tree : IsTreeOf text (document_node document)

-- a file is sound among so many: its base name is that of its name, its document is one, and its numbers are of files
pub record IsFile (count : ℕ) (source : IdlFile) : Type 0 where
  pub base : source.base ≡ base_name source.name
  pub document : IsOfSomeText source.document
  pub includes : All (λ number. number < count) source.includes.items

-- files with these base names so far, and more: each with a base name of its own
abbrev pub HaveOwnBases : List (List ℕ) → List IdlFile → Type 0
HaveOwnBases before [] = ⊤
HaveOwnBases before (source ∷ more) = (is_among source.base before ≡ false) × HaveOwnBases (source.base ∷ before) more

-- Files of a program that were begun by some point: at most 256, with different base names, and each is sound.
pub record AreBegun (files : List IdlFile) : Type 0 where
  pub most : length files ≤ most_files
  pub bases : HaveOwnBases [] files
  pub each : All (IsFile (length files)) files

-- Files of a program: at least one, and as they were begun.
pub record AreFiles (sources : List IdlFile) : Type 0 where
  pub some : 1 ≤ length sources
  pub begun : AreBegun sources
