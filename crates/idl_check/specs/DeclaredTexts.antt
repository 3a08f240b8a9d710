-- What a program's definitions owe to the texts of its files: names that are identifiers, short literals, and no more definitions than bytes.
use Rattle.std.specs.Prelude.{◌≢◌, ◌<◌, ◌≤◌, ℕ, suc, ◌+◌, List, [], ◌∷◌, length, map, All, AllPairs, MatchOption, ⊤}
use Rattle.std.specs.List.{AllByRecursion}
use Rattle.idl_token.specs.Limits.{longest_idl_text}
use Rattle.idl_include.specs.Declarations.{FieldDecl, FunctionDecl, EnumValueDecl, Declaration, of_const, of_typedef, of_enum, of_struct_decl, of_service}
use Rattle.idl_include.specs.Loading.{most_files}
use Rattle.idl_include.specs.Program.{SourceFile, Program, base_of_file}
use Rattle.idl_const.specs.ShortLiterals.{HasShortLiterals}
use Rattle.idl_check.specs.Identifiers.{IsIdentifier}

-- the name of a field is an identifier
abbrev pub IsFieldNamed : FieldDecl → Type 0
IsFieldNamed f = IsIdentifier f.name.text

-- the names of a function, of its arguments and of its exceptions are
abbrev pub IsFunctionNamed : FunctionDecl → Type 0
IsFunctionNamed f = IsIdentifier f.name.text × AllByRecursion IsFieldNamed f.arguments × AllByRecursion IsFieldNamed f.throws

-- the name of a value of an enum is
abbrev pub IsValueNamed : EnumValueDecl → Type 0
IsValueNamed v = IsIdentifier v.name.text

-- all names that a definition gives are
abbrev pub IsNamed : Declaration → Type 0
IsNamed (of_const c) = IsIdentifier c.name.text
IsNamed (of_typedef t) = IsIdentifier t.name.text
IsNamed (of_enum e) = IsIdentifier e.name.text × AllByRecursion IsValueNamed e.values
IsNamed (of_struct_decl s) = IsIdentifier s.name.text × AllByRecursion IsFieldNamed s.fields
IsNamed (of_service s) = IsIdentifier s.name.text × AllByRecursion IsFunctionNamed s.functions

-- the default of a field has short literals, if there is one
abbrev pub HasShortDefault : FieldDecl → Type 0
HasShortDefault f = MatchOption f.default ⊤ HasShortLiterals

-- so have the defaults of a function's arguments and exceptions
abbrev pub HasShortDefaults : FunctionDecl → Type 0
HasShortDefaults f = AllByRecursion HasShortDefault f.arguments × AllByRecursion HasShortDefault f.throws

-- all values that a definition gives have short literals
abbrev pub HasShortValues : Declaration → Type 0
HasShortValues (of_const c) = HasShortLiterals c.value
HasShortValues (of_struct_decl s) = AllByRecursion HasShortDefault s.fields
HasShortValues (of_service s) = AllByRecursion HasShortDefaults s.functions
HasShortValues _ = ⊤

-- how many functions a definition has
abbrev pub function_count : Declaration → ℕ
function_count (of_service s) = length s.functions
function_count _ = 0

-- how many definitions there are, functions included
abbrev pub item_count : List Declaration → ℕ
item_count [] = 0
item_count (d ∷ ds) = suc (function_count d) + item_count ds

-- definitions of one text: their names are identifiers, their literals are short, and there are no more than the text has bytes
pub record AreOfText (ds : List Declaration) : Type 0 where
  pub names : AllByRecursion IsNamed ds
  pub values : AllByRecursion HasShortValues ds
  pub few : item_count ds ≤ longest_idl_text

-- a file among so many: its definitions are of one text, and it includes files
pub record IsFileOfText (count : ℕ) (f : SourceFile) : Type 0 where
  pub text : AreOfText f.declarations
  pub includes : All (λ n. n < count) f.includes

-- a program that can be loaded: at most 256 files of texts, with different base names
pub record IsProgramOfTexts (program : Program) : Type 0 where
  pub most : length program ≤ most_files
  pub bases : AllPairs (λ a b. a ≢ b) (map base_of_file program)
  pub files : AllByRecursion (IsFileOfText (length program)) program
