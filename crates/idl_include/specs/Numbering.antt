-- The definitions of a program by number, in a list for each kind: by file, and in a file in order.
use Rattle.std.specs.Prelude.{ℕ, suc, List, [], ◌∷◌, ◌++◌, map, Option, Some, None, Bool, ◌==◌, ◌&&◌}
use Rattle.std.specs.Str.{bytes_eq}
use Rattle.std.specs.List.{filter_map, flat_map, position_from}
use Rattle.idl_include.specs.Written.{Written}
use Rattle.idl_include.specs.Declarations.{FunctionDecl, ConstDecl, TypedefDecl, EnumDecl, StructDecl, ServiceDecl, Declaration, of_const, of_typedef, of_enum, of_struct_decl, of_service}
use Rattle.idl_include.specs.Program.{Program}

-- a definition, with the number of its file
pub record Filed (A : Type 0) : Type 0 where
  pub file : ℕ
  pub item : A

-- definitions with the number of their file
abbrev pub filed : {A : Type 0} → ℕ → List A → List (Filed A)
filed file items = map (λ item. record { file = file; item = item }) items

-- what is picked of the definitions of files, the first of which has this number
abbrev pub picked_from : {A : Type 0} → (Declaration → Option A) → ℕ → Program → List (Filed A)
picked_from pick number [] = []
picked_from pick number (file ∷ files) = filed number (filter_map pick file.declarations) ++ picked_from pick (suc number) files

-- a definition, if it is a constant
abbrev pub const_in : Declaration → Option ConstDecl
const_in (of_const c) = Some c
const_in _ = None

-- a definition, if it is a typedef
abbrev pub typedef_in : Declaration → Option TypedefDecl
typedef_in (of_typedef t) = Some t
typedef_in _ = None

-- a definition, if it is an enum
abbrev pub enum_in : Declaration → Option EnumDecl
enum_in (of_enum e) = Some e
enum_in _ = None

-- a definition, if it is a struct, a union or an exception
abbrev pub struct_in : Declaration → Option StructDecl
struct_in (of_struct_decl s) = Some s
struct_in _ = None

-- a definition, if it is a service
abbrev pub service_in : Declaration → Option ServiceDecl
service_in (of_service s) = Some s
service_in _ = None

-- the constants of a program
unfoldable pub constants_of : Program → List (Filed ConstDecl)
constants_of program = picked_from const_in 0 program

-- the typedefs of a program
unfoldable pub typedefs_of : Program → List (Filed TypedefDecl)
typedefs_of program = picked_from typedef_in 0 program

-- the enums of a program
unfoldable pub enums_of : Program → List (Filed EnumDecl)
enums_of program = picked_from enum_in 0 program

-- the structs, unions and exceptions of a program
unfoldable pub structs_of : Program → List (Filed StructDecl)
structs_of program = picked_from struct_in 0 program

-- the services of a program
unfoldable pub services_of : Program → List (Filed ServiceDecl)
services_of program = picked_from service_in 0 program

-- the functions of a service, with the number of its file
abbrev pub functions_in : Filed ServiceDecl → List (Filed FunctionDecl)
functions_in service = filed service.file service.item.functions

-- the functions of a program: by service, and in a service in order
unfoldable pub all_functions : Program → List (Filed FunctionDecl)
all_functions program = flat_map functions_in (services_of program)

-- the definition is that of some name in some file
abbrev pub is_filed_as : {A : Type 0} → (A → Written) → ℕ → List ℕ → Filed A → Bool
is_filed_as name_in file name x = (x.file == file) && bytes_eq (name_in x.item).text name

-- the number of the first definition of some name in some file
abbrev pub number_named : {A : Type 0} → (A → Written) → List (Filed A) → ℕ → List ℕ → Option ℕ
number_named name_in items file name = position_from (is_filed_as name_in file name) 0 items

-- how many definitions of each kind there are
pub record Counts : Type 0 where
  pub aliases : ℕ
  pub constants : ℕ
  pub enums : ℕ
  pub structs : ℕ
  pub services : ℕ

-- no definition
abbrev pub none_counted : Counts
none_counted = record { aliases = 0; constants = 0; enums = 0; structs = 0; services = 0 }

-- one definition more
abbrev pub counted : Counts → Declaration → Counts
counted n (of_const c) = record n { constants = suc n.constants }
counted n (of_typedef t) = record n { aliases = suc n.aliases }
counted n (of_enum e) = record n { enums = suc n.enums }
counted n (of_struct_decl s) = record n { structs = suc n.structs }
counted n (of_service s) = record n { services = suc n.services }

-- definitions more
abbrev pub all_counted : Counts → List Declaration → Counts
all_counted n [] = n
all_counted n (d ∷ more) = all_counted (counted n d) more
