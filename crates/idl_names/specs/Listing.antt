-- The definitions of a program, listed by kind, one more at a time.
use Rattle.std.specs.Prelude.{ℕ, suc, List, [], ◌∷◌, ◌++◌, Option, Some, None}
use Rattle.idl_include.specs.Declarations.{ConstDecl, TypedefDecl, EnumDecl, StructDecl, ServiceDecl, Declaration}
use Rattle.idl_include.specs.Program.{Program}
use Rattle.idl_include.specs.Numbering.{Filed, const_in, typedef_in, enum_in, struct_in, service_in, constants_of, typedefs_of, enums_of, structs_of, services_of}
use Rattle.idl_names.specs.declared.definitions.Definitions.{Definitions}
use Rattle.idl_names.specs.FiledIn.{filed_consts, filed_typedefs, filed_enums, filed_structs, filed_services}

-- definitions by kind
pub record Listing : Type 0 where
  pub constants : List (Filed ConstDecl)
  pub aliases : List (Filed TypedefDecl)
  pub enums : List (Filed EnumDecl)
  pub structs : List (Filed StructDecl)
  pub services : List (Filed ServiceDecl)

-- no definition
abbrev pub nothing_listed : Listing
nothing_listed = record { constants = []; aliases = []; enums = []; structs = []; services = [] }

-- one definition more of a file, if it is of the list's kind
abbrev pub listed_more : {A : Type 0} → ℕ → Option A → List (Filed A) → List (Filed A)
listed_more file None items = items
listed_more file (Some item) items = items ++ record { file = file; item = item } ∷ []

-- one definition more of a file
unfoldable pub with_definition : ℕ → Declaration → Listing → Listing
with_definition file d l = record {
  constants = listed_more file (const_in d) l.constants;
  aliases = listed_more file (typedef_in d) l.aliases;
  enums = listed_more file (enum_in d) l.enums;
  structs = listed_more file (struct_in d) l.structs;
  services = listed_more file (service_in d) l.services;
}

-- definitions more of a file
abbrev pub with_definitions : ℕ → List Declaration → Listing → Listing
with_definitions file [] l = l
with_definitions file (d ∷ more) l = with_definitions file more (with_definition file d l)

-- files more, the first of which has this number
abbrev pub with_files : ℕ → Program → Listing → Listing
with_files number [] l = l
with_files number (file ∷ files) l = with_files (suc number) files (with_definitions number file.declarations l)

-- the definitions of a program by kind
abbrev pub listing_of : Program → Listing
listing_of program = record {
  constants = constants_of program;
  aliases = typedefs_of program;
  enums = enums_of program;
  structs = structs_of program;
  services = services_of program;
}

-- definitions in memory by kind
abbrev pub listing_in : Definitions → Listing
listing_in d = record {
  constants = filed_consts d.constants.items;
  aliases = filed_typedefs d.typedefs.items;
  enums = filed_enums d.enums.items;
  structs = filed_structs d.structs.items;
  services = filed_services d.services.items;
}
