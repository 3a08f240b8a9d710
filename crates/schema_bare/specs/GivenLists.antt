-- The lists of fields that definitions in memory give.
use Rattle.std.specs.Prelude.{ℕ, List, ◌++◌, map}
use Rattle.std.specs.List.{flat_map}
use Rattle.idl_parser.specs.declared.tree.Function.{Function}
use Rattle.idl_parser.specs.declared.tree.Struct.{Struct}
use Rattle.idl_parser.specs.declared.tree.Service.{Service}
use Rattle.idl_include.specs.DeclaredIn.{function_in}
use Rattle.idl_names.specs.declared.filed.InFile.{InFile}
use Rattle.idl_names.specs.FiledIn.{filed_by, struct_declared}
use Rattle.check_model.specs.FieldLists.{FieldsDecl, fields_of_struct, args_of_function}

-- the fields of a struct, union or exception
abbrev pub struct_given : InFile Struct → FieldsDecl
struct_given s = fields_of_struct (filed_by struct_declared s)

-- the arguments of a function that stands in a file
abbrev pub args_given : ℕ → Function → FieldsDecl
args_given file f = args_of_function (record { file = file; item = function_in f })

-- the arguments of the functions of a service
abbrev pub service_args : InFile Service → List FieldsDecl
service_args s = map (args_given s.file) s.item.now.functions.items

-- the lists of structs, and behind them those of services
abbrev pub all_given : List (InFile Struct) → List (InFile Service) → List FieldsDecl
all_given structs services = map struct_given structs ++ flat_map service_args services
