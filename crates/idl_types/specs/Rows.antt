-- What rows are made of: the typedefs that a type names, and the parents of services.
use Rattle.std.specs.Prelude.{ℕ, List, [], ◌++◌, map, Option}
use Rattle.std.specs.Option.{option_and_then}
use Rattle.std.specs.List.{cons_option}
use Rattle.idl_include.specs.Written.{Written}
use Rattle.idl_include.specs.TypeExpr.{TypeExpr, base_expr, name_expr, map_expr, set_expr, list_expr}
use Rattle.idl_include.specs.Program.{Program}
use Rattle.idl_include.specs.Numbering.{services_of}
use Rattle.idl_include.specs.Names.{type_named}
use Rattle.idl_include.specs.Cycles.{alias_in, parent_named}

-- the typedef that a name in a file stands for, if it is one
abbrev pub alias_for : Program → ℕ → Written → Option ℕ
alias_for program file name = option_and_then alias_in (type_named program file name.text)

-- the typedefs that a type in a file names, also inside containers
abbrev pub aliases_in_type : Program → ℕ → TypeExpr → List ℕ
aliases_in_type program file (base_expr base) = []
aliases_in_type program file (name_expr name) = cons_option (alias_for program file name) []
aliases_in_type program file (map_expr key value) = aliases_in_type program file key ++ aliases_in_type program file value
aliases_in_type program file (set_expr member) = aliases_in_type program file member
aliases_in_type program file (list_expr element) = aliases_in_type program file element

-- the parent of each service, if it has one
unfoldable pub parents_of : Program → List (Option ℕ)
parents_of program = map (parent_named program) (services_of program)
