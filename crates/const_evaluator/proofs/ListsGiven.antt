-- The lists of fields in memory are those of the program.
use Rattle.std.proofs.Common.{◌≡◌, ◌++◌, ℕ, List, [], ◌∷◌, map, refl, ap, sym, ◌∙◌}
use Rattle.std.specs.List.{flat_map}
use Rattle.std.proofs.lemmas.List.{map-append}
use Rattle.idl_parser.specs.declared.tree.Function.{Function}
use Rattle.idl_parser.specs.declared.tree.Service.{Service}
use Rattle.idl_parser.specs.declared.tree.Struct.{Struct}
use Rattle.idl_include.specs.DeclaredIn.{function_in}
use Rattle.idl_include.specs.Declarations.{StructDecl, ServiceDecl}
use Rattle.idl_include.specs.Numbering.{Filed, filed, structs_of, services_of, functions_in, all_functions}
use Rattle.idl_include.specs.Program.{Program}
use Rattle.idl_names.specs.declared.filed.InFile.{InFile}
use Rattle.idl_names.specs.FiledIn.{filed_by, filed_structs, filed_services, service_declared}
use Rattle.check_model.specs.FieldLists.{fields_of_struct, args_of_function, field_lists}
use Rattle.const_evaluator.specs.declared.given_fields.GivenFields.{GivenFields}
use Rattle.const_evaluator.specs.GivenFields.{FiledFields, fields_filed, fields_given, struct_fields, args_fields, service_fields}

structs_alike : (structs : List (InFile Struct)) → map struct_fields structs ≡ map fields_filed (map fields_of_struct (filed_structs structs))
structs_alike [] = refl
structs_alike (s ∷ structs) = ap (λ ls. struct_fields s ∷ ls) (structs_alike structs)

args_alike : (file : ℕ) (functions : List Function) → map (args_fields file) functions ≡ map fields_filed (map args_of_function (filed file (map function_in functions)))
args_alike file [] = refl
args_alike file (f ∷ functions) = ap (λ ls. args_fields file f ∷ ls) (args_alike file functions)

services_alike : (services : List (InFile Service)) → flat_map service_fields services ≡ map fields_filed (map args_of_function (flat_map functions_in (filed_services services)))
services_alike [] = refl
services_alike (s ∷ services) =
    let own = functions_in (filed_by service_declared s) in
    let more = flat_map functions_in (filed_services services) in
    (λ i. args_alike s.file s.item.now.functions.items i ++ services_alike services i)
    ∙ sym (ap (map fields_filed) (map-append args_of_function own more) ∙ map-append fields_filed (map args_of_function own) (map args_of_function more))

pub lists_given : (program : Program) (structs : List (InFile Struct)) (services : List (InFile Service)) (none mid new : List GivenFields) → none ≡ []
    → map fields_given mid ≡ map fields_given none ++ map struct_fields structs → map fields_given new ≡ map fields_given mid ++ flat_map service_fields services
    → filed_structs structs ≡ structs_of program → filed_services services ≡ services_of program → map fields_given new ≡ map fields_filed (field_lists program)
unfolding field_lists all_functions
lists_given program structs services none mid new empty first then_more s v =
    then_more
    ∙ ap (λ (ls : List FiledFields). ls ++ flat_map service_fields services) (first ∙ ap (λ (gs : List GivenFields). map fields_given gs ++ map struct_fields structs) empty)
    ∙ (λ i. (structs_alike structs ∙ ap (λ (ss : List (Filed StructDecl)). map fields_filed (map fields_of_struct ss)) s) i
    ++ (services_alike services ∙ ap (λ (ss : List (Filed ServiceDecl)). map fields_filed (map args_of_function (flat_map functions_in ss))) v) i)
    ∙ sym (map-append fields_filed (map fields_of_struct (structs_of program)) (map args_of_function (flat_map functions_in (services_of program))))
