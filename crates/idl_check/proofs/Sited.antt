-- The lists of fields that are structs of a schema.
use Rattle.std.proofs.Common.{◌≡◌, ◌++◌, List, [], ◌∷◌, map, ap, sym, ◌∙◌}
use Rattle.std.specs.List.{flat_map}
use Rattle.std.proofs.lemmas.List.{map-append}
use Rattle.idl_parser.specs.declared.tree.Struct.{Struct}
use Rattle.idl_parser.specs.declared.tree.Service.{Service}
use Rattle.idl_include.specs.Program.{Program}
use Rattle.idl_include.specs.Numbering.{structs_of, services_of}
use Rattle.idl_names.specs.declared.filed.InFile.{InFile}
use Rattle.idl_names.specs.FiledIn.{filed_structs, filed_services}
use Rattle.check_model.specs.FieldLists.{FieldsDecl, field_lists}
use Rattle.schema_bare.specs.GivenLists.{struct_given, service_args}
use Rattle.schema_bare.proofs.Adding.{lists_given}
use Rattle.idl_check.specs.declared.sites.FieldSite.{FieldSite}
use Rattle.idl_check.specs.Sites.{sited, sited_in}

-- those that items of a list give, behind others
abbrev pub AreBehind : {D : Type 0} → (D → List FieldsDecl) → List FieldSite → List D → List FieldSite → Type 0
AreBehind given old items new = map sited_in new ≡ map sited_in old ++ map sited (flat_map given items)

-- one list for each item
abbrev pub one_given : {D : Type 0} → (D → FieldsDecl) → D → List FieldsDecl
one_given given x = given x ∷ []

pub sites_of : (program : Program) (structs : List (InFile Struct)) (services : List (InFile Service)) (none new : List FieldSite) → none ≡ []
    → map sited_in new ≡ (map sited_in none ++ map sited (map struct_given structs)) ++ map sited (flat_map service_args services)
    → filed_structs structs ≡ structs_of program → filed_services services ≡ services_of program → map sited_in new ≡ map sited (field_lists program)
sites_of program structs services none new empty put s v =
    put ∙ ap (λ (ss : List FieldSite). (map sited_in ss ++ map sited (map struct_given structs)) ++ map sited (flat_map service_args services)) empty
    ∙ sym (map-append sited (map struct_given structs) (flat_map service_args services)) ∙ ap (map sited) (lists_given program structs services s v)
