-- Rows of numbers, one more at a time.
use Rattle.std.proofs.Common.{◌≡◌, ◌≤◌, ◌<◌, ◌+◌, ◌++◌, ℕ, List, [], ◌∷◌, map, length, get_or, take, refl, ap, sym, ◌∙◌}
use Rattle.std.specs.List.{filter_map}
use Rattle.std.proofs.lemmas.List.{map-append}
use Rattle.std.proofs.lemmas.Simd.{map-map}
use Rattle.std.proofs.lemmas.List.Elements.{filter_map-append}
use Rattle.idl_parser.specs.declared.tree.Typedef.{Typedef}
use Rattle.idl_parser.specs.declared.tree.Service.{Service}
use Rattle.idl_include.specs.TypeExpr.{TypeExpr, base_expr, name_expr, map_expr, set_expr, list_expr, names_in_type}
use Rattle.idl_include.specs.DeclaredIn.{type_in}
use Rattle.idl_include.specs.Numbering.{typedefs_of, services_of}
use Rattle.idl_include.specs.Program.{Program}
use Rattle.idl_include.specs.Cycles.{aliases_below, alias_graph, parent_named, parent_graph, listed}
use Rattle.idl_names.specs.declared.filed.InFile.{InFile}
use Rattle.idl_names.specs.FiledIn.{filed_by, typedef_declared, service_declared}
use Rattle.idl_names.proofs.Marked.{taken_more}
use Rattle.idl_names.proofs.Found.{mapped_alike}
use Rattle.idl_names.proofs.Based.{take_past}
use Rattle.idl_types.specs.Rows.{alias_for, aliases_in_type, parents_of}

-- typedefs that a type names, by the names in it
pub aliases_kept : (program : Program) (file : ℕ) (type : TypeExpr) → aliases_in_type program file type ≡ filter_map (alias_for program file) (names_in_type type)
aliases_kept program file (base_expr base) = refl
aliases_kept program file (name_expr name) = refl
aliases_kept program file (map_expr key value) =
    (λ i. aliases_kept program file key i ++ aliases_kept program file value i)
    ∙ sym (filter_map-append (alias_for program file) (names_in_type key) (names_in_type value))
aliases_kept program file (set_expr member) = aliases_kept program file member
aliases_kept program file (list_expr element) = aliases_kept program file element

-- a row more
pub row_next : {A B R : Type 0} (g : R → B) (f : A → B) (xs : List A) (i : ℕ) (x : A) (row : R) (old new : List R) → i < length xs → x ≡ get_or xs i x → g row ≡ f x
    → new ≡ old ++ row ∷ [] → map g old ≡ map f (take i xs) → map g new ≡ map f (take (i + 1) xs)
row_next g f xs i x row old new l here is pushed so_far =
    ap (map g) pushed
    ∙ map-append g old (row ∷ [])
    ∙ (λ j. so_far j ++ is j ∷ [])
    ∙ sym (map-append f (take i xs) (x ∷ []))
    ∙ ap (map f) (sym (taken_more xs i x l here))

pub rows_end : {A B : Type 0} (f : A → B) (xs : List A) (i : ℕ) (made : List B) → length xs ≤ i → made ≡ map f (take i xs) → made ≡ map f xs
rows_end f xs i made past so_far = so_far ∙ ap (map f) (take_past xs i past)

-- the typedefs that a typedef's type names
abbrev pub aliases_of : Program → InFile Typedef → List ℕ
aliases_of program t = aliases_in_type program t.file (type_in t.item.now.kind)

pub aliases_are : (program : Program) (typedefs : List (InFile Typedef)) → map (filed_by typedef_declared) typedefs ≡ typedefs_of program
    → map (aliases_of program) typedefs ≡ alias_graph program
unfolding alias_graph
aliases_are program typedefs is =
    mapped_alike (aliases_of program) (λ t. aliases_below program (filed_by typedef_declared t)) (λ t. aliases_kept program t.file (type_in t.item.now.kind)) typedefs
    ∙ sym (map-map (aliases_below program) (filed_by typedef_declared) typedefs)
    ∙ ap (map (aliases_below program)) is

pub parents_are : (program : Program) (services : List (InFile Service)) → map (filed_by service_declared) services ≡ services_of program
    → map (λ (s : InFile Service). parent_named program (filed_by service_declared s)) services ≡ parents_of program
unfolding parents_of
parents_are program services is = sym (map-map (parent_named program) (filed_by service_declared) services) ∙ ap (map (parent_named program)) is

pub parent_rows_are : (program : Program) → map listed (parents_of program) ≡ parent_graph program
unfolding parents_of parent_graph
parent_rows_are program = map-map listed (parent_named program) (services_of program)
