-- The values that a program of texts gives have short literals.
use Rattle.std.proofs.Common.{◌≡◌, ℕ, zero, suc, List, [], ◌∷◌, ◌++◌, map, length, Option, None, Some, slice_get, subst}
use Rattle.std.specs.Prelude.{MatchOption, ⊤}
use Rattle.std.specs.List.{AllByRecursion, filter_map, cons_option}
use Rattle.idl_include.specs.Written.{Written}
use Rattle.idl_include.specs.TypeExpr.{TypeExpr}
use Rattle.idl_include.specs.ConstExpr.{ConstExpr}
use Rattle.idl_include.specs.Declarations.{FieldDecl, FunctionDecl, EnumValueDecl, Declaration, of_const, of_typedef, of_enum, of_struct_decl, of_service, declared_name}
use Rattle.idl_include.specs.Program.{Program}
use Rattle.idl_include.specs.Numbering.{Filed, Counts, none_counted, counted, all_counted}
use Rattle.idl_include.specs.Spots.{GivenValue, Spotted, given_name, type_use, parent_use, typedef_spot, field_spot, thrown_spot, enum_value_spot, struct_spot, service_spot, function_spot, value_spot, Spot, type_spots, default_spots, spots_in_field, spots_in_fields, spots_in_throws, result_spots, spots_in_function, spots_in_functions, spots_in_enum, parent_spots, spots_in_declaration, spots_in_declarations, in_file, spots_from, spots_of, value_at, values_of}
use Rattle.check_model.proofs.FirstOnes.{somes, none_some}
use Rattle.check_model.proofs.Shown.{both_all, mapped}
use Rattle.idl_const.specs.ShortLiterals.{HasShortLiterals, GivesShortLiterals}
use Rattle.idl_check.specs.DeclaredTexts.{HasShortDefault, HasShortDefaults, HasShortValues, IsFileOfText, IsProgramOfTexts}

-- a spot that shows a value shows one with short literals
abbrev IsShortSpot : Spotted → Type 0
IsShortSpot (value_spot v) = HasShortLiterals v.tree
IsShortSpot _ = Unit {0}

type_uses : (names : List Written) → AllByRecursion IsShortSpot (map type_use names)
type_uses [] = tt
type_uses (name ∷ names) = (tt, type_uses names)

default_spot : (f : FieldDecl) (o : Option ConstExpr) → MatchOption o ⊤ HasShortLiterals → AllByRecursion IsShortSpot (default_spots f o)
default_spot f None h = tt
default_spot f (Some tree) h = (h, tt)

in_field : (before : List FieldDecl) (f : FieldDecl) → HasShortDefault f → AllByRecursion IsShortSpot (spots_in_field before f)
unfolding spots_in_field
in_field before f h = (tt, both_all IsShortSpot (type_spots f.type) _ (type_uses _) (tt, default_spot f f.default h))

in_fields : (before fs : List FieldDecl) → AllByRecursion HasShortDefault fs → AllByRecursion IsShortSpot (spots_in_fields before fs)
in_fields before [] h = tt
in_fields before (f ∷ fs) h = both_all IsShortSpot (spots_in_field before f) _ (in_field before f h.0) (in_fields (before ++ f ∷ []) fs h.1)

in_throws : (before fs : List FieldDecl) → AllByRecursion HasShortDefault fs → AllByRecursion IsShortSpot (spots_in_throws before fs)
in_throws before [] h = tt
in_throws before (f ∷ fs) h = (tt, both_all IsShortSpot (spots_in_field before f) _ (in_field before f h.0) (in_throws (before ++ f ∷ []) fs h.1))

in_result : (o : Option TypeExpr) → AllByRecursion IsShortSpot (result_spots o)
in_result None = tt
in_result (Some type) = type_uses _

in_function : (service : ℕ) (before : List FunctionDecl) (f : FunctionDecl) → HasShortDefaults f → AllByRecursion IsShortSpot (spots_in_function service before f)
unfolding spots_in_function
in_function service before f h =
    (tt, both_all IsShortSpot (result_spots f.result) _ (in_result f.result) (tt, both_all IsShortSpot (spots_in_fields [] f.arguments) _ (in_fields [] f.arguments h.0) (in_throws [] f.throws h.1)))

in_functions : (service : ℕ) (before fs : List FunctionDecl) → AllByRecursion HasShortDefaults fs → AllByRecursion IsShortSpot (spots_in_functions service before fs)
in_functions service before [] h = tt
in_functions service before (f ∷ fs) h =
    both_all IsShortSpot (spots_in_function service before f) _ (in_function service before f h.0) (in_functions service (before ++ f ∷ []) fs h.1)

in_enum : (before vs : List EnumValueDecl) → AllByRecursion IsShortSpot (spots_in_enum before vs)
in_enum before [] = tt
in_enum before (v ∷ vs) = (tt, (tt, in_enum (before ++ v ∷ []) vs))

in_parent : (o : Option Written) → AllByRecursion IsShortSpot (parent_spots o)
in_parent None = tt
in_parent (Some name) = (tt, tt)

in_declaration : (before : List Written) (n : Counts) (d : Declaration) → HasShortValues d → AllByRecursion IsShortSpot (spots_in_declaration before n d)
unfolding spots_in_declaration
in_declaration before n (of_const c) h = both_all IsShortSpot (type_spots c.type) _ (type_uses _) (tt, (h, tt))
in_declaration before n (of_typedef t) h = both_all IsShortSpot (type_spots t.type) _ (type_uses _) (tt, (tt, tt))
in_declaration before n (of_enum e) h = (tt, in_enum [] e.values)
in_declaration before n (of_struct_decl s) h = (tt, (tt, in_fields [] s.fields h))
in_declaration before n (of_service s) h = (tt, (tt, both_all IsShortSpot (parent_spots s.parent) _ (in_parent s.parent) (in_functions n.services [] s.functions h)))

in_declarations : (before : List Written) (n : Counts) (ds : List Declaration) → AllByRecursion HasShortValues ds → AllByRecursion IsShortSpot (spots_in_declarations before n ds)
in_declarations before n [] h = tt
in_declarations before n (d ∷ ds) h =
    both_all IsShortSpot (spots_in_declaration before n d) _ (in_declaration before n d h.0) (in_declarations (before ++ declared_name d ∷ []) (counted n d) ds h.1)

abbrev ShowsShort : Spot → Type 0
ShowsShort s = IsShortSpot s.shows

in_files : (count number : ℕ) (n : Counts) (fs : Program) → AllByRecursion (IsFileOfText count) fs → AllByRecursion ShowsShort (spots_from number n fs)
in_files count number n [] h = tt
in_files count number n (f ∷ fs) h =
    both_all ShowsShort (in_file number (spots_in_declarations [] n f.declarations)) _
    (mapped ShowsShort (λ x. record { file = number; shows = x }) (spots_in_declarations [] n f.declarations) (in_declarations [] n f.declarations h.0.text.values))
    (in_files count (suc number) (all_counted n f.declarations) fs h.1)

-- the values among them
abbrev IsShortGiven : Filed GivenValue → Type 0
IsShortGiven v = HasShortLiterals v.item.tree

shown_short : (file : ℕ) (x : Spotted) (rest : List (Filed GivenValue)) → IsShortSpot x → AllByRecursion IsShortGiven rest → AllByRecursion IsShortGiven (cons_option (value_at file x) rest)
shown_short file (value_spot v) rest h k = (h, k)
shown_short file (given_name _ _) rest h k = k
shown_short file (type_use _) rest h k = k
shown_short file (parent_use _) rest h k = k
shown_short file (typedef_spot _ _) rest h k = k
shown_short file (field_spot _ _) rest h k = k
shown_short file (thrown_spot _) rest h k = k
shown_short file (enum_value_spot _ _) rest h k = k
shown_short file (struct_spot _ _) rest h k = k
shown_short file (service_spot _ _) rest h k = k
shown_short file (function_spot _ _ _) rest h k = k

values_short : (spots : List Spot) → AllByRecursion ShowsShort spots → AllByRecursion IsShortGiven (filter_map (λ (s : Spot). value_at s.file s.shows) spots)
values_short [] h = tt
values_short (s ∷ spots) h = shown_short s.file s.shows _ h.0 (values_short spots h.1)

at_place : {A : Type 0} (Q : A → Type 0) (xs : List A) → AllByRecursion Q xs → (k : ℕ) (x : A) → slice_get xs k ≡ Some x → Q x
at_place Q [] h k x e = absurd (none_some x e)
at_place Q (y ∷ xs) h zero x e = subst Q (somes y x e) h.0
at_place Q (y ∷ xs) h (suc k) x e = at_place Q xs h.1 k x e

pub gives_short : (program : Program) → IsProgramOfTexts program → GivesShortLiterals program
unfolding values_of spots_of
gives_short program texts which v at =
    at_place IsShortGiven _ (values_short _ (in_files (length program) 0 none_counted program texts.files)) which v at
