-- A program of texts has fewer definitions, functions included, than 32 bits count.
use Rattle.std.proofs.Common.{◌≡◌, ℕ, suc, ◌+◌, ◌*◌, ◌<◌, ◌≤◌, ◌^◌, List, [], ◌∷◌, ◌++◌, map, length, Option, None, Some, refl, ap, length-append, arith}
use Rattle.std.specs.List.{AllByRecursion, filter_map, cons_option, flat_map}
use Rattle.idl_include.specs.Declarations.{FunctionDecl, ServiceDecl, Declaration, of_const, of_typedef, of_enum, of_struct_decl, of_service}
use Rattle.idl_include.specs.Program.{Program}
use Rattle.idl_include.specs.Numbering.{Filed, filed, picked_from, const_in, typedef_in, enum_in, struct_in, service_in, constants_of, typedefs_of, enums_of, structs_of, services_of, functions_in, all_functions}
use Rattle.idl_check.specs.DeclaredTexts.{item_count, IsFileOfText, IsProgramOfTexts}

pub same_length : {A B : Type 0} (f : A → B) (xs : List A) → length (map f xs) ≡ length xs
same_length f [] = refl
same_length f (x ∷ xs) = ap suc (same_length f xs)

-- how many definitions files have, functions included
abbrev total : Program → ℕ
total [] = 0
total (f ∷ fs) = item_count f.declarations + total fs

at_most_one : {A : Type 0} (o : Option A) (xs : List A) → length (cons_option o xs) ≤ suc (length xs)
at_most_one None xs = omega arith
at_most_one (Some x) xs = omega arith

few_of_kind : {A : Type 0} (pick : Declaration → Option A) (ds : List Declaration) → length (filter_map pick ds) ≤ item_count ds
few_of_kind pick [] = omega arith
few_of_kind pick (d ∷ ds) = let one = at_most_one (pick d) (filter_map pick ds) in let rest = few_of_kind pick ds in omega arith

few_picked : {A : Type 0} (pick : Declaration → Option A) (file : ℕ) (fs : Program) → length (picked_from pick file fs) ≤ total fs
few_picked pick file [] = omega arith
few_picked {A} pick file (f ∷ fs) =
    let own = few_of_kind pick f.declarations in
    let rest = few_picked pick (suc file) fs in
    let both = length-append (filed file (filter_map pick f.declarations)) (picked_from pick (suc file) fs) in
    let as_many = same_length (λ (x : A). let y : Filed A = record { file = file; item = x } in y) (filter_map pick f.declarations) in
    omega (arith, own, rest, both, as_many)

-- structs, and functions of services
functions_of_file : (file : ℕ) (ds : List Declaration) (more : List (Filed ServiceDecl))
    → length (filter_map struct_in ds) + length (flat_map functions_in (filed file (filter_map service_in ds) ++ more)) ≤ item_count ds + length (flat_map functions_in more)
functions_of_file file [] more = omega arith
functions_of_file file (of_const c ∷ ds) more = omega (arith, functions_of_file file ds more)
functions_of_file file (of_typedef t ∷ ds) more = omega (arith, functions_of_file file ds more)
functions_of_file file (of_enum e ∷ ds) more = omega (arith, functions_of_file file ds more)
functions_of_file file (of_struct_decl s ∷ ds) more = omega (arith, functions_of_file file ds more)
functions_of_file file (of_service s ∷ ds) more =
    let service : Filed ServiceDecl = record { file = file; item = s } in
    let both = length-append (functions_in service) (flat_map functions_in (filed file (filter_map service_in ds) ++ more)) in
    let as_many = same_length (λ (x : FunctionDecl). let y : Filed FunctionDecl = record { file = file; item = x } in y) s.functions in
    omega (arith, functions_of_file file ds more, both, as_many)

few_structs : (file : ℕ) (fs : Program) → length (picked_from struct_in file fs) + length (flat_map functions_in (picked_from service_in file fs)) ≤ total fs
few_structs file [] = omega arith
few_structs file (f ∷ fs) =
    let own = functions_of_file file f.declarations (picked_from service_in (suc file) fs) in
    let rest = few_structs (suc file) fs in
    let both = length-append (filed file (filter_map struct_in f.declarations)) (picked_from struct_in (suc file) fs) in
    let as_many = same_length (λ x. let y : Filed _ = record { file = file; item = x } in y) (filter_map struct_in f.declarations) in
    omega (arith, own, rest, both, as_many)

few_in_all : (count : ℕ) (fs : Program) → AllByRecursion (IsFileOfText count) fs → total fs ≤ 4194304 * length fs
few_in_all count [] h = omega arith
few_in_all count (f ∷ fs) h = omega (arith, h.0.text.few, few_in_all count fs h.1)

module _ (program : Program) (texts : IsProgramOfTexts program) where
  few : total program ≤ 2 ^ 30
  few = omega (arith, few_in_all (length program) program texts.files, texts.most)

  pub few_constants : length (constants_of program) < 2 ^ 32
  unfolding constants_of
  few_constants = omega (arith, few, few_picked const_in 0 program)

  pub few_typedefs : length (typedefs_of program) < 2 ^ 32
  unfolding typedefs_of
  few_typedefs = omega (arith, few, few_picked typedef_in 0 program)

  pub few_enums : length (enums_of program) < 2 ^ 32
  unfolding enums_of
  few_enums = omega (arith, few, few_picked enum_in 0 program)

  pub few_services : length (services_of program) < 2 ^ 32
  unfolding services_of
  few_services = omega (arith, few, few_picked service_in 0 program)

  pub few_lists : length (structs_of program) + length (all_functions program) < 2 ^ 32
  unfolding structs_of services_of all_functions
  few_lists = omega (arith, few, few_structs 0 program)
