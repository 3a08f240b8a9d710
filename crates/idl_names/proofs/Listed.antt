-- The definitions of a program, listed one more at a time, are those of each kind.
use Rattle.std.proofs.Common.{◌≡◌, ◌≤◌, ◌<◌, ◌+◌, ℕ, zero, suc, List, [], ◌∷◌, ◌++◌, map, length, get_or, drop, Option, None, Some, refl, ap, sym, ◌∙◌, arith, append_assoc, add-one}
use Rattle.std.specs.List.{filter_map, cons_option}
use Rattle.std.proofs.lemmas.List.{append-nil}
use Rattle.idl_include.specs.Declarations.{Declaration}
use Rattle.idl_include.specs.DeclaredIn.{definition_in, definitions_in}
use Rattle.idl_include.specs.Program.{Program}
use Rattle.idl_include.specs.Numbering.{Filed, filed, picked_from, const_in, typedef_in, enum_in, struct_in, service_in, constants_of, typedefs_of, enums_of, structs_of, services_of}
use Rattle.idl_include.specs.declared.sources.IdlFile.{IdlFile}
use Rattle.idl_include.specs.SourcesOf.{program_in}
use Rattle.idl_names.specs.Listing.{Listing, nothing_listed, listed_more, with_definition, with_definitions, with_files, listing_of}
use Rattle.idl_names.proofs.Marked.{left_more}

more_behind : {A : Type 0} (file : ℕ) (o : Option A) (xs : List (Filed A)) (more : List A) → listed_more file o xs ++ filed file more ≡ xs ++ filed file (cons_option o more)
more_behind file None xs more = refl
more_behind file (Some x) xs more = append_assoc xs (record { file = file; item = x } ∷ []) (filed file more)

-- one kind
module _ {A : Type 0} (pick : Declaration → Option A) (part : Listing → List (Filed A))
    (step : (file : ℕ) (d : Declaration) (l : Listing) → part (with_definition file d l) ≡ listed_more file (pick d) (part l)) where
  of_file : (file : ℕ) (ds : List Declaration) (l : Listing) → part (with_definitions file ds l) ≡ part l ++ filed file (filter_map pick ds)
  of_file file [] l = sym (append-nil (part l))
  of_file file (d ∷ ds) l =
      of_file file ds (with_definition file d l)
      ∙ ap (λ (xs : List (Filed A)). xs ++ filed file (filter_map pick ds)) (step file d l)
      ∙ more_behind file (pick d) (part l) (filter_map pick ds)

  of_files : (number : ℕ) (files : Program) (l : Listing) → part (with_files number files l) ≡ part l ++ picked_from pick number files
  of_files number [] l = sym (append-nil (part l))
  of_files number (f ∷ fs) l =
      of_files (suc number) fs (with_definitions number f.declarations l)
      ∙ ap (λ (xs : List (Filed A)). xs ++ picked_from pick (suc number) fs) (of_file number f.declarations l)
      ∙ append_assoc (part l) (filed number (filter_map pick f.declarations)) (picked_from pick (suc number) fs)

-- all kinds
pub listing_whole : (program : Program) → with_files 0 program nothing_listed ≡ listing_of program
unfolding with_definition constants_of typedefs_of enums_of structs_of services_of
listing_whole program = λ i. record {
  constants = of_files const_in (λ (l : Listing). l.constants) (λ _ _ _. refl) 0 program nothing_listed i;
  aliases = of_files typedef_in (λ (l : Listing). l.aliases) (λ _ _ _. refl) 0 program nothing_listed i;
  enums = of_files enum_in (λ (l : Listing). l.enums) (λ _ _ _. refl) 0 program nothing_listed i;
  structs = of_files struct_in (λ (l : Listing). l.structs) (λ _ _ _. refl) 0 program nothing_listed i;
  services = of_files service_in (λ (l : Listing). l.services) (λ _ _ _. refl) 0 program nothing_listed i;
}

-- ---- files, one after another

pub past_end : {A : Type 0} (xs : List A) (n : ℕ) → length xs ≤ n → drop n xs ≡ []
past_end [] zero l = refl
past_end [] (suc n) l = refl
past_end (x ∷ xs) zero l = absurd (omega arith)
past_end (x ∷ xs) (suc n) l = past_end xs n (omega arith)

pub file_listed : (files : List IdlFile) (i number : ℕ) (x : IdlFile) (old new all : Listing) → i < length files → x ≡ get_or files i x → number ≡ i
    → new ≡ with_definitions number (map definition_in x.document.definitions.items) old
    → with_files i (program_in (drop i files)) old ≡ all → with_files (i + 1) (program_in (drop (i + 1) files)) new ≡ all
unfolding definitions_in
file_listed files i number x old new all l here counted made so_far =
    (λ j. with_files (add-one i j) (program_in (drop (i + 1) files)) ((made ∙ ap (λ n. with_definitions n (map definition_in x.document.definitions.items) old) counted) j))
    ∙ sym (ap (λ (fs : List IdlFile). with_files i (program_in fs) old) (left_more files i x l here))
    ∙ so_far

pub files_listed : (files : List IdlFile) (n : ℕ) (l : Listing) → length files ≤ n
    → with_files n (program_in (drop n files)) l ≡ with_files 0 (program_in files) nothing_listed → l ≡ listing_of (program_in files)
files_listed files n l past so_far =
    sym (ap (λ (fs : List IdlFile). with_files n (program_in fs) l) (past_end files n past)) ∙ so_far ∙ listing_whole (program_in files)
