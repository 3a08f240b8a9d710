-- The files of a schema, one more at a time.
use Rattle.std.proofs.Common.{◌≡◌, ◌≤◌, ◌<◌, ◌+◌, ◌++◌, ℕ, List, [], ◌∷◌, map, length, get_or, drop, refl, ap, sym, ◌∙◌}
use Rattle.std.proofs.lemmas.List.{append-nil}
use Rattle.idl_parser.specs.declared.tree.Definition.{Definition}
use Rattle.idl_include.specs.DeclaredIn.{definition_in, definitions_in}
use Rattle.idl_include.specs.Program.{SourceFile}
use Rattle.idl_include.specs.Numbering.{Counts, none_counted, counted, all_counted}
use Rattle.idl_include.specs.declared.sources.IdlFile.{IdlFile}
use Rattle.idl_include.specs.SourcesOf.{file_in, program_in}
use Rattle.idl_names.proofs.Listed.{past_end}
use Rattle.idl_names.proofs.Walked.{walk_next}
use Rattle.schema.specs.declared.types.DefRef.{DefRef}
use Rattle.schema.specs.PlainSchema.{PlainFile}
use Rattle.check_model.specs.SchemaParts.{ref_behind, refs_behind, files_behind, files_of}

pub ref_next : (ds : List Definition) (i : ℕ) (x : Definition) (n m : Counts) (old new all : List DefRef) → i < length ds → x ≡ get_or ds i x
    → m ≡ counted n (definition_in x) → new ≡ old ++ ref_behind n (definition_in x) ∷ []
    → old ++ refs_behind n (map definition_in (drop i ds)) ≡ all → new ++ refs_behind m (map definition_in (drop (i + 1) ds)) ≡ all
ref_next ds i x n m old new all l here count pushed so_far =
    walk_next refs_behind (λ k d. ref_behind k d ∷ []) counted (λ _ _ _. refl) definition_in ds i x n m old new all l here count pushed so_far

pub refs_end : (ds : List Definition) (i : ℕ) (n : Counts) (xs all : List DefRef) → length ds ≤ i → xs ++ refs_behind n (map definition_in (drop i ds)) ≡ all → xs ≡ all
refs_end ds i n xs all past so_far =
    sym (append-nil xs) ∙ sym (ap (λ (r : List Definition). xs ++ refs_behind n (map definition_in r)) (past_end ds i past)) ∙ so_far

-- a file by itself
abbrev pub file_behind : Counts → SourceFile → List PlainFile
file_behind n file = files_behind n (file ∷ [])

pub file_next : (files : List IdlFile) (i : ℕ) (x : IdlFile) (n m : Counts) (old new all : List PlainFile) → i < length files → x ≡ get_or files i x
    → m ≡ all_counted n (map definition_in x.document.definitions.items) → new ≡ old ++ files_behind n (file_in x ∷ [])
    → old ++ files_behind n (program_in (drop i files)) ≡ all → new ++ files_behind m (program_in (drop (i + 1) files)) ≡ all
unfolding definitions_in
file_next files i x n m old new all l here count made so_far =
    walk_next files_behind file_behind (λ k f. all_counted k f.declarations) (λ _ _ _. refl) file_in files i x n m old new all l here count made so_far

pub files_end : (files : List IdlFile) (i : ℕ) (n : Counts) (xs : List PlainFile) → length files ≤ i
    → xs ++ files_behind n (program_in (drop i files)) ≡ files_behind none_counted (program_in files) → xs ≡ files_of (program_in files)
unfolding files_of
files_end files i n xs past so_far =
    sym (append-nil xs) ∙ sym (ap (λ (fs : List IdlFile). xs ++ files_behind n (program_in fs)) (past_end files i past)) ∙ so_far
