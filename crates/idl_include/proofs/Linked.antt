-- A file includes one file more.
use Rattle.std.proofs.Common.{◌≡◌, ◌<◌, ℕ, zero, suc, Bool, true, false, List, [], ◌∷◌, ◌++◌, map, length, get_or, set, All, Result, Ok, Err, is_ok, OnOk, refl, ap, sym, subst, ◌∙◌, arith, length-set}
use Rattle.std.specs.Prelude.{if◌then◌else◌}
use Rattle.std.proofs.lemmas.List.Elements.{All-push, All-set, All-get_or}
use Rattle.idl_parser.specs.declared.tree.Document.{Document}
use Rattle.idl_parser.specs.Trees.{document_node}
use Rattle.idl_include.specs.Declarations.{Declaration}
use Rattle.idl_include.specs.DeclaredIn.{definitions_in}
use Rattle.idl_include.specs.FileNames.{base_name}
use Rattle.idl_include.specs.Program.{SourceFile}
use Rattle.idl_include.specs.Readings.{FileReading, read_as}
use Rattle.idl_include.specs.Loading.{is_among, with_include, linked}
use Rattle.idl_include.specs.declared.sources.IdlFile.{IdlFile}
use Rattle.idl_include.specs.SourcesOf.{file_in, program_in, IsOfSomeText, IsFile, HaveOwnBases, AreBegun}
use Rattle.idl_include.specs.Loads.{AreRead}
use Rattle.idl_include.specs.Begun.{HasInclude, KeepsFiles}

-- ---- the program

with_more : (number : ℕ) (old new : IdlFile) → HasInclude true number old new → file_in new ≡ with_include number (file_in old)
with_more number old new h =
    let mk : List ℕ → List Declaration → List ℕ → SourceFile = λ n d i. record { name = n; declarations = d; includes = i } in
    ap (λ (n : List ℕ). mk n (definitions_in new.document) new.includes.items) h.name
    ∙ ap (λ (d : Document). mk old.name (definitions_in d) new.includes.items) h.document
    ∙ ap (λ (i : List ℕ). mk old.name (definitions_in old.document) i) h.includes

program_set : (files : List IdlFile) (of number : ℕ) (d new : IdlFile) → HasInclude true number (get_or files of d) new
    → map file_in (set files of new) ≡ linked of number (map file_in files)
program_set [] of number d new h = refl
program_set (x ∷ files) zero number d new h = ap (λ (f : SourceFile). f ∷ map file_in files) (with_more number x new h)
program_set (x ∷ files) (suc of) number d new h = ap (λ (fs : List SourceFile). file_in x ∷ fs) (program_set files of number d new h)

-- ---- the readings

same_reading : (more : Bool) (number : ℕ) (old new : IdlFile) (reader : List ℕ → FileReading) → HasInclude more number old new
    → (reader old.name ≡ read_as (document_node old.document)) → reader new.name ≡ read_as (document_node new.document)
same_reading more number old new reader h e = ap reader h.name ∙ e ∙ ap (λ (d : Document). read_as (document_node d)) (sym h.document)

back_reading : (more : Bool) (number : ℕ) (old new : IdlFile) (reader : List ℕ → FileReading) → HasInclude more number old new
    → (reader new.name ≡ read_as (document_node new.document)) → reader old.name ≡ read_as (document_node old.document)
back_reading more number old new reader h e = ap reader (sym h.name) ∙ e ∙ ap (λ (d : Document). read_as (document_node d)) h.document

read_set : (more : Bool) (files : List IdlFile) (of number : ℕ) (d new : IdlFile) (reader : List ℕ → FileReading) → HasInclude more number (get_or files of d) new
    → AreRead reader files → AreRead reader (set files of new)
read_set more [] of number d new reader h r = tt
read_set more (x ∷ files) zero number d new reader h r = (same_reading more number x new reader h r.0, r.1)
read_set more (x ∷ files) (suc of) number d new reader h r = (r.0, read_set more files of number d new reader h r.1)

read_unset : (more : Bool) (files : List IdlFile) (of number : ℕ) (d new : IdlFile) (reader : List ℕ → FileReading) → HasInclude more number (get_or files of d) new
    → AreRead reader (set files of new) → AreRead reader files
read_unset more [] of number d new reader h r = tt
read_unset more (x ∷ files) zero number d new reader h r = (back_reading more number x new reader h r.0, r.1)
read_unset more (x ∷ files) (suc of) number d new reader h r = (r.0, read_unset more files of number d new reader h r.1)

-- ---- soundness

bases_set : (before : List (List ℕ)) (files : List IdlFile) (of : ℕ) (d new : IdlFile) → new.base ≡ (get_or files of d).base → HaveOwnBases before files
    → HaveOwnBases before (set files of new)
bases_set before [] of d new e h = tt
bases_set before (x ∷ files) zero d new e h =
    let P : List ℕ → Type 0 = λ b. (is_among b before ≡ false) × HaveOwnBases (b ∷ before) files in
    subst P (sym e) h
bases_set before (x ∷ files) (suc of) d new e h = (h.0, bases_set (x.base ∷ before) files of d new e h.1)

numbers_of : (more : Bool) (number n : ℕ) (old new : List ℕ) → number < n → new ≡ (if more then old ++ number ∷ [] else old) → All (λ k. k < n) old → All (λ k. k < n) new
numbers_of true number n old new l e h =
    let P : List ℕ → Type 0 = λ numbers. All (λ k. k < n) numbers in
    subst P (sym e) (All-push (λ (k : ℕ). k < n) old number h l)
numbers_of false number n old new l e h = let P : List ℕ → Type 0 = λ numbers. All (λ k. k < n) numbers in subst P (sym e) h

still_file : (more : Bool) (number n : ℕ) (old new : IdlFile) → number < n → HasInclude more number old new → IsFile n old → IsFile n new
still_file more number n old new l h f = record {
  base = h.base ∙ f.base ∙ ap base_name (sym h.name);
  document = subst (λ (d : Document). IsOfSomeText d) (sym h.document) f.document;
  includes = numbers_of more number n old.includes.items new.includes.items l h.includes f.includes;
}

begun_set : (more : Bool) (files : List IdlFile) (of number : ℕ) (d new : IdlFile) → of < length files → number < length files → HasInclude more number (get_or files of d) new
    → AreBegun files → AreBegun (set files of new)
begun_set more files of number d new in_files l h b =
    let same : length (set files of new) ≡ length files = length-set files of new in
    let P : ℕ → Type 0 = λ n. All (IsFile n) (set files of new) in
    let old : IsFile (length files) (get_or files of d) = All-get_or (IsFile (length files)) files of d in_files b.each in
    let all : P (length files) = All-set (IsFile (length files)) files of new (still_file more number (length files) (get_or files of d) new l h old) b.each in
    record {
      most = omega (arith, same, b.most);
      bases = bases_set [] files of d new h.base b.bases;
      each = subst P (sym same) all;
    }

-- ---- both

keeps_set : (more : Bool) (files after : List IdlFile) (of number : ℕ) (d new : IdlFile) → AreBegun files → of < length files → number < length files
    → HasInclude more number (get_or files of d) new → after ≡ set files of new → KeepsFiles files after
keeps_set more files after of number d new begun in_files l h e =
    let here : KeepsFiles files (set files of new) = record {
      as_many = length-set files of new;
      begun = begun_set more files of number d new in_files l h begun;
      kept = λ reader r. read_unset more files of number d new reader h r;
      read = λ reader r. read_set more files of number d new reader h r;
    } in
    subst (λ (fs : List IdlFile). KeepsFiles files fs) (sym e) here

pub keeps_at : (more : Bool) (files : List IdlFile) (of number : ℕ) (old new : IdlFile) → AreBegun files → of < length files → number < length files → old ≡ get_or files of old
    → HasInclude more number old new → KeepsFiles files (set files of new)
keeps_at more files of number old new begun in_files l e h =
    keeps_set more files (set files of new) of number old new begun in_files l (subst (λ (x : IdlFile). HasInclude more number x new) e h) refl

pub links_at : {A E : Type 0} (result : Result A E) (files : List IdlFile) (of number : ℕ) (old new : IdlFile) → old ≡ get_or files of old → HasInclude (is_ok result) number old new
    → OnOk result (program_in (set files of new) ≡ linked of number (program_in files))
links_at (Ok done) files of number old new e h = program_set files of number old new (subst (λ (x : IdlFile). HasInclude true number x new) e h)
links_at (Err fault) files of number old new e h = tt
