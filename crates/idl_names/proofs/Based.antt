-- Included files by base name, one more at a time.
use Rattle.std.proofs.Common.{◌≡◌, ◌≤◌, ◌<◌, ◌+◌, ◌++◌, ℕ, zero, suc, false, List, [], ◌∷◌, length, get_or, take, slice_get, Option, Result, Ok, Err, refl, ap, sym, subst, ◌∙◌, arith, add-one}
use Rattle.std.specs.Option.{option_or, option_map, option_map_or}
use Rattle.std.specs.Prelude.{OnOk}
use Rattle.std.specs.Str.{bytes_eq}
use Rattle.std.specs.List.{find, AllZip}
use Rattle.std.proofs.Math.Seq.{take-suc}
use Rattle.std.proofs.lemmas.Option.{slice_get-map, slice_get_read}
use Rattle.std.proofs.lemmas.List.Folds.{find-append}
use Rattle.idl_include.specs.Program.{Program, SourceFile, base_of_file}
use Rattle.idl_include.specs.Names.{has_base, included_with}
use Rattle.idl_include.specs.declared.sources.IdlFile.{IdlFile}
use Rattle.idl_include.specs.SourcesOf.{file_in, program_in}
use Rattle.idl_names.specs.NameMaps.{NameMap, number_of_name, number_in_file, number_if, HasOneMore}
use Rattle.idl_names.specs.Bases.{HasOwnBase, NotesInclude, HasIncludes}
use Rattle.idl_names.proofs.Marked.{taken_more}

-- what an included file adds, by its base name in memory
noted : (files : List IdlFile) (number : ℕ) (file : IdlFile) → number < length files → file ≡ get_or files number file → HasOwnBase (get_or files number file)
    → (base : List ℕ) → has_base (program_in files) base number ≡ bytes_eq file.base base
noted files number file l here own base =
    ap (λ (o : Option SourceFile). option_map_or (λ (f : SourceFile). bytes_eq (base_of_file f) base) o false)
    (slice_get-map file_in files number ∙ ap (option_map file_in) (slice_get_read files (length files) number file refl l here))
    ∙ ap (λ (name : List ℕ). bytes_eq name base) (sym (subst HasOwnBase (sym here) own))

pub notes_include : {E : Type 0} (files : List IdlFile) (number : ℕ) (file : IdlFile) (name : List ℕ) (old new : NameMap) (noting : Result (Unit {0}) E)
    → number < length files → file ≡ get_or files number file → HasOwnBase (get_or files number file) → name ≡ file.base
    → OnOk noting (HasOneMore name number old new) → OnOk noting (NotesInclude (program_in files) number old new)
notes_include files number file name old new (Err e) l here own named more = tt
notes_include files number file name old new (Ok _) l here own named more = λ base.
    more base
    ∙ ap (λ b. option_or (number_of_name old base) (number_if b number)) (ap (λ n. bytes_eq n base) named ∙ sym (noted files number file l here own base))

pub included_next : (program : Program) (includes : List ℕ) (i : ℕ) (old new : NameMap) → i < length includes
    → NotesInclude program (get_or includes i 0) old new → ((base : List ℕ) → number_of_name old base ≡ find (has_base program base) (take i includes))
    → (base : List ℕ) → number_of_name new base ≡ find (has_base program base) (take (i + 1) includes)
included_next program includes i old new l more so_far base =
    let number : ℕ = get_or includes i 0 in
    more base
    ∙ ap (λ (o : Option ℕ). option_or o (number_if (has_base program base number) number)) (so_far base)
    ∙ sym (find-append (has_base program base) (take i includes) (number ∷ []))
    ∙ ap (find (has_base program base)) (sym (ap (λ k. take k includes) (add-one i) ∙ take-suc includes i 0 l))

pub zip_push : {A B : Type 0} (R : A → B → Type 0) (xs : List A) (ys : List B) (x : A) (y : B) → AllZip R xs ys → R x y → AllZip R (xs ++ x ∷ []) (ys ++ y ∷ [])
zip_push R [] [] x y h r = (r, tt)
zip_push R [] (b ∷ ys) x y h r = absurd h
zip_push R (a ∷ xs) [] x y h r = absurd h
zip_push R (a ∷ xs) (b ∷ ys) x y h r = (h.0, zip_push R xs ys x y h.1 r)

pub bases_next : (program : Program) (files : List IdlFile) (i : ℕ) (file : IdlFile) (old new : List NameMap) (m : NameMap) → i < length files → file ≡ get_or files i file
    → new ≡ old ++ m ∷ [] → HasIncludes program m file → AllZip (HasIncludes program) old (take i files) → AllZip (HasIncludes program) new (take (i + 1) files)
bases_next program files i file old new m l here pushed own so_far =
    let P : List NameMap → Type 0 = λ ms. AllZip (HasIncludes program) ms (take (i + 1) files) in
    let Q : List IdlFile → Type 0 = λ fs. AllZip (HasIncludes program) (old ++ m ∷ []) fs in
    subst P (sym pushed) (subst Q (sym (taken_more files i file l here)) (zip_push (HasIncludes program) old (take i files) m file so_far own))

found_in : (program : Program) (maps : List NameMap) (files : List IdlFile) → AllZip (HasIncludes program) maps files → (file : ℕ) (base : List ℕ)
    → number_in_file maps file base ≡ find (has_base program base) (option_map_or (λ (f : SourceFile). f.includes) (slice_get (program_in files) file) [])
found_in program [] [] h file base = refl
found_in program [] (f ∷ files) h file base = absurd h
found_in program (m ∷ maps) [] h file base = absurd h
found_in program (m ∷ maps) (f ∷ files) h zero base = h.0 base
found_in program (m ∷ maps) (f ∷ files) h (suc file) base = found_in program maps files h.1 file base

pub take_past : {A : Type 0} (xs : List A) (n : ℕ) → length xs ≤ n → take n xs ≡ xs
take_past [] zero l = refl
take_past [] (suc n) l = refl
take_past (x ∷ xs) zero l = absurd (omega arith)
take_past (x ∷ xs) (suc n) l = ap (λ ys. x ∷ ys) (take_past xs n (omega arith))

pub bases_found : (files : List IdlFile) (maps : List NameMap) (i : ℕ) → length files ≤ i → AllZip (HasIncludes (program_in files)) maps (take i files)
    → (file : ℕ) (base : List ℕ) → number_in_file maps file base ≡ included_with (program_in files) file base
bases_found files maps i past h file base =
    found_in (program_in files) maps files (subst (λ (fs : List IdlFile). AllZip (HasIncludes (program_in files)) maps fs) (take_past files i past) h) file base
