-- What a file holds whose sink came back.
use Rattle.std.proofs.Common.{◌≡◌, ℕ, Bool, true, false, List, [], ◌∷◌, ◌++◌, Option, Some, None, IfSome, Result, Ok, Err, IfErr, MatchResult, if◌then◌else◌, refl, sym, ap, ◌∙◌, subst, append-nil}
use Rattle.std.specs.Prelude.{IfOk, OnOk}
use Rattle.std.specs.Result.{is_err}
use Rattle.std.specs.Str.{bytes_eq}
use Rattle.std.proofs.lemmas.Option.{same_Some}
use Rattle.std.proofs.lemmas.Slice.Eq.{bytes_eq-Decides}
use Rattle.streams.specs.Content.{told_more}
use Rattle.streams.specs.Told.{StartsEmpty}
use Rattle.streams.specs.Files.{File}
use Rattle.streams.specs.Making.{with_file, told_with_file, IsThere}
use Rattle.host_model.specs.Report.{journal_lines}
use Rattle.call_rules.specs.Entries.{CallEntry}
use Rattle.journal_text.specs.EntryText.{entry_text}
use Rattle.journal_text.specs.Spooled.{with_unwritten, HasLinesWith, HasSomeLines}
use Rattle.port_serving.specs.declared.fault.PortFault.{PortFault}
use Rattle.port_serving.specs.declared.fault.PortFault.TheVariants as faults
use Rattle.port_serving.specs.Steps.{BeginsJournal, OpensJournal, EndsOpening}
use Rattle.port_serving.specs.FileJournals.{IsUnused, AreLinesOf, KeepsLines, HoldsInFile, KeepsJournal}

-- the bytes that were put last are those that a file holds
twice_by : (b : Bool) (file : File) (files : List File) (name x y : List ℕ) → bytes_eq file.name name ≡ b
    → with_file (with_file files name x) name y ≡ with_file files name y
    → with_file (if b then record file { bytes = x } ∷ files else file ∷ with_file files name x) name y
    ≡ (if b then record file { bytes = y } ∷ files else file ∷ with_file files name y)
twice_by true file files name x y same rest = ap (λ b. if b then record file { bytes = y } ∷ files else record file { bytes = x } ∷ with_file files name y) same
twice_by false file files name x y other rest =
    ap (λ b. if b then record file { bytes = y } ∷ with_file files name x else file ∷ with_file (with_file files name x) name y) other
    ∙ ap (λ fs. file ∷ fs) rest

abbrev file_of : List ℕ → List ℕ → File
file_of name bytes = record { name = name; bytes = bytes }

put_twice : (files : List File) (name x y : List ℕ) → with_file (with_file files name x) name y ≡ with_file files name y
put_twice [] name x y = ap (λ b. if b then file_of name y ∷ [] else file_of name x ∷ file_of name y ∷ []) ((bytes_eq-Decides name name).1 refl)
put_twice (file ∷ files) name x y = twice_by (bytes_eq file.name name) file files name x y refl (put_twice files name x y)

told_twice : (before : Option (List File)) (name x : List ℕ) (taken : Option (List ℕ)) → told_with_file (told_with_file before name (Some x)) name taken ≡ told_with_file before name taken
told_twice None name x taken = refl
told_twice (Some files) name x None = refl
told_twice (Some files) name x (Some y) = ap Some (put_twice files name x y)

-- where the sink doesn't tell, neither do the files
untold : (before : Option (List File)) (name bytes : List ℕ) → HoldsInFile before (told_with_file before name None) name bytes
untold None name bytes = tt
untold (Some files) name bytes = tt

told : (before shown : Option (List File)) (name bytes : List ℕ) → told_with_file before name (Some bytes) ≡ shown → HoldsInFile before shown name bytes
told before None name bytes is = tt
told before (Some files) name bytes is = is

-- the lines of all, where lines may be lost
every_line : (lost : Bool) (entries : List CallEntry) (unwritten : Option CallEntry) → (bytes : List ℕ) × AreLinesOf lost bytes entries unwritten
every_line false entries unwritten = (journal_lines entry_text entries, refl)
every_line true entries unwritten =
    let lines : List ℕ = journal_lines entry_text (with_unwritten entries unwritten) in
    (lines, record { rest = []; whole = append-nil lines })

-- the file of a journal whose sink came back
kept_by : (before : Option (List File)) (name : List ℕ) (taken : Option (List ℕ)) (entries : List CallEntry) (unwritten : Option CallEntry) (lost : Bool)
    → KeepsLines taken entries unwritten lost → KeepsJournal before (told_with_file before name taken) name entries unwritten lost
kept_by before name None entries unwritten lost lines =
    let every : (bytes : List ℕ) × AreLinesOf lost bytes entries unwritten = every_line lost entries unwritten in
    record { bytes = every.0; held = untold before name every.0; lines = every.1 }
kept_by before name (Some bytes) entries unwritten lost lines =
    record { bytes = bytes; held = told before (told_with_file before name (Some bytes)) name bytes refl; lines = lines bytes refl }

pub kept : (before between now : Option (List File)) (name : List ℕ) (taken : Option (List ℕ)) (entries : List CallEntry) (unwritten : Option CallEntry) (lost : Bool)
    → between ≡ told_with_file before name (Some []) → now ≡ told_with_file between name taken → KeepsLines taken entries unwritten lost
    → KeepsJournal before now name entries unwritten lost
kept before between now name taken entries unwritten lost made back lines =
    subst (λ o. KeepsJournal before o name entries unwritten lost)
    (sym (back ∙ ap (λ o. told_with_file o name taken) made ∙ told_twice before name [] taken))
    (kept_by before name taken entries unwritten lost lines)

-- without entries it is empty
pub empty_file : (before now : Option (List File)) (name : List ℕ) (entries : List CallEntry) (unwritten : Option CallEntry) (lost : Bool) → entries ≡ [] → lost ≡ false
    → KeepsJournal before now name entries unwritten lost → HoldsInFile before now name []
empty_file before now name entries unwritten lost none whole k =
    let lines : k.bytes ≡ journal_lines entry_text entries = subst (λ b. AreLinesOf b k.bytes entries unwritten) whole k.lines in
    subst (HoldsInFile before now name) (lines ∙ ap (journal_lines entry_text) none) k.held

-- A sink that starts empty is unused.
unused_by : (taken : Option (List ℕ)) → IfSome taken (λ all. all ≡ []) → IsUnused taken
unused_by None e = λ bytes is. absurd (let never : ⊥ = cc in never)
unused_by (Some all) e = λ bytes is. sym (same_Some all bytes is) ∙ e

pub unused : (before : Option (List File)) (taken : Option (List ℕ)) → StartsEmpty before taken → IsUnused taken
unused None taken e = unused_by taken e
unused (Some files) taken e = λ bytes is. sym (same_Some [] bytes (sym e ∙ is))

-- a journal over an unused sink: it is unused still
pub unused_still : (opening sink : Option (List ℕ)) → opening ≡ sink → IsUnused sink → IsUnused opening
unused_still opening sink is u = subst IsUnused (sym is) u

-- what such a sink has taken, and what is lost, is a text
alone : (opening now : Option (List ℕ)) (lost text : List ℕ) → IsUnused opening → told_more now lost ≡ told_more opening text → (bytes : List ℕ) → now ≡ Some bytes
    → bytes ++ lost ≡ text
alone None now lost text u h bytes is =
    let told_none : Some (bytes ++ lost) ≡ None = ap (λ o. told_more o lost) (sym is) ∙ h in absurd (let never : ⊥ = cc in never)
alone (Some front) now lost text u h bytes is =
    same_Some (bytes ++ lost) text (ap (λ o. told_more o lost) (sym is) ∙ h ∙ ap (λ f. Some (f ++ text)) (u front refl))

-- what it has taken is the lines, or a beginning of them
pub lines_alone : (opening now : Option (List ℕ)) (held : List ℕ) (entries : List CallEntry) (unwritten : Option CallEntry) (failed : Bool) → IsUnused opening
    → (failed ≡ false → held ≡ []) → (failed ≡ false → HasLinesWith opening now held entries) → (failed ≡ true → HasSomeLines opening now entries unwritten)
    → KeepsLines now entries unwritten failed
lines_alone opening now held entries unwritten false u finished lines begun =
    λ bytes is.
    sym (append-nil bytes) ∙ ap (λ h. bytes ++ h) (sym (finished refl)) ∙ alone opening now held (journal_lines entry_text entries) u (lines refl) bytes is
lines_alone opening now held entries unwritten true u finished lines begun =
    λ bytes is.
    let some : HasSomeLines opening now entries unwritten = begun refl in
    record {
      rest = some.lost;
      whole = alone opening now some.lost (journal_lines entry_text (with_unwritten entries unwritten)) u some.rest bytes is;
    }

-- the file of a sink that was handed back unused is empty
emptied : (before between now : Option (List File)) (name : List ℕ) (taken : Option (List ℕ)) → between ≡ told_with_file before name (Some [])
    → now ≡ told_with_file between name taken → IsUnused taken → HoldsInFile before now name []
emptied before between now name taken made back u =
    empty_file before now name [] None false refl refl (kept before between now name taken [] None false made back (λ bytes is. u bytes is))

-- A journal was opened, or the file is empty.
pub opened_so : {A : Type 0} (result : Result A PortFault) (entries : A → List CallEntry) (held : A → List ℕ) (failed : A → Bool) (count : A → ℕ) (before between now : Option (List File)) (name : List ℕ)
    (taken : Option (List ℕ)) → between ≡ told_with_file before name (Some []) → IsThere between name → IsUnused taken
    → MatchResult result (λ j. BeginsJournal between now (entries j) (held j) (failed j) (count j)) (λ _. now ≡ told_with_file between name taken)
    → IfErr result (λ fault. fault ≡ faults.NoMemory)
    → MatchResult result (λ j. OpensJournal before now name (entries j) (held j) (failed j) (count j)) (λ fault. EndsOpening fault before now name)
opened_so (Ok j) entries held failed count before between now name taken made there u begun only =
    record {
      files = begun.files ∙ made;
      there = subst (λ o. IsThere o name) (sym begun.files) there;
      none = begun.none;
      empty = begun.empty;
      whole = begun.whole;
      faultless = begun.faultless;
    }
opened_so (Err fault) entries held failed count before between now name taken made there u back only =
    subst (λ f. EndsOpening f before now name) (sym only) (emptied before between now name taken made back u)

-- Want of memory is no fault of the files.
pub no_file_fault : {A : Type 0} (result : Result A PortFault) → IfErr result (λ fault. fault ≡ faults.NoMemory) → result ≡ Err faults.FileFault → ⊥
no_file_fault (Ok j) only is = let never : ⊥ = cc in never
no_file_fault (Err fault) only is = let never : ⊥ = cc in never

-- whether a call failed, told by a bool
pub said_failed : {A E : Type 0} (result : Result A E) (lost failed : Bool) → lost ≡ is_err result
    → MatchResult result (λ _. failed ≡ false) (λ _. failed ≡ true) → failed ≡ lost
said_failed (Ok a) lost failed said is = is ∙ sym said
said_failed (Err e) lost failed said is = is ∙ sym said

pub said_empty : {A E : Type 0} (result : Result A E) (lost : Bool) (held : List ℕ) → lost ≡ is_err result → IfOk result (λ _. held ≡ []) → lost ≡ false → held ≡ []
said_empty (Ok a) lost held said none whole = none
said_empty (Err e) lost held said none whole = absurd (let both : true ≡ false = sym said ∙ whole in let never : ⊥ = cc in never)

pub said_kept : {A E : Type 0} (result : Result A E) (lost : Bool) (before now : ℕ) → lost ≡ is_err result → OnOk result (now ≡ before) → lost ≡ false → now ≡ before
said_kept (Ok a) lost before now said kept whole = kept
said_kept (Err e) lost before now said kept whole = absurd (let both : true ≡ false = sym said ∙ whole in let never : ⊥ = cc in never)
