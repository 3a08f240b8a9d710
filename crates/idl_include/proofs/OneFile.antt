-- A file is read as what its text is read as.
use Rattle.std.proofs.Common.{◌≡◌, ◌≤◌, ℕ, Bool, true, false, List, length, Option, None, Some, MatchOption, Result, Ok, Err, refl, ap, sym, subst, ◌∙◌}
use Rattle.std.specs.Prelude.{if◌then◌else◌, ⊤}
use Rattle.std.specs.Str.{bytes_eq}
use Rattle.std.proofs.lemmas.Bool.{le-leb}
use Rattle.std.proofs.lemmas.Slice.Eq.{bytes_eq-Decides}
use Rattle.streams.specs.Files.{File, OnTold, content_of}
use Rattle.idl_token.specs.Limits.{longest_idl_text}
use Rattle.idl_parser.specs.declared.tree.Document.{Document}
use Rattle.idl_parser.specs.Trees.{document_node}
use Rattle.idl_include.specs.Readings.{LoadFlawKind, FileReading, read_as, unread, IsTextReadAs, IsReadWithin, IsHeldReadAs, IsReaderOf}
use Rattle.idl_include.specs.declared.faults.LoadFault.{LoadFault}
use Rattle.idl_include.specs.declared.faults.LoadStop.{LoadStop}
use Rattle.idl_include.specs.declared.faults.LoadStop.TheVariants as stops
use Rattle.idl_include.specs.Loads.{flaw_kind, Tells, IsRead, IsTextRead}

-- each file is read as one thing
abbrev pub OneReading : Type 0
OneReading = (files : List File) (r s : List ℕ → FileReading) → IsReaderOf files r → IsReaderOf files s → (name : List ℕ) → r name ≡ s name

held_is : (files : List File) (name text : List ℕ) (x : FileReading) → content_of files name ≡ Some text → length text ≤ longest_idl_text
    → IsTextReadAs text x → IsHeldReadAs (content_of files name) x
held_is files name text x held short is =
    let Q : Option (List ℕ) → Type 0 = λ o. IsHeldReadAs o x in
    let R : Bool → Type 0 = λ b. IsReadWithin b text x in
    subst Q (sym held) (subst R (sym (le-leb (length text) longest_idl_text short)) is)

replaced : (files : List File) (name text n : List ℕ) (reader : List ℕ → FileReading) (x : FileReading) (b : Bool) → bytes_eq n name ≡ b
    → content_of files name ≡ Some text → length text ≤ longest_idl_text → IsTextReadAs text x → IsReaderOf files reader
    → IsHeldReadAs (content_of files n) (if b then x else reader n)
replaced files name text n reader x true e held short is tells =
    let P : List ℕ → Type 0 = λ m. IsHeldReadAs (content_of files m) x in
    subst P (sym ((bytes_eq-Decides n name).0 e)) (held_is files name text x held short is)
replaced files name text n reader x false e held short is tells = tells n

reading_is : OneReading → (files : List File) (name text : List ℕ) (reader : List ℕ → FileReading) (x : FileReading)
    → content_of files name ≡ Some text → length text ≤ longest_idl_text → IsTextReadAs text x → IsReaderOf files reader → reader name ≡ x
reading_is one files name text reader x held short is tells =
    one files reader (λ n. if bytes_eq n name then x else reader n) tells
    (λ n. replaced files name text n reader x (bytes_eq n name) refl held short is tells) name
    ∙ ap (λ b. if b then x else reader name) ((bytes_eq-Decides name name).1 refl)

at_fault : OneReading → (files : List File) (name text : List ℕ) (reader : List ℕ → FileReading) (fault : LoadFault) (o : Option LoadFlawKind)
    → content_of files name ≡ Some text → length text ≤ longest_idl_text
    → MatchOption o ⊥ (λ kind. (fault.file ≡ name) × IsTextReadAs text (unread fault.at kind)) → IsReaderOf files reader
    → MatchOption o ⊤ (λ kind. (fault.file ≡ name) × (reader name ≡ unread fault.at kind))
at_fault one files name text reader fault None held short is tells = absurd is
at_fault one files name text reader fault (Some kind) held short is tells =
    (is.0, reading_is one files name text reader (unread fault.at kind) held short is.1 tells)

pub read_is : OneReading → (told : Option (List File)) (name text : List ℕ) (result : Result Document LoadStop)
    → OnTold told name (λ held. held ≡ Some text) → length text ≤ longest_idl_text → IsTextRead name text result
    → (reader : List ℕ → FileReading) → Tells told reader → IsRead name (reader name) result
read_is one None name text result held short is reader tells = absurd tells
read_is one (Some files) name text (Ok d) held short is reader tells =
    reading_is one files name text reader (read_as (document_node d)) held short is tells
read_is one (Some files) name text (Err stops.NoMemory) held short is reader tells = tt
read_is one (Some files) name text (Err (stops.At fault)) held short is reader tells =
    at_fault one files name text reader fault (flaw_kind fault.kind) held short is tells
