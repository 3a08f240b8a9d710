-- A file couldn't be read.
use Rattle.std.proofs.Common.{◌≡◌, ◌<◌, ℕ, Bool, true, false, nat_le, List, length, Option, None, Some, Result, Ok, Err, IfErr, refl, ap, sym, subst, ◌∙◌, leb-false}
use Rattle.std.proofs.lemmas.Bool.{false≢true}
use Rattle.streams.specs.Files.{File, content_of, fits, IsLonger, IsWholeFile}
use Rattle.streams.specs.declared.files.FileFail.{FileFail}
use Rattle.streams.specs.declared.files.FileFail.TheVariants as fails
use Rattle.idl_token.specs.Limits.{longest_idl_text}
use Rattle.idl_parser.specs.Unplaced.{nowhere}
use Rattle.idl_parser.specs.declared.tree.Document.{Document}
use Rattle.idl_include.specs.declared.faults.LoadKind.{LoadKind}
use Rattle.idl_include.specs.declared.faults.LoadKind.TheVariants as kinds
use Rattle.idl_include.specs.declared.faults.LoadStop.{LoadStop}
use Rattle.idl_include.specs.declared.faults.LoadStop.TheVariants as stops
use Rattle.idl_include.specs.Loads.{StopsIn, IsUnread, IsUnreadAt, IsReadableFile, is_file, is_unread, is_wrong_want}

held_within : {A : Type 0} (limit : ℕ) (result : Result A FileFail) (text : List ℕ) (b : Bool) → nat_le (length text) limit ≡ b → (limit < length text → result ≡ Err fails.TooLong)
    → result ≡ Err fails.Failed → b ≡ true
held_within limit result text true e longer f = refl
held_within limit result text false e longer f = let s : result ≡ Err fails.TooLong = longer (leb-false (length text) limit e) in cc

held_fits : {A : Type 0} (limit : ℕ) (result : Result A FileFail) (held : Option (List ℕ)) → (held ≡ None → result ≡ Err fails.Absent) → (IsLonger limit held → result ≡ Err fails.TooLong)
    → result ≡ Err fails.Failed → fits limit held ≡ true
held_fits limit result None absent longer e = let s : result ≡ Err fails.Absent = absent refl in cc
held_fits limit result (Some text) absent longer e = held_within limit result text (nat_le (length text) limit) refl longer e

readable : {A : Type 0} (told : Option (List File)) (name : List ℕ) (items : A → List ℕ) (result : Result A FileFail) → IsWholeFile told name longest_idl_text items result
    → result ≡ Err fails.Failed → IsReadableFile told name
readable None name items result whole e = tt
readable (Some files) name items result whole e = held_fits longest_idl_text result (content_of files name) whole.where_absent whole.where_longer e

-- a fault of another kind
other_kind : (told : Option (List File)) (name : List ℕ) (stop : LoadStop) → is_unread stop ≡ false → IsUnreadAt told name stop
other_kind told name stops.NoMemory e = tt
other_kind told name (stops.At fault) e = λ f. absurd (false≢true (sym e ∙ f))

with_kind : (told : Option (List File)) (name : List ℕ) (stop : LoadStop) (kind : LoadKind) → StopsIn name kind stop → is_file kind ≡ false → IsUnreadAt told name stop
with_kind told name stops.NoMemory kind s e = tt
with_kind told name (stops.At fault) kind s e = λ f. absurd (false≢true (sym e ∙ ap is_file (sym s.2) ∙ f))

with_file : (told : Option (List File)) (name : List ℕ) (stop : LoadStop) → StopsIn name kinds.File stop → IsReadableFile told name → IsUnreadAt told name stop
with_file told name stops.NoMemory s r = tt
with_file told name (stops.At fault) s r = λ f. (s.0, s.1, r)

pub failed_is : {A : Type 0} (told : Option (List File)) (name : List ℕ) (items : A → List ℕ) (fail : FileFail) (result : Result A FileFail) (stop : LoadStop)
    → IsWholeFile told name longest_idl_text items result → result ≡ Err fail → IsUnread name fail stop → IsUnreadAt told name stop
failed_is told name items fails.Absent result stop whole e u = with_kind told name stop kinds.Absent u refl
failed_is told name items fails.TooLong result stop whole e u = with_kind told name stop kinds.TooLong u refl
failed_is told name items fails.Failed result stop whole e u = with_file told name stop u (readable told name items result whole e)
failed_is told name items fails.NoMemory result stop whole e u =
    let P : LoadStop → Type 0 = λ s. IsUnreadAt told name s in
    let none : P stops.NoMemory = tt in
    subst P (sym u) none

pub read_otherwise : (told : Option (List File)) (name : List ℕ) (result : Result Document LoadStop) → IfErr result (λ stop. (is_wrong_want stop ≡ false) × (is_unread stop ≡ false))
    → IfErr result (IsUnreadAt told name)
read_otherwise told name (Ok document) h = tt
read_otherwise told name (Err stop) h = other_kind told name stop h.1
