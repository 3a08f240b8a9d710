-- What loading answers in the end.
use Rattle.std.proofs.Common.{◌≡◌, ◌<◌, ℕ, suc, Bool, true, false, List, [], ◌∷◌, length, Option, None, Some, refl, ap, sym, subst, ◌∙◌, arith}
use Rattle.std.specs.Prelude.{if◌then◌else◌}
use Rattle.std.specs.Str.{bytes_eq}
use Rattle.std.specs.List.{list_any}
use Rattle.streams.specs.Files.{File, content_of}
use Rattle.idl_parser.specs.Unplaced.{nowhere}
use Rattle.idl_include.specs.Readings.{LoadFlawKind, unread, IsHeldReadAs, IsReaderOf}
use Rattle.idl_include.specs.Loading.{Loaded, loaded, most_files, program_of}
use Rattle.idl_include.specs.declared.faults.LoadFault.{LoadFault}
use Rattle.idl_include.specs.declared.faults.LoadStop.{LoadStop}
use Rattle.idl_include.specs.declared.faults.LoadStop.TheVariants as stops
use Rattle.idl_include.specs.declared.sources.IdlFile.{IdlFile}
use Rattle.idl_include.specs.SourcesOf.{program_in, AreBegun, AreFiles}
use Rattle.idl_include.specs.Loads.{Tells, AreRead, IsFlawOf, IsReadFault, IsReaderBut, TellsBut, is_file}
use Rattle.idl_include.specs.Begun.{IsNewName}
use Rattle.idl_include.specs.Steps.{FileReader, LoadStage, file_left, all_loaded, LoadProceeds, StopsUnread, LoadEnds}
use Rattle.idl_include.proofs.Begins.{begun_none, neither}

-- at the front nothing was begun
pub at_front : (begun : List IdlFile) → begun ≡ [] → AreBegun begun
at_front begun e = subst (λ (files : List IdlFile). AreBegun files) (sym e) begun_none

pub new_at_front : (name : List ℕ) (begun : List IdlFile) → begun ≡ [] → IsNewName name begun
new_at_front name begun e =
    let none : IsNewName name [] = record { no_name = refl; no_base = refl } in
    subst (λ (files : List IdlFile). IsNewName name files) (sym e) none

read_at_front : (reader : FileReader) (begun : List IdlFile) → begun ≡ [] → AreRead reader begun
read_at_front reader begun e = let none : AreRead reader [] = tt in subst (λ (files : List IdlFile). AreRead reader files) (sym e) none

pub whole_is : (main : List ℕ) (above : List (List ℕ)) (begun : List IdlFile) (reader : FileReader) → above ≡ [] → begun ≡ [] → program_of reader main ≡ file_left (suc most_files) above main begun reader
unfolding program_of
whole_is main above begun reader e f =
    let at : List (List ℕ) → List IdlFile → Loaded = λ a b. file_left (suc most_files) a main b reader in
    ap (λ (a : List (List ℕ)). at a []) (sym e) ∙ ap (λ (b : List IdlFile). at above b) (sym f)

pub is_loaded : (main : List ℕ) (above : List (List ℕ)) (a : LoadStage) (b : LoadStage) (reader : FileReader) → above ≡ [] → a.begun ≡ []
    → LoadProceeds a b (file_left (suc most_files) above main a.begun) (all_loaded b.begun) → Tells a.told reader
    → (program_of reader main ≡ loaded (program_in b.begun)) × AreRead reader b.begun
is_loaded main above a b reader e f g t =
    let r : AreRead reader b.begun = g.moves.read reader t (read_at_front reader a.begun f) in
    (whole_is main above a.begun reader e f ∙ g.comes reader r, r)

at_fault : (a b : LoadStage) (was : FileReader → Loaded) (stop : LoadStop) (fault : LoadFault) → stop ≡ stops.At fault → LoadEnds a b was stop → LoadEnds a b was (stops.At fault)
at_fault a b was stop fault e h = subst (λ (s : LoadStop). LoadEnds a b was s) e h

pub is_stopped : (main : List ℕ) (above : List (List ℕ)) (a : LoadStage) (b : LoadStage) (reader : FileReader) (fault : LoadFault) (stop : LoadStop) → stop ≡ stops.At fault → above ≡ [] → a.begun ≡ []
    → LoadEnds a b (file_left (suc most_files) above main a.begun) stop → Tells a.told reader → IsFlawOf (program_of reader main) fault
is_stopped main above a b reader fault stop s e f g t =
    let h = at_fault a b (file_left (suc most_files) above main a.begun) stop fault s g in
    let r : AreRead reader b.begun = h.moves.read reader t (read_at_front reader a.begun f) in
    let P : Loaded → Type 0 = λ come. IsFlawOf come fault in
    subst P (sym (whole_is main above a.begun reader e f)) (h.flaw reader t r)

-- ---- a reader that is wrong about one file

-- a reader of all files that is the other one but for this name
abbrev pub mended : FileReader → FileReader → List ℕ → FileReader
mended right reader name = λ other. if bytes_eq other name then right other else reader other

mended_tells : (files : List File) (name : List ℕ) (flaw : LoadFlawKind) (right reader : FileReader) (other : List ℕ) (b : Bool) → bytes_eq other name ≡ b → IsReaderOf files right
    → IsReaderBut files name flaw reader → IsHeldReadAs (content_of files other) (if b then right other else reader other)
mended_tells files name flaw right reader other true e all but = all other
mended_tells files name flaw right reader other false e all but = but.others other e

unmended : (right reader : FileReader) (name : List ℕ) (files : List IdlFile) → list_any (λ (file : IdlFile). bytes_eq file.name name) files ≡ false → AreRead (mended right reader name) files
    → AreRead reader files
unmended right reader name [] none r = tt
unmended right reader name (x ∷ files) none r =
    let n = neither (bytes_eq x.name name) (list_any (λ (file : IdlFile). bytes_eq file.name name) files) none in
    let same : mended right reader name x.name ≡ reader x.name = ap (λ (b : Bool). if b then right x.name else reader x.name) n.0 in
    (sym same ∙ r.0, unmended right reader name files n.1 r.1)

-- some reader says what the files are read as
abbrev pub SomeReader : Type 0
SomeReader = (files : List File) → (reader : FileReader) × IsReaderOf files reader

read_but : SomeReader → (told : Option (List File)) (name : List ℕ) (flaw : LoadFlawKind) (reader : FileReader) (files : List IdlFile)
    → ((right : FileReader) → Tells told right → AreRead right files) → list_any (λ (file : IdlFile). bytes_eq file.name name) files ≡ false → TellsBut told name flaw reader → AreRead reader files
read_but some None name flaw reader files read none but = absurd but
read_but some (Some all) name flaw reader files read none but =
    let right : FileReader = (some all).0 in
    let tells : Tells (Some all) (mended right reader name) = λ other. mended_tells all name flaw right reader other (bytes_eq other name) refl (some all).1 but in
    unmended right reader name files none (read (mended right reader name) tells)

but_is : (told : Option (List File)) (name : List ℕ) (flaw : LoadFlawKind) (reader : FileReader) → TellsBut told name flaw reader → reader name ≡ unread nowhere flaw
but_is None name flaw reader but = absurd but
but_is (Some all) name flaw reader but = but.but

pub is_read_fault : SomeReader → (main : List ℕ) (above : List (List ℕ)) (a b : LoadStage) (fault : LoadFault) (stop : LoadStop) → stop ≡ stops.At fault → above ≡ [] → a.begun ≡ []
    → LoadEnds a b (file_left (suc most_files) above main a.begun) stop → is_file fault.kind ≡ true → IsReadFault a.told main fault
is_read_fault some main above a b fault stop s e f g file =
    let h = at_fault a b (file_left (suc most_files) above main a.begun) stop fault s g in
    let u : StopsUnread a.told b.begun (file_left (suc most_files) above main a.begun) fault = h.read file in
    record {
      place = u.place;
      readable = u.readable;
      stops_there = λ flaw reader but.
          whole_is main above a.begun reader e f
          ∙ u.stops_there flaw reader
          (read_but some a.told fault.file flaw reader b.begun (λ right t. h.moves.read right t (read_at_front right a.begun f)) u.no_name but)
          (but_is a.told fault.file flaw reader but);
    }

pub are_files : (a b : LoadStage) (was is : FileReader → Loaded) → LoadProceeds a b was is → length a.begun < length b.begun → AreFiles b.begun
are_files a b was is g more = record { some = omega (arith, more); begun = g.begun }
