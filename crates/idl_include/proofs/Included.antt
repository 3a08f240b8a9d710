-- What an include comes to, by what it means.
use Rattle.std.proofs.Common.{◌≡◌, ◌<◌, ◌+◌, ℕ, suc, Bool, true, false, cond, List, [], ◌∷◌, length, Option, None, Some, refl, ap, sym, subst, ◌∙◌, arith}
use Rattle.std.specs.Prelude.{◌||◌, if◌then◌else◌}
use Rattle.std.specs.Str.{bytes_eq, is_utf8, IsUtf8}
use Rattle.std.proofs.lemmas.Str.{IsUtf8-from_is_utf8, is_utf8-from_IsUtf8}
use Rattle.std.specs.List.{list_any, position_from}
use Rattle.std.proofs.lemmas.List.{length-map}
use Rattle.std.proofs.lemmas.List.Elements.{All-head, All-tail}
use Rattle.std.specs.Prelude.{All}
use Rattle.streams.specs.Files.{File}
use Rattle.idl_token.specs.declared.Place.{Place}
use Rattle.idl_include.specs.Written.{Written}
use Rattle.idl_include.specs.FileNames.{base_name, included_name}
use Rattle.idl_include.specs.Program.{SourceFile, Program, base_of_file}
use Rattle.idl_include.specs.Readings.{LoadFlawKind, bad_name, includes_itself, same_base, too_many}
use Rattle.idl_include.specs.Loading.{Loaded, loaded, and_then, IncludeCase, refused_include, loaded_before, new_file, is_among, new_include, begun_or, include_case, linked, load_include, load_file}
use Rattle.idl_include.specs.declared.faults.LoadKind.{LoadKind}
use Rattle.idl_include.specs.declared.faults.LoadStop.{LoadStop}
use Rattle.idl_include.specs.declared.faults.LoadStop.TheVariants as stops
use Rattle.idl_include.specs.declared.sources.IdlFile.{IdlFile}
use Rattle.idl_include.specs.SourcesOf.{file_in, program_in, IsFile, AreBegun}
use Rattle.idl_include.specs.Loads.{StopsWith, flaw_kind, is_file, is_inner_want}
use Rattle.idl_include.specs.Begun.{include_meant, IsNewName, IsRefusedAs, IsRefusedAt, KeepsFiles}
use Rattle.idl_include.specs.Steps.{FileReader, LoadStage, load_stage, file_left, include_left, all_loaded, LoadMoves, LoadProceeds, LoadEnds}
use Rattle.idl_include.proofs.Stages.{moves_none, moved, goes_on, goes_from, goes_before, ends_from, ends_before, ends_with, ends_for_want}

-- ---- places among the files

position_in : (files : List IdlFile) (name : List ℕ) (i : ℕ) → position_from (λ (f : SourceFile). bytes_eq f.name name) i (program_in files) ≡ position_from (λ (f : IdlFile). bytes_eq f.name name) i files
position_in [] name i = refl
position_in (x ∷ files) name i = ap (λ (o : Option ℕ). cond (bytes_eq x.name name) (Some i) o) (position_in files name (i + 1))

base_in : (n : ℕ) (files : List IdlFile) (base : List ℕ) → All (IsFile n) files
    → list_any (λ (f : SourceFile). bytes_eq (base_of_file f) base) (program_in files) ≡ list_any (λ (f : IdlFile). bytes_eq f.base base) files
base_in n [] base h = refl
base_in n (x ∷ files) base h =
    let here : IsFile n x = All-head (IsFile n) x files h in
    let rest : Bool = list_any (λ (f : SourceFile). bytes_eq (base_of_file f) base) (program_in files) in
    ap (λ (b : List ℕ). bytes_eq b base || rest) (sym here.base)
    ∙ ap (λ (b : Bool). bytes_eq x.base base || b) (base_in n files base (All-tail (IsFile n) x files h))

none_some : (number : ℕ) → None ≡ Some number → ⊥
none_some number e = cc

found_by : (b : Bool) (i number n : ℕ) (rest : Option ℕ) → (rest ≡ Some number → number < (i + 1) + n) → cond b (Some i) rest ≡ Some number → number < i + suc n
found_by true i number n rest h e = let same : i ≡ number = cc in omega (arith, same)
found_by false i number n rest h e = let l : number < (i + 1) + n = h e in omega (arith, l)

found_before : (p : IdlFile → Bool) (files : List IdlFile) (i number : ℕ) → position_from p i files ≡ Some number → number < i + length files
found_before p [] i number e = absurd (none_some number e)
found_before p (x ∷ files) i number e = found_by (p x) i number (length files) (position_from p (i + 1) files) (found_before p files (i + 1) number) e

none_by : (b c : Bool) (i : ℕ) (rest : Option ℕ) → (rest ≡ None → c ≡ false) → cond b (Some i) rest ≡ None → (b || c) ≡ false
none_by true c i rest h e = absurd (none_some i (sym e))
none_by false c i rest h e = h e

none_named : (p : IdlFile → Bool) (files : List IdlFile) (i : ℕ) → position_from p i files ≡ None → list_any p files ≡ false
none_named p [] i e = refl
none_named p (x ∷ files) i e = none_by (p x) (list_any p files) i (position_from p (i + 1) files) (none_named p files (i + 1)) e

pub number_within : (files : List IdlFile) (name : List ℕ) (number : ℕ) → Some number ≡ position_from (λ (f : IdlFile). bytes_eq f.name name) 0 files → number < length files
number_within files name number e = let h : number < 0 + length files = found_before (λ (f : IdlFile). bytes_eq f.name name) files 0 number (sym e) in omega (arith, h)

-- ---- cases

pub case_of_bad : (literal : List ℕ) (above : List (List ℕ)) (files : List IdlFile) (name : List ℕ) → is_utf8 literal ≡ false → include_case (is_utf8 literal) above (program_in files) name ≡ refused_include bad_name
unfolding include_case
case_of_bad literal above files name e = ap (λ (b : Bool). include_case b above (program_in files) name) e

case_by : Bool → Option ℕ → Program → List ℕ → IncludeCase
case_by opened before files name = if opened then refused_include includes_itself else begun_or before (new_include files name)

case_is : (above : List (List ℕ)) (files : List IdlFile) (name : List ℕ) (opened : Bool) (before : Option ℕ) → opened ≡ is_among name above
    → before ≡ position_from (λ (f : IdlFile). bytes_eq f.name name) 0 files → include_case true above (program_in files) name ≡ case_by opened before (program_in files) name
unfolding include_case case_by
case_is above files name opened before e f =
    ap (λ (b : Bool). if b then refused_include includes_itself else begun_or (position_from (λ (x : SourceFile). bytes_eq x.name name) 0 (program_in files)) (new_include (program_in files) name)) (sym e)
    ∙ ap (λ (o : Option ℕ). if opened then refused_include includes_itself else begun_or o (new_include (program_in files) name)) (position_in files name 0 ∙ sym f)

pub case_of_cycle : (above : List (List ℕ)) (files : List IdlFile) (name : List ℕ) → true ≡ is_among name above → include_case true above (program_in files) name ≡ refused_include includes_itself
unfolding case_by
case_of_cycle above files name e = case_is above files name true _ e refl

pub case_of_before : (above : List (List ℕ)) (files : List IdlFile) (name : List ℕ) (number : ℕ) → false ≡ is_among name above
    → Some number ≡ position_from (λ (f : IdlFile). bytes_eq f.name name) 0 files → include_case true above (program_in files) name ≡ loaded_before number
unfolding case_by
case_of_before above files name number e f = case_is above files name false (Some number) e f

case_of_none : (above : List (List ℕ)) (files : List IdlFile) (name : List ℕ) → false ≡ is_among name above
    → None ≡ position_from (λ (f : IdlFile). bytes_eq f.name name) 0 files → include_case true above (program_in files) name ≡ new_include (program_in files) name
unfolding case_by
case_of_none above files name e f = case_is above files name false None e f

base_case : (files : List IdlFile) (name : List ℕ) (b : Bool) → AreBegun files → b ≡ list_any (λ (f : IdlFile). bytes_eq f.base (base_name name)) files
    → new_include (program_in files) name ≡ (if b then refused_include same_base else new_file)
base_case files name b begun e = ap (λ (c : Bool). if c then refused_include same_base else new_file) (base_in (length files) files (base_name name) begun.each ∙ sym e)

pub case_of_base : (above : List (List ℕ)) (files : List IdlFile) (name : List ℕ) → AreBegun files → false ≡ is_among name above
    → None ≡ position_from (λ (f : IdlFile). bytes_eq f.name name) 0 files → true ≡ list_any (λ (f : IdlFile). bytes_eq f.base (base_name name)) files
    → include_case true above (program_in files) name ≡ refused_include same_base
case_of_base above files name begun e f g = case_of_none above files name e f ∙ base_case files name true begun g

pub case_of_new : (above : List (List ℕ)) (files : List IdlFile) (name : List ℕ) → AreBegun files → false ≡ is_among name above
    → None ≡ position_from (λ (f : IdlFile). bytes_eq f.name name) 0 files → false ≡ list_any (λ (f : IdlFile). bytes_eq f.base (base_name name)) files
    → (include_case true above (program_in files) name ≡ new_file) × IsNewName name files
case_of_new above files name begun e f g = (
  case_of_none above files name e f ∙ base_case files name false begun g,
  record { no_name = none_named (λ (x : IdlFile). bytes_eq x.name name) files 0 (sym f); no_base = sym g },
)

pub refused_by : (meant : IncludeCase) (kind : LoadKind) (flaw : LoadFlawKind) → flaw_kind kind ≡ Some flaw → meant ≡ refused_include flaw → is_file kind ≡ false → is_inner_want kind ≡ false
    → IsRefusedAs meant kind
refused_by meant kind flaw told refused read want = record { flaw = flaw; told = told; refused = refused; no_read = read; no_want = want }

pub refused_at : (file : List ℕ) (at : Place) (meant : IncludeCase) (kind : LoadKind) (stop : LoadStop) → IsRefusedAs meant kind → StopsWith file at kind stop → IsRefusedAt file at meant stop
refused_at file at meant kind stops.NoMemory r s = tt
refused_at file at meant kind (stops.At fault) r s = (s.0, s.1, subst (λ (k : LoadKind). IsRefusedAs meant k) (sym s.2) r)

-- ---- steps

by_case : (levels : ℕ) (above : List (List ℕ)) (file : List ℕ) (of : ℕ) (w : Written) (begun : List IdlFile) (meant : IncludeCase) (reader : FileReader)
    → include_meant above file w begun ≡ meant
    → include_left levels above file of w begun reader
    ≡ load_include (load_file is_utf8 reader levels above (included_name file w.text)) (record { file = file; at = w.at; kind = too_many }) of meant (program_in begun)
by_case levels above file of w begun meant reader e =
    ap (λ (m : IncludeCase). load_include (load_file is_utf8 reader levels above (included_name file w.text)) (record { file = file; at = w.at; kind = too_many }) of m (program_in begun)) e

pub refused_ends : (levels : ℕ) (above : List (List ℕ)) (file : List ℕ) (of : ℕ) (w : Written) (a : LoadStage) (stop : LoadStop)
    → IsRefusedAt file w.at (include_meant above file w a.begun) stop
    → LoadEnds a a (include_left levels above file of w a.begun) stop
refused_ends levels above file of w a stops.NoMemory r = ends_for_want a a (include_left levels above file of w a.begun) stops.NoMemory refl (moves_none a) refl
refused_ends levels above file of w a (stops.At fault) r =
    ends_with a a (include_left levels above file of w a.begun) file w.at fault.kind r.2.flaw (stops.At fault) (moves_none a) refl (r.0, r.1, refl) r.2.told r.2.no_read r.2.no_want
    (λ reader. by_case levels above file of w a.begun (refused_include r.2.flaw) reader r.2.refused)

pub moves_keeping : (told : Option (List File)) (faults : ℕ) (before after : List IdlFile) → KeepsFiles before after → LoadMoves (load_stage told faults before) (load_stage told faults after)
moves_keeping told faults before after k = record { same = refl; later = omega arith; kept = λ reader r. k.kept reader r; read = λ reader t r. k.read reader r }

pub before_goes : (levels : ℕ) (above : List (List ℕ)) (file : List ℕ) (of number : ℕ) (w : Written) (told : Option (List File)) (faults : ℕ) (before after : List IdlFile)
    → include_meant above file w before ≡ loaded_before number → KeepsFiles before after
    → program_in after ≡ linked of number (program_in before)
    → LoadProceeds (load_stage told faults before) (load_stage told faults after) (include_left levels above file of w before) (all_loaded after)
before_goes levels above file of number w told faults before after meant k l =
    let many = k.as_many in
    record {
      moves = moves_keeping told faults before after k;
      longer = omega (arith, many);
      begun = k.begun;
      comes = λ reader r. by_case levels above file of w before (loaded_before number) reader meant ∙ ap loaded (sym l);
      quiet = refl;
    }

-- a new file was loaded, and its number is yet to be linked
new_is : (levels : ℕ) (above : List (List ℕ)) (file : List ℕ) (of : ℕ) (w : Written) (before : List IdlFile) (name : List ℕ) (reader : FileReader)
    → include_meant above file w before ≡ new_file → name ≡ included_name file w.text
    → include_left levels above file of w before reader
    ≡ and_then (file_left levels above name before reader) (λ more. loaded (linked of (length (program_in before)) more))
new_is levels above file of w before name reader meant e =
    by_case levels above file of w before new_file reader meant
    ∙ ap (λ (n : List ℕ). and_then (load_file is_utf8 reader levels above n (program_in before)) (λ more. loaded (linked of (length (program_in before)) more))) (sym e)

pub new_goes : (levels : ℕ) (above : List (List ℕ)) (file : List ℕ) (of : ℕ) (w : Written) (a : LoadStage) (told : Option (List File)) (faults : ℕ) (between after : List IdlFile) (name : List ℕ)
    → include_meant above file w a.begun ≡ new_file → name ≡ included_name file w.text
    → LoadProceeds a (load_stage told faults between) (file_left levels above name a.begun) (all_loaded between)
    → KeepsFiles between after → program_in after ≡ linked of (length a.begun) (program_in between)
    → LoadProceeds a (load_stage told faults after) (include_left levels above file of w a.begun) (all_loaded after)
new_goes levels above file of w a told faults between after name meant e g k l =
    let next : FileReader → Program → Loaded = λ reader more. loaded (linked of (length (program_in a.begun)) more) in
    let first : LoadProceeds a (load_stage told faults between) (include_left levels above file of w a.begun) (λ reader. next reader (program_in between)) =
    goes_from a (load_stage told faults between) (λ reader. and_then (file_left levels above name a.begun reader) (next reader)) (include_left levels above file of w a.begun)
    (λ reader. next reader (program_in between)) (λ reader. new_is levels above file of w a.begun name reader meant e)
    (goes_before a (load_stage told faults between) (file_left levels above name a.begun) between next g) in
    let many = k.as_many in
    let second : LoadProceeds (load_stage told faults between) (load_stage told faults after) (λ reader. next reader (program_in between)) (all_loaded after) = record {
      moves = moves_keeping told faults between after k;
      longer = omega (arith, many);
      begun = k.begun;
      comes = λ reader r. ap (λ (n : ℕ). loaded (linked of n (program_in between))) (length-map a.begun file_in) ∙ ap loaded (sym l);
      quiet = refl;
    } in
    goes_on a (load_stage told faults between) (load_stage told faults after) (include_left levels above file of w a.begun) (λ reader. next reader (program_in between)) (all_loaded after) first second

pub new_ends : (levels : ℕ) (above : List (List ℕ)) (file : List ℕ) (of : ℕ) (w : Written) (a b : LoadStage) (name : List ℕ) (stop : LoadStop)
    → include_meant above file w a.begun ≡ new_file → name ≡ included_name file w.text
    → LoadEnds a b (file_left levels above name a.begun) stop → LoadEnds a b (include_left levels above file of w a.begun) stop
new_ends levels above file of w a b name stop meant e h =
    let next : FileReader → Program → Loaded = λ reader more. loaded (linked of (length (program_in a.begun)) more) in
    ends_from a b (λ reader. and_then (file_left levels above name a.begun reader) (next reader)) (include_left levels above file of w a.begun) stop
    (λ reader. new_is levels above file of w a.begun name reader meant e)
    (ends_before a b (file_left levels above name a.begun) next stop h)

-- want of memory after a step that went on
pub want_behind : (a b c : LoadStage) (other : FileReader → Loaded) (stop : LoadStop) → stop ≡ stops.NoMemory → LoadMoves a b → LoadMoves b c → c.faults ≡ a.faults → LoadEnds a c other stop
want_behind a b c other stop e g h quiet = ends_for_want a c other stop e (moved a b c g h) quiet

pub new_name : (slice begun : List IdlFile) (text name : List ℕ) → slice ≡ begun → name ≡ text → IsNewName text slice → IsNewName name begun
new_name slice begun text name e f new =
    let named : IsNewName name slice = subst (λ (t : List ℕ). IsNewName t slice) (sym f) new in
    subst (λ (files : List IdlFile). IsNewName name files) e named

-- ---- literals

not_utf8_by : (literal : List ℕ) (b : Bool) → is_utf8 literal ≡ b → (IsUtf8 literal → ⊥) → b ≡ false
not_utf8_by literal true e bad = absurd (bad (IsUtf8-from_is_utf8 literal e))
not_utf8_by literal false e bad = refl

pub not_utf8 : (literal text : List ℕ) → literal ≡ text → (IsUtf8 literal → ⊥) → is_utf8 text ≡ false
not_utf8 literal text e bad = ap is_utf8 (sym e) ∙ not_utf8_by literal (is_utf8 literal) refl bad

pub meant_is : (above : List (List ℕ)) (file : List ℕ) (w : Written) (begun : List IdlFile) (name literal bytes : List ℕ) → IsUtf8 bytes → bytes ≡ w.text → literal ≡ bytes
    → name ≡ included_name file literal → include_case true above (program_in begun) name ≡ include_meant above file w begun
meant_is above file w begun name literal bytes text e f g =
    ap (λ (b : Bool). include_case b above (program_in begun) name) (sym (is_utf8-from_IsUtf8 bytes text) ∙ ap is_utf8 e)
    ∙ ap (λ (n : List ℕ). include_case (is_utf8 w.text) above (program_in begun) n) (g ∙ ap (included_name file) (f ∙ e))

pub refused_meant : (meant other : IncludeCase) (kind : LoadKind) → meant ≡ other → IsRefusedAs meant kind → IsRefusedAs other kind
refused_meant meant other kind e r = subst (λ (m : IncludeCase). IsRefusedAs m kind) e r

pub is_none_by : (o : Option ℕ) → ((x : ℕ) → o ≡ Some x → ⊥) → None ≡ o
is_none_by None h = refl
is_none_by (Some x) h = absurd (h x refl)
