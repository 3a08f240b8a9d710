-- A file is begun, or can't be.
use Rattle.std.proofs.Common.{◌≡◌, ◌≤◌, ◌<◌, ℕ, suc, Bool, true, false, List, [], ◌∷◌, ◌++◌, length, nat_le, All, Option, None, Some, MatchOption, Ok, Err, refl, ap, sym, subst, ◌∙◌, arith, le-leb}
use Rattle.std.specs.Prelude.{⊤, ◌||◌}
use Rattle.std.specs.Str.{bytes_eq, is_utf8}
use Rattle.std.specs.List.{list_any}
use Rattle.std.proofs.lemmas.Bool.{false≢true, lt-leb}
use Rattle.std.proofs.lemmas.List.{map-append, length-map}
use Rattle.std.proofs.lemmas.List.Elements.{All-push, All-weaker}
use Rattle.streams.specs.Files.{File}
use Rattle.streams.specs.Cause.{Rose}
use Rattle.idl_token.specs.declared.Place.{Place}
use Rattle.idl_parser.specs.declared.tree.Document.{Document}
use Rattle.idl_parser.specs.Phrases.{Node}
use Rattle.idl_parser.specs.Trees.{document_node}
use Rattle.idl_parser.specs.Unplaced.{nowhere}
use Rattle.idl_include.specs.Written.{Written}
use Rattle.idl_include.specs.Declarations.{Declaration}
use Rattle.idl_include.specs.Decoded.{declarations_of, includes_of}
use Rattle.idl_include.specs.DeclaredIn.{definitions_in, includes_of_document}
use Rattle.idl_include.specs.FileNames.{base_name}
use Rattle.idl_include.specs.Program.{SourceFile, Program}
use Rattle.idl_include.specs.Readings.{LoadFlawKind, too_many, FileReading, read_as, unread}
use Rattle.idl_include.specs.Loading.{Loaded, stopped, most_files, is_among, load_includes, load_read, load_within, load_file}
use Rattle.idl_include.specs.declared.faults.LoadFault.{LoadFault}
use Rattle.idl_include.specs.declared.faults.LoadKind.TheVariants as kinds
use Rattle.idl_include.specs.declared.faults.LoadStop.{LoadStop}
use Rattle.idl_include.specs.declared.faults.LoadStop.TheVariants as stops
use Rattle.idl_include.specs.declared.sources.IdlFile.{IdlFile}
use Rattle.idl_include.specs.SourcesOf.{file_in, program_in, IsOfSomeText, IsFile, HaveOwnBases, AreBegun}
use Rattle.idl_include.specs.Loads.{Tells, AreRead, IsRead, IsUnreadAt, IsReadableFile, LoadStopsAt, StopsWith, flaw_kind, is_unread, is_wrong_want}
use Rattle.idl_include.specs.Begun.{IsFreshFile, IsStarted, IsNewName}
use Rattle.idl_include.specs.Steps.{FileReader, load_stage, file_left, includes_left, LoadMoves, LoadProceeds, EndsUnread, LoadEnds}
use Rattle.idl_include.proofs.Stages.{moves_to, ends_with}

-- ---- files behind others

read_front : (reader : FileReader) (xs ys : List IdlFile) → AreRead reader (xs ++ ys) → AreRead reader xs
read_front reader [] ys r = tt
read_front reader (x ∷ xs) ys r = (r.0, read_front reader xs ys r.1)

read_last : (reader : FileReader) (xs : List IdlFile) (y : IdlFile) → AreRead reader (xs ++ y ∷ []) → reader y.name ≡ read_as (document_node y.document)
read_last reader [] y r = r.0
read_last reader (x ∷ xs) y r = read_last reader xs y r.1

read_push : (reader : FileReader) (xs : List IdlFile) (y : IdlFile) → AreRead reader xs → reader y.name ≡ read_as (document_node y.document) → AreRead reader (xs ++ y ∷ [])
read_push reader [] y r e = (e, tt)
read_push reader (x ∷ xs) y r e = (r.0, read_push reader xs y r.1 e)

pub neither : (a b : Bool) → (a || b) ≡ false → (a ≡ false) × (b ≡ false)
neither true b e = absurd (false≢true (sym e))
neither false b e = (refl, e)

one_of : (a b : Bool) → a ≡ false → b ≡ false → (a || b) ≡ false
one_of true b e f = absurd (false≢true (sym e))
one_of false b e f = f

bases_push : (before : List (List ℕ)) (xs : List IdlFile) (y : IdlFile) → HaveOwnBases before xs → is_among y.base before ≡ false
    → list_any (λ (file : IdlFile). bytes_eq file.base y.base) xs ≡ false → HaveOwnBases before (xs ++ y ∷ [])
bases_push before [] y h among none = (among, tt)
bases_push before (x ∷ xs) y h among none =
    let rest : List IdlFile → Bool = λ zs. list_any (λ (file : IdlFile). bytes_eq file.base y.base) zs in
    let n = neither (bytes_eq x.base y.base) (rest xs) none in
    (h.0, bases_push (x.base ∷ before) xs y h.1 (one_of (bytes_eq x.base y.base) (is_among y.base before) n.0 among) n.1)

pub begun_none : AreBegun []
begun_none = record { most = omega arith; bases = tt; each = λ k d l. absurd (let no : ⊥ = omega (arith, l) in no) }

length_push : (xs : List IdlFile) (y : IdlFile) → length (xs ++ y ∷ []) ≡ suc (length xs)
length_push [] y = refl
length_push (x ∷ xs) y = ap suc (length_push xs y)

file_among_more : (n : ℕ) (x : IdlFile) → IsFile n x → IsFile (suc n) x
file_among_more n x h = record {
  base = h.base;
  document = h.document;
  includes = All-weaker (λ (k : ℕ). k < n) (λ (k : ℕ). k < suc n) (λ k l. omega (arith, l)) x.includes.items h.includes;
}

fresh_is_file : (n : ℕ) (name : List ℕ) (document : Document) (y : IdlFile) → IsFreshFile name document y → IsOfSomeText document → IsFile n y
fresh_is_file n name document y f text = record {
  base = f.base_is ∙ ap base_name (sym f.name_is);
  document = subst (λ (d : Document). IsOfSomeText d) (sym f.document_is) text;
  includes =
      let P : List ℕ → Type 0 = λ numbers. All (λ number. number < n) numbers in
      let none : P [] = λ k d l. absurd (let no : ⊥ = omega (arith, l) in no) in
      subst P (sym f.no_includes) none;
}

pub begun_push : (name : List ℕ) (document : Document) (before after : List IdlFile) (wanted : List Written) → AreBegun before → IsNewName name before → length before < most_files
    → IsOfSomeText document → IsStarted name document before after wanted → AreBegun after
begun_push name document before after wanted begun new room text s =
    let y = s.file in
    let Q : List ℕ → Type 0 = λ b. list_any (λ (file : IdlFile). bytes_eq file.base b) before ≡ false in
    let none : Q y.base = subst Q (sym s.fresh.base_is) new.no_base in
    let one_more : length (before ++ y ∷ []) ≡ suc (length before) = length_push before y in
    let P : ℕ → Type 0 = λ n. All (IsFile n) (before ++ y ∷ []) in
    let all : P (suc (length before)) = All-push (IsFile (suc (length before))) before y
    (All-weaker (IsFile (length before)) (IsFile (suc (length before))) (file_among_more (length before)) before begun.each)
    (fresh_is_file (suc (length before)) name document y s.fresh text) in
    let here : AreBegun (before ++ y ∷ []) = record {
      most = omega (arith, one_more, room);
      bases = bases_push [] before y begun.bases refl none;
      each = subst P (sym one_more) all;
    } in
    subst (λ (files : List IdlFile). AreBegun files) (sym s.behind) here

pub one_more : (name : List ℕ) (document : Document) (before after : List IdlFile) (wanted : List Written) → IsStarted name document before after wanted → length after ≡ suc (length before)
one_more name document before after wanted s = ap length s.behind ∙ length_push before s.file

-- ---- what loading a file comes to

room_for : (files : List IdlFile) → length files < most_files → nat_le (suc (length (program_in files))) most_files ≡ true
room_for files l = let e : length (program_in files) ≡ length files = length-map files file_in in le-leb _ _ (omega (arith, l, e))

no_room_for : (files : List IdlFile) → most_files ≤ length files → nat_le (suc (length (program_in files))) most_files ≡ false
no_room_for files l = let e : length (program_in files) ≡ length files = length-map files file_in in lt-leb _ _ (omega (arith, l, e))

pub no_level_is : (above : List (List ℕ)) (name : List ℕ) (begun : List IdlFile) (reader : FileReader)
    → file_left 0 above name begun reader ≡ stopped (record { file = name; at = nowhere; kind = too_many })
unfolding load_file
no_level_is above name begun reader = refl

pub too_many_is : (levels : ℕ) (above : List (List ℕ)) (name : List ℕ) (begun : List IdlFile) (reader : FileReader) → most_files ≤ length begun
    → file_left (suc levels) above name begun reader ≡ stopped (record { file = name; at = nowhere; kind = too_many })
unfolding load_file
too_many_is levels above name begun reader l =
    ap (λ (b : Bool). load_within b is_utf8 (load_file is_utf8 reader levels (name ∷ above)) (name ∷ above) name (reader name) (program_in begun)) (no_room_for begun l)

within_is : (levels : ℕ) (above : List (List ℕ)) (name : List ℕ) (begun : List IdlFile) (reader : FileReader) (reading : FileReading) → length begun < most_files → reader name ≡ reading
    → file_left (suc levels) above name begun reader ≡ load_read is_utf8 (load_file is_utf8 reader levels (name ∷ above)) (name ∷ above) name reading (program_in begun)
unfolding load_file
within_is levels above name begun reader reading l e =
    ap (λ (b : Bool). load_within b is_utf8 (load_file is_utf8 reader levels (name ∷ above)) (name ∷ above) name (reader name) (program_in begun)) (room_for begun l)
    ∙ ap (λ (x : FileReading). load_read is_utf8 (load_file is_utf8 reader levels (name ∷ above)) (name ∷ above) name x (program_in begun)) e

pub unread_is : (levels : ℕ) (above : List (List ℕ)) (name : List ℕ) (begun : List IdlFile) (reader : FileReader) (at : Place) (kind : LoadFlawKind) → length begun < most_files
    → reader name ≡ unread at kind → file_left (suc levels) above name begun reader ≡ stopped (record { file = name; at = at; kind = kind })
unread_is levels above name begun reader at kind l e = within_is levels above name begun reader (unread at kind) l e

-- documents declare what their trees do
abbrev pub DeclaresTree : Type 0
DeclaresTree = (d : Document) → declarations_of (document_node d) ≡ definitions_in d

abbrev pub IncludesTree : Type 0
IncludesTree = (d : Document) → includes_of (document_node d) ≡ includes_of_document d

fresh_in : DeclaresTree → (name : List ℕ) (document : Document) (y : IdlFile) → IsFreshFile name document y
    → record { name = name; declarations = declarations_of (document_node document); includes = [] } ≡ file_in y
fresh_in declares name document y f =
    let mk : List ℕ → List Declaration → List ℕ → SourceFile = λ n d i. record { name = n; declarations = d; includes = i } in
    ap (λ (n : List ℕ). mk n (declarations_of (document_node document)) []) (sym f.name_is)
    ∙ ap (λ (d : List Declaration). mk y.name d []) (declares document ∙ ap definitions_in (sym f.document_is))
    ∙ ap (λ (i : List ℕ). mk y.name (definitions_in y.document) i) (sym f.no_includes)

pub started_is : DeclaresTree → IncludesTree → (levels : ℕ) (above : List (List ℕ)) (name : List ℕ) (document : Document) (before after : List IdlFile) (wanted : List Written) (reader : FileReader)
    → length before < most_files → IsStarted name document before after wanted → AreRead reader after
    → file_left (suc levels) above name before reader ≡ includes_left levels (name ∷ above) name (length before) wanted after reader
started_is declares includes levels above name document before after wanted reader room s r =
    let y = s.file in
    let tree : Node = document_node document in
    let all : AreRead reader (before ++ y ∷ []) = subst (λ (files : List IdlFile). AreRead reader files) s.behind r in
    let here : reader y.name ≡ read_as (document_node y.document) = read_last reader before y all in
    let read : reader name ≡ read_as tree = ap reader (sym s.fresh.name_is) ∙ here ∙ ap (λ (d : Document). read_as (document_node d)) s.fresh.document_is in
    let from : ℕ → List Written → Program → Loaded = λ of literals program. load_includes is_utf8 (load_file is_utf8 reader levels (name ∷ above)) (name ∷ above) name of literals program in
    let fresh : SourceFile = record { name = name; declarations = declarations_of tree; includes = [] } in
    let program : program_in before ++ fresh ∷ [] ≡ program_in after =
    ap (λ (x : SourceFile). program_in before ++ x ∷ []) (fresh_in declares name document y s.fresh) ∙ sym (map-append file_in before (y ∷ [])) ∙ ap program_in (sym s.behind) in
    within_is levels above name before reader (read_as tree) room read
    ∙ ap (λ (n : ℕ). from n (includes_of tree) (program_in before ++ fresh ∷ [])) (length-map before file_in)
    ∙ ap (λ (literals : List Written). from (length before) literals (program_in before ++ fresh ∷ [])) (includes document ∙ sym s.literals)
    ∙ ap (λ (p : Program). from (length before) wanted p) program

-- ---- steps

pub start_moves : (told other : Option (List File)) (faults now : ℕ) (name : List ℕ) (document : Document) (before after : List IdlFile) (wanted : List Written) → other ≡ told → faults ≤ now
    → ((reader : FileReader) → Tells told reader → IsRead name (reader name) (Ok document)) → IsStarted name document before after wanted
    → LoadMoves (load_stage told faults before) (load_stage other now after)
start_moves told other faults now name document before after wanted same later tells s =
    let y = s.file in
    record {
      same = same;
      later = later;
      kept = λ reader r. read_front reader before (y ∷ []) (subst (λ (files : List IdlFile). AreRead reader files) s.behind r);
      read = λ reader t r.
          let e : reader name ≡ read_as (document_node document) = tells reader t in
          let here : reader y.name ≡ read_as (document_node y.document) =
          ap reader s.fresh.name_is ∙ e ∙ ap (λ (d : Document). read_as (document_node d)) (sym s.fresh.document_is) in
          subst (λ (files : List IdlFile). AreRead reader files) (sym s.behind) (read_push reader before y r here);
    }

pub start_goes : DeclaresTree → IncludesTree → (levels : ℕ) (above : List (List ℕ)) (told other : Option (List File)) (faults now : ℕ) (name : List ℕ) (document : Document) (before after : List IdlFile) (wanted : List Written)
    → AreBegun before → IsNewName name before → length before < most_files → IsOfSomeText document
    → other ≡ told → now ≡ faults → ((reader : FileReader) → Tells told reader → IsRead name (reader name) (Ok document)) → IsStarted name document before after wanted
    → LoadProceeds (load_stage told faults before) (load_stage other now after) (file_left (suc levels) above name before)
    (includes_left levels (name ∷ above) name (length before) wanted after)
start_goes declares includes levels above told other faults now name document before after wanted begun new room text same quiet tells s =
    let more = one_more name document before after wanted s in
    record {
      moves = start_moves told other faults now name document before after wanted same (omega (arith, quiet)) tells s;
      longer = omega (arith, more);
      begun = begun_push name document before after wanted begun new room text s;
      comes = λ reader r. started_is declares includes levels above name document before after wanted reader room s r;
      quiet = quiet;
    }

pub too_many_ends : (levels : ℕ) (above : List (List ℕ)) (told : Option (List File)) (faults : ℕ) (name : List ℕ) (begun : List IdlFile) (stop : LoadStop) → most_files ≤ length begun
    → StopsWith name nowhere kinds.TooMany stop
    → LoadEnds (load_stage told faults begun) (load_stage told faults begun) (file_left (suc levels) above name begun) stop
too_many_ends levels above told faults name begun stop full s =
    ends_with _ _ _ name nowhere kinds.TooMany too_many stop (moves_to told told faults faults begun begun refl (omega arith) refl) refl s refl refl refl
    (λ reader. too_many_is levels above name begun reader full)

pub no_level_ends : (above : List (List ℕ)) (told : Option (List File)) (faults : ℕ) (name : List ℕ) (begun : List IdlFile) (levels : ℕ) (stop : LoadStop) → levels ≡ 0
    → StopsWith name nowhere kinds.TooMany stop
    → LoadEnds (load_stage told faults begun) (load_stage told faults begun) (file_left levels above name begun) stop
no_level_ends above told faults name begun levels stop e s =
    let P : ℕ → Type 0 = λ n. LoadEnds (load_stage told faults begun) (load_stage told faults begun) (file_left n above name begun) stop in
    let here : P 0 = ends_with _ _ _ name nowhere kinds.TooMany too_many stop (moves_to told told faults faults begun begun refl (omega arith) refl) refl s refl refl refl
    (λ reader. no_level_is above name begun reader) in
    subst P (sym e) here

read_stop : (levels : ℕ) (above : List (List ℕ)) (name : List ℕ) (begun : List IdlFile) (reader : FileReader) (fault : LoadFault) (o : Option LoadFlawKind) → length begun < most_files
    → MatchOption o ⊤ (λ kind. (fault.file ≡ name) × (reader name ≡ unread fault.at kind))
    → MatchOption o ⊤ (λ kind. file_left (suc levels) above name begun reader ≡ stopped (record { file = fault.file; at = fault.at; kind = kind }))
read_stop levels above name begun reader fault None room h = tt
read_stop levels above name begun reader fault (Some kind) room h =
    unread_is levels above name begun reader fault.at kind room h.1 ∙ ap (λ (n : List ℕ). stopped (record { file = n; at = fault.at; kind = kind })) (sym h.0)

read_flaw : (levels : ℕ) (above : List (List ℕ)) (name : List ℕ) (begun : List IdlFile) (reader : FileReader) (stop : LoadStop) → length begun < most_files
    → IsRead name (reader name) (Err stop) → LoadStopsAt (file_left (suc levels) above name begun reader) stop
read_flaw levels above name begun reader stops.NoMemory room h = tt
read_flaw levels above name begun reader (stops.At fault) room h = read_stop levels above name begun reader fault (flaw_kind fault.kind) room h

read_unread : (levels : ℕ) (above : List (List ℕ)) (told : Option (List File)) (name : List ℕ) (begun : List IdlFile) (stop : LoadStop) → length begun < most_files → IsNewName name begun
    → IsUnreadAt told name stop → EndsUnread told begun (file_left (suc levels) above name begun) stop
read_unread levels above told name begun stops.NoMemory room new h = tt
read_unread levels above told name begun (stops.At fault) room new h = λ file.
    let u : (fault.file ≡ name) × (fault.at ≡ nowhere) × IsReadableFile told name = h file in
    let P : List ℕ → Type 0 = λ n. IsReadableFile told n in
    let Q : List ℕ → Type 0 = λ n. list_any (λ (f : IdlFile). bytes_eq f.name n) begun ≡ false in
    record {
      place = u.1;
      readable = subst P (sym u.0) u.2;
      no_name = subst Q (sym u.0) new.no_name;
      stops_there = λ flaw reader r e.
          unread_is levels above name begun reader nowhere flaw room (ap reader (sym u.0) ∙ e)
          ∙ ap (λ (n : List ℕ). stopped (record { file = n; at = nowhere; kind = flaw })) (sym u.0);
    }

pub read_ends : (levels : ℕ) (above : List (List ℕ)) (told other : Option (List File)) (faults now : ℕ) (name : List ℕ) (begun : List IdlFile) (stop : LoadStop) → length begun < most_files
    → IsNewName name begun → other ≡ told → faults ≤ now → ((reader : FileReader) → Tells told reader → IsRead name (reader name) (Err stop)) → IsUnreadAt told name stop
    → (is_unread stop ≡ true → Rose faults now) → (is_unread stop ≡ false → now ≡ faults) → is_wrong_want stop ≡ false
    → LoadEnds (load_stage told faults begun) (load_stage other now begun) (file_left (suc levels) above name begun) stop
read_ends levels above told other faults now name begun stop room new same later tells fails rose quiet outer = record {
  moves = moves_to told other faults now begun begun same later refl;
  flaw = λ reader t r. read_flaw levels above name begun reader stop room (tells reader t);
  read = read_unread levels above told name begun stop room new fails;
  rose = rose;
  quiet = quiet;
  outer = outer;
}
