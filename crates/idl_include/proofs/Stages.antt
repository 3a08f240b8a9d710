-- One step of loading, and then another.
use Rattle.std.proofs.Common.{◌≡◌, ◌≤◌, ◌+◌, ℕ, false, List, min, Option, None, Some, MatchOption, Result, Ok, Err, refl, ap, sym, subst, ◌∙◌, arith}
use Rattle.std.specs.Prelude.{⊤}
use Rattle.std.proofs.lemmas.Bool.{false≢true}
use Rattle.std.proofs.Math.Nat.{min-le_left, min-le_right, le-min}
use Rattle.streams.specs.Files.{File}
use Rattle.streams.specs.Cause.{Rose}
use Rattle.idl_token.specs.declared.Place.{Place}
use Rattle.idl_include.specs.Readings.{LoadFlawKind}
use Rattle.idl_include.specs.Program.{Program}
use Rattle.idl_include.specs.Loading.{Loaded, stopped, and_then}
use Rattle.idl_include.specs.declared.faults.LoadKind.{LoadKind}
use Rattle.idl_include.specs.declared.faults.LoadStop.{LoadStop}
use Rattle.idl_include.specs.declared.faults.LoadStop.TheVariants as stops
use Rattle.idl_include.specs.declared.sources.IdlFile.{IdlFile}
use Rattle.idl_include.specs.SourcesOf.{program_in}
use Rattle.idl_include.specs.Loads.{Tells, AreRead, IsReadableFile, LoadStopsAt, StopsWith, flaw_kind, is_file, is_inner_want, is_unread, is_wrong_want}
use Rattle.idl_include.specs.Steps.{FileReader, LoadStage, load_stage, all_loaded, LoadMoves, LoadProceeds, StopsUnread, EndsUnread, LoadEnds, LoadSteps}

-- a count that rose has risen from each lower one
lower_min : (a b m c : ℕ) → a ≤ b → min (b + 1) m ≤ c → min (a + 1) m ≤ c
lower_min a b m c l rose =
    let left : min (a + 1) m ≤ a + 1 = min-le_left (a + 1) m in
    let right : min (a + 1) m ≤ m = min-le_right (a + 1) m in
    let both : min (a + 1) m ≤ min (b + 1) m = le-min (omega arith) right in
    omega arith

rose_from : (a b c : ℕ) → a ≤ b → Rose b c → Rose a c
rose_from a b c l rose = lower_min a b _ c l rose

-- ---- moves

pub moves_none : (a : LoadStage) → LoadMoves a a
moves_none a = record { same = refl; later = omega arith; kept = λ reader r. r; read = λ reader t r. r }

pub moves_to : (told other : Option (List File)) (faults now : ℕ) (before after : List IdlFile) → other ≡ told → faults ≤ now → after ≡ before
    → LoadMoves (load_stage told faults before) (load_stage other now after)
moves_to told other faults now before after same later e = record {
  same = same;
  later = later;
  kept = λ reader r. subst (λ (files : List IdlFile). AreRead reader files) e r;
  read = λ reader t r. subst (λ (files : List IdlFile). AreRead reader files) (sym e) r;
}

pub moved : (a b c : LoadStage) → LoadMoves a b → LoadMoves b c → LoadMoves a c
moved a b c g h = record {
  same = h.same ∙ g.same;
  later = omega (arith, g.later, h.later);
  kept = λ reader r. g.kept reader (h.kept reader r);
  read = λ reader t r.
      let T : Option (List File) → Type 0 = λ told. Tells told reader in
      h.read reader (subst T (sym g.same) t) (g.read reader t r);
}

-- ---- going on

pub goes_on : (a b c : LoadStage) (was mid is : FileReader → Loaded) → LoadProceeds a b was mid → LoadProceeds b c mid is → LoadProceeds a c was is
goes_on a b c was mid is g h = record {
  moves = moved a b c g.moves h.moves;
  longer = omega (arith, g.longer, h.longer);
  begun = h.begun;
  comes = λ reader r. g.comes reader (h.moves.kept reader r) ∙ h.comes reader r;
  quiet = h.quiet ∙ g.quiet;
}

-- what was left is spelled in another way
pub goes_from : (a b : LoadStage) (was other is : FileReader → Loaded) → ((reader : FileReader) → other reader ≡ was reader) → LoadProceeds a b was is → LoadProceeds a b other is
goes_from a b was other is e g = record { moves = g.moves; longer = g.longer; begun = g.begun; comes = λ reader r. e reader ∙ g.comes reader r; quiet = g.quiet }

pub goes_to : (a b : LoadStage) (was is other : FileReader → Loaded) → ((reader : FileReader) → is reader ≡ other reader) → LoadProceeds a b was is → LoadProceeds a b was other
goes_to a b was is other e g = record { moves = g.moves; longer = g.longer; begun = g.begun; comes = λ reader r. g.comes reader r ∙ e reader; quiet = g.quiet }

-- something is left to do after it
pub goes_before : (a b : LoadStage) (was : FileReader → Loaded) (files : List IdlFile) (next : FileReader → Program → Loaded) → LoadProceeds a b was (all_loaded files)
    → LoadProceeds a b (λ reader. and_then (was reader) (next reader)) (λ reader. next reader (program_in files))
goes_before a b was files next g = record {
  moves = g.moves;
  longer = g.longer;
  begun = g.begun;
  comes = λ reader r. ap (λ (come : Loaded). and_then come (next reader)) (g.comes reader r);
  quiet = g.quiet;
}

-- ---- ends

unread_on : (told other : Option (List File)) (begun : List IdlFile) (was mid : FileReader → Loaded) (stop : LoadStop) → other ≡ told
    → ((reader : FileReader) → AreRead reader begun → was reader ≡ mid reader) → EndsUnread other begun mid stop → EndsUnread told begun was stop
unread_on told other begun was mid stops.NoMemory same e h = tt
unread_on told other begun was mid (stops.At fault) same e h = λ file.
    let f : StopsUnread other begun mid fault = h file in
    let P : Option (List File) → Type 0 = λ t. IsReadableFile t fault.file in
    record {
      place = f.place;
      readable = subst P same f.readable;
      no_name = f.no_name;
      stops_there = λ flaw reader r u. e reader r ∙ f.stops_there flaw reader r u;
    }

pub ends_on : (a b c : LoadStage) (was mid : FileReader → Loaded) (stop : LoadStop) → LoadProceeds a b was mid → LoadEnds b c mid stop → LoadEnds a c was stop
ends_on a b c was mid stop g h = record {
  moves = moved a b c g.moves h.moves;
  flaw = λ reader t r.
      let T : Option (List File) → Type 0 = λ told. Tells told reader in
      let P : Loaded → Type 0 = λ come. LoadStopsAt come stop in
      subst P (sym (g.comes reader (h.moves.kept reader r))) (h.flaw reader (subst T (sym g.moves.same) t) r);
  read = unread_on a.told b.told c.begun was mid stop g.moves.same (λ reader r. g.comes reader (h.moves.kept reader r)) h.read;
  rose = λ e. rose_from a.faults b.faults c.faults g.moves.later (h.rose e);
  quiet = λ e. h.quiet e ∙ g.quiet;
  outer = h.outer;
}

pub ends_from : (a b : LoadStage) (was other : FileReader → Loaded) (stop : LoadStop) → ((reader : FileReader) → other reader ≡ was reader) → LoadEnds a b was stop → LoadEnds a b other stop
ends_from a b was other stop e h = record {
  moves = h.moves;
  flaw = λ reader t r. let P : Loaded → Type 0 = λ come. LoadStopsAt come stop in subst P (sym (e reader)) (h.flaw reader t r);
  read = unread_on a.told a.told b.begun other was stop refl (λ reader r. e reader) h.read;
  rose = h.rose;
  quiet = h.quiet;
  outer = h.outer;
}

stops_before : (come : Loaded) (next : Program → Loaded) (file : List ℕ) (at : Place) (o : Option LoadFlawKind)
    → MatchOption o ⊤ (λ kind. come ≡ stopped (record { file = file; at = at; kind = kind }))
    → MatchOption o ⊤ (λ kind. and_then come next ≡ stopped (record { file = file; at = at; kind = kind }))
stops_before come next file at None h = tt
stops_before come next file at (Some kind) h = ap (λ (c : Loaded). and_then c next) h

flaw_before : (come : Loaded) (next : Program → Loaded) (stop : LoadStop) → LoadStopsAt come stop → LoadStopsAt (and_then come next) stop
flaw_before come next stops.NoMemory h = tt
flaw_before come next (stops.At fault) h = stops_before come next fault.file fault.at (flaw_kind fault.kind) h

unread_before : (told : Option (List File)) (begun : List IdlFile) (was : FileReader → Loaded) (next : FileReader → Program → Loaded) (stop : LoadStop)
    → EndsUnread told begun was stop → EndsUnread told begun (λ reader. and_then (was reader) (next reader)) stop
unread_before told begun was next stops.NoMemory h = tt
unread_before told begun was next (stops.At fault) h = λ file.
    let f : StopsUnread told begun was fault = h file in
    record {
      place = f.place;
      readable = f.readable;
      no_name = f.no_name;
      stops_there = λ flaw reader r u. ap (λ (c : Loaded). and_then c (next reader)) (f.stops_there flaw reader r u);
    }

pub ends_before : (a b : LoadStage) (was : FileReader → Loaded) (next : FileReader → Program → Loaded) (stop : LoadStop) → LoadEnds a b was stop
    → LoadEnds a b (λ reader. and_then (was reader) (next reader)) stop
ends_before a b was next stop h = record {
  moves = h.moves;
  flaw = λ reader t r. flaw_before (was reader) (next reader) stop (h.flaw reader t r);
  read = unread_before a.told b.begun was next stop h.read;
  rose = h.rose;
  quiet = h.quiet;
  outer = h.outer;
}

-- ---- ends of their own

-- memory ran out
pub ends_for_want : (a b : LoadStage) (was : FileReader → Loaded) (stop : LoadStop) → stop ≡ stops.NoMemory → LoadMoves a b → b.faults ≡ a.faults → LoadEnds a b was stop
ends_for_want a b was stop e moves quiet =
    let P : LoadStop → Type 0 = λ s. LoadEnds a b was s in
    let here : LoadEnds a b was stops.NoMemory = record { moves = moves; flaw = λ reader t r. tt; read = tt; rose = λ no. absurd (false≢true no); quiet = λ yes. quiet; outer = refl } in
    subst P (sym e) here

not_unread : (told : Option (List File)) (begun : List IdlFile) (was : FileReader → Loaded) (stop : LoadStop) → is_unread stop ≡ false → EndsUnread told begun was stop
not_unread told begun was stops.NoMemory e = tt
not_unread told begun was (stops.At fault) e = λ f. absurd (false≢true (sym e ∙ f))

-- at a flaw that is known without a reading
pub ends_at : (a b : LoadStage) (was : FileReader → Loaded) (stop : LoadStop) → LoadMoves a b → b.faults ≡ a.faults → ((reader : FileReader) → LoadStopsAt (was reader) stop)
    → is_unread stop ≡ false → is_wrong_want stop ≡ false → LoadEnds a b was stop
ends_at a b was stop moves quiet flaw file want = record {
  moves = moves;
  flaw = λ reader t r. flaw reader;
  read = not_unread a.told b.begun was stop file;
  rose = λ e. absurd (false≢true (sym file ∙ e));
  quiet = λ e. quiet;
  outer = want;
}

stops_with : (come : Loaded) (file : List ℕ) (at : Place) (kind : LoadKind) (flaw : LoadFlawKind) (stop : LoadStop) → StopsWith file at kind stop → flaw_kind kind ≡ Some flaw
    → come ≡ stopped (record { file = file; at = at; kind = flaw }) → LoadStopsAt come stop
stops_with come file at kind flaw stops.NoMemory s e c = tt
stops_with come file at kind flaw (stops.At fault) s e c =
    let Q : Option LoadFlawKind → Type 0 = λ o. MatchOption o ⊤ (λ k. come ≡ stopped (record { file = fault.file; at = fault.at; kind = k })) in
    let mk : List ℕ → Place → Loaded = λ f p. stopped (record { file = f; at = p; kind = flaw }) in
    subst Q (sym (ap flaw_kind s.2 ∙ e)) (c ∙ ap (λ (f : List ℕ). mk f at) (sym s.0) ∙ ap (λ (p : Place). mk fault.file p) (sym s.1))

with_no_read : (file : List ℕ) (at : Place) (kind : LoadKind) (stop : LoadStop) → StopsWith file at kind stop → is_file kind ≡ false → is_unread stop ≡ false
with_no_read file at kind stops.NoMemory s e = refl
with_no_read file at kind (stops.At fault) s e = ap is_file s.2 ∙ e

with_no_want : (file : List ℕ) (at : Place) (kind : LoadKind) (stop : LoadStop) → StopsWith file at kind stop → is_inner_want kind ≡ false → is_wrong_want stop ≡ false
with_no_want file at kind stops.NoMemory s e = refl
with_no_want file at kind (stops.At fault) s e = ap is_inner_want s.2 ∙ e

pub ends_with : (a b : LoadStage) (was : FileReader → Loaded) (file : List ℕ) (at : Place) (kind : LoadKind) (flaw : LoadFlawKind) (stop : LoadStop) → LoadMoves a b → b.faults ≡ a.faults → StopsWith file at kind stop
    → flaw_kind kind ≡ Some flaw → is_file kind ≡ false → is_inner_want kind ≡ false → ((reader : FileReader) → was reader ≡ stopped (record { file = file; at = at; kind = flaw }))
    → LoadEnds a b was stop
ends_with a b was file at kind flaw stop moves quiet s told read want e =
    ends_at a b was stop moves quiet (λ reader. stops_with (was reader) file at kind flaw stop s told (e reader))
    (with_no_read file at kind stop s read) (with_no_want file at kind stop s want)

-- ---- results

pub steps_on : {A : Type 0} (a b c : LoadStage) (was mid : FileReader → Loaded) (is : A → FileReader → Loaded) (result : Result A LoadStop)
    → LoadProceeds a b was mid → LoadSteps result b c mid is → LoadSteps result a c was is
steps_on a b c was mid is (Ok done) g h = goes_on a b c was mid (is done) g h
steps_on a b c was mid is (Err stop) g h = ends_on a b c was mid stop g h
