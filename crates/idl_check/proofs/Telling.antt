-- What loading and checking answer, as what is told of the verdict.
use Rattle.std.proofs.Common.{◌≡◌, ℕ, zero, suc, ◌<◌, true, false, List, [], ◌∷◌, length, get_or, slice_get, Option, Some, None, MatchOption, Result, Ok, Err, IfErr, refl, sym, ap, subst, ◌∙◌, arith}
use Rattle.std.specs.Prelude.{⊤}
use Rattle.std.specs.Option.{option_and_then, option_map}
use Rattle.std.proofs.lemmas.Option.{slice_get-map}
use Rattle.std.proofs.lemmas.List.{length-map}
use Rattle.streams.specs.Files.{File}
use Rattle.idl_token.specs.declared.Place.{Place}
use Rattle.idl_include.specs.Readings.{LoadFlawKind, FileReading}
use Rattle.idl_include.specs.Loading.{Loaded, loaded, stopped, program_of}
use Rattle.schema.specs.declared.types.Schema.{Schema}
use Rattle.schema.specs.SchemaOf.{schema_of}
use Rattle.check_model.specs.FirstFlaw.{FlawKind, IsFirstFlaw}
use Rattle.check_model.proofs.FirstOnes.{none_some}
use Rattle.idl_include.specs.declared.faults.LoadFault.{LoadFault}
use Rattle.idl_include.specs.declared.sources.IdlFile.{IdlFile}
use Rattle.idl_include.specs.declared.sources.Sources.{Sources}
use Rattle.idl_include.specs.SourcesOf.{file_in, program_in, sources_in}
use Rattle.idl_include.specs.Loads.{Tells, IsFlawOf, IsLoaded, IsReadFault, is_file}
use Rattle.idl_check.specs.declared.kinds.IdlFaultKind.{IdlFaultKind}
use Rattle.idl_check.specs.declared.refusal.NoSchema.{NoSchema}
use Rattle.idl_check.specs.declared.refusal.NoSchema.TheVariants.{Refused, FileFault, NoMemory}
use Rattle.idl_check.specs.FaultKinds.{kind_of_loading, kind_of_flaw}
use Rattle.idl_check.specs.Tutorial.{tutorial_name, tutorial_files}
use Rattle.idl_check.specs.Verdicts.{IdlVerdict, accepted, refused, IsIdlVerdictOfLoaded, IsVerdictIn, IsVerdictTold, IsVerdictBy, IsIdlVerdict, is_the_tutorial, StopsAtRead, IsUnreadIdl}
use Rattle.idl_check.specs.Telling.{TellsWhy, TellsSchema, RefusesIn, is_file_fault}
use Rattle.idl_check.proofs.PlacedFaults.{first_stands}
use Rattle.idl_check.proofs.Verdicts.{HasReaders}

-- a fault of loading that has a kind is a refusal
pub loading_refused : (come : Loaded) (file : List ℕ) (at : Place) (flaw : Option LoadFlawKind) (kind : IdlFaultKind) → option_and_then kind_of_loading flaw ≡ Some kind
    → MatchOption flaw ⊤ (λ k. come ≡ stopped (record { file = file; at = at; kind = k })) → IsIdlVerdictOfLoaded come (refused file at kind)
loading_refused come file at None kind named h = absurd (none_some kind named)
loading_refused come file at (Some flaw) kind named h =
    subst (λ l. IsIdlVerdictOfLoaded l (refused file at kind)) (sym h) (record { file_is = refl; place = refl; named = named })

-- a fault of a check that has a kind stands in one of the files
pub fault_within : (X : Type 0) (files : List IdlFile) (number : ℕ) (at : Place) (flaw : Option FlawKind) (kind : IdlFaultKind)
    → option_and_then kind_of_flaw flaw ≡ Some kind
    → MatchOption flaw X (λ k. IsFirstFlaw (program_in files) (record { file = number; at = at; kind = k })) → number < length files
fault_within X files number at None kind named h = absurd (none_some kind named)
fault_within X files number at (Some flaw) kind named h =
    let inside = (first_stands (program_in files) (record { file = number; at = at; kind = flaw }) h).within in omega (arith, inside, length-map files file_in)

-- what stands at a number
pub stands_at : (files : List IdlFile) (n : ℕ) (file : IdlFile) → n < length files → file ≡ get_or files n file → slice_get files n ≡ Some file
stands_at [] n file l e = absurd (let f : ⊥ = omega (arith, l) in f)
stands_at (f ∷ files) zero file l e = ap Some (sym e)
stands_at (f ∷ files) (suc n) file l e = stands_at files n file (omega (arith, l)) e

-- and is a refusal there
pub check_refused : (X : Type 0) (files : List IdlFile) (number : ℕ) (at : Place) (flaw : Option FlawKind) (kind : IdlFaultKind) (source : IdlFile) (reason : NoSchema)
    → option_and_then kind_of_flaw flaw ≡ Some kind
    → MatchOption flaw X (λ k. IsFirstFlaw (program_in files) (record { file = number; at = at; kind = k }))
    → slice_get files number ≡ Some source → RefusesIn source.name at kind reason → TellsWhy (IsIdlVerdictOfLoaded (loaded (program_in files))) ⊥ reason
check_refused X files number at None kind source reason named h there refuses = absurd (none_some kind named)
check_refused X files number at (Some flaw) kind source (Refused r) named h there refuses = record {
  flaw = record { file = number; at = at; kind = flaw };
  first = h;
  source = file_in source;
  there = slice_get-map file_in files number ∙ ap (option_map file_in) there;
  file_is = refuses.0;
  place = refuses.1;
  named = named ∙ ap Some (sym refuses.2);
}
check_refused X files number at (Some flaw) kind source FileFault named h there refuses = absurd refuses
check_refused X files number at (Some flaw) kind source NoMemory named h there refuses = tt

-- a verdict on what was loaded is one on the files
on_loaded : (told : Option (List File)) (main : List ℕ) (sources : Sources) (verdict : IdlVerdict) → HasReaders
    → ((reader : List ℕ → FileReading) → Tells told reader → IsLoaded reader (program_of reader main) (Ok sources))
    → IsIdlVerdictOfLoaded (loaded (program_in (sources_in sources))) verdict → IsVerdictTold told main verdict
on_loaded None main sources (accepted schema) read come on = (program_in (sources_in sources), on)
on_loaded None main sources (refused file at kind) read come on = tt
on_loaded (Some files) main sources verdict read come on =
    let reader = (read files).0 in
    let is = (read files).1 in
    (reader, is, subst (λ l. IsIdlVerdictOfLoaded l verdict) (sym (come reader is).0) on)

pub from_loaded : (told : Option (List File)) (main : List ℕ) (sources : Sources) (result : Result Schema NoSchema) → HasReaders
    → ((reader : List ℕ → FileReading) → Tells told reader → IsLoaded reader (program_of reader main) (Ok sources))
    → TellsSchema (IsIdlVerdictOfLoaded (loaded (program_in (sources_in sources)))) ⊥ result
    → TellsSchema (IsVerdictTold told main) (StopsAtRead told main) result
from_loaded told main sources (Ok schema) read come h = (on_loaded told main sources (accepted (schema_of schema)) read come h.0, h.1)
from_loaded told main sources (Err (Refused r)) read come h = on_loaded told main sources (refused r.file r.at r.kind) read come h
from_loaded told main sources (Err FileFault) read come h = absurd h
from_loaded told main sources (Err NoMemory) read come h = tt

-- so is one on why loading stopped
pub from_stopped : (told : Option (List File)) (main : List ℕ) (fault : LoadFault) (reason : NoSchema) → HasReaders
    → ((reader : List ℕ → FileReading) → Tells told reader → IsFlawOf (program_of reader main) fault)
    → (is_file fault.kind ≡ true → IsReadFault told main fault)
    → ((come : Loaded) → IsFlawOf come fault → TellsWhy (IsIdlVerdictOfLoaded come) (is_file fault.kind ≡ true) reason) → is_file_fault reason ≡ is_file fault.kind
    → TellsWhy (IsVerdictTold told main) (StopsAtRead told main) reason
from_stopped None main fault (Refused r) read flaw unread why file = tt
from_stopped (Some files) main fault (Refused r) read flaw unread why file =
    let reader = (read files).0 in
    let is = (read files).1 in
    (reader, is, why (program_of reader main) (flaw reader is))
from_stopped told main fault FileFault read flaw unread why file = (fault, unread (sym file))
from_stopped told main fault NoMemory read flaw unread why file = tt

-- the verdict on the tutorial, and that on a file
pub of_tutorial : (told : Option (List File)) (idl : List ℕ) (result : Result Schema NoSchema) → is_the_tutorial idl ≡ true
    → TellsSchema (IsVerdictIn tutorial_files tutorial_name) ⊥ result → TellsSchema (IsIdlVerdict told idl) (IsUnreadIdl told idl) result
of_tutorial told idl (Ok schema) test h =
    (subst (λ b. IsVerdictBy b told idl (accepted (schema_of schema))) (sym test) h.0, h.1)
of_tutorial told idl (Err (Refused r)) test h = subst (λ b. IsVerdictBy b told idl (refused r.file r.at r.kind)) (sym test) h
of_tutorial told idl (Err FileFault) test h = absurd h
of_tutorial told idl (Err NoMemory) test h = tt

pub of_file : (told : Option (List File)) (idl : List ℕ) (result : Result Schema NoSchema) → is_the_tutorial idl ≡ false
    → TellsSchema (IsVerdictTold told idl) (StopsAtRead told idl) result → TellsSchema (IsIdlVerdict told idl) (IsUnreadIdl told idl) result
of_file told idl (Ok schema) test h =
    (subst (λ b. IsVerdictBy b told idl (accepted (schema_of schema))) (sym test) h.0, h.1)
of_file told idl (Err (Refused r)) test h = subst (λ b. IsVerdictBy b told idl (refused r.file r.at r.kind)) (sym test) h
of_file told idl (Err FileFault) test h = (test, h)
of_file told idl (Err NoMemory) test h = tt

-- where no read fails, nothing is asked of a count
pub never_rises : (P : Type 0) (result : Result Schema NoSchema) → IfErr result (λ reason. is_file_fault reason ≡ false)
    → IfErr result (λ reason. is_file_fault reason ≡ true → P)
never_rises P (Ok schema) h = tt
never_rises P (Err reason) h = λ e. absurd (let f : false ≡ true = sym h ∙ e in let g : ⊥ = cc in g)

-- what holds in any case holds of an answer without a file fault
pub quiet_on : {A P : Type 0} (result : Result A NoSchema) → P → IfErr result (λ reason. is_file_fault reason ≡ false → P)
quiet_on (Ok a) p = tt
quiet_on (Err reason) p = λ e. p
