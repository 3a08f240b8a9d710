-- An IDL has a verdict, where files are told, and one alone.
use Rattle.std.proofs.Common.{◌≡◌, ◌⊎◌, ℕ, Bool, true, false, List, slice_get, Some, refl, sym, ap, subst, ◌∙◌, inl, inr}
use Rattle.streams.specs.Files.{File}
use Rattle.idl_token.specs.declared.Place.{Place}
use Rattle.idl_include.specs.Program.{SourceFile, Program}
use Rattle.idl_include.specs.Readings.{FileReading, IsReaderOf}
use Rattle.idl_include.specs.Loading.{LoadFlaw, Loaded, loaded, stopped, program_of}
use Rattle.schema.specs.PlainSchema.{PlainSchema}
use Rattle.check_model.specs.FirstFlaw.{ProgramFlaw, IsFirstFlaw}
use Rattle.check_model.specs.ProgramSchema.{IsSchemaOf}
use Rattle.check_model.proofs.FirstOnes.{somes}
use Rattle.check_model.proofs.OneSchema.{one_schema}
use Rattle.check_model.proofs.OneVerdict.{one_flaw, no_flaw_beside}
use Rattle.idl_check.specs.declared.kinds.IdlFaultKind.{IdlFaultKind}
use Rattle.idl_check.specs.FaultKinds.{kind_of_flaw}
use Rattle.idl_check.specs.Tutorial.{tutorial_name, tutorial_files}
use Rattle.idl_check.specs.Verdicts.{IdlVerdict, accepted, refused, IsLoadRefusal, IsCheckRefusal, IsIdlVerdictOfLoaded, IsVerdictIn, IsVerdictBy, IsIdlVerdict, is_the_tutorial}
use Rattle.idl_check.proofs.Named.{EndsNamed, program_named}
use Rattle.idl_check.proofs.PlacedFaults.{first_stands}

-- a program has a schema or a first fault
abbrev pub IsDecided : Program → Type 0
IsDecided program = ((schema : PlainSchema) × IsSchemaOf program schema) ⊎ ((flaw : ProgramFlaw) × IsFirstFlaw program flaw)

of_program : (program : Program) → IsDecided program → (verdict : IdlVerdict) × IsIdlVerdictOfLoaded (loaded program) verdict
of_program program (inl (schema, is)) = (accepted schema, is)
of_program program (inr (flaw, first)) =
    let stands = first_stands program flaw first in (
      refused stands.source.name flaw.at stands.kind,
      record { flaw = flaw; first = first; source = stands.source; there = stands.there; file_is = refl; place = refl; named = stands.named },
    )

some_on : ((program : Program) → IsDecided program) → (come : Loaded) → EndsNamed come → (verdict : IdlVerdict) × IsIdlVerdictOfLoaded come verdict
some_on decided (loaded program) named = of_program program (decided program)
some_on decided (stopped flaw) named = (refused flaw.file flaw.at named.0, record { file_is = refl; place = refl; named = named.1 })

-- each store of files has a reader
abbrev pub HasReaders : Type 0
HasReaders = (files : List File) → (reader : List ℕ → FileReading) × IsReaderOf files reader

some_in : HasReaders → ((program : Program) → IsDecided program) → (files : List File) (main : List ℕ) → (verdict : IdlVerdict) × IsVerdictIn files main verdict
some_in read decided files main =
    let reader = (read files).0 in
    let is = (read files).1 in
    let found = some_on decided (program_of reader main) (program_named files reader main is) in
    (found.0, (reader, is, found.1))

some_by : HasReaders → ((program : Program) → IsDecided program) → (tutorial : Bool) (files : List File) (idl : List ℕ)
    → (verdict : IdlVerdict) × IsVerdictBy tutorial (Some files) idl verdict
some_by read decided true files idl = some_in read decided tutorial_files tutorial_name
some_by read decided false files idl = some_in read decided files idl

pub some_verdict : HasReaders → ((program : Program) → IsDecided program) → (files : List File) (idl : List ℕ)
    → (verdict : IdlVerdict) × IsIdlVerdict (Some files) idl verdict
some_verdict read decided files idl = some_by read decided (is_the_tutorial idl) files idl

-- two refusals of one flaw are the same
one_load_refusal : (flaw : LoadFlaw) (file name : List ℕ) (at place : Place) (kind other : IdlFaultKind)
    → IsLoadRefusal flaw file at kind → IsLoadRefusal flaw name place other → ◌≡◌ {A = IdlVerdict} (refused file at kind) (refused name place other)
one_load_refusal flaw file name at place kind other p q =
    let files : file ≡ name = p.file_is ∙ sym q.file_is in
    let places : at ≡ place = p.place ∙ sym q.place in
    let kinds : kind ≡ other = somes kind other (sym p.named ∙ q.named) in
    λ i. refused (files i) (places i) (kinds i)

one_check_refusal : (program : Program) (file name : List ℕ) (at place : Place) (kind other : IdlFaultKind)
    → IsCheckRefusal program file at kind → IsCheckRefusal program name place other → ◌≡◌ {A = IdlVerdict} (refused file at kind) (refused name place other)
one_check_refusal program file name at place kind other p q =
    let same : p.flaw ≡ q.flaw = one_flaw program p.flaw q.flaw p.first q.first in
    let source : p.source ≡ q.source =
    somes p.source q.source (sym p.there ∙ ap (λ (f : ProgramFlaw). slice_get program f.file) same ∙ q.there)
    in
    let files : file ≡ name = p.file_is ∙ ap (λ (s : SourceFile). s.name) source ∙ sym q.file_is in
    let places : at ≡ place = p.place ∙ ap (λ (f : ProgramFlaw). f.at) same ∙ sym q.place in
    let kinds : kind ≡ other = somes kind other (sym p.named ∙ ap (λ (f : ProgramFlaw). kind_of_flaw f.kind) same ∙ q.named) in
    λ i. refused (files i) (places i) (kinds i)

one_on : (come : Loaded) (v w : IdlVerdict) → IsIdlVerdictOfLoaded come v → IsIdlVerdictOfLoaded come w → v ≡ w
one_on (loaded program) (accepted a) (accepted b) p q = ap accepted (one_schema program a b p q)
one_on (loaded program) (accepted a) (refused file at kind) p q = absurd (no_flaw_beside program q.flaw p.faultless q.first)
one_on (loaded program) (refused file at kind) (accepted b) p q = absurd (no_flaw_beside program p.flaw q.faultless p.first)
one_on (loaded program) (refused file at kind) (refused name place other) p q = one_check_refusal program file name at place kind other p q
one_on (stopped flaw) (accepted a) w p q = absurd p
one_on (stopped flaw) (refused file at kind) (accepted b) p q = absurd q
one_on (stopped flaw) (refused file at kind) (refused name place other) p q = one_load_refusal flaw file name at place kind other p q

-- a main file has one program among files
abbrev pub AreDetermined : Type 0
AreDetermined = (files : List File) (main : List ℕ) (r s : List ℕ → FileReading) → IsReaderOf files r → IsReaderOf files s → program_of r main ≡ program_of s main

one_in : AreDetermined → (files : List File) (main : List ℕ) (v w : IdlVerdict) → IsVerdictIn files main v → IsVerdictIn files main w → v ≡ w
one_in determined files main v w p q =
    one_on (program_of q.0 main) v w (subst (λ come. IsIdlVerdictOfLoaded come v) (determined files main p.0 q.0 p.1 q.1) p.2) q.2

one_by : AreDetermined → (tutorial : Bool) (files : List File) (idl : List ℕ) (v w : IdlVerdict)
    → IsVerdictBy tutorial (Some files) idl v → IsVerdictBy tutorial (Some files) idl w → v ≡ w
one_by determined true files idl v w p q = one_in determined tutorial_files tutorial_name v w p q
one_by determined false files idl v w p q = one_in determined files idl v w p q

pub one_verdict : AreDetermined → (files : List File) (idl : List ℕ) (v w : IdlVerdict)
    → IsIdlVerdict (Some files) idl v → IsIdlVerdict (Some files) idl w → v ≡ w
one_verdict determined files idl v w p q = one_by determined (is_the_tutorial idl) files idl v w p q
