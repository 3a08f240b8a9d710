-- The first fault of a program stands in one of its files, and has a kind.
use Rattle.std.proofs.Common.{◌≡◌, ℕ, zero, suc, ◌+◌, ◌<◌, ◌≤◌, List, [], ◌∷◌, length, slice_get, Some, refl, sym, ap, subst, ◌∙◌, arith}
use Rattle.std.specs.List.{AllByRecursion}
use Rattle.idl_include.specs.Program.{SourceFile, Program}
use Rattle.idl_include.specs.Numbering.{Counts, none_counted, all_counted}
use Rattle.idl_include.specs.Spots.{Spotted, given_name, type_use, parent_use, typedef_spot, field_spot, thrown_spot, enum_value_spot, struct_spot, service_spot, function_spot, value_spot, Spot, spots_in_declarations, in_file, spots_from, spots_of}
use Rattle.check_model.specs.Passes.{Pass, dotted_name, duplicate_name, unknown_type, typedef_cycle, field_id, duplicate_id, enum_number, service_cycle, duplicate_function, oneway_not_void, oneway_throws, not_exception, struct_loop, bad_constant, place_shown}
use Rattle.check_model.specs.FirstFlaw.{found_by, ProgramFlaw, IsValueFlaw, IsAtFault, IsFirstOf, IsFirstFlaw}
use Rattle.check_model.proofs.FirstOnes.{holds_at_split}
use Rattle.check_model.proofs.Shown.{both_all}
use Rattle.idl_check.specs.declared.kinds.IdlFaultKind.{IdlFaultKind}
use Rattle.idl_check.specs.declared.kinds.IdlFaultKind.TheVariants as kinds
use Rattle.idl_check.specs.FaultKinds.{kind_of_pass, kind_of_value, kind_of_flaw}

-- a fault found at a spot stands in the spot's file, and has a kind
pub record IsInFile (file : ℕ) (flaw : ProgramFlaw) : Type 0 where
  pub kind : IdlFaultKind
  pub named : kind_of_flaw flaw.kind ≡ Some kind
  pub in_it : flaw.file ≡ file

by_pass : (pass : Pass) (kind : IdlFaultKind) (spot : Spot) (flaw : ProgramFlaw) → kind_of_pass pass ≡ Some kind
    → flaw ≡ record { file = spot.file; at = place_shown spot.shows; kind = found_by pass } → IsInFile spot.file flaw
by_pass pass kind spot flaw named is = record {
  kind = kind;
  named = ap (λ (f : ProgramFlaw). kind_of_flaw f.kind) is ∙ named;
  in_it = ap (λ (f : ProgramFlaw). f.file) is;
}

by_value : (program : Program) (file : ℕ) (shown : Spotted) (flaw : ProgramFlaw) → IsValueFlaw program file shown flaw → IsInFile file flaw
by_value program file (value_spot v) flaw h = record {
  kind = kind_of_value h.1;
  named = ap (λ (f : ProgramFlaw). kind_of_flaw f.kind) h.3;
  in_it = ap (λ (f : ProgramFlaw). f.file) h.3;
}
by_value program file (given_name _ _) flaw h = absurd h
by_value program file (type_use _) flaw h = absurd h
by_value program file (parent_use _) flaw h = absurd h
by_value program file (typedef_spot _ _) flaw h = absurd h
by_value program file (field_spot _ _) flaw h = absurd h
by_value program file (thrown_spot _) flaw h = absurd h
by_value program file (enum_value_spot _ _) flaw h = absurd h
by_value program file (struct_spot _ _) flaw h = absurd h
by_value program file (service_spot _ _) flaw h = absurd h
by_value program file (function_spot _ _ _) flaw h = absurd h

placed : (pass : Pass) (program : Program) (spot : Spot) (flaw : ProgramFlaw) → IsAtFault pass program spot flaw → IsInFile spot.file flaw
placed bad_constant program spot flaw h = by_value program spot.file spot.shows flaw h
placed dotted_name program spot flaw h = by_pass dotted_name kinds.DottedName spot flaw refl h.1
placed duplicate_name program spot flaw h = by_pass duplicate_name kinds.DuplicateName spot flaw refl h.1
placed unknown_type program spot flaw h = by_pass unknown_type kinds.UnknownType spot flaw refl h.1
placed typedef_cycle program spot flaw h = by_pass typedef_cycle kinds.TypedefCycle spot flaw refl h.1
placed field_id program spot flaw h = by_pass field_id kinds.FieldId spot flaw refl h.1
placed duplicate_id program spot flaw h = by_pass duplicate_id kinds.DuplicateId spot flaw refl h.1
placed enum_number program spot flaw h = by_pass enum_number kinds.EnumValue spot flaw refl h.1
placed service_cycle program spot flaw h = by_pass service_cycle kinds.ServiceCycle spot flaw refl h.1
placed duplicate_function program spot flaw h = by_pass duplicate_function kinds.DuplicateFunction spot flaw refl h.1
placed oneway_not_void program spot flaw h = by_pass oneway_not_void kinds.OnewayNotVoid spot flaw refl h.1
placed oneway_throws program spot flaw h = by_pass oneway_throws kinds.OnewayThrows spot flaw refl h.1
placed not_exception program spot flaw h = by_pass not_exception kinds.NotException spot flaw refl h.1
placed struct_loop program spot flaw h = by_pass struct_loop kinds.StructLoop spot flaw refl h.1

-- spots stand in files of the program
in_files : (number limit : ℕ) (shown : List Spotted) → number < limit → AllByRecursion (λ (s : Spot). s.file < limit) (in_file number shown)
in_files number limit [] l = tt
in_files number limit (x ∷ shown) l = (l, in_files number limit shown l)

from_files : (limit number : ℕ) (n : Counts) (files : Program) → number + length files ≤ limit
    → AllByRecursion (λ (s : Spot). s.file < limit) (spots_from number n files)
from_files limit number n [] l = tt
from_files limit number n (file ∷ files) l =
    both_all (λ (s : Spot). s.file < limit) (in_file number (spots_in_declarations [] n file.declarations))
    (spots_from (suc number) (all_counted n file.declarations) files)
    (in_files number limit (spots_in_declarations [] n file.declarations) (omega (arith, l)))
    (from_files limit (suc number) (all_counted n file.declarations) files (omega (arith, l)))

spots_within : (program : Program) → AllByRecursion (λ (s : Spot). s.file < length program) (spots_of program)
unfolding spots_of
spots_within program = from_files (length program) 0 none_counted program (omega arith)

spot_within : (program : Program) (pass : Pass) (flaw : ProgramFlaw) → (h : IsFirstOf program pass flaw) → h.spot.file < length program
spot_within program pass flaw h =
    let Within : Spot → Type 0 = λ s. s.file < length program in
    holds_at_split Within h.before h.spot h.after (subst (AllByRecursion Within) h.split (spots_within program))

there_is : (files : Program) (n : ℕ) → n < length files → (source : SourceFile) × (slice_get files n ≡ Some source)
there_is [] n l = absurd (let e : ⊥ = omega (arith, l) in e)
there_is (file ∷ files) zero l = (file, refl)
there_is (file ∷ files) (suc n) l = there_is files n (omega (arith, l))

-- the file of the first fault, and its kind
pub record StandsIn (program : Program) (flaw : ProgramFlaw) : Type 0 where
  pub kind : IdlFaultKind
  pub named : kind_of_flaw flaw.kind ≡ Some kind
  pub within : flaw.file < length program
  pub source : SourceFile
  pub there : slice_get program flaw.file ≡ Some source

pub first_stands : (program : Program) (flaw : ProgramFlaw) → IsFirstFlaw program flaw → StandsIn program flaw
first_stands program flaw h =
    let at = placed h.pass program h.first.spot flaw h.first.here in
    let inside : flaw.file < length program = subst (λ n. n < length program) (sym at.in_it) (spot_within program h.pass flaw h.first) in
    let there = there_is program flaw.file inside in
    record { kind = at.kind; named = at.named; within = inside; source = there.0; there = there.1 }
