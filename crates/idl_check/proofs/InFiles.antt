-- Spots, and so flaws, are in files of their program.
use Rattle.std.proofs.Common.{◌≡◌, ◌⊎◌, inl, inr, ◌+◌, ◌<◌, ◌≤◌, ℕ, suc, List, [], ◌∷◌, length, Option, Some, None, MatchOption, ap, sym, subst, arith}
use Rattle.std.specs.List.{AllByRecursion}
use Rattle.idl_include.specs.Numbering.{Counts, none_counted, all_counted}
use Rattle.idl_include.specs.Program.{Program}
use Rattle.idl_include.specs.Spots.{Spotted, given_name, type_use, parent_use, typedef_spot, field_spot, thrown_spot, enum_value_spot, struct_spot, service_spot, function_spot, value_spot, Spot, in_file, spots_in_declarations, spots_from, spots_of}
use Rattle.check_model.specs.Passes.{Pass, dotted_name, duplicate_name, unknown_type, typedef_cycle, field_id, duplicate_id, enum_number, service_cycle, duplicate_function, oneway_not_void, oneway_throws, not_exception, struct_loop, bad_constant}
use Rattle.check_model.specs.FirstFlaw.{FlawKind, ProgramFlaw, IsValueFlaw, IsAtFault, IsFirstOf, IsFirstFlaw}
use Rattle.check_model.proofs.FirstOnes.{holds_at_split}
use Rattle.check_model.proofs.Shown.{both_all}
use Rattle.check_passes.specs.declared.faults.CheckFault.{CheckFault}
use Rattle.check_passes.specs.declared.faults.CheckKind.TheVariants as check
use Rattle.check_passes.specs.Faults.{flaw_told, TellsFlaw}

abbrev IsBelow : ℕ → Spot → Type 0
IsBelow count s = s.file < count

shown_below : (count number : ℕ) (shown : List Spotted) → number < count → AllByRecursion (IsBelow count) (in_file number shown)
shown_below count number [] less = tt
shown_below count number (x ∷ shown) less = (less, shown_below count number shown less)

spots_below : (count number : ℕ) (n : Counts) (files : Program) → number + length files ≤ count → AllByRecursion (IsBelow count) (spots_from number n files)
spots_below count number n [] less = tt
spots_below count number n (file ∷ files) less =
    both_all (IsBelow count) (in_file number (spots_in_declarations [] n file.declarations)) (spots_from (suc number) (all_counted n file.declarations) files)
    (shown_below count number (spots_in_declarations [] n file.declarations) (omega (arith, less)))
    (spots_below count (suc number) (all_counted n file.declarations) files (omega (arith, less)))

value_here : (program : Program) (file : ℕ) (shows : Spotted) (flaw : ProgramFlaw) → IsValueFlaw program file shows flaw → flaw.file ≡ file
value_here program file (value_spot v) flaw h = ap (λ (f : ProgramFlaw). f.file) h.3
value_here program file (given_name before name) flaw h = absurd h
value_here program file (type_use name) flaw h = absurd h
value_here program file (parent_use name) flaw h = absurd h
value_here program file (typedef_spot number name) flaw h = absurd h
value_here program file (field_spot before field) flaw h = absurd h
value_here program file (thrown_spot field) flaw h = absurd h
value_here program file (enum_value_spot before value) flaw h = absurd h
value_here program file (struct_spot number s) flaw h = absurd h
value_here program file (service_spot number name) flaw h = absurd h
value_here program file (function_spot service before f) flaw h = absurd h

fault_here : (pass : Pass) (program : Program) (spot : Spot) (flaw : ProgramFlaw) → IsAtFault pass program spot flaw → flaw.file ≡ spot.file
fault_here bad_constant program spot flaw h = value_here program spot.file spot.shows flaw h
fault_here dotted_name program spot flaw h = ap (λ (f : ProgramFlaw). f.file) h.1
fault_here duplicate_name program spot flaw h = ap (λ (f : ProgramFlaw). f.file) h.1
fault_here unknown_type program spot flaw h = ap (λ (f : ProgramFlaw). f.file) h.1
fault_here typedef_cycle program spot flaw h = ap (λ (f : ProgramFlaw). f.file) h.1
fault_here field_id program spot flaw h = ap (λ (f : ProgramFlaw). f.file) h.1
fault_here duplicate_id program spot flaw h = ap (λ (f : ProgramFlaw). f.file) h.1
fault_here enum_number program spot flaw h = ap (λ (f : ProgramFlaw). f.file) h.1
fault_here service_cycle program spot flaw h = ap (λ (f : ProgramFlaw). f.file) h.1
fault_here duplicate_function program spot flaw h = ap (λ (f : ProgramFlaw). f.file) h.1
fault_here oneway_not_void program spot flaw h = ap (λ (f : ProgramFlaw). f.file) h.1
fault_here oneway_throws program spot flaw h = ap (λ (f : ProgramFlaw). f.file) h.1
fault_here not_exception program spot flaw h = ap (λ (f : ProgramFlaw). f.file) h.1
fault_here struct_loop program spot flaw h = ap (λ (f : ProgramFlaw). f.file) h.1

all_below : (program : Program) → AllByRecursion (IsBelow (length program)) (spots_of program)
unfolding spots_of
all_below program = spots_below (length program) 0 none_counted program (omega arith)

first_below : (program : Program) (pass : Pass) (flaw : ProgramFlaw) → IsFirstOf program pass flaw → flaw.file < length program
first_below program pass flaw h =
    let spot : h.spot.file < length program =
    holds_at_split (IsBelow (length program)) h.before h.spot h.after (subst (AllByRecursion (IsBelow (length program))) h.split (all_below program)) in
    subst (λ file. file < length program) (sym (fault_here pass program h.spot flaw h.here)) spot

-- a first flaw is in a file of its program
pub flaw_below : (program : Program) (flaw : ProgramFlaw) → IsFirstFlaw program flaw → flaw.file < length program
flaw_below program flaw h = first_below program h.pass flaw h.first

told_below : (program : Program) (fault : CheckFault) (o : Option FlawKind)
    → MatchOption o (fault.kind ≡ check.NoMemory) (λ kind. IsFirstFlaw program (record { file = fault.file; at = fault.at; kind = kind }))
    → (fault.kind ≡ check.NoMemory) ⊎ (fault.file < length program)
told_below program fault None h = inl h
told_below program fault (Some kind) h = inr (flaw_below program (record { file = fault.file; at = fault.at; kind = kind }) h)

-- so is a fault that tells it
pub fault_below : (program : Program) (fault : CheckFault) → TellsFlaw (IsFirstFlaw program) fault → (fault.kind ≡ check.NoMemory) ⊎ (fault.file < length program)
fault_below program fault h = told_below program fault (flaw_told fault.kind) h
