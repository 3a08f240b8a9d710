-- What is known of an output to which the summary of a workload is written.
use Rattle.std.specs.Prelude.{◌≡◌, ℕ, Bool, true, false, ◌||◌, List, [], ◌∷◌, Option, Result, MatchResult}
use Rattle.streams.specs.Content.{told_more}
use Rattle.streams.specs.Taken.{IsTakenInPart}
use Rattle.host_model.specs.declared.cause.EndCause.{EndCause}
use Rattle.host_model.specs.declared.cause.EndCause.TheVariants.{NoMemory}
use Rattle.call_rules.specs.Desks.{DeskMeaning}
use Rattle.call_model.specs.Offices.{PlainOffice}
use Rattle.call_model.specs.Desk.{desk_of}
use Rattle.recorded_runs.specs.declared.fault.ServingFault.{ServingFault}
use Rattle.recorded_runs.specs.declared.fault.ServingFault.TheVariants as faults
use Rattle.workload.specs.Calculators.{IsCalculatorsOffice}

-- the desk is a calculator's office
abbrev pub ServesCalculator : DeskMeaning → Type 0
ServesCalculator desk = (office : PlainOffice) × (desk ≡ desk_of office) × IsCalculatorsOffice office

-- what is known of the output where the summary isn't written: a beginning of it was taken, or nothing
abbrev pub EndsSummary : ServingFault → (text : List ℕ) (taken_before taken : Option (List ℕ)) → Type 0
EndsSummary faults.WriteFault text taken_before taken = IsTakenInPart taken_before taken text
EndsSummary faults.JournalFault text taken_before taken = taken ≡ taken_before
EndsSummary faults.NoMemory text taken_before taken = taken ≡ taken_before
EndsSummary _ text taken_before taken = ⊥

-- the summary was written, or why not
abbrev pub WritesSummary : {A : Type 0} → (text : List ℕ) (taken_before taken : Option (List ℕ)) → Result A ServingFault → Type 0
WritesSummary text taken_before taken result = MatchResult result (λ _. taken ≡ told_more taken_before text) (λ fault. EndsSummary fault text taken_before taken)

-- a connection that ended so ran out of memory
abbrev pub is_want : EndCause → Bool
is_want NoMemory = true
is_want _ = false

-- one of them did
abbrev pub some_ran_out : List EndCause → Bool
some_ran_out [] = false
some_ran_out (cause ∷ causes) = is_want cause || some_ran_out causes
