-- The causes of a report that isn't written, from call to call.
use Rattle.std.proofs.Common.{◌≡◌, ℕ, List, [], Option, Result, Ok, Err, MatchResult, subst, append_assoc, append-nil}
use Rattle.streams.specs.Content.{told_more}
use Rattle.streams.specs.Taken.{IsTakenBut, IsTakenInPart, TakesText}
use Rattle.streams.proofs.Taking.{none_taken, none_in_part, all_taken, all_told, taken_on, next_taken, next_in_part, last_in_part, part_told}
use Rattle.run_report.specs.declared.fault.ReportFault.{ReportFault}
use Rattle.run_report.specs.Pieces.{HasReportCause}

-- the count was as before when a later call was made
pub cause_on : {A : Type 0} (before between now : ℕ) (result : Result A ReportFault) → HasReportCause between now result → between ≡ before
    → HasReportCause before now result
cause_on before between now result h same = subst (λ n. HasReportCause n now result) same h

-- a text was handed on whole, or a beginning of it
pub whole_or_part : {A E : Type 0} (x y z : Option (List ℕ)) (text left : List ℕ) (result : Result A E) → IsTakenBut x y text left → TakesText y z left [] result
    → MatchResult result (λ _. z ≡ told_more x text) (λ _. IsTakenInPart x z text)
whole_or_part x y z text left (Ok a) f t = all_told x z text (taken_on x y z text left [] f t)
whole_or_part x y z text left (Err e) f t = last_in_part x y z text left f t

pub ruleset taking = (none_taken, none_in_part, all_taken, all_told, taken_on, next_taken, next_in_part, last_in_part, part_told, cause_on, append-nil, append_assoc)
