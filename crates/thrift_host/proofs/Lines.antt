-- A line that is handed to the errors.
use Rattle.std.proofs.Common.{◌≡◌, ℕ, List, length, take, Option, Result, Ok, Err, MatchResult, IfOk, refl, sym, ap, ◌∙◌, subst, inl, inr}
use Rattle.std.proofs.Math.Seq.{take-length, take-append_seam}
use Rattle.streams.specs.Cause.{HasCause}
use Rattle.streams.specs.Content.{told_more}
use Rattle.streams.specs.Taken.{IsTakenInPart}
use Rattle.thrift_host.specs.declared.status.Status.{Status}
use Rattle.thrift_host.specs.declared.status.Status.TheVariants.{NoMemory}
use Rattle.thrift_host.specs.Errors.{Errors, IsSaid}
use Rattle.thrift_host.specs.Steps.{EndsAs, EndsSaying}

-- what a write of a whole line tells
pub said : {A E : Type 0} (before now : Option (List ℕ)) (faults_before faults : ℕ) (text : List ℕ) (result : Result A E)
    → MatchResult result (λ _. now ≡ told_more before text) (λ _. IsTakenInPart before now text) → HasCause faults_before faults result
    → IsSaid (record { taken_before = before; taken = now; faults_before = faults_before; faults = faults }) text
said before now faults_before faults text (Ok x) told cause =
    record { front = length text; written = told ∙ ap (told_more before) (sym (take-length text)); whole = inl told }
said before now faults_before faults text (Err e) told cause =
    let taken = told.taken in
    record {
      front = length taken.front;
      written = taken.taken ∙ ap (told_more before) (sym (ap (take (length taken.front)) taken.whole ∙ take-append_seam taken.front told.lost));
      whole = inr (cause.failed refl);
    }

-- a status with a line of its own, where the line was made or memory ran out
pub said_line : {A E : Type 0} (line : Result A E) (items : A → List ℕ) (meant ended : Status) (e : Errors) (text : List ℕ)
    → IfOk line (λ l. items l ≡ text) → MatchResult line (λ l. (ended ≡ meant) × IsSaid e (items l)) (λ _. EndsAs NoMemory ended e)
    → EndsSaying meant text ended e
said_line (Ok l) items meant ended e text is h = inl (h.0, subst (IsSaid e) is h.1)
said_line (Err x) items meant ended e text is h = inr h
