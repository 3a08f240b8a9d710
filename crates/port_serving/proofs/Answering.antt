-- From what was done to what the answer says.
use Rattle.std.proofs.Common.{◌≡◌, ◌≢◌, ◌⊎◌, inl, inr, ⊎_elim, ℕ, Bool, false, List, [], ◌++◌, Option, Result, Ok, Err, MatchResult, refl, sym, ap, ◌∙◌, subst, true≢false}
use Rattle.streams.specs.Content.{told_more}
use Rattle.streams.specs.Taken.{IsTakenBut, IsTakenInPart}
use Rattle.streams.proofs.Taking.{all_taken, all_told, taken_on, taken_of_more}
use Rattle.streams.specs.Files.{File}
use Rattle.outside.specs.LinksState.{Listening}
use Rattle.outside.specs.declared.binder.BindFail.{BindFail}
use Rattle.outside.specs.declared.binder.BindFail.TheVariants as binds
use Rattle.host_model.specs.declared.cause.EndCause.{EndCause}
use Rattle.conn_table.specs.declared.run_limits.Outcome.{Outcome}
use Rattle.conn_table.specs.declared.run_limits.Outcome.TheVariants as outcomes
use Rattle.run_report.specs.declared.fault.ReportFault.{ReportFault}
use Rattle.run_report.specs.declared.fault.ReportFault.TheVariants as reports
use Rattle.run_report.specs.Summary.{listening_line, summary_lines}
use Rattle.host_loop.specs.Served.{ServerSetting}
use Rattle.port_serving.specs.declared.fault.PortFault.{PortFault}
use Rattle.port_serving.specs.declared.fault.PortFault.TheVariants as faults
use Rattle.port_serving.specs.FileJournals.{HoldsInFile}
use Rattle.port_serving.specs.Places.{PortPlace, PlaceChange}
use Rattle.port_serving.specs.Served.{HasServedPort}
use Rattle.port_serving.specs.Answered.{OutputChange, HasServedAll, HasServedTo, MeansPortFault, goes_on}
use Rattle.port_serving.specs.Steps.{fault_of_binding, fault_of_summary, EndsOpening, PortState, IsSilent, IsLineBroken, EndsListening}

-- what a call took of a text is a beginning of it
in_part : {A E : Type 0} (x y : Option (List ℕ)) (text : List ℕ) (result : Result A E)
    → MatchResult result (λ _. y ≡ told_more x text) (λ _. IsTakenInPart x y text) → IsTakenInPart x y text
in_part x y text (Ok a) e = record { lost = []; taken = all_taken x y text e }
in_part x y text (Err e) f = f

-- two texts, one behind the other
both_told : (x y z : Option (List ℕ)) (text rest : List ℕ) → y ≡ told_more x text → z ≡ told_more y rest → z ≡ told_more x (text ++ rest)
both_told x y z text rest first then_rest =
    let a : IsTakenBut x y (text ++ rest) rest = taken_of_more x y text [] rest (all_taken x y text first) in
    all_told x z (text ++ rest) (taken_on x y z (text ++ rest) rest [] a (all_taken y z rest then_rest))

module _ (s : ServerSetting) (place : PortPlace) (change : PlaceChange) where
  -- no journal was opened
  pub unopened : (output : OutputChange) (fault : PortFault) → EndsOpening fault change.files_before change.files place.journal → change.past ≡ change.past_before
      → change.handed ≡ change.handed_before → output.taken ≡ output.taken_before → MeansPortFault s place change output fault
  unopened output faults.FileFault files past handed taken = record { files = files; past = past; handed = handed; taken = taken }
  unopened output faults.NoMemory file past handed taken = inl (record { file = file; past = past; handed = handed; taken = taken })
  unopened output faults.NetFault never past handed taken = absurd never
  unopened output faults.WriteFault never past handed taken = absurd never
  unopened output faults.JournalFault never past handed taken = absurd never

  -- nothing was served
  pub unlistened : (output : OutputChange) (fault : PortFault) → HoldsInFile change.files_before change.files place.journal []
      → EndsListening fault (record { past = change.past_before; handed = change.handed_before; taken = output.taken_before })
      (record { past = change.past; handed = change.handed; taken = output.taken }) place.listening
      → MeansPortFault s place change output fault
  unlistened output faults.NetFault file ends = inl (record { file = file; past = ends.past; handed = ends.handed; taken = ends.taken })
  unlistened output faults.WriteFault file ends = inl (record { file = file; back = ends.back; once = ends.once; begun = ends.begun })
  unlistened output faults.NoMemory file ends =
      ⊎_elim (λ silent. inl (record { file = file; past = silent.past; handed = silent.handed; taken = silent.taken }))
      (λ broken. inr (inl (record { file = file; back = broken.back; once = broken.once; begun = broken.begun }))) ends
  unlistened output faults.FileFault file never = absurd never
  unlistened output faults.JournalFault file never = absurd never

  module _ (output : OutputChange) (between : Option (List ℕ)) (line : between ≡ told_more output.taken_before (listening_line place.listening.port))
      (causes : List EndCause) (calls : ℕ) (outcome : Outcome) (lost : Bool) (served : HasServedPort s place change causes calls outcome lost) where
    -- how it came out, and whether lines are lost, by other names
    so : (out : Outcome) (gone : Bool) → outcome ≡ out → lost ≡ gone → HasServedPort s place change causes calls out gone
    so out gone is gone_is = subst (λ b. HasServedPort s place change causes calls out b) gone_is (subst (λ o. HasServedPort s place change causes calls o lost) is served)

    -- the summary was written whole
    pub summed : outcome ≡ outcomes.All → lost ≡ false → output.taken ≡ told_more between (summary_lines causes calls) → HasServedAll s place change output
    summed all whole rest =
        record {
          causes = causes;
          calls = calls;
          served = so outcomes.All false all whole;
          written = both_told output.taken_before between output.taken (listening_line place.listening.port) (summary_lines causes calls) line rest;
        }

    -- or it was written in part
    pub begun : {A E : Type 0} (result : Result A E) (out : Outcome) (gone : Bool) → outcome ≡ out → lost ≡ gone
        → MatchResult result (λ _. output.taken ≡ told_more between (summary_lines causes calls)) (λ _. IsTakenInPart between output.taken (summary_lines causes calls))
        → HasServedTo s place change output out gone
    begun result out gone is gone_is written =
        record {
          causes = causes;
          calls = calls;
          served = so out gone is gone_is;
          begun = subst (λ o. IsTakenInPart o output.taken (summary_lines causes calls)) line (in_part between output.taken (summary_lines causes calls) result written);
        }

  -- a fault of the summary's other lines, where all were served
  pub unwritten : (output : OutputChange) (fault : ReportFault) → HasServedTo s place change output outcomes.All false → MeansPortFault s place change output (fault_of_summary fault)
  unwritten output reports.Failed h = inr h
  unwritten output reports.NoMemory h = inr (inr (inr h))

-- The port's fault is told by its kind.
pub unbound : (error : BindFail) (before now : PortState) (listening : Listening) → IsSilent before now → EndsListening (fault_of_binding error) before now listening
unbound binds.Failed before now listening silent = silent
unbound binds.NoMemory before now listening silent = inl silent

-- So is that of the line that isn't written.
pub broken_off : (error : ReportFault) (before now : PortState) (listening : Listening) → IsLineBroken before now listening
    → EndsListening (fault_of_summary error) before now listening
broken_off reports.Failed before now listening broken = broken
broken_off reports.NoMemory before now listening broken = inr broken

-- Where no journal was opened, the fault is the files' or want of memory.
pub opening_other : {A : Type 0} (result : Result A PortFault) (fault error other : PortFault) (before now : Option (List File)) (name : List ℕ) → result ≡ Err fault
    → fault ≡ error → result ≡ Err other → EndsOpening error before now name → EndsOpening other before now name
opening_other result fault error other before now name first same then_other ends =
    let two : Err fault ≡ Err other = sym first ∙ then_other in
    let one : fault ≡ other = cc in
    subst (λ f. EndsOpening f before now name) (sym same ∙ one) ends

-- a fault of its own kind, whatever is answered elsewhere
abbrev fault_or : {A : Type 0} → PortFault → Result A PortFault → PortFault
fault_or other (Ok x) = other
fault_or other (Err fault) = fault

pub other_err : {A B : Type 0} (x y : PortFault) → ◌≢◌ {A = Result B PortFault} (Err x) (Err y) → ◌≢◌ {A = Result A PortFault} (Err x) (Err y)
other_err x y not_it is = not_it (ap Err (ap (fault_or x) is))

-- where it can't be listened, serving isn't over at once
pub binding_goes_on : (fault : BindFail) → goes_on (fault_of_binding fault) ≡ false → ⊥
binding_goes_on binds.Failed over = true≢false over
binding_goes_on binds.NoMemory over = true≢false over

-- where the summary isn't written and serving is over, a write failed
pub summary_over : (fault : ReportFault) → goes_on (fault_of_summary fault) ≡ false → fault_of_summary fault ≡ faults.WriteFault
summary_over reports.Failed over = refl
summary_over reports.NoMemory over = absurd (true≢false over)
