-- What answers say of values that are known.
use Rattle.std.proofs.Common.{◌≡◌, ◌≢◌, ℕ, true, false, true≢false, List, Option, Result, Ok, Err, refl, sym, ap, ◌∙◌, subst}
use Rattle.std.specs.Prelude.{OnOk}
use Rattle.streams.specs.Files.{File}
use Rattle.port_serving.specs.Places.{PlaceChange}
use Rattle.call_rules.specs.Handling.{ServiceState}
use Rattle.call_model.specs.Offices.{PlainOffice}
use Rattle.recorded_runs.specs.Answered.{Answering}
use Rattle.host_loop.specs.Served.{ServerSetting}
use Rattle.recorded_runs.specs.Recorded.{Streams, IsReportWritten, MeansRecordedFault, MeansRecorded}
use Rattle.recorded_runs.specs.Summaries.{WritesSummary}
use Rattle.recorded_runs.specs.declared.fault.ServingFault.{ServingFault}
use Rattle.workload.specs.ExpectedRun.{work_text}
use Rattle.thrift_host.specs.declared.arranging.RunFault.{RunFault}
use Rattle.thrift_host.specs.declared.arranging.RunFault.TheVariants as faults
use Rattle.thrift_host.specs.Runs.{ScriptRunning, AskedRun, IsAnsweredBy, answering_at}
use Rattle.port_serving.specs.Answered.{HasServedAll, MeansPortFault, MeansServedPort, went_on}
use Rattle.port_serving.specs.declared.fault.PortFault.{PortFault}
use Rattle.port_serving.specs.declared.fault.PortFault.TheVariants as port_faults
use Rattle.thrift_host.specs.Serving.{AskedServing, HostChange, IsServedBy, IsAllServed, IsUnservedFor, setting_at, output_of}
use Rattle.thrift_host.specs.Steps.{IsArrangedAs, TellsRun, TellsWorkload, TellsServing, of_recording, of_port, is_file_missed, serves_on}

-- what holds of an office and of services that are those of an arrangement holds of what answers by it
pub at_arranged : (r : AskedRun) (office : PlainOffice) (services : List ServiceState) → IsArrangedAs r office services → (Holds : Answering → Type 0)
    → Holds (answering_at r office services) → IsAnsweredBy r Holds
at_arranged r office services made Holds h =
    (made.arranged, subst (λ o. Holds (answering_at r o made.arranged.bound)) made.office_is (subst (λ b. Holds (answering_at r office b)) made.services_are h))

-- What a run comes to, by what its recording came to.
module _ {A : Type 0} (answered : Result A ServingFault) (result : Result A RunFault) (same : result ≡ of_recording answered) where
  pub run_tells : (way : ScriptRunning) (r : AskedRun) (office : PlainOffice) (services : List ServiceState) → IsArrangedAs r office services → (s : Streams)
      → MeansRecorded (way.script_in (answering_at r office services)) (way.IsRunOf (answering_at r office services)) (answering_at r office services).line answered s
      → TellsRun way r result s
  run_tells way r office services made s means = subst (λ x. TellsRun way r x s) (sym same) (by answered means)
    where
      by : (came_to : Result A ServingFault)
          → MeansRecorded (way.script_in (answering_at r office services)) (way.IsRunOf (answering_at r office services)) (answering_at r office services).line came_to s
          → TellsRun way r (of_recording came_to) s
      by (Ok x) h = at_arranged r office services made (λ a. IsReportWritten (way.script_in a) (way.IsRunOf a) a.line s) h
      by (Err fault) h = at_arranged r office services made (λ a. MeansRecordedFault (way.script_in a) (way.IsRunOf a) a.line fault s) h

  pub workload_tells : (r : AskedRun) (seed size : ℕ) (left before now : Option (List ℕ)) → WritesSummary (work_text seed size) before now answered
      → TellsWorkload r seed size result (record { left_before = left; left = left; taken_before = before; taken = now })
  workload_tells r seed size left before now means =
      subst (λ x. TellsWorkload r seed size x (record { left_before = left; left = left; taken_before = before; taken = now })) (sym same) (by answered means)
    where
      by : (came_to : Result A ServingFault) → WritesSummary (work_text seed size) before now came_to
          → TellsWorkload r seed size (of_recording came_to) (record { left_before = left; left = left; taken_before = before; taken = now })
      by (Ok x) h = (refl, h)
      by (Err fault) h = (refl, h)

  pub run_reads : is_file_missed result ≡ true → ⊥
  run_reads unread = by answered (subst (λ x. is_file_missed x ≡ true) same unread)
    where
      by : (came_to : Result A ServingFault) → is_file_missed (of_recording came_to) ≡ true → ⊥
      by (Ok x) e = cc
      by (Err fault) e = cc

  pub run_fault : (fault : ServingFault) → result ≡ Err (faults.Unanswered fault) → answered ≡ Err fault
  run_fault fault is = by answered (sym same ∙ is)
    where
      by : (came_to : Result A ServingFault) → of_recording came_to ≡ Err (faults.Unanswered fault) → came_to ≡ Err fault
      by (Ok x) e = cc
      by (Err other) e = cc

  pub run_isnt : (fault : ServingFault) → result ≢ Err (faults.Unanswered fault) → answered ≢ Err fault
  run_isnt fault not_it is = not_it (same ∙ ap of_recording is)

-- and what holds of what serves by them
pub served_at : (r : AskedRun) (office : PlainOffice) (services : List ServiceState) → IsArrangedAs r office services → (Holds : ServerSetting → Type 0)
    → Holds (setting_at r office services) → IsServedBy r Holds
served_at r office services made Holds h =
    (made.arranged, subst (λ o. Holds (setting_at r o made.arranged.bound)) made.office_is (subst (λ b. Holds (setting_at r office b)) made.services_are h))

-- a change from what was there before a file was read, where that has changed nothing
pub from_before : (p : PlaceChange) (files : Option (List File)) (faults : ℕ) → p.files_before ≡ files → p.sink_faults_before ≡ faults
    → (Holds : PlaceChange → Type 0) → Holds p → Holds (record p { files_before = files; sink_faults_before = faults })
from_before p files faults files_is faults_is Holds h =
    subst (λ n. Holds (record p { files_before = files; sink_faults_before = n })) faults_is (subst (λ f. Holds (record p { files_before = f })) files_is h)

-- What was served at an office and by services that are those of an arrangement, from before the IDL was read.
module _ (a : AskedServing) (office : PlainOffice) (services : List ServiceState) (made : IsArrangedAs a.run office services) (c : HostChange)
    (files : Option (List File)) (faults : ℕ) (files_is : c.place.files_before ≡ files) (faults_is : c.place.sink_faults_before ≡ faults) where
  abbrev at : PlaceChange
  at = record c.place { files_before = files; sink_faults_before = faults }

  all_served : HasServedAll (setting_at a.run office services) a.place c.place (output_of c) → IsAllServed a (record c { place = at })
  all_served h =
      served_at a.run office services made (λ s. HasServedAll s a.place at (output_of c))
      (from_before c.place files faults files_is faults_is (λ p. HasServedAll (setting_at a.run office services) a.place p (output_of c)) h)

  unserved : (fault : PortFault) → MeansPortFault (setting_at a.run office services) a.place c.place (output_of c) fault
      → IsUnservedFor a (record c { place = at }) fault
  unserved fault h =
      served_at a.run office services made (λ s. MeansPortFault s a.place at (output_of c) fault)
      (from_before c.place files faults files_is faults_is (λ p. MeansPortFault (setting_at a.run office services) a.place p (output_of c) fault) h)

  pub serving_tells : {A : Type 0} (came_to : Result A PortFault) (result : Result A RunFault) → result ≡ of_port came_to
      → MeansServedPort (setting_at a.run office services) a.place c.place (output_of c) came_to → TellsServing a result (record c { place = at })
  serving_tells {A} came_to result same means = subst (λ x. TellsServing a x (record c { place = at })) (sym same) (by came_to means)
    where
      by : (port : Result A PortFault) → MeansServedPort (setting_at a.run office services) a.place c.place (output_of c) port
          → TellsServing a (of_port port) (record c { place = at })
      by (Ok x) h = all_served h
      by (Err fault) h = unserved fault h

-- What serving comes to, by what the port came to.
module _ {A : Type 0} (came_to : Result A PortFault) (result : Result A RunFault) (same : result ≡ of_port came_to) where
  pub port_fault : (fault : PortFault) → result ≡ Err (faults.Unserved fault) → came_to ≡ Err fault
  port_fault fault is = by came_to (sym same ∙ is)
    where
      by : (port : Result A PortFault) → of_port port ≡ Err (faults.Unserved fault) → port ≡ Err fault
      by (Ok x) e = cc
      by (Err other) e = cc

  pub port_isnt : (fault : PortFault) → result ≢ Err (faults.Unserved fault) → came_to ≢ Err fault
  port_isnt fault not_it is = not_it (same ∙ ap of_port is)

  pub port_read : is_file_missed result ≡ false → came_to ≢ Err port_faults.FileFault
  port_read none is = true≢false (sym (ap is_file_missed (same ∙ ap of_port is)) ∙ none)

  pub port_over : serves_on result ≡ false → went_on came_to ≡ false
  port_over over = by came_to (sym (ap serves_on same) ∙ over)
    where
      by : (port : Result A PortFault) → serves_on (of_port port) ≡ false → went_on port ≡ false
      by (Ok x) none = refl
      by (Err fault) none = none
