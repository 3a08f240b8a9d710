-- What serving at a place came to.
use Rattle.std.specs.Prelude.{◌≡◌, ℕ, Bool, true, false, Option, None, Some, List}
use Rattle.streams.specs.Cause.{Rose}
use Rattle.outside.specs.Binding.{StartListening, there_and_back}
use Rattle.host_model.specs.declared.cause.EndCause.{EndCause}
use Rattle.conn_table.specs.declared.run_limits.Outcome.{Outcome}
use Rattle.call_rules.specs.Entries.{CallEntry}
use Rattle.journal_text.specs.JournalStates.{appended_count}
use Rattle.host_loop.specs.Served.{ServerSetting, ServedRun, ComesOutBy, IsServed}
use Rattle.port_serving.specs.FileJournals.{KeepsJournal}
use Rattle.port_serving.specs.Places.{PortPlace, PlaceChange, HasLinksBack}

-- Connections were served at this place, ended by these causes, made so many calls, and it came out so. Behind it stands a run of serving, with the
-- headline of its tape, its journal and these causes. Its links listened here, nothing had happened on them and they had counted no fault, and they
-- came back with that tape, where it is told; no others were handed out, and no pipe. The journal is told, as many calls stand in it as were counted,
-- and the file keeps it, but for lines that are lost: only where a sink of the files has failed, and always where the journal failed in the run. Only
-- then is an entry unwritten.
pub record HasServedPort (s : ServerSetting) (place : PortPlace) (change : PlaceChange) (causes : List EndCause) (calls : ℕ) (outcome : Outcome) (lost : Bool) : Type 0 where
  pub run : ServedRun
  pub served : IsServed s run
  pub causes_are : run.causes ≡ causes
  pub outcome_is : run.outcome ≡ outcome
  pub comes_out : ComesOutBy run outcome
  pub first : StartListening change.past_before place.listening run.first
  pub back : HasLinksBack change.past_before change.past place.listening served.tape run.links.over
  pub once : change.handed ≡ there_and_back change.handed_before
  pub told : run.told ≡ Some served.journal
  pub counted : calls ≡ appended_count served.journal
  pub unwritten : Option CallEntry
  pub file : KeepsJournal change.files_before change.files place.journal served.journal unwritten lost
  pub written : run.torn ≡ false → unwritten ≡ None
  pub torn : run.torn ≡ true → lost ≡ true
  pub rose : lost ≡ true → Rose change.sink_faults_before change.sink_faults
