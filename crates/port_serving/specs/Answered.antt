-- What an answer to serving at a place says of the files, the binder and the output.
use Rattle.std.specs.Prelude.{◌≡◌, ◌⊎◌, ℕ, Bool, true, false, Option, List, [], Result, Ok, Err, MatchResult}
use Rattle.streams.specs.Content.{told_more}
use Rattle.streams.specs.Taken.{IsTakenInPart}
use Rattle.outside.specs.Binding.{there_and_back}
use Rattle.host_model.specs.declared.cause.EndCause.{EndCause}
use Rattle.conn_table.specs.declared.run_limits.Outcome.{Outcome}
use Rattle.conn_table.specs.declared.run_limits.Outcome.TheVariants as outcomes
use Rattle.run_report.specs.Summary.{listening_line, summary_lines, summary}
use Rattle.host_loop.specs.Served.{ServerSetting}
use Rattle.port_serving.specs.declared.fault.PortFault.{PortFault}
use Rattle.port_serving.specs.declared.fault.PortFault.TheVariants as faults
use Rattle.port_serving.specs.FileJournals.{HoldsInFile}
use Rattle.port_serving.specs.Places.{PortPlace, PlaceChange, HasLinksBack}
use Rattle.port_serving.specs.Served.{HasServedPort}

-- what the output had taken before, and has taken then
pub record OutputChange : Type 0 where
  pub taken_before : Option (List ℕ)
  pub taken : Option (List ℕ)

module _ (place : PortPlace) (change : PlaceChange) (output : OutputChange) where
  -- nothing was touched, and nothing handed out
  pub record IsUntouched : Type 0 where
    pub files : change.files ≡ change.files_before
    pub past : change.past ≡ change.past_before
    pub handed : change.handed ≡ change.handed_before
    pub taken : output.taken ≡ output.taken_before

  -- nothing was listened to, and nothing written; the journal's file is there, and empty
  pub record HasNotListened : Type 0 where
    pub file : HoldsInFile change.files_before change.files place.journal []
    pub past : change.past ≡ change.past_before
    pub handed : change.handed ≡ change.handed_before
    pub taken : output.taken ≡ output.taken_before

  -- It was listened once, and no connection served: the links came back, on which nothing had happened. A beginning of the line that tells so was written.
  pub record HasOnlyListened : Type 0 where
    pub file : HoldsInFile change.files_before change.files place.journal []
    pub back : HasLinksBack change.past_before change.past place.listening [] false
    pub once : change.handed ≡ there_and_back change.handed_before
    pub begun : IsTakenInPart output.taken_before output.taken (listening_line place.listening.port)

module _ (s : ServerSetting) (place : PortPlace) (change : PlaceChange) (output : OutputChange) where
  -- connections were served until all was over, no line of the journal is lost, and the summary was written
  pub record HasServedAll : Type 0 where
    pub causes : List EndCause
    pub calls : ℕ
    pub served : HasServedPort s place change causes calls outcomes.All false
    pub written : output.taken ≡ told_more output.taken_before (summary place.listening.port causes calls)

  -- Connections were served, which came out so, and lines of the journal are lost or not. The summary's first line was written, and a beginning of the others.
  pub record HasServedTo (outcome : Outcome) (lost : Bool) : Type 0 where
    pub causes : List EndCause
    pub calls : ℕ
    pub served : HasServedPort s place change causes calls outcome lost
    pub begun : IsTakenInPart (told_more output.taken_before (listening_line place.listening.port)) output.taken (summary_lines causes calls)

  -- What a fault says. The net's comes where it can't be listened, or of the links that were served; that of a write comes before a connection is served, or once all
  -- is over and the journal whole; the journal's, where it failed in the run, or at its end once all was over; want of memory may come anywhere after the making of
  -- the file.
  abbrev pub MeansPortFault : PortFault → Type 0
  MeansPortFault faults.FileFault = IsUntouched place change output
  MeansPortFault faults.NetFault = HasNotListened place change output ⊎ ((lost : Bool) × HasServedTo outcomes.NetFault lost)
  MeansPortFault faults.WriteFault = HasOnlyListened place change output ⊎ HasServedTo outcomes.All false
  MeansPortFault faults.JournalFault = HasServedTo outcomes.JournalFault true ⊎ HasServedTo outcomes.All true
  MeansPortFault faults.NoMemory =
      HasNotListened place change output
      ⊎ (HasOnlyListened place change output ⊎ (((lost : Bool) × HasServedTo outcomes.NoMemory lost) ⊎ HasServedTo outcomes.All false))

  -- what a result says: connections were served until all was over, or what the fault says
  abbrev pub MeansServedPort : {A : Type 0} → Result A PortFault → Type 0
  MeansServedPort result = MatchResult result (λ _. HasServedAll) MeansPortFault

-- after this fault serving goes on to its end, where more may fail
abbrev pub goes_on : PortFault → Bool
goes_on faults.FileFault = false
goes_on faults.NetFault = true
goes_on faults.WriteFault = false
goes_on faults.JournalFault = true
goes_on faults.NoMemory = true

-- it went on so
abbrev pub went_on : {A : Type 0} → Result A PortFault → Bool
went_on (Ok _) = false
went_on (Err fault) = goes_on fault
