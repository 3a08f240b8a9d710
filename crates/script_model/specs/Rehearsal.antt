-- A run on bytes that arrive in pieces, and its report. A desk, services and causes are given, so that this stands for any service.
use Rattle.std.specs.Prelude.{◌≡◌, ◌≢◌, ◌⊎◌, ℕ, Bool, true, false, List, [], ◌∷◌, codes, Some, slice_get}
use Rattle.std.specs.List.{AllByRecursion}
use Rattle.streams.specs.declared.marks.Mark.{Mark}
use Rattle.host_model.specs.declared.cause.EndCause.{EndCause}
use Rattle.host_model.specs.declared.cause.EndCause.TheVariants.{End, Cut, SizeFault, Envelope, NoMemory}
use Rattle.host_model.specs.Marks.{marks_of, input}
use Rattle.host_model.specs.Journal.{JournalEntry, ServiceRules, entries_of}
use Rattle.host_model.specs.DeskRules.{DeskRules}
use Rattle.host_model.specs.Conversation.{IsPrefix}
use Rattle.host_model.specs.Headline.{Headline}
use Rattle.host_model.specs.Report.{report}
use Rattle.script_model.specs.Arrival.{Arrival}
use Rattle.script_model.specs.Feeding.{EachReadTakesItsPart}
use Rattle.script_model.specs.Sending.{EachWriteTakesTheRest}

-- the causes that a script of one connection can end by
abbrev pub is_scripted : EndCause → Bool
is_scripted End = true
is_scripted Cut = true
is_scripted (SizeFault z) = true
is_scripted (Envelope fault) = true
is_scripted NoMemory = true
is_scripted _ = false

-- an input that is said to have ended was read to its end
abbrev pub IsReadToItsEnd : EndCause → List ℕ → List ℕ → Type 0
IsReadToItsEnd End read all = read ≡ all
IsReadToItsEnd Cut read all = read ≡ all
IsReadToItsEnd _ read all = Unit {0}

-- Connection c was served on what arrived, with these entries, and ended by one of the causes that may be: what was read is a beginning of all bytes, and the
-- whole of them where it found their end; each read takes its part of the piece under way, and each write the rest of what is to be sent.
pub record FollowsArrival {C A : Type 0} (d : DeskRules C A) (may_end : EndCause → Bool) (c : ℕ) (arrival : Arrival) (tape : List Mark) (es : List (JournalEntry C A)) (cause : EndCause) : Type 0 where
  pub allowed : may_end cause ≡ true
  pub front : IsPrefix (input (marks_of c tape)) arrival.bytes
  pub to_its_end : IsReadToItsEnd cause (input (marks_of c tape)) arrival.bytes
  pub fed : EachReadTakesItsPart d.max c arrival.ends tape
  pub written : EachWriteTakesTheRest d c es tape

-- A run on what arrives on each connection: its tape, journal and causes meet the headline, and each connection was served.
pub record IsRunOfArrivals {C A M : Type 0} (d : DeskRules C A) (r : ServiceRules C A M) (memories : List M) (may_end : EndCause → Bool) (arrives : ℕ → Arrival)
    (tape : List Mark) (journal : List (JournalEntry C A)) (causes : List EndCause) : Type 0 where
  pub headline : Headline d r memories tape journal causes
  pub served : (c : ℕ) (cause : EndCause) → slice_get causes c ≡ Some cause → FollowsArrival d may_end c (arrives c) tape (entries_of c journal) cause

-- The text is the report of a run of one connection, number 0, on what arrived, by the line of an entry.
pub record IsReportOfOneConnection {C A M : Type 0} (d : DeskRules C A) (r : ServiceRules C A M) (memories : List M) (may_end : EndCause → Bool) (line : JournalEntry C A → List ℕ)
    (arrival : Arrival) (text : List ℕ) : Type 0 where
  pub tape : List Mark
  pub journal : List (JournalEntry C A)
  pub cause : EndCause
  pub run : IsRunOfArrivals d r memories may_end (λ c. arrival) tape journal (cause ∷ [])
  pub printed : text ≡ report line tape journal (cause ∷ [])

-- a line of a call, told from a report's other lines: it begins with `call ` or `oneway ` and has no newline
pub record IsCallLine (line : List ℕ) : Type 0 where
  pub named : IsPrefix (codes "call ") line ⊎ IsPrefix (codes "oneway ") line
  pub one : AllByRecursion (λ b. b ≢ 10) line

-- each of these entries has such a line
abbrev pub HaveCallLines : {C A : Type 0} → (JournalEntry C A → List ℕ) → List (JournalEntry C A) → Type 0
HaveCallLines line journal = AllByRecursion (λ e. IsCallLine (line e)) journal
