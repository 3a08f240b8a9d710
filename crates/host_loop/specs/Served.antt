-- What serving promises: the headline of its run, and what the links show of its ends, its bounds, its lengths and its places of rest.
use Rattle.std.specs.Prelude.{◌≡◌, ◌≢◌, ℕ, ◌≤◌, ◌⊎◌, Bool, true, false, Option, Some, IfSome, List, ◌++◌, length, slice_get}
use Rattle.streams.specs.declared.marks.Mark.{Mark}
use Rattle.streams.specs.Cause.{Rose}
use Rattle.outside.specs.LinksState.{LinksState}
use Rattle.host_model.specs.declared.cause.EndCause.{EndCause}
use Rattle.host_model.specs.declared.cause.EndCause.TheVariants.{Stopped, NoMemory as RanOut}
use Rattle.host_model.specs.Marks.{marks_of, input}
use Rattle.host_model.specs.Journal.{after_call, after}
use Rattle.host_model.specs.DeskRules.{DeskRules}
use Rattle.host_model.specs.Headline.{Headline}
use Rattle.conn_table.specs.declared.run_limits.Outcome.{Outcome}
use Rattle.conn_table.specs.declared.run_limits.Outcome.TheVariants.{All as AllOver, NetFault, JournalFault, NoMemory}
use Rattle.call_rules.specs.PlainCalls.{PlainCall, PlainAnswer}
use Rattle.call_rules.specs.Entries.{CallEntry}
use Rattle.call_rules.specs.Desks.{DeskMeaning, desk_rules}
use Rattle.call_rules.specs.Handling.{ServiceState, handler_rules}
use Rattle.machine_model.specs.SeenHall.{MayHave}
use Rattle.machine_model.specs.AtFronts.{IsBounded}
use Rattle.script_model.specs.DecidedEnds.{EndsOn}
use Rattle.loop_conns.specs.Tied.{CauseShows}
use Rattle.host_loop.specs.Lengths.{AreLengths}
use Rattle.host_loop.specs.Rests.{AreNotedRests}

-- what serves: a desk, the services with the memories that they had, and the read budget
pub record ServerSetting : Type 0 where
  pub desk : DeskMeaning
  pub services : List ServiceState
  pub budget : ℕ

-- A run of it: the links as they came in and as they are left; the cause by which each connection ended, by its number; how it came out; the services then; what the
-- journal tells, and whether its last append failed; and its count of faults before and then.
pub record ServedRun : Type 0 where
  pub first : LinksState
  pub links : LinksState
  pub causes : List EndCause
  pub outcome : Outcome
  pub services : List ServiceState
  pub told : Option (List CallEntry)
  pub torn : Bool
  pub faults_before : ℕ
  pub faults : ℕ

-- It may come out so: all is over, the journal is whole, no connection was stopped, and the links have never failed to tell what is next; the links failed; the journal
-- failed; or memory ran out, of which nothing is shown.
abbrev pub ComesOutBy : ServedRun → Outcome → Type 0
ComesOutBy run AllOver =
    (run.links.over ≡ true) × (run.torn ≡ false) × ((c : ℕ) → slice_get run.causes c ≢ Some Stopped) × (run.links.net_faults ≡ run.first.net_faults)
ComesOutBy run NetFault = Rose run.first.net_faults run.links.net_faults
ComesOutBy run JournalFault = (run.torn ≡ true) × Rose run.faults_before run.faults
ComesOutBy run NoMemory = Unit {0}

-- What a run leaves of the services: as many as they were, with the memories after the journal's entries; or, where its last append failed, after one call more.
pub record AreServicesLeft (s : ServerSetting) (run : ServedRun) (journal : List CallEntry) : Type 0 where
  pub count : length run.services ≡ length s.services
  pub memories : run.torn ≡ false → run.services ≡ after handler_rules s.services journal
  pub ahead : run.torn ≡ true → (call : PlainCall) × (run.services ≡ after_call handler_rules (after handler_rules s.services journal) call)

-- what a run leaves of the links: as many connections were opened as have a cause, none is open, they listen as before, and no count has fallen
pub record AreLinksLeft (run : ServedRun) : Type 0 where
  pub opened : run.links.opened ≡ length run.causes
  pub none_open : (c : ℕ) → run.links.is_open c ≡ false
  pub listens : run.links.listens ≡ run.first.listens
  pub faults : (c : ℕ) → run.first.faults c ≤ run.links.faults c
  pub net_faults : run.first.net_faults ≤ run.links.net_faults

-- the rules of its desk
abbrev pub rules_served : ServerSetting → DeskRules PlainCall PlainAnswer
rules_served s = desk_rules s.desk

-- A run of serving. There are a tape and a journal, those that links and journal tell, where they tell, of which the headline holds with the causes. The lengths and
-- places of rest that the links noted are right for this tape and this journal, and the links show each cause. Where no count of faults rose, a connection that wasn't stopped
-- has ended for want of memory, or by what its bytes decide, those that were read and those that are left; and all is over, or memory ran out.
pub record IsServed (s : ServerSetting) (run : ServedRun) : Type 0 where
  pub tape : List Mark
  pub journal : List CallEntry
  pub tape_told : MayHave run.links.tape tape
  pub journal_told : MayHave run.told journal
  pub headline : Headline (rules_served s) handler_rules s.services tape journal run.causes
  pub services : AreServicesLeft s run journal
  pub torn : run.torn ≡ true → Rose run.faults_before run.faults
  pub kept : run.torn ≡ false → run.faults ≡ run.faults_before
  pub bounded : (front back : List Mark) → tape ≡ front ++ back → IsBounded s.desk.max_frame s.budget front
  pub lengths : IfSome run.links.lengths (AreLengths (rules_served s) journal tape)
  pub rests : IfSome run.links.rests (AreNotedRests (rules_served s) s.budget tape journal)
  pub comes_out : ComesOutBy run run.outcome
  pub ends : (c : ℕ) (cause : EndCause) → slice_get run.causes c ≡ Some cause → CauseShows run.first run.links c cause
  pub left : AreLinksLeft run
  pub faults : run.faults_before ≤ run.faults
  pub by_bytes : (c : ℕ) (cause : EndCause) (unread : List ℕ) → slice_get run.causes c ≡ Some cause → run.links.left c ≡ Some unread
      → (Rose (run.first.faults c) (run.links.faults c) → ⊥) → cause ≢ Stopped
      → (cause ≡ RanOut) ⊎ EndsOn (rules_served s) (input (marks_of c tape) ++ unread) cause
  pub outcome_is_named : (Rose run.first.net_faults run.links.net_faults → ⊥) → (Rose run.faults_before run.faults → ⊥)
      → (run.outcome ≡ AllOver) ⊎ (run.outcome ≡ NoMemory)
