-- What is promised of a hub's run: one legal journal, and of each loop whole conversations, in order.
use Rattle.std.specs.Prelude.{◌≡◌, ℕ, ◌<◌, ◌≤◌, Some, List, [], ◌∷◌, length, slice_get, map}
use Rattle.std.specs.List.{flat_map}
use Rattle.streams.specs.declared.marks.Mark.{Mark}
use Rattle.host_model.specs.declared.cause.EndCause.{EndCause}
use Rattle.host_model.specs.Marks.{marks_of}
use Rattle.host_model.specs.Journal.{JournalEntry, ServiceRules, entries_of}
use Rattle.host_model.specs.DeskRules.{DeskRules}
use Rattle.host_model.specs.Conversation.{Conversation}
use Rattle.host_model.specs.OrderBetween.{InOrder}
use Rattle.call_history.specs.Calls.{calls_by, asks_of}
use Rattle.call_history.specs.History.{IsHistory}
use Rattle.machine_model.specs.HallRule.{HallAnswer, job, done}
use Rattle.machine_model.specs.Merge.{WorkerTurn, worked, worked_by_call, found_none, stopped, AreTurns}
use Rattle.hub_model.specs.HubState.{HubState, IsNewHub}
use Rattle.hub_model.specs.HubRule.{HubOperation, submit_from, take_one, apply_one, put_one, collect_for, close_all, HubCall, HubAsk, HubGives}
use Rattle.hub_model.specs.HubMay.{SubmitOwn}

-- Calls stand in order, and each connection, of which there are as many as causes, has had a whole conversation. Beyond them there are no marks and no entries.
pub record TalksInOrder {C A : Type 0} (d : DeskRules C A) (tape : List Mark) (journal : List (JournalEntry C A)) (causes : List EndCause) : Type 0 where
  pub order : InOrder d tape journal
  pub each : (c : ℕ) (cause : EndCause) → slice_get causes c ≡ Some cause → Conversation d c (marks_of c tape) (entries_of c journal) cause
  pub no_marks : (c : ℕ) → length causes ≤ c → marks_of c tape ≡ []
  pub no_entries : (c : ℕ) → length causes ≤ c → entries_of c journal ≡ []

-- an ask of the hub, with its answer
abbrev pub hub_pair : {C A : Type 0} → HubAsk C A → HubOperation C × HallAnswer A
hub_pair e = (e.op, e.reply)

-- what a worker's turn asks of the hub
abbrev pub hub_asked : {C A : Type 0} → WorkerTurn C A → List (HubOperation C × HallAnswer A)
hub_asked (worked key payload settled) = (take_one, job key payload) ∷ (put_one key settled, done) ∷ []
hub_asked (worked_by_call key payload call answer settled) = (take_one, job key payload) ∷ (apply_one key call, answer) ∷ (put_one key settled, done) ∷ []
hub_asked (found_none answer) = (take_one, answer) ∷ []
hub_asked (stopped key payload call answer) = (take_one, job key payload) ∷ (apply_one key call, answer) ∷ (close_all, done) ∷ []

-- these are the asks of a worker's turns
abbrev pub OfHubTurns : {C A : Type 0} → DeskRules C A → List (HubAsk C A) → Type 0
OfHubTurns {C} {A} d own = (turns : List (WorkerTurn C A)) × AreTurns d turns × (map hub_pair own ≡ flat_map hub_asked turns)

-- an operation of loop l: it submits from its own number, collects for it, and may close the hub
abbrev pub IsOfLoop : {C : Type 0} → ℕ → HubOperation C → Type 0
IsOfLoop l (submit_from m key payload) = m ≡ l
IsOfLoop l (collect_for m) = m ≡ l
IsOfLoop l close_all = Unit {0}
IsOfLoop l _ = ⊥

-- these asks are those of loop l
abbrev pub AsksAsLoop : {C A : Type 0} → ℕ → List (HubAsk C A) → Type 0
AsksAsLoop l [] = Unit {0}
AsksAsLoop l (e ∷ own) = IsOfLoop l e.op × AsksAsLoop l own

-- One history of a newly opened hub of n loops, whose seats have the first n numbers; the others are those of workers. Each job is submitted from its
-- connection's loop.
pub record IsHubHistory {C A M : Type 0} (n : ℕ) (d : DeskRules C A) (r : ServiceRules C A M) (memories : List M) (hub : HubState C A M) (log : List (HubCall C A M)) : Type 0 where
  pub opened : IsNewHub memories hub
  pub history : IsHistory (HubGives n r) hub log
  pub submits : SubmitOwn n log
  pub loops : (l : ℕ) → l < n → AsksAsLoop l (calls_by l (asks_of log))
  pub turns : (seat : ℕ) → n ≤ seat → OfHubTurns d (calls_by seat (asks_of log))
