-- What a connection keeps once it has ended, and which of its calls are done at any moment.
use Rattle.std.proofs.Common.{◌≡◌, ℕ, ◌<◌, ◌≤◌, ◌^◌, ◌⊎◌, Some, List, length, refl, sym, subst, inl, inr, arith}
use Rattle.std.specs.List.{AllByRecursion}
use Rattle.streams.specs.declared.marks.Mark.{Mark}
use Rattle.host_model.specs.declared.cause.EndCause.{EndCause}
use Rattle.host_model.specs.declared.cause.EndCause.TheVariants.{End, Cut, SizeFault, Envelope, ReadFault, WriteFault, NoMemory, Stopped}
use Rattle.host_model.specs.Marks.{marks_of, output}
use Rattle.host_model.specs.Journal.{JournalEntry, ServiceRules, entries_of}
use Rattle.host_model.specs.DeskRules.{DeskRules}
use Rattle.host_model.specs.Conversation.{but_last, Done, EndsBy}
use Rattle.host_model.specs.World.{Stage, unopened, open_, pending, answered, over, over_pending, World, Act, ReachedBy, StageSays, Moment}
use Rattle.host_model.specs.World as World
use Rattle.host_model.proofs.Lists.{length-but_last}
use Rattle.host_model.proofs.Replies.{numbers_done}
use Rattle.machine_model.specs.Machine.{Cell, MachineEvent, EventsLead, IsFirst}
use Rattle.machine_model.specs.Places.{jobs_of, outcomes_of}
use Rattle.machine_model.proofs.Standing.{Sim, phase_of}
use Rattle.machine_model.proofs.Running.{reaches, ended}

module _ {C A : Type 0} (d : DeskRules C A) (ps : List (List ℕ)) (held : List ℕ) (es : List (JournalEntry C A)) (out : List ℕ) where
  -- what a stage says of a connection that has ended is what its cause says
  row : (stage : Stage) (cause : EndCause) → World.HasEnded stage (Some cause) → StageSays d ps held es out stage → EndsBy d ps held es out cause
  row (over given) cause h t = subst (EndsBy d ps held es out) (sym h) t
  row (over_pending given) cause h t = subst (EndsBy d ps held es out) (sym h) t
  row unopened cause h t = absurd h
  row (open_ left) cause h t = absurd h
  row pending cause h t = absurd h
  row answered cause h t = absurd h

  -- the calls of all payloads are done, or of all but the last
  abbrev Called : Type 0
  Called = Done d es ps ⊎ Done d es (but_last ps)

  called_by_cause : (cause : EndCause) → EndsBy d ps held es out cause → Called
  called_by_cause End t = inl t.2.done
  called_by_cause Cut t = inl t.3.done
  called_by_cause (SizeFault size) t = inl t.3.done
  called_by_cause (Envelope fault) t = inl t.2.done
  called_by_cause ReadFault t = inl t.2.done
  called_by_cause WriteFault t = inl t.2
  called_by_cause NoMemory t = t.done
  called_by_cause Stopped t = t.done

  called : (stage : Stage) → StageSays d ps held es out stage → Called
  called unopened t = inl (subst (λ (s : List (JournalEntry C A) × List (List ℕ)). Done d s.0 s.1) (λ i. (sym t.2 i, sym t.0 i)) refl)
  called (open_ left) t = inl t.2
  called pending t = inr t.2
  called answered t = inl t.2
  called (over cause) t = called_by_cause cause t
  called (over_pending cause) t = called_by_cause cause t

-- entries of calls that are done have the payloads' numbers
pub numbers_below : {C A : Type 0} (d : DeskRules C A) (es : List (JournalEntry C A)) (ps : List (List ℕ)) → Done d es ps ⊎ Done d es (but_last ps)
    → AllByRecursion (λ (e : JournalEntry C A). e.key.i < length ps) es
numbers_below d es ps (inl done) = numbers_done d (length ps) es ps (omega arith) done
numbers_below d es ps (inr done) = let l : length (but_last ps) ≤ length ps = length-but_last ps in numbers_done d (length ps) es (but_last ps) (omega arith) done

module _ {C A M : Type 0} (d : DeskRules C A) (r : ServiceRules C A M) (opening : List M)
    (all : (acts : List (Act C A)) (world : World C A) → ReachedBy d r opening acts world → Moment d r opening world) (small : d.max < 2 ^ 31) where
  -- what the world says of a connection is said of it in the cell
  said : (cell : Cell C A M) (s : Sim d r opening cell) (c : ℕ) → c < cell.loop.count
      → StageSays d (cell.loop.conns c).payloads (cell.loop.conns c).held (entries_of c cell.hall.journal) (output (marks_of c cell.loop.tape)) (s.world.endpoints c).stage
  said cell s c l =
      let m : Moment d r opening s.world = all s.acts s.world s.reached in
      subst (λ (t : List (List ℕ) × List ℕ × List (JournalEntry C A) × List Mark). StageSays d t.0 t.1 (entries_of c t.2) (output (marks_of c t.3)) (s.world.endpoints c).stage)
      (λ i. ((s.endpoint c l).payloads i, (s.endpoint c l).held i, s.journal i, s.tape i)) (m.stands c)

  pub calls_done : (cell : Cell C A M) (s : Sim d r opening cell) (c : ℕ) → c < cell.loop.count
      → Done d (entries_of c cell.hall.journal) (cell.loop.conns c).payloads ⊎ Done d (entries_of c cell.hall.journal) (but_last (cell.loop.conns c).payloads)
  calls_done cell s c l =
      called d (cell.loop.conns c).payloads (cell.loop.conns c).held (entries_of c cell.hall.journal) (output (marks_of c cell.loop.tape)) (s.world.endpoints c).stage (said cell s c l)

  pub ends_by : (first cell : Cell C A M) (events : List MachineEvent) → IsFirst opening first → EventsLead d r first events cell → (c : ℕ) (cause : EndCause) → c < cell.loop.count
      → (cell.loop.conns c).cause ≡ Some cause
      → EndsBy d (cell.loop.conns c).payloads (cell.loop.conns c).held (entries_of c cell.hall.journal) (output (marks_of c cell.loop.tape)) cause
  ends_by first cell events f runs c cause l e =
      let s : Sim d r opening cell = reaches d r opening all small first cell events f runs in
      let es : List (JournalEntry C A) = entries_of c cell.hall.journal in
      row d (cell.loop.conns c).payloads (cell.loop.conns c).held es (output (marks_of c cell.loop.tape)) (s.world.endpoints c).stage cause
      (ended d r opening all small es (cell.loop.conns c) (s.world.endpoints c) (s.place c) cause e
      (phase_of d cell.workers (jobs_of c cell.hall.jobs) (outcomes_of c cell.hall.outcomes) es c (cell.loop.conns c) (s.place c) (s.at c l)) (s.endpoint c l).stage)
      (said cell s c l)

  pub are_called : (first cell : Cell C A M) (events : List MachineEvent) → IsFirst opening first → EventsLead d r first events cell → (c : ℕ) → c < cell.loop.count
      → Done d (entries_of c cell.hall.journal) (cell.loop.conns c).payloads ⊎ Done d (entries_of c cell.hall.journal) (but_last (cell.loop.conns c).payloads)
  are_called first cell events f runs c l = calls_done cell (reaches d r opening all small first cell events f runs) c l
