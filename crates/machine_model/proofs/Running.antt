-- A run of the machine is a run of the world.
use Rattle.std.proofs.Common.{◌≡◌, ℕ, ◌<◌, ◌≤◌, ◌^◌, ◌⊎◌, Option, None, Some, List, [], ◌∷◌, length, slice_get, refl, sym, ap, ◌∙◌, subst, inl, inr, arith}
use Rattle.std.proofs.lemmas.Bool.{cases_lt}
use Rattle.std.proofs.lemmas.Option.{none-some, slice_get_past}
use Rattle.streams.specs.declared.marks.Mark.{Mark}
use Rattle.host_model.specs.declared.cause.EndCause.{EndCause}
use Rattle.host_model.specs.Frames.{Frames}
use Rattle.host_model.specs.Marks.{marks_of, input, output}
use Rattle.host_model.specs.Journal.{JournalEntry, ServiceRules, after, Legal, entries_of}
use Rattle.host_model.specs.DeskRules.{DeskRules}
use Rattle.host_model.specs.Conversation.{Done, Turns, sent}
use Rattle.host_model.specs.OrderBetween.{InOrder}
use Rattle.host_model.specs.Headline.{Headline}
use Rattle.host_model.specs.World.{Stage, open_, Endpoint, unopened_endpoint, unopened, World, Act, ReachedBy, StageSays, Moment, at_first}
use Rattle.host_model.specs.World as World
use Rattle.machine_model.specs.HallState.{key_of, HallState}
use Rattle.machine_model.specs.HallRule.{HallAnswer, done, submit, apply, put, CloseGives}
use Rattle.machine_model.specs.Loop.{LoopConn}
use Rattle.machine_model.specs.Worker.{key_held}
use Rattle.machine_model.specs.Machine.{Cell, MachineEvent, on_conn, submits, takes, applies, puts, collects, closes, ByLoop, ByWorker, Steps, EventsLead, IsFirst, HaveAllEnded}
use Rattle.machine_model.specs.Places.{PayloadPlace, collected_all, ready, queued, held_by, put_out, jobs_of, outcomes_of, WhatIsWritten, CellKeeps}
use Rattle.machine_model.proofs.Lists.{get_within}
use Rattle.machine_model.proofs.Standing.{Rests, Waits, StageIs, EndpointIs, Sim, IsCalledOrNot, phase_of}
use Rattle.machine_model.proofs.Linking.{conn_event_kept}
use Rattle.machine_model.proofs.Serving.{submits_kept, takes_kept, puts_kept, applies_kept, closes_kept}
use Rattle.machine_model.proofs.Collecting.{collects_kept, rests_ended}

module _ {C A M : Type 0} (d : DeskRules C A) (r : ServiceRules C A M) (opening : List M)
    (all : (acts : List (Act C A)) (world : World C A) → ReachedBy d r opening acts world → Moment d r opening world) (small : d.max < 2 ^ 31) where
  closed_kept : (old : Cell C A M) → Sim d r opening old → (answer : HallAnswer A) (hall : HallState C A M) → CloseGives old.hall answer hall → Sim d r opening (record old { hall = hall })
  closed_kept old s done hall g = closes_kept d r opening old s hall g
  closed_kept old s _ hall g = absurd g

  pub step_kept : (old new : Cell C A M) (event : MachineEvent) → Steps d r old event new → Sim d r opening old → Sim d r opening new
  step_kept old new (on_conn conn_event) t s = subst (Sim d r opening) (sym t.2) (conn_event_kept d r opening all old conn_event t.0 t.1 s)
  step_kept old new (submits c) t s =
      let b : ByLoop d r old (submit (key_of c t.0) t.1) new = t.2 in
      subst (Sim d r opening) (sym (b.5 ∙ ap (λ l. record old { loop = l; hall = b.2 }) b.3.3))
      (submits_kept d r opening old s (key_of c t.0) t.1 b.0 b.2 b.3.0 b.3.1 b.3.2 b.4)
  step_kept old new (takes w) t s = subst (Sim d r opening) (sym t.5) (takes_kept d r opening old s w t.0 t.1 t.2 t.3 t.4)
  step_kept old new (applies w) t s =
      let b : ByWorker d r old w (apply t.0 t.1) new = t.2 in
      subst (Sim d r opening) (sym b.5) (applies_kept d r opening old s w t.0 t.1 b.0 b.1 b.2 b.4.0 small b.3 b.4.2)
  step_kept old new (puts w) t s =
      let b : ByWorker d r old w (put t.0 t.1) new = t.2 in
      subst (Sim d r opening) (sym b.5) (puts_kept d r opening old s w t.0 t.1 b.0 b.1 b.2 b.3 b.4)
  step_kept old new collects t s =
      subst (Sim d r opening) (sym (t.5 ∙ ap (λ l. record old { loop = l; hall = t.2 }) t.3)) (collects_kept d r opening all old s t.0 t.2 t.4)
  step_kept old new closes t s =
      subst (Sim d r opening) (sym (t.5 ∙ ap (λ l. record old { loop = l; hall = t.2 }) t.3)) (closed_kept old s t.0 t.2 t.4)

  run_kept : (old new : Cell C A M) (events : List MachineEvent) → EventsLead d r old events new → Sim d r opening old → Sim d r opening new
  run_kept old new [] t s = subst (Sim d r opening) (sym t) s
  run_kept old new (event ∷ events) t s = run_kept t.0 new events t.2 (step_kept old t.0 event t.1 s)

  pub first_kept : (first : Cell C A M) → IsFirst opening first → Sim d r opening first
  first_kept first f =
      record {
        acts = [];
        world = at_first;
        reached = refl;
        tape = sym f.tape;
        journal = sym f.hall.journal;
        memories = λ whole. f.hall.memories ∙ ap (after r opening) (sym f.hall.journal);
        place = λ c. collected_all;
        at = λ c l. absurd (let e : first.loop.count ≡ 0 = f.count in let g : ⊥ = omega arith in g);
        endpoint = λ c l. absurd (let e : first.loop.count ≡ 0 = f.count in let g : ⊥ = omega arith in g);
        workers = λ w key h. absurd (none-some key (sym (ap key_held (f.workers w)) ∙ h));
        nobody = λ c l. (ap (jobs_of c) f.hall.opened.jobs, ap (outcomes_of c) f.hall.opened.outcomes, refl);
      }

  pub reaches : (first cell : Cell C A M) (events : List MachineEvent) → IsFirst opening first → EventsLead d r first events cell → Sim d r opening cell
  reaches first cell events f runs = run_kept first cell events runs (first_kept first f)

  -- what is written of a connection
  written : (es : List (JournalEntry C A)) (out : List ℕ) (conn : LoopConn) (endpoint : Endpoint) (cause : Option EndCause) (place : PayloadPlace) → conn.cause ≡ cause
      → EndpointIs d es conn endpoint place → StageSays d endpoint.payloads endpoint.held es out endpoint.stage → WhatIsWritten d es out conn cause place
  written es out conn endpoint None collected_all none l t =
      let e : endpoint.stage ≡ open_ conn.left = subst (λ k. Rests k conn.left endpoint.stage) none l.stage in
      let u : StageSays d endpoint.payloads endpoint.held es out (open_ conn.left) = subst (StageSays d endpoint.payloads endpoint.held es out) e t in
      (subst (Done d es) l.payloads u.2, ap (sent d es 0) (sym l.payloads) ∙ u.3)
  written es out conn endpoint None ready none l t = tt
  written es out conn endpoint None queued none l t = tt
  written es out conn endpoint None (held_by w) none l t = tt
  written es out conn endpoint None (put_out settled) none l t = tt
  written es out conn endpoint (Some cause) place none l t = tt

  pub keeps : (first cell : Cell C A M) (events : List MachineEvent) → IsFirst opening first → EventsLead d r first events cell → CellKeeps d r opening cell
  keeps first cell events f runs =
      let s : Sim d r opening cell = reaches first cell events f runs in
      let m : Moment d r opening s.world = all s.acts s.world s.reached in
      record {
        place = s.place;
        legal = subst (Legal r opening) s.journal m.legal;
        memories = s.memories;
        order = subst (λ (t : List Mark × List (JournalEntry C A)). InOrder d t.0 t.1) (λ i. (s.tape i, s.journal i)) m.order;
        frames = λ c l.
            subst (λ (t : List Mark × List (List ℕ) × List ℕ). Frames d.max (input (marks_of c t.0)) t.1 t.2)
            (λ i. (s.tape i, (s.endpoint c l).payloads i, (s.endpoint c l).held i)) (m.frames c);
        turns = λ c. subst (λ (t : List Mark × List (JournalEntry C A)). Turns d (entries_of c t.1) (marks_of c t.0)) (λ i. (s.tape i, s.journal i)) (m.turns c);
        at = s.at;
        written = λ c l.
            written (entries_of c cell.hall.journal) (output (marks_of c cell.loop.tape)) (cell.loop.conns c) (s.world.endpoints c) (cell.loop.conns c).cause (s.place c) refl
            (s.endpoint c l)
            (subst (λ (t : List Mark × List (JournalEntry C A)).
            StageSays d (s.world.endpoints c).payloads (s.world.endpoints c).held (entries_of c t.1) (output (marks_of c t.0)) (s.world.endpoints c).stage)
            (λ i. (s.tape i, s.journal i)) (m.stands c));
        workers = s.workers;
        nobody = λ c l.
            let t : (jobs_of c cell.hall.jobs ≡ []) × (outcomes_of c cell.hall.outcomes ≡ []) × (s.world.endpoints c ≡ unopened_endpoint) = s.nobody c l in
            let u : StageSays d [] [] (entries_of c s.world.journal) (output (marks_of c s.world.tape)) unopened =
            subst (λ (x : Endpoint). StageSays d x.payloads x.held (entries_of c s.world.journal) (output (marks_of c s.world.tape)) x.stage) t.2 (m.stands c) in
            (t.0, t.1, ap (entries_of c) (sym s.journal) ∙ u.2);
      }

  -- a connection that has a cause has ended in the world
  pub ended : (es : List (JournalEntry C A)) (conn : LoopConn) (endpoint : Endpoint) (place : PayloadPlace) (cause : EndCause) → conn.cause ≡ Some cause
      → (place ≡ collected_all) ⊎ IsCalledOrNot d es conn.payloads → StageIs d es conn endpoint.stage place → World.HasEnded endpoint.stage (Some cause)
  ended es conn endpoint collected_all cause e phase t = subst (λ k. Rests k conn.left endpoint.stage) e t
  ended es conn endpoint ready cause e (inl q) t = absurd (let f : ⊥ = cc in f)
  ended es conn endpoint ready cause e (inr p) t = rests_ended d es conn.payloads cause endpoint.stage p (subst (λ k. Waits d es conn.payloads k endpoint.stage) e t)
  ended es conn endpoint queued cause e (inl q) t = absurd (let f : ⊥ = cc in f)
  ended es conn endpoint queued cause e (inr p) t = rests_ended d es conn.payloads cause endpoint.stage p (subst (λ k. Waits d es conn.payloads k endpoint.stage) e t)
  ended es conn endpoint (held_by w) cause e (inl q) t = absurd (let f : ⊥ = cc in f)
  ended es conn endpoint (held_by w) cause e (inr p) t = rests_ended d es conn.payloads cause endpoint.stage p (subst (λ k. Waits d es conn.payloads k endpoint.stage) e t)
  ended es conn endpoint (put_out settled) cause e (inl q) t = absurd (let f : ⊥ = cc in f)
  ended es conn endpoint (put_out settled) cause e (inr p) t = rests_ended d es conn.payloads cause endpoint.stage p (subst (λ k. Waits d es conn.payloads k endpoint.stage) e t)

  pub all_ended : (cell : Cell C A M) (causes : List EndCause) (s : Sim d r opening cell) → HaveAllEnded cell.loop causes
      → (c : ℕ) → World.HasEnded (s.world.endpoints c).stage (slice_get causes c)
  all_ended cell causes s h c = go (cases_lt c cell.loop.count)
    where
      go : (c < cell.loop.count) ⊎ (cell.loop.count ≤ c) → World.HasEnded (s.world.endpoints c).stage (slice_get causes c)
      go (inl l) =
          let n : length causes ≡ cell.loop.count = h.count in
          let t : (x : EndCause) × (slice_get causes c ≡ Some x) = get_within causes c (omega arith) in
          let es : List (JournalEntry C A) = entries_of c cell.hall.journal in
          subst (World.HasEnded (s.world.endpoints c).stage) (sym t.1)
          (ended es (cell.loop.conns c) (s.world.endpoints c) (s.place c) t.0 (h.each c l ∙ t.1)
          (phase_of d cell.workers (jobs_of c cell.hall.jobs) (outcomes_of c cell.hall.outcomes) es c (cell.loop.conns c) (s.place c) (s.at c l)) (s.endpoint c l).stage)
      go (inr l) =
          let n : length causes ≡ cell.loop.count = h.count in
          subst (World.HasEnded (s.world.endpoints c).stage) (sym (slice_get_past causes c (omega arith)))
          (subst (λ (x : Endpoint). World.HasEnded x.stage None) (sym (s.nobody c l).2) tt)

  pub meets : ((acts : List (Act C A)) (world : World C A) (causes : List EndCause) → ReachedBy d r opening acts world
      → ((c : ℕ) → World.HasEnded (world.endpoints c).stage (slice_get causes c)) → Headline d r opening world.tape world.journal causes)
      → (first cell : Cell C A M) (events : List MachineEvent) (causes : List EndCause) → IsFirst opening first → EventsLead d r first events cell → HaveAllEnded cell.loop causes
      → Headline d r opening cell.loop.tape cell.hall.journal causes
  meets law first cell events causes f runs h =
      let s : Sim d r opening cell = reaches first cell events f runs in
      subst (λ (t : List Mark × List (JournalEntry C A)). Headline d r opening t.0 t.1 causes) (λ i. (s.tape i, s.journal i))
      (law s.acts s.world causes s.reached (all_ended cell causes s h))
