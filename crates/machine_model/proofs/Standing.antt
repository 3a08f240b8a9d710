-- What a place says of a connection's endpoint in the world, and what the cell and the world keep of each other.
use Rattle.std.proofs.Common.{◌≡◌, ℕ, ◌+◌, ◌<◌, ◌≤◌, ◌⊎◌, false, Option, None, Some, List, [], ◌∷◌, ◌++◌, length, refl, sym, ap, ◌∙◌, subst, inl, inr, arith, length-append}
use Rattle.std.proofs.lemmas.Option.{none-some}
use Rattle.streams.specs.declared.outcomes.Settled.{Settled}
use Rattle.host_model.specs.declared.key.Key.{Key}
use Rattle.host_model.specs.declared.cause.EndCause.{EndCause}
use Rattle.host_model.specs.Journal.{JournalEntry, ServiceRules, after, entries_of}
use Rattle.host_model.specs.DeskRules.{DeskRules}
use Rattle.host_model.specs.Conversation.{but_last, Done}
use Rattle.host_model.specs.World.{Stage, open_, pending, answered, over, over_pending, Endpoint, unopened_endpoint, World, Act, ReachedBy, HasEnded}
use Rattle.host_model.proofs.Lists.{but_last-push}
use Rattle.host_model.proofs.Replies.{numbers_done}
use Rattle.machine_model.specs.HallState.{key_of, Job, JobOutcome}
use Rattle.machine_model.specs.Loop.{LoopConn}
use Rattle.machine_model.specs.Worker.{WorkerState, idle, holds, has_answer, has_none, key_held}
use Rattle.machine_model.specs.Machine.{Cell}
use Rattle.machine_model.specs.Places.{PayloadPlace, collected_all, ready, queued, held_by, put_out, jobs_of, outcomes_of, IsUncollected, IsEntered, Carries, IsOutcome, PayloadIsAt}
use Rattle.machine_model.proofs.Lists.{answer_none}

-- where a connection stands while its last payload isn't called, and once it is
abbrev pub uncalled : Option EndCause → Stage
uncalled None = pending
uncalled (Some cause) = over_pending cause

abbrev pub entered : Option EndCause → Stage
entered None = answered
entered (Some cause) = over cause

-- and where it stands once all is collected
abbrev pub Rests : Option EndCause → List ℕ → Stage → Type 0
Rests None left stage = stage ≡ open_ left
Rests (Some cause) left stage = HasEnded stage (Some cause)

-- a stage while a payload is under way: it tells whether the payload's call stands in the journal
pub record Waits {C A : Type 0} (d : DeskRules C A) (es : List (JournalEntry C A)) (payloads : List (List ℕ)) (cause : Option EndCause) (stage : Stage) : Type 0 where
  pub before : Done d es (but_last payloads) → stage ≡ uncalled cause
  pub behind : (Done d es (but_last payloads) → ⊥) → stage ≡ entered cause

abbrev pub StageIs : {C A : Type 0} → DeskRules C A → List (JournalEntry C A) → LoopConn → Stage → PayloadPlace → Type 0
StageIs d es conn stage collected_all = Rests conn.cause conn.left stage
StageIs d es conn stage ready = Waits d es conn.payloads conn.cause stage
StageIs d es conn stage queued = Waits d es conn.payloads conn.cause stage
StageIs d es conn stage (held_by w) = Waits d es conn.payloads conn.cause stage
StageIs d es conn stage (put_out settled) = Waits d es conn.payloads conn.cause stage

pub record EndpointIs {C A : Type 0} (d : DeskRules C A) (es : List (JournalEntry C A)) (conn : LoopConn) (endpoint : Endpoint) (place : PayloadPlace) : Type 0 where
  pub payloads : endpoint.payloads ≡ conn.payloads
  pub held : endpoint.held ≡ conn.held
  pub stage : StageIs d es conn endpoint.stage place

-- the cell, and a world that acts have reached
pub record Sim {C A M : Type 0} (d : DeskRules C A) (r : ServiceRules C A M) (opening : List M) (cell : Cell C A M) : Type 0 where
  pub acts : List (Act C A)
  pub world : World C A
  pub reached : ReachedBy d r opening acts world
  pub tape : world.tape ≡ cell.loop.tape
  pub journal : world.journal ≡ cell.hall.journal
  pub memories : cell.hall.broken ≡ false → cell.hall.memories ≡ after r opening cell.hall.journal
  pub place : ℕ → PayloadPlace
  pub at : (c : ℕ) → c < cell.loop.count
      → PayloadIsAt d cell.workers (jobs_of c cell.hall.jobs) (outcomes_of c cell.hall.outcomes) (entries_of c cell.hall.journal) c (cell.loop.conns c) (place c)
  pub endpoint : (c : ℕ) → c < cell.loop.count → EndpointIs d (entries_of c cell.hall.journal) (cell.loop.conns c) (world.endpoints c) (place c)
  pub workers : (w : ℕ) (key : Key) → key_held (cell.workers w) ≡ Some key → (key.c < cell.loop.count) × (place key.c ≡ held_by w)
  pub nobody : (c : ℕ) → cell.loop.count ≤ c
      → (jobs_of c cell.hall.jobs ≡ []) × (outcomes_of c cell.hall.outcomes ≡ []) × (world.endpoints c ≡ unopened_endpoint)

module _ {C A : Type 0} (d : DeskRules C A) where
  -- a payload that is under way isn't collected
  pub under_way_left : (conn : LoopConn) (before : List (List ℕ)) (p : List ℕ) → IsUncollected conn before p → conn.collected ≡ length conn.payloads → ⊥
  under_way_left conn before p u e =
      let l : length conn.payloads ≡ length before + 1 = ap length u.last ∙ length-append before (p ∷ []) in
      let f : conn.collected ≡ length before = u.collected in
      let g : ⊥ = omega arith in g

  pub clear_by_count : (workers : ℕ → WorkerState A) (jobs : List Job) (outs : List JobOutcome) (es : List (JournalEntry C A)) (c : ℕ) (conn : LoopConn) (place : PayloadPlace)
      → PayloadIsAt d workers jobs outs es c conn place → conn.collected ≡ length conn.payloads → place ≡ collected_all
  clear_by_count workers jobs outs es c conn collected_all a e = refl
  clear_by_count workers jobs outs es c conn ready a e = absurd (under_way_left conn a.0 a.1 a.2 e)
  clear_by_count workers jobs outs es c conn queued a e = absurd (under_way_left conn a.0 a.1 a.2 e)
  clear_by_count workers jobs outs es c conn (held_by w) a e = absurd (under_way_left conn a.0 a.1 a.2 e)
  clear_by_count workers jobs outs es c conn (put_out settled) a e = absurd (under_way_left conn a.0 a.1 a.2 e)

  pub clear_by_left : (workers : ℕ → WorkerState A) (jobs : List Job) (outs : List JobOutcome) (es : List (JournalEntry C A)) (c : ℕ) (conn : LoopConn) (place : PayloadPlace)
      → PayloadIsAt d workers jobs outs es c conn place → (conn.left ≡ [] → ⊥) → place ≡ collected_all
  clear_by_left workers jobs outs es c conn collected_all a n = refl
  clear_by_left workers jobs outs es c conn ready a n = absurd (n a.2.none_left)
  clear_by_left workers jobs outs es c conn queued a n = absurd (n a.2.none_left)
  clear_by_left workers jobs outs es c conn (held_by w) a n = absurd (n a.2.none_left)
  clear_by_left workers jobs outs es c conn (put_out settled) a n = absurd (n a.2.none_left)

  -- the calls before the last payload's are done
  pub done_but_last : (es : List (JournalEntry C A)) (payloads before : List (List ℕ)) (p : List ℕ) → payloads ≡ before ++ p ∷ [] → Done d es before → Done d es (but_last payloads)
  done_but_last es payloads before p last done = subst (Done d es) (sym (ap but_last last ∙ but_last-push before p)) done

  -- once the last payload's call stands in the journal, it has more than the calls before
  pub entered_more : (es : List (JournalEntry C A)) (payloads before : List (List ℕ)) (p : List ℕ) (answer : A) → payloads ≡ before ++ p ∷ [] → IsEntered d es before p answer
      → Done d es (but_last payloads) → ⊥
  entered_more es payloads before p answer last t done =
      none-some answer
      (sym (answer_none (length before) es (numbers_done d (length before) es before (omega arith) (subst (Done d es) (ap but_last last ∙ but_last-push before p) done))) ∙ t.3)

  -- a hand's payload is called or isn't
  pub carried : (es : List (JournalEntry C A)) (key : Key) (before : List (List ℕ)) (p : List ℕ) (worker : WorkerState A) → Carries d es key before p worker
      → Done d es before ⊎ ((answer : A) × IsEntered d es before p answer)
  carried es key before p idle t = absurd t
  carried es key before p (holds k payload) t = inl t.2
  carried es key before p (has_answer k payload answer) t = inr (answer, t.2)
  carried es key before p (has_none k payload) t = t.2

  pub carried_key : (es : List (JournalEntry C A)) (key : Key) (before : List (List ℕ)) (p : List ℕ) (worker : WorkerState A) → Carries d es key before p worker → key_held worker ≡ Some key
  carried_key es key before p idle t = absurd t
  carried_key es key before p (holds k payload) t = ap Some t.0
  carried_key es key before p (has_answer k payload answer) t = ap Some t.0
  carried_key es key before p (has_none k payload) t = ap Some t.0

  outcome_called : (es : List (JournalEntry C A)) (before : List (List ℕ)) (p : List ℕ) (settled : Settled) → IsOutcome d es before p settled
      → Done d es before ⊎ ((answer : A) × IsEntered d es before p answer)
  outcome_called es before p settled (inl t) = inl t.0
  outcome_called es before p settled (inr t) = inr (t.0, t.1)

  -- the last payload's call stands in the journal, or it doesn't
  abbrev pub IsCalledOrNot : List (JournalEntry C A) → List (List ℕ) → Type 0
  IsCalledOrNot es payloads = Done d es (but_last payloads) ⊎ (Done d es (but_last payloads) → ⊥)

  called_or_not : (es : List (JournalEntry C A)) (payloads before : List (List ℕ)) (p : List ℕ) → payloads ≡ before ++ p ∷ []
      → Done d es before ⊎ ((answer : A) × IsEntered d es before p answer) → IsCalledOrNot es payloads
  called_or_not es payloads before p last (inl done) = inl (done_but_last es payloads before p last done)
  called_or_not es payloads before p last (inr t) = inr (entered_more es payloads before p t.0 last t.1)

  pub phase_of : (workers : ℕ → WorkerState A) (jobs : List Job) (outs : List JobOutcome) (es : List (JournalEntry C A)) (c : ℕ) (conn : LoopConn) (place : PayloadPlace)
      → PayloadIsAt d workers jobs outs es c conn place → (place ≡ collected_all) ⊎ IsCalledOrNot es conn.payloads
  phase_of workers jobs outs es c conn collected_all a = inl refl
  phase_of workers jobs outs es c conn ready a = inr (called_or_not es conn.payloads a.0 a.1 a.2.last (inl a.6))
  phase_of workers jobs outs es c conn queued a = inr (called_or_not es conn.payloads a.0 a.1 a.2.last (inl a.6))
  phase_of workers jobs outs es c conn (held_by w) a =
      inr (called_or_not es conn.payloads a.0 a.1 a.2.last (carried es (key_of c (length a.0)) a.0 a.1 (workers w) a.6))
  phase_of workers jobs outs es c conn (put_out settled) a = inr (called_or_not es conn.payloads a.0 a.1 a.2.last (outcome_called es a.0 a.1 settled a.6))

  -- a place depends on the hand that it names alone
  at_workers : (old new : ℕ → WorkerState A) (jobs : List Job) (outs : List JobOutcome) (es : List (JournalEntry C A)) (c : ℕ) (conn : LoopConn) (place : PayloadPlace)
      → ((w : ℕ) → place ≡ held_by w → old w ≡ new w) → PayloadIsAt d old jobs outs es c conn place → PayloadIsAt d new jobs outs es c conn place
  at_workers old new jobs outs es c conn collected_all e a = a
  at_workers old new jobs outs es c conn ready e a = a
  at_workers old new jobs outs es c conn queued e a = a
  at_workers old new jobs outs es c conn (held_by w) e a =
      (a.0, a.1, a.2, a.3, a.4, a.5, subst (Carries d es (key_of c (length a.0)) a.0 a.1) (e w refl) a.6)
  at_workers old new jobs outs es c conn (put_out settled) e a = a

  -- and is kept where all that it speaks of is the same
  pub at_same : (old new : ℕ → WorkerState A) (c : ℕ) (jobs jobs' : List Job) (outs outs' : List JobOutcome) (es es' : List (JournalEntry C A)) (conn conn' : LoopConn) (place place' : PayloadPlace)
      → jobs ≡ jobs' → outs ≡ outs' → es ≡ es' → conn ≡ conn' → place ≡ place' → ((w : ℕ) → place ≡ held_by w → old w ≡ new w)
      → PayloadIsAt d old jobs outs es c conn place → PayloadIsAt d new jobs' outs' es' c conn' place'
  at_same old new c jobs jobs' outs outs' es es' conn conn' place place' j o e k l h a =
      subst (λ (t : List Job × List JobOutcome × List (JournalEntry C A) × LoopConn × PayloadPlace). PayloadIsAt d new t.0 t.1 t.2 c t.3 t.4) (λ i. (j i, o i, e i, k i, l i))
      (at_workers old new jobs outs es c conn place h a)

  pub endpoint_same : (es es' : List (JournalEntry C A)) (conn conn' : LoopConn) (endpoint endpoint' : Endpoint) (place place' : PayloadPlace) → es ≡ es' → conn ≡ conn' → endpoint ≡ endpoint' → place ≡ place'
      → EndpointIs d es conn endpoint place → EndpointIs d es' conn' endpoint' place'
  endpoint_same es es' conn conn' endpoint endpoint' place place' e k l p a =
      subst (λ (t : List (JournalEntry C A) × LoopConn × Endpoint × PayloadPlace). EndpointIs d t.0 t.1 t.2 t.3) (λ i. (e i, k i, l i, p i)) a
