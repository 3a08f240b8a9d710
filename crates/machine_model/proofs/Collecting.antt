-- An outcome that is collected settles its connection's payload in the world.
use Rattle.std.proofs.Common.{◌≡◌, ℕ, suc, ◌+◌, ◌<◌, ◌≤◌, ◌⊎◌, Bool, true, false, if◌then◌else◌, Option, None, Some, List, [], ◌∷◌, ◌++◌, length, refl, sym, ap, ◌∙◌, subst, inl, inr, arith, append-nil, length-append}
use Rattle.std.proofs.lemmas.Bool.{cases_eq, cases_lt}
use Rattle.std.proofs.lemmas.Option.{none-some, same_Some}
use Rattle.streams.specs.declared.outcomes.Settled.{Settled}
use Rattle.streams.specs.declared.outcomes.Settled.TheVariants.{Reply as Replied, Nothing, Close as Refused, NoMemory}
use Rattle.host_model.specs.declared.key.Key.{Key}
use Rattle.host_model.specs.declared.cause.EndCause.{EndCause}
use Rattle.host_model.specs.declared.cause.EndCause.TheVariants.{Envelope, NoMemory as LackOfMemory}
use Rattle.host_model.specs.Journal.{JournalEntry, ServiceRules, entries_of}
use Rattle.host_model.specs.DeskRules.{DeskRules, DeskDecision, Close, Silent, Reply, Invoke}
use Rattle.host_model.specs.Conversation.{Done, answer_at, reply_for, replied}
use Rattle.host_model.specs.World.{Stage, open_, pending, answered, over, over_pending, Endpoint, World, Act, ReachedBy, Move, marks_by, Moves, NeedsNoCall, GivesUp, HasEnded, Moment}
use Rattle.host_model.specs.World as World
use Rattle.host_model.proofs.Lists.{nil-cons, cons_parts}
use Rattle.machine_model.specs.HallState.{key_of, Job, JobOutcome, HallState}
use Rattle.machine_model.specs.HallRule.{HallAnswer, empty, is_closed, outcome, outcome_of, CollectGives}
use Rattle.machine_model.specs.Loop.{LoopConn, changed, open_conn_settled, open_marks_settled, conn_settled, conn_marks_settled, after_collect}
use Rattle.machine_model.specs.Worker.{WorkerState, key_held, settled_by, settled_with}
use Rattle.machine_model.specs.Machine.{Cell}
use Rattle.machine_model.specs.Places.{PayloadPlace, collected_all, ready, queued, held_by, put_out, jobs_of, outcomes_of, IsUncollected, IsEntered, IsOutcome, PayloadIsAt}
use Rattle.machine_model.proofs.Lists.{put_same, put_other, own_first, own_first_other}
use Rattle.machine_model.proofs.Standing.{uncalled, entered, Rests, Waits, EndpointIs, Sim, done_but_last, entered_more, IsCalledOrNot, phase_of}
use Rattle.machine_model.proofs.Linking.{by_move}
use Rattle.machine_model.proofs.Serving.{still}

-- no outcome that is put is held
not_held : (settled : Settled) (w : ℕ) → put_out settled ≡ held_by w → ⊥
not_held settled w e = cc

module _ {C A : Type 0} (d : DeskRules C A) where
  -- what is collected was put
  put_by_collect : (workers : ℕ → WorkerState A) (jobs : List Job) (first : JobOutcome) (outs : List JobOutcome) (es : List (JournalEntry C A)) (c : ℕ) (conn : LoopConn) (place : PayloadPlace)
      → PayloadIsAt d workers jobs (first ∷ outs) es c conn place → place ≡ put_out first.settled
  put_by_collect workers jobs first outs es c conn collected_all a = absurd (nil-cons first outs (sym a.1))
  put_by_collect workers jobs first outs es c conn ready a = absurd (nil-cons first outs (sym a.4))
  put_by_collect workers jobs first outs es c conn queued a = absurd (nil-cons first outs (sym a.4))
  put_by_collect workers jobs first outs es c conn (held_by w) a = absurd (nil-cons first outs (sym a.4))
  put_by_collect workers jobs first outs es c conn (put_out settled) a =
      let parts : (first ≡ outcome_of (key_of c (length a.0)) settled) × (outs ≡ []) = cons_parts first (outcome_of (key_of c (length a.0)) settled) outs [] a.4 in
      ap put_out (sym (ap (λ (o : JobOutcome). o.settled) parts.0))

  -- a connection that has ended stays so
  pub rests_ended : (es : List (JournalEntry C A)) (payloads : List (List ℕ)) (cause : EndCause) (stage : Stage) → IsCalledOrNot d es payloads → Waits d es payloads (Some cause) stage
      → HasEnded stage (Some cause)
  rests_ended es payloads cause stage (inl done) w = subst (λ st. HasEnded st (Some cause)) (sym (w.before done)) refl
  rests_ended es payloads cause stage (inr not) w = subst (λ st. HasEnded st (Some cause)) (sym (w.behind not)) refl

module _ {C A M : Type 0} (d : DeskRules C A) (r : ServiceRules C A M) (opening : List M)
    (all : (acts : List (Act C A)) (world : World C A) → ReachedBy d r opening acts world → Moment d r opening world)
    (old : Cell C A M) (s : Sim d r opening old) (key : Key) (settled : Settled) (later : List JobOutcome) (first : old.hall.outcomes ≡ outcome_of key settled ∷ later) where
  abbrev c : ℕ
  c = key.c

  abbrev conn : LoopConn
  conn = old.loop.conns key.c

  abbrev es : List (JournalEntry C A)
  es = entries_of key.c old.hall.journal

  abbrev endpoint : Endpoint
  endpoint = s.world.endpoints key.c

  abbrev hall : HallState C A M
  hall = record old.hall { outcomes = later }

  own_outcomes : outcomes_of c old.hall.outcomes ≡ outcome_of key settled ∷ outcomes_of c later
  own_outcomes = ap (outcomes_of c) first ∙ own_first (λ (o : JobOutcome). o.key.c) c (outcome_of key settled) later refl

  other_outcomes : (x : ℕ) → (x ≡ c → ⊥) → outcomes_of x old.hall.outcomes ≡ outcomes_of x later
  other_outcomes x n = ap (outcomes_of x) first ∙ own_first_other (λ (o : JobOutcome). o.key.c) x (outcome_of key settled) later (λ q. n (sym q))

  inside : c < old.loop.count
  inside = go (cases_lt c old.loop.count)
    where
      go : (c < old.loop.count) ⊎ (old.loop.count ≤ c) → c < old.loop.count
      go (inl lt) = lt
      go (inr past) = absurd (nil-cons (outcome_of key settled) (outcomes_of c later) (sym (s.nobody c past).1 ∙ own_outcomes))

  abbrev At : PayloadPlace → Type 0
  At place = PayloadIsAt d old.workers (jobs_of c old.hall.jobs) (outcome_of key settled ∷ outcomes_of c later) es c conn place

  at_place : At (s.place c)
  at_place = subst (λ os. PayloadIsAt d old.workers (jobs_of c old.hall.jobs) os es c conn (s.place c)) own_outcomes (s.at c inside)

  there : s.place c ≡ put_out settled
  there = put_by_collect d old.workers (jobs_of c old.hall.jobs) (outcome_of key settled) (outcomes_of c later) es c conn (s.place c) at_place

  at_put : At (put_out settled)
  at_put = subst At there at_place

  endpoint_put : EndpointIs d es conn endpoint (put_out settled)
  endpoint_put = subst (EndpointIs d es conn endpoint) there (s.endpoint c inside)

  no_more : outcomes_of c later ≡ []
  no_more =
      let a : At (put_out settled) = at_put in
      (cons_parts (outcome_of key settled) (outcome_of (key_of c (length a.0)) settled) (outcomes_of c later) [] a.4).1

  -- all is collected then
  counted : (suc conn.collected ≡ length conn.payloads) × (conn.submitted ≡ length conn.payloads)
  counted =
      let a : At (put_out settled) = at_put in
      let u : IsUncollected conn a.0 a.1 = a.2 in
      let l : length conn.payloads ≡ length a.0 + 1 = ap length u.last ∙ length-append a.0 (a.1 ∷ []) in
      let f : conn.collected ≡ length a.0 = u.collected in
      let g : conn.submitted ≡ suc (length a.0) = a.5 in
      (omega arith, omega arith)

  -- the connection has ended before
  ended_kept : (cause : EndCause) → conn.cause ≡ Some cause
      → Sim d r opening (record old { loop = changed old.loop c (record conn { collected = suc conn.collected }) []; hall = hall })
  ended_kept cause given =
      let new : LoopConn = record conn { collected = suc conn.collected } in
      let a : At (put_out settled) = at_put in
      let u : IsUncollected conn a.0 a.1 = a.2 in
      let l : EndpointIs d es conn endpoint (put_out settled) = endpoint_put in
      let phase : (put_out settled ≡ collected_all) ⊎ IsCalledOrNot d es conn.payloads =
      phase_of d old.workers (jobs_of c old.hall.jobs) (outcome_of key settled ∷ outcomes_of c later) es c conn (put_out settled) a in
      still d r opening old (record old { loop = changed old.loop c new []; hall = hall }) s c collected_all (sym (append-nil old.loop.tape)) refl s.memories refl inside
      (λ x n. sym (put_other old.loop.conns c new x n)) (λ x n. refl) other_outcomes (λ x w n k h. refl)
      (subst (λ k. PayloadIsAt d old.workers (jobs_of c old.hall.jobs) (outcomes_of c later) es c k collected_all) (sym (put_same old.loop.conns c new)) (a.3, no_more, counted.1, counted.0))
      (subst (λ k. EndpointIs d es k endpoint collected_all) (sym (put_same old.loop.conns c new))
      (record { payloads = l.payloads; held = l.held; stage = subst (λ k. Rests k conn.left endpoint.stage) (sym given) (rests phase l.stage) }))
      (λ w y h. held w y h (cases_eq y.c c))
    where
      rests : (put_out settled ≡ collected_all) ⊎ IsCalledOrNot d es conn.payloads → Waits d es conn.payloads conn.cause endpoint.stage → HasEnded endpoint.stage (Some cause)
      rests (inl e) w = absurd (let f : ⊥ = cc in f)
      rests (inr p) w = rests_ended d es conn.payloads cause endpoint.stage p (subst (λ k. Waits d es conn.payloads k endpoint.stage) given w)

      held : (w : ℕ) (y : Key) → key_held (old.workers w) ≡ Some y → (y.c ≡ c) ⊎ (y.c ≡ c → ⊥)
          → ((y.c ≡ c) × (collected_all ≡ held_by w)) ⊎ ((y.c ≡ c → ⊥) × (key_held (old.workers w) ≡ Some y))
      held w y h (inl q) = absurd (not_held settled w (sym there ∙ subst (λ x. s.place x ≡ held_by w) q (s.workers w y h).1))
      held w y h (inr n) = inr (n, h)

  -- a connection that has just been settled has nothing under way
  at_settled : (given : Settled) → (jobs : List Job) (outs : List JobOutcome) → jobs ≡ [] → outs ≡ [] → PayloadIsAt d old.workers jobs outs es c (open_conn_settled given conn) collected_all
  at_settled (Replied reply) jobs outs j o = (j, o, counted.1, counted.0)
  at_settled Nothing jobs outs j o = (j, o, counted.1, counted.0)
  at_settled (Refused fault) jobs outs j o = (j, o, counted.1, counted.0)
  at_settled NoMemory jobs outs j o = (j, o, counted.1, counted.0)

  abbrev Collected : Settled → Type 0
  Collected given = Sim d r opening (record old { loop = changed old.loop c (open_conn_settled given conn) (open_marks_settled c given); hall = hall })

  by_collect : (given : Settled) (move : Move) (stage : Stage) → Moves d (entries_of c s.world.journal) endpoint move (record endpoint { stage = stage })
      → marks_by c move ≡ open_marks_settled c given → (open_conn_settled given conn).payloads ≡ conn.payloads → (open_conn_settled given conn).held ≡ conn.held
      → Rests (open_conn_settled given conn).cause (open_conn_settled given conn).left stage → Collected given
  by_collect given move stage m marks payloads held rests =
      let a : At (put_out settled) = at_put in
      let l : EndpointIs d es conn endpoint (put_out settled) = endpoint_put in
      subst (λ t. Sim d r opening (record old { loop = changed old.loop c (open_conn_settled given conn) t; hall = hall })) marks
      (by_move d r opening all old s c (open_conn_settled given conn) move (record endpoint { stage = stage }) hall collected_all inside m refl s.memories (λ x n. refl) other_outcomes
      (at_settled given (jobs_of c old.hall.jobs) (outcomes_of c later) a.3 no_more)
      (record { payloads = l.payloads ∙ sym payloads; held = l.held ∙ sym held; stage = rests })
      (λ w h. absurd (not_held settled w (sym there ∙ h))))

  module _ (none : conn.cause ≡ None) (before : List (List ℕ)) (p : List ℕ) (u : IsUncollected conn before p) where
    last_of_endpoint : endpoint.payloads ≡ before ++ p ∷ []
    last_of_endpoint = endpoint_put.payloads ∙ u.last

    -- the payload isn't called, or it is
    pending_here : Done d es before → endpoint.stage ≡ pending
    pending_here done = endpoint_put.stage.before (done_but_last d es conn.payloads before p u.last done) ∙ ap uncalled none

    answered_here : (answer : A) → IsEntered d es before p answer → endpoint.stage ≡ answered
    answered_here answer t = endpoint_put.stage.behind (entered_more d es conn.payloads before p answer u.last t) ∙ ap entered none

    -- memory ran out
    lacking_kept : (stage : Stage) → (GivesUp endpoint.stage LackOfMemory stage) → HasEnded stage (Some LackOfMemory) → Collected NoMemory
    lacking_kept stage gives rests = by_collect NoMemory (World.gives_up LackOfMemory) stage (stage, tt, gives, refl) refl refl refl rests

    no_memory_kept : Done d es before ⊎ ((answer : A) × IsEntered d es before p answer) → Collected NoMemory
    no_memory_kept (inl done) = lacking_kept (over_pending LackOfMemory) (subst (λ st. GivesUp st LackOfMemory (over_pending LackOfMemory)) (sym (pending_here done)) refl) refl
    no_memory_kept (inr t) = lacking_kept (over LackOfMemory) (subst (λ st. GivesUp st LackOfMemory (over LackOfMemory)) (sym (answered_here t.0 t.1)) refl) refl

    -- it is settled without a call
    settled_kept : (given : Settled) → (open_conn_settled given conn).payloads ≡ conn.payloads → (open_conn_settled given conn).held ≡ conn.held
        → (open_conn_settled given conn).cause ≡ None → [] ≡ open_marks_settled c given → Done d es before → NeedsNoCall (d.decide p)
        → reply_for d p (d.decide p) None ≡ (open_conn_settled given conn).left → Collected given
    settled_kept given payloads held still_open marks done needs reply =
        by_collect given World.settles (open_ (reply_for d p (d.decide p) None)) (before, p, last_of_endpoint, pending_here done, needs, refl) marks payloads held
        (subst (λ k. Rests k (open_conn_settled given conn).left (open_ (reply_for d p (d.decide p) None))) (sym still_open) (ap open_ reply))

    decided_kept : (decision : DeskDecision C) → d.decide p ≡ decision → Done d es before → settled_by decision ≡ Some settled → Collected settled
    decided_kept (Close fault) e done m =
        subst Collected (same_Some (Refused fault) settled m)
        (by_collect (Refused fault) (World.closes fault) (over (Envelope fault)) (before, p, last_of_endpoint, pending_here done, e, refl) refl refl refl refl)
    decided_kept Silent e done m =
        subst Collected (same_Some Nothing settled m)
        (settled_kept Nothing refl refl none refl done (subst NeedsNoCall (sym e) tt) (ap (λ k. reply_for d p k None) e ∙ sym u.none_left))
    decided_kept (Reply reply) e done m =
        subst Collected (same_Some (Replied reply) settled m)
        (settled_kept (Replied reply) refl refl none refl done (subst NeedsNoCall (sym e) tt) (ap (λ k. reply_for d p k None) e))
    decided_kept (Invoke call) e done m = absurd (none-some settled m)

    -- it is settled by its call's answer
    replied_kept : (answer : A) (given : Settled) → (open_conn_settled given conn).payloads ≡ conn.payloads → (open_conn_settled given conn).held ≡ conn.held
        → (open_conn_settled given conn).cause ≡ None → [] ≡ open_marks_settled c given → (t : IsEntered d es before p answer)
        → replied d p t.0 (Some answer) ≡ (open_conn_settled given conn).left → Collected given
    replied_kept answer given payloads held still_open marks t reply =
        let reply_now : List ℕ = reply_for d p (d.decide p) (answer_at (entries_of c s.world.journal) (length before)) in
        let same : reply_now ≡ replied d p t.0 (Some answer) =
        (λ i. reply_for d p (t.1 i) (answer_at (entries_of c (s.journal i)) (length before))) ∙ ap (replied d p t.0) t.3 in
        by_collect given World.replies (open_ reply_now) (before, p, last_of_endpoint, answered_here answer t, refl) marks payloads held
        (subst (λ k. Rests k (open_conn_settled given conn).left (open_ reply_now)) (sym still_open) (ap open_ (same ∙ reply)))

    answered_kept : (answer : A) (t : IsEntered d es before p answer) → settled_with d p answer (d.decide p) ≡ Some settled → Collected settled
    answered_kept answer t m = go (d.silent t.0) refl
      where
        go : (b : Bool) → d.silent t.0 ≡ b → Collected settled
        go true e =
            subst Collected
            (same_Some Nothing settled (sym (ap (settled_with d p answer) t.1 ∙ ap (λ b. if b then Some Nothing else Some (Replied (d.reply p answer))) e) ∙ m))
            (replied_kept answer Nothing refl refl none refl t (ap (λ b. if b then [] else d.reply p answer) e ∙ sym u.none_left))
        go false e =
            subst Collected
            (same_Some (Replied (d.reply p answer)) settled (sym (ap (settled_with d p answer) t.1 ∙ ap (λ b. if b then Some Nothing else Some (Replied (d.reply p answer))) e) ∙ m))
            (replied_kept answer (Replied (d.reply p answer)) refl refl none refl t (ap (λ b. if b then [] else d.reply p answer) e))

    outcome_kept : IsOutcome d es before p settled → Collected settled
    outcome_kept (inl t) = by_decision t.1
      where
        by_decision : (settled_by (d.decide p) ≡ Some settled) ⊎ (settled ≡ NoMemory) → Collected settled
        by_decision (inl m) = decided_kept (d.decide p) refl t.0 m
        by_decision (inr m) = subst Collected (sym m) (no_memory_kept (inl t.0))
    outcome_kept (inr t) = by_answer t.2
      where
        by_answer : (settled_with d p t.0 (d.decide p) ≡ Some settled) ⊎ (settled ≡ NoMemory) → Collected settled
        by_answer (inl m) = answered_kept t.0 t.1 m
        by_answer (inr m) = subst Collected (sym m) (no_memory_kept (inr (t.0, t.1)))

  pub collect_kept : (cause : Option EndCause) → conn.cause ≡ cause
      → Sim d r opening (record old { loop = changed old.loop c (conn_settled cause settled conn) (conn_marks_settled cause c settled); hall = hall })
  collect_kept None e = let a : At (put_out settled) = at_put in outcome_kept e a.0 a.1 a.2 a.6
  collect_kept (Some cause) e = ended_kept cause e

module _ {C A M : Type 0} (d : DeskRules C A) (r : ServiceRules C A M) (opening : List M)
    (all : (acts : List (Act C A)) (world : World C A) → ReachedBy d r opening acts world → Moment d r opening world) where
  -- Collect
  pub collects_kept : (old : Cell C A M) (s : Sim d r opening old) (answer : HallAnswer A) (new : HallState C A M) → CollectGives old.hall answer new
      → Sim d r opening (record old { loop = after_collect old.loop answer; hall = new })
  collects_kept old s (outcome key settled) new g =
      let given : HallAnswer A = outcome key settled in
      subst (λ h. Sim d r opening (record old { loop = after_collect old.loop given; hall = h })) (sym g.2)
      (collect_kept d r opening all old s key settled g.0 g.1 (old.loop.conns key.c).cause refl)
  collects_kept old s empty new g = subst (λ h. Sim d r opening (record old { hall = h })) (sym g.2) s
  collects_kept old s is_closed new g = subst (λ h. Sim d r opening (record old { hall = h })) (sym g.2) s
  collects_kept old s _ new g = absurd g
