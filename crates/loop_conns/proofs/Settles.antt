-- An outcome was collected: its connection writes a reply, reads on, or has ended, and the loop goes on.
use Rattle.std.proofs.Common.{◌≡◌, ◌≢◌, ℕ, suc, ◌+◌, ◌<◌, ◌≤◌, Option, None, Some, IsSome, List, [], ◌∷◌, ◌++◌, length, slice_index_or, slice_set, refl, sym, ap, ◌∙◌, subst, arith}
use Rattle.std.proofs.lemmas.Option.{none-some, same_Some}
use Rattle.streams.specs.declared.outcomes.Settled.{Settled}
use Rattle.streams.specs.declared.outcomes.Settled.TheVariants.{Reply, Nothing, Close, NoMemory as NoRoom}
use Rattle.streams.specs.declared.marks.Mark.TheVariants.{Closed}
use Rattle.outside.specs.LinksState.{LinksState}
use Rattle.outside.specs.Closing.{Closes}
use Rattle.host_model.specs.declared.key.Key.{Key}
use Rattle.host_model.specs.declared.cause.EndCause.{EndCause}
use Rattle.host_model.specs.declared.cause.EndCause.TheVariants.{Envelope, NoMemory, Stopped}
use Rattle.conn_state.specs.Phase.{Phase, ConnView, sizing, held, framing, ready, waiting, writing, ended, cause_of, left_to_write, IsWaiting}
use Rattle.conn_state.specs.Step.{after_answer}
use Rattle.conn_table.specs.Slots.{slot_in}
use Rattle.conn_table.specs.Table.{TableView, slot_of, with_state, with_size, HasItsSize, TakesRoom}
use Rattle.call_history.specs.Calls.{seat_ask}
use Rattle.machine_model.specs.HallRule.{collect, outcome}
use Rattle.machine_model.specs.OwnCalls.{summed_calls}
use Rattle.machine_model.specs.OwnLoop.{refuses_job, CollectsItsOwn}
use Rattle.machine_model.specs.Loop.{LoopConn, Loop, changed, open_conn_settled, open_marks_settled, conn_settled, conn_marks_settled}
use Rattle.machine_model.specs.AtFronts.{size_begun, begun_if_open}
use Rattle.machine_model.specs.Merge.{calls, Weaves}
use Rattle.machine_model.proofs.Owning.{number_push}
use Rattle.machine_model.proofs.Minding.{answered_is_own}
use Rattle.conn_refinement.specs.Phases.{HoldsNothing, PhaseTells, IsOpenTied, IsLean}
use Rattle.conn_refinement.specs.Tables.{IsSameBut}
use Rattle.conn_refinement.proofs.Tables.{no_bytes, but_then, idle_answer, state_there, state_is, state_size, state_but, size_there, size_state, size_is, size_but}
use Rattle.loop_conns.specs.declared.connections.ConnStage.{ConnStage}
use Rattle.loop_conns.specs.declared.connections.ConnStage.TheVariants.{Lean, Laden, Gone}
use Rattle.loop_conns.specs.declared.connections.LoopConnections.{LoopConnections}
use Rattle.loop_conns.specs.Tied.{CauseShows, StageTells, IsOrderly}
use Rattle.loop_conns.specs.Woven.{ServedAsk, owed_by, all_owing, LoopIsRunning}
use Rattle.loop_conns.specs.Ended.{EndsConnection}
use Rattle.loop_conns.specs.Going.{collected_behind, some_reply}
use Rattle.loop_conns.proofs.Ordering.{state_orderly, freed_orderly}
use Rattle.loop_conns.proofs.Tying.{set_at, same_at, ChangesOne}
use Rattle.loop_conns.proofs.Standing.{Standing, standing}
use Rattle.loop_conns.proofs.Owing.{owes_none, owes_outcome, owes_bytes}
use Rattle.loop_conns.proofs.Going.{begun_less, change_goes}
use Rattle.loop_conns.proofs.TakingIn.{small_max, ended_change}
use Rattle.loop_conns.proofs.Leaving.{moves_none}
use Rattle.loop_conns.proofs.Replying.{one_of_sum}
use Rattle.call_rules.specs.Desks.{longest_payload}

-- a connection whose outcome is awaited: the last of its payloads is submitted and not collected
pub record IsAwaited (links : LinksState) (kept : LoopConnections) (loop : Loop) (c : ℕ) : Type 0 where
  pub stands : Standing links kept loop c
  pub waits : IsWaiting (slot_of c kept.table.slots).conn.phase
  pub size : IsSome (slot_of c kept.table.slots).size
  pub nothing : HoldsNothing (loop.conns c)
  pub submitted : (loop.conns c).submitted ≡ length (loop.conns c).payloads
  pub collected : suc (loop.conns c).collected ≡ length (loop.conns c).payloads

-- what has submitted all and not collected all waits
waits_by : (max : ℕ) (phase : Phase) (conn : LoopConn) → PhaseTells max phase conn → conn.submitted ≡ length conn.payloads → suc conn.collected ≡ length conn.payloads → IsWaiting phase × HoldsNothing conn
waits_by max (waiting number) conn t all one = (tt, t.0)
waits_by max (sizing bytes) conn t all one = absurd (let k : conn.collected ≡ length conn.payloads = t.0.1 in let f : ⊥ = omega arith in f)
waits_by max (held size) conn t all one = absurd (let k : conn.collected ≡ length conn.payloads = t.0.1 in let f : ⊥ = omega arith in f)
waits_by max (framing size bytes) conn t all one = absurd (let k : conn.collected ≡ length conn.payloads = t.0.1 in let f : ⊥ = omega arith in f)
waits_by max (writing left) conn t all one = absurd (let k : conn.collected ≡ length conn.payloads = t.0.1 in let f : ⊥ = omega arith in f)
waits_by max (ready number payload) conn t all one =
    absurd (let k : conn.submitted ≡ number = t.1 in let l : length conn.payloads ≡ suc number = t.3 in let f : ⊥ = omega arith in f)
waits_by max (ended cause) conn t all one = absurd t

waiting_size : (phase : Phase) (size : Option ℕ) → IsWaiting phase → HasItsSize phase size → IsSome size
waiting_size (waiting number) size waits h = h
waiting_size (sizing bytes) size waits h = absurd waits
waiting_size (held n) size waits h = absurd waits
waiting_size (framing n bytes) size waits h = absurd waits
waiting_size (ready number payload) size waits h = absurd waits
waiting_size (writing left) size waits h = absurd waits
waiting_size (ended cause) size waits h = absurd waits

waiting_laden : (phase : Phase) → IsWaiting phase → IsLean phase → ⊥
waiting_laden (waiting number) waits lean = lean
waiting_laden (sizing bytes) waits lean = waits
waiting_laden (held n) waits lean = waits
waiting_laden (framing n bytes) waits lean = waits
waiting_laden (ready number payload) waits lean = waits
waiting_laden (writing left) waits lean = waits
waiting_laden (ended cause) waits lean = waits

-- An outcome that a loop which goes on has just collected is that of a connection that waits.
module _ (max : ℕ) (first links : LinksState) (kept : LoopConnections) (asks : List ServedAsk) (g : LoopIsRunning max first links kept asks) (key : Key) (settled : Settled)
    (own : CollectsItsOwn (collected_behind asks key settled)) where
  abbrev its_conn : LoopConn
  its_conn = g.loop.conns key.c

  numbers : (key.c < g.loop.count) × (key.i ≡ its_conn.collected) × (its_conn.submitted ≡ suc key.i) × (length its_conn.payloads ≡ suc key.i)
  numbers =
      answered_is_own max g.so_far.weave g.loop key settled g.so_far.woven
      (subst (λ a. CollectsItsOwn (a ++ seat_ask 0 collect (outcome key settled) ∷ [])) (sym g.so_far.asked) own)

  all : its_conn.submitted ≡ length its_conn.payloads
  all = numbers.2 ∙ sym numbers.3

  one : suc its_conn.collected ≡ length its_conn.payloads
  one = ap suc (sym numbers.1) ∙ sym numbers.3

  going : its_conn.cause ≡ None
  going = go its_conn.cause refl
    where
      go : (o : Option EndCause) → its_conn.cause ≡ o → its_conn.cause ≡ None
      go None e = e
      go (Some why) e = absurd (
          let k : its_conn.collected ≡ length its_conn.payloads = g.none_left key.c numbers.0 (λ n. none-some why (sym n ∙ e)) in
          let l : suc its_conn.collected ≡ length its_conn.payloads = one in
          let f : ⊥ = omega arith in f)

  is_open : slice_index_or kept.stages.items key.c Gone ≢ Gone
  is_open e =
      none-some (slice_index_or kept.causes.items key.c Stopped)
      (sym going ∙ (subst (λ place. StageTells first links kept.table key.c its_conn (slice_index_or kept.causes.items key.c Stopped) place) e (g.so_far.tied.each key.c numbers.0)).ended)

  phase : IsWaiting (slot_of key.c kept.table.slots).conn.phase × HoldsNothing its_conn
  phase = waits_by max (slot_of key.c kept.table.slots).conn.phase its_conn (g.phases key.c numbers.0 going).tells all one

  size_at : (place : ConnStage) → StageTells first links kept.table key.c its_conn (slice_index_or kept.causes.items key.c Stopped) place → IsSome (slot_of key.c kept.table.slots).size
  size_at Lean h = absurd (waiting_laden (slot_of key.c kept.table.slots).conn.phase phase.0 h.1)
  size_at Laden h = waiting_size (slot_of key.c kept.table.slots).conn.phase (slot_of key.c kept.table.slots).size phase.0 h.2
  size_at Gone h = absurd (none-some (slice_index_or kept.causes.items key.c Stopped) (sym going ∙ h.ended))

  pub awaited : IsAwaited links kept g.loop key.c
  awaited =
      record {
        stands = standing first links kept g.loop key.c g.so_far.tied is_open;
        waits = phase.0;
        size = size_at (slice_index_or kept.stages.items key.c Gone) (g.so_far.tied.each key.c numbers.0);
        nothing = phase.1;
        submitted = all;
        collected = one;
      }

  one_owed : owed_by its_conn.cause its_conn ≡ 1
  one_owed =
      ap (λ o. owed_by o its_conn) going
      ∙ owes_outcome its_conn
      (λ e. let k : its_conn.collected ≡ length its_conn.payloads = e in let l : suc its_conn.collected ≡ length its_conn.payloads = one in let f : ⊥ = omega arith in f)

  -- so one can be taken off
  pub some_awaited : 1 ≤ kept.owing
  some_awaited =
      let f : LoopConn → ℕ = λ k. owed_by k.cause k in
      let sum : kept.owing ≡ all_owing g.loop = g.owing in
      let part : f its_conn ≤ all_owing g.loop = one_of_sum f g.loop.conns key.c g.loop.count numbers.0 in
      let a : owed_by its_conn.cause its_conn ≡ 1 = one_owed in
      omega arith

-- The outcome in the table: its payload takes no room any more, and its size is still to be given back.
module _ (c : ℕ) (told : Settled) (old mid : TableView) (there : IsSome (slot_in c old.slots))
    (answered : mid ≡ record old { slots = with_state c (record (slot_of c old.slots).conn { phase = after_answer told }) old.slots }) where
  abbrev told_view : ConnView
  told_view = record (slot_of c old.slots).conn { phase = after_answer told }

  pub idle_now : TakesRoom (slot_of c mid.slots).conn.phase → ⊥
  idle_now = subst (λ (v : ConnView). TakesRoom v.phase → ⊥) (sym (state_is c told_view old mid there answered)) (idle_answer told)

  pub size_still : IsSome (slot_of c old.slots).size → IsSome (slot_of c mid.slots).size
  size_still = subst (λ (o : Option ℕ). IsSome o) (sym (state_size c told_view old mid there answered))

-- The outcome in the table, and the size given back.
pub record HasAnswered (c : ℕ) (told : Settled) (old mid new : TableView) : Type 0 where
  pub there : IsSome (slot_in c old.slots)
  pub answered : mid ≡ record old { slots = with_state c (record (slot_of c old.slots).conn { phase = after_answer told }) old.slots }
  pub released : new ≡ record mid { slots = with_size c None mid.slots }

module _ (c : ℕ) (told : Settled) (old mid new : TableView) (h : HasAnswered c told old mid new) where
  abbrev view : ConnView
  view = record (slot_of c old.slots).conn { phase = after_answer told }

  mid_there : IsSome (slot_in c mid.slots)
  mid_there = state_there c view old mid h.there h.answered

  pub answered_there : IsSome (slot_in c new.slots)
  answered_there = size_there c None mid new mid_there h.released

  pub answered_state : (slot_of c new.slots).conn ≡ record (slot_of c old.slots).conn { phase = after_answer told }
  answered_state = size_state c None mid new mid_there h.released ∙ state_is c view old mid h.there h.answered

  pub answered_size : (slot_of c new.slots).size ≡ None
  answered_size = size_is c None mid new mid_there h.released

  pub answered_but : IsSameBut c old new
  answered_but = but_then c old mid new (state_but c view old mid h.there h.answered) (size_but c None mid new mid_there h.released)

  pub answered_orderly : IsOrderly old → IsOrderly new
  answered_orderly o = freed_orderly c mid new mid_there h.released (state_orderly c view old mid h.there h.answered o)

-- what one more outcome makes of a connection's numbers
record OneMore (conn now : LoopConn) : Type 0 where
  pub payloads : now.payloads ≡ conn.payloads
  pub submitted : now.submitted ≡ conn.submitted
  pub collected : now.collected ≡ suc conn.collected
  pub same : now.held ≡ conn.held

one_more : (settled : Settled) (conn : LoopConn) → OneMore conn (open_conn_settled settled conn)
one_more (Reply reply) conn = record { payloads = refl; submitted = refl; collected = refl; same = refl }
one_more Nothing conn = record { payloads = refl; submitted = refl; collected = refl; same = refl }
one_more (Close fault) conn = record { payloads = refl; submitted = refl; collected = refl; same = refl }
one_more NoRoom conn = record { payloads = refl; submitted = refl; collected = refl; same = refl }

-- an outcome that ends its connection
record EndsBy (c : ℕ) (settled : Settled) (why : EndCause) (conn : LoopConn) : Type 0 where
  pub over : (open_conn_settled settled conn).cause ≡ Some why
  pub marks : open_marks_settled c settled ≡ Closed c ∷ []
  pub unstopped : why ≢ Stopped
  pub shows : (first links : LinksState) → CauseShows first links c why

ends_so : (c : ℕ) (settled : Settled) (why : EndCause) (conn : LoopConn) → cause_of (after_answer (some_reply settled)) ≡ Some why → EndsBy c settled why conn
ends_so c (Reply []) why conn e = absurd (none-some why e)
ends_so c (Reply (byte ∷ reply)) why conn e = absurd (none-some why e)
ends_so c Nothing why conn e = absurd (none-some why e)
ends_so c (Close fault) why conn e =
    let same : Envelope fault ≡ why = same_Some (Envelope fault) why e in
    record { over = e; marks = refl; unstopped = subst (λ (x : EndCause). x ≢ Stopped) same (λ f. cc); shows = λ first links. subst (CauseShows first links c) same tt }
ends_so c NoRoom why conn e =
    let same : NoMemory ≡ why = same_Some NoMemory why e in
    record { over = e; marks = refl; unstopped = subst (λ (x : EndCause). x ≢ Stopped) same (λ f. cc); shows = λ first links. subst (CauseShows first links c) same tt }

-- one that leaves it open
record LeavesOpen (max c : ℕ) (settled : Settled) (conn : LoopConn) : Type 0 where
  pub lean : IsLean (after_answer (some_reply settled))
  pub going : (open_conn_settled settled conn).cause ≡ None
  pub tells : PhaseTells max (after_answer (some_reply settled)) (open_conn_settled settled conn)
  pub marks : open_marks_settled c settled ≡ []
  pub left : (open_conn_settled settled conn).left ≡ left_to_write (after_answer (some_reply settled))

leaves_open : (max c : ℕ) (settled : Settled) (conn : LoopConn) → conn.cause ≡ None → HoldsNothing conn → conn.submitted ≡ length conn.payloads → suc conn.collected ≡ length conn.payloads
    → cause_of (after_answer (some_reply settled)) ≡ None → LeavesOpen max c settled conn
leaves_open max c (Reply []) conn going nothing all one e =
    record { lean = tt; going = going; tells = ((all, one), nothing.0, omega arith, refl, no_bytes); marks = refl; left = refl }
leaves_open max c (Reply (byte ∷ reply)) conn going nothing all one e =
    record {
      lean = tt;
      going = going;
      tells = ((all, one), nothing.0, refl, λ f. let k : suc (length reply) ≡ 0 = ap length f in let b : ⊥ = omega arith in b);
      marks = refl;
      left = refl;
    }
leaves_open max c Nothing conn going nothing all one e =
    record { lean = tt; going = going; tells = ((all, one), nothing.0, omega arith, nothing.1, no_bytes); marks = refl; left = nothing.1 }
leaves_open max c (Close fault) conn going nothing all one e = absurd (none-some (Envelope fault) (sym e))
leaves_open max c NoRoom conn going nothing all one e = absurd (none-some NoMemory (sym e))

-- The loop goes on with the outcome.
module _ (max : ℕ) (small : max ≤ longest_payload) (first before : LinksState) (old : LoopConnections) (asks : List ServedAsk) (g : LoopIsRunning max first before old asks) (key : Key) (settled told : Settled)
    (told_is : told ≡ some_reply settled) (own : CollectsItsOwn (collected_behind asks key settled)) (mid table : TableView) (h : HasAnswered key.c told old.table mid table) where
  abbrev conn : LoopConn
  conn = g.loop.conns key.c

  abbrev now : LoopConn
  now = open_conn_settled settled (g.loop.conns key.c)

  abbrev ask : ServedAsk
  ask = seat_ask 0 collect (outcome key settled)

  at : IsAwaited before old g.loop key.c
  at = awaited max first before old asks g key settled own

  more : OneMore conn now
  more = one_more settled conn

  -- what the machine makes of it
  weaves : Weaves max g.loop (calls ask ∷ []) (changed g.loop key.c now (open_marks_settled key.c settled))
  weaves = (
    changed g.loop key.c now (open_marks_settled key.c settled),
    ap (λ o. changed g.loop key.c (conn_settled o settled conn) (conn_marks_settled o key.c settled)) (sym at.stands.here.going),
    refl,
  )

  none_refused : summed_calls refuses_job (asks ++ ask ∷ []) ≡ 0
  none_refused =
      let p : summed_calls refuses_job (asks ++ ask ∷ []) ≡ summed_calls refuses_job asks + 0 = number_push refuses_job asks ask in
      let q : summed_calls refuses_job asks ≡ 0 = g.taken in
      omega arith

  all_now : now.collected ≡ length now.payloads
  all_now = more.collected ∙ at.collected ∙ sym (ap length more.payloads)

  owed_before : owed_by conn.cause conn ≡ 1
  owed_before = one_owed max first before old asks g key settled own

  -- It has ended.
  pub settles_over : (links : LinksState) (new : LoopConnections) (why : EndCause) → cause_of (slot_of key.c table.slots).conn.phase ≡ Some why → EndsConnection key.c why (record old { table = table }) new
      → new.owing + 1 ≡ old.owing → Closes key.c before links → LoopIsRunning max first links new (collected_behind asks key settled)
  settles_over links new why is here owing closed =
      let by : EndsBy key.c settled why conn =
      ends_so key.c settled why conn
      (ap (λ s. cause_of (after_answer s)) (sym told_is) ∙ sym (ap (λ (v : ConnView). cause_of v.phase) (answered_state key.c told old.table mid table h)) ∙ is) in
      change_goes max (small_max max small) first before links old new asks g (calls ask) key.c now Gone why (open_marks_settled key.c settled)
      (record {
        below = at.stands.below;
        one = weaves;
        change =
            subst (λ m. ChangesOne key.c Gone why m [] before links old new) (sym by.marks)
            (ended_change key.c why [] [] before before links old table new (answered_but key.c told old.table mid table h) (answered_orderly key.c told old.table mid table h)
            at.stands.known (moves_none key.c before) here closed);
        tells = record { gone = here.gone; link = closed.closed; ended = by.over; shows = by.shows first links };
        less = begun_less g.loop key.c now (open_marks_settled key.c settled) old.table.budget at.stands.below g.so_far.within.now
            (let e : begun_if_open now.cause now.held ≡ 0 = ap (λ o. begun_if_open o now.held) by.over in omega arith);
      })
      (record {
        phase = λ e. absurd (none-some why (sym e ∙ by.over));
        behind = λ n. all_now;
        unstopped = λ e. by.unstopped (same_Some why Stopped (sym by.over ∙ e));
        owing =
            let a : owed_by conn.cause conn ≡ 1 = owed_before in
            let b : owed_by now.cause now ≡ 0 = ap (λ o. owed_by o now) by.over in
            let d : new.owing + 1 ≡ old.owing = owing in
            omega arith;
      })
      none_refused

  -- It is open.
  left_by : cause_of (slot_of key.c table.slots).conn.phase ≡ None → LeavesOpen max key.c settled conn
  left_by none =
      leaves_open max key.c settled conn at.stands.here.going at.nothing at.submitted at.collected
      (ap (λ s. cause_of (after_answer s)) (sym told_is) ∙ sym (ap (λ (v : ConnView). cause_of v.phase) (answered_state key.c told old.table mid table h)) ∙ none)

  state_now : (slot_of key.c table.slots).conn ≡ record (slot_of key.c old.table.slots).conn { phase = after_answer (some_reply settled) }
  state_now = answered_state key.c told old.table mid table h ∙ ap (λ s. let view : ConnView = record (slot_of key.c old.table.slots).conn { phase = after_answer s } in view) told_is

  settles_open : (new : LoopConnections) → new.table ≡ table → new.stages.items ≡ slice_set old.stages.items key.c Lean → new.causes ≡ old.causes
      → LeavesOpen max key.c settled conn → new.owing + 1 ≡ old.owing + owed_by None now → LoopIsRunning max first before new (collected_behind asks key settled)
  settles_open new is stages causes by owing =
      let phase : IsOpenTied max (slot_of key.c table.slots).conn now =
      subst (λ (v : ConnView). IsOpenTied max v now) (sym state_now)
      (record { going = by.going; counted = (g.phases key.c at.stands.below at.stands.here.going).counted ∙ sym (ap length more.payloads); tells = by.tells }) in
      change_goes max (small_max max small) first before before old new asks g (calls ask) key.c now Lean (slice_index_or old.causes.items key.c Stopped) (open_marks_settled key.c settled)
      (record {
        below = at.stands.below;
        one = weaves;
        change =
            subst (λ m. ChangesOne key.c Lean (slice_index_or old.causes.items key.c Stopped) m [] before before old new) (sym by.marks)
            (record {
              links = moves_none key.c before;
              table = subst (λ (t : TableView). IsSameBut key.c old.table t) (sym is) (answered_but key.c told old.table mid table h);
              orderly = λ o. subst IsOrderly (sym is) (answered_orderly key.c told old.table mid table h o);
              stages = set_at Gone key.c Lean old.stages.items new.stages.items at.stands.known.0 stages;
              causes =
                  same_at Stopped key.c (slice_index_or old.causes.items key.c Stopped) old.causes.items new.causes.items (ap (λ v. v.items) causes) refl;
            });
        tells =
            subst (λ (t : TableView). StageTells first before t key.c now (slice_index_or old.causes.items key.c Stopped) Lean) (sym is) (
              record { there = answered_there key.c told old.table mid table h; link = at.stands.here.link; going = by.going; stopped = at.stands.here.stopped },
              subst (λ (v : ConnView). IsLean v.phase) (sym state_now) by.lean,
              answered_size key.c told old.table mid table h,
            );
        less = begun_less g.loop key.c now (open_marks_settled key.c settled) old.table.budget at.stands.below g.so_far.within.now
            (let e : begun_if_open now.cause now.held ≡ 0 = ap (λ o. begun_if_open o now.held) by.going ∙ ap size_begun (more.same ∙ at.nothing.0) in omega arith);
      })
      (record {
        phase = λ e. subst (λ (t : TableView). IsOpenTied max (slot_of key.c t.slots).conn now) (sym is) phase;
        behind = λ n. absurd (n by.going);
        unstopped = λ e. absurd (none-some Stopped (sym by.going ∙ e));
        owing =
            let a : owed_by conn.cause conn ≡ 1 = owed_before in
            let b : owed_by now.cause now ≡ owed_by None now = ap (λ o. owed_by o now) by.going in
            let d : new.owing + 1 ≡ old.owing + owed_by None now = owing in
            omega arith;
      })
      none_refused

  left_is : LeavesOpen max key.c settled conn → now.left ≡ left_to_write (slot_of key.c table.slots).conn.phase
  left_is by = by.left ∙ sym (ap (λ (v : ConnView). left_to_write v.phase) state_now)

  -- Nothing is left to be written.
  pub settles_done : (new : LoopConnections) → new.table ≡ table → new.stages.items ≡ slice_set old.stages.items key.c Lean → new.causes ≡ old.causes
      → cause_of (slot_of key.c table.slots).conn.phase ≡ None → left_to_write (slot_of key.c table.slots).conn.phase ≡ [] → new.owing + 1 ≡ old.owing
      → LoopIsRunning max first before new (collected_behind asks key settled)
  settles_done new is stages causes none nothing owing =
      let by : LeavesOpen max key.c settled conn = left_by none in
      settles_open new is stages causes by (let z : owed_by None now ≡ 0 = owes_none now all_now (left_is by ∙ nothing) in let d : new.owing + 1 ≡ old.owing = owing in omega arith)

  -- A reply is.
  pub settles_writing : (new : LoopConnections) → new.table ≡ table → new.stages.items ≡ slice_set old.stages.items key.c Lean → new.causes ≡ old.causes
      → cause_of (slot_of key.c table.slots).conn.phase ≡ None → left_to_write (slot_of key.c table.slots).conn.phase ≢ [] → new.owing ≡ old.owing
      → LoopIsRunning max first before new (collected_behind asks key settled)
  settles_writing new is stages causes none some owing =
      let by : LeavesOpen max key.c settled conn = left_by none in
      settles_open new is stages causes by
      (let z : owed_by None now ≡ 1 = owes_bytes now all_now (λ e. some (sym (left_is by) ∙ e)) in let d : new.owing ≡ old.owing = owing in omega arith)
