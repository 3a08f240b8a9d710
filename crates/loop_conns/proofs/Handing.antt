-- A payload is handed out: the loop may submit it, and goes on where the hall takes it.
use Rattle.std.proofs.Common.{◌≡◌, ◌≢◌, ℕ, suc, ◌+◌, ◌≤◌, None, List, [], ◌∷◌, ◌++◌, length, slice_index_or, refl, sym, ap, ◌∙◌, subst, arith}
use Rattle.std.proofs.lemmas.Option.{none-some}
use Rattle.outside.specs.LinksState.{LinksState}
use Rattle.host_model.specs.declared.cause.EndCause.{EndCause}
use Rattle.host_model.specs.declared.cause.EndCause.TheVariants.{Stopped}
use Rattle.conn_state.specs.Phase.{ConnView, ready, waiting}
use Rattle.conn_table.specs.Table.{TableView, slot_of, with_state, HasItsSize}
use Rattle.conn_table.proofs.Placing.{has_value}
use Rattle.call_history.specs.Calls.{seat_ask}
use Rattle.call_rules.specs.PlainCalls.{PlainCall, PlainAnswer}
use Rattle.call_rules.specs.Handling.{ServiceState, handler_rules}
use Rattle.machine_model.specs.HallState.{HallState, key_of}
use Rattle.machine_model.specs.HallRule.{HallAnswer, submit, done, is_closed}
use Rattle.machine_model.specs.OwnCalls.{summed_calls, OwnAsksAllow}
use Rattle.machine_model.specs.OwnLoop.{refuses_job, CollectsItsOwn}
use Rattle.machine_model.specs.Loop.{LoopConn, Loop, changed, submitted_more, after_submit, LoopAsks}
use Rattle.machine_model.specs.Merge.{calls}
use Rattle.machine_model.proofs.Owning.{number_push}
use Rattle.machine_model.proofs.Minding.{may_submit}
use Rattle.conn_refinement.specs.Phases.{PhaseTells, IsOpenTied, IsLean}
use Rattle.conn_refinement.proofs.Tables.{state_there, state_is, state_size, state_but}
use Rattle.loop_conns.specs.declared.connections.ConnStage.{ConnStage}
use Rattle.loop_conns.specs.declared.connections.ConnStage.TheVariants.{Lean, Laden, Gone}
use Rattle.loop_conns.specs.declared.connections.LoopConnections.{LoopConnections}
use Rattle.loop_conns.specs.Tied.{IsLaden, IsOpenOnLinks, StageTells}
use Rattle.loop_conns.specs.Woven.{ServedAsk, owed_by, HasWoven, LoopIsRunning}
use Rattle.loop_conns.specs.Going.{IsHandedOut}
use Rattle.loop_conns.proofs.Ordering.{state_orderly}
use Rattle.loop_conns.proofs.Tying.{same_at, ChangesOne}
use Rattle.loop_conns.proofs.Standing.{Standing, standing}
use Rattle.loop_conns.proofs.Going.{begun_less, change_woven, change_goes}
use Rattle.loop_conns.proofs.TakingIn.{small_max}
use Rattle.loop_conns.proofs.Leaving.{moves_none}
use Rattle.loop_conns.proofs.Resting.{same_loop}
use Rattle.call_rules.specs.Desks.{longest_payload}

-- one whose payload was whole has its size still, now that its outcome is awaited
handed_place : (first links : LinksState) (t0 t1 : TableView) (c number : ℕ) (payload : List ℕ) (conn now : LoopConn) (cause : EndCause) (place : ConnStage)
    → (slot_of c t0.slots).conn.phase ≡ ready number payload → (slot_of c t1.slots).conn.phase ≡ waiting number → (slot_of c t1.slots).size ≡ (slot_of c t0.slots).size
    → StageTells first links t0 c conn cause place → (place ≡ Gone → ⊥) → IsOpenOnLinks links t1 c now cause → StageTells first links t1 c now cause place
handed_place first links t0 t1 c number payload conn now cause Lean was is size h n here = absurd (subst IsLean was h.1)
handed_place first links t0 t1 c number payload conn now cause Laden was is size h n here = (
  here,
  subst IsLaden (sym is) tt,
  subst (λ p. HasItsSize p (slot_of c t1.slots).size) (sym is)
      (has_value (slot_of c t1.slots).size (length payload) (size ∙ subst (λ p. HasItsSize p (slot_of c t0.slots).size) was h.2)),
)
handed_place first links t0 t1 c number payload conn now cause Gone was is size h n here = absurd (n refl)

module _ (max : ℕ) (small : max ≤ longest_payload) (first links : LinksState) (old new : LoopConnections) (asks : List ServedAsk) (g : LoopIsRunning max first links old asks) (c number : ℕ)
    (payload : List ℕ) (open_at : slice_index_or old.stages.items c Gone ≢ Gone) (given : (slot_of c old.table.slots).conn.phase ≡ ready number payload)
    (after : new.table ≡ record old.table { slots = with_state c (record (slot_of c old.table.slots).conn { phase = waiting number }) old.table.slots }) (stages : new.stages ≡ old.stages)
    (causes : new.causes ≡ old.causes) (owing : new.owing ≡ old.owing) where
  st : Standing links old g.loop c
  st = standing first links old g.loop c g.so_far.tied open_at

  abbrev conn : LoopConn
  conn = g.loop.conns c

  abbrev view : ConnView
  view = record (slot_of c old.table.slots).conn { phase = waiting number }

  abbrev ask_with : HallAnswer PlainAnswer → ServedAsk
  ask_with answer = seat_ask 0 (submit (key_of c number) payload) answer

  tied : IsOpenTied max (slot_of c old.table.slots).conn conn
  tied = g.phases c st.below st.here.going

  told : PhaseTells max (ready number payload) conn
  told = subst (λ p. PhaseTells max p conn) given tied.tells

  state : (slot_of c new.table.slots).conn ≡ view
  state = state_is c view old.table new.table st.here.there after

  -- what the loop asks
  asks_so : (answer : HallAnswer PlainAnswer) (next : Loop) → next ≡ after_submit g.loop c answer → LoopAsks {C = PlainCall} g.loop (submit (key_of c number) payload) answer next
  asks_so answer next is = (st.below, sym told.1, told.4, is)

  -- the change of its connection, whatever the machine's is then
  change : ChangesOne c (slice_index_or old.stages.items c Gone) (slice_index_or old.causes.items c Stopped) [] [] links links old new
  change =
      record {
        links = moves_none c links;
        table = state_but c view old.table new.table st.here.there after;
        orderly = state_orderly c view old.table new.table st.here.there after;
        stages = same_at Gone c (slice_index_or old.stages.items c Gone) old.stages.items new.stages.items (ap (λ v. v.items) stages) refl;
        causes = same_at Stopped c (slice_index_or old.causes.items c Stopped) old.causes.items new.causes.items (ap (λ v. v.items) causes) refl;
      }

  tells : (now : LoopConn) → now.cause ≡ None → StageTells first links new.table c now (slice_index_or old.causes.items c Stopped) (slice_index_or old.stages.items c Gone)
  tells now going =
      handed_place first links old.table new.table c number payload conn now (slice_index_or old.causes.items c Stopped) (slice_index_or old.stages.items c Gone) given
      (ap (λ (v : ConnView). v.phase) state) (state_size c view old.table new.table st.here.there after) (g.so_far.tied.each c st.below) open_at
      (record { there = state_there c view old.table new.table st.here.there after; link = st.here.link; going = going; stopped = st.here.stopped })

  -- The hall has taken it.
  taken_goes : LoopIsRunning max first links new (asks ++ ask_with done ∷ [])
  taken_goes =
      let now : LoopConn = submitted_more conn in
      change_goes max (small_max max small) first links links old new asks g (calls (ask_with done)) c now (slice_index_or old.stages.items c Gone) (slice_index_or old.causes.items c Stopped) []
      (record {
        below = st.below;
        one = (changed g.loop c now [], asks_so done (changed g.loop c now []) refl, refl);
        change = change;
        tells = tells now st.here.going;
        less = begun_less g.loop c now [] old.table.budget st.below g.so_far.within.now (omega arith);
      })
      (record {
        phase = λ e. subst (λ (v : ConnView). IsOpenTied max v now) (sym state)
            (record { going = st.here.going; counted = tied.counted; tells = (told.0, ap suc told.1, told.2, told.3) });
        behind = λ n. absurd (n st.here.going);
        unstopped = λ e. absurd (none-some Stopped (sym st.here.going ∙ e));
        owing =
            let a : owed_by conn.cause conn ≡ owed_by None conn = ap (λ o. owed_by o conn) st.here.going in
            let b : owed_by now.cause now ≡ owed_by None conn = ap (λ o. owed_by o now) st.here.going in
            let d : new.owing ≡ old.owing = owing in
            omega arith;
      })
      (let p : summed_calls refuses_job (asks ++ ask_with done ∷ []) ≡ summed_calls refuses_job asks + 0 = number_push refuses_job asks (ask_with done) in
      let q : summed_calls refuses_job asks ≡ 0 = g.taken in
      omega arith)

  -- It hasn't taken it: nothing has changed in the machine.
  refused_woven : HasWoven max first links new (asks ++ ask_with is_closed ∷ [])
  refused_woven = (
    changed g.loop c conn [],
    change_woven max (small_max max small) first links links old new asks g.loop g.so_far (calls (ask_with is_closed)) c conn (slice_index_or old.stages.items c Gone)
        (slice_index_or old.causes.items c Stopped) []
        (record {
          below = st.below;
          one = (g.loop, asks_so is_closed g.loop refl, same_loop g.loop c);
          change = change;
          tells = tells conn st.here.going;
          less = begun_less g.loop c conn [] old.table.budget st.below g.so_far.within.now (omega arith);
        }),
  )

  may_so : CollectsItsOwn asks → (opening : HallState PlainCall PlainAnswer ServiceState) → OwnAsksAllow handler_rules opening 0 asks (submit (key_of c number) payload)
  may_so own opening =
      subst (λ a. OwnAsksAllow handler_rules opening 0 a (submit (key_of c number) payload)) g.so_far.asked
      (may_submit max handler_rules opening g.so_far.weave g.loop (changed g.loop c (submitted_more conn) []) (key_of c number) payload done g.so_far.woven
      (subst CollectsItsOwn (sym g.so_far.asked) own) small g.none_left (ap (summed_calls refuses_job) g.so_far.asked ∙ g.taken) (asks_so done (changed g.loop c (submitted_more conn) []) refl))

  -- So it is handed out.
  pub hands_out : IsHandedOut max links new (key_of c number) payload first asks
  hands_out = record { may = may_so; taken = taken_goes; refused = refused_woven }
