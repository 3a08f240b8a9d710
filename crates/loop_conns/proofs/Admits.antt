-- A frame is admitted, or refused, or there is no memory for it.
use Rattle.std.proofs.Common.{◌≡◌, ◌≢◌, ℕ, ◌+◌, ◌<◌, ◌≤◌, ◌^◌, None, Some, List, [], length, slice_index_or, slice_set, refl, sym, ap, ◌∙◌, subst, append-nil, arith}
use Rattle.std.specs.Int.{w32, to_be_bytes}
use Rattle.outside.specs.LinksState.{LinksState}
use Rattle.outside.specs.Closing.{Closes}
use Rattle.host_model.specs.declared.cause.EndCause.TheVariants.{NoMemory, Stopped}
use Rattle.conn_state.specs.Phase.{Phase, sizing, held, framing, ready, waiting, writing, ended, size_asked, IsHeld, IsReading}
use Rattle.conn_state.specs.Step.{after_admission}
use Rattle.conn_table.specs.declared.places.Slot.{Slot}
use Rattle.conn_table.specs.Slots.{most_connections, slot_in, with_slot}
use Rattle.conn_table.specs.Table.{TableView, slot_of, size_given, sizes_given, size_wanted, HasItsSize, with_admitted}
use Rattle.conn_table.proofs.Placing.{has_value}
use Rattle.conn_table.proofs.Sizing.{slot_is, found_put, of_found, sizes_put}
use Rattle.conn_table.proofs.Rising.{rising_put, count_put}
use Rattle.machine_model.specs.Loop.{LoopConn}
use Rattle.conn_refinement.specs.Phases.{HasAllCollected, PhaseTells, IsOpenTied}
use Rattle.conn_refinement.specs.Tables.{IsSameBut}
use Rattle.conn_refinement.proofs.Tables.{but_put}
use Rattle.loop_conns.specs.declared.connections.ConnStage.{ConnStage}
use Rattle.loop_conns.specs.declared.connections.ConnStage.TheVariants.{Lean, Laden, Gone}
use Rattle.loop_conns.specs.declared.connections.LoopConnections.{LoopConnections}
use Rattle.loop_conns.specs.Tied.{IsLaden, StageTells, IsOrderly}
use Rattle.loop_conns.specs.Woven.{ServedAsk, owed_by, LoopIsRunning}
use Rattle.loop_conns.specs.Ended.{EndsConnection}
use Rattle.loop_conns.proofs.Tying.{set_at, same_at}
use Rattle.loop_conns.proofs.Standing.{Standing}
use Rattle.loop_conns.proofs.Owing.{owes_none}
use Rattle.loop_conns.proofs.Leaving.{moves_none, gives_up_goes}
use Rattle.loop_conns.proofs.Resting.{quiet_goes}
use Rattle.call_rules.specs.Desks.{longest_payload}

-- a connection whose frame waits: its size, and what that tells
pub record IsWaiter (max : ℕ) (phase : Phase) (conn : LoopConn) : Type 0 where
  pub size : ℕ
  pub is : phase ≡ held size
  pub all : HasAllCollected conn
  pub bytes : conn.held ≡ to_be_bytes w32 size
  pub some : 1 ≤ size
  pub most : size ≤ max
  pub fits : size < 2 ^ 32
  pub nothing : conn.left ≡ []

pub waiter : (max : ℕ) (phase : Phase) (conn : LoopConn) → IsHeld phase → PhaseTells max phase conn → IsWaiter max phase conn
waiter max (held size) conn waits t = record { size = size; is = refl; all = t.0; bytes = t.1; some = t.2; most = t.3; fits = t.4; nothing = t.5 }
waiter max (sizing bytes) conn waits t = absurd waits
waiter max (framing size bytes) conn waits t = absurd waits
waiter max (ready number payload) conn waits t = absurd waits
waiter max (waiting number) conn waits t = absurd waits
waiter max (writing left) conn waits t = absurd waits
waiter max (ended cause) conn waits t = absurd waits

-- what waits is lean, so its place has no size
lean_held : (first links : LinksState) (table : TableView) (c : ℕ) (conn : LoopConn) (place : ConnStage) (cause : _) → IsHeld (slot_of c table.slots).conn.phase → (place ≡ Gone → ⊥)
    → StageTells first links table c conn cause place → (slot_of c table.slots).size ≡ None
lean_held first links table c conn Lean cause waits n h = h.2
lean_held first links table c conn Laden cause waits n h = absurd (go (slot_of c table.slots).conn.phase waits h.1)
  where
    go : (phase : Phase) → IsHeld phase → IsLaden phase → ⊥
    go (held size) a b = b
    go (sizing bytes) a b = a
    go (framing size bytes) a b = a
    go (ready number payload) a b = a
    go (waiting number) a b = a
    go (writing left) a b = a
    go (ended cause) a b = a
lean_held first links table c conn Gone cause waits n h = absurd (n refl)

module _ (max : ℕ) (small : max ≤ longest_payload) (first before : LinksState) (old : LoopConnections) (asks : List ServedAsk) (g : LoopIsRunning max first before old asks) (c : ℕ)
    (st : Standing before old g.loop c) (open_at : slice_index_or old.stages.items c Gone ≢ Gone) (waits : IsHeld (slot_of c old.table.slots).conn.phase) where
  abbrev conn : LoopConn
  conn = g.loop.conns c

  tied : IsOpenTied max (slot_of c old.table.slots).conn conn
  tied = g.phases c st.below st.here.going

  at : IsWaiter max (slot_of c old.table.slots).conn.phase conn
  at = waiter max (slot_of c old.table.slots).conn.phase conn waits tied.tells

  none_owed : owed_by conn.cause conn ≡ 0
  none_owed = ap (λ o. owed_by o conn) st.here.going ∙ owes_none conn at.all.1 at.nothing

  -- There was no memory for it.
  pub waiter_given_up : (links : LinksState) (new : LoopConnections) → EndsConnection c NoMemory old new → new.owing ≡ old.owing → Closes c before links → LoopIsRunning max first links new asks
  waiter_given_up links new here owing closed =
      gives_up_goes max small first before before links old new asks g c st at.all.1 (moves_none c before) here closed (let a : owed_by conn.cause conn ≡ 0 = none_owed in omega arith)

  abbrev slot_now : Slot
  slot_now = record { number = c; conn = record (slot_of c old.table.slots).conn { phase = after_admission (slot_of c old.table.slots).conn.phase }; size = size_asked (slot_of c old.table.slots).conn.phase }

  -- it has no size yet
  pub no_size : (slot_of c old.table.slots).size ≡ None
  no_size = lean_held first before old.table c conn (slice_index_or old.stages.items c Gone) (slice_index_or old.causes.items c Stopped) waits open_at (g.so_far.tied.each c st.below)

  found : (table : TableView) → table ≡ with_admitted c old.table → slot_in c table.slots ≡ Some slot_now
  found table is = ap (λ (t : TableView). slot_in c t.slots) is ∙ found_put slot_now old.table.slots st.here.there

  phase_now : after_admission (slot_of c old.table.slots).conn.phase ≡ framing at.size []
  phase_now = ap after_admission at.is

  -- the frame may be read
  pub admitted_reads : (table : TableView) → table ≡ with_admitted c old.table → IsReading (slot_of c table.slots).conn.phase
  admitted_reads table is =
      subst (λ (k : Slot). IsReading k.conn.phase) (sym (of_found c table.slots slot_now (found table is))) (subst IsReading (sym phase_now) tt)

  -- It was admitted.
  pub admits_goes : (new : LoopConnections) → new.table ≡ with_admitted c old.table → sizes_given old.table.slots + size_wanted (slot_of c old.table.slots).conn ≤ old.table.budget
      → new.stages.items ≡ slice_set old.stages.items c Laden → new.causes ≡ old.causes → new.owing ≡ old.owing → LoopIsRunning max first before new asks
  admits_goes new table fits stages causes owing =
      let is_found : slot_in c new.table.slots ≡ Some slot_now = found new.table table in
      let same : slot_of c new.table.slots ≡ slot_now = of_found c new.table.slots slot_now is_found in
      let size : size_asked (slot_of c old.table.slots).conn.phase ≡ Some at.size = ap size_asked at.is in
      quiet_goes max first before before old new asks g c Laden (slice_index_or old.causes.items c Stopped) st.below
      (record {
        links = moves_none c before;
        table = subst (λ (t : TableView). IsSameBut c old.table t) (sym table) (but_put old.table c slot_now refl);
        orderly = λ o. subst IsOrderly (sym table) (orderly_now o);
        stages = set_at Gone c Laden old.stages.items new.stages.items st.known.0 stages;
        causes = same_at Stopped c (slice_index_or old.causes.items c Stopped) old.causes.items new.causes.items (ap (λ v. v.items) causes) refl;
      }) (
        record { there = has_value (slot_in c new.table.slots) slot_now is_found; link = st.here.link; going = st.here.going; stopped = st.here.stopped },
        subst (λ (k : Slot). IsLaden k.conn.phase) (sym same) (subst IsLaden (sym phase_now) tt),
        subst (λ (k : Slot). HasItsSize k.conn.phase k.size) (sym same) (subst (λ p. HasItsSize p (size_asked (slot_of c old.table.slots).conn.phase)) (sym phase_now) size),
      )
      (λ e. subst (λ (k : Slot). IsOpenTied max k.conn conn) (sym same)
      (record {
        going = st.here.going;
        counted = tied.counted;
        tells =
            subst (λ p. PhaseTells max p conn) (sym phase_now)
            (at.all, at.bytes ∙ sym (append-nil (to_be_bytes w32 at.size)), (let s : 1 ≤ at.size = at.some in omega arith), at.most, at.fits, at.nothing);
      }))
      owing
    where
      orderly_now : IsOrderly old.table → IsOrderly (with_admitted c old.table)
      orderly_now o =
          let t : sizes_given (with_slot slot_now old.table.slots) + size_given (slot_of c old.table.slots).size ≡ sizes_given old.table.slots + size_given (size_asked (slot_of c old.table.slots).conn.phase) =
          sizes_put slot_now (slot_of c old.table.slots) old.table.slots (slot_is c old.table.slots st.here.there) in
          let z : size_given (slot_of c old.table.slots).size ≡ 0 = ap size_given no_size in
          let few : length old.table.slots ≤ most_connections = o.few in
          let many : length (with_slot slot_now old.table.slots) ≡ length old.table.slots = count_put slot_now old.table.slots in
          record { rising = rising_put slot_now old.table.slots o.rising; few = omega arith; within = omega arith }
