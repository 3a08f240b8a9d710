-- A connection has ended, and is closed: the loop goes on.
use Rattle.std.proofs.Common.{◌≡◌, ◌≢◌, ℕ, ◌+◌, ◌≤◌, Option, None, Some, List, [], ◌∷◌, ◌++◌, length, refl, sym, ap, ◌∙◌, subst, append-nil, arith}
use Rattle.std.proofs.lemmas.Option.{none-some, same_Some}
use Rattle.streams.specs.Cause.{Rose}
use Rattle.streams.specs.Content.{told_before, IsSpent}
use Rattle.streams.specs.declared.marks.Mark.{Mark}
use Rattle.streams.specs.declared.marks.Mark.TheVariants.{Ended, ReadFailed, Closed}
use Rattle.outside.specs.declared.answers.Taken.{Taken}
use Rattle.outside.specs.declared.answers.Taken.TheVariants.{Bytes, End as EndTaken, NotYet, Failed, NoMemory as NoRoom}
use Rattle.outside.specs.Faults.{CountsItsFault, length_lent}
use Rattle.outside.specs.LinksState.{LinksState}
use Rattle.outside.specs.Reading.{Reads, marks_of_read}
use Rattle.outside.specs.Writing.{WritesToConnection, marks_of_write}
use Rattle.outside.specs.Closing.{Closes}
use Rattle.host_model.specs.declared.cause.EndCause.{EndCause}
use Rattle.host_model.specs.declared.cause.EndCause.TheVariants.{End, Cut, ReadFault, NoMemory, Stopped}
use Rattle.host_model.specs.World.{end_behind}
use Rattle.conn_state.specs.Phase.{Phase, sizing, held, framing, ready, waiting, writing, ended, cause_of, IsReading}
use Rattle.conn_state.specs.Step.{after_end_of_input}
use Rattle.conn_table.specs.Table.{TableView, slot_of}
use Rattle.machine_model.specs.OwnCalls.{summed_calls}
use Rattle.machine_model.specs.OwnLoop.{refuses_job}
use Rattle.machine_model.specs.Loop.{LoopConn, Loop, with_cause, changed, ConnEvent, ends, fails_read, gives_up, Happens}
use Rattle.machine_model.specs.AtFronts.{begun_if_open, all_begun}
use Rattle.machine_model.specs.Merge.{handles}
use Rattle.conn_refinement.specs.Phases.{HasAllCollected, PhaseTells, IsOpenTied}
use Rattle.conn_refinement.specs.Tables.{IsSameBut}
use Rattle.loop_conns.specs.declared.connections.ConnStage.TheVariants.{Gone}
use Rattle.loop_conns.specs.declared.connections.LoopConnections.{LoopConnections}
use Rattle.loop_conns.specs.Tied.{CauseShows, IsOrderly}
use Rattle.loop_conns.specs.Woven.{ServedAsk, lent_to, owed_by, IsWovenTo, LoopIsRunning}
use Rattle.loop_conns.specs.Ended.{EndsConnection, MovesOnly}
use Rattle.loop_conns.proofs.Tying.{ChangesOne, told_none, rose_since}
use Rattle.loop_conns.proofs.Standing.{Standing, owes_nothing}
use Rattle.loop_conns.proofs.Owing.{owes_none}
use Rattle.loop_conns.proofs.Going.{begun_less, IsChange, change_goes, change_woven}
use Rattle.loop_conns.proofs.TakingIn.{ended_change, small_max}
use Rattle.call_rules.specs.Desks.{longest_payload}

-- Nothing moved.
pub moves_none : (c : ℕ) (links : LinksState) → MovesOnly c [] [] links links
moves_none c links =
    record {
      others = record { listens = refl; opened = refl; over = refl; rests = refl; net_faults = refl; is_open = λ x n. refl; left = λ x n. refl; arrived = λ x n. refl; faults = λ x n. refl };
      tape = sym (told_none links.tape);
      lengths = sym (told_none links.lengths);
      faults = omega arith;
    }

-- a count of faults never falls
counts_on : (taken : Taken) (before now : ℕ) → CountsItsFault taken before now → before ≤ now
counts_on Failed before now h = h.0
counts_on (Bytes count) before now h = omega arith
counts_on EndTaken before now h = omega arith
counts_on NotYet before now h = omega arith
counts_on NoRoom before now h = omega arith

-- what a read, and a write, moved
pub read_moves : (c : ℕ) (into : List ℕ) (old new : LinksState) (taken : Taken) → Reads c into old new taken → MovesOnly c (marks_of_read c into taken) (length_lent (length into) taken) old new
read_moves c into old new taken r =
    record { others = r.others; tape = r.tape; lengths = r.lengths; faults = counts_on taken (old.faults c) (new.faults c) r.faults }

pub write_moves : (c : ℕ) (bytes : List ℕ) (old new : LinksState) (taken : Taken) → WritesToConnection c bytes old new taken
    → MovesOnly c (marks_of_write c bytes taken) (length_lent (length bytes) taken) old new
write_moves c bytes old new taken w =
    record { others = w.others; tape = w.tape; lengths = w.lengths; faults = counts_on taken (old.faults c) (new.faults c) w.faults }

-- nothing is left, after a read of the end
pub spent_then : (old new : Option (List ℕ)) → old ≡ told_before [] new → IsSpent old → IsSpent new
spent_then old None e h = tt
spent_then old (Some rest) e h = subst IsSpent e h

-- What one connection's end is of: something that happened on it, on the links, in the table, and among what is kept.
pub record IsLeave (max : ℕ) (first before mid links : LinksState) (old new : LoopConnections) (table : TableView) (loop : Loop) (c : ℕ) (conn_event : ConnEvent) (now : LoopConn)
    (why : EndCause) (marks : List Mark) (lent : List ℕ) : Type 0 where
  pub happens : Happens max loop conn_event (changed loop c now (marks ++ Closed c ∷ []))
  pub over : now.cause ≡ Some why
  pub lent_is : lent ≡ lent_to loop conn_event
  pub moves : MovesOnly c marks lent before mid
  pub but : IsSameBut c old.table table
  pub orderly : IsOrderly old.table → IsOrderly table
  pub here : EndsConnection c why (record old { table = table }) new
  pub closed : Closes c mid links
  pub shows : CauseShows first links c why

module _ (max : ℕ) (small : max ≤ longest_payload) (first before mid links : LinksState) (old new : LoopConnections) (table : TableView) (asks : List ServedAsk) (loop : Loop) (c : ℕ)
    (st : Standing before old loop c) (within : all_begun loop ≤ old.table.budget) (conn_event : ConnEvent) (now : LoopConn) (why : EndCause) (marks : List Mark) (lent : List ℕ)
    (h : IsLeave max first before mid links old new table loop c conn_event now why marks lent) where
  change : IsChange max first before links old new loop (handles conn_event) c now Gone why (marks ++ Closed c ∷ [])
  change =
      record {
        below = st.below;
        one = (changed loop c now (marks ++ Closed c ∷ []), h.happens, refl);
        change = subst (λ l. ChangesOne c Gone why (marks ++ Closed c ∷ []) l before links old new) h.lent_is
            (ended_change c why marks lent before mid links old table new h.but h.orderly st.known h.moves h.here h.closed);
        tells = record { gone = h.here.gone; link = h.closed.closed; ended = h.over; shows = h.shows };
        less = begun_less loop c now (marks ++ Closed c ∷ []) old.table.budget st.below within
            (let e : begun_if_open now.cause now.held ≡ 0 = ap (λ o. begun_if_open o now.held) h.over in omega arith);
      }

  pub leaves_woven : IsWovenTo max first before old asks loop → IsWovenTo max first links new asks (changed loop c now (marks ++ Closed c ∷ []))
  leaves_woven w =
      subst (λ a. IsWovenTo max first links new a (changed loop c now (marks ++ Closed c ∷ []))) (append-nil asks)
      (change_woven max (small_max max small) first before links old new asks loop w (handles conn_event) c now Gone why (marks ++ Closed c ∷ []) change)

  -- the loop goes on, where the connection left no payload behind and wasn't stopped
  pub leaves_goes : (g : LoopIsRunning max first before old asks) → g.loop ≡ loop → now.collected ≡ length now.payloads → why ≢ Stopped
      → new.owing + owed_by (loop.conns c).cause (loop.conns c) ≡ old.owing → LoopIsRunning max first links new asks
  leaves_goes g same all unstopped owing =
      subst (λ a. LoopIsRunning max first links new a) (append-nil asks)
      (change_goes max (small_max max small) first before links old new asks g (handles conn_event) c now Gone why (marks ++ Closed c ∷ [])
      (subst (λ l. IsChange max first before links old new l (handles conn_event) c now Gone why (marks ++ Closed c ∷ [])) (sym same) change)
      (record {
        phase = λ e. absurd (none-some why (sym e ∙ h.over));
        behind = λ n. all;
        unstopped = λ e. unstopped (same_Some why Stopped (sym h.over ∙ e));
        owing =
            subst (λ (l : Loop). new.owing + owed_by (l.conns c).cause (l.conns c) ≡ old.owing + owed_by now.cause now) (sym same)
            (let z : owed_by now.cause now ≡ 0 = ap (λ o. owed_by o now) h.over in omega arith);
      })
      (ap (summed_calls refuses_job) (append-nil asks) ∙ g.taken))

-- the cause by which an input ends, in the machine and by the phase
cause_behind : (max : ℕ) (phase : Phase) (conn : LoopConn) → IsReading phase → PhaseTells max phase conn → cause_of (after_end_of_input phase) ≡ Some (end_behind conn.held)
cause_behind max (sizing []) conn reads t = ap (λ k. Some (end_behind k)) (sym t.1)
cause_behind max (sizing (byte ∷ bytes)) conn reads t = ap (λ k. Some (end_behind k)) (sym t.1)
cause_behind max (framing size bytes) conn reads t = ap (λ k. Some (end_behind k)) (sym t.1)
cause_behind max (held size) conn reads t = absurd reads
cause_behind max (ready number payload) conn reads t = absurd reads
cause_behind max (waiting number) conn reads t = absurd reads
cause_behind max (writing left) conn reads t = absurd reads
cause_behind max (ended cause) conn reads t = absurd reads

end_or_cut : (held : List ℕ) (P : EndCause → Type 0) → P End → P Cut → P (end_behind held)
end_or_cut [] P a b = a
end_or_cut (byte ∷ bytes) P a b = b

-- A connection that reads has ended: by the end of its input, a read that failed, or for want of memory.
module _ (max : ℕ) (small : max ≤ longest_payload) (first before : LinksState) (old : LoopConnections) (asks : List ServedAsk) (g : LoopIsRunning max first before old asks) (c : ℕ)
    (st : Standing before old g.loop c) (reading : IsReading (slot_of c old.table.slots).conn.phase) where
  abbrev conn : LoopConn
  conn = g.loop.conns c

  tied : IsOpenTied max (slot_of c old.table.slots).conn conn
  tied = g.phases c st.below st.here.going

  owes : HasAllCollected conn × (conn.left ≡ [])
  owes = owes_nothing max (slot_of c old.table.slots).conn.phase conn reading tied.tells

  none_owed : owed_by conn.cause conn ≡ 0
  none_owed = ap (λ o. owed_by o conn) st.here.going ∙ owes_none conn owes.0.1 owes.1

  as_before : (new : LoopConnections) → new.owing ≡ old.owing → new.owing + owed_by conn.cause conn ≡ old.owing
  as_before new e = let z : owed_by conn.cause conn ≡ 0 = none_owed in omega arith

  -- the cause that the phase after the end has
  pub ended_cause : cause_of (after_end_of_input (slot_of c old.table.slots).conn.phase) ≡ Some (end_behind conn.held)
  ended_cause = cause_behind max (slot_of c old.table.slots).conn.phase conn reading tied.tells

  pub input_ends : (mid links : LinksState) (new : LoopConnections) (table : TableView) → IsSameBut c old.table table → (IsOrderly old.table → IsOrderly table)
      → EndsConnection c (end_behind conn.held) (record old { table = table }) new → new.owing ≡ old.owing → MovesOnly c (Ended c ∷ []) [] before mid → IsSpent (mid.left c) → Closes c mid links
      → LoopIsRunning max first links new asks
  input_ends mid links new table but orderly here owing moves spent closed =
      leaves_goes max small first before mid links old new table asks g.loop c st g.so_far.within.now (ends c) (with_cause conn (end_behind conn.held)) (end_behind conn.held) (Ended c ∷ []) []
      (record {
        happens = ((st.below, st.here.going), (owes.0.1, owes.1), refl);
        over = refl;
        lent_is = refl;
        moves = moves;
        but = but;
        orderly = orderly;
        here = here;
        closed = closed;
        shows = end_or_cut conn.held (CauseShows first links c) (subst IsSpent (sym closed.left) spent) (subst IsSpent (sym closed.left) spent);
      })
      g refl owes.0.1 (end_or_cut conn.held (λ why. why ≢ Stopped) (λ e. cc) (λ e. cc)) (as_before new owing)

  pub read_fails : (mid links : LinksState) (new : LoopConnections) → EndsConnection c ReadFault old new → new.owing ≡ old.owing → MovesOnly c (ReadFailed c ∷ []) [] before mid → Rose (before.faults c) (mid.faults c)
      → Closes c mid links → LoopIsRunning max first links new asks
  read_fails mid links new here owing moves rose closed =
      leaves_goes max small first before mid links old new old.table asks g.loop c st g.so_far.within.now (fails_read c) (with_cause conn ReadFault) ReadFault (ReadFailed c ∷ []) []
      (record {
        happens = ((st.below, st.here.going), (owes.0.1, owes.1), refl);
        over = refl;
        lent_is = refl;
        moves = moves;
        but = record { budget = refl; others = λ x n. refl };
        orderly = λ o. o;
        here = here;
        closed = closed;
        shows = subst (Rose (first.faults c)) (sym closed.faults) (rose_since (first.faults c) (before.faults c) (mid.faults c) (g.so_far.tied.faults c) rose);
      })
      g refl owes.0.1 (λ e. cc) (as_before new owing)

-- A connection is given up for want of memory, all of whose payloads are collected.
pub gives_up_goes : (max : ℕ) (small : max ≤ longest_payload) (first before mid links : LinksState) (old new : LoopConnections) (asks : List ServedAsk) (g : LoopIsRunning max first before old asks) (c : ℕ)
    → Standing before old g.loop c → (g.loop.conns c).collected ≡ length (g.loop.conns c).payloads → MovesOnly c [] [] before mid → EndsConnection c NoMemory old new → Closes c mid links
    → new.owing + owed_by (g.loop.conns c).cause (g.loop.conns c) ≡ old.owing → LoopIsRunning max first links new asks
gives_up_goes max small first before mid links old new asks g c st all moves here closed owing =
    leaves_goes max small first before mid links old new old.table asks g.loop c st g.so_far.within.now (gives_up c NoMemory) (with_cause (g.loop.conns c) NoMemory) NoMemory [] []
    (record {
      happens = ((st.below, st.here.going), tt, refl);
      over = refl;
      lent_is = refl;
      moves = moves;
      but = record { budget = refl; others = λ x n. refl };
      orderly = λ o. o;
      here = here;
      closed = closed;
      shows = tt;
    })
    g refl all (λ e. cc) owing

-- the same, of one that reads
pub reader_given_up : (max : ℕ) (small : max ≤ longest_payload) (first before mid links : LinksState) (old new : LoopConnections) (asks : List ServedAsk) (g : LoopIsRunning max first before old asks) (c : ℕ)
    → Standing before old g.loop c → IsReading (slot_of c old.table.slots).conn.phase → MovesOnly c [] [] before mid → EndsConnection c NoMemory old new → new.owing ≡ old.owing → Closes c mid links
    → LoopIsRunning max first links new asks
reader_given_up max small first before mid links old new asks g c st reading moves here owing closed =
    let conn : LoopConn = g.loop.conns c in
    let owes : HasAllCollected conn × (conn.left ≡ []) =
    owes_nothing max (slot_of c old.table.slots).conn.phase conn reading (g.phases c st.below st.here.going).tells in
    gives_up_goes max small first before mid links old new asks g c st owes.0.1 moves here closed
    (let z : owed_by conn.cause conn ≡ 0 = ap (λ o. owed_by o conn) st.here.going ∙ owes_none conn owes.0.1 owes.1 in let e : new.owing ≡ old.owing = owing in omega arith)
