-- A reply is written, or can't be: the loop goes on.
use Rattle.std.proofs.Common.{◌≡◌, ◌≢◌, ℕ, zero, suc, ◌⊎◌, inl, inr, ◌+◌, ◌-◌, ◌<◌, ◌≤◌, true, None, List, [], ◌∷◌, length, take, drop, slice_index_or, refl, sym, ap, ◌∙◌, subst, append-nil, arith}
use Rattle.std.proofs.lemmas.Bool.{cases_eq}
use Rattle.std.proofs.lemmas.Option.{none-some}
use Rattle.std.proofs.lemmas.List.{length-drop}
use Rattle.std.proofs.Math.ListN.{drop_of_length-le}
use Rattle.streams.specs.Cause.{Rose}
use Rattle.streams.specs.declared.marks.Mark.TheVariants.{Wrote, WriteFailed}
use Rattle.outside.specs.LinksState.{LinksState}
use Rattle.outside.specs.Closing.{Closes}
use Rattle.host_model.specs.declared.cause.EndCause.{EndCause}
use Rattle.host_model.specs.declared.cause.EndCause.TheVariants.{WriteFault, NoMemory, Stopped}
use Rattle.conn_state.specs.Phase.{Phase, ConnView, sizing, held, framing, ready, waiting, writing, ended, left_to_write, IsReading}
use Rattle.conn_state.specs.Step.{after_wrote}
use Rattle.conn_table.specs.Table.{TableView, slot_of, with_state}
use Rattle.machine_model.specs.OwnCalls.{summed_calls}
use Rattle.machine_model.specs.OwnLoop.{refuses_job}
use Rattle.machine_model.specs.Loop.{LoopConn, with_cause, changed, writes, fails_write}
use Rattle.machine_model.specs.Bounds.{sum_among}
use Rattle.machine_model.specs.Merge.{handles}
use Rattle.conn_refinement.specs.Phases.{HasAllCollected, PhaseTells, IsOpenTied, IsLean}
use Rattle.conn_refinement.proofs.Tables.{no_bytes, state_there, state_is, state_size, state_but}
use Rattle.loop_conns.specs.declared.connections.ConnStage.{ConnStage}
use Rattle.loop_conns.specs.declared.connections.ConnStage.TheVariants.{Lean, Laden, Gone}
use Rattle.loop_conns.specs.declared.connections.LoopConnections.{LoopConnections}
use Rattle.loop_conns.specs.Tied.{IsLaden, IsOpenOnLinks, StageTells}
use Rattle.loop_conns.specs.Woven.{ServedAsk, owed_by, all_owing, LoopIsRunning}
use Rattle.loop_conns.specs.Ended.{EndsConnection, MovesOnly}
use Rattle.loop_conns.proofs.Ordering.{state_orderly}
use Rattle.loop_conns.proofs.Tying.{same_at, rose_since}
use Rattle.loop_conns.proofs.Standing.{Standing}
use Rattle.loop_conns.proofs.Owing.{owes_none, owes_bytes}
use Rattle.loop_conns.proofs.Going.{begun_less, change_goes}
use Rattle.loop_conns.proofs.TakingIn.{small_max}
use Rattle.loop_conns.proofs.Leaving.{leaves_goes, gives_up_goes}
use Rattle.call_rules.specs.Desks.{longest_payload}

-- a connection whose reply is written: its phase, and what that tells
pub record IsWriter (phase : Phase) (conn : LoopConn) : Type 0 where
  pub left : List ℕ
  pub is : phase ≡ writing left
  pub all : HasAllCollected conn
  pub none_held : conn.held ≡ []
  pub left_is : conn.left ≡ left
  pub some : left ≢ []

pub writer : (max : ℕ) (phase : Phase) (conn : LoopConn) → PhaseTells max phase conn → 0 < length (left_to_write phase) → IsWriter phase conn
writer max (writing left) conn t some = record { left = left; is = refl; all = t.0; none_held = t.1; left_is = t.2; some = t.3 }
writer max (sizing bytes) conn t some = absurd (let f : ⊥ = omega arith in f)
writer max (held size) conn t some = absurd (let f : ⊥ = omega arith in f)
writer max (framing size bytes) conn t some = absurd (let f : ⊥ = omega arith in f)
writer max (ready number payload) conn t some = absurd (let f : ⊥ = omega arith in f)
writer max (waiting number) conn t some = absurd (let f : ⊥ = omega arith in f)
writer max (ended cause) conn t some = absurd (let f : ⊥ = omega arith in f)

-- after a write a size is read, or the rest is written
wrote_lean : (left : List ℕ) → IsLean (after_wrote left)
wrote_lean [] = tt
wrote_lean (byte ∷ left) = tt

wrote_tells : (max : ℕ) (rest : List ℕ) (conn : LoopConn) → HasAllCollected conn → conn.held ≡ [] → conn.left ≡ rest → PhaseTells max (after_wrote rest) conn
wrote_tells max [] conn all none left = (all, none, omega arith, left, no_bytes)
wrote_tells max (byte ∷ rest) conn all none left = (all, none, left, λ e. let f : suc (length rest) ≡ 0 = ap length e in let g : ⊥ = omega arith in g)

lean_stays : (first l0 l1 : LinksState) (t0 t1 : TableView) (c : ℕ) (conn now : LoopConn) (cause : EndCause) (place : ConnStage) (left : List ℕ) → (slot_of c t0.slots).conn.phase ≡ writing left
    → IsLean (slot_of c t1.slots).conn.phase → (slot_of c t1.slots).size ≡ (slot_of c t0.slots).size → (place ≡ Gone → ⊥)
    → StageTells first l0 t0 c conn cause place → IsOpenOnLinks l1 t1 c now cause → StageTells first l1 t1 c now cause place
lean_stays first l0 l1 t0 t1 c conn now cause Lean left is lean size n h here = (here, lean, size ∙ h.2)
lean_stays first l0 l1 t0 t1 c conn now cause Laden left is lean size n h here = absurd (subst IsLaden is h.1)
lean_stays first l0 l1 t0 t1 c conn now cause Gone left is lean size n h here = absurd (n refl)

-- something is left behind fewer bytes than there are
some_left : (count : ℕ) (left : List ℕ) → count < length left → drop count left ≢ []
some_left count left l e =
    let n : length (drop count left) ≡ length left - count = length-drop count left in
    let z : length (drop count left) ≡ 0 = ap length e in
    let f : ⊥ = omega arith in f

-- what is left after a write
left_is_left : (left : List ℕ) → left_to_write (after_wrote left) ≡ left
left_is_left [] = refl
left_is_left (byte ∷ left) = refl

pub more_left : (count : ℕ) (left : List ℕ) → count < length left → 0 < length (left_to_write (after_wrote (drop count left)))
more_left count left l =
    let n : length (drop count left) ≡ length left - count = length-drop count left in
    let e : length (left_to_write (after_wrote (drop count left))) ≡ length (drop count left) = ap length (left_is_left (drop count left)) in
    omega arith

pub reads_behind : (count : ℕ) (left : List ℕ) → length left ≤ count → IsReading (after_wrote (drop count left))
reads_behind count left l = subst (λ k. IsReading (after_wrote k)) (sym (drop_of_length-le left l)) tt

-- one number of a sum
pub one_of_sum : (f : LoopConn → ℕ) (conns : ℕ → LoopConn) (c n : ℕ) → c < n → f (conns c) ≤ sum_among f conns n
one_of_sum f conns c zero l = absurd (let g : ⊥ = omega arith in g)
one_of_sum f conns c (suc n) l = go (cases_eq n c) (one_of_sum f conns c n)
  where
    go : (n ≡ c) ⊎ (n ≡ c → ⊥) → (c < n → f (conns c) ≤ sum_among f conns n) → f (conns c) ≤ f (conns n) + sum_among f conns n
    go (inl e) rec = let k : f (conns n) ≡ f (conns c) = ap (λ x. f (conns x)) e in omega arith
    go (inr m) rec = let k : f (conns c) ≤ sum_among f conns n = rec (omega arith) in omega arith

module _ (max : ℕ) (small : max ≤ longest_payload) (first before : LinksState) (old : LoopConnections) (asks : List ServedAsk) (g : LoopIsRunning max first before old asks) (c : ℕ)
    (st : Standing before old g.loop c) (open_at : slice_index_or old.stages.items c Gone ≢ Gone) (some : 0 < length (left_to_write (slot_of c old.table.slots).conn.phase)) where
  abbrev conn : LoopConn
  conn = g.loop.conns c

  tied : IsOpenTied max (slot_of c old.table.slots).conn conn
  tied = g.phases c st.below st.here.going

  at : IsWriter (slot_of c old.table.slots).conn.phase conn
  at = writer max (slot_of c old.table.slots).conn.phase conn tied.tells some

  -- what is left is the same in both
  left_same : left_to_write (slot_of c old.table.slots).conn.phase ≡ conn.left
  left_same = ap left_to_write at.is ∙ sym at.left_is

  one_owed : owed_by conn.cause conn ≡ 1
  one_owed = ap (λ o. owed_by o conn) st.here.going ∙ owes_bytes conn at.all.1 (λ e. at.some (sym at.left_is ∙ e))

  -- So many bytes were written.
  pub writes_goes : (count : ℕ) (links : LinksState) (kept : LoopConnections) → 1 ≤ count → count ≤ length (left_to_write (slot_of c old.table.slots).conn.phase)
      → MovesOnly c (Wrote c (take count (left_to_write (slot_of c old.table.slots).conn.phase)) ∷ []) (length (left_to_write (slot_of c old.table.slots).conn.phase) ∷ []) before links
      → links.is_open c ≡ true
      → kept.table ≡ record old.table { slots = with_state c (record (slot_of c old.table.slots).conn { phase = after_wrote (drop count (left_to_write (slot_of c old.table.slots).conn.phase)) }) old.table.slots }
      → kept.stages ≡ old.stages → kept.causes ≡ old.causes
      → kept.owing + 1 ≡ old.owing + owed_by None (record conn { left = drop count (left_to_write (slot_of c old.table.slots).conn.phase) })
      → LoopIsRunning max first links kept asks
  writes_goes count links kept some_count most moves link table stages causes owing =
      let left : List ℕ = left_to_write (slot_of c old.table.slots).conn.phase in
      let view : ConnView = record (slot_of c old.table.slots).conn { phase = after_wrote (drop count left) } in
      let now : LoopConn = record conn { left = drop count conn.left } in
      let same : drop count left ≡ drop count conn.left = ap (drop count) left_same in
      let state : (slot_of c kept.table.slots).conn ≡ view = state_is c view old.table kept.table st.here.there table in
      let phase : IsOpenTied max (slot_of c kept.table.slots).conn now =
      subst (λ (v : ConnView). IsOpenTied max v now) (sym state)
      (record { going = st.here.going; counted = tied.counted; tells = wrote_tells max (drop count left) now at.all at.none_held (sym same) }) in
      let here : IsOpenOnLinks links kept.table c now (slice_index_or old.causes.items c Stopped) =
      record { there = state_there c view old.table kept.table st.here.there table; link = link; going = st.here.going; stopped = st.here.stopped } in
      subst (λ a. LoopIsRunning max first links kept a) (append-nil asks)
      (change_goes max (small_max max small) first before links old kept asks g (handles (writes c count)) c now (slice_index_or old.stages.items c Gone)
      (slice_index_or old.causes.items c Stopped) (Wrote c (take count conn.left) ∷ [])
      (record {
        below = st.below;
        one = (
          changed g.loop c now (Wrote c (take count conn.left) ∷ []),
          ((st.below, st.here.going), some_count, subst (λ k. count ≤ length k) left_same most, refl),
          refl,
        );
        change =
            record {
              links = subst (λ k. MovesOnly c (Wrote c (take count k) ∷ []) (length k ∷ []) before links) left_same moves;
              table = state_but c view old.table kept.table st.here.there table;
              orderly = state_orderly c view old.table kept.table st.here.there table;
              stages = same_at Gone c (slice_index_or old.stages.items c Gone) old.stages.items kept.stages.items (ap (λ v. v.items) stages) refl;
              causes = same_at Stopped c (slice_index_or old.causes.items c Stopped) old.causes.items kept.causes.items (ap (λ v. v.items) causes) refl;
            };
        tells =
            lean_stays first before links old.table kept.table c conn now (slice_index_or old.causes.items c Stopped) (slice_index_or old.stages.items c Gone) at.left at.is
            (subst (λ (v : ConnView). IsLean v.phase) (sym state) (wrote_lean (drop count left))) (state_size c view old.table kept.table st.here.there table) open_at
            (g.so_far.tied.each c st.below) here;
        less = begun_less g.loop c now (Wrote c (take count conn.left) ∷ []) old.table.budget st.below g.so_far.within.now (omega arith);
      })
      (record {
        phase = λ e. phase;
        behind = λ n. absurd (n st.here.going);
        unstopped = λ e. absurd (none-some Stopped (sym st.here.going ∙ e));
        owing =
            let a : owed_by conn.cause conn ≡ 1 = one_owed in
            let b : owed_by now.cause now ≡ owed_by None now = ap (λ o. owed_by o now) st.here.going in
            let d : owed_by None (record conn { left = drop count left }) ≡ owed_by None now = ap (λ k. owed_by None (record conn { left = k })) same in
            omega arith;
      })
      (ap (summed_calls refuses_job) (append-nil asks) ∙ g.taken))

  -- A part of what was left was written, or all of it.
  abbrev left0 : List ℕ
  left0 = left_to_write (slot_of c old.table.slots).conn.phase

  abbrev behind : ℕ → TableView
  behind count = record old.table { slots = with_state c (record (slot_of c old.table.slots).conn { phase = after_wrote (drop count left0) }) old.table.slots }

  pub writes_part : (count : ℕ) (links : LinksState) (kept : LoopConnections) → 1 ≤ count → count < length left0 → MovesOnly c (Wrote c (take count left0) ∷ []) (length left0 ∷ []) before links
      → links.is_open c ≡ true → kept.table ≡ behind count → kept.stages ≡ old.stages → kept.causes ≡ old.causes → kept.owing ≡ old.owing → LoopIsRunning max first links kept asks
  writes_part count links kept some_count fewer moves link table stages causes owing =
      writes_goes count links kept some_count (omega arith) moves link table stages causes
      (let a : owed_by None (record conn { left = drop count left0 }) ≡ 1 = owes_bytes (record conn { left = drop count left0 }) at.all.1 (some_left count left0 fewer) in omega arith)

  pub writes_all : (count : ℕ) (links : LinksState) (kept : LoopConnections) → 1 ≤ count → count ≤ length left0 → length left0 ≤ count
      → MovesOnly c (Wrote c (take count left0) ∷ []) (length left0 ∷ []) before links
      → links.is_open c ≡ true → kept.table ≡ behind count → kept.stages ≡ old.stages → kept.causes ≡ old.causes → kept.owing + 1 ≡ old.owing → LoopIsRunning max first links kept asks
  writes_all count links kept some_count most all moves link table stages causes owing =
      writes_goes count links kept some_count most moves link table stages causes
      (let a : owed_by None (record conn { left = drop count left0 }) ≡ 0 = owes_none (record conn { left = drop count left0 }) at.all.1 (drop_of_length-le left0 all) in omega arith)

  -- A write failed.
  pub write_fails : (mid links : LinksState) (new : LoopConnections) → EndsConnection c WriteFault old new → new.owing + 1 ≡ old.owing → MovesOnly c (WriteFailed c ∷ []) [] before mid
      → Rose (before.faults c) (mid.faults c) → Closes c mid links → LoopIsRunning max first links new asks
  write_fails mid links new here owing moves rose closed =
      leaves_goes max small first before mid links old new old.table asks g.loop c st g.so_far.within.now (fails_write c) (with_cause conn WriteFault) WriteFault (WriteFailed c ∷ []) []
      (record {
        happens = ((st.below, st.here.going), (λ e. at.some (sym at.left_is ∙ e)), refl);
        over = refl;
        lent_is = refl;
        moves = moves;
        but = record { budget = refl; others = λ x n. refl };
        orderly = λ o. o;
        here = here;
        closed = closed;
        shows = subst (Rose (first.faults c)) (sym closed.faults) (rose_since (first.faults c) (before.faults c) (mid.faults c) (g.so_far.tied.faults c) rose);
      })
      g refl at.all.1 (λ e. cc) (let a : owed_by conn.cause conn ≡ 1 = one_owed in omega arith)

  -- There was no memory for a write.
  pub writer_given_up : (mid links : LinksState) (new : LoopConnections) → EndsConnection c NoMemory old new → new.owing + 1 ≡ old.owing → MovesOnly c [] [] before mid → Closes c mid links
      → LoopIsRunning max first links new asks
  writer_given_up mid links new here owing moves closed =
      gives_up_goes max small first before mid links old new asks g c st at.all.1 moves here closed (let a : owed_by conn.cause conn ≡ 1 = one_owed in omega arith)

  -- It owes something, so one can be taken off.
  pub some_owing : 1 ≤ old.owing
  some_owing =
      let f : LoopConn → ℕ = λ k. owed_by k.cause k in
      let sum : old.owing ≡ all_owing g.loop = g.owing in
      let part : f conn ≤ all_owing g.loop = one_of_sum f g.loop.conns c g.loop.count st.below in
      let a : owed_by conn.cause conn ≡ 1 = one_owed in
      omega arith

-- what has ended among what is kept, where another count was kept
pub ends_alike : (c : ℕ) (why : EndCause) (old new : LoopConnections) (owing : ℕ) → EndsConnection c why (record old { owing = owing }) new → EndsConnection c why old new
ends_alike c why old new owing h = record { table = h.table; orderly = h.orderly; gone = h.gone; stages = h.stages; causes = h.causes }
