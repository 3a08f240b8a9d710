-- In a run the tape only grows, and what is open in the loop is open on it.
use Rattle.std.proofs.Common.{◌≡◌, ℕ, suc, ◌+◌, ◌<◌, ◌≤◌, ◌⊎◌, Option, None, Some, List, [], ◌∷◌, ◌++◌, refl, sym, ap, ◌∙◌, subst, inl, inr, arith, append_assoc, append-nil}
use Rattle.std.proofs.lemmas.Bool.{cases_eq}
use Rattle.std.proofs.lemmas.Option.{none-some}
use Rattle.streams.specs.declared.outcomes.Settled.{Settled}
use Rattle.streams.specs.declared.outcomes.Settled.TheVariants.{Reply, Nothing, Close as Refused, NoMemory}
use Rattle.streams.specs.declared.marks.Mark.{Mark}
use Rattle.streams.specs.declared.marks.Mark.TheVariants.{Opened}
use Rattle.host_model.specs.declared.cause.EndCause.{EndCause}
use Rattle.host_model.specs.Marks.{marks_of}
use Rattle.host_model.specs.Journal.{ServiceRules}
use Rattle.host_model.specs.DeskRules.{DeskRules}
use Rattle.machine_model.specs.HallState.{HallState}
use Rattle.machine_model.specs.HallRule.{HallOperation, submit, take_job, apply, put, collect, close, HallAnswer, done, empty, is_closed, outcome, outcome_of, HallGives}
use Rattle.machine_model.specs.Loop.{LoopConn, new_conn, Loop, FrameProgress, part, bad_size, whole, IsOpen, read_more, marks_read, with_conn, changed, ConnEvent, opens, reads, ends, fails_read, writes, fails_write, gives_up, Happens, conn_settled, conn_marks_settled, LoopAsks}
use Rattle.machine_model.specs.Machine.{Cell, MachineEvent, on_conn, submits, takes, applies, puts, collects, closes, Steps, EventsLead, IsFirst}
use Rattle.machine_model.specs.OpenAtFronts.{opening_of, closing_of, marks_counted}
use Rattle.machine_model.specs.AtFronts.{IsOpenBehind}
use Rattle.machine_model.specs.Places.{CellKeeps}
use Rattle.machine_model.proofs.Fronts.{counted-append}
use Rattle.machine_model.proofs.Lists.{put_same, put_other}
use Rattle.machine_model.proofs.Merging.{runs-append}
use Rattle.machine_model.proofs.Taping.{AllOf, marks_here, marks_elsewhere}
use Rattle.script_model.proofs.Waiting.{first_outcome}

-- a connection that has no cause is open on the tape, and of one that isn't opened there is no mark
pub record IsTraced (loop : Loop) : Type 0 where
  pub each : (c : ℕ) → c < loop.count → (loop.conns c).cause ≡ None → IsOpenBehind c loop.tape
  pub later : (c : ℕ) → loop.count ≤ c → marks_of c loop.tape ≡ []

-- from old to new the tape has grown, and stays traced
pub record Goes (old new : Loop) : Type 0 where
  pub back : List Mark
  pub tape : new.tape ≡ old.tape ++ back
  pub traced : IsTraced old → IsTraced new

stays : (loop : Loop) → Goes loop loop
stays loop = record { back = []; tape = sym (append-nil loop.tape); traced = λ t. t }

onward : (old mid new : Loop) → Goes old mid → Goes mid new → Goes old new
onward old mid new a b =
    record { back = a.back ++ b.back; tape = b.tape ∙ ap (λ tape. tape ++ b.back) a.tape ∙ append_assoc old.tape a.back b.back; traced = λ t. b.traced (a.traced t) }

-- one more is opened
opened_goes : (old : Loop) → Goes old (record { tape = old.tape ++ Opened old.count ∷ []; count = suc old.count; conns = with_conn old.conns old.count new_conn })
opened_goes old = record { back = Opened old.count ∷ []; tape = refl; traced = λ t. record { each = λ x l o. each t x l o (cases_eq x old.count); later = later t } }
  where
    elsewhere : (x : ℕ) → (x ≡ old.count → ⊥) → marks_of x (old.tape ++ Opened old.count ∷ []) ≡ marks_of x old.tape
    elsewhere x n = marks_elsewhere old.count x old.tape (Opened old.count ∷ []) n (refl, tt)

    later : IsTraced old → (x : ℕ) → suc old.count ≤ x → marks_of x (old.tape ++ Opened old.count ∷ []) ≡ []
    later t x l = elsewhere x (λ e. let f : ⊥ = omega arith in f) ∙ t.later x (omega arith)

    each : IsTraced old → (x : ℕ) → x < suc old.count → (with_conn old.conns old.count new_conn x).cause ≡ None → (x ≡ old.count) ⊎ (x ≡ old.count → ⊥)
        → IsOpenBehind x (old.tape ++ Opened old.count ∷ [])
    each t x l o (inl e) =
        let m : marks_of x (old.tape ++ Opened old.count ∷ []) ≡ Opened old.count ∷ [] =
        marks_here x old.tape (Opened old.count ∷ []) (sym e, tt) ∙ ap (λ marks. marks ++ Opened old.count ∷ []) (t.later x (omega arith)) in
        subst (λ marks. marks_counted closing_of marks < marks_counted opening_of marks) (sym m) (omega arith)
    each t x l o (inr n) =
        subst (λ marks. marks_counted closing_of marks < marks_counted opening_of marks) (sym (elsewhere x n))
        (t.each x (omega arith) (ap (λ (k : LoopConn). k.cause) (sym (put_other old.conns old.count new_conn x n)) ∙ o))

-- a connection changes, with marks of its own that open nothing; if it is open then, it was, and they close nothing
changed_goes : (old : Loop) (c : ℕ) (conn : LoopConn) (marks : List Mark) → c < old.count → AllOf c marks → marks_counted opening_of marks ≡ 0
    → (conn.cause ≡ None → ((old.conns c).cause ≡ None) × (marks_counted closing_of marks ≡ 0)) → Goes old (changed old c conn marks)
changed_goes old c conn marks inside all none was = record { back = marks; tape = refl; traced = λ t. record { each = λ x l o. each t x l o (cases_eq x c); later = later t } }
  where
    later : IsTraced old → (x : ℕ) → old.count ≤ x → marks_of x (old.tape ++ marks) ≡ []
    later t x l = marks_elsewhere c x old.tape marks (λ e. let f : ⊥ = omega arith in f) all ∙ t.later x l

    each : IsTraced old → (x : ℕ) → x < old.count → (with_conn old.conns c conn x).cause ≡ None → (x ≡ c) ⊎ (x ≡ c → ⊥) → IsOpenBehind x (old.tape ++ marks)
    each t x l o (inl e) =
        let k : conn.cause ≡ None = ap (λ (k : LoopConn). k.cause) (sym (put_same old.conns c conn)) ∙ ap (λ y. (with_conn old.conns c conn y).cause) (sym e) ∙ o in
        let a : marks_counted closing_of (marks_of c old.tape) < marks_counted opening_of (marks_of c old.tape) = t.each c inside (was k).0 in
        let b : marks_counted closing_of marks ≡ 0 = (was k).1 in
        let g : marks_counted closing_of (marks_of c old.tape ++ marks) ≡ marks_counted closing_of (marks_of c old.tape) + marks_counted closing_of marks =
        counted-append closing_of (marks_of c old.tape) marks in
        let h : marks_counted opening_of (marks_of c old.tape ++ marks) ≡ marks_counted opening_of (marks_of c old.tape) + marks_counted opening_of marks =
        counted-append opening_of (marks_of c old.tape) marks in
        subst (λ y. IsOpenBehind y (old.tape ++ marks)) (sym e)
        (subst (λ own. marks_counted closing_of own < marks_counted opening_of own) (sym (marks_here c old.tape marks all)) (omega arith))
    each t x l o (inr n) =
        subst (λ own. marks_counted closing_of own < marks_counted opening_of own) (sym (marks_elsewhere c x old.tape marks n all))
        (t.each x l (ap (λ (k : LoopConn). k.cause) (sym (put_other old.conns c conn x n)) ∙ o))

ended_goes : (old : Loop) (c : ℕ) (conn : LoopConn) (marks : List Mark) (cause : EndCause) → c < old.count → AllOf c marks → marks_counted opening_of marks ≡ 0 → conn.cause ≡ Some cause
    → Goes old (changed old c conn marks)
ended_goes old c conn marks cause inside all none is = changed_goes old c conn marks inside all none (λ e. absurd (none-some cause (sym e ∙ is)))

read_goes : (old : Loop) (c : ℕ) (bytes : List ℕ) (progress : FrameProgress) → IsOpen old c → Goes old (changed old c (read_more (old.conns c) bytes progress) (marks_read c bytes progress))
read_goes old c bytes part o = changed_goes old c _ _ o.0 (refl, tt) refl (λ e. (o.1, refl))
read_goes old c bytes (bad_size size) o = ended_goes old c _ _ _ o.0 (refl, (refl, tt)) refl refl
read_goes old c bytes (whole payload) o = changed_goes old c _ _ o.0 (refl, tt) refl (λ e. (o.1, refl))

event_goes : (max : ℕ) (old : Loop) (conn_event : ConnEvent) (new : Loop) → Happens max old conn_event new → Goes old new
event_goes max old opens new h = subst (Goes old) (sym h.1) (opened_goes old)
event_goes max old (reads c bytes) new h = subst (Goes old) (sym h.6) (read_goes old c bytes h.0 h.1)
event_goes max old (ends c) new h = subst (Goes old) (sym h.2) (ended_goes old c _ _ _ h.0.0 (refl, (refl, tt)) refl refl)
event_goes max old (fails_read c) new h = subst (Goes old) (sym h.2) (ended_goes old c _ _ _ h.0.0 (refl, (refl, tt)) refl refl)
event_goes max old (writes c count) new h = subst (Goes old) (sym h.3) (changed_goes old c _ _ h.0.0 (refl, tt) refl (λ e. (h.0.1, refl)))
event_goes max old (fails_write c) new h = subst (Goes old) (sym h.2) (ended_goes old c _ _ _ h.0.0 (refl, (refl, tt)) refl refl)
event_goes max old (gives_up c cause) new h = subst (Goes old) (sym h.2) (ended_goes old c _ _ _ h.0.0 (refl, tt) refl refl)

settled_goes : (old : Loop) (c : ℕ) (settled : Settled) (cause : Option EndCause) → (old.conns c).cause ≡ cause → c < old.count
    → Goes old (changed old c (conn_settled cause settled (old.conns c)) (conn_marks_settled cause c settled))
settled_goes old c (Reply reply) None is l = changed_goes old c _ _ l tt refl (λ e. (is, refl))
settled_goes old c Nothing None is l = changed_goes old c _ _ l tt refl (λ e. (is, refl))
settled_goes old c (Refused fault) None is l = ended_goes old c _ _ _ l (refl, tt) refl refl
settled_goes old c NoMemory None is l = ended_goes old c _ _ _ l (refl, tt) refl refl
settled_goes old c settled (Some cause) is l = changed_goes old c _ _ l tt refl (λ e. (e, refl))

module _ {C A M : Type 0} (d : DeskRules C A) (r : ServiceRules C A M) (opening : List M) where
  -- what the loop asks of the hall
  ask_goes : (cell : Cell C A M) → CellKeeps d r opening cell → (op : HallOperation C) (answer : HallAnswer A) (loop : Loop) (hall : HallState C A M) → LoopAsks cell.loop op answer loop
      → HallGives r cell.hall op answer hall → Goes cell.loop loop
  ask_goes cell k (submit key payload) done loop hall h t = subst (Goes cell.loop) (sym h.3) (changed_goes cell.loop key.c _ [] h.0 tt refl (λ e. (e, refl)))
  ask_goes cell k (submit key payload) is_closed loop hall h t = subst (Goes cell.loop) (sym h.3) (stays cell.loop)
  ask_goes cell k (submit key payload) _ loop hall h t = absurd t
  ask_goes cell k collect (outcome key settled) loop hall h t =
      let u : (key.c < cell.loop.count) × _ = first_outcome d r opening cell k (outcome_of key settled) t.0 t.1 in
      subst (Goes cell.loop) (sym h) (settled_goes cell.loop key.c settled (cell.loop.conns key.c).cause refl u.0)
  ask_goes cell k collect empty loop hall h t = subst (Goes cell.loop) (sym h) (stays cell.loop)
  ask_goes cell k collect is_closed loop hall h t = subst (Goes cell.loop) (sym h) (stays cell.loop)
  ask_goes cell k collect _ loop hall h t = absurd t
  ask_goes cell k close answer loop hall h t = subst (Goes cell.loop) (sym h) (stays cell.loop)
  ask_goes cell k take_job answer loop hall h t = absurd h
  ask_goes cell k (apply key call) answer loop hall h t = absurd h
  ask_goes cell k (put key settled) answer loop hall h t = absurd h

  step_goes : (cell : Cell C A M) → CellKeeps d r opening cell → (event : MachineEvent) (new : Cell C A M) → Steps d r cell event new → Goes cell.loop new.loop
  step_goes cell k (on_conn conn_event) new t = subst (λ (x : Cell C A M). Goes cell.loop x.loop) (sym t.2) (event_goes d.max cell.loop conn_event t.0 t.1)
  step_goes cell k (submits c) new t = subst (λ (x : Cell C A M). Goes cell.loop x.loop) (sym t.2.5) (ask_goes cell k (submit _ t.1) t.2.0 t.2.1 t.2.2 t.2.3 t.2.4)
  step_goes cell k (takes w) new t = subst (λ (x : Cell C A M). Goes cell.loop x.loop) (sym t.5) (stays cell.loop)
  step_goes cell k (applies w) new t = subst (λ (x : Cell C A M). Goes cell.loop x.loop) (sym t.2.5) (stays cell.loop)
  step_goes cell k (puts w) new t = subst (λ (x : Cell C A M). Goes cell.loop x.loop) (sym t.2.5) (stays cell.loop)
  step_goes cell k collects new t = subst (λ (x : Cell C A M). Goes cell.loop x.loop) (sym t.5) (ask_goes cell k collect t.0 t.1 t.2 t.3 t.4)
  step_goes cell k closes new t = subst (λ (x : Cell C A M). Goes cell.loop x.loop) (sym t.5) (ask_goes cell k close t.0 t.1 t.2 t.3 t.4)

  module _ (first : Cell C A M) (stands : (cell : Cell C A M) (events : List MachineEvent) → EventsLead d r first events cell → CellKeeps d r opening cell) where
    -- from a cell that a run reaches, a run goes on so
    pub run_goes : (behind events : List MachineEvent) (old new : Cell C A M) → EventsLead d r first behind old → EventsLead d r old events new → Goes old.loop new.loop
    run_goes behind [] old new b h = subst (λ (x : Cell C A M). Goes old.loop x.loop) (sym h) (stays old.loop)
    run_goes behind (event ∷ events) old new b h =
        onward old.loop h.0.loop new.loop (step_goes old (stands old behind b) event h.0 h.1)
        (run_goes (behind ++ event ∷ []) events h.0 new (runs-append d r first old h.0 behind (event ∷ []) b (h.0, h.1, refl)) h.2)

    -- what is open in its loop is open on its tape
    pub run_traced : IsFirst opening first → (events : List MachineEvent) (cell : Cell C A M) → EventsLead d r first events cell → IsTraced cell.loop
    run_traced is_first events cell h = (run_goes [] events first cell refl h).traced at_first
      where
        at_first : IsTraced first.loop
        at_first =
            let none : first.loop.count ≡ 0 = is_first.count in
            record { each = λ c l o. absurd (let f : ⊥ = omega arith in f); later = λ c l. ap (λ tape. marks_of c tape) is_first.tape }
