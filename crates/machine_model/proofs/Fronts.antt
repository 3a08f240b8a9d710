-- At each front of the tape no more connections are open than may be.
use Rattle.std.proofs.Common.{◌≡◌, ℕ, suc, ◌+◌, ◌<◌, ◌≤◌, ◌⊎◌, Option, None, Some, List, [], ◌∷◌, ◌++◌, refl, sym, ap, ◌∙◌, subst, inl, inr, arith}
use Rattle.std.proofs.lemmas.Bool.{cases_lt}
use Rattle.streams.specs.declared.outcomes.Settled.{Settled}
use Rattle.streams.specs.declared.outcomes.Settled.TheVariants.{Reply, Nothing, Close as Refused, NoMemory}
use Rattle.streams.specs.declared.marks.Mark.{Mark}
use Rattle.streams.specs.declared.marks.Mark.TheVariants.{Opened}
use Rattle.host_model.specs.declared.cause.EndCause.{EndCause}
use Rattle.host_model.specs.Journal.{ServiceRules}
use Rattle.host_model.specs.DeskRules.{DeskRules}
use Rattle.host_model.proofs.Lists.{Always, always-push, always-append, always_nil}
use Rattle.machine_model.specs.HallRule.{HallOperation, submit, take_job, apply, put, collect, close, HallAnswer, done, job, empty, is_closed, applied, no_memory, journal_fault, is_broken, outcome}
use Rattle.machine_model.specs.Loop.{LoopConn, new_conn, Loop, count_if_open, open_among, most_connections, FrameProgress, part, bad_size, whole, read_more, marks_read, with_conn, changed, ConnEvent, opens, reads, ends, fails_read, writes, fails_write, gives_up, Happens, conn_settled, conn_marks_settled, LoopAsks}
use Rattle.machine_model.specs.Machine.{Cell, MachineEvent, on_conn, submits, takes, applies, puts, collects, closes, EventsLead, Steps, IsFirst}
use Rattle.machine_model.specs.Merge.{LoopItem, handles, calls, no_loop, Weaves}
use Rattle.machine_model.specs.Bounds.{sum_among}
use Rattle.machine_model.specs.OpenAtFronts.{opening_of, closing_of, marks_counted, IsWithinMost}
use Rattle.machine_model.proofs.Lists.{put_same}
use Rattle.machine_model.proofs.Summing.{sum_outside, sum_changed, open_sum}

abbrev opens_of : LoopConn → ℕ
opens_of conn = count_if_open conn.cause

pub counted-append : (f : Mark → ℕ) (xs ys : List Mark) → marks_counted f (xs ++ ys) ≡ marks_counted f xs + marks_counted f ys
counted-append f [] ys = omega arith
counted-append f (x ∷ xs) ys = let t : marks_counted f (xs ++ ys) ≡ marks_counted f xs + marks_counted f ys = counted-append f xs ys in omega arith

-- what is so of the loop's tape
record Bounded (loop : Loop) : Type 0 where
  now : marks_counted opening_of loop.tape ≤ marks_counted closing_of loop.tape + open_among loop.conns loop.count
  most : open_among loop.conns loop.count ≤ most_connections
  fronts : Always IsWithinMost loop.tape

-- behind a bounded tape, marks that open nothing
still_within : (tape marks ts bs : List Mark) (open_now : ℕ) → marks_counted opening_of tape ≤ marks_counted closing_of tape + open_now → open_now ≤ most_connections → marks_counted opening_of marks ≡ 0 → marks ≡ ts ++ bs → IsWithinMost (tape ++ ts)
still_within tape marks ts bs open_now now most none is =
    let a : marks_counted opening_of (tape ++ ts) ≡ marks_counted opening_of tape + marks_counted opening_of ts = counted-append opening_of tape ts in
    let b : marks_counted closing_of (tape ++ ts) ≡ marks_counted closing_of tape + marks_counted closing_of ts = counted-append closing_of tape ts in
    let c : marks_counted opening_of marks ≡ marks_counted opening_of ts + marks_counted opening_of bs = ap (marks_counted opening_of) is ∙ counted-append opening_of ts bs in
    omega arith

-- how many are open, where one connection changes
open_changed : (old : Loop) (c : ℕ) (conn : LoopConn) (closed : ℕ) → count_if_open (old.conns c).cause ≤ closed + count_if_open conn.cause → count_if_open conn.cause ≤ count_if_open (old.conns c).cause
    → (open_among old.conns old.count ≤ closed + open_among (with_conn old.conns c conn) old.count) × (open_among (with_conn old.conns c conn) old.count ≤ open_among old.conns old.count)
open_changed old c conn closed less more = go (cases_lt c old.count)
  where
    go : (c < old.count) ⊎ (old.count ≤ c)
        → (open_among old.conns old.count ≤ closed + open_among (with_conn old.conns c conn) old.count) × (open_among (with_conn old.conns c conn) old.count ≤ open_among old.conns old.count)
    go (inl l) =
        let oa : open_among (with_conn old.conns c conn) old.count ≡ sum_among opens_of (with_conn old.conns c conn) old.count = open_sum (with_conn old.conns c conn) old.count in
        let ob : open_among old.conns old.count ≡ sum_among opens_of old.conns old.count = open_sum old.conns old.count in
        let oc : sum_among opens_of (with_conn old.conns c conn) old.count + count_if_open (old.conns c).cause ≡ sum_among opens_of old.conns old.count + count_if_open conn.cause = sum_changed opens_of old.conns c conn old.count l in
        (omega arith, omega arith)
    go (inr l) =
        let oa : open_among (with_conn old.conns c conn) old.count ≡ sum_among opens_of (with_conn old.conns c conn) old.count = open_sum (with_conn old.conns c conn) old.count in
        let ob : open_among old.conns old.count ≡ sum_among opens_of old.conns old.count = open_sum old.conns old.count in
        let oc : sum_among opens_of (with_conn old.conns c conn) old.count ≡ sum_among opens_of old.conns old.count = sum_outside opens_of old.conns c conn old.count l in
        (omega arith, omega arith)

changed_bounded : (old : Loop) (c : ℕ) (conn : LoopConn) (marks : List Mark) → Bounded old → marks_counted opening_of marks ≡ 0 → count_if_open (old.conns c).cause ≤ marks_counted closing_of marks + count_if_open conn.cause
    → count_if_open conn.cause ≤ count_if_open (old.conns c).cause → Bounded (changed old c conn marks)
changed_bounded old c conn marks b none less more =
    let t : (open_among old.conns old.count ≤ marks_counted closing_of marks + open_among (with_conn old.conns c conn) old.count) × (open_among (with_conn old.conns c conn) old.count ≤ open_among old.conns old.count) =
    open_changed old c conn (marks_counted closing_of marks) less more in
    let low : open_among old.conns old.count ≤ marks_counted closing_of marks + open_among (with_conn old.conns c conn) old.count = t.0 in
    let high : open_among (with_conn old.conns c conn) old.count ≤ open_among old.conns old.count = t.1 in
    let before : marks_counted opening_of old.tape ≤ marks_counted closing_of old.tape + open_among old.conns old.count = b.now in
    let most : open_among old.conns old.count ≤ most_connections = b.most in
    let x : marks_counted opening_of (old.tape ++ marks) ≡ marks_counted opening_of old.tape + marks_counted opening_of marks = counted-append opening_of old.tape marks in
    let y : marks_counted closing_of (old.tape ++ marks) ≡ marks_counted closing_of old.tape + marks_counted closing_of marks = counted-append closing_of old.tape marks in
    record {
      now = omega arith;
      most = omega arith;
      fronts = always-append IsWithinMost old.tape marks b.fronts (λ ts bs is. still_within old.tape marks ts bs (open_among old.conns old.count) before most none is);
    }

opened_bounded : (old : Loop) → Bounded old → open_among old.conns old.count < most_connections → Bounded (record { tape = old.tape ++ Opened old.count ∷ []; count = suc old.count; conns = with_conn old.conns old.count new_conn })
opened_bounded old b l =
    let n : ℕ = old.count in
    let next : ℕ → LoopConn = with_conn old.conns n new_conn in
    let oa : open_among next n ≡ sum_among opens_of next n = open_sum next n in
    let ob : open_among old.conns n ≡ sum_among opens_of old.conns n = open_sum old.conns n in
    let oc : sum_among opens_of next n ≡ sum_among opens_of old.conns n = sum_outside opens_of old.conns n new_conn n (omega arith) in
    let ot : count_if_open (next n).cause ≡ 1 = ap opens_of (put_same old.conns n new_conn) in
    let before : marks_counted opening_of old.tape ≤ marks_counted closing_of old.tape + open_among old.conns old.count = b.now in
    let x : marks_counted opening_of (old.tape ++ Opened n ∷ []) ≡ marks_counted opening_of old.tape + 1 = counted-append opening_of old.tape (Opened n ∷ []) in
    let y : marks_counted closing_of (old.tape ++ Opened n ∷ []) ≡ marks_counted closing_of old.tape + 0 = counted-append closing_of old.tape (Opened n ∷ []) in
    record {
      now = omega arith;
      most = omega arith;
      fronts = always-push IsWithinMost old.tape (Opened n) b.fronts (omega arith);
    }

one_at_most : (cause : Option EndCause) → count_if_open cause ≤ 1
one_at_most None = omega arith
one_at_most (Some cause) = omega arith

-- a connection ends, with its mark
ended_bounded : (old : Loop) (c : ℕ) (conn : LoopConn) (marks : List Mark) (cause : EndCause) → Bounded old → marks_counted opening_of marks ≡ 0 → marks_counted closing_of marks ≡ 1 → conn.cause ≡ Some cause → Bounded (changed old c conn marks)
ended_bounded old c conn marks cause b none one is =
    let o : count_if_open (old.conns c).cause ≤ 1 = one_at_most (old.conns c).cause in
    let e : count_if_open conn.cause ≡ 0 = ap count_if_open is in
    changed_bounded old c conn marks b none (omega arith) (omega arith)

read_bounded : (old : Loop) (c : ℕ) (bytes : List ℕ) (progress : FrameProgress) → Bounded old → Bounded (changed old c (read_more (old.conns c) bytes progress) (marks_read c bytes progress))
read_bounded old c bytes part b = changed_bounded old c _ _ b refl (omega arith) (omega arith)
read_bounded old c bytes (bad_size size) b = ended_bounded old c _ _ _ b refl refl refl
read_bounded old c bytes (whole payload) b = changed_bounded old c _ _ b refl (omega arith) (omega arith)

event_bounded : (max : ℕ) (old : Loop) (conn_event : ConnEvent) (new : Loop) → Bounded old → Happens max old conn_event new → Bounded new
event_bounded max old opens new b t = subst Bounded (sym t.1) (opened_bounded old b t.0)
event_bounded max old (reads c bytes) new b t = subst Bounded (sym t.6) (read_bounded old c bytes t.0 b)
event_bounded max old (ends c) new b t = subst Bounded (sym t.2) (ended_bounded old c _ _ _ b refl refl refl)
event_bounded max old (fails_read c) new b t = subst Bounded (sym t.2) (ended_bounded old c _ _ _ b refl refl refl)
event_bounded max old (writes c count) new b t = subst Bounded (sym t.3) (changed_bounded old c _ _ b refl (omega arith) (omega arith))
event_bounded max old (fails_write c) new b t = subst Bounded (sym t.2) (ended_bounded old c _ _ _ b refl refl refl)
event_bounded max old (gives_up c cause) new b t = subst Bounded (sym t.2) (ended_bounded old c _ _ _ b refl refl refl)

settled_bounded : (old : Loop) (c : ℕ) (settled : Settled) (cause : Option EndCause) → (old.conns c).cause ≡ cause → Bounded old → Bounded (changed old c (conn_settled cause settled (old.conns c)) (conn_marks_settled cause c settled))
settled_bounded old c (Reply reply) None e b = changed_bounded old c _ _ b refl (omega arith) (omega arith)
settled_bounded old c Nothing None e b = changed_bounded old c _ _ b refl (omega arith) (omega arith)
settled_bounded old c (Refused fault) None e b = ended_bounded old c _ _ _ b refl refl refl
settled_bounded old c NoMemory None e b = ended_bounded old c _ _ _ b refl refl refl
settled_bounded old c settled (Some cause) e b = changed_bounded old c _ _ b refl (omega arith) (omega arith)

empty_bounded : (loop : Loop) → loop.tape ≡ [] → loop.count ≡ 0 → Bounded loop
empty_bounded loop tape count =
    let o : open_among loop.conns loop.count ≡ 0 = ap (open_among loop.conns) count in
    let x : marks_counted opening_of loop.tape ≡ 0 = ap (marks_counted opening_of) tape in
    record { now = omega arith; most = omega arith; fronts = subst (Always IsWithinMost) (sym tape) (always_nil IsWithinMost (omega arith)) }

module _ {C A : Type 0} where
  ask_bounded : (old : Loop) (op : HallOperation C) (answer : HallAnswer A) (new : Loop) → Bounded old → LoopAsks old op answer new → Bounded new
  ask_bounded old (submit key payload) done new b t = subst Bounded (sym t.3) (changed_bounded old key.c _ _ b refl (omega arith) (omega arith))
  ask_bounded old (submit key payload) (job k p) new b t = subst Bounded (sym t.3) b
  ask_bounded old (submit key payload) empty new b t = subst Bounded (sym t.3) b
  ask_bounded old (submit key payload) is_closed new b t = subst Bounded (sym t.3) b
  ask_bounded old (submit key payload) (applied reply) new b t = subst Bounded (sym t.3) b
  ask_bounded old (submit key payload) no_memory new b t = subst Bounded (sym t.3) b
  ask_bounded old (submit key payload) journal_fault new b t = subst Bounded (sym t.3) b
  ask_bounded old (submit key payload) is_broken new b t = subst Bounded (sym t.3) b
  ask_bounded old (submit key payload) (outcome k z) new b t = subst Bounded (sym t.3) b
  ask_bounded old collect (outcome key settled) new b t = subst Bounded (sym t) (settled_bounded old key.c settled (old.conns key.c).cause refl b)
  ask_bounded old collect done new b t = subst Bounded (sym t) b
  ask_bounded old collect (job k p) new b t = subst Bounded (sym t) b
  ask_bounded old collect empty new b t = subst Bounded (sym t) b
  ask_bounded old collect is_closed new b t = subst Bounded (sym t) b
  ask_bounded old collect (applied reply) new b t = subst Bounded (sym t) b
  ask_bounded old collect no_memory new b t = subst Bounded (sym t) b
  ask_bounded old collect journal_fault new b t = subst Bounded (sym t) b
  ask_bounded old collect is_broken new b t = subst Bounded (sym t) b
  ask_bounded old close answer new b t = subst Bounded (sym t) b
  ask_bounded old take_job answer new b t = absurd t
  ask_bounded old (apply key call) answer new b t = absurd t
  ask_bounded old (put key settled) answer new b t = absurd t

  weave_bounded : (max : ℕ) (items : List (LoopItem C A)) (old new : Loop) → Bounded old → Weaves max old items new → Bounded new
  weave_bounded max [] old new b t = subst Bounded (sym t) b
  weave_bounded max (handles conn_event ∷ items) old new b t = weave_bounded max items t.0 new (event_bounded max old conn_event t.0 b t.1) t.2
  weave_bounded max (calls e ∷ items) old new b t = weave_bounded max items t.0 new (ask_bounded old e.op e.reply t.0 b t.1) t.2

  pub woven_fronts : (max : ℕ) (items : List (LoopItem C A)) (loop : Loop) → Weaves max no_loop items loop → (front back : List Mark) → loop.tape ≡ front ++ back → IsWithinMost front
  woven_fronts max items loop t front back is = (weave_bounded max items no_loop loop (empty_bounded no_loop refl refl) t).fronts front back is

module _ {C A M : Type 0} (d : DeskRules C A) (r : ServiceRules C A M) where
  step_bounded : (old : Cell C A M) (event : MachineEvent) (new : Cell C A M) → Bounded old.loop → Steps d r old event new → Bounded new.loop
  step_bounded old (on_conn conn_event) new b t = subst (λ (x : Cell C A M). Bounded x.loop) (sym t.2) (event_bounded d.max old.loop conn_event t.0 b t.1)
  step_bounded old (submits c) new b t = subst (λ (x : Cell C A M). Bounded x.loop) (sym t.2.5) (ask_bounded {C = C} old.loop (submit _ t.1) t.2.0 t.2.1 b t.2.3)
  step_bounded old (takes w) new b t = subst (λ (x : Cell C A M). Bounded x.loop) (sym t.5) b
  step_bounded old (applies w) new b t = subst (λ (x : Cell C A M). Bounded x.loop) (sym t.2.5) b
  step_bounded old (puts w) new b t = subst (λ (x : Cell C A M). Bounded x.loop) (sym t.2.5) b
  step_bounded old collects new b t = subst (λ (x : Cell C A M). Bounded x.loop) (sym t.5) (ask_bounded {C = C} old.loop collect t.0 t.1 b t.3)
  step_bounded old closes new b t = subst (λ (x : Cell C A M). Bounded x.loop) (sym t.5) (ask_bounded {C = C} old.loop close t.0 t.1 b t.3)

  run_bounded : (events : List MachineEvent) (old new : Cell C A M) → Bounded old.loop → EventsLead d r old events new → Bounded new.loop
  run_bounded [] old new b t = subst (λ (x : Cell C A M). Bounded x.loop) (sym t) b
  run_bounded (event ∷ events) old new b t = run_bounded events t.0 new (step_bounded old event t.0 b t.1) t.2

  pub run_fronts : (memories : List M) (first cell : Cell C A M) (events : List MachineEvent) → IsFirst memories first → EventsLead d r first events cell → (front back : List Mark) → cell.loop.tape ≡ front ++ back → IsWithinMost front
  run_fronts memories first cell events f runs front back is = (run_bounded events first cell (empty_bounded first.loop f.tape f.count) runs).fronts front back is
