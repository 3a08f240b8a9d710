-- What the tape tells of the loop's connections: which are open, and the frames of what was read of each.
use Rattle.std.proofs.Common.{◌≡◌, ℕ, ℤ, suc, ◌+◌, ◌<◌, ◌≤◌, ◌⊎◌, cond, Option, None, Some, List, [], ◌∷◌, ◌++◌, refl, sym, ap, ◌∙◌, subst, inl, inr, arith, append-nil, eq-eqb, ne_eqb}
use Rattle.std.specs.List.{AllByRecursion}
use Rattle.std.proofs.lemmas.Bool.{cases_eq, cases_lt}
use Rattle.std.proofs.lemmas.Grind.{flat_map-append}
use Rattle.streams.specs.declared.outcomes.Settled.{Settled}
use Rattle.streams.specs.declared.outcomes.Settled.TheVariants.{Reply, Nothing, Close as Refused, NoMemory}
use Rattle.streams.specs.declared.marks.Mark.{Mark}
use Rattle.streams.specs.declared.marks.Mark.TheVariants.{Opened, Read}
use Rattle.host_model.specs.declared.cause.EndCause.{EndCause}
use Rattle.host_model.specs.Frames.{Frames, IsRest}
use Rattle.host_model.specs.Marks.{connection_of, marks_of, read_by, input}
use Rattle.host_model.proofs.Framing.{frames_read, frames_whole, rest_nil, rest_size}
use Rattle.host_model.proofs.Filters.{marks_append}
use Rattle.machine_model.specs.HallRule.{HallOperation, submit, take_job, apply, put, collect, close, HallAnswer, done, job, empty, is_closed, applied, no_memory, journal_fault, is_broken, outcome}
use Rattle.machine_model.specs.Loop.{LoopConn, new_conn, Loop, count_if_open, IsOpen, FrameProgress, part, bad_size, whole, IsProgress, read_more, marks_read, with_conn, changed, ConnEvent, opens, reads, ends, fails_read, writes, fails_write, gives_up, Happens, conn_settled, conn_marks_settled, LoopAsks}
use Rattle.machine_model.specs.OpenAtFronts.{opening_of, closing_of, marks_counted}
use Rattle.machine_model.specs.AtFronts.{IsOpenBehind}
use Rattle.machine_model.proofs.Lists.{put_same, put_other}
use Rattle.machine_model.proofs.Fronts.{counted-append}

-- marks that are all of one connection
abbrev pub AllOf : ℕ → List Mark → Type 0
AllOf c marks = AllByRecursion (λ m. connection_of m ≡ c) marks

pub own_marks : (c : ℕ) (ms : List Mark) → AllOf c ms → marks_of c ms ≡ ms
own_marks c [] a = refl
own_marks c (m ∷ ms) a =
    ap (λ b. cond b (m ∷ marks_of c ms) (marks_of c ms)) (eq-eqb (connection_of m) c a.0) ∙ ap (λ r. m ∷ r) (own_marks c ms a.1)

pub other_marks : (c x : ℕ) (ms : List Mark) → (x ≡ c → ⊥) → AllOf c ms → marks_of x ms ≡ []
other_marks c x [] n a = refl
other_marks c x (m ∷ ms) n a =
    ap (λ b. cond b (m ∷ marks_of x ms) (marks_of x ms)) (ne_eqb (connection_of m) x (λ e. n (sym e ∙ a.0))) ∙ other_marks c x ms n a.1

-- marks of one connection behind a tape are behind its own, and not behind another's
pub marks_here : (c : ℕ) (tape ms : List Mark) → AllOf c ms → marks_of c (tape ++ ms) ≡ marks_of c tape ++ ms
marks_here c tape ms a = marks_append c tape ms ∙ ap (λ r. marks_of c tape ++ r) (own_marks c ms a)

pub marks_elsewhere : (c x : ℕ) (tape ms : List Mark) → (x ≡ c → ⊥) → AllOf c ms → marks_of x (tape ++ ms) ≡ marks_of x tape
marks_elsewhere c x tape ms n a = marks_append x tape ms ∙ ap (λ r. marks_of x tape ++ r) (other_marks c x ms n a) ∙ append-nil (marks_of x tape)

pub input-append : (xs ys : List Mark) → input (xs ++ ys) ≡ input xs ++ input ys
input-append xs ys = flat_map-append read_by xs ys

-- What the tape tells. Of a connection that isn't opened there is neither an opening nor a byte; one that is opened and has no cause isn't closed; and
-- what was read of one are its payloads' frames, and what it holds.
pub record TapeTells (max : ℕ) (loop : Loop) : Type 0 where
  pub unopened : (c : ℕ) → loop.count ≤ c → marks_counted opening_of (marks_of c loop.tape) ≡ 0
  pub unread : (c : ℕ) → loop.count ≤ c → input (marks_of c loop.tape) ≡ []
  pub open_left : (c : ℕ) → c < loop.count → marks_counted opening_of (marks_of c loop.tape) ≤ marks_counted closing_of (marks_of c loop.tape) + count_if_open (loop.conns c).cause
  pub frames : (c : ℕ) → c < loop.count → Frames max (input (marks_of c loop.tape)) (loop.conns c).payloads (loop.conns c).held

-- a connection changes, with marks of its own that open nothing
pub change_told : (max : ℕ) (old : Loop) (c : ℕ) (conn : LoopConn) (marks : List Mark) → TapeTells max old → AllOf c marks → marks_counted opening_of marks ≡ 0
    → count_if_open (old.conns c).cause ≤ marks_counted closing_of marks + count_if_open conn.cause → (old.count ≤ c → input marks ≡ [])
    → (c < old.count → Frames max (input (marks_of c old.tape) ++ input marks) conn.payloads conn.held) → TapeTells max (changed old c conn marks)
change_told max old c conn marks t all none less late frames =
    record {
      unopened = λ x l. unopened x l (cases_eq x c);
      unread = λ x l. unread x l (cases_eq x c);
      open_left = λ x l. open_left x l (cases_eq x c);
      frames = λ x l. framed x l (cases_eq x c);
    }
  where
    unopened : (x : ℕ) → old.count ≤ x → (x ≡ c) ⊎ (x ≡ c → ⊥) → marks_counted opening_of (marks_of x (old.tape ++ marks)) ≡ 0
    unopened x l (inl e) =
        let a : marks_counted opening_of (marks_of x old.tape) ≡ 0 = t.unopened x l in
        let b : marks_of x (old.tape ++ marks) ≡ marks_of x old.tape ++ marks = marks_here x old.tape marks (subst (λ y. AllOf y marks) (sym e) all) in
        let k : marks_counted opening_of (marks_of x (old.tape ++ marks)) ≡ marks_counted opening_of (marks_of x old.tape) + marks_counted opening_of marks =
        ap (marks_counted opening_of) b ∙ counted-append opening_of (marks_of x old.tape) marks in
        omega arith
    unopened x l (inr n) = ap (marks_counted opening_of) (marks_elsewhere c x old.tape marks n all) ∙ t.unopened x l

    unread : (x : ℕ) → old.count ≤ x → (x ≡ c) ⊎ (x ≡ c → ⊥) → input (marks_of x (old.tape ++ marks)) ≡ []
    unread x l (inl e) =
        ap input (marks_here x old.tape marks (subst (λ y. AllOf y marks) (sym e) all)) ∙ input-append (marks_of x old.tape) marks
        ∙ (λ i. t.unread x l i ++ late (subst (λ y. old.count ≤ y) e l) i)
    unread x l (inr n) = ap input (marks_elsewhere c x old.tape marks n all) ∙ t.unread x l

    open_left : (x : ℕ) → x < old.count → (x ≡ c) ⊎ (x ≡ c → ⊥)
        → marks_counted opening_of (marks_of x (old.tape ++ marks)) ≤ marks_counted closing_of (marks_of x (old.tape ++ marks)) + count_if_open (with_conn old.conns c conn x).cause
    open_left x l (inl e) =
        let a : marks_counted opening_of (marks_of x old.tape) ≤ marks_counted closing_of (marks_of x old.tape) + count_if_open (old.conns x).cause = t.open_left x l in
        let h : marks_of x (old.tape ++ marks) ≡ marks_of x old.tape ++ marks = marks_here x old.tape marks (subst (λ y. AllOf y marks) (sym e) all) in
        let ko : marks_counted opening_of (marks_of x (old.tape ++ marks)) ≡ marks_counted opening_of (marks_of x old.tape) + marks_counted opening_of marks =
        ap (marks_counted opening_of) h ∙ counted-append opening_of (marks_of x old.tape) marks in
        let kc : marks_counted closing_of (marks_of x (old.tape ++ marks)) ≡ marks_counted closing_of (marks_of x old.tape) + marks_counted closing_of marks =
        ap (marks_counted closing_of) h ∙ counted-append closing_of (marks_of x old.tape) marks in
        let p : count_if_open (with_conn old.conns c conn x).cause ≡ count_if_open conn.cause =
        ap (λ y. count_if_open (with_conn old.conns c conn y).cause) e ∙ ap (λ (k : LoopConn). count_if_open k.cause) (put_same old.conns c conn) in
        let q : count_if_open (old.conns x).cause ≡ count_if_open (old.conns c).cause = ap (λ y. count_if_open (old.conns y).cause) e in
        omega arith
    open_left x l (inr n) =
        subst (λ (s : List Mark × LoopConn). marks_counted opening_of s.0 ≤ marks_counted closing_of s.0 + count_if_open s.1.cause)
        (λ i. (sym (marks_elsewhere c x old.tape marks n all) i, sym (put_other old.conns c conn x n) i)) (t.open_left x l)

    framed : (x : ℕ) → x < old.count → (x ≡ c) ⊎ (x ≡ c → ⊥)
        → Frames max (input (marks_of x (old.tape ++ marks))) (with_conn old.conns c conn x).payloads (with_conn old.conns c conn x).held
    framed x l (inl e) =
        subst (λ y. Frames max (input (marks_of y (old.tape ++ marks))) (with_conn old.conns c conn y).payloads (with_conn old.conns c conn y).held) (sym e)
        (subst (λ (s : List ℕ × LoopConn). Frames max s.0 s.1.payloads s.1.held)
        (λ i. (sym (ap input (marks_here c old.tape marks all) ∙ input-append (marks_of c old.tape) marks) i, sym (put_same old.conns c conn) i))
        (frames (subst (λ y. y < old.count) e l)))
    framed x l (inr n) =
        subst (λ (s : List Mark × LoopConn). Frames max (input s.0) s.1.payloads s.1.held)
        (λ i. (sym (marks_elsewhere c x old.tape marks n all) i, sym (put_other old.conns c conn x n) i)) (t.frames x l)

-- one that changes nothing of what was read, with marks that tell of no bytes
pub quiet_told : (max : ℕ) (old : Loop) (c : ℕ) (conn : LoopConn) (marks : List Mark) → TapeTells max old → AllOf c marks → marks_counted opening_of marks ≡ 0
    → count_if_open (old.conns c).cause ≤ marks_counted closing_of marks + count_if_open conn.cause → input marks ≡ [] → conn.payloads ≡ (old.conns c).payloads
    → conn.held ≡ (old.conns c).held → TapeTells max (changed old c conn marks)
quiet_told max old c conn marks t all none less same payloads held =
    change_told max old c conn marks t all none less (λ l. same)
    (λ l. subst (λ (s : List ℕ × List (List ℕ) × List ℕ). Frames max s.0 s.1 s.2)
    (λ i. (sym (ap (λ r. input (marks_of c old.tape) ++ r) same ∙ append-nil (input (marks_of c old.tape))) i, sym payloads i, sym held i)) (t.frames c l))

open_at_most : (cause : Option EndCause) → count_if_open cause ≤ 1
open_at_most None = omega arith
open_at_most (Some cause) = omega arith

-- one that is opened
opened_told : (max : ℕ) (old : Loop) → TapeTells max old → TapeTells max (record { tape = old.tape ++ Opened old.count ∷ []; count = suc old.count; conns = with_conn old.conns old.count new_conn })
opened_told max old t =
    record {
      unopened = λ x l. ap (marks_counted opening_of) (elsewhere x (λ e. let f : ⊥ = omega arith in f)) ∙ t.unopened x (omega arith);
      unread = λ x l. ap input (elsewhere x (λ e. let f : ⊥ = omega arith in f)) ∙ t.unread x (omega arith);
      open_left = λ x l. open_left x l (cases_eq x old.count);
      frames = λ x l. framed x l (cases_eq x old.count);
    }
  where
    all : AllOf old.count (Opened old.count ∷ [])
    all = (refl, tt)

    elsewhere : (x : ℕ) → (x ≡ old.count → ⊥) → marks_of x (old.tape ++ Opened old.count ∷ []) ≡ marks_of x old.tape
    elsewhere x n = marks_elsewhere old.count x old.tape (Opened old.count ∷ []) n (refl, tt)

    open_left : (x : ℕ) → x < suc old.count → (x ≡ old.count) ⊎ (x ≡ old.count → ⊥)
        → marks_counted opening_of (marks_of x (old.tape ++ Opened old.count ∷ []))
        ≤ marks_counted closing_of (marks_of x (old.tape ++ Opened old.count ∷ [])) + count_if_open (with_conn old.conns old.count new_conn x).cause
    open_left x l (inl e) =
        let a : marks_counted opening_of (marks_of x old.tape) ≡ 0 = t.unopened x (omega arith) in
        let h : marks_of x (old.tape ++ Opened old.count ∷ []) ≡ marks_of x old.tape ++ Opened old.count ∷ [] =
        marks_here x old.tape (Opened old.count ∷ []) (subst (λ y. AllOf y (Opened old.count ∷ [])) (sym e) (refl, tt)) in
        let k : marks_counted opening_of (marks_of x (old.tape ++ Opened old.count ∷ [])) ≡ marks_counted opening_of (marks_of x old.tape) + 1 =
        ap (marks_counted opening_of) h ∙ counted-append opening_of (marks_of x old.tape) (Opened old.count ∷ []) in
        let p : count_if_open (with_conn old.conns old.count new_conn x).cause ≡ 1 =
        ap (λ y. count_if_open (with_conn old.conns old.count new_conn y).cause) e ∙ ap (λ (k : LoopConn). count_if_open k.cause) (put_same old.conns old.count new_conn) in
        omega arith
    open_left x l (inr n) =
        subst (λ (s : List Mark × LoopConn). marks_counted opening_of s.0 ≤ marks_counted closing_of s.0 + count_if_open s.1.cause)
        (λ i. (sym (elsewhere x n) i, sym (put_other old.conns old.count new_conn x n) i)) (t.open_left x (omega arith))

    framed : (x : ℕ) → x < suc old.count → (x ≡ old.count) ⊎ (x ≡ old.count → ⊥)
        → Frames max (input (marks_of x (old.tape ++ Opened old.count ∷ []))) (with_conn old.conns old.count new_conn x).payloads (with_conn old.conns old.count new_conn x).held
    framed x l (inl e) =
        let none : input (marks_of x (old.tape ++ Opened old.count ∷ [])) ≡ [] =
        ap input (marks_here x old.tape (Opened old.count ∷ []) (subst (λ y. AllOf y (Opened old.count ∷ [])) (sym e) (refl, tt)))
        ∙ input-append (marks_of x old.tape) (Opened old.count ∷ []) ∙ ap (λ r. r ++ []) (t.unread x (omega arith)) in
        let is : with_conn old.conns old.count new_conn x ≡ new_conn = ap (with_conn old.conns old.count new_conn) e ∙ put_same old.conns old.count new_conn in
        subst (λ (s : List ℕ × LoopConn). Frames max s.0 s.1.payloads s.1.held) (λ i. (sym none i, sym is i)) (record { whole = refl; each = tt; no_more = rest_nil max })
    framed x l (inr n) =
        subst (λ (s : List Mark × LoopConn). Frames max (input s.0) s.1.payloads s.1.held)
        (λ i. (sym (elsewhere x n) i, sym (put_other old.conns old.count new_conn x n) i)) (t.frames x (omega arith))

-- one that holds a whole size that no frame has
pub size_told : (max : ℕ) (old : Loop) (c : ℕ) (bytes : List ℕ) (size : ℤ) → IsOpen old c → IsProgress max ((old.conns c).held ++ bytes) (bad_size size) → TapeTells max old
    → TapeTells max (changed old c (record (old.conns c) { held = (old.conns c).held ++ bytes }) (Read c bytes ∷ []))
size_told max old c bytes size o p t =
    change_told max old c _ _ t (refl, tt) refl (omega arith) (λ l. let m : c < old.count = o.0 in absurd (let f : ⊥ = omega arith in f))
    (λ l. subst (λ r. Frames max (input (marks_of c old.tape) ++ r) (old.conns c).payloads ((old.conns c).held ++ bytes)) (sym (append-nil bytes))
    (frames_read max (input (marks_of c old.tape)) bytes (old.conns c).payloads (old.conns c).held (t.frames c l) (subst (IsRest max) (sym p.1) (rest_size max size))))

-- one that reads
read_told : (max : ℕ) (old : Loop) (c : ℕ) (bytes : List ℕ) (progress : FrameProgress) → IsOpen old c → IsProgress max ((old.conns c).held ++ bytes) progress → TapeTells max old
    → TapeTells max (changed old c (read_more (old.conns c) bytes progress) (marks_read c bytes progress))
read_told max old c bytes part o p t =
    change_told max old c _ _ t (refl, tt) refl (omega arith) (λ l. let m : c < old.count = o.0 in absurd (let f : ⊥ = omega arith in f))
    (λ l. subst (λ r. Frames max (input (marks_of c old.tape) ++ r) (old.conns c).payloads ((old.conns c).held ++ bytes)) (sym (append-nil bytes))
    (frames_read max (input (marks_of c old.tape)) bytes (old.conns c).payloads (old.conns c).held (t.frames c l) p.rest))
read_told max old c bytes (bad_size size) o p t =
    let k : count_if_open (old.conns c).cause ≤ 1 = open_at_most (old.conns c).cause in
    change_told max old c _ _ t (refl, (refl, tt)) refl (omega arith) (λ l. let m : c < old.count = o.0 in absurd (let f : ⊥ = omega arith in f))
    (λ l. subst (λ r. Frames max (input (marks_of c old.tape) ++ r) (old.conns c).payloads ((old.conns c).held ++ bytes)) (sym (append-nil bytes))
    (frames_read max (input (marks_of c old.tape)) bytes (old.conns c).payloads (old.conns c).held (t.frames c l)
    (subst (IsRest max) (sym p.1) (rest_size max size))))
read_told max old c bytes (whole payload) o p t =
    change_told max old c _ _ t (refl, tt) refl (omega arith) (λ l. let m : c < old.count = o.0 in absurd (let f : ⊥ = omega arith in f))
    (λ l. subst (λ r. Frames max (input (marks_of c old.tape) ++ r) ((old.conns c).payloads ++ payload ∷ []) []) (sym (append-nil bytes))
    (frames_whole max (input (marks_of c old.tape)) bytes (old.conns c).payloads (old.conns c).held payload (t.frames c l) p.0 p.1))

-- one that ends, or gets another cause
ended_told : (max : ℕ) (old : Loop) (c : ℕ) (conn : LoopConn) (marks : List Mark) → TapeTells max old → AllOf c marks → marks_counted opening_of marks ≡ 0
    → marks_counted closing_of marks ≡ 1 → input marks ≡ [] → conn.payloads ≡ (old.conns c).payloads → conn.held ≡ (old.conns c).held → TapeTells max (changed old c conn marks)
ended_told max old c conn marks t all none one same payloads held =
    let k : count_if_open (old.conns c).cause ≤ 1 = open_at_most (old.conns c).cause in
    quiet_told max old c conn marks t all none (omega arith) same payloads held

pub event_told : (max : ℕ) (old : Loop) (conn_event : ConnEvent) (new : Loop) → TapeTells max old → Happens max old conn_event new → TapeTells max new
event_told max old opens new t h = subst (TapeTells max) (sym h.1) (opened_told max old t)
event_told max old (reads c bytes) new t h = subst (TapeTells max) (sym h.6) (read_told max old c bytes h.0 h.1 h.5 t)
event_told max old (ends c) new t h = subst (TapeTells max) (sym h.2) (ended_told max old c _ _ t (refl, (refl, tt)) refl refl refl refl refl)
event_told max old (fails_read c) new t h = subst (TapeTells max) (sym h.2) (ended_told max old c _ _ t (refl, (refl, tt)) refl refl refl refl refl)
event_told max old (writes c count) new t h = subst (TapeTells max) (sym h.3) (quiet_told max old c _ _ t (refl, tt) refl (omega arith) refl refl refl)
event_told max old (fails_write c) new t h = subst (TapeTells max) (sym h.2) (ended_told max old c _ _ t (refl, (refl, tt)) refl refl refl refl refl)
event_told max old (gives_up c cause) new t h = subst (TapeTells max) (sym h.2) (ended_told max old c _ _ t (refl, tt) refl refl refl refl refl)

settled_told : (max : ℕ) (old : Loop) (c : ℕ) (settled : Settled) (cause : Option EndCause) → (old.conns c).cause ≡ cause → TapeTells max old
    → TapeTells max (changed old c (conn_settled cause settled (old.conns c)) (conn_marks_settled cause c settled))
settled_told max old c (Reply reply) None e t = quiet_told max old c _ _ t tt refl (omega arith) refl refl refl
settled_told max old c Nothing None e t = quiet_told max old c _ _ t tt refl (omega arith) refl refl refl
settled_told max old c (Refused fault) None e t = ended_told max old c _ _ t (refl, tt) refl refl refl refl refl
settled_told max old c NoMemory None e t = ended_told max old c _ _ t (refl, tt) refl refl refl refl refl
settled_told max old c settled (Some cause) e t = quiet_told max old c _ _ t tt refl (omega arith) refl refl refl

pub nothing_told : (max : ℕ) (loop : Loop) → loop.tape ≡ [] → loop.count ≡ 0 → TapeTells max loop
nothing_told max loop tape count =
    record {
      unopened = λ c l. ap (λ t. marks_counted opening_of (marks_of c t)) tape;
      unread = λ c l. ap (λ t. input (marks_of c t)) tape;
      open_left = λ c l. absurd (let f : ⊥ = omega arith in f);
      frames = λ c l. absurd (let f : ⊥ = omega arith in f);
    }

-- what is open on the tape is open in the loop
pub open_on_tape : (max : ℕ) (loop : Loop) (c : ℕ) → TapeTells max loop → IsOpenBehind c loop.tape → IsOpen loop c
open_on_tape max loop c t o = go (cases_lt c loop.count)
  where
    no_cause : (cause : Option EndCause) → 1 ≤ count_if_open cause → cause ≡ None
    no_cause None l = refl
    no_cause (Some cause) l = absurd (let f : ⊥ = omega arith in f)

    go : (c < loop.count) ⊎ (loop.count ≤ c) → IsOpen loop c
    go (inl l) =
        let a : marks_counted opening_of (marks_of c loop.tape) ≤ marks_counted closing_of (marks_of c loop.tape) + count_if_open (loop.conns c).cause = t.open_left c l in
        (l, no_cause (loop.conns c).cause (omega arith))
    go (inr l) = let a : marks_counted opening_of (marks_of c loop.tape) ≡ 0 = t.unopened c l in absurd (let f : ⊥ = omega arith in f)

module _ {C A : Type 0} where
  pub ask_told : (max : ℕ) (old : Loop) (op : HallOperation C) (answer : HallAnswer A) (new : Loop) → TapeTells max old → LoopAsks old op answer new → TapeTells max new
  ask_told max old (submit key payload) done new t h = subst (TapeTells max) (sym h.3) (quiet_told max old key.c _ _ t tt refl (omega arith) refl refl refl)
  ask_told max old (submit key payload) (job k p) new t h = subst (TapeTells max) (sym h.3) t
  ask_told max old (submit key payload) empty new t h = subst (TapeTells max) (sym h.3) t
  ask_told max old (submit key payload) is_closed new t h = subst (TapeTells max) (sym h.3) t
  ask_told max old (submit key payload) (applied reply) new t h = subst (TapeTells max) (sym h.3) t
  ask_told max old (submit key payload) no_memory new t h = subst (TapeTells max) (sym h.3) t
  ask_told max old (submit key payload) journal_fault new t h = subst (TapeTells max) (sym h.3) t
  ask_told max old (submit key payload) is_broken new t h = subst (TapeTells max) (sym h.3) t
  ask_told max old (submit key payload) (outcome k z) new t h = subst (TapeTells max) (sym h.3) t
  ask_told max old collect (outcome key settled) new t h = subst (TapeTells max) (sym h) (settled_told max old key.c settled (old.conns key.c).cause refl t)
  ask_told max old collect done new t h = subst (TapeTells max) (sym h) t
  ask_told max old collect (job k p) new t h = subst (TapeTells max) (sym h) t
  ask_told max old collect empty new t h = subst (TapeTells max) (sym h) t
  ask_told max old collect is_closed new t h = subst (TapeTells max) (sym h) t
  ask_told max old collect (applied reply) new t h = subst (TapeTells max) (sym h) t
  ask_told max old collect no_memory new t h = subst (TapeTells max) (sym h) t
  ask_told max old collect journal_fault new t h = subst (TapeTells max) (sym h) t
  ask_told max old collect is_broken new t h = subst (TapeTells max) (sym h) t
  ask_told max old close answer new t h = subst (TapeTells max) (sym h) t
  ask_told max old take_job answer new t h = absurd h
  ask_told max old (apply key call) answer new t h = absurd h
  ask_told max old (put key settled) answer new t h = absurd h
