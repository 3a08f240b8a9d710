-- The machine without what doesn't show: what it is told does the same to it, whatever its journal's count of faults, and whatever stands at connections
-- that aren't opened.
use Rattle.std.proofs.Common.{◌≡◌, ℕ, zero, suc, ◌<◌, ◌≤◌, ◌⊎◌, Bool, true, false, ◌&&◌, nat_lt, if◌then◌else◌, Option, None, Some, List, [], ◌∷◌, ◌++◌, slice_get, refl, sym, ap, ◌∙◌, inl, inr, option_map, arith}
use Rattle.std.proofs.Math.Path.{fun_ext}
use Rattle.std.proofs.lemmas.Bool.{ltb-true, lt-ltb, le-ltb, cases_lt, cases_eq}
use Rattle.streams.specs.declared.outcomes.Settled.{Settled}
use Rattle.streams.specs.declared.outcomes.Settled.TheVariants.{NoMemory as Lack}
use Rattle.streams.specs.declared.marks.Mark.{Mark}
use Rattle.host_model.specs.declared.key.Key.{Key}
use Rattle.host_model.specs.Journal.{ServiceRules}
use Rattle.host_model.specs.DeskRules.{DeskRules, DeskDecision, Close, Silent, Reply, Invoke}
use Rattle.machine_model.specs.HallState.{key_of, Job, JobOutcome, HallState}
use Rattle.machine_model.specs.HallRule.{job_of}
use Rattle.machine_model.specs.Loop.{LoopConn, new_conn, Loop, open_among, most_connections, count_if_open, with_conn, changed, submitted_more, conn_settled, conn_marks_settled, ConnEvent, opens, reads, ends, fails_read, writes, fails_write, gives_up}
use Rattle.machine_model.specs.Worker.{WorkerState, idle, holds, has_answer, has_none, settlement, key_held}
use Rattle.machine_model.specs.Machine.{Cell, IsFirst, on_conn, submits, takes, applies, puts, collects, closes}
use Rattle.machine_model.specs.Plain.{when, is_open, has_none_yet, Moved, reads_plain, ends_plain, fails_read_plain, writes_plain, fails_write_plain, gives_up_plain, moved_plain, opened_plain, conn_event_plain, with_loop, ApplyResult, answers, lacks_for_call, lacks_for_answer, fails_journal, Told, goes, applies_so, puts_none, submit_plain, take_plain, apply_result_plain, broken_plain, call_plain, apply_plain, outcome_plain, put_plain, lack_plain, collect_plain, told_plain}
use Rattle.script_model.specs.Showing.{ShowTheSame}
use Rattle.machine_model.proofs.Lists.{put_same, put_other}

-- the connections that were opened, and new ones in place of the others
abbrev pub opened_alone : ℕ → (ℕ → LoopConn) → ℕ → LoopConn
opened_alone count conns x = if nat_lt x count then conns x else new_conn

abbrev pub bare_loop : Loop → Loop
bare_loop loop = record { tape = loop.tape; count = loop.count; conns = opened_alone loop.count loop.conns }

pub opened_is : (count c : ℕ) (conns : ℕ → LoopConn) → c < count → opened_alone count conns c ≡ conns c
opened_is count c conns l = ap (λ b. if b then conns c else new_conn) (lt-ltb c count l)

unopened_is : (count c : ℕ) (conns : ℕ → LoopConn) → count ≤ c → opened_alone count conns c ≡ new_conn
unopened_is count c conns l = ap (λ b. if b then conns c else new_conn) (le-ltb c count l)

-- a connection that is opened is changed
bare_changed : (loop : Loop) (c : ℕ) (conn : LoopConn) (marks : List Mark) → c < loop.count → changed (bare_loop loop) c conn marks ≡ bare_loop (changed loop c conn marks)
bare_changed loop c conn marks l =
    ap (λ (conns : ℕ → LoopConn). record { tape = loop.tape ++ marks; count = loop.count; conns = conns }) (fun_ext (λ x. go x (cases_eq x c)))
  where
    go : (x : ℕ) → (x ≡ c) ⊎ (x ≡ c → ⊥) → with_conn (opened_alone loop.count loop.conns) c conn x ≡ opened_alone loop.count (with_conn loop.conns c conn) x
    go x (inl e) =
        ap (with_conn (opened_alone loop.count loop.conns) c conn) e ∙ put_same (opened_alone loop.count loop.conns) c conn ∙ sym (put_same loop.conns c conn)
        ∙ sym (opened_is loop.count c (with_conn loop.conns c conn) l) ∙ ap (opened_alone loop.count (with_conn loop.conns c conn)) (sym e)
    go x (inr n) = put_other (opened_alone loop.count loop.conns) c conn x n ∙ ap (λ v. if nat_lt x loop.count then v else new_conn) (sym (put_other loop.conns c conn x n))

-- one more is opened
bare_opened : (loop : Loop) → opened_plain (bare_loop loop) ≡ bare_loop (opened_plain loop)
bare_opened loop =
    ap (λ (conns : ℕ → LoopConn). record { tape = (opened_plain loop).tape; count = suc loop.count; conns = conns }) (fun_ext (λ x. go x (cases_eq x loop.count) (cases_lt x loop.count)))
  where
    go : (x : ℕ) → (x ≡ loop.count) ⊎ (x ≡ loop.count → ⊥) → (x < loop.count) ⊎ (loop.count ≤ x)
        → with_conn (opened_alone loop.count loop.conns) loop.count new_conn x ≡ opened_alone (suc loop.count) (with_conn loop.conns loop.count new_conn) x
    go x (inl e) either =
        ap (with_conn (opened_alone loop.count loop.conns) loop.count new_conn) e ∙ put_same (opened_alone loop.count loop.conns) loop.count new_conn ∙ sym (put_same loop.conns loop.count new_conn)
        ∙ sym (opened_is (suc loop.count) loop.count (with_conn loop.conns loop.count new_conn) (omega arith)) ∙ ap (opened_alone (suc loop.count) (with_conn loop.conns loop.count new_conn)) (sym e)
    go x (inr n) (inl l) =
        put_other (opened_alone loop.count loop.conns) loop.count new_conn x n ∙ opened_is loop.count x loop.conns l ∙ sym (put_other loop.conns loop.count new_conn x n)
        ∙ sym (opened_is (suc loop.count) x (with_conn loop.conns loop.count new_conn) (omega arith))
    go x (inr n) (inr l) =
        put_other (opened_alone loop.count loop.conns) loop.count new_conn x n ∙ unopened_is loop.count x loop.conns l
        ∙ sym (unopened_is (suc loop.count) x (with_conn loop.conns loop.count new_conn) (past (cases_lt loop.count x)))
      where
        past : (loop.count < x) ⊎ (x ≤ loop.count) → suc loop.count ≤ x
        past (inl k) = omega arith
        past (inr k) = absurd (n (omega arith))

-- as many are open
bare_among : (count : ℕ) (conns : ℕ → LoopConn) (n : ℕ) → n ≤ count → open_among (opened_alone count conns) n ≡ open_among conns n
bare_among count conns zero l = refl
bare_among count conns (suc n) l =
    let h : count_if_open (opened_alone count conns n).cause ≡ count_if_open (conns n).cause = ap (λ (conn : LoopConn). count_if_open conn.cause) (opened_is count n conns (omega arith)) in
    let t : open_among (opened_alone count conns) n ≡ open_among conns n = bare_among count conns n (omega arith) in
    omega arith

-- the journal doesn't fail
abbrev pub KeepsJournal : ApplyResult → Type 0
KeepsJournal fails_journal = ⊥
KeepsJournal _ = Unit {0}

abbrev pub TellsNoFault : Told → Type 0
TellsNoFault (applies_so w apply_result) = KeepsJournal apply_result
TellsNoFault _ = Unit {0}

module _ {C A M : Type 0} where
  -- the machine without what doesn't show
  abbrev pub bare : Cell C A M → Cell C A M
  bare cell = record { loop = bare_loop cell.loop; hall = record cell.hall { faults = 0 }; workers = cell.workers }

  module _ (cell : Cell C A M) where
    -- a move of one connection
    pub conn_bare : (c : ℕ) (moves : LoopConn → Moved)
        → with_loop (bare cell) (when (is_open (bare_loop cell.loop) c) (moved_plain (bare_loop cell.loop) c (moves (opened_alone cell.loop.count cell.loop.conns c))))
        ≡ option_map bare (with_loop cell (when (is_open cell.loop c) (moved_plain cell.loop c (moves (cell.loop.conns c)))))
    conn_bare c moves = go (cases_lt c cell.loop.count)
      where
        moved : c < cell.loop.count → (m : Moved) → with_loop (bare cell) (moved_plain (bare_loop cell.loop) c m) ≡ option_map bare (with_loop cell (moved_plain cell.loop c m))
        moved l None = refl
        moved l (Some m) = ap (λ (loop : Loop). Some (record (bare cell) { loop = loop })) (bare_changed cell.loop c m.0 m.1 l)

        tested : c < cell.loop.count → (b : Bool) (m : Moved) → with_loop (bare cell) (when b (moved_plain (bare_loop cell.loop) c m)) ≡ option_map bare (with_loop cell (when b (moved_plain cell.loop c m)))
        tested l true m = moved l m
        tested l false m = refl

        go : (c < cell.loop.count) ⊎ (cell.loop.count ≤ c)
            → with_loop (bare cell) (when (is_open (bare_loop cell.loop) c) (moved_plain (bare_loop cell.loop) c (moves (opened_alone cell.loop.count cell.loop.conns c))))
            ≡ option_map bare (with_loop cell (when (is_open cell.loop c) (moved_plain cell.loop c (moves (cell.loop.conns c)))))
        go (inl l) =
            ap (λ (conn : LoopConn). with_loop (bare cell) (when (nat_lt c cell.loop.count && has_none_yet conn.cause) (moved_plain (bare_loop cell.loop) c (moves conn)))) (opened_is cell.loop.count c cell.loop.conns l)
            ∙ tested l (is_open cell.loop c) (moves (cell.loop.conns c))
        go (inr l) =
            let e : nat_lt c cell.loop.count ≡ false = le-ltb c cell.loop.count l in
            ap (λ b. with_loop (bare cell) (when (b && has_none_yet (opened_alone cell.loop.count cell.loop.conns c).cause) (moved_plain (bare_loop cell.loop) c (moves (opened_alone cell.loop.count cell.loop.conns c))))) e
            ∙ sym (ap (λ b. option_map bare (with_loop cell (when (b && has_none_yet (cell.loop.conns c).cause) (moved_plain cell.loop c (moves (cell.loop.conns c)))))) e)

    opens_bare : (max : ℕ) → with_loop (bare cell) (conn_event_plain max (bare_loop cell.loop) opens) ≡ option_map bare (with_loop cell (conn_event_plain max cell.loop opens))
    opens_bare max =
        ap (λ n. with_loop (bare cell) (when (nat_lt n most_connections) (Some (opened_plain (bare_loop cell.loop))))) (bare_among cell.loop.count cell.loop.conns cell.loop.count (omega arith))
        ∙ go (nat_lt (open_among cell.loop.conns cell.loop.count) most_connections)
      where
        go : (b : Bool) → with_loop (bare cell) (when b (Some (opened_plain (bare_loop cell.loop)))) ≡ option_map bare (with_loop cell (when b (Some (opened_plain cell.loop))))
        go true = ap (λ (loop : Loop). Some (record (bare cell) { loop = loop })) (bare_opened cell.loop)
        go false = refl

    -- what happens on a connection
    event_bare : (max : ℕ) (conn_event : ConnEvent) → with_loop (bare cell) (conn_event_plain max (bare_loop cell.loop) conn_event) ≡ option_map bare (with_loop cell (conn_event_plain max cell.loop conn_event))
    event_bare max opens = opens_bare max
    event_bare max (reads c bytes) = conn_bare c (reads_plain max c bytes)
    event_bare max (ends c) = conn_bare c (ends_plain c)
    event_bare max (fails_read c) = conn_bare c (fails_read_plain c)
    event_bare max (writes c count) = conn_bare c (writes_plain c count)
    event_bare max (fails_write c) = conn_bare c (fails_write_plain c)
    event_bare max (gives_up c cause) = conn_bare c (gives_up_plain c cause)

    -- a payload is submitted
    abbrev submitted_so : ℕ → LoopConn → List ℕ → Cell C A M
    submitted_so c conn payload =
        record {
          loop = changed (bare_loop cell.loop) c (submitted_more conn) [];
          hall = record cell.hall { jobs = cell.hall.jobs ++ job_of (key_of c conn.submitted) payload ∷ []; faults = 0 };
          workers = cell.workers;
        }

    abbrev submits_so : ℕ → LoopConn → Bool → Option (List ℕ) → Option (Cell C A M)
    submits_so c conn closed None = None
    submits_so c conn true (Some payload) = Some (bare cell)
    submits_so c conn false (Some payload) = Some (submitted_so c conn payload)

    submits_bare : (c : ℕ)
        → when (nat_lt c cell.loop.count)
        (submit_plain (bare cell) c cell.hall.closed (slice_get (opened_alone cell.loop.count cell.loop.conns c).payloads (opened_alone cell.loop.count cell.loop.conns c).submitted))
        ≡ option_map bare (when (nat_lt c cell.loop.count) (submit_plain cell c cell.hall.closed (slice_get (cell.loop.conns c).payloads (cell.loop.conns c).submitted)))
    submits_bare c = go (nat_lt c cell.loop.count) refl
      where
        as_so : (closed : Bool) (payload : Option (List ℕ)) → submit_plain (bare cell) c closed payload ≡ submits_so c (opened_alone cell.loop.count cell.loop.conns c) closed payload
        as_so closed None = refl
        as_so true (Some payload) = refl
        as_so false (Some payload) = refl

        so_bare : c < cell.loop.count → (closed : Bool) (payload : Option (List ℕ)) → submits_so c (cell.loop.conns c) closed payload ≡ option_map bare (submit_plain cell c closed payload)
        so_bare l closed None = refl
        so_bare l true (Some payload) = refl
        so_bare l false (Some payload) =
            ap (λ (loop : Loop). Some (record (submitted_so c (cell.loop.conns c) payload) { loop = loop })) (bare_changed cell.loop c (submitted_more (cell.loop.conns c)) [] l)

        go : (b : Bool) → nat_lt c cell.loop.count ≡ b
            → when b (submit_plain (bare cell) c cell.hall.closed (slice_get (opened_alone cell.loop.count cell.loop.conns c).payloads (opened_alone cell.loop.count cell.loop.conns c).submitted))
            ≡ option_map bare (when b (submit_plain cell c cell.hall.closed (slice_get (cell.loop.conns c).payloads (cell.loop.conns c).submitted)))
        go false e = refl
        go true e =
            let l : c < cell.loop.count = ltb-true c cell.loop.count e in
            let conn : LoopConn = opened_alone cell.loop.count cell.loop.conns c in
            as_so cell.hall.closed (slice_get conn.payloads conn.submitted)
            ∙ ap (λ (x : LoopConn). submits_so c x cell.hall.closed (slice_get x.payloads x.submitted)) (opened_is cell.loop.count c cell.loop.conns l)
            ∙ so_bare l cell.hall.closed (slice_get (cell.loop.conns c).payloads (cell.loop.conns c).submitted)

    -- an outcome is collected
    abbrev collected_reply : JobOutcome → List JobOutcome → LoopConn → Cell C A M
    collected_reply o later conn =
        record {
          loop = changed (bare_loop cell.loop) o.key.c (conn_settled conn.cause o.settled conn) (conn_marks_settled conn.cause o.key.c o.settled);
          hall = record cell.hall { outcomes = later; faults = 0 };
          workers = cell.workers;
        }

    collects_bare : (outcomes : List JobOutcome) → collect_plain (bare cell) outcomes ≡ option_map bare (collect_plain cell outcomes)
    collects_bare [] = refl
    collects_bare (o ∷ later) = go (nat_lt o.key.c cell.loop.count) refl
      where
        go : (b : Bool) → nat_lt o.key.c cell.loop.count ≡ b
            → when b (Some (collected_reply o later (opened_alone cell.loop.count cell.loop.conns o.key.c)))
            ≡ option_map bare (when b (Some (record cell {
              loop = changed cell.loop o.key.c (conn_settled (cell.loop.conns o.key.c).cause o.settled (cell.loop.conns o.key.c)) (conn_marks_settled (cell.loop.conns o.key.c).cause o.key.c o.settled);
              hall = record cell.hall { outcomes = later };
            })))
        go false e = refl
        go true e =
            let l : o.key.c < cell.loop.count = ltb-true o.key.c cell.loop.count e in
            let conn : LoopConn = cell.loop.conns o.key.c in
            ap (λ (x : LoopConn). Some (collected_reply o later x)) (opened_is cell.loop.count o.key.c cell.loop.conns l)
            ∙ ap (λ (loop : Loop). Some (record (collected_reply o later conn) { loop = loop }))
            (bare_changed cell.loop o.key.c (conn_settled conn.cause o.settled conn) (conn_marks_settled conn.cause o.key.c o.settled) l)

    takes_bare : (w : ℕ) (worker : WorkerState A) (jobs : List Job) → take_plain (bare cell) w worker jobs ≡ option_map bare (take_plain cell w worker jobs)
    takes_bare w idle [] = refl
    takes_bare w idle (job ∷ later) = refl
    takes_bare w (holds key payload) jobs = refl
    takes_bare w (has_answer key payload answer) jobs = refl
    takes_bare w (has_none key payload) jobs = refl

    outcome_bare : (w : ℕ) (key : Key) (settled : Option Settled) → outcome_plain (bare cell) w key settled ≡ option_map bare (outcome_plain cell w key settled)
    outcome_bare w key None = refl
    outcome_bare w key (Some settled) = refl

    puts_bare : (d : DeskRules C A) (w : ℕ) (worker : WorkerState A) → put_plain d (bare cell) w worker ≡ option_map bare (put_plain d cell w worker)
    puts_bare d w idle = refl
    puts_bare d w (holds key payload) = outcome_bare w key (settlement d (holds key payload))
    puts_bare d w (has_answer key payload answer) = outcome_bare w key (settlement d (has_answer key payload answer))
    puts_bare d w (has_none key payload) = refl

    lacks_bare : (w : ℕ) (key : Option Key) → lack_plain (bare cell) w key ≡ option_map bare (lack_plain cell w key)
    lacks_bare w None = refl
    lacks_bare w (Some key) = outcome_bare w key (Some Lack)

  module _ (d : DeskRules C A) (r : ServiceRules C A M) (cell : Cell C A M) where
    applies_bare : (w : ℕ) (result : ApplyResult) → KeepsJournal result → (worker : WorkerState A) → apply_plain d r (bare cell) w result worker ≡ option_map bare (apply_plain d r cell w result worker)
    applies_bare w result keeps idle = refl
    applies_bare w result keeps (has_answer key payload answer) = refl
    applies_bare w result keeps (has_none key payload) = refl
    applies_bare w result keeps (holds key payload) = by (d.decide payload)
      where
        at_memory : (call : C) (x : ApplyResult) (memory : Option M) → KeepsJournal x → apply_result_plain r (bare cell) w key payload call x memory ≡ option_map bare (apply_result_plain r cell w key payload call x memory)
        at_memory call answers (Some m) k = refl
        at_memory call lacks_for_answer (Some m) k = refl
        at_memory call answers None k = refl
        at_memory call lacks_for_answer None k = refl
        at_memory call lacks_for_call m k = refl
        at_memory call fails_journal m k = absurd k

        broken : (x : ApplyResult) → broken_plain (bare cell) w key payload x ≡ option_map bare (broken_plain cell w key payload x)
        broken answers = refl
        broken lacks_for_call = refl
        broken lacks_for_answer = refl
        broken fails_journal = refl

        either : (b : Bool) (x y x' y' : Option (Cell C A M)) → x' ≡ option_map bare x → y' ≡ option_map bare y → (if b then x' else y') ≡ option_map bare (if b then x else y)
        either true x y x' y' a b = a
        either false x y x' y' a b = b

        by : (decision : DeskDecision C) → call_plain r (bare cell) w key payload result decision ≡ option_map bare (call_plain r cell w key payload result decision)
        by (Invoke call) =
            either cell.hall.broken _ _ _ _ (broken result) (at_memory call result (slice_get cell.hall.memories (r.slot call)) keeps)
        by (Close fault) = refl
        by Silent = refl
        by (Reply reply) = refl

    -- what it is told does the same to it
    pub told_bare : (told : Told) → TellsNoFault told → told_plain d r (bare cell) told ≡ option_map bare (told_plain d r cell told)
    told_bare (goes (on_conn conn_event)) t = event_bare cell d.max conn_event
    told_bare (goes (submits c)) t = submits_bare cell c
    told_bare (goes (takes w)) t = takes_bare cell w (cell.workers w) cell.hall.jobs
    told_bare (goes (applies w)) t = applies_bare w answers tt (cell.workers w)
    told_bare (goes (puts w)) t = puts_bare cell d w (cell.workers w)
    told_bare (goes collects) t = collects_bare cell cell.hall.outcomes
    told_bare (goes closes) t = refl
    told_bare (applies_so w result) t = applies_bare w result t (cell.workers w)
    told_bare (puts_none w) t = lacks_bare cell w (key_held (cell.workers w))

  -- before anything was done the same shows, where the memories are the same
  pub firsts_show : (memories : List M) (first other : Cell C A M) → IsFirst memories first → IsFirst memories other → ShowTheSame first other
  firsts_show memories first other one two =
      record {
        tape = one.tape ∙ sym two.tape;
        count = one.count ∙ sym two.count;
        conns = λ c l. absurd (let f : ⊥ = omega (arith, one.count) in f);
        hall = λ i. record {
          jobs = (two.hall.opened.jobs ∙ sym one.hall.opened.jobs) i;
          taken = (two.hall.opened.taken ∙ sym one.hall.opened.taken) i;
          outcomes = (two.hall.opened.outcomes ∙ sym one.hall.opened.outcomes) i;
          memories = (two.hall.memories ∙ sym one.hall.memories) i;
          journal = (two.hall.journal ∙ sym one.hall.journal) i;
          faults = other.hall.faults;
          closed = (two.hall.opened.closed ∙ sym one.hall.opened.closed) i;
          broken = (two.hall.opened.broken ∙ sym one.hall.opened.broken) i;
        };
        workers = λ w. one.workers w ∙ sym (two.workers w);
      }

  -- where the same shows of two, they are the same without what doesn't
  pub bare_by : (one other : Cell C A M) → ShowTheSame one other → bare one ≡ bare other
  bare_by one other s = λ i. record {
    loop = record { tape = s.tape i; count = s.count i; conns = conns i };
    hall = sym (ap (λ (hall : HallState C A M). record hall { faults = 0 }) s.hall) i;
    workers = workers i;
  }
    where
      at_each : (x : ℕ) → (x < one.loop.count) ⊎ (one.loop.count ≤ x) → opened_alone one.loop.count one.loop.conns x ≡ opened_alone other.loop.count other.loop.conns x
      at_each x (inl l) = opened_is one.loop.count x one.loop.conns l ∙ s.conns x l ∙ sym (opened_is other.loop.count x other.loop.conns (omega (arith, s.count)))
      at_each x (inr l) = unopened_is one.loop.count x one.loop.conns l ∙ sym (unopened_is other.loop.count x other.loop.conns (omega (arith, s.count)))

      conns : opened_alone one.loop.count one.loop.conns ≡ opened_alone other.loop.count other.loop.conns
      conns = fun_ext (λ x. at_each x (cases_lt x one.loop.count))

      workers : one.workers ≡ other.workers
      workers = fun_ext s.workers

  -- each move of a connection leaves as many
  abbrev pub StillOpened : ℕ → Option (Cell C A M) → Type 0
  StillOpened c None = Unit {0}
  StillOpened c (Some cell) = c < cell.loop.count

  pub still_opened : (cell : Cell C A M) (c : ℕ) (moved : Moved) → c < cell.loop.count → StillOpened c (with_loop cell (when (is_open cell.loop c) (moved_plain cell.loop c moved)))
  still_opened cell c moved l = go (is_open cell.loop c) moved
    where
      go : (b : Bool) (m : Moved) → StillOpened c (with_loop cell (when b (moved_plain cell.loop c m)))
      go true None = tt
      go true (Some m) = l
      go false m = tt
