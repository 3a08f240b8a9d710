-- What the machine is told adds marks to its tape and entries to its journal; where it isn't told of a write, none of the marks is of one.
use Rattle.std.proofs.Common.{◌≡◌, ℕ, nat_lt, Bool, true, false, if◌then◌else◌, Option, None, Some, List, [], ◌∷◌, ◌++◌, slice_get, refl, sym, ◌∙◌, append-nil}
use Rattle.std.specs.List.{AllByRecursion}
use Rattle.streams.specs.declared.outcomes.Settled.{Settled}
use Rattle.streams.specs.declared.outcomes.Settled.TheVariants.{Reply as Replied, Nothing, Close as Closes, NoMemory as Lack}
use Rattle.streams.specs.declared.marks.Mark.{Mark}
use Rattle.streams.specs.declared.marks.Mark.TheVariants.{Opened}
use Rattle.host_model.specs.declared.key.Key.{Key}
use Rattle.host_model.specs.declared.cause.EndCause.{EndCause}
use Rattle.host_model.specs.Journal.{JournalEntry, ServiceRules}
use Rattle.host_model.specs.DeskRules.{DeskRules, DeskDecision, Close, Silent, Reply, Invoke}
use Rattle.machine_model.specs.HallState.{Job, JobOutcome}
use Rattle.machine_model.specs.HallRule.{entry_under}
use Rattle.machine_model.specs.Loop.{LoopConn, open_among, most_connections, FrameProgress, part, bad_size, whole, conn_marks_settled, ConnEvent, opens, reads, ends, fails_read, writes, fails_write, gives_up}
use Rattle.machine_model.specs.Worker.{WorkerState, idle, holds, has_answer, has_none, settlement, key_held}
use Rattle.machine_model.specs.Machine.{Cell, on_conn, submits, takes, applies, puts, collects, closes}
use Rattle.machine_model.specs.Plain.{when, is_given_up, is_open, owes_nothing, opened_plain, Moved, progress_plain, reads_plain, ends_plain, fails_read_plain, gives_up_plain, moved_plain, progress_by, ApplyResult, answers, lacks_for_call, lacks_for_answer, fails_journal, Told, goes, applies_so, puts_none, with_loop, submit_plain, take_plain, apply_result_plain, broken_plain, call_plain, apply_plain, outcome_plain, put_plain, lack_plain, collect_plain, told_plain}
use Rattle.script_model.specs.Writing.{write_in}

-- none of these marks is of a write
abbrev pub AreNoWrites : List Mark → Type 0
AreNoWrites marks = AllByRecursion (λ m. write_in m ≡ 0) marks

-- it isn't told of a write
abbrev pub TellsNoWrite : Told → Type 0
TellsNoWrite (goes (on_conn (writes c count))) = ⊥
TellsNoWrite (goes (on_conn (fails_write c))) = ⊥
TellsNoWrite _ = Unit {0}

-- from old to new the tape and the journal have grown, by marks that are no writes
pub record Grows {C A M : Type 0} (old new : Cell C A M) : Type 0 where
  pub marks : List Mark
  pub none : AreNoWrites marks
  pub tape : new.loop.tape ≡ old.loop.tape ++ marks
  pub entries : List (JournalEntry C A)
  pub journal : new.hall.journal ≡ old.hall.journal ++ entries

-- what comes of a cell, where something does, has grown so
abbrev pub Growing : {C A M : Type 0} → Cell C A M → Option (Cell C A M) → Type 0
Growing old None = Unit {0}
Growing old (Some new) = Grows old new

-- the marks of a connection that has moved are no writes
abbrev MovesQuietly : Moved → Type 0
MovesQuietly None = Unit {0}
MovesQuietly (Some moved) = AreNoWrites moved.1

read_quietly : (c : ℕ) (conn : LoopConn) (bytes : List ℕ) (b : Bool) (progress : Option FrameProgress) → MovesQuietly (when b (progress_plain c conn bytes progress))
read_quietly c conn bytes false progress = tt
read_quietly c conn bytes true None = tt
read_quietly c conn bytes true (Some part) = (refl, tt)
read_quietly c conn bytes true (Some (bad_size size)) = (refl, (refl, tt))
read_quietly c conn bytes true (Some (whole payload)) = (refl, tt)

quietly_where : (b : Bool) (moved : Moved) → MovesQuietly moved → MovesQuietly (when b moved)
quietly_where true moved q = q
quietly_where false moved q = tt

settled_quietly : (cause : Option EndCause) (c : ℕ) (settled : Settled) → AreNoWrites (conn_marks_settled cause c settled)
settled_quietly None c (Replied reply) = tt
settled_quietly None c Nothing = tt
settled_quietly None c (Closes fault) = (refl, tt)
settled_quietly None c Lack = (refl, tt)
settled_quietly (Some cause) c settled = tt

module _ {C A M : Type 0} where
  -- nothing is added to the tape, or to the journal
  no_marks : (old new : Cell C A M) (entries : List (JournalEntry C A)) → new.loop.tape ≡ old.loop.tape → new.hall.journal ≡ old.hall.journal ++ entries → Grows old new
  no_marks old new entries tape journal =
      record { marks = []; none = tt; tape = tape ∙ sym (append-nil old.loop.tape); entries = entries; journal = journal }

  no_entries : (old new : Cell C A M) (marks : List Mark) → AreNoWrites marks → new.loop.tape ≡ old.loop.tape ++ marks → new.hall.journal ≡ old.hall.journal → Grows old new
  no_entries old new marks none tape journal =
      record { marks = marks; none = none; tape = tape; entries = []; journal = journal ∙ sym (append-nil old.hall.journal) }

  nothing : (old new : Cell C A M) → new.loop.tape ≡ old.loop.tape → new.hall.journal ≡ old.hall.journal → Grows old new
  nothing old new tape journal = no_marks old new [] tape (journal ∙ sym (append-nil old.hall.journal))

  where_so : (old : Cell C A M) (b : Bool) (o : Option (Cell C A M)) → Growing old o → Growing old (when b o)
  where_so old true o g = g
  where_so old false o g = tt

  moved_so : (old : Cell C A M) (c : ℕ) (b : Bool) (moved : Moved) → MovesQuietly moved → Growing old (with_loop old (when b (moved_plain old.loop c moved)))
  moved_so old c false moved q = tt
  moved_so old c true None q = tt
  moved_so old c true (Some moved) q = no_entries old _ moved.1 q refl refl

  opened_so : (old : Cell C A M) (b : Bool) → Growing old (with_loop old (when b (Some (opened_plain old.loop))))
  opened_so old false = tt
  opened_so old true = no_entries old _ (Opened old.loop.count ∷ []) (refl, tt) refl refl

  submit_so : (old : Cell C A M) (c : ℕ) (closed : Bool) (payload : Option (List ℕ)) → Growing old (submit_plain old c closed payload)
  submit_so old c closed None = tt
  submit_so old c true (Some payload) = nothing old old refl refl
  submit_so old c false (Some payload) = no_entries old _ [] tt refl refl

  take_so : (old : Cell C A M) (w : ℕ) (worker : WorkerState A) (jobs : List Job) → Growing old (take_plain old w worker jobs)
  take_so old w idle [] = nothing old _ refl refl
  take_so old w idle (job ∷ later) = nothing old _ refl refl
  take_so old w (holds key payload) jobs = tt
  take_so old w (has_answer key payload answer) jobs = tt
  take_so old w (has_none key payload) jobs = tt

  outcome_so : (old : Cell C A M) (w : ℕ) (key : Key) (settled : Option Settled) → Growing old (outcome_plain old w key settled)
  outcome_so old w key None = tt
  outcome_so old w key (Some settled) = nothing old _ refl refl

  lack_so : (old : Cell C A M) (w : ℕ) (key : Option Key) → Growing old (lack_plain old w key)
  lack_so old w None = tt
  lack_so old w (Some key) = outcome_so old w key (Some Lack)

  collect_so : (old : Cell C A M) (outcomes : List JobOutcome) → Growing old (collect_plain old outcomes)
  collect_so old [] = nothing old old refl refl
  collect_so old (o ∷ later) =
      where_so old (nat_lt o.key.c old.loop.count) (Some _)
      (no_entries old _ (conn_marks_settled (old.loop.conns o.key.c).cause o.key.c o.settled) (settled_quietly (old.loop.conns o.key.c).cause o.key.c o.settled) refl refl)

  module _ (d : DeskRules C A) (r : ServiceRules C A M) where
    result_so : (old : Cell C A M) (w : ℕ) (key : Key) (payload : List ℕ) (call : C) (result : ApplyResult) (m : Option M)
        → Growing old (apply_result_plain r old w key payload call result m)
    result_so old w key payload call answers None = tt
    result_so old w key payload call answers (Some m) = no_marks old _ (entry_under key call (r.rule call m).0 ∷ []) refl refl
    result_so old w key payload call lacks_for_answer None = tt
    result_so old w key payload call lacks_for_answer (Some m) = no_marks old _ (entry_under key call (r.rule call m).0 ∷ []) refl refl
    result_so old w key payload call lacks_for_call m = nothing old _ refl refl
    result_so old w key payload call fails_journal m = nothing old _ refl refl

    broken_so : (old : Cell C A M) (w : ℕ) (key : Key) (payload : List ℕ) (result : ApplyResult) → Growing old (broken_plain old w key payload result)
    broken_so old w key payload answers = nothing old _ refl refl
    broken_so old w key payload lacks_for_answer = tt
    broken_so old w key payload lacks_for_call = tt
    broken_so old w key payload fails_journal = tt

    call_so : (old : Cell C A M) (w : ℕ) (key : Key) (payload : List ℕ) (result : ApplyResult) (decision : DeskDecision C) → Growing old (call_plain r old w key payload result decision)
    call_so old w key payload result (Invoke call) = go old.hall.broken
      where
        go : (b : Bool) → Growing old (if b then broken_plain old w key payload result else apply_result_plain r old w key payload call result (slice_get old.hall.memories (r.slot call)))
        go true = broken_so old w key payload result
        go false = result_so old w key payload call result (slice_get old.hall.memories (r.slot call))
    call_so old w key payload result (Close fault) = tt
    call_so old w key payload result Silent = tt
    call_so old w key payload result (Reply reply) = tt

    apply_so : (old : Cell C A M) (w : ℕ) (result : ApplyResult) (worker : WorkerState A) → Growing old (apply_plain d r old w result worker)
    apply_so old w result (holds key payload) = call_so old w key payload result (d.decide payload)
    apply_so old w result idle = tt
    apply_so old w result (has_answer key payload answer) = tt
    apply_so old w result (has_none key payload) = tt

    put_so : (old : Cell C A M) (w : ℕ) (worker : WorkerState A) → Growing old (put_plain d old w worker)
    put_so old w idle = tt
    put_so old w (holds key payload) = outcome_so old w key (settlement d (holds key payload))
    put_so old w (has_answer key payload answer) = outcome_so old w key (settlement d (has_answer key payload answer))
    put_so old w (has_none key payload) = tt

    event_so : (old : Cell C A M) (conn_event : ConnEvent) → TellsNoWrite (goes (on_conn conn_event)) → Growing old (told_plain d r old (goes (on_conn conn_event)))
    event_so old opens q = opened_so old (nat_lt (open_among old.loop.conns old.loop.count) most_connections)
    event_so old (reads c bytes) q =
        moved_so old c (is_open old.loop c) (reads_plain d.max c bytes (old.loop.conns c))
        (read_quietly c (old.loop.conns c) bytes _ (progress_by d.max ((old.loop.conns c).held ++ bytes)))
    event_so old (ends c) q =
        moved_so old c (is_open old.loop c) (ends_plain c (old.loop.conns c)) (quietly_where (owes_nothing (old.loop.conns c)) (Some _) (refl, (refl, tt)))
    event_so old (fails_read c) q =
        moved_so old c (is_open old.loop c) (fails_read_plain c (old.loop.conns c)) (quietly_where (owes_nothing (old.loop.conns c)) (Some _) (refl, (refl, tt)))
    event_so old (writes c count) q = absurd q
    event_so old (fails_write c) q = absurd q
    event_so old (gives_up c cause) q =
        moved_so old c (is_open old.loop c) (gives_up_plain c cause (old.loop.conns c)) (quietly_where (is_given_up cause) (Some _) (refl, tt))

    pub grows_so : (old : Cell C A M) (told : Told) → TellsNoWrite told → Growing old (told_plain d r old told)
    grows_so old (goes (on_conn conn_event)) q = event_so old conn_event q
    grows_so old (goes (submits c)) q =
        where_so old (nat_lt c old.loop.count) (submit_plain old c old.hall.closed (slice_get (old.loop.conns c).payloads (old.loop.conns c).submitted))
        (submit_so old c old.hall.closed (slice_get (old.loop.conns c).payloads (old.loop.conns c).submitted))
    grows_so old (goes (takes w)) q = take_so old w (old.workers w) old.hall.jobs
    grows_so old (goes (applies w)) q = apply_so old w answers (old.workers w)
    grows_so old (goes (puts w)) q = put_so old w (old.workers w)
    grows_so old (goes collects) q = collect_so old old.hall.outcomes
    grows_so old (goes closes) q = nothing old _ refl refl
    grows_so old (applies_so w result) q = apply_so old w result (old.workers w)
    grows_so old (puts_none w) q = lack_so old w (key_held (old.workers w))
