-- What a moment of rest tells: the journal goes on after it with calls of later payloads alone.
use Rattle.std.proofs.Common.{◌≡◌, ℕ, zero, suc, ◌+◌, ◌<◌, ◌≤◌, ◌^◌, ◌⊎◌, None, Some, List, [], ◌∷◌, ◌++◌, length, slice_get, refl, sym, ap, ◌∙◌, subst, inl, inr, ⊎_elim, arith, append_assoc, append-nil, length-append}
use Rattle.std.specs.List.{AllByRecursion, flat_map}
use Rattle.std.specs.Int.{w32, to_be_bytes}
use Rattle.std.proofs.lemmas.Bool.{cases_eq, cases_lt}
use Rattle.std.proofs.lemmas.Option.{none-some, same_Some}
use Rattle.std.proofs.lemmas.Grind.{flat_map-append}
use Rattle.streams.specs.declared.marks.Mark.{Mark}
use Rattle.host_model.specs.declared.key.Key.{Key}
use Rattle.host_model.specs.Frames.{Frames, frame}
use Rattle.host_model.specs.Marks.{marks_of, input, output}
use Rattle.host_model.specs.Journal.{JournalEntry, ServiceRules, entries_of}
use Rattle.host_model.specs.DeskRules.{DeskRules}
use Rattle.host_model.specs.Conversation.{sent}
use Rattle.host_model.specs.OrderBetween.{IsWhole}
use Rattle.host_model.specs.World.{World, Act, ReachedBy, Moment}
use Rattle.host_model.proofs.Lists.{all_push, all-append}
use Rattle.host_model.proofs.Framing.{only_split, a_split}
use Rattle.host_model.proofs.Replies.{sent_kept}
use Rattle.host_model.proofs.Filters.{entries_same, entries_other, of_entry}
use Rattle.streams.specs.declared.outcomes.Settled.{Settled}
use Rattle.streams.specs.declared.outcomes.Settled.TheVariants.{Reply, Nothing, Close as Refused, NoMemory}
use Rattle.machine_model.specs.HallState.{key_of, HallState}
use Rattle.machine_model.specs.HallRule.{HallOperation, submit, take_job, apply, put, collect, close, HallAnswer, done, job, empty, is_closed, applied, no_memory, journal_fault, is_broken, outcome, entry_under, TakesEffect, ApplyGives, HallGives}
use Rattle.machine_model.specs.Determined.{IsApply}
use Rattle.machine_model.specs.Loop.{LoopConn, new_conn, Loop, IsOpen, FrameProgress, part, bad_size, whole, read_more, with_conn, changed, ConnEvent, opens, reads, ends, fails_read, writes, fails_write, gives_up, Happens, conn_settled, LoopAsks}
use Rattle.machine_model.specs.Worker.{WorkerState, holds, key_held}
use Rattle.machine_model.specs.Machine.{Cell, with_worker, MachineEvent, on_conn, submits, takes, applies, puts, collects, closes, ByWorker, Steps, EventsLead, IsFirst}
use Rattle.machine_model.specs.Places.{PayloadPlace, collected_all, held_by, jobs_of, outcomes_of, Carries, PayloadIsAt, WhatIsWritten, CellKeeps}
use Rattle.machine_model.specs.Resting.{IsAtRest, IsPlaceOfRest}
use Rattle.machine_model.proofs.Lists.{put_same, put_other}
use Rattle.machine_model.proofs.Standing.{Sim, clear_by_count}
use Rattle.machine_model.proofs.Running.{step_kept, reaches, keeps}
use Rattle.machine_model.proofs.Taping.{TapeTells, open_on_tape}
use Rattle.machine_model.proofs.Budgeting.{run_tells}
use Rattle.machine_model.proofs.Ending.{calls_done, numbers_below}

-- what is collected of each connection, where one changes
module _ (old : Loop) where
  -- no connection has fewer collected than it had
  record NoneLess (new : Loop) : Type 0 where
    count : old.count ≤ new.count
    collected : (c : ℕ) → c < old.count → (old.conns c).collected ≤ (new.conns c).collected

  all_same : NoneLess old
  all_same = record { count = omega arith; collected = λ c l. omega arith }

  changed_more : (c : ℕ) (conn : LoopConn) (marks : List Mark) → (old.conns c).collected ≤ conn.collected → NoneLess (changed old c conn marks)
  changed_more c conn marks less = record { count = omega arith; collected = λ x l. go x (cases_eq x c) }
    where
      go : (x : ℕ) → (x ≡ c) ⊎ (x ≡ c → ⊥) → (old.conns x).collected ≤ (with_conn old.conns c conn x).collected
      go x (inl e) =
          subst (λ y. (old.conns y).collected ≤ (with_conn old.conns c conn y).collected) (sym e)
          (subst (λ (k : LoopConn). (old.conns c).collected ≤ k.collected) (sym (put_same old.conns c conn)) less)
      go x (inr n) = subst (λ (k : LoopConn). (old.conns x).collected ≤ k.collected) (sym (put_other old.conns c conn x n)) (omega arith)

  opened_more : (tape : List Mark) → NoneLess (record { tape = tape; count = suc old.count; conns = with_conn old.conns old.count new_conn })
  opened_more tape =
      record {
        count = omega arith;
        collected = λ x l.
            subst (λ (k : LoopConn). (old.conns x).collected ≤ k.collected) (sym (put_other old.conns old.count new_conn x (λ e. let f : ⊥ = omega arith in f))) (omega arith);
      }

  read_more_collected : (c : ℕ) (bytes : List ℕ) (progress : FrameProgress) (marks : List Mark) → NoneLess (changed old c (read_more (old.conns c) bytes progress) marks)
  read_more_collected c bytes part marks = changed_more c _ marks (omega arith)
  read_more_collected c bytes (bad_size size) marks = changed_more c _ marks (omega arith)
  read_more_collected c bytes (whole payload) marks = changed_more c _ marks (omega arith)

  event_more : (max : ℕ) (conn_event : ConnEvent) (new : Loop) → Happens max old conn_event new → NoneLess new
  event_more max opens new h = subst NoneLess (sym h.1) (opened_more _)
  event_more max (reads c bytes) new h = subst NoneLess (sym h.6) (read_more_collected c bytes h.0 _)
  event_more max (ends c) new h = subst NoneLess (sym h.2) (changed_more c _ _ (omega arith))
  event_more max (fails_read c) new h = subst NoneLess (sym h.2) (changed_more c _ _ (omega arith))
  event_more max (writes c count) new h = subst NoneLess (sym h.3) (changed_more c _ _ (omega arith))
  event_more max (fails_write c) new h = subst NoneLess (sym h.2) (changed_more c _ _ (omega arith))
  event_more max (gives_up c cause) new h = subst NoneLess (sym h.2) (changed_more c _ _ (omega arith))

  settled_more : (c : ℕ) (settled : Settled) (marks : List Mark) (cause : _) → NoneLess (changed old c (conn_settled cause settled (old.conns c)) marks)
  settled_more c (Reply reply) marks None = changed_more c _ marks (omega arith)
  settled_more c Nothing marks None = changed_more c _ marks (omega arith)
  settled_more c (Refused fault) marks None = changed_more c _ marks (omega arith)
  settled_more c NoMemory marks None = changed_more c _ marks (omega arith)
  settled_more c settled marks (Some cause) = changed_more c _ marks (omega arith)

  ask_more : {C A : Type 0} (op : HallOperation C) (answer : HallAnswer A) (new : Loop) → LoopAsks old op answer new → NoneLess new
  ask_more (submit key payload) done new h = subst NoneLess (sym h.3) (changed_more key.c _ _ (omega arith))
  ask_more (submit key payload) (job k p) new h = subst NoneLess (sym h.3) all_same
  ask_more (submit key payload) empty new h = subst NoneLess (sym h.3) all_same
  ask_more (submit key payload) is_closed new h = subst NoneLess (sym h.3) all_same
  ask_more (submit key payload) (applied reply) new h = subst NoneLess (sym h.3) all_same
  ask_more (submit key payload) no_memory new h = subst NoneLess (sym h.3) all_same
  ask_more (submit key payload) journal_fault new h = subst NoneLess (sym h.3) all_same
  ask_more (submit key payload) is_broken new h = subst NoneLess (sym h.3) all_same
  ask_more (submit key payload) (outcome k z) new h = subst NoneLess (sym h.3) all_same
  ask_more collect (outcome key settled) new h = subst NoneLess (sym h) (settled_more key.c settled _ (old.conns key.c).cause)
  ask_more collect done new h = subst NoneLess (sym h) all_same
  ask_more collect (job k p) new h = subst NoneLess (sym h) all_same
  ask_more collect empty new h = subst NoneLess (sym h) all_same
  ask_more collect is_closed new h = subst NoneLess (sym h) all_same
  ask_more collect (applied reply) new h = subst NoneLess (sym h) all_same
  ask_more collect no_memory new h = subst NoneLess (sym h) all_same
  ask_more collect journal_fault new h = subst NoneLess (sym h) all_same
  ask_more collect is_broken new h = subst NoneLess (sym h) all_same
  ask_more close answer new h = subst NoneLess (sym h) all_same
  ask_more take_job answer new h = absurd h
  ask_more (apply key call) answer new h = absurd h
  ask_more (put key settled) answer new h = absurd h

none_less_then : (mid old new : Loop) → NoneLess mid old → NoneLess old new → NoneLess mid new
none_less_then mid old new a b =
    let ac : mid.count ≤ old.count = a.count in
    let bc : old.count ≤ new.count = b.count in
    record {
      count = omega arith;
      collected = λ c l.
          let x : (mid.conns c).collected ≤ (old.conns c).collected = a.collected c l in
          let y : (old.conns c).collected ≤ (new.conns c).collected = b.collected c (omega arith) in
          omega arith;
    }

module _ {C A M : Type 0} where
  abbrev journal_in : HallState C A M → List (JournalEntry C A)
  journal_in hall = hall.journal

  -- an operation other than Apply leaves the journal
  journal_same : (r : ServiceRules C A M) (old : HallState C A M) (op : HallOperation C) (answer : HallAnswer A) (new : HallState C A M) → HallGives r old op answer new → (IsApply op → ⊥)
      → new.journal ≡ old.journal
  journal_same r old (submit key payload) done new t n = ap journal_in t.1
  journal_same r old (submit key payload) is_closed new t n = ap journal_in t.1
  journal_same r old (submit key payload) _ new t n = absurd t
  journal_same r old take_job (job k p) new t n = ap journal_in t.2
  journal_same r old take_job empty new t n = ap journal_in t.2
  journal_same r old take_job is_closed new t n = ap journal_in t.2
  journal_same r old take_job _ new t n = absurd t
  journal_same r old (apply key call) answer new t n = absurd (n tt)
  journal_same r old (put key settled) done new t n = ap journal_in t
  journal_same r old (put key settled) _ new t n = absurd t
  journal_same r old collect (outcome k s) new t n = ap journal_in t.2
  journal_same r old collect empty new t n = ap journal_in t.2
  journal_same r old collect is_closed new t n = ap journal_in t.2
  journal_same r old collect _ new t n = absurd t
  journal_same r old close done new t n = ap journal_in t
  journal_same r old close _ new t n = absurd t

  -- an Apply leaves it, or adds the entry of its key
  abbrev MayEnter : HallState C A M → Key → HallState C A M → Type 0
  MayEnter old key new = (new.journal ≡ old.journal) ⊎ ((e : JournalEntry C A) × (e.key ≡ key) × (new.journal ≡ old.journal ++ e ∷ []))

  journal_more : (r : ServiceRules C A M) (old : HallState C A M) (key : Key) (call : C) (faults : ℕ) (answer : HallAnswer A) (new : HallState C A M)
      → ApplyGives r old key call faults answer new → MayEnter old key new
  journal_more r old key call faults (applied answer) new t = inr (entry_under key call answer, refl, ap journal_in t.1.1)
  journal_more r old key call faults no_memory new t = go t.1
    where
      go : (new ≡ record old { faults = faults }) ⊎ ((answer : A) × TakesEffect r old key call answer faults new) → MayEnter old key new
      go (inl e) = inl (ap journal_in e)
      go (inr u) = inr (entry_under key call u.0, refl, ap journal_in u.1.1)
  journal_more r old key call faults journal_fault new t = inl (ap journal_in t.2)
  journal_more r old key call faults is_broken new t = inl (ap journal_in t.1)
  journal_more r old key call faults _ new t = absurd t

  -- After a moment of a run: nothing is collected less, and the entries that came since are of payloads that weren't collected then.
  record IsBehind (mid cell : Cell C A M) : Type 0 where
    less : NoneLess mid.loop cell.loop
    entries : List (JournalEntry C A)
    journal : cell.hall.journal ≡ mid.hall.journal ++ entries
    later : AllByRecursion (λ (e : JournalEntry C A). e.key.c < mid.loop.count → (mid.loop.conns e.key.c).collected ≤ e.key.i) entries

  -- no entry is added
  behind_quiet : (mid old new : Cell C A M) → IsBehind mid old → NoneLess old.loop new.loop → new.hall.journal ≡ old.hall.journal → IsBehind mid new
  behind_quiet mid old new b less same =
      record { less = none_less_then mid.loop old.loop new.loop b.less less; entries = b.entries; journal = same ∙ b.journal; later = b.later }

  -- one is added
  behind_entered : (mid old new : Cell C A M) (e : JournalEntry C A) → IsBehind mid old → NoneLess old.loop new.loop → new.hall.journal ≡ old.hall.journal ++ e ∷ []
      → (e.key.c < mid.loop.count → (mid.loop.conns e.key.c).collected ≤ e.key.i) → IsBehind mid new
  behind_entered mid old new e b less more is_later =
      record {
        less = none_less_then mid.loop old.loop new.loop b.less less;
        entries = b.entries ++ e ∷ [];
        journal = more ∙ ap (λ j. j ++ e ∷ []) b.journal ∙ append_assoc mid.hall.journal b.entries (e ∷ []);
        later = all_push (λ (x : JournalEntry C A). x.key.c < mid.loop.count → (mid.loop.conns x.key.c).collected ≤ x.key.i) b.entries e b.later is_later;
      }

module _ {C A M : Type 0} (d : DeskRules C A) (r : ServiceRules C A M) (opening : List M)
    (all : (acts : List (Act C A)) (world : World C A) → ReachedBy d r opening acts world → Moment d r opening world) (small : d.max < 2 ^ 31) where
  -- the key that a worker holds is that of the first payload of its connection that isn't collected
  held_number : (old : Cell C A M) (s : Sim d r opening old) (w : ℕ) (key : Key) (payload : List ℕ) → old.workers w ≡ holds key payload
      → (key.c < old.loop.count) × (key.i ≡ (old.loop.conns key.c).collected)
  held_number old s w key payload e =
      let t : (key.c < old.loop.count) × (s.place key.c ≡ held_by w) = s.workers w key (ap key_held e) in
      let a : PayloadIsAt d old.workers (jobs_of key.c old.hall.jobs) (outcomes_of key.c old.hall.outcomes) (entries_of key.c old.hall.journal) key.c (old.loop.conns key.c) (held_by w) =
      subst (PayloadIsAt d old.workers (jobs_of key.c old.hall.jobs) (outcomes_of key.c old.hall.outcomes) (entries_of key.c old.hall.journal) key.c (old.loop.conns key.c)) t.1 (s.at key.c t.0) in
      let k : key ≡ key_of key.c (length a.0) = (subst (λ (x : WorkerState A). Carries d (entries_of key.c old.hall.journal) (key_of key.c (length a.0)) a.0 a.1 x) e a.6).0 in
      (t.0, ap (λ (x : Key). x.i) k ∙ sym a.2.collected)

  step_behind : (mid old new : Cell C A M) (event : MachineEvent) → Sim d r opening old → Steps d r old event new → IsBehind mid old → IsBehind mid new
  step_behind mid old new (on_conn conn_event) s t b =
      subst (IsBehind mid) (sym t.2) (behind_quiet mid old (record old { loop = t.0 }) b (event_more old.loop d.max conn_event t.0 t.1) refl)
  step_behind mid old new (submits c) s t b =
      subst (IsBehind mid) (sym t.2.5)
      (behind_quiet mid old (record old { loop = t.2.1; hall = t.2.2 }) b (ask_more old.loop {C = C} (submit _ t.1) t.2.0 t.2.1 t.2.3)
      (journal_same r old.hall (submit _ t.1) t.2.0 t.2.2 t.2.4 (λ x. x)))
  step_behind mid old new (takes w) s t b =
      subst (IsBehind mid) (sym t.5) (behind_quiet mid old (record old { hall = t.2; workers = _ }) b (all_same old.loop) (journal_same r old.hall take_job t.0 t.2 t.4 (λ x. x)))
  step_behind mid old new (applies w) s t b =
      let u : ByWorker d r old w (apply t.0 t.1) new = t.2 in
      let k : (t.0.c < old.loop.count) × (t.0.i ≡ (old.loop.conns t.0.c).collected) = held_number old s w t.0 u.3.0 u.3.1 in
      subst (IsBehind mid) (sym u.5) (go u.2 u.1 k (journal_more r old.hall t.0 t.1 u.4.0 u.0 u.2 u.4.2))
    where
      go : (hall : HallState C A M) (worker : WorkerState A) → (t.0.c < old.loop.count) × (t.0.i ≡ (old.loop.conns t.0.c).collected) → MayEnter old.hall t.0 hall
          → IsBehind mid (record old { hall = hall; workers = with_worker old.workers w worker })
      go hall worker k (inl same) = behind_quiet mid old (record old { hall = hall; workers = _ }) b (all_same old.loop) same
      go hall worker k (inr e) =
          behind_entered mid old (record old { hall = hall; workers = _ }) e.0 b (all_same old.loop) e.2
          (subst (λ (x : Key). x.c < mid.loop.count → (mid.loop.conns x.c).collected ≤ x.i) (sym e.1)
          (λ l. let m : (mid.loop.conns t.0.c).collected ≤ (old.loop.conns t.0.c).collected = b.less.collected t.0.c l in let i : t.0.i ≡ (old.loop.conns t.0.c).collected = k.1 in omega arith))
  step_behind mid old new (puts w) s t b =
      subst (IsBehind mid) (sym t.2.5)
      (behind_quiet mid old (record old { hall = t.2.2; workers = _ }) b (all_same old.loop) (journal_same r old.hall (put t.0 t.1) t.2.0 t.2.2 t.2.4 (λ x. x)))
  step_behind mid old new collects s t b =
      subst (IsBehind mid) (sym t.5)
      (behind_quiet mid old (record old { loop = t.1; hall = t.2 }) b (ask_more old.loop {C = C} collect t.0 t.1 t.3) (journal_same r old.hall collect t.0 t.2 t.4 (λ x. x)))
  step_behind mid old new closes s t b =
      subst (IsBehind mid) (sym t.5)
      (behind_quiet mid old (record old { loop = t.1; hall = t.2 }) b (ask_more old.loop {C = C} close t.0 t.1 t.3) (journal_same r old.hall close t.0 t.2 t.4 (λ x. x)))

  run_behind : (mid old new : Cell C A M) (events : List MachineEvent) → Sim d r opening old → EventsLead d r old events new → IsBehind mid old → IsBehind mid new
  run_behind mid old new [] s t b = subst (IsBehind mid) (sym t) b
  run_behind mid old new (event ∷ events) s t b =
      run_behind mid t.0 new events (step_kept d r opening all small old t.0 event t.1 s) t.2 (step_behind mid old t.0 event s t.1 b)

  -- entries of later payloads leave what earlier ones are sent
  later_sent : (c n : ℕ) (ps : List (List ℕ)) → length ps ≤ n → (journal entries : List (JournalEntry C A))
      → AllByRecursion (λ (e : JournalEntry C A). e.key.c ≡ c → n ≤ e.key.i) entries
      → sent d (entries_of c (journal ++ entries)) 0 ps ≡ sent d (entries_of c journal) 0 ps
  later_sent c n ps l journal [] a = ap (λ j. sent d (entries_of c j) 0 ps) (append-nil journal)
  later_sent c n ps l journal (e ∷ entries) a =
      ap (λ j. sent d (entries_of c j) 0 ps) (sym (append_assoc journal (e ∷ []) entries))
      ∙ later_sent c n ps l (journal ++ e ∷ []) entries a.1 ∙ go (cases_eq e.key.c c)
    where
      go : (e.key.c ≡ c) ⊎ (e.key.c ≡ c → ⊥) → sent d (entries_of c (journal ++ e ∷ [])) 0 ps ≡ sent d (entries_of c journal) 0 ps
      go (inl same) =
          let m : n ≤ e.key.i = a.0 same in
          ap (λ es. sent d es 0 ps) (entries_same c journal e same) ∙ sent_kept d (entries_of c journal) e ps (omega arith)
      go (inr other) = ap (λ es. sent d es 0 ps) (entries_other c journal e other)

  later_of : (mid : Cell C A M) (c : ℕ) → c < mid.loop.count → (entries : List (JournalEntry C A))
      → AllByRecursion (λ (e : JournalEntry C A). e.key.c < mid.loop.count → (mid.loop.conns e.key.c).collected ≤ e.key.i) entries
      → AllByRecursion (λ (e : JournalEntry C A). e.key.c ≡ c → (mid.loop.conns c).collected ≤ e.key.i) entries
  later_of mid c l [] a = tt
  later_of mid c l (e ∷ entries) a = (
    λ same. subst (λ y. (mid.loop.conns y).collected ≤ e.key.i) same (a.0 (subst (λ y. y < mid.loop.count) (sym same) l)),
    later_of mid c l entries a.1,
  )

  -- a frame that is whole at a loop's tape is one of its connection's payloads
  whole_within : (loop : Loop) (f : JournalEntry C A) → TapeTells d.max loop → IsWhole d loop.tape f → (f.key.c < loop.count) × (f.key.i < length (loop.conns f.key.c).payloads)
  whole_within loop f t w = go (cases_lt f.key.c loop.count)
    where
      no_frame : (payloads : List (List ℕ)) (more : List ℕ) → [] ≡ flat_map frame payloads ++ more → f.key.i < length payloads → ⊥
      no_frame [] more e l = let g : ⊥ = omega arith in g
      no_frame (p ∷ ps) more e l =
          let n : 0 ≡ length (flat_map frame (p ∷ ps) ++ more) = ap length e in
          let a : length (flat_map frame (p ∷ ps) ++ more) ≡ length (flat_map frame (p ∷ ps)) + length more = length-append (flat_map frame (p ∷ ps)) more in
          let b : length (flat_map frame (p ∷ ps)) ≡ length (frame p) + length (flat_map frame ps) = length-append (frame p) (flat_map frame ps) in
          let k : length (frame p) ≡ 4 + length p = length-append (to_be_bytes w32 (length p)) p in
          let g : ⊥ = omega arith in g

      go : (f.key.c < loop.count) ⊎ (loop.count ≤ f.key.c) → (f.key.c < loop.count) × (f.key.i < length (loop.conns f.key.c).payloads)
      go (inl l) =
          let bytes : List ℕ = input (marks_of f.key.c loop.tape) in
          let s : (payloads : List (List ℕ)) × (rest : List ℕ) × Frames d.max w.more payloads rest = a_split d.max w.more small in
          let joined : Frames d.max bytes (w.payloads ++ s.0) s.1 =
          record {
            whole = w.bytes ∙ ap (λ m. flat_map frame w.payloads ++ m) s.2.whole ∙ sym (append_assoc (flat_map frame w.payloads) (flat_map frame s.0) s.1)
                ∙ ap (λ m. m ++ s.1) (sym (flat_map-append frame w.payloads s.0));
            each = all-append _ w.payloads s.0 w.each s.2.each;
            no_more = s.2.no_more;
          } in
          let same : w.payloads ++ s.0 ≡ (loop.conns f.key.c).payloads =
          (only_split d.max bytes s.1 (loop.conns f.key.c).held (w.payloads ++ s.0) (loop.conns f.key.c).payloads small joined (t.frames f.key.c l)).0 in
          let n : length (w.payloads ++ s.0) ≡ length (loop.conns f.key.c).payloads = ap length same in
          let m : length (w.payloads ++ s.0) ≡ length w.payloads + length s.0 = length-append w.payloads s.0 in
          let i : f.key.i < length w.payloads = w.among in
          (l, omega arith)
      go (inr l) = absurd (no_frame w.payloads w.more (sym (t.unread f.key.c l) ∙ w.bytes) w.among)

  -- an element of two lists is one of the first, or of the second
  get_either : (xs ys : List (JournalEntry C A)) (k : ℕ) (y : JournalEntry C A) → slice_get (xs ++ ys) k ≡ Some y
      → ((k < length xs) × (slice_get xs k ≡ Some y)) ⊎ ((length xs ≤ k) × ((j : ℕ) × (slice_get ys j ≡ Some y)))
  get_either [] ys k y e = inr (omega arith, (k, e))
  get_either (x ∷ xs) ys zero y e = inl (omega arith, e)
  get_either (x ∷ xs) ys (suc k) y e =
      ⊎_elim
      (λ (t : (k < length xs) × (slice_get xs k ≡ Some y)). inl ((let l : k < length xs = t.0 in let m : suc k < length (x ∷ xs) = omega arith in m), t.1))
      (λ (t : (length xs ≤ k) × ((j : ℕ) × (slice_get ys j ≡ Some y))). inr ((let l : length xs ≤ k = t.0 in let m : length (x ∷ xs) ≤ suc k = omega arith in m), t.1))
      (get_either xs ys k y e)

  each_of : (P : JournalEntry C A → Type 0) (xs : List (JournalEntry C A)) (k : ℕ) (y : JournalEntry C A) → AllByRecursion P xs → slice_get xs k ≡ Some y → P y
  each_of P [] k y a e = absurd (none-some y e)
  each_of P (x ∷ xs) zero y a e = subst P (same_Some x y e) a.0
  each_of P (x ∷ xs) (suc k) y a e = each_of P xs k y a.1 e

  -- each entry's frame is whole
  entry_whole : (cell : Cell C A M) (s : Sim d r opening cell) (k : CellKeeps d r opening cell) (y : ℕ) (f : JournalEntry C A) → slice_get cell.hall.journal y ≡ Some f → IsWhole d cell.loop.tape f
  entry_whole cell s k y f e = go (cases_lt f.key.c cell.loop.count)
    where
      go : (f.key.c < cell.loop.count) ⊎ (cell.loop.count ≤ f.key.c) → IsWhole d cell.loop.tape f
      go (inl l) =
          record {
            payloads = (cell.loop.conns f.key.c).payloads;
            more = (cell.loop.conns f.key.c).held;
            bytes = (k.frames f.key.c l).whole;
            each = (k.frames f.key.c l).each;
            among =
                of_entry (λ (x : JournalEntry C A). x.key.i < length (cell.loop.conns f.key.c).payloads) cell.hall.journal y f e
                (numbers_below d (entries_of f.key.c cell.hall.journal) (cell.loop.conns f.key.c).payloads (calls_done d r opening all small cell s f.key.c l));
          }
      go (inr l) =
          absurd
          (of_entry (λ (x : JournalEntry C A). ⊥) cell.hall.journal y f e
          (subst (λ (es : List (JournalEntry C A)). AllByRecursion (λ (x : JournalEntry C A). ⊥) es) (sym (k.nobody f.key.c l).2) tt))

  -- a moment of rest is a place of rest of the whole run
  pub rests : (first mid last : Cell C A M) (events more : List MachineEvent) → IsFirst opening first → EventsLead d r first events mid → IsAtRest mid.loop → EventsLead d r mid more last
      → IsPlaceOfRest d last.hall.journal mid.loop.tape
  rests first mid last events more f runs rest goes =
      let s : Sim d r opening mid = reaches d r opening all small first mid events f runs in
      let k : CellKeeps d r opening mid = keeps d r opening all small first mid events f runs in
      let t : TapeTells d.max mid.loop = run_tells d r opening first mid events f runs in
      let b : IsBehind mid last =
      run_behind mid mid last more s goes (record { less = all_same mid.loop; entries = []; journal = sym (append-nil mid.hall.journal); later = tt }) in
      record {
        answered = λ c o payloads held frames. answered_at s k t b c (open_on_tape d.max mid.loop c t o) payloads held frames;
        apart = λ x y e g at_x at_y whole_e not_whole.
            apart_at s k t b x y e g whole_e not_whole
            (get_either mid.hall.journal b.entries x e (subst (λ j. slice_get j x ≡ Some e) b.journal at_x))
            (get_either mid.hall.journal b.entries y g (subst (λ j. slice_get j y ≡ Some g) b.journal at_y));
      }
    where
      answered_at : Sim d r opening mid → CellKeeps d r opening mid → TapeTells d.max mid.loop → IsBehind mid last → (c : ℕ) → IsOpen mid.loop c → (payloads : List (List ℕ)) (held : List ℕ)
          → Frames d.max (input (marks_of c mid.loop.tape)) payloads held → output (marks_of c mid.loop.tape) ≡ sent d (entries_of c last.hall.journal) 0 payloads
      answered_at s k t b c o payloads held frames =
          let conn : LoopConn = mid.loop.conns c in
          let es : List (JournalEntry C A) = entries_of c mid.hall.journal in
          let out : List ℕ = output (marks_of c mid.loop.tape) in
          let same : payloads ≡ conn.payloads = (only_split d.max (input (marks_of c mid.loop.tape)) held conn.held payloads conn.payloads small frames (t.frames c o.0)).0 in
          let place : k.place c ≡ collected_all =
          clear_by_count d mid.workers (jobs_of c mid.hall.jobs) (outcomes_of c mid.hall.outcomes) es c conn (k.place c) (k.at c o.0) (rest c o.0).0 in
          let w : WhatIsWritten d es out conn None collected_all =
          subst (λ (x : _ × PayloadPlace). WhatIsWritten d es out conn x.0 x.1) (λ i. (o.1 i, place i)) (k.written c o.0) in
          let all_sent : out ≡ sent d es 0 conn.payloads = sym (w.1 ∙ ap (λ left. out ++ left) ((rest c o.0).1 o.1) ∙ append-nil out) in
          let n : conn.collected ≡ length conn.payloads = (rest c o.0).0 in
          all_sent
          ∙ sym (ap (λ j. sent d (entries_of c j) 0 conn.payloads) b.journal
          ∙ later_sent c conn.collected conn.payloads (omega arith) mid.hall.journal b.entries (later_of mid c o.0 b.entries b.later))
          ∙ ap (λ ps. sent d (entries_of c last.hall.journal) 0 ps) (sym same)

      apart_at : Sim d r opening mid → CellKeeps d r opening mid → TapeTells d.max mid.loop → (b : IsBehind mid last) → (x y : ℕ) (e g : JournalEntry C A) → IsWhole d mid.loop.tape e
          → (IsWhole d mid.loop.tape g → ⊥)
          → ((x < length mid.hall.journal) × (slice_get mid.hall.journal x ≡ Some e)) ⊎ ((length mid.hall.journal ≤ x) × ((j : ℕ) × (slice_get b.entries j ≡ Some e)))
          → ((y < length mid.hall.journal) × (slice_get mid.hall.journal y ≡ Some g)) ⊎ ((length mid.hall.journal ≤ y) × ((j : ℕ) × (slice_get b.entries j ≡ Some g)))
          → x < y
      apart_at s k t b x y e g whole_e not_whole u (inl v) = absurd (not_whole (entry_whole mid s k y g v.1))
      apart_at s k t b x y e g whole_e not_whole (inl u) (inr v) =
          let lx : x < length mid.hall.journal = u.0 in
          let ly : length mid.hall.journal ≤ y = v.0 in
          omega arith
      apart_at s k t b x y e g whole_e not_whole (inr u) (inr v) =
          let w : (e.key.c < mid.loop.count) × (e.key.i < length (mid.loop.conns e.key.c).payloads) = whole_within mid.loop e t whole_e in
          let l : (mid.loop.conns e.key.c).collected ≤ e.key.i =
          each_of (λ (z : JournalEntry C A). z.key.c < mid.loop.count → (mid.loop.conns z.key.c).collected ≤ z.key.i) b.entries u.1.0 e b.later u.1.1 w.0 in
          let n : (mid.loop.conns e.key.c).collected ≡ length (mid.loop.conns e.key.c).payloads = (rest e.key.c w.0).0 in
          let i : e.key.i < length (mid.loop.conns e.key.c).payloads = w.1 in
          absurd (let h : ⊥ = omega arith in h)
