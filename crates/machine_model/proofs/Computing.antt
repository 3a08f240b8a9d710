-- What the plain machine computes is a run.
use Rattle.std.proofs.Common.{◌≡◌, ◌≢◌, ℕ, ℤ, pos, negsuc, ◌+◌, ◌<◌, ◌≤◌, ◌^◌, ◌⊎◌, Bool, true, false, ◌&&◌, ◌||◌, not, ◌==◌, nat_lt, nat_le, if◌then◌else◌, Option, None, Some, MatchOption, FitsSigned, List, [], ◌∷◌, ◌++◌, map, length, take, drop, slice_get, refl, sym, ap, ◌∙◌, subst, inl, inr, ⊎_elim, arith}
use Rattle.std.specs.Int.{w32, to_be_bytes, from_be_bytes, cast_signed, cast_unsigned}
use Rattle.std.proofs.lemmas.Int.{of_z-to_z, ints}
use Rattle.std.proofs.Math.Facts.{sfits_to_z}
use Rattle.std.proofs.lemmas.Bool.{or_cases, and_parts, eqb-true, ltb-true, leb-true, lt-ltb, true≢false, false≢true}
use Rattle.std.proofs.lemmas.Option.{none-some, same_Some}
use Rattle.streams.specs.declared.outcomes.Settled.{Settled}
use Rattle.streams.specs.declared.outcomes.Settled.TheVariants.{NoMemory as Lack}
use Rattle.streams.specs.declared.marks.Mark.{Mark}
use Rattle.streams.specs.declared.marks.Mark.TheVariants.{Ended, Wrote, ReadFailed, WriteFailed, Closed}
use Rattle.host_model.specs.declared.key.Key.{Key}
use Rattle.host_model.specs.declared.cause.EndCause.{EndCause}
use Rattle.host_model.specs.declared.cause.EndCause.TheVariants.{NoMemory, Stopped, ReadFault, WriteFault}
use Rattle.host_model.specs.Frames.{frame, IsPartial, IsOutside}
use Rattle.host_model.specs.Journal.{ServiceRules, IsAnswered}
use Rattle.host_model.specs.DeskRules.{DeskRules, DeskDecision, Close, Silent, Reply, Invoke}
use Rattle.host_model.specs.World.{IsGivenUp, end_behind}
use Rattle.machine_model.specs.HallState.{Job, JobOutcome}
use Rattle.machine_model.specs.HallRule.{done, job, empty, is_closed, applied, no_memory, journal_fault, is_broken, outcome, entry_under}
use Rattle.machine_model.specs.Loop.{LoopConn, Loop, with_cause, IsOpen, OwesNothing, FrameProgress, part, bad_size, whole, IsProgress, StaysInSize, changed, read_more, marks_read, ConnEvent, opens, reads, ends, fails_read, writes, fails_write, gives_up, Happens}
use Rattle.machine_model.specs.Worker.{WorkerState, idle, holds, has_answer, has_none, settlement, key_held, SettlesAs}
use Rattle.machine_model.specs.Machine.{Cell, MachineEvent, on_conn, submits, takes, applies, puts, collects, closes, Steps, EventsLead}
use Rattle.machine_model.specs.Plain.{when, is_empty, are_same, has_none_yet, is_given_up, is_open, owes_nothing, is_size, is_whole, is_bad_size, progress_behind, progress_by, stays_in_size, Moved, ended_plain, progress_plain, reads_plain, ends_plain, fails_read_plain, writes_plain, fails_write_plain, gives_up_plain, moved_plain, conn_event_plain, with_loop, ApplyResult, answers, lacks_for_call, lacks_for_answer, fails_journal, Told, goes, applies_so, puts_none, event_told, submit_plain, take_plain, apply_result_plain, broken_plain, call_plain, apply_plain, outcome_plain, put_plain, lack_plain, collect_plain, step_plain, told_plain, run_plain}

-- what a test says
pub passed : {X : Type 0} (b : Bool) (x : Option X) (y : X) → when b x ≡ Some y → (b ≡ true) × (x ≡ Some y)
passed true x y e = (refl, e)
passed false x y e = absurd (none-some y e)

pub same_lists : (xs ys : List ℕ) → are_same xs ys ≡ true → xs ≡ ys
same_lists [] [] e = refl
same_lists [] (y ∷ ys) e = absurd (false≢true e)
same_lists (x ∷ xs) [] e = absurd (false≢true e)
same_lists (x ∷ xs) (y ∷ ys) e =
    let parts : ((x == y) ≡ true) × (are_same xs ys ≡ true) = and_parts (x == y) (are_same xs ys) e in
    (λ i. eqb-true x y parts.0 i ∷ same_lists xs ys parts.1 i)

no_bytes : (xs : List ℕ) → is_empty xs ≡ true → xs ≡ []
no_bytes [] e = refl
no_bytes (x ∷ xs) e = absurd (false≢true e)

some_bytes : (xs : List ℕ) → not (is_empty xs) ≡ true → xs ≢ []
some_bytes [] e f = false≢true e
some_bytes (x ∷ xs) e f = let g : ⊥ = cc in g

no_cause : (cause : Option EndCause) → has_none_yet cause ≡ true → cause ≡ None
no_cause None e = refl
no_cause (Some cause) e = absurd (false≢true e)

given_up : (cause : EndCause) → is_given_up cause ≡ true → IsGivenUp cause
given_up NoMemory e = tt
given_up Stopped e = tt
given_up _ e = absurd (false≢true e)

opened : (loop : Loop) (c : ℕ) → is_open loop c ≡ true → IsOpen loop c
opened loop c e =
    let parts : (nat_lt c loop.count ≡ true) × (has_none_yet (loop.conns c).cause ≡ true) = and_parts (nat_lt c loop.count) (has_none_yet (loop.conns c).cause) e in
    (ltb-true c loop.count parts.0, no_cause (loop.conns c).cause parts.1)

owes : (conn : LoopConn) → owes_nothing conn ≡ true → OwesNothing conn
owes conn e =
    let parts : ((conn.collected == length conn.payloads) ≡ true) × (is_empty conn.left ≡ true) = and_parts (conn.collected == length conn.payloads) (is_empty conn.left) e in
    (eqb-true conn.collected (length conn.payloads) parts.0, no_bytes conn.left parts.1)

stays : (held bytes : List ℕ) → stays_in_size held bytes ≡ true → StaysInSize held bytes
stays held bytes e l = go (nat_lt (length held) 4) refl e
  where
    go : (b : Bool) → nat_lt (length held) 4 ≡ b → (if b then nat_le (length held + length bytes) 4 else true) ≡ true → length held + length bytes ≤ 4
    go true s f = leb-true (length held + length bytes) 4 f
    go false s f = absurd (let g : length held < 4 → ⊥ = (λ h. true≢false (sym (lt_true (length held) 4 h) ∙ s)) in g l)
      where
        lt_true : (m n : ℕ) → m < n → nat_lt m n ≡ true
        lt_true m n h = lt-ltb m n h

module _ (max : ℕ) (small : max < 2 ^ 31) (short : (bytes : List ℕ) → length bytes < 4 → IsPartial max bytes)
    (under_way : (size : ℕ) (bytes : List ℕ) → 1 ≤ size → size ≤ max → length bytes < size → IsPartial max (to_be_bytes w32 size ++ bytes)) where
  progress_whole : (bytes : List ℕ) → is_whole max bytes ≡ true → IsProgress max bytes (whole (drop 4 bytes))
  progress_whole bytes t =
      let p : List ℕ = drop 4 bytes in
      let a : (nat_le 1 (length p) ≡ true) × ((nat_le (length p) max && are_same bytes (frame p)) ≡ true) = and_parts (nat_le 1 (length p)) (nat_le (length p) max && are_same bytes (frame p)) t in
      let b : (nat_le (length p) max ≡ true) × (are_same bytes (frame p) ≡ true) = and_parts (nat_le (length p) max) (are_same bytes (frame p)) a.1 in
      (record { some = leb-true 1 (length p) a.0; within = leb-true (length p) max b.0 }, same_lists bytes (frame p) b.1)

  -- a number of four bytes that is 0 or above max, as two's complement
  signed_outside : (n : ℕ) (z : ℤ) → n < 2 ^ 32 → (n ≡ 0) ⊎ (max < n) → cast_signed w32 n ≡ z → IsOutside max z × (n ≡ cast_unsigned w32 z)
  signed_outside n (pos k) fits out is =
      let same : n ≡ k = sym (of_z-to_z w32 n fits) ∙ ap (cast_unsigned w32) is in
      let signed : FitsSigned w32 (pos k) = subst (FitsSigned w32) is (sfits_to_z {w = w32} {n = n} (record { fits = fits })) in (
        (
          signed,
          ⊎_elim (λ (e : n ≡ 0). inl (omega (arith, ints))) (λ (l : max < n). inr (omega (arith, ints))) out,
        ),
        sym (of_z-to_z w32 n fits) ∙ ap (cast_unsigned w32) is,
      )
  signed_outside n (negsuc k) fits out is =
      let signed : FitsSigned w32 (negsuc k) = subst (FitsSigned w32) is (sfits_to_z {w = w32} {n = n} (record { fits = fits })) in
      ((signed, inl (omega (arith, ints))), sym (of_z-to_z w32 n fits) ∙ ap (cast_unsigned w32) is)

  progress_bad : (size : ℕ) (bytes : List ℕ) (progress : FrameProgress) → when (is_bad_size max size bytes) (Some (bad_size (cast_signed w32 size))) ≡ Some progress → IsProgress max bytes progress
  progress_bad size bytes progress e =
      let t : (is_bad_size max size bytes ≡ true) × (Some (bad_size (cast_signed w32 size)) ≡ Some progress) = passed (is_bad_size max size bytes) (Some (bad_size (cast_signed w32 size))) progress e in
      let a : ((size == 0 || nat_lt max size) ≡ true) × ((nat_lt size 4294967296 && are_same bytes (to_be_bytes w32 size)) ≡ true) =
      and_parts (size == 0 || nat_lt max size) (nat_lt size 4294967296 && are_same bytes (to_be_bytes w32 size)) t.0 in
      let b : (nat_lt size 4294967296 ≡ true) × (are_same bytes (to_be_bytes w32 size) ≡ true) = and_parts (nat_lt size 4294967296) (are_same bytes (to_be_bytes w32 size)) a.1 in
      let fits : size < 4294967296 = ltb-true size 4294967296 b.0 in
      let out : (size ≡ 0) ⊎ (max < size) = ⊎_elim (λ f. inl (eqb-true size 0 f)) (λ f. inr (ltb-true max size f)) (or_cases (size == 0) (nat_lt max size) a.0) in
      let s : IsOutside max (cast_signed w32 size) × (size ≡ cast_unsigned w32 (cast_signed w32 size)) = signed_outside size (cast_signed w32 size) (omega arith) out refl in
      subst (IsProgress max bytes) (same_Some (bad_size (cast_signed w32 size)) progress t.1)
      (s.0, same_lists bytes (to_be_bytes w32 size) b.1 ∙ ap (to_be_bytes w32) s.1)

  progress_part : (size : ℕ) (bytes : List ℕ) → (is_size max size bytes && nat_lt (length (drop 4 bytes)) size) ≡ true → IsPartial max bytes
  progress_part size bytes e =
      let p : List ℕ = drop 4 bytes in
      let t : (is_size max size bytes ≡ true) × (nat_lt (length p) size ≡ true) = and_parts (is_size max size bytes) (nat_lt (length p) size) e in
      let a : (nat_le 1 size ≡ true) × ((nat_le size max && are_same bytes (to_be_bytes w32 size ++ p)) ≡ true) =
      and_parts (nat_le 1 size) (nat_le size max && are_same bytes (to_be_bytes w32 size ++ p)) t.0 in
      let b : (nat_le size max ≡ true) × (are_same bytes (to_be_bytes w32 size ++ p) ≡ true) = and_parts (nat_le size max) (are_same bytes (to_be_bytes w32 size ++ p)) a.1 in
      subst (IsPartial max) (sym (same_lists bytes (to_be_bytes w32 size ++ p) b.1)) (under_way size p (leb-true 1 size a.0) (leb-true size max b.0) (ltb-true (length p) size t.1))

  progress_behind_is : (size : ℕ) (bytes : List ℕ) (progress : FrameProgress) → progress_behind max size bytes ≡ Some progress → IsProgress max bytes progress
  progress_behind_is size bytes progress e = go (is_size max size bytes && nat_lt (length (drop 4 bytes)) size) refl e
    where
      rest : (b : Bool) → is_whole max bytes ≡ b
          → (if b then Some (whole (drop 4 bytes)) else when (is_bad_size max size bytes) (Some (bad_size (cast_signed w32 size)))) ≡ Some progress → IsProgress max bytes progress
      rest true s f = subst (IsProgress max bytes) (same_Some (whole (drop 4 bytes)) progress f) (progress_whole bytes s)
      rest false s f = progress_bad size bytes progress f

      go : (b : Bool) → (is_size max size bytes && nat_lt (length (drop 4 bytes)) size) ≡ b
          → (if b then Some part else if is_whole max bytes then Some (whole (drop 4 bytes)) else when (is_bad_size max size bytes) (Some (bad_size (cast_signed w32 size)))) ≡ Some progress
          → IsProgress max bytes progress
      go true s f = subst (IsProgress max bytes) (same_Some part progress f) (progress_part size bytes s)
      go false s f = rest (is_whole max bytes) refl f

  progress_is : (bytes : List ℕ) (progress : FrameProgress) → progress_by max bytes ≡ Some progress → IsProgress max bytes progress
  progress_is bytes progress e = go (nat_lt (length bytes) 4) refl e
    where
      go : (b : Bool) → nat_lt (length bytes) 4 ≡ b → (if b then Some part else progress_behind max (from_be_bytes w32 (take 4 bytes)) bytes) ≡ Some progress → IsProgress max bytes progress
      go true s f = subst (IsProgress max bytes) (same_Some part progress f) (short bytes (ltb-true (length bytes) 4 s))
      go false s f = progress_behind_is (from_be_bytes w32 (take 4 bytes)) bytes progress f

  -- what a connection that is open does
  module _ (old : Loop) (c : ℕ) (new : Loop) (o : IsOpen old c) where
    -- it is this one then, with these marks
    to : (conn : LoopConn) (marks : List Mark) → moved_plain old c (Some (conn, marks)) ≡ Some new → new ≡ changed old c conn marks
    to conn marks e = sym (same_Some (changed old c conn marks) new e)

    -- a test, and what it leaves
    tested : (b : Bool) (moved : Moved) → moved_plain old c (when b moved) ≡ Some new → (b ≡ true) × (moved_plain old c moved ≡ Some new)
    tested true moved e = (refl, e)
    tested false moved e = absurd (none-some new e)

    reads_progress : (bytes : List ℕ) → OwesNothing (old.conns c) → bytes ≢ [] → StaysInSize (old.conns c).held bytes → (progress : Option FrameProgress)
        → progress_by max ((old.conns c).held ++ bytes) ≡ progress → moved_plain old c (progress_plain c (old.conns c) bytes progress) ≡ Some new → Happens max old (reads c bytes) new
    reads_progress bytes w n s None m e = absurd (none-some new e)
    reads_progress bytes w n s (Some progress) m e =
        (progress, o, w, n, s, progress_is ((old.conns c).held ++ bytes) progress m, to (read_more (old.conns c) bytes progress) (marks_read c bytes progress) e)

    reads_is : (bytes : List ℕ) → moved_plain old c (reads_plain max c bytes (old.conns c)) ≡ Some new → Happens max old (reads c bytes) new
    reads_is bytes e =
        let t : (_ ≡ true) × (_ ≡ Some new) = tested _ (progress_plain c (old.conns c) bytes (progress_by max ((old.conns c).held ++ bytes))) e in
        let a : (owes_nothing (old.conns c) ≡ true) × ((not (is_empty bytes) && stays_in_size (old.conns c).held bytes) ≡ true) = and_parts _ _ t.0 in
        let b : (not (is_empty bytes) ≡ true) × (stays_in_size (old.conns c).held bytes ≡ true) = and_parts _ _ a.1 in
        reads_progress bytes (owes (old.conns c) a.0) (some_bytes bytes b.0) (stays (old.conns c).held bytes b.1) (progress_by max ((old.conns c).held ++ bytes)) refl t.1

    ends_is : moved_plain old c (ends_plain c (old.conns c)) ≡ Some new → Happens max old (ends c) new
    ends_is e =
        let t : (_ ≡ true) × (_ ≡ Some new) = tested (owes_nothing (old.conns c)) (ended_plain c (old.conns c) (Ended c) (end_behind (old.conns c).held)) e in
        (o, owes (old.conns c) t.0, to _ _ t.1)

    fails_read_is : moved_plain old c (fails_read_plain c (old.conns c)) ≡ Some new → Happens max old (fails_read c) new
    fails_read_is e =
        let t : (_ ≡ true) × (_ ≡ Some new) = tested (owes_nothing (old.conns c)) (ended_plain c (old.conns c) (ReadFailed c) ReadFault) e in
        (o, owes (old.conns c) t.0, to _ _ t.1)

    writes_is : (count : ℕ) → moved_plain old c (writes_plain c count (old.conns c)) ≡ Some new → Happens max old (writes c count) new
    writes_is count e =
        let t : (_ ≡ true) × (_ ≡ Some new) =
        tested (nat_le 1 count && nat_le count (length (old.conns c).left)) (Some (record (old.conns c) { left = drop count (old.conns c).left }, Wrote c (take count (old.conns c).left) ∷ [])) e in
        let b : (nat_le 1 count ≡ true) × (nat_le count (length (old.conns c).left) ≡ true) = and_parts _ _ t.0 in
        (o, leb-true 1 count b.0, leb-true count (length (old.conns c).left) b.1, to _ _ t.1)

    fails_write_is : moved_plain old c (fails_write_plain c (old.conns c)) ≡ Some new → Happens max old (fails_write c) new
    fails_write_is e =
        let t : (_ ≡ true) × (_ ≡ Some new) = tested (not (is_empty (old.conns c).left)) (ended_plain c (old.conns c) (WriteFailed c) WriteFault) e in
        (o, some_bytes (old.conns c).left t.0, to _ _ t.1)

    gives_up_is : (cause : EndCause) → moved_plain old c (gives_up_plain c cause (old.conns c)) ≡ Some new → Happens max old (gives_up c cause) new
    gives_up_is cause e =
        let t : (_ ≡ true) × (_ ≡ Some new) = tested (is_given_up cause) (Some (with_cause (old.conns c) cause, Closed c ∷ [])) e in
        (o, given_up cause t.0, to _ _ t.1)

  -- an open connection is asked for
  on_open : (old : Loop) (c : ℕ) (moved : Option Loop) (new : Loop) → when (is_open old c) moved ≡ Some new → IsOpen old c × (moved ≡ Some new)
  on_open old c moved new e =
      let t : (is_open old c ≡ true) × (moved ≡ Some new) = passed (is_open old c) moved new e in (opened old c t.0, t.1)

  pub conn_event_is : (old : Loop) (conn_event : ConnEvent) (new : Loop) → conn_event_plain max old conn_event ≡ Some new → Happens max old conn_event new
  conn_event_is old opens new e =
      let t : (_ ≡ true) × (_ ≡ Some new) = passed _ _ new e in (ltb-true _ _ t.0, sym (same_Some _ new t.1))
  conn_event_is old (reads c bytes) new e = let t : IsOpen old c × (_ ≡ Some new) = on_open old c _ new e in reads_is old c new t.0 bytes t.1
  conn_event_is old (ends c) new e = let t : IsOpen old c × (_ ≡ Some new) = on_open old c _ new e in ends_is old c new t.0 t.1
  conn_event_is old (fails_read c) new e = let t : IsOpen old c × (_ ≡ Some new) = on_open old c _ new e in fails_read_is old c new t.0 t.1
  conn_event_is old (writes c count) new e = let t : IsOpen old c × (_ ≡ Some new) = on_open old c _ new e in writes_is old c new t.0 count t.1
  conn_event_is old (fails_write c) new e = let t : IsOpen old c × (_ ≡ Some new) = on_open old c _ new e in fails_write_is old c new t.0 t.1
  conn_event_is old (gives_up c cause) new e = let t : IsOpen old c × (_ ≡ Some new) = on_open old c _ new e in gives_up_is old c new t.0 cause t.1

module _ {C A M : Type 0} (d : DeskRules C A) (r : ServiceRules C A M) (small : d.max < 2 ^ 31) (short : (bytes : List ℕ) → length bytes < 4 → IsPartial d.max bytes)
    (under_way : (size : ℕ) (bytes : List ℕ) → 1 ≤ size → size ≤ d.max → length bytes < size → IsPartial d.max (to_be_bytes w32 size ++ bytes)) where
  loop_is : (old : Cell C A M) (conn_event : ConnEvent) (new : Cell C A M) (loop : Option Loop) → conn_event_plain d.max old.loop conn_event ≡ loop → with_loop old loop ≡ Some new
      → Steps d r old (on_conn conn_event) new
  loop_is old conn_event new None l e = absurd (none-some new e)
  loop_is old conn_event new (Some loop) l e = (loop, conn_event_is d.max small short under_way old.loop conn_event loop l, sym (same_Some _ new e))

  submit_is : (old : Cell C A M) (c : ℕ) (new : Cell C A M) → c < old.loop.count → (closed : Bool) → old.hall.closed ≡ closed → (payload : Option (List ℕ))
      → slice_get (old.loop.conns c).payloads (old.loop.conns c).submitted ≡ payload → submit_plain old c closed payload ≡ Some new → Steps d r old (submits c) new
  submit_is old c new l closed k None g e = absurd (none-some new e)
  submit_is old c new l true k (Some payload) g e =
      ((old.loop.conns c).submitted, payload, (is_closed, old.loop, old.hall, (l, refl, g, refl), (k, refl), sym (same_Some old new e)))
  submit_is old c new l false k (Some payload) g e =
      ((old.loop.conns c).submitted, payload, (done, _, _, (l, refl, g, refl), (k, refl), sym (same_Some _ new e)))

  take_is : (old : Cell C A M) (w : ℕ) (new : Cell C A M) (worker : WorkerState A) → old.workers w ≡ worker → (jobs : List Job) → old.hall.jobs ≡ jobs → take_plain old w worker jobs ≡ Some new
      → Steps d r old (takes w) new
  take_is old w new idle h [] j e = by_closed old.hall.closed refl
    where
      by_closed : (b : Bool) → old.hall.closed ≡ b → Steps d r old (takes w) new
      by_closed true k = (is_closed, idle, old.hall, (h, refl), (j, k, refl), sym (same_Some _ new e))
      by_closed false k = (empty, idle, old.hall, (h, refl), (j, k, refl), sym (same_Some _ new e))
  take_is old w new idle h (first ∷ later) j e =
      (job first.key first.payload, holds first.key first.payload, _, (h, refl), (later, j, refl), sym (same_Some _ new e))
  take_is old w new (holds key payload) h jobs j e = absurd (none-some new e)
  take_is old w new (has_answer key payload answer) h jobs j e = absurd (none-some new e)
  take_is old w new (has_none key payload) h jobs j e = absurd (none-some new e)

  -- an Apply that goes so, of a job in the hand whose call this is
  module _ (old : Cell C A M) (w : ℕ) (new : Cell C A M) (key : Key) (payload : List ℕ) (call : C) (h : old.workers w ≡ holds key payload) (q : d.decide payload ≡ Invoke call) where
    is_its_answer : (m : M) → slice_get old.hall.memories (r.slot call) ≡ Some m → IsAnswered r old.hall.memories (entry_under key call (r.rule call m).0)
    is_its_answer m g = subst (λ x. MatchOption x ⊥ (λ y. (r.rule call m).0 ≡ (r.rule call y).0)) (sym g) refl

    apply_result_is : old.hall.broken ≡ false → (apply_result : ApplyResult) (m : Option M) → slice_get old.hall.memories (r.slot call) ≡ m → apply_result_plain r old w key payload call apply_result m ≡ Some new
        → Steps d r old (applies w) new
    apply_result_is b answers (Some m) g e = (
      key,
      call,
      (applied (r.rule call m).0, _, _, (payload, h, q, refl), (old.hall.faults, omega arith, (b, (is_its_answer m g, refl)), refl), sym (same_Some _ new e)),
    )
    apply_result_is b lacks_for_answer (Some m) g e = (
      key,
      call,
      (no_memory, _, _, (payload, h, q, refl), (old.hall.faults, omega arith, (b, inr ((r.rule call m).0, (is_its_answer m g, refl))), refl), sym (same_Some _ new e)),
    )
    apply_result_is b answers None g e = absurd (none-some new e)
    apply_result_is b lacks_for_answer None g e = absurd (none-some new e)
    apply_result_is b lacks_for_call m g e =
        (key, call, (no_memory, _, old.hall, (payload, h, q, refl), (old.hall.faults, omega arith, (b, inl refl), refl), sym (same_Some _ new e)))
    apply_result_is b fails_journal m g e = (
      key,
      call,
      (
        journal_fault,
        _,
        _,
        (payload, h, q, refl),
        (old.hall.faults + 1, omega arith, (b, omega arith, refl), tt),
        sym (same_Some _ new e),
      ),
    )

    broken_is : old.hall.broken ≡ true → (apply_result : ApplyResult) → broken_plain old w key payload apply_result ≡ Some new → Steps d r old (applies w) new
    broken_is b answers e = (key, call, (is_broken, _, old.hall, (payload, h, q, refl), (old.hall.faults, omega arith, (b, refl), refl), sym (same_Some _ new e)))
    broken_is b lacks_for_call e = absurd (none-some new e)
    broken_is b lacks_for_answer e = absurd (none-some new e)
    broken_is b fails_journal e = absurd (none-some new e)

    invoke_is : (apply_result : ApplyResult) (b : Bool) → old.hall.broken ≡ b
        → (if b then broken_plain old w key payload apply_result else apply_result_plain r old w key payload call apply_result (slice_get old.hall.memories (r.slot call))) ≡ Some new
        → Steps d r old (applies w) new
    invoke_is apply_result true b e = broken_is b apply_result e
    invoke_is apply_result false b e = apply_result_is b apply_result (slice_get old.hall.memories (r.slot call)) refl e

  call_is : (old : Cell C A M) (w : ℕ) (new : Cell C A M) (key : Key) (payload : List ℕ) (apply_result : ApplyResult) → old.workers w ≡ holds key payload → (decision : DeskDecision C)
      → d.decide payload ≡ decision → call_plain r old w key payload apply_result decision ≡ Some new → Steps d r old (applies w) new
  call_is old w new key payload apply_result h (Invoke call) q e = invoke_is old w new key payload call h q apply_result old.hall.broken refl e
  call_is old w new key payload apply_result h (Close fault) q e = absurd (none-some new e)
  call_is old w new key payload apply_result h Silent q e = absurd (none-some new e)
  call_is old w new key payload apply_result h (Reply reply) q e = absurd (none-some new e)

  apply_is : (old : Cell C A M) (w : ℕ) (new : Cell C A M) (apply_result : ApplyResult) (worker : WorkerState A) → old.workers w ≡ worker → apply_plain d r old w apply_result worker ≡ Some new → Steps d r old (applies w) new
  apply_is old w new apply_result (holds key payload) h e = call_is old w new key payload apply_result h (d.decide payload) refl e
  apply_is old w new apply_result idle h e = absurd (none-some new e)
  apply_is old w new apply_result (has_answer key payload answer) h e = absurd (none-some new e)
  apply_is old w new apply_result (has_none key payload) h e = absurd (none-some new e)

  outcome_is : (old : Cell C A M) (w : ℕ) (new : Cell C A M) (key : Key) → ((settled : Settled) → settlement d (old.workers w) ≡ Some settled → SettlesAs d (old.workers w) key settled)
      → (settled : Option Settled) → settlement d (old.workers w) ≡ settled → outcome_plain old w key settled ≡ Some new → Steps d r old (puts w) new
  outcome_is old w new key known None m e = absurd (none-some new e)
  outcome_is old w new key known (Some settled) m e = (key, settled, (done, idle, _, (known settled m, refl), refl, sym (same_Some _ new e)))

  put_is : (old : Cell C A M) (w : ℕ) (new : Cell C A M) (worker : WorkerState A) → old.workers w ≡ worker → put_plain d old w worker ≡ Some new → Steps d r old (puts w) new
  put_is old w new idle h e = absurd (none-some new e)
  put_is old w new (holds key payload) h e =
      outcome_is old w new key (λ settled m. (ap key_held h, inl m)) (settlement d (holds key payload)) (ap (settlement d) h) e
  put_is old w new (has_answer key payload answer) h e =
      outcome_is old w new key (λ settled m. (ap key_held h, inl m)) (settlement d (has_answer key payload answer)) (ap (settlement d) h) e
  put_is old w new (has_none key payload) h e = absurd (none-some new e)

  collect_is : (old new : Cell C A M) (outs : List JobOutcome) → old.hall.outcomes ≡ outs → collect_plain old outs ≡ Some new → Steps d r old collects new
  collect_is old new [] o e = by_closed old.hall.closed refl
    where
      by_closed : (b : Bool) → old.hall.closed ≡ b → Steps d r old collects new
      by_closed true k = (is_closed, old.loop, old.hall, refl, (o, k, refl), sym (same_Some old new e))
      by_closed false k = (empty, old.loop, old.hall, refl, (o, k, refl), sym (same_Some old new e))
  collect_is old new (first ∷ later) o e =
      let t : (nat_lt first.key.c old.loop.count ≡ true) × (_ ≡ Some new) = passed _ _ new e in
      (outcome first.key first.settled, _, _, refl, (later, o, refl), sym (same_Some _ new t.1))

  step_is : (old : Cell C A M) (event : MachineEvent) (new : Cell C A M) → step_plain d r old event ≡ Some new → Steps d r old event new
  step_is old (on_conn conn_event) new e = loop_is old conn_event new (conn_event_plain d.max old.loop conn_event) refl e
  step_is old (submits c) new e =
      let t : (nat_lt c old.loop.count ≡ true) × (_ ≡ Some new) = passed _ _ new e in
      submit_is old c new (ltb-true c old.loop.count t.0) old.hall.closed refl (slice_get (old.loop.conns c).payloads (old.loop.conns c).submitted) refl t.1
  step_is old (takes w) new e = take_is old w new (old.workers w) refl old.hall.jobs refl e
  step_is old (applies w) new e = apply_is old w new answers (old.workers w) refl e
  step_is old (puts w) new e = put_is old w new (old.workers w) refl e
  step_is old collects new e = collect_is old new old.hall.outcomes refl e
  step_is old closes new e = (done, old.loop, _, refl, refl, sym (same_Some _ new e))

  lack_is : (old : Cell C A M) (w : ℕ) (new : Cell C A M) (key : Option Key) → key_held (old.workers w) ≡ key → lack_plain old w key ≡ Some new → Steps d r old (puts w) new
  lack_is old w new None h e = absurd (none-some new e)
  lack_is old w new (Some key) h e = (key, Lack, (done, idle, _, ((h, inr refl), refl), refl, sym (same_Some _ new e)))

  told_is : (old : Cell C A M) (told : Told) (new : Cell C A M) → told_plain d r old told ≡ Some new → Steps d r old (event_told told) new
  told_is old (goes event) new e = step_is old event new e
  told_is old (applies_so w apply_result) new e = apply_is old w new apply_result (old.workers w) refl e
  told_is old (puts_none w) new e = lack_is old w new (key_held (old.workers w)) refl e

  stuck : (told : List Told) (new : Cell C A M) → run_plain d r told None ≡ Some new → ⊥
  stuck [] new e = none-some new e
  stuck (one ∷ later) new e = none-some new e

  pub run_is : (old : Cell C A M) (told : List Told) (new : Cell C A M) → run_plain d r told (Some old) ≡ Some new → EventsLead d r old (map event_told told) new
  run_is old [] new e = sym (same_Some old new e)
  run_is old (told ∷ later) new e = go (told_plain d r old told) refl e (λ next. run_is next later new)
    where
      go : (x : Option (Cell C A M)) → told_plain d r old told ≡ x → run_plain d r later x ≡ Some new
          → ((next : Cell C A M) → run_plain d r later (Some next) ≡ Some new → EventsLead d r next (map event_told later) new) → EventsLead d r old (map event_told (told ∷ later)) new
      go None s f rec = absurd (stuck later new f)
      go (Some next) s f rec = (next, told_is old told next s, rec next f)
