-- Where memory doesn't run out, a move makes nothing that would tell that it did.
use Rattle.std.proofs.Common.{◌≡◌, ℕ, suc, ◌<◌, ◌⊎◌, Bool, true, false, if◌then◌else◌, Option, None, Some, List, [], ◌∷◌, ◌++◌, refl, sym, ap, ◌∙◌, subst, inl, inr, ⊎_elim, arith, slice_get}
use Rattle.std.proofs.lemmas.Bool.{cases_eq, true≢false, false≢true}
use Rattle.std.proofs.lemmas.Option.{none-some, same_Some}
use Rattle.streams.specs.declared.outcomes.Settled.{Settled}
use Rattle.streams.specs.declared.outcomes.Settled.TheVariants.{Reply as Replied, Nothing, Close as Refused, NoMemory}
use Rattle.streams.specs.declared.marks.Mark.{Mark}
use Rattle.host_model.specs.declared.key.Key.{Key}
use Rattle.host_model.specs.declared.cause.EndCause.{EndCause}
use Rattle.host_model.specs.declared.cause.EndCause.TheVariants.{NoMemory as LackOfMemory}
use Rattle.host_model.specs.Journal.{ServiceRules}
use Rattle.host_model.specs.DeskRules.{DeskRules, DeskDecision, Close, Silent, Reply, Invoke}
use Rattle.host_model.specs.World.{end_behind}
use Rattle.machine_model.specs.HallState.{key_of, JobOutcome, HallState, without}
use Rattle.machine_model.specs.HallRule.{HallOperation, submit, take_job, apply, put, collect, close, HallAnswer, done, job, empty, is_closed, outcome, outcome_of, HallGives}
use Rattle.machine_model.specs.Determined.{IsApply}
use Rattle.machine_model.specs.Loop.{LoopConn, new_conn, Loop, FrameProgress, part, bad_size, whole, read_more, with_conn, changed, ConnEvent, opens, reads, ends, fails_read, writes, fails_write, gives_up, Happens, conn_settled, LoopAsks}
use Rattle.machine_model.specs.Worker.{WorkerState, idle, holds, has_answer, has_none, took, settled_by, settled_with, settlement}
use Rattle.machine_model.specs.Machine.{Cell, with_worker, MachineEvent, on_conn, submits, takes, applies, puts, collects, closes, Steps}
use Rattle.machine_model.specs.Plain.{answers, effect_plain, apply_result_plain, broken_plain, call_plain, apply_plain, outcome_plain, put_plain, step_plain}
use Rattle.machine_model.proofs.Lists.{put_same, put_other}
use Rattle.script_model.proofs.Waiting.{HasLack, Tells, in_vain, take_same, submit_same, close_same}

-- no event that gives a connection up
abbrev pub Quiet : MachineEvent → Type 0
Quiet (on_conn (gives_up c cause)) = ⊥
Quiet _ = Unit {0}

-- a cause, or what is settled, is want of memory
abbrev is_lack : Option EndCause → Bool
is_lack (Some LackOfMemory) = true
is_lack _ = false

abbrev lack_in : Option Settled → Bool
lack_in (Some NoMemory) = true
lack_in _ = false

no_lack : (x : Option EndCause) → is_lack x ≡ false → x ≡ Some LackOfMemory → ⊥
no_lack x e f = true≢false (sym (ap is_lack f) ∙ e)

end_no_lack : (held : List ℕ) → is_lack (Some (end_behind held)) ≡ false
end_no_lack [] = refl
end_no_lack (byte ∷ bytes) = refl

lack_or_pushed : (outs : List JobOutcome) (o : JobOutcome) → HasLack (outs ++ o ∷ []) → HasLack outs ⊎ (o.settled ≡ NoMemory)
lack_or_pushed [] o (inl e) = inr e
lack_or_pushed [] o (inr h) = absurd h
lack_or_pushed (x ∷ outs) o (inl e) = inl (inl e)
lack_or_pushed (x ∷ outs) o (inr h) = ⊎_elim (λ k. inl (inr k)) (λ e. inr e) (lack_or_pushed outs o h)

module _ (old : Loop) where
  -- whoever has ended for want of memory had ended so
  record NoneNew (new : Loop) : Type 0 where
    back : (c : ℕ) → c < new.count → (new.conns c).cause ≡ Some LackOfMemory → (c < old.count) × ((old.conns c).cause ≡ Some LackOfMemory)

  none_new : NoneNew old
  none_new = record { back = λ c l e. (l, e) }

  changed_none : (c : ℕ) (conn : LoopConn) (marks : List Mark) → (conn.cause ≡ Some LackOfMemory → (old.conns c).cause ≡ Some LackOfMemory) → NoneNew (changed old c conn marks)
  changed_none c conn marks same = record { back = λ x l e. (l, go x e (cases_eq x c)) }
    where
      go : (x : ℕ) → (with_conn old.conns c conn x).cause ≡ Some LackOfMemory → (x ≡ c) ⊎ (x ≡ c → ⊥) → (old.conns x).cause ≡ Some LackOfMemory
      go x e (inl is) =
          subst (λ y. (old.conns y).cause ≡ Some LackOfMemory) (sym is)
          (same (sym (ap (λ (z : LoopConn). z.cause) (put_same old.conns c conn)) ∙ subst (λ y. (with_conn old.conns c conn y).cause ≡ Some LackOfMemory) is e))
      go x e (inr n) = sym (ap (λ (z : LoopConn). z.cause) (put_other old.conns c conn x n)) ∙ e

  other_none : (c : ℕ) (conn : LoopConn) (marks : List Mark) → is_lack conn.cause ≡ false → NoneNew (changed old c conn marks)
  other_none c conn marks e = changed_none c conn marks (λ f. absurd (no_lack conn.cause e f))

  opened_none : (tape : List Mark) → NoneNew (record { tape = tape; count = suc old.count; conns = with_conn old.conns old.count new_conn })
  opened_none tape = record { back = λ x l e. go x l e (cases_eq x old.count) }
    where
      go : (x : ℕ) → x < suc old.count → (with_conn old.conns old.count new_conn x).cause ≡ Some LackOfMemory → (x ≡ old.count) ⊎ (x ≡ old.count → ⊥)
          → (x < old.count) × ((old.conns x).cause ≡ Some LackOfMemory)
      go x l e (inl is) =
          absurd (none-some LackOfMemory (sym (ap (λ (z : LoopConn). z.cause) (put_same old.conns old.count new_conn)) ∙ subst (λ y. (with_conn old.conns old.count new_conn y).cause ≡ Some LackOfMemory) is e))
      go x l e (inr n) = (omega arith, sym (ap (λ (z : LoopConn). z.cause) (put_other old.conns old.count new_conn x n)) ∙ e)

  read_none : (c : ℕ) (bytes : List ℕ) (progress : FrameProgress) (marks : List Mark) → NoneNew (changed old c (read_more (old.conns c) bytes progress) marks)
  read_none c bytes part marks = changed_none c _ marks (λ e. e)
  read_none c bytes (bad_size size) marks = other_none c _ marks refl
  read_none c bytes (whole payload) marks = changed_none c _ marks (λ e. e)

  event_none : (max : ℕ) (conn_event : ConnEvent) (new : Loop) → Quiet (on_conn conn_event) → Happens max old conn_event new → NoneNew new
  event_none max opens new q h = subst NoneNew (sym h.1) (opened_none _)
  event_none max (reads c bytes) new q h = subst NoneNew (sym h.6) (read_none c bytes h.0 _)
  event_none max (ends c) new q h = subst NoneNew (sym h.2) (other_none c _ _ (end_no_lack (old.conns c).held))
  event_none max (fails_read c) new q h = subst NoneNew (sym h.2) (other_none c _ _ refl)
  event_none max (writes c count) new q h = subst NoneNew (sym h.3) (changed_none c _ _ (λ e. e))
  event_none max (fails_write c) new q h = subst NoneNew (sym h.2) (other_none c _ _ refl)
  event_none max (gives_up c cause) new q h = absurd q

  settled_none : (c : ℕ) (settled : Settled) (marks : List Mark) → (settled ≡ NoMemory → ⊥) → NoneNew (changed old c (conn_settled (old.conns c).cause settled (old.conns c)) marks)
  settled_none c settled marks n = changed_none c _ marks (λ e. go (old.conns c).cause settled n refl e)
    where
      go : (cause : Option EndCause) (settled : Settled) → (settled ≡ NoMemory → ⊥) → (old.conns c).cause ≡ cause → (conn_settled cause settled (old.conns c)).cause ≡ Some LackOfMemory
          → (old.conns c).cause ≡ Some LackOfMemory
      go None (Replied reply) n is e = e
      go None Nothing n is e = e
      go None (Refused fault) n is e = absurd (no_lack (Some _) refl e)
      go None NoMemory n is e = absurd (n refl)
      go (Some cause) settled n is e = e

module _ {C A M : Type 0} (d : DeskRules C A) (r : ServiceRules C A M) where
  -- from one cell to another: what tells has told before, and the hall is as broken as it was
  pub record Clears (old new : Cell C A M) : Type 0 where
    pub back : Tells new → Tells old
    pub broken : new.hall.broken ≡ old.hall.broken

  -- what is settled without want is no want
  never_lack : (worker : WorkerState A) → settlement d worker ≡ Some NoMemory → ⊥
  never_lack idle e = none-some NoMemory e
  never_lack (holds key payload) e = go (d.decide payload) e
    where
      go : (decision : DeskDecision C) → settled_by decision ≡ Some NoMemory → ⊥
      go (Close fault) e = false≢true (ap lack_in e)
      go Silent e = false≢true (ap lack_in e)
      go (Reply reply) e = false≢true (ap lack_in e)
      go (Invoke call) e = none-some NoMemory e
  never_lack (has_answer key payload answer) e = go (d.decide payload) e
    where
      silent_or : (b : Bool) (reply : List ℕ) → (if b then Some Nothing else Some (Replied reply)) ≡ Some NoMemory → ⊥
      silent_or true reply e = false≢true (ap lack_in e)
      silent_or false reply e = false≢true (ap lack_in e)

      go : (decision : DeskDecision C) → settled_with d payload answer decision ≡ Some NoMemory → ⊥
      go (Invoke call) e = silent_or (d.silent call) (d.reply payload answer) e
      go (Close fault) e = none-some NoMemory e
      go Silent e = none-some NoMemory e
      go (Reply reply) e = none-some NoMemory e
  never_lack (has_none key payload) e = none-some NoMemory e

  -- an operation other than Apply breaks nothing
  abbrev broken_in : HallState C A M → Bool
  broken_in hall = hall.broken

  broken_same : (old : HallState C A M) (op : HallOperation C) (answer : HallAnswer A) (new : HallState C A M) → HallGives r old op answer new → (IsApply op → ⊥) → new.broken ≡ old.broken
  broken_same old (submit key payload) done new t n = ap broken_in t.1
  broken_same old (submit key payload) is_closed new t n = ap broken_in t.1
  broken_same old (submit key payload) _ new t n = absurd t
  broken_same old take_job (job k p) new t n = ap broken_in t.2
  broken_same old take_job empty new t n = ap broken_in t.2
  broken_same old take_job is_closed new t n = ap broken_in t.2
  broken_same old take_job _ new t n = absurd t
  broken_same old (apply key call) answer new t n = absurd (n tt)
  broken_same old (put key settled) done new t n = ap broken_in t
  broken_same old (put key settled) _ new t n = absurd t
  broken_same old collect (outcome k s) new t n = ap broken_in t.2
  broken_same old collect empty new t n = ap broken_in t.2
  broken_same old collect is_closed new t n = ap broken_in t.2
  broken_same old collect _ new t n = absurd t
  broken_same old close done new t n = ap broken_in t
  broken_same old close _ new t n = absurd t

  module _ (cell : Cell C A M) where
    carry_back : (new : Cell C A M) → NoneNew cell.loop new.loop → ((w : ℕ) (key : Key) (payload : List ℕ) → new.workers w ≡ has_none key payload → Tells cell) → (HasLack new.hall.outcomes → Tells cell)
        → Tells new → Tells cell
    carry_back new k workers outs (inl t) = let u : (t.0 < cell.loop.count) × ((cell.loop.conns t.0).cause ≡ Some LackOfMemory) = k.back t.0 t.1 t.2 in inl (t.0, u.0, u.1)
    carry_back new k workers outs (inr (inl t)) = workers t.0 t.1 t.2 t.3
    carry_back new k workers outs (inr (inr h)) = outs h

    -- the worker that asks holds no call without an answer then
    own_worker : (w : ℕ) (worker : WorkerState A) → in_vain worker ≡ false → (x : ℕ) (key : Key) (payload : List ℕ) → with_worker cell.workers w worker x ≡ has_none key payload → Tells cell
    own_worker w worker not_so x key payload e = go (cases_eq x w)
      where
        go : (x ≡ w) ⊎ (x ≡ w → ⊥) → Tells cell
        go (inl is) =
            absurd (false≢true (sym not_so ∙ sym (ap in_vain (put_same cell.workers w worker)) ∙ ap in_vain (subst (λ y. with_worker cell.workers w worker y ≡ has_none key payload) is e)))
        go (inr n) = inr (inl (x, key, payload, sym (put_other cell.workers w worker x n) ∙ e))

    outs_before : (new : Cell C A M) → new.hall.outcomes ≡ cell.hall.outcomes → HasLack new.hall.outcomes → Tells cell
    outs_before new same h = inr (inr (subst HasLack same h))

    took_something : (answer : HallAnswer A) (hall : HallState C A M) → HallGives r cell.hall take_job answer hall → in_vain (took answer) ≡ false
    took_something (job k p) hall t = refl
    took_something empty hall t = refl
    took_something is_closed hall t = refl
    took_something _ hall t = absurd t

    submit_none : (c i : ℕ) (payload : List ℕ) (answer : HallAnswer A) (loop : Loop) (hall : HallState C A M) → LoopAsks {C = C} cell.loop (submit (key_of c i) payload) answer loop
        → HallGives r cell.hall (submit (key_of c i) payload) answer hall → NoneNew cell.loop loop
    submit_none c i payload done loop hall h t = subst (NoneNew cell.loop) (sym h.3) (changed_none cell.loop c _ [] (λ e. e))
    submit_none c i payload is_closed loop hall h t = subst (NoneNew cell.loop) (sym h.3) (none_new cell.loop)
    submit_none c i payload _ loop hall h t = absurd t

    collect_clears : (answer : HallAnswer A) (loop : Loop) (hall : HallState C A M) → LoopAsks {C = C} cell.loop collect answer loop → HallGives r cell.hall collect answer hall
        → Tells (record cell { loop = loop; hall = hall }) → Tells cell
    collect_clears (outcome key settled) loop hall h t told = go settled refl
      where
        lack_there : settled ≡ NoMemory → Tells cell
        lack_there e = inr (inr (subst HasLack (sym t.1) (inl e)))

        no_lack_there : (settled ≡ NoMemory → ⊥) → Tells cell
        no_lack_there n =
            carry_back (record cell { loop = loop; hall = hall }) (subst (NoneNew cell.loop) (sym h) (settled_none cell.loop key.c settled _ n)) (λ w k p e. inr (inl (w, k, p, e)))
            (λ l. inr (inr (subst HasLack (sym t.1) (inr (subst HasLack (ap (λ (x : HallState C A M). x.outcomes) t.2) l))))) told

        go : (s : Settled) → settled ≡ s → Tells cell
        go NoMemory e = lack_there e
        go (Replied reply) e = no_lack_there (λ f. false≢true (ap (λ x. lack_in (Some x)) (sym e ∙ f)))
        go Nothing e = no_lack_there (λ f. false≢true (ap (λ x. lack_in (Some x)) (sym e ∙ f)))
        go (Refused fault) e = no_lack_there (λ f. false≢true (ap (λ x. lack_in (Some x)) (sym e ∙ f)))
    collect_clears empty loop hall h t told =
        carry_back (record cell { loop = loop; hall = hall }) (subst (NoneNew cell.loop) (sym h) (none_new cell.loop)) (λ w k p e. inr (inl (w, k, p, e)))
        (λ l. inr (inr (subst HasLack (ap (λ (x : HallState C A M). x.outcomes) t.2) l))) told
    collect_clears is_closed loop hall h t told =
        carry_back (record cell { loop = loop; hall = hall }) (subst (NoneNew cell.loop) (sym h) (none_new cell.loop)) (λ w k p e. inr (inl (w, k, p, e)))
        (λ l. inr (inr (subst HasLack (ap (λ (x : HallState C A M). x.outcomes) t.2) l))) told
    collect_clears _ loop hall h t told = absurd t

    -- a Put of what a job is settled with
    put_clears : (w : ℕ) (new : Cell C A M) (worker : WorkerState A) → put_plain d cell w worker ≡ Some new → Clears cell new
    put_clears w new worker e = go worker e
      where
        after_put : Key → Settled → HallState C A M
        after_put key settled = record cell.hall { taken = without key cell.hall.taken; outcomes = cell.hall.outcomes ++ outcome_of key settled ∷ [] }

        by_settled : (key : Key) (settled : Option Settled) → (settled ≡ Some NoMemory → ⊥) → outcome_plain cell w key settled ≡ Some new → Clears cell new
        by_settled key None n e = absurd (none-some new e)
        by_settled key (Some settled) n e =
            subst (Clears cell) (same_Some _ new e)
            (record {
              back =
                  carry_back (record cell { hall = after_put key settled; workers = with_worker cell.workers w idle }) (none_new cell.loop) (own_worker w idle refl)
                  (λ l. ⊎_elim (λ h. inr (inr h)) (λ is. absurd (n (ap Some is))) (lack_or_pushed cell.hall.outcomes (outcome_of key settled) l));
              broken = refl;
            })

        go : (worker : WorkerState A) → put_plain d cell w worker ≡ Some new → Clears cell new
        go idle e = absurd (none-some new e)
        go (holds key payload) e = by_settled key (settlement d (holds key payload)) (never_lack (holds key payload)) e
        go (has_answer key payload answer) e = by_settled key (settlement d (has_answer key payload answer)) (never_lack (has_answer key payload answer)) e
        go (has_none key payload) e = absurd (none-some new e)

    -- an Apply with ample memory, where the hall isn't broken
    apply_clears : (w : ℕ) (new : Cell C A M) (worker : WorkerState A) → cell.hall.broken ≡ false → apply_plain d r cell w answers worker ≡ Some new → Clears cell new
    apply_clears w new worker unbroken e = go worker e
      where
        answered : (key : Key) (payload : List ℕ) (call : C) (m : Option M) → apply_result_plain r cell w key payload call answers m ≡ Some new → Clears cell new
        answered key payload call None e = absurd (none-some new e)
        answered key payload call (Some m) e =
            subst (Clears cell) (same_Some _ new e)
            (record {
              back =
                  carry_back (record cell { hall = effect_plain r cell.hall key call (r.rule call m).0; workers = with_worker cell.workers w (has_answer key payload (r.rule call m).0) })
                  (none_new cell.loop) (own_worker w (has_answer key payload (r.rule call m).0) refl) (λ l. inr (inr l));
              broken = refl;
            })

        by_decision : (key : Key) (payload : List ℕ) (decision : DeskDecision C) → call_plain r cell w key payload answers decision ≡ Some new → Clears cell new
        by_decision key payload (Invoke call) e =
            answered key payload call (slice_get cell.hall.memories (r.slot call))
            (subst (λ b. (if b then broken_plain cell w key payload answers else apply_result_plain r cell w key payload call answers (slice_get cell.hall.memories (r.slot call))) ≡ Some new) unbroken e)
        by_decision key payload (Close fault) e = absurd (none-some new e)
        by_decision key payload Silent e = absurd (none-some new e)
        by_decision key payload (Reply reply) e = absurd (none-some new e)

        go : (worker : WorkerState A) → apply_plain d r cell w answers worker ≡ Some new → Clears cell new
        go (holds key payload) e = by_decision key payload (d.decide payload) e
        go idle e = absurd (none-some new e)
        go (has_answer key payload answer) e = absurd (none-some new e)
        go (has_none key payload) e = absurd (none-some new e)

    -- each event but one that gives a connection up
    pub step_clears : (event : MachineEvent) (new : Cell C A M) → Quiet event → cell.hall.broken ≡ false → step_plain d r cell event ≡ Some new → Steps d r cell event new → Clears cell new
    step_clears (on_conn conn_event) new q unbroken e t =
        subst (Clears cell) (sym t.2)
        (record { back = carry_back (record cell { loop = t.0 }) (event_none cell.loop d.max conn_event t.0 q t.1) (λ w k p f. inr (inl (w, k, p, f))) (λ l. inr (inr l)); broken = refl })
    step_clears (submits c) new q unbroken e t =
        let b = t.2 in
        subst (Clears cell) (sym b.5)
        (record {
          back =
              carry_back (record cell { loop = b.1; hall = b.2 }) (submit_none c t.0 t.1 b.0 b.1 b.2 b.3 b.4) (λ w k p f. inr (inl (w, k, p, f)))
              (outs_before (record cell { loop = b.1; hall = b.2 }) (submit_same r cell.hall (key_of c t.0) t.1 b.0 b.2 b.4));
          broken = broken_same cell.hall (submit (key_of c t.0) t.1) b.0 b.2 b.4 (λ f. f);
        })
    step_clears (takes w) new q unbroken e t =
        subst (Clears cell) (sym t.5)
        (record {
          back =
              carry_back (record cell { hall = t.2; workers = with_worker cell.workers w t.1 }) (none_new cell.loop) (own_worker w t.1 (ap in_vain t.3.1 ∙ took_something t.0 t.2 t.4))
              (outs_before (record cell { hall = t.2; workers = with_worker cell.workers w t.1 }) (take_same r cell.hall t.0 t.2 t.4));
          broken = broken_same cell.hall take_job t.0 t.2 t.4 (λ f. f);
        })
    step_clears (applies w) new q unbroken e t = apply_clears w new (cell.workers w) unbroken e
    step_clears (puts w) new q unbroken e t = put_clears w new (cell.workers w) e
    step_clears collects new q unbroken e t =
        subst (Clears cell) (sym t.5) (record { back = collect_clears t.0 t.1 t.2 t.3 t.4; broken = broken_same cell.hall collect t.0 t.2 t.4 (λ f. f) })
    step_clears closes new q unbroken e t =
        subst (Clears cell) (sym t.5)
        (record {
          back =
              carry_back (record cell { loop = t.1; hall = t.2 }) (subst (NoneNew cell.loop) (sym t.3) (none_new cell.loop)) (λ w k p f. inr (inl (w, k, p, f)))
              (outs_before (record cell { loop = t.1; hall = t.2 }) (close_same r cell.hall t.0 t.2 t.4));
          broken = broken_same cell.hall close t.0 t.2 t.4 (λ f. f);
        })
