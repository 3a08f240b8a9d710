-- A weave that the plain machine can follow, and the small history of the examples.
use Rattle.std.proofs.Common.{◌≡◌, ◌≢◌, ℕ, ◌<◌, ◌≤◌, ◌^◌, ◌⊎◌, Bool, true, ◌&&◌, ◌==◌, nat_lt, Option, None, Some, List, [], ◌∷◌, ◌++◌, length, slice_get, refl, sym, ap, ◌∙◌, subst, inl, inr, arith}
use Rattle.std.specs.Int.{w32, to_be_bytes}
use Rattle.std.proofs.lemmas.Bool.{and_parts, cases_eq, eqb-true, ltb-true}
use Rattle.std.proofs.lemmas.Option.{none-some, same_Some}
use Rattle.streams.specs.declared.outcomes.Settled.TheVariants.{Reply}
use Rattle.host_model.specs.declared.key.Key.{Key}
use Rattle.host_model.specs.Frames.{IsPartial}
use Rattle.host_model.specs.TinyDesk.{tiny_desk, counting}
use Rattle.machine_model.specs.HallState.{key_of}
use Rattle.machine_model.specs.HallRule.{HallOperation, submit, take_job, apply, put, collect, close, HallAnswer, is_closed, applied, HallGives}
use Rattle.call_history.specs.History.{IsHistory}
use Rattle.call_history.specs.Calls.{calls_by}
use Rattle.call_history.specs.Laws.{calls_by-first-other}
use Rattle.machine_model.specs.OwnCalls.{HallAsk}
use Rattle.machine_model.specs.Loop.{Loop, LoopAsks, after_submit, after_collect}
use Rattle.machine_model.specs.Merge.{LoopItem, handles, calls, worked_by_call, found_none, no_loop, OfTurns, Weaves, IsOneHistory}
use Rattle.machine_model.specs.Plain.{when, are_same, conn_event_plain}
use Rattle.machine_model.specs.Tiny.{tiny_hall}
use Rattle.machine_model.specs.TinyThreads.{small_asks, small_history, small_weave}
use Rattle.machine_model.proofs.Computing.{passed, same_lists, conn_event_is}
use Rattle.machine_model.proofs.Showing.{tiny_is_new}

-- the loop after what it asks the hall, where it may
abbrev ask_payload : Loop → Key → List ℕ → Loop → Option (List ℕ) → Option Loop
ask_payload old key payload new None = None
ask_payload old key payload new (Some found) = when (are_same found payload) (Some new)

abbrev ask_plain : Loop → HallOperation ℕ → HallAnswer ℕ → Option Loop
ask_plain old (submit key payload) answer =
    when (nat_lt key.c old.count && (key.i == (old.conns key.c).submitted))
    (ask_payload old key payload (after_submit old key.c answer) (slice_get (old.conns key.c).payloads key.i))
ask_plain old collect answer = Some (after_collect old answer)
ask_plain old close answer = Some old
ask_plain old _ answer = None

-- the loop after items
abbrev pub weave_plain : ℕ → List (LoopItem ℕ ℕ) → Option Loop → Option Loop
weave_plain max items None = None
weave_plain max [] (Some loop) = Some loop
weave_plain max (handles conn_event ∷ items) (Some loop) = weave_plain max items (conn_event_plain max loop conn_event)
weave_plain max (calls e ∷ items) (Some loop) = weave_plain max items (ask_plain loop e.op e.reply)

ask_is : (old : Loop) (op : HallOperation ℕ) (answer : HallAnswer ℕ) (new : Loop) → ask_plain old op answer ≡ Some new → LoopAsks {C = ℕ} old op answer new
ask_is old (submit key payload) answer new e =
    let t : (_ ≡ true) × (ask_payload old key payload (after_submit old key.c answer) (slice_get (old.conns key.c).payloads key.i) ≡ Some new) = passed _ _ new e in
    let a : (nat_lt key.c old.count ≡ true) × ((key.i == (old.conns key.c).submitted) ≡ true) = and_parts _ _ t.0 in
    go (ltb-true key.c old.count a.0) (eqb-true key.i (old.conns key.c).submitted a.1) (slice_get (old.conns key.c).payloads key.i) refl t.1
  where
    go : key.c < old.count → key.i ≡ (old.conns key.c).submitted → (found : Option (List ℕ)) → slice_get (old.conns key.c).payloads key.i ≡ found
        → ask_payload old key payload (after_submit old key.c answer) found ≡ Some new → LoopAsks {C = ℕ} old (submit key payload) answer new
    go l i None g h = absurd (none-some new h)
    go l i (Some found) g h =
        let t : (are_same found payload ≡ true) × (Some (after_submit old key.c answer) ≡ Some new) = passed (are_same found payload) (Some (after_submit old key.c answer)) new h in
        (l, i, g ∙ ap Some (same_lists found payload t.0), sym (same_Some (after_submit old key.c answer) new t.1))
ask_is old collect answer new e = sym (same_Some (after_collect old answer) new e)
ask_is old close answer new e = sym (same_Some old new e)
ask_is old take_job answer new e = absurd (none-some new e)
ask_is old (apply key call) answer new e = absurd (none-some new e)
ask_is old (put key settled) answer new e = absurd (none-some new e)

module _ (max : ℕ) (small : max < 2 ^ 31) (short : (bytes : List ℕ) → length bytes < 4 → IsPartial max bytes)
    (under_way : (size : ℕ) (bytes : List ℕ) → 1 ≤ size → size ≤ max → length bytes < size → IsPartial max (to_be_bytes w32 size ++ bytes)) where
  stuck : (items : List (LoopItem ℕ ℕ)) (new : Loop) → weave_plain max items None ≡ Some new → ⊥
  stuck [] new e = none-some new e
  stuck (item ∷ items) new e = none-some new e

  pub weave_is : (items : List (LoopItem ℕ ℕ)) (old new : Loop) → weave_plain max items (Some old) ≡ Some new → Weaves max old items new
  weave_is [] old new e = sym (same_Some old new e)
  weave_is (handles conn_event ∷ items) old new e = go (conn_event_plain max old conn_event) refl e (λ next. weave_is items next new)
    where
      go : (x : Option Loop) → conn_event_plain max old conn_event ≡ x → weave_plain max items x ≡ Some new → ((next : Loop) → weave_plain max items (Some next) ≡ Some new → Weaves max next items new)
          → Weaves max old (handles conn_event ∷ items) new
      go None s f rec = absurd (stuck items new f)
      go (Some next) s f rec = (next, conn_event_is max small short under_way old conn_event next s, rec next f)
  weave_is (calls e ∷ items) old new h = go (ask_plain old e.op e.reply) refl h (λ next. weave_is items next new)
    where
      go : (x : Option Loop) → ask_plain old e.op e.reply ≡ x → weave_plain max items x ≡ Some new → ((next : Loop) → weave_plain max items (Some next) ≡ Some new → Weaves max next items new)
          → Weaves max old (calls e ∷ items) new
      go None s f rec = absurd (stuck items new f)
      go (Some next) s f rec = (next, ask_is old e.op e.reply next s, rec next f)

-- the loop that the small weave leads to
abbrev loop_in : Option Loop → Loop
loop_in None = no_loop
loop_in (Some loop) = loop

abbrev pub small_loop : Loop
small_loop = loop_in (weave_plain 2 small_weave (Some no_loop))

small_is_history : IsHistory (HallGives counting) tiny_hall small_history
small_is_history =
    ((refl, refl), (([], refl, refl), ((refl, refl), (([], refl, refl), ((0, omega arith, (refl, (refl, refl)), refl), ((0, omega arith, (refl, (refl, refl)), refl), (refl, (([], refl, refl), (refl, (([], refl, refl), (refl, ((refl, refl, refl), ((refl, refl, refl), tt)))))))))))))

-- no seat from this number on has called
abbrev all_below : ℕ → List (HallAsk ℕ ℕ) → Bool
all_below n [] = true
all_below n (e ∷ log) = nat_lt e.seat n && all_below n log

calls_past : (n seat : ℕ) (log : List (HallAsk ℕ ℕ)) → all_below n log ≡ true → n ≤ seat → calls_by seat log ≡ []
calls_past n seat [] e l = refl
calls_past n seat (x ∷ log) e l =
    let t : (nat_lt x.seat n ≡ true) × (all_below n log ≡ true) = and_parts (nat_lt x.seat n) (all_below n log) e in
    let s : x.seat < n = ltb-true x.seat n t.0 in
    calls_by-first-other seat x log (λ q. let g : ⊥ = omega arith in g) ∙ calls_past n seat log t.1 l

small_turns : (seat : ℕ) → seat ≢ 0 → OfTurns tiny_desk (calls_by seat small_asks)
small_turns seat n = go (cases_eq seat 1) (cases_eq seat 2)
  where
    go : (seat ≡ 1) ⊎ (seat ≡ 1 → ⊥) → (seat ≡ 2) ⊎ (seat ≡ 2 → ⊥) → OfTurns tiny_desk (calls_by seat small_asks)
    go (inl e) t =
        subst (λ s. OfTurns tiny_desk (calls_by s small_asks)) (sym e)
        (worked_by_call (key_of 0 0) (1 ∷ []) 10 (applied 6) (Reply (6 ∷ 6 ∷ [])) ∷ found_none is_closed ∷ [], (refl, tt, (refl, inl refl), (tt, tt)), refl)
    go (inr m) (inl e) =
        subst (λ s. OfTurns tiny_desk (calls_by s small_asks)) (sym e)
        (worked_by_call (key_of 1 0) (1 ∷ []) 10 (applied 5) (Reply (5 ∷ 5 ∷ [])) ∷ found_none is_closed ∷ [], (refl, tt, (refl, inl refl), (tt, tt)), refl)
    go (inr m) (inr k) =
        subst (OfTurns tiny_desk) (sym (calls_past 3 seat small_asks refl (omega arith))) ([], tt, refl)

pub small_is_one : ((bytes : List ℕ) → length bytes < 4 → IsPartial 2 bytes)
    → ((size : ℕ) (bytes : List ℕ) → 1 ≤ size → size ≤ 2 → length bytes < size → IsPartial 2 (to_be_bytes w32 size ++ bytes))
    → IsOneHistory tiny_desk counting (5 ∷ []) tiny_hall small_history small_weave small_loop
small_is_one short under_way =
    record {
      opened = tiny_is_new;
      history = small_is_history;
      same = refl;
      woven = weave_is 2 (omega arith) short under_way small_weave no_loop small_loop refl;
      turns = small_turns;
    }
