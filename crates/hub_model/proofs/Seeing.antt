-- What one loop sees of a history of the hub is a history of a hall.
use Rattle.std.proofs.Common.{◌≡◌, ℕ, Bool, true, ◌==◌, if◌then◌else◌, List, [], ◌∷◌, ◌++◌, map, length, drop, refl, sym, ap, ◌∙◌, subst, inl, inr, ◌⊎◌, ⊎_elim, arith, eq-eqb, ne_eqb, append_assoc, append-nil}
use Rattle.std.proofs.lemmas.Bool.{cases_eq}
use Rattle.std.proofs.lemmas.List.{drop_at, map-append}
use Rattle.streams.specs.declared.outcomes.Settled.{Settled}
use Rattle.host_model.specs.declared.key.Key.{Key}
use Rattle.host_model.specs.Journal.{JournalEntry, ServiceRules}
use Rattle.call_history.specs.History.{meaning_after, IsHistory}
use Rattle.machine_model.specs.HallState.{Job, JobOutcome, HallState, without}
use Rattle.machine_model.specs.HallRule.{HallOperation, submit, take_job, apply, put, collect, HallAnswer, done, job, empty, is_closed, applied, no_memory, journal_fault, is_broken, outcome, job_of, outcome_of, entry_under, SubmitGives, TakeGives, TakesEffect, ApplyGives, CloseGives, HallGives}
use Rattle.machine_model.specs.OwnCalls.{HallCall}
use Rattle.hub_model.specs.HubState.{HubState, loop_of_conn, own_key, but_outcomes}
use Rattle.hub_model.specs.HubRule.{HubOperation, submit_from, take_one, apply_one, put_one, collect_for, close_all, with_list, HubCall, PutFor, CollectFor, HubGives}
use Rattle.hub_model.specs.HubMay.{SubmitsItsOwn, SubmitOwn}
use Rattle.hub_model.specs.Seen.{next_answer, replays, own_outcome, own_entry, own_jobs, own_keys, own_entries, answers_left, hall_part, seen_part, calm, seen_ask, seen_seat, calls_with, seen_calls}
use Rattle.hub_model.proofs.Owned.{jobs_push, jobs_push_other, jobs_first, jobs_first_other, keys_push, keys_push_other, entries_append, entries_one, entries_none, without_other, without_own}

module _ {C A M : Type 0} (default : A) (r : ServiceRules C A M) (n l : ℕ) (final : List (JournalEntry C A)) where
  abbrev Hub : Type 0
  Hub = HubState C A M

  abbrev Part : Type 0
  Part = HallState C A (List A)

  abbrev part : Hub → Part
  part hub = seen_part n l final hub

  abbrev own : List (JournalEntry C A) → List (JournalEntry C A)
  own es = own_entries n l es

  abbrev left : List (JournalEntry C A) → List A
  left es = answers_left n l final es

  abbrev rules : ServiceRules C A (List A)
  rules = replays default

  -- what is seen leads from one hall to another
  abbrev pub Follows : List (HallOperation C × HallAnswer A) → Part → Part → Type 0
  Follows [] old new = new ≡ old
  Follows (x ∷ asks) old new = HallGives rules old x.0 x.1 new

  part_is : (old new : Hub) (h : HallState C A M) → but_outcomes new ≡ h → new.lists ≡ old.lists → part new ≡ hall_part n l final h (old.lists l)
  part_is old new h e f = λ i. hall_part n l final (e i) (f i l)

  -- of what is tested, what is seen
  tested : (x y : ℕ) (a : HallOperation C × HallAnswer A) (old new : Part) → x ≡ y → HallGives rules old a.0 a.1 new → Follows (if x == y then a ∷ [] else []) old new
  tested x y a old new e g = subst (λ (b : Bool). Follows (if b then a ∷ [] else []) old new) (sym (eq-eqb x y e)) g

  passed : (x y : ℕ) (a : HallOperation C × HallAnswer A) (old new : Part) → (x ≡ y → ⊥) → new ≡ old → Follows (if x == y then a ∷ [] else []) old new
  passed x y a old new other g = subst (λ (b : Bool). Follows (if b then a ∷ [] else []) old new) (sym (ne_eqb x y other)) g

  submit_seen : (old new : Hub) (m : ℕ) (key : Key) (payload : List ℕ) (answer : HallAnswer A) → SubmitGives (but_outcomes old) key payload answer (but_outcomes new) → new.lists ≡ old.lists → loop_of_conn n key.c ≡ m
      → Follows (seen_ask n l (submit_from m key payload) answer) (part old) (part new)
  submit_seen old new m key payload done g f p = go (cases_eq m l)
    where
      is : part new ≡ hall_part n l final (record (but_outcomes old) { jobs = old.jobs ++ job_of key payload ∷ [] }) (old.lists l)
      is = part_is old new (record (but_outcomes old) { jobs = old.jobs ++ job_of key payload ∷ [] }) g.1 f

      go : (m ≡ l) ⊎ (m ≡ l → ⊥) → Follows (seen_ask n l (submit_from m key payload) done) (part old) (part new)
      go (inl e) =
          tested m l (submit (own_key n key) payload, done) (part old) (part new) e
          (g.0, is ∙ ap (λ (js : List Job). record (part old) { jobs = js }) (jobs_push n l old.jobs (job_of key payload) (p ∙ e)))
      go (inr other) =
          passed m l (submit (own_key n key) payload, done) (part old) (part new) other
          (is ∙ ap (λ (js : List Job). record (part old) { jobs = js }) (jobs_push_other n l old.jobs (job_of key payload) (λ q. other (sym p ∙ q))))
  submit_seen old new m key payload is_closed g f p = go (cases_eq m l)
    where
      go : (m ≡ l) ⊎ (m ≡ l → ⊥) → Follows (seen_ask n l (submit_from m key payload) is_closed) (part old) (part new)
      go (inl e) = tested m l (submit (own_key n key) payload, is_closed) (part old) (part new) e (g.0, part_is old new (but_outcomes old) g.1 f)
      go (inr other) = passed m l (submit (own_key n key) payload, is_closed) (part old) (part new) other (part_is old new (but_outcomes old) g.1 f)
  submit_seen old new m key payload _ g f p = absurd g

  take_seen : (old new : Hub) (answer : HallAnswer A) → TakeGives (but_outcomes old) answer (but_outcomes new) → new.lists ≡ old.lists → Follows (seen_ask n l take_one answer) (part old) (part new)
  take_seen old new (job key payload) g f = go (cases_eq (loop_of_conn n key.c) l)
    where
      is : part new ≡ hall_part n l final (record (but_outcomes old) { jobs = g.0; taken = old.taken ++ key ∷ [] }) (old.lists l)
      is = part_is old new (record (but_outcomes old) { jobs = g.0; taken = old.taken ++ key ∷ [] }) g.2 f

      go : (loop_of_conn n key.c ≡ l) ⊎ (loop_of_conn n key.c ≡ l → ⊥) → Follows (seen_ask n l take_one (job key payload)) (part old) (part new)
      go (inl e) =
          tested (loop_of_conn n key.c) l (take_job, job (own_key n key) payload) (part old) (part new) e (
            own_jobs n l g.0,
            ap (own_jobs n l) g.1 ∙ jobs_first n l (job_of key payload) g.0 e,
            is ∙ ap (λ (ks : List Key). record (part old) { jobs = own_jobs n l g.0; taken = ks }) (keys_push n l old.taken key e),
          )
      go (inr other) =
          passed (loop_of_conn n key.c) l (take_job, job (own_key n key) payload) (part old) (part new) other
          (is
          ∙ (λ i. record (part old) {
            jobs = (sym (jobs_first_other n l (job_of key payload) g.0 other) ∙ ap (own_jobs n l) (sym g.1)) i;
            taken = keys_push_other n l old.taken key other i;
          }))
  take_seen old new empty g f = part_is old new (but_outcomes old) g.2 f
  take_seen old new is_closed g f = part_is old new (but_outcomes old) g.2 f
  take_seen old new _ g f = absurd g

  -- a call of this loop takes effect
  effect_seen : (old new : Hub) (key : Key) (call : C) (answer : A) (faults : ℕ) (more : List (JournalEntry C A)) → loop_of_conn n key.c ≡ l → final ≡ own new.journal ++ more
      → TakesEffect r (but_outcomes old) key call answer faults (but_outcomes new) → new.lists ≡ old.lists → TakesEffect rules (part old) (own_key n key) call answer 0 (part new)
  effect_seen old new key call answer faults more p goes g f = (
    ap (λ (x : List A). (next_answer default x).0) (sym before),
    part_is old new _ g.1 f
        ∙ (λ i. record (part old) {
          journal = grown i;
          memories = (behind ∙ ap (λ (x : List A). (next_answer default x).1) (sym before)) i ∷ [];
        }),
  )
    where
      entry : JournalEntry C A
      entry = entry_under key call answer

      grown : own (old.journal ++ entry ∷ []) ≡ own old.journal ++ own_entry n entry ∷ []
      grown = entries_append n l old.journal (entry ∷ []) ∙ ap (λ (x : List (JournalEntry C A)). own old.journal ++ x) (entries_one n l entry p)

      journal_is : new.journal ≡ old.journal ++ entry ∷ []
      journal_is = ap (λ (h : HallState C A M). h.journal) g.1

      whole : final ≡ own old.journal ++ (own_entry n entry ∷ more)
      whole =
          goes ∙ ap (λ (x : List (JournalEntry C A)). x ++ more) (ap own journal_is ∙ grown)
          ∙ append_assoc (own old.journal) (own_entry n entry ∷ []) more

      before : left old.journal ≡ answer ∷ map (λ (e : JournalEntry C A). e.answer) more
      before =
          ap (map (λ (e : JournalEntry C A). e.answer))
          (ap (drop (length (own old.journal))) whole ∙ drop_at (own old.journal) (own_entry n entry ∷ more) (length (own old.journal)) refl)

      behind : left (old.journal ++ entry ∷ []) ≡ map (λ (e : JournalEntry C A). e.answer) more
      behind =
          ap left (sym journal_is) ∙ ap (map (λ (e : JournalEntry C A). e.answer)) (ap (drop (length (own new.journal))) goes ∙ drop_at (own new.journal) more (length (own new.journal)) refl)

  -- one of another loop isn't seen
  effect_passed : (old new : Hub) (key : Key) (call : C) (answer : A) (faults : ℕ) → (loop_of_conn n key.c ≡ l → ⊥)
      → TakesEffect r (but_outcomes old) key call answer faults (but_outcomes new) → new.lists ≡ old.lists → part new ≡ part old
  effect_passed old new key call answer faults other g f =
      part_is old new _ g.1 f
      ∙ (λ i. record (part old) { journal = same i; memories = map (λ (e : JournalEntry C A). e.answer) (drop (length (same i)) final) ∷ [] })
    where
      same : own (old.journal ++ entry_under key call answer ∷ []) ≡ own old.journal
      same =
          entries_append n l old.journal (entry_under key call answer ∷ [])
          ∙ ap (λ (x : List (JournalEntry C A)). own old.journal ++ x) (entries_none n l (entry_under key call answer) other) ∙ append-nil (own old.journal)

  apply_own : (old new : Hub) (key : Key) (call : C) (answer : HallAnswer A) (faults : ℕ) (more : List (JournalEntry C A)) → loop_of_conn n key.c ≡ l → final ≡ own new.journal ++ more
      → ApplyGives r (but_outcomes old) key call faults answer (but_outcomes new) → new.lists ≡ old.lists → HallGives rules (part old) (apply (own_key n key) call) (calm answer) (part new)
  apply_own old new key call (applied a) faults more p goes g f = (0, omega arith, (refl, effect_seen old new key call a faults more p goes g.1 f), refl)
  apply_own old new key call no_memory faults more p goes g f =
      ⊎_elim (λ (t : but_outcomes new ≡ record (but_outcomes old) { faults = faults }). (0, omega arith, (refl, inl (part_is old new (record (but_outcomes old) { faults = faults }) t f)), refl))
      (λ (t : (a : A) × TakesEffect r (but_outcomes old) key call a faults (but_outcomes new)). (0, omega arith, (refl, inr (t.0, effect_seen old new key call t.0 faults more p goes t.1 f)), refl)) g.1
  apply_own old new key call journal_fault faults more p goes g f = (0, omega arith, (refl, inl (part_is old new _ g.2 f)), refl)
  apply_own old new key call is_broken faults more p goes g f = (0, omega arith, (refl, inl (part_is old new _ g.1 f)), refl)
  apply_own old new key call _ faults more p goes g f = absurd g

  apply_other : (old new : Hub) (key : Key) (call : C) (answer : HallAnswer A) (faults : ℕ) → (loop_of_conn n key.c ≡ l → ⊥)
      → ApplyGives r (but_outcomes old) key call faults answer (but_outcomes new) → new.lists ≡ old.lists → part new ≡ part old
  apply_other old new key call (applied a) faults other g f = effect_passed old new key call a faults other g.1 f
  apply_other old new key call no_memory faults other g f =
      ⊎_elim (λ (t : but_outcomes new ≡ record (but_outcomes old) { faults = faults }). part_is old new (record (but_outcomes old) { faults = faults }) t f)
      (λ (t : (a : A) × TakesEffect r (but_outcomes old) key call a faults (but_outcomes new)). effect_passed old new key call t.0 faults other t.1 f) g.1
  apply_other old new key call journal_fault faults other g f = part_is old new _ g.2 f
  apply_other old new key call is_broken faults other g f = part_is old new _ g.1 f
  apply_other old new key call _ faults other g f = absurd g

  apply_seen : (old new : Hub) (key : Key) (call : C) (answer : HallAnswer A) (faults : ℕ) (more : List (JournalEntry C A)) → final ≡ own new.journal ++ more
      → ApplyGives r (but_outcomes old) key call faults answer (but_outcomes new) → new.lists ≡ old.lists → Follows (seen_ask n l (apply_one key call) answer) (part old) (part new)
  apply_seen old new key call answer faults more goes g f = go (cases_eq (loop_of_conn n key.c) l)
    where
      go : (loop_of_conn n key.c ≡ l) ⊎ (loop_of_conn n key.c ≡ l → ⊥) → Follows (seen_ask n l (apply_one key call) answer) (part old) (part new)
      go (inl e) =
          tested (loop_of_conn n key.c) l (apply (own_key n key) call, calm answer) (part old) (part new) e (apply_own old new key call answer faults more e goes g f)
      go (inr other) = passed (loop_of_conn n key.c) l (apply (own_key n key) call, calm answer) (part old) (part new) other (apply_other old new key call answer faults other g f)

  put_seen : (old new : Hub) (key : Key) (settled : Settled) (answer : HallAnswer A) → PutFor n old key settled answer new → Follows (seen_ask n l (put_one key settled) answer) (part old) (part new)
  put_seen old new key settled done g = go (cases_eq (loop_of_conn n key.c) l)
    where
      lists : ℕ → List JobOutcome
      lists = with_list old.lists (loop_of_conn n key.c) (old.lists (loop_of_conn n key.c) ++ outcome_of key settled ∷ [])

      is : part new ≡ record (part old) { taken = own_keys n l (without key old.taken); outcomes = map (own_outcome n) (lists l) }
      is = ap part g

      go : (loop_of_conn n key.c ≡ l) ⊎ (loop_of_conn n key.c ≡ l → ⊥) → Follows (seen_ask n l (put_one key settled) done) (part old) (part new)
      go (inl e) =
          tested (loop_of_conn n key.c) l (put (own_key n key) settled, done) (part old) (part new) e
          (is
          ∙ (λ i. record (part old) {
            taken = without_own n l key old.taken e i;
            outcomes = (ap (map (own_outcome n)) here ∙ map-append (own_outcome n) (old.lists l) (outcome_of key settled ∷ [])) i;
          }))
        where
          here : lists l ≡ old.lists l ++ outcome_of key settled ∷ []
          here =
              ap (λ (b : Bool). if b then old.lists (loop_of_conn n key.c) ++ outcome_of key settled ∷ [] else old.lists l) (eq-eqb l (loop_of_conn n key.c) (sym e))
              ∙ ap (λ (m : ℕ). old.lists m ++ outcome_of key settled ∷ []) e
      go (inr other) =
          passed (loop_of_conn n key.c) l (put (own_key n key) settled, done) (part old) (part new) other
          (is
          ∙ (λ i. record (part old) {
            taken = without_other n l key old.taken other i;
            outcomes = map (own_outcome n) (there i);
          }))
        where
          there : lists l ≡ old.lists l
          there = ap (λ (b : Bool). if b then old.lists (loop_of_conn n key.c) ++ outcome_of key settled ∷ [] else old.lists l) (ne_eqb l (loop_of_conn n key.c) (λ q. other (sym q)))
  put_seen old new key settled _ g = absurd g

  collect_seen : (old new : Hub) (m : ℕ) (answer : HallAnswer A) → CollectFor n old m answer new → Follows (seen_ask n l (collect_for m) answer) (part old) (part new)
  collect_seen old new m (outcome key settled) g = go (cases_eq m l)
    where
      is : part new ≡ record (part old) { outcomes = map (own_outcome n) (with_list old.lists m g.0 l) }
      is = ap part g.2

      go : (m ≡ l) ⊎ (m ≡ l → ⊥) → Follows (seen_ask n l (collect_for m) (outcome key settled)) (part old) (part new)
      go (inl e) =
          tested m l (collect, outcome (own_key n key) settled) (part old) (part new) e (
            map (own_outcome n) g.0,
            ap (map (own_outcome n)) (ap old.lists (sym e) ∙ g.1),
            is ∙ ap (λ (b : Bool). record (part old) { outcomes = map (own_outcome n) (if b then g.0 else old.lists l) }) (eq-eqb l m (sym e)),
          )
      go (inr other) =
          passed m l (collect, outcome (own_key n key) settled) (part old) (part new) other
          (is ∙ ap (λ (b : Bool). record (part old) { outcomes = map (own_outcome n) (if b then g.0 else old.lists l) }) (ne_eqb l m (λ q. other (sym q))))
  collect_seen old new m empty g = go (cases_eq m l)
    where
      go : (m ≡ l) ⊎ (m ≡ l → ⊥) → Follows (seen_ask n l (collect_for m) empty) (part old) (part new)
      go (inl e) = tested m l (collect, empty) (part old) (part new) e (ap (map (own_outcome n)) (ap old.lists (sym e) ∙ g.0), g.1, ap part g.2)
      go (inr other) = passed m l (collect, empty) (part old) (part new) other (ap part g.2)
  collect_seen old new m is_closed g = go (cases_eq m l)
    where
      go : (m ≡ l) ⊎ (m ≡ l → ⊥) → Follows (seen_ask n l (collect_for m) is_closed) (part old) (part new)
      go (inl e) = tested m l (collect, is_closed) (part old) (part new) e (ap (map (own_outcome n)) (ap old.lists (sym e) ∙ g.0), g.1, ap part g.2)
      go (inr other) = passed m l (collect, is_closed) (part old) (part new) other (ap part g.2)
  collect_seen old new m _ g = absurd g

  close_seen : (old new : Hub) (answer : HallAnswer A) → CloseGives (but_outcomes old) answer (but_outcomes new) → new.lists ≡ old.lists → Follows (seen_ask n l close_all answer) (part old) (part new)
  close_seen old new done g f = part_is old new (record (but_outcomes old) { closed = true }) g f
  close_seen old new _ g f = absurd g

  step_seen : (old new : Hub) (op : HubOperation C) (answer : HallAnswer A) (more : List (JournalEntry C A)) → final ≡ own new.journal ++ more → SubmitsItsOwn n op → HubGives n r old op answer new
      → Follows (seen_ask n l op answer) (part old) (part new)
  step_seen old new (submit_from m key payload) answer more goes p g = submit_seen old new m key payload answer g.0 g.1 p
  step_seen old new take_one answer more goes p g = take_seen old new answer g.0 g.1
  step_seen old new (apply_one key call) answer more goes p g = apply_seen old new key call answer g.0 more goes g.2 g.4
  step_seen old new (put_one key settled) answer more goes p g = put_seen old new key settled answer g
  step_seen old new (collect_for m) answer more goes p g = collect_seen old new m answer g
  step_seen old new close_all answer more goes p g = close_seen old new answer g.0 g.1

  -- the journal grows
  abbrev Grows : Hub → Hub → Type 0
  Grows old new = (x : List (JournalEntry C A)) × (new.journal ≡ old.journal ++ x)

  stays : (old new : Hub) → new.journal ≡ old.journal → Grows old new
  stays old new e = ([], e ∙ sym (append-nil old.journal))

  apply_grows : (old new : Hub) (key : Key) (call : C) (answer : HallAnswer A) (faults : ℕ) → ApplyGives r (but_outcomes old) key call faults answer (but_outcomes new) → Grows old new
  apply_grows old new key call (applied a) faults g = (entry_under key call a ∷ [], ap (λ (h : HallState C A M). h.journal) g.1.1)
  apply_grows old new key call no_memory faults g =
      ⊎_elim (λ (t : but_outcomes new ≡ record (but_outcomes old) { faults = faults }). stays old new (ap (λ (h : HallState C A M). h.journal) t))
      (λ (t : (a : A) × TakesEffect r (but_outcomes old) key call a faults (but_outcomes new)). (entry_under key call t.0 ∷ [], ap (λ (h : HallState C A M). h.journal) t.1.1)) g.1
  apply_grows old new key call journal_fault faults g = stays old new (ap (λ (h : HallState C A M). h.journal) g.2)
  apply_grows old new key call is_broken faults g = stays old new (ap (λ (h : HallState C A M). h.journal) g.1)
  apply_grows old new key call _ faults g = absurd g

  step_grows : (old new : Hub) (op : HubOperation C) (answer : HallAnswer A) → HubGives n r old op answer new → Grows old new
  step_grows old new (submit_from m key payload) done g = stays old new (ap (λ (h : HallState C A M). h.journal) g.0.1)
  step_grows old new (submit_from m key payload) is_closed g = stays old new (ap (λ (h : HallState C A M). h.journal) g.0.1)
  step_grows old new (submit_from m key payload) _ g = absurd g.0
  step_grows old new take_one (job key payload) g = stays old new (ap (λ (h : HallState C A M). h.journal) g.0.2)
  step_grows old new take_one empty g = stays old new (ap (λ (h : HallState C A M). h.journal) g.0.2)
  step_grows old new take_one is_closed g = stays old new (ap (λ (h : HallState C A M). h.journal) g.0.2)
  step_grows old new take_one _ g = absurd g.0
  step_grows old new (apply_one key call) answer g = apply_grows old new key call answer g.0 g.2
  step_grows old new (put_one key settled) done g = stays old new (ap (λ (h : Hub). h.journal) g)
  step_grows old new (put_one key settled) _ g = absurd g
  step_grows old new (collect_for m) (outcome key settled) g = stays old new (ap (λ (h : Hub). h.journal) g.2)
  step_grows old new (collect_for m) empty g = stays old new (ap (λ (h : Hub). h.journal) g.2)
  step_grows old new (collect_for m) is_closed g = stays old new (ap (λ (h : Hub). h.journal) g.2)
  step_grows old new (collect_for m) _ g = absurd g
  step_grows old new close_all done g = stays old new (ap (λ (h : HallState C A M). h.journal) g.0)
  step_grows old new close_all _ g = absurd g.0

  grows : (hub : Hub) (log : List (HubCall C A M)) → IsHistory (HubGives n r) hub log → Grows hub (meaning_after hub log)
  grows hub [] h = stays hub hub refl
  grows hub (e ∷ log) h =
      let first : Grows hub e.after = step_grows hub e.after e.op e.reply h.0 in
      let rest : Grows e.after (meaning_after e.after log) = grows e.after log h.1 in
      (first.0 ++ rest.0, rest.1 ∙ ap (λ (x : List (JournalEntry C A)). x ++ rest.0) first.1 ∙ append_assoc hub.journal first.0 rest.0)

  joined : (asks : List (HallOperation C × HallAnswer A)) (seat : ℕ) (old new : Part) (rest : List (HallCall C A (List A))) → Follows asks old new → IsHistory (HallGives rules) new rest
      → IsHistory (HallGives rules) old (calls_with seat asks new ++ rest)
  joined [] seat old new rest f h = subst (λ (p : Part). IsHistory (HallGives rules) p rest) f h
  joined (x ∷ asks) seat old new rest f h = (f, h)

  pub sees : (hub : Hub) (log : List (HubCall C A M)) → IsHistory (HubGives n r) hub log → SubmitOwn n log → final ≡ own (meaning_after hub log).journal
      → IsHistory (HallGives rules) (part hub) (seen_calls n l final log)
  sees hub [] h s goes = tt
  sees hub (e ∷ log) h s goes =
      let rest : Grows e.after (meaning_after e.after log) = grows e.after log h.1 in
      joined (seen_ask n l e.op e.reply) (seen_seat l e.seat) (part hub) (part e.after) (seen_calls n l final log)
      (step_seen hub e.after e.op e.reply (own rest.0) (goes ∙ ap own rest.1 ∙ entries_append n l e.after.journal rest.0) s.0 h.0)
      (sees e.after log h.1 s.1 goes)

  joined_end : (asks : List (HallOperation C × HallAnswer A)) (seat : ℕ) (old new : Part) (rest : List (HallCall C A (List A))) → Follows asks old new
      → meaning_after old (calls_with seat asks new ++ rest) ≡ meaning_after new rest
  joined_end [] seat old new rest f = ap (λ (p : Part). meaning_after p rest) (sym f)
  joined_end (x ∷ asks) seat old new rest f = refl

  -- and what is seen of the end is its end
  pub sees_end : (hub : Hub) (log : List (HubCall C A M)) → IsHistory (HubGives n r) hub log → SubmitOwn n log → final ≡ own (meaning_after hub log).journal
      → meaning_after (part hub) (seen_calls n l final log) ≡ part (meaning_after hub log)
  sees_end hub [] h s goes = refl
  sees_end hub (e ∷ log) h s goes =
      let rest : Grows e.after (meaning_after e.after log) = grows e.after log h.1 in
      joined_end (seen_ask n l e.op e.reply) (seen_seat l e.seat) (part hub) (part e.after) (seen_calls n l final log)
      (step_seen hub e.after e.op e.reply (own rest.0) (goes ∙ ap own rest.1 ∙ entries_append n l e.after.journal rest.0) s.0 h.0)
      ∙ sees_end e.after log h.1 s.1 goes
