-- The hub's keys are those of its loops, so what each seat knows of its own calls is enough for what it asks of the hub.
use Rattle.std.proofs.Common.{◌≡◌, ℕ, ◌/◌, zero, suc, ◌+◌, ◌*◌, ◌%◌, ◌≤◌, ◌<◌, Bool, true, false, ◌==◌, ◌||◌, cond, if◌then◌else◌, List, [], ◌∷◌, ◌++◌, map, filter, length, refl, sym, ap, ◌∙◌, subst, inl, inr, ◌⊎◌, ⊎_elim, arith, eq-eqb, ne_eqb, append_assoc, append-nil, length-append}
use Rattle.std.proofs.lemmas.Bool.{cases_eq, false≢true, true≢false, false_from_ne_true, or_left, or_right, or_cases}
use Rattle.std.proofs.lemmas.Nat.{mod_below, div-mul-add, mod-mul-add}
use Rattle.std.proofs.lemmas.List.{length-map, map-append}
use Rattle.std.proofs.lemmas.List.Elements.{filter-append}
use Rattle.std.proofs.Math.Nat.{div-le_self, mul-div-le}
use Rattle.streams.specs.declared.outcomes.Settled.{Settled}
use Rattle.host_model.specs.declared.key.Key.{Key}
use Rattle.host_model.specs.Journal.{JournalEntry, ServiceRules}
use Rattle.call_history.specs.History.{meaning_after, IsHistory}
use Rattle.call_history.specs.Calls.{calls_by, asks_of, AllAllowed}
use Rattle.call_history.specs.Laws.{calls_by-own, calls_by-other}
use Rattle.machine_model.specs.HallState.{key_of, is_same, Job, JobOutcome, HallState, has_key, keys_in}
use Rattle.machine_model.specs.HallRule.{submit, HallAnswer, done, job, empty, is_closed, applied, no_memory, journal_fault, is_broken, outcome, outcome_of, TakesEffect, ApplyGives, HallGives}
use Rattle.machine_model.specs.OwnCalls.{HallCall, HallAsk, most_connections, HallCan, adds_key, frees_key, summed_calls, OwnAsksAllow, HallMay, any_of, submits_key, longest_payload}
use Rattle.machine_model.proofs.Keys.{has_either, has_one, has_self, in_jobs, in_taken, in_outcomes, counts}
use Rattle.machine_model.specs.OwnLoop.{CollectsItsOwn}
use Rattle.machine_model.proofs.Minding.{collects_own}
use Rattle.machine_model.proofs.Owning.{Owned, owned_first, owned_all, can_do, same_number}
use Rattle.hub_model.specs.HubState.{HubState, loop_of_conn, own_key, whole_key, but_outcomes, list_keys, keys_at, keys_of_loop, IsOpenedHub}
use Rattle.hub_model.specs.HubRule.{HubOperation, submit_from, take_one, apply_one, put_one, collect_for, close_all, with_list, HubCall, HubAsk, HubGives}
use Rattle.hub_model.specs.HubMay.{adds_for, frees_for, SubmitOwn, summed_asks, share, HubCan, OwnAllows, HubMay}
use Rattle.hub_model.specs.Seen.{replays, own_job, own_outcome, own_jobs, own_keys, own_entries, seen_part, seen_seat, seen_asks, seen_calls}
use Rattle.hub_model.proofs.Owned.{keys_first, keys_first_other}
use Rattle.hub_model.proofs.Seeing.{sees, sees_end}
use Rattle.hub_model.proofs.Opening.{opens}
use Rattle.hub_model.proofs.AsksSeen.{both, zero_at, same_mine, other_same, by_seat, adds_seen, frees_seen, holds_seen, submits_seen, submits_by, asks_seen, submits_own}
use Rattle.hub_model.proofs.Allowing.{may_submit, all_places, all_allowed}
use Rattle.hub_model.proofs.Sums.{sum_to, sum_more, sum_plus, parted, sum_strictly}

has_some : (k : Key) (ks : List Key) → has_key k ks ≡ true → 0 < length ks
has_some k [] h = absurd (false≢true h)
has_some k (x ∷ ks) h = omega arith

list_length : (lists : ℕ → List JobOutcome) (k : ℕ) → length (list_keys lists k) ≡ sum_to (λ m. length (lists m)) k
list_length lists zero = refl
list_length lists (suc k) =
    let rec : length (list_keys lists k) ≡ sum_to (λ m. length (lists m)) k = list_length lists k in
    let more : length (list_keys lists k ++ map (λ (o : JobOutcome). o.key) (lists k)) ≡ length (list_keys lists k) + length (map (λ (o : JobOutcome). o.key) (lists k)) =
    length-append (list_keys lists k) (map (λ (o : JobOutcome). o.key) (lists k)) in
    let last : length (map (λ (o : JobOutcome). o.key) (lists k)) ≡ length (lists k) = length-map (lists k) (λ (o : JobOutcome). o.key) in omega arith

-- in which list a key stands
list_with : (key : Key) (lists : ℕ → List JobOutcome) (k : ℕ) → has_key key (list_keys lists k) ≡ true → (m : ℕ) × (has_key key (map (λ (o : JobOutcome). o.key) (lists m)) ≡ true)
list_with key lists zero h = absurd (false≢true h)
list_with key lists (suc k) h = ⊎_elim (λ f. list_with key lists k f) (λ f. (k, f)) (has_either key (list_keys lists k) (map (λ (o : JobOutcome). o.key) (lists k)) h)

module _ (n l : ℕ) where
  abbrev own_ks : List Key → List Key
  own_ks ks = own_keys n l ks

  own_has : (key : Key) → loop_of_conn n key.c ≡ l → (ks : List Key) → has_key (own_key n key) (own_ks ks) ≡ has_key key ks
  own_has key p [] = refl
  own_has key p (k ∷ ks) = go (cases_eq (loop_of_conn n k.c) l) (own_has key p ks)
    where
      go : (loop_of_conn n k.c ≡ l) ⊎ (loop_of_conn n k.c ≡ l → ⊥) → has_key (own_key n key) (own_ks ks) ≡ has_key key ks → has_key (own_key n key) (own_ks (k ∷ ks)) ≡ has_key key (k ∷ ks)
      go (inl e) rec = ap (has_key (own_key n key)) (keys_first n l k ks e) ∙ (λ i. same_mine n l k key e p i || rec i)
      go (inr m) rec = ap (has_key (own_key n key)) (keys_first_other n l k ks m) ∙ rec ∙ ap (λ (t : Bool). t || has_key key ks) (sym (other_same n l k key m p))

  job_keys_are : (jobs : List Job) → map (λ (j : Job). j.key) (own_jobs n l jobs) ≡ own_ks (map (λ (j : Job). j.key) jobs)
  job_keys_are [] = refl
  job_keys_are (j ∷ jobs) =
      both (λ b. map (λ (x : Job). x.key) (map (own_job n) (cond b (j ∷ filter (λ (x : Job). loop_of_conn n x.key.c == l) jobs) (filter (λ (x : Job). loop_of_conn n x.key.c == l) jobs)))
      ≡ map (own_key n) (cond b (j.key ∷ filter (λ (x : Key). loop_of_conn n x.c == l) (map (λ (x : Job). x.key) jobs)) (filter (λ (x : Key). loop_of_conn n x.c == l) (map (λ (x : Job). x.key) jobs))))
      (ap (λ (ks : List Key). own_key n j.key ∷ ks) (job_keys_are jobs)) (job_keys_are jobs) (loop_of_conn n j.key.c == l)

  has_outcome : (key : Key) → loop_of_conn n key.c ≡ l → (os : List JobOutcome) → ((k : Key) → has_key k (map (λ (o : JobOutcome). o.key) os) ≡ true → loop_of_conn n k.c ≡ l)
      → has_key key (map (λ (o : JobOutcome). o.key) os) ≡ true → has_key (own_key n key) (map (λ (o : JobOutcome). o.key) (map (own_outcome n) os)) ≡ true
  has_outcome key p [] placed h = absurd (false≢true h)
  has_outcome key p (o ∷ os) placed h =
      ⊎_elim (λ f. or_left (is_same (own_key n o.key) (own_key n key)) rest (same_mine n l o.key key (placed o.key (has_self o.key (map (λ (x : JobOutcome). x.key) os))) p ∙ f))
      (λ f. or_right (is_same (own_key n o.key) (own_key n key)) rest
      (has_outcome key p os (λ k g. placed k (or_right (is_same o.key k) (has_key k (map (λ (x : JobOutcome). x.key) os)) g)) f)) (or_cases (is_same o.key key) (has_key key (map (λ (x : JobOutcome). x.key) os)) h)
    where
      rest : Bool
      rest = has_key (own_key n key) (map (λ (x : JobOutcome). x.key) (map (own_outcome n) os))

  -- the keys of loop l in the lists of the first k loops stand in its own list
  abbrev of_l : List Key → List Key
  of_l ks = filter (λ (k : Key). loop_of_conn n k.c == l) ks

  no_longer : (ks : List Key) → length (of_l ks) ≤ length ks
  no_longer [] = omega arith
  no_longer (k ∷ ks) =
      let rec : length (of_l ks) ≤ length ks = no_longer ks in
      both (λ b. length (cond b (k ∷ of_l ks) (of_l ks)) ≤ suc (length ks)) (omega arith) (omega arith) (loop_of_conn n k.c == l)

  none_of : (m : ℕ) → (m ≡ l → ⊥) → (ks : List Key) → ((k : Key) → has_key k ks ≡ true → loop_of_conn n k.c ≡ m) → of_l ks ≡ []
  none_of m other [] placed = refl
  none_of m other (k ∷ ks) placed =
      ap (λ (b : Bool). cond b (k ∷ of_l ks) (of_l ks)) (ne_eqb (loop_of_conn n k.c) l (λ q. other (sym (placed k (has_self k ks)) ∙ q)))
      ∙ none_of m other ks (λ x h. placed x (or_right (is_same k x) (has_key x ks) h))

  module _ (lists : ℕ → List JobOutcome) (placed : (m : ℕ) (k : Key) → has_key k (map (λ (o : JobOutcome). o.key) (lists m)) ≡ true → loop_of_conn n k.c ≡ m) where
    abbrev keys_on : ℕ → List Key
    keys_on m = map (λ (o : JobOutcome). o.key) (lists m)

    of_lists : (k : ℕ) → (k ≤ l → length (of_l (list_keys lists k)) ≡ 0) × (length (of_l (list_keys lists k)) ≤ length (lists l))
    of_lists zero = ((λ h. refl), omega arith)
    of_lists (suc k) = go (cases_eq k l) (of_lists k)
      where
        parts : length (of_l (list_keys lists (suc k))) ≡ length (of_l (list_keys lists k)) + length (of_l (keys_on k))
        parts =
            ap length (filter-append (λ (x : Key). loop_of_conn n x.c == l) (list_keys lists k) (keys_on k)) ∙ length-append (of_l (list_keys lists k)) (of_l (keys_on k))

        go : (k ≡ l) ⊎ (k ≡ l → ⊥) → (k ≤ l → length (of_l (list_keys lists k)) ≡ 0) × (length (of_l (list_keys lists k)) ≤ length (lists l))
            → (suc k ≤ l → length (of_l (list_keys lists (suc k))) ≡ 0) × (length (of_l (list_keys lists (suc k))) ≤ length (lists l))
        go (inl e) rec =
            let all : length (of_l (list_keys lists (suc k))) ≡ length (of_l (list_keys lists k)) + length (of_l (keys_on k)) = parts in
            let none : length (of_l (list_keys lists k)) ≡ 0 = rec.0 (let le : k ≤ l = omega arith in le) in
            let short : length (of_l (keys_on k)) ≤ length (keys_on k) = no_longer (keys_on k) in
            let many : length (keys_on k) ≡ length (lists k) = length-map (lists k) (λ (o : JobOutcome). o.key) in
            let same : length (lists k) ≡ length (lists l) = ap (λ (x : ℕ). length (lists x)) e in ((λ h. let f : ⊥ = omega arith in absurd f), omega arith)
        go (inr other) rec =
            let all : length (of_l (list_keys lists (suc k))) ≡ length (of_l (list_keys lists k)) + length (of_l (keys_on k)) = parts in
            let gone : length (of_l (keys_on k)) ≡ 0 = ap length (none_of k other (keys_on k) (placed k)) in
            let less : length (of_l (list_keys lists k)) ≤ length (lists l) = rec.1 in
            ((λ h. let none : length (of_l (list_keys lists k)) ≡ 0 = rec.0 (let le : k ≤ l = omega arith in le) in omega arith), omega arith)

module _ {C A : Type 0} where
  ask_push : (count : HubOperation C → HallAnswer A → ℕ) (own : List (HubAsk C A)) (e : HubAsk C A) → summed_asks count (own ++ e ∷ []) ≡ summed_asks count own + count e.op e.reply
  ask_push count [] e = omega arith
  ask_push count (x ∷ own) e =
      let f : summed_asks count (own ++ e ∷ []) ≡ summed_asks count own + count e.op e.reply = ask_push count own e in omega arith

module _ {C A M : Type 0} (n : ℕ) where
  -- outcomes stand in the lists of their connections' loops, and the services are as many
  record Kept (opening hub : HubState C A M) : Type 0 where
    placed : (m : ℕ) (k : Key) → has_key k (map (λ (o : JobOutcome). o.key) (hub.lists m)) ≡ true → loop_of_conn n k.c ≡ m
    memories : length hub.memories ≡ length opening.memories

  module _ (r : ServiceRules C A M) (opening old new : HubState C A M) (o : Kept opening old) where
    same : new.lists ≡ old.lists → length new.memories ≡ length old.memories → Kept opening new
    same lists memories = record {
      placed = λ m k h. o.placed m k (ap (λ (x : ℕ → List JobOutcome). has_key k (map (λ (y : JobOutcome). y.key) (x m))) (sym lists) ∙ h);
      memories = memories ∙ o.memories;
    }

    from_shown : (h : HallState C A M) → but_outcomes new ≡ h → new.lists ≡ old.lists → length h.memories ≡ length old.memories → Kept opening new
    from_shown h e lists count = same lists (ap (λ (x : HallState C A M). length x.memories) e ∙ count)

    after_apply : (key : Key) (call : C) (answer : HallAnswer A) (faults : ℕ) → ApplyGives r (but_outcomes old) key call faults answer (but_outcomes new) → new.lists ≡ old.lists → Kept opening new
    after_apply key call (applied a) faults g f = from_shown _ g.1.1 f (same_number r old.memories call)
    after_apply key call no_memory faults g f =
        ⊎_elim (λ (t : but_outcomes new ≡ record (but_outcomes old) { faults = faults }). from_shown (record (but_outcomes old) { faults = faults }) t f refl)
        (λ (t : (a : A) × TakesEffect r (but_outcomes old) key call a faults (but_outcomes new)). from_shown _ t.1.1 f (same_number r old.memories call)) g.1
    after_apply key call journal_fault faults g f = from_shown _ g.2 f (same_number r old.memories call)
    after_apply key call is_broken faults g f = from_shown (record (but_outcomes old) { faults = faults }) g.1 f refl
    after_apply key call _ faults g f = absurd g

    with_one : (at_loop : ℕ) (list : List JobOutcome) → ((k : Key) → has_key k (map (λ (y : JobOutcome). y.key) list) ≡ true → loop_of_conn n k.c ≡ at_loop) → new.lists ≡ with_list old.lists at_loop list
        → length new.memories ≡ length old.memories → Kept opening new
    with_one at_loop list right lists memories = record { placed = λ m k h. go m k (cases_eq m at_loop) h; memories = memories ∙ o.memories }
      where
        go : (m : ℕ) (k : Key) → (m ≡ at_loop) ⊎ (m ≡ at_loop → ⊥) → has_key k (map (λ (y : JobOutcome). y.key) (new.lists m)) ≡ true → loop_of_conn n k.c ≡ m
        go m k (inl e) h =
            right k (sym (ap (λ (x : List JobOutcome). has_key k (map (λ (y : JobOutcome). y.key) x)) (ap (λ (x : ℕ → List JobOutcome). x m) lists ∙ ap (λ (b : Bool). if b then list else old.lists m) (eq-eqb m at_loop e))) ∙ h) ∙ sym e
        go m k (inr other) h =
            o.placed m k (sym (ap (λ (x : List JobOutcome). has_key k (map (λ (y : JobOutcome). y.key) x)) (ap (λ (x : ℕ → List JobOutcome). x m) lists ∙ ap (λ (b : Bool). if b then list else old.lists m) (ne_eqb m at_loop other))) ∙ h)

    kept_step : (op : HubOperation C) (answer : HallAnswer A) → HubGives n r old op answer new → Kept opening new
    kept_step (submit_from m key payload) done g = from_shown _ g.0.1 g.1 refl
    kept_step (submit_from m key payload) is_closed g = from_shown (but_outcomes old) g.0.1 g.1 refl
    kept_step (submit_from m key payload) _ g = absurd g.0
    kept_step take_one (job key payload) g = from_shown _ g.0.2 g.1 refl
    kept_step take_one empty g = from_shown (but_outcomes old) g.0.2 g.1 refl
    kept_step take_one is_closed g = from_shown (but_outcomes old) g.0.2 g.1 refl
    kept_step take_one _ g = absurd g.0
    kept_step (apply_one key call) answer g = after_apply key call answer g.0 g.2 g.4
    kept_step (put_one key settled) done g =
        with_one (loop_of_conn n key.c) (old.lists (loop_of_conn n key.c) ++ outcome_of key settled ∷ [])
        (λ k h. ⊎_elim (λ f. o.placed (loop_of_conn n key.c) k f) (λ f. ap (λ (x : Key). loop_of_conn n x.c) (sym (has_one k key f)))
        (has_either k (map (λ (y : JobOutcome). y.key) (old.lists (loop_of_conn n key.c))) (key ∷ []) (ap (has_key k) (sym (map-append (λ (y : JobOutcome). y.key) (old.lists (loop_of_conn n key.c)) (outcome_of key settled ∷ []))) ∙ h)))
        (ap (λ (x : HubState C A M). x.lists) g) (ap (λ (x : HubState C A M). length x.memories) g)
    kept_step (put_one key settled) _ g = absurd g
    kept_step (collect_for m) (outcome key settled) g =
        with_one m g.0
        (λ k h. o.placed m k (ap (λ (x : List JobOutcome). has_key k (map (λ (y : JobOutcome). y.key) x)) g.1 ∙ or_right (is_same key k) (has_key k (map (λ (y : JobOutcome). y.key) g.0)) h))
        (ap (λ (x : HubState C A M). x.lists) g.2) (ap (λ (x : HubState C A M). length x.memories) g.2)
    kept_step (collect_for m) empty g = same (ap (λ (x : HubState C A M). x.lists) g.2) (ap (λ (x : HubState C A M). length x.memories) g.2)
    kept_step (collect_for m) is_closed g = same (ap (λ (x : HubState C A M). x.lists) g.2) (ap (λ (x : HubState C A M). length x.memories) g.2)
    kept_step (collect_for m) _ g = absurd g
    kept_step close_all done g = from_shown _ g.0 g.1 refl
    kept_step close_all _ g = absurd g.0

  kept_all : (r : ServiceRules C A M) (opening hub : HubState C A M) (log : List (HubCall C A M)) → Kept opening hub → IsHistory (HubGives n r) hub log → Kept opening (meaning_after hub log)
  kept_all r opening hub [] o h = o
  kept_all r opening hub (e ∷ log) o h = kept_all r opening e.after log (kept_step r opening hub e.after o e.op e.reply h.0) h.1

  kept_first : (hub : HubState C A M) → IsOpenedHub hub → Kept hub hub
  kept_first hub o = record {
    placed = λ m k h. absurd (false≢true (sym (ap (λ (x : List JobOutcome). has_key k (map (λ (y : JobOutcome). y.key) x)) (o.lists m)) ∙ h));
    memories = refl;
  }

  -- each seat keeps to its share
  module _ (r : ServiceRules C A M) (hub : HubState C A M) (m : ℕ) where
    abbrev Share : List (HubAsk C A) → Type 0
    Share own = summed_asks (adds_for m) own ≤ share n + summed_asks (frees_for m) own

    share_step : (seat : ℕ) (own : List (HubAsk C A)) (op : HubOperation C) (answer : HallAnswer A) → seat ≡ m → OwnAllows n r hub seat own op → Share own
        → summed_asks (adds_for m) own + adds_for m op answer ≤ share n + (summed_asks (frees_for m) own + frees_for m op answer)
    share_step seat own (submit_from k key payload) done is may h =
        let e : k ≡ m = sym may.0 ∙ is in
        let q : summed_asks (adds_for m) own < share n + summed_asks (frees_for m) own =
        subst (λ (x : ℕ). summed_asks (adds_for x) own < share n + summed_asks (frees_for x) own) e may.3 in
        both (λ b. summed_asks (adds_for m) own + (if b then 1 else 0) ≤ share n + (summed_asks (frees_for m) own + 0)) (omega arith) (omega arith) (k == m)
    share_step seat own op answer is may h = omega arith

    shares : (front back : List (HubAsk C A)) → AllAllowed (HubMay n r) hub (front ++ back) → Share (calls_by m front) → Share (calls_by m (front ++ back))
    shares front [] a s = subst (λ (log : List (HubAsk C A)). Share (calls_by m log)) (sym (append-nil front)) s
    shares front (e ∷ back) a s =
        let same : (front ++ e ∷ []) ++ back ≡ front ++ e ∷ back = append_assoc front (e ∷ []) back in
        subst (λ (log : List (HubAsk C A)). Share (calls_by m log)) same
        (shares (front ++ e ∷ []) back (subst (AllAllowed (HubMay n r) hub) (sym same) a) (go (cases_eq e.seat m) (a front back e refl).1))
      where
        go : (e.seat ≡ m) ⊎ (e.seat ≡ m → ⊥) → OwnAllows n r hub e.seat (calls_by e.seat front) e.op → Share (calls_by m (front ++ e ∷ []))
        go (inl is) may =
            subst Share (sym (calls_by-own m front e is))
            (let adds : summed_asks (adds_for m) (calls_by m front ++ e ∷ []) ≡ summed_asks (adds_for m) (calls_by m front) + adds_for m e.op e.reply = ask_push (adds_for m) (calls_by m front) e in
            let frees : summed_asks (frees_for m) (calls_by m front ++ e ∷ []) ≡ summed_asks (frees_for m) (calls_by m front) + frees_for m e.op e.reply = ask_push (frees_for m) (calls_by m front) e in
            let step : summed_asks (adds_for m) (calls_by m front) + adds_for m e.op e.reply ≤ share n + (summed_asks (frees_for m) (calls_by m front) + frees_for m e.op e.reply) =
            share_step e.seat (calls_by m front) e.op e.reply is (subst (λ (s : ℕ). OwnAllows n r hub e.seat (calls_by s front) e.op) is may) s in omega arith)
        go (inr other) may = subst Share (sym (calls_by-other m front e other)) s

    share_all : (log : List (HubAsk C A)) → AllAllowed (HubMay n r) hub log → Share (calls_by m log)
    share_all log a = shares [] log a (let z : 0 ≤ share n + 0 = omega arith in z)

  module _ (default : A) (r : ServiceRules C A M) (hub : HubState C A M) (log : List (HubCall C A M)) (history : IsHistory (HubGives n r) hub log)
      (allowed : AllAllowed (HubMay n r) hub (asks_of log)) (opened : IsOpenedHub hub) where
    abbrev last : HubState C A M
    last = meaning_after hub log

    abbrev final : ℕ → List (JournalEntry C A)
    final l = own_entries n l last.journal

    -- what loop l sees of the end
    abbrev part : ℕ → HallState C A (List A)
    part l = seen_part n l (final l) last

    abbrev part_first : ℕ → HallState C A (List A)
    part_first l = seen_part n l (final l) hub

    abbrev seen : ℕ → List (HallCall C A (List A))
    seen l = seen_calls n l (final l) log

    abbrev rules : ServiceRules C A (List A)
    rules = replays default

    seen_history : (l : ℕ) → IsHistory (HallGives rules) (part_first l) (seen l)
    seen_history l =
        sees default r n l (final l) hub log history (submits_own n l (final l) log (all_places n l (final l) default r hub (asks_of log) allowed)) refl

    seen_allowed : (l : ℕ) → AllAllowed (HallMay rules) (part_first l) (asks_of (seen l))
    seen_allowed l = subst (AllAllowed (HallMay rules) (part_first l)) (sym (asks_seen n l (final l) log)) (all_allowed n l (final l) default r hub (asks_of log) allowed)

    seen_end : (l : ℕ) → meaning_after (part_first l) (seen l) ≡ part l
    seen_end l =
        sees_end default r n l (final l) hub log history (submits_own n l (final l) log (all_places n l (final l) default r hub (asks_of log) allowed)) refl

    owned : (l : ℕ) → Owned (part_first l) (seen_asks n l (asks_of log)) (part l)
    owned l =
        subst (λ (h : HallState C A (List A)). Owned (part_first l) (seen_asks n l (asks_of log)) h) (seen_end l)
        (subst (λ (asks : List (HallAsk C A)). Owned (part_first l) asks (meaning_after (part_first l) (seen l))) (asks_seen n l (final l) log)
        (owned_all rules (part_first l) [] (seen l) (part_first l) (owned_first (part_first l) (opens n l (final l) hub opened)) (seen_history l) (seen_allowed l)))

    -- the keys of loop l, and what its seat did
    counted : (l : ℕ) → length (keys_in (part l)) + summed_asks (frees_for l) (calls_by l (asks_of log)) ≤ summed_asks (adds_for l) (calls_by l (asks_of log))
    counted l =
        let c : length (keys_in (part l)) + summed_calls frees_key (calls_by 0 (seen_asks n l (asks_of log))) ≤ summed_calls adds_key (calls_by 0 (seen_asks n l (asks_of log))) = (owned l).counted in
        let own : calls_by 0 (seen_asks n l (asks_of log)) ≡ seen_asks n l (calls_by l (asks_of log)) = ap (λ (s : ℕ). calls_by s (seen_asks n l (asks_of log))) (sym (zero_at l l refl)) ∙ by_seat n l l (asks_of log) in
        let a : summed_calls adds_key (calls_by 0 (seen_asks n l (asks_of log))) ≡ summed_asks (adds_for l) (calls_by l (asks_of log)) = ap (summed_calls adds_key) own ∙ adds_seen n l (calls_by l (asks_of log)) in
        let f : summed_calls frees_key (calls_by 0 (seen_asks n l (asks_of log))) ≡ summed_asks (frees_for l) (calls_by l (asks_of log)) = ap (summed_calls frees_key) own ∙ frees_seen n l (calls_by l (asks_of log)) in
        omega arith

    within : (l : ℕ) → length (keys_in (part l)) ≤ share n
    within l =
        let c : length (keys_in (part l)) + summed_asks (frees_for l) (calls_by l (asks_of log)) ≤ summed_asks (adds_for l) (calls_by l (asks_of log)) = counted l in
        let s : summed_asks (adds_for l) (calls_by l (asks_of log)) ≤ share n + summed_asks (frees_for l) (calls_by l (asks_of log)) = share_all r hub l (asks_of log) allowed in omega arith

    part_length : (l : ℕ)
        → length (keys_in (part l)) ≡ length (filter (λ (j : Job). loop_of_conn n j.key.c == l) last.jobs) + (length (filter (λ (k : Key). loop_of_conn n k.c == l) last.taken) + length (last.lists l))
    part_length l =
        let all : length (keys_in (part l)) ≡ length (map (λ (j : Job). j.key) (part l).jobs) + (length (part l).taken + length (map (λ (o : JobOutcome). o.key) (part l).outcomes)) = counts (part l) in
        let j : length (map (λ (j : Job). j.key) (part l).jobs) ≡ length (filter (λ (j : Job). loop_of_conn n j.key.c == l) last.jobs) =
        length-map (part l).jobs (λ (j : Job). j.key) ∙ length-map (filter (λ (j : Job). loop_of_conn n j.key.c == l) last.jobs) (own_job n) in
        let t : length (part l).taken ≡ length (filter (λ (k : Key). loop_of_conn n k.c == l) last.taken) = length-map (filter (λ (k : Key). loop_of_conn n k.c == l) last.taken) (own_key n) in
        let o : length (map (λ (o : JobOutcome). o.key) (part l).outcomes) ≡ length (last.lists l) =
        length-map (part l).outcomes (λ (o : JobOutcome). o.key) ∙ length-map (last.lists l) (own_outcome n) in omega arith

    kept : Kept hub last
    kept = kept_all r hub hub log (kept_first hub opened) history

    -- those of one loop are what it sees
    own_number : (l : ℕ) → length (keys_of_loop n l last) ≤ length (keys_in (part l))
    own_number l =
        let whole : length (keys_of_loop n l last) ≡ length (of_l n l job_keys) + length (of_l n l (last.taken ++ list_keys last.lists n)) =
        ap length (filter-append (λ (k : Key). loop_of_conn n k.c == l) job_keys (last.taken ++ list_keys last.lists n)) ∙ length-append (of_l n l job_keys) (of_l n l (last.taken ++ list_keys last.lists n)) in
        let rest : length (of_l n l (last.taken ++ list_keys last.lists n)) ≡ length (of_l n l last.taken) + length (of_l n l (list_keys last.lists n)) =
        ap length (filter-append (λ (k : Key). loop_of_conn n k.c == l) last.taken (list_keys last.lists n)) ∙ length-append (of_l n l last.taken) (of_l n l (list_keys last.lists n)) in
        let queued : length (of_l n l job_keys) ≡ length (filter (λ (j : Job). loop_of_conn n j.key.c == l) last.jobs) =
        sym (length-map (of_l n l job_keys) (own_key n)) ∙ ap length (sym (job_keys_are n l last.jobs)) ∙ length-map (part l).jobs (λ (j : Job). j.key)
        ∙ length-map (filter (λ (j : Job). loop_of_conn n j.key.c == l) last.jobs) (own_job n) in
        let put : length (of_l n l (list_keys last.lists n)) ≤ length (last.lists l) = (of_lists n l last.lists kept.placed n).1 in
        let sum : length (keys_in (part l)) ≡ length (filter (λ (j : Job). loop_of_conn n j.key.c == l) last.jobs) + (length (filter (λ (k : Key). loop_of_conn n k.c == l) last.taken) + length (last.lists l)) = part_length l in omega arith
      where
        job_keys : List Key
        job_keys = map (λ (j : Job). j.key) last.jobs

    -- the hub's keys are no more than those of its loops
    all_parts : 0 < n → length (keys_at n last) ≤ sum_to (λ l. length (keys_in (part l))) n
    all_parts some =
        let all : length (keys_at n last) ≡ length (map (λ (j : Job). j.key) last.jobs) + length (last.taken ++ list_keys last.lists n) =
        length-append (map (λ (j : Job). j.key) last.jobs) (last.taken ++ list_keys last.lists n) in
        let rest : length (last.taken ++ list_keys last.lists n) ≡ length last.taken + length (list_keys last.lists n) = length-append last.taken (list_keys last.lists n) in
        let jn : length (map (λ (j : Job). j.key) last.jobs) ≡ length last.jobs = length-map last.jobs (λ (j : Job). j.key) in
        let ln : length (list_keys last.lists n) ≡ sum_to c n = list_length last.lists n in
        let ja : length last.jobs ≤ sum_to a n = parted (λ (j : Job). loop_of_conn n j.key.c) n (λ j. mod_below j.key.c n some) last.jobs in
        let tb : length last.taken ≤ sum_to b n = parted (λ (k : Key). loop_of_conn n k.c) n (λ k. mod_below k.c n some) last.taken in
        let p : sum_to (λ l. a l + (b l + c l)) n ≡ sum_to a n + sum_to (λ l. b l + c l) n = sum_plus a (λ l. b l + c l) n in
        let q : sum_to (λ l. b l + c l) n ≡ sum_to b n + sum_to c n = sum_plus b c n in
        let m : sum_to (λ l. a l + (b l + c l)) n ≤ sum_to (λ l. length (keys_in (part l))) n =
        sum_more (λ l. a l + (b l + c l)) (λ l. length (keys_in (part l))) n
        (λ l. let e : length (keys_in (part l)) ≡ a l + (b l + c l) = part_length l in let f : a l + (b l + c l) ≤ length (keys_in (part l)) = omega arith in f) in omega arith
      where
        a : ℕ → ℕ
        a l = length (filter (λ (j : Job). loop_of_conn n j.key.c == l) last.jobs)

        b : ℕ → ℕ
        b l = length (filter (λ (k : Key). loop_of_conn n k.c == l) last.taken)

        c : ℕ → ℕ
        c l = length (last.lists l)

    -- of what loop l collects, each was submitted by it, and not collected before
    pub own_collects : (l : ℕ) → CollectsItsOwn (seen_asks n l (calls_by l (asks_of log)))
    own_collects l =
        subst (λ (own : List (HallAsk C A)). CollectsItsOwn own)
        (ap (calls_by 0) (asks_seen n l (final l) log) ∙ (ap (λ (s : ℕ). calls_by s (seen_asks n l (asks_of log))) (sym (zero_at l l refl)) ∙ by_seat n l l (asks_of log)))
        (collects_own rules (part_first l) (seen l) (seen_history l) (seen_allowed l))

    -- and its calls submit from their own connections' loops
    pub own_fits : (l : ℕ) → SubmitOwn n (calls_by l (asks_of log))
    own_fits l = submits_by n l l (asks_of log) (all_places n l (final l) default r hub (asks_of log) allowed)

    -- a key of the hub is seen by its loop
    seen_key : (l : ℕ) (key : Key) → loop_of_conn n key.c ≡ l → has_key key (keys_at n last) ≡ true → has_key (own_key n key) (keys_in (part l)) ≡ true
    seen_key l key p h =
        ⊎_elim (λ f. in_jobs (own_key n key) (part l) (ap (has_key (own_key n key)) (job_keys_are n l last.jobs) ∙ own_has n l key p (map (λ (j : Job). j.key) last.jobs) ∙ f))
        (λ f. ⊎_elim (λ g. in_taken (own_key n key) (part l) (own_has n l key p last.taken ∙ g)) in_lists (has_either key last.taken (list_keys last.lists n) f))
        (has_either key (map (λ (j : Job). j.key) last.jobs) (last.taken ++ list_keys last.lists n) h)
      where
        in_lists : has_key key (list_keys last.lists n) ≡ true → has_key (own_key n key) (keys_in (part l)) ≡ true
        in_lists g =
            let found : (m : ℕ) × (has_key key (map (λ (o : JobOutcome). o.key) (last.lists m)) ≡ true) = list_with key last.lists n g in
            let is : found.0 ≡ l = sym (kept.placed found.0 key found.1) ∙ p in
            in_outcomes (own_key n key) (part l)
            (has_outcome n l key p (last.lists l) (λ k x. kept.placed l k x) (subst (λ (m : ℕ). has_key key (map (λ (o : JobOutcome). o.key) (last.lists m)) ≡ true) is found.1))

    taken_by : (seat : ℕ) (key : Key) → OwnAllows n r hub seat (calls_by seat (asks_of log)) (put_one key (Rattle.streams.specs.declared.outcomes.Settled.TheVariants.NoMemory)) → has_key key last.taken ≡ true
    taken_by seat key may =
        let l : ℕ = loop_of_conn n key.c in
        sym (own_has n l key refl last.taken)
        ∙ ((owned l).held (seen_seat l seat) (own_key n key) (ap (λ (own : List (HallAsk C A)). Rattle.machine_model.specs.OwnCalls.holds_key (own_key n key) own) (by_seat n l seat (asks_of log)) ∙ holds_seen n l key refl false (calls_by seat (asks_of log)) ∙ may)).0

    hub_can : 0 < n → (seat : ℕ) (op : HubOperation C) → OwnAllows n r hub seat (calls_by seat (asks_of log)) op → HubCan n r last op
    hub_can some seat (submit_from l key payload) may = (room, fresh, may.5, may.2, may.1, own_room)
      where
        less : length (keys_in (part l)) < share n
        less =
            let c : length (keys_in (part l)) + summed_asks (frees_for l) (calls_by l (asks_of log)) ≤ summed_asks (adds_for l) (calls_by l (asks_of log)) = counted l in
            let m : summed_asks (adds_for l) (calls_by l (asks_of log)) < share n + summed_asks (frees_for l) (calls_by l (asks_of log)) =
            subst (λ (s : ℕ). summed_asks (adds_for l) (calls_by s (asks_of log)) < share n + summed_asks (frees_for l) (calls_by s (asks_of log))) may.0 may.3 in omega arith

        room : length (keys_at n last) < most_connections
        room =
            let p : length (keys_at n last) ≤ sum_to (λ m. length (keys_in (part m))) n = all_parts some in
            let q : sum_to (λ m. length (keys_in (part m))) n < n * (share n) =
            sum_strictly (λ m. length (keys_in (part m))) n (share n) l (λ m lt. within m) may.1 less in
            let d : n * (share n) ≤ most_connections = mul-div-le most_connections n in omega arith

        own_room : length (keys_of_loop n l last) < share n
        own_room =
            let few : length (keys_of_loop n l last) ≤ length (keys_in (part l)) = own_number l in
            let within : length (keys_in (part l)) < share n = less in omega arith

        seen_may : HallMay rules (part_first l) (seen_seat l seat) (calls_by (seen_seat l seat) (seen_asks n l (asks_of log))) (submit (own_key n key) payload)
        seen_may =
            subst (λ (own : List (HallAsk C A)). HallMay rules (part_first l) (seen_seat l seat) own (submit (own_key n key) payload)) (sym (by_seat n l seat (asks_of log)))
            (may_submit n l (final l) default r hub seat (calls_by seat (asks_of log)) key payload (submits_by n l seat (asks_of log) (all_places n l (final l) default r hub (asks_of log) allowed)) opened may)

        can : HallCan rules (part l) (submit (own_key n key) payload)
        can = can_do rules (part_first l) (seen_asks n l (asks_of log)) (part l) (seen_seat l seat) (submit (own_key n key) payload) (owned l) seen_may.1

        fresh : has_key key (keys_at n last) ≡ false
        fresh = false_from_ne_true (has_key key (keys_at n last)) (λ h. true≢false (sym (seen_key l key may.2 h) ∙ can.1))
    hub_can some seat take_one may = tt
    hub_can some seat (apply_one key call) may = (taken_by seat key may.0, subst (λ (x : ℕ). r.slot call < x) (sym kept.memories) may.2)
    hub_can some seat (put_one key settled) may = (taken_by seat key may, room)
      where
        l : ℕ
        l = loop_of_conn n key.c

        room : length (last.lists l) < most_connections
        room =
            let t : 0 < length (part l).taken = has_some (own_key n key) (part l).taken (own_has n l key refl last.taken ∙ taken_by seat key may) in
            let all : length (keys_in (part l)) ≡ length (filter (λ (j : Job). loop_of_conn n j.key.c == l) last.jobs) + (length (filter (λ (k : Key). loop_of_conn n k.c == l) last.taken) + length (last.lists l)) = part_length l in
            let tn : length (part l).taken ≡ length (filter (λ (k : Key). loop_of_conn n k.c == l) last.taken) = length-map (filter (λ (k : Key). loop_of_conn n k.c == l) last.taken) (own_key n) in
            let w : length (keys_in (part l)) ≤ share n = within l in
            let d : most_connections / n ≤ most_connections = div-le_self most_connections n in omega arith
    hub_can some seat (collect_for l) may = may
    hub_can some seat close_all may = tt

-- what each seat knows of its own calls is enough
pub hub_suffices : {C A M : Type 0} (n : ℕ) (default : A) (r : ServiceRules C A M) (hub : HubState C A M) (log : List (HubCall C A M)) (seat : ℕ) (op : HubOperation C) → 0 < n
    → IsHistory (HubGives n r) hub log → AllAllowed (HubMay n r) hub (asks_of log) → HubMay n r hub seat (calls_by seat (asks_of log)) op → HubCan n r (meaning_after hub log) op
hub_suffices n default r hub log seat op some history allowed may = hub_can n default r hub log history allowed may.0 some seat op may.1

-- a loop that has room for a key, by what it sees of its own asks, may submit it to the hub under its whole number
pub loop_may_submit : {C A M : Type 0} (n l : ℕ) (r : ServiceRules C A M) (hub : HubState C A M) (own : List (HubAsk C A)) (key : Key) (payload : List ℕ) → l < n → IsOpenedHub hub → SubmitOwn n own
    → summed_calls adds_key (seen_asks n l own) < share n + summed_calls frees_key (seen_asks n l own) → any_of (submits_key key) (seen_asks n l own) ≡ false
    → length payload ≤ longest_payload → HubMay n r hub l own (submit_from l (whole_key n l key) payload)
loop_may_submit {C} {A} n l r hub own key payload small opened places room unused short =
    (opened, (refl, small, whole, less, sym (submits_seen n l (whole_key n l key) whole own places) ∙ (ap (λ (k : Key). any_of (submits_key k) (seen_asks n l own)) same ∙ unused), short))
  where
    whole : (key.c * n + l) % n ≡ l
    whole = mod-mul-add key.c n l small

    same : own_key n (whole_key n l key) ≡ key
    same = λ i. key_of (div-mul-add key.c n l small i) key.i

    less : summed_asks (adds_for {C = C} {A = A} l) own < share n + summed_asks (frees_for {C = C} {A = A} l) own
    less =
        let a : summed_calls adds_key (seen_asks n l own) ≡ summed_asks (adds_for l) own = adds_seen n l own in
        let f : summed_calls frees_key (seen_asks n l own) ≡ summed_asks (frees_for l) own = frees_seen n l own in omega arith

-- what a loop's own calls tell in mid-run
pub loop_told : {C A M : Type 0} (n l : ℕ) (default : A) (r : ServiceRules C A M) (hub : HubState C A M) (log : List (HubCall C A M)) → IsOpenedHub hub
    → IsHistory (HubGives n r) hub log → AllAllowed (HubMay n r) hub (asks_of log) → CollectsItsOwn (seen_asks n l (calls_by l (asks_of log))) × SubmitOwn n (calls_by l (asks_of log))
loop_told n l default r hub log opened history allowed = (own_collects n default r hub log history allowed opened l, own_fits n default r hub log history allowed opened l)
