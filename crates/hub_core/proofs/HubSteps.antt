-- Steps of a hall and of its lists are steps of the hub.
use Rattle.std.proofs.Common.{◌≡◌, ◌≢◌, ℕ, ◌+◌, ◌<◌, ◌%◌, ◌⊎◌, Bool, true, false, if◌then◌else◌, Option, None, Some, List, [], ◌∷◌, ◌++◌, map, length, get_or, set, refl, sym, ap, ◌∙◌, subst, inl, inr, ⊎_elim, arith, eq-eqb, ne_eqb, length-append, append-nil}
use Rattle.std.proofs.lemmas.Bool.{cases_eq, true≢false, false_from_ne_true}
use Rattle.std.proofs.lemmas.List.{get_or-set_same, get_or-set_other}
use Rattle.streams.specs.declared.outcomes.Settled.{Settled}
use Rattle.host_model.specs.declared.key.Key.{Key}
use Rattle.host_model.specs.Journal.{ServiceRules}
use Rattle.call_rules.specs.PlainCalls.{PlainCall, PlainAnswer}
use Rattle.call_rules.specs.Entries.{CallEntry}
use Rattle.call_rules.specs.Handling.{ServiceState, handler_rules}
use Rattle.machine_model.specs.HallState.{Job, JobOutcome, HallState, has_key, keys_in, without}
use Rattle.machine_model.specs.OwnCalls.{most_connections, HallCan}
use Rattle.machine_model.proofs.Keys.{has_left, has_right, has_either}
use Rattle.machine_model.specs.HallRule.{HallOperation, submit, take_job, apply, close, HallAnswer, done, job, empty, is_closed, applied, no_memory, journal_fault, is_broken, outcome, outcome_of, SubmitGives, TakeGives, TakesEffect, ApplyGives, CloseGives, HallGives}
use Rattle.machine_model.specs.SeenHall.{MayHave, filled, SeenGives}
use Rattle.hall_core.specs.Meant.{ServedHall}
use Rattle.hub_model.specs.HubState.{list_keys, but_outcomes}
use Rattle.hub_model.specs.HubRule.{HubOperation, submit_from, take_one, apply_one, put_one, collect_for, close_all, with_list, HubGives}
use Rattle.hub_model.specs.HubMay.{HubCan}
use Rattle.hub_core.specs.Hub.{served_hub, loop_list, hub_filled, HubCollects}

-- there are entries that a journal may have
some_entries : {X : Type 0} (told : Option (List X)) → (entries : List X) × MayHave told entries
some_entries None = ([], tt)
some_entries (Some entries) = (entries, refl)

module _ {C A M : Type 0} (r : ServiceRules C A M) (old new : HallState C A M) where
  -- an operation that leaves outcomes alone
  abbrev pub Quiet : HallOperation C → Type 0
  Quiet (submit key payload) = Unit {0}
  Quiet take_job = Unit {0}
  Quiet (apply key call) = Unit {0}
  Quiet close = Unit {0}
  Quiet _ = ⊥

  same : (h : HallState C A M) → new ≡ h → h.outcomes ≡ old.outcomes → new.outcomes ≡ old.outcomes
  same h e o = ap (λ (x : HallState C A M). x.outcomes) e ∙ o

  applied_quiet : (key : Key) (call : C) (answer : HallAnswer A) (faults : ℕ) → ApplyGives r old key call faults answer new → new.outcomes ≡ old.outcomes
  applied_quiet key call (applied a) faults g = same _ g.1.1 refl
  applied_quiet key call no_memory faults g =
      ⊎_elim (λ (t : new ≡ record old { faults = faults }). same (record old { faults = faults }) t refl) (λ (t : (a : A) × TakesEffect r old key call a faults new). same _ t.1.1 refl) g.1
  applied_quiet key call journal_fault faults g = same _ g.2 refl
  applied_quiet key call is_broken faults g = same (record old { faults = faults }) g.1 refl
  applied_quiet key call _ faults g = absurd g

  pub quiet : (op : HallOperation C) (answer : HallAnswer A) → Quiet op → HallGives r old op answer new → new.outcomes ≡ old.outcomes
  quiet (submit key payload) done q g = same _ g.1 refl
  quiet (submit key payload) is_closed q g = same old g.1 refl
  quiet (submit key payload) _ q g = absurd g
  quiet take_job (job key payload) q g = same _ g.2 refl
  quiet take_job empty q g = same old g.2 refl
  quiet take_job is_closed q g = same old g.2 refl
  quiet take_job _ q g = absurd g
  quiet (apply key call) answer q g = applied_quiet key call answer g.0 g.2
  quiet close done q g = same _ g refl
  quiet close _ q g = absurd g
  quiet _ answer q g = absurd q

-- lists with another in the place of one
set_is : (lists : List (List JobOutcome)) (p : ℕ) (x : List JobOutcome) → p < length lists → loop_list (set lists p x) ≡ with_list (loop_list lists) p x
set_is lists p x small = λ i m. go m (cases_eq m p) i
  where
    go : (m : ℕ) → (m ≡ p) ⊎ (m ≡ p → ⊥) → loop_list (set lists p x) m ≡ with_list (loop_list lists) p x m
    go m (inl e) =
        ap (λ (y : ℕ). get_or (set lists p x) y []) e ∙ get_or-set_same lists p x [] small
        ∙ sym (ap (λ (b : Bool). if b then x else loop_list lists m) (eq-eqb m p e))
    go m (inr other) =
        get_or-set_other lists p m x [] other ∙ sym (ap (λ (b : Bool). if b then x else loop_list lists m) (ne_eqb m p other))

module _ (n : ℕ) (old new : ServedHall) (lists : List (List JobOutcome)) (none : old.outcomes ≡ []) where
  abbrev State : Type 0
  State = HallState PlainCall PlainAnswer ServiceState

  -- what is answered and left, by the rule of the hub
  abbrev pub Gives : HubOperation PlainCall → HallAnswer PlainAnswer → List (List JobOutcome) → Type 0
  Gives op answer lists_then =
      (entries : List CallEntry) → MayHave old.told entries
      → (later : List CallEntry) × MayHave new.told later × HubGives n handler_rules (hub_filled (served_hub old lists) entries) op answer (hub_filled (served_hub new lists_then) later)

  pub none_then : (op : HallOperation PlainCall) (answer : HallAnswer PlainAnswer) → Quiet handler_rules (filled old []) (filled new []) op → SeenGives handler_rules old op answer new → new.outcomes ≡ []
  none_then op answer q g =
      let es : (entries : List CallEntry) × MayHave old.told entries = some_entries old.told in
      let t : (later : List CallEntry) × MayHave new.told later × HallGives handler_rules (filled old es.0) op answer (filled new later) = g es.0 es.1 in
      quiet handler_rules (filled old es.0) (filled new t.0) op answer q t.2 ∙ none

  shown_is : (h : ServedHall) (es : List CallEntry) → h.outcomes ≡ [] → filled h es ≡ but_outcomes (hub_filled (served_hub h lists) es)
  shown_is h es e = λ i. record (filled h es) { outcomes = e i }

  across : (P : State → State → Type 0) (es later : List CallEntry) → new.outcomes ≡ [] → P (filled old es) (filled new later)
      → P (but_outcomes (hub_filled (served_hub old lists) es)) (but_outcomes (hub_filled (served_hub new lists) later))
  across P es later e p =
      subst (λ (h : State). P h (but_outcomes (hub_filled (served_hub new lists) later))) (shown_is old es none) (subst (λ (h : State). P (filled old es) h) (shown_is new later e) p)

  pub submits : (l : ℕ) (key : Key) (payload : List ℕ) (answer : HallAnswer PlainAnswer) → SeenGives handler_rules old (submit key payload) answer new → Gives (submit_from l key payload) answer lists
  submits l key payload answer g es may =
      let t : (later : List CallEntry) × MayHave new.told later × HallGives handler_rules (filled old es) (submit key payload) answer (filled new later) = g es may in
      (t.0, t.1, (across (λ a b. SubmitGives a key payload answer b) es t.0 (none_then (submit key payload) answer tt g) t.2, refl))

  pub takes : (answer : HallAnswer PlainAnswer) → SeenGives handler_rules old take_job answer new → Gives take_one answer lists
  takes answer g es may =
      let t : (later : List CallEntry) × MayHave new.told later × HallGives handler_rules (filled old es) take_job answer (filled new later) = g es may in
      (t.0, t.1, (across (λ a b. TakeGives a answer b) es t.0 (none_then take_job answer tt g) t.2, refl))

  pub applies : (key : Key) (call : PlainCall) (answer : HallAnswer PlainAnswer) → SeenGives handler_rules old (apply key call) answer new → Gives (apply_one key call) answer lists
  applies key call answer g es may =
      let t : (later : List CallEntry) × MayHave new.told later × HallGives handler_rules (filled old es) (apply key call) answer (filled new later) = g es may in
      (t.0, t.1, (t.2.0, t.2.1, across (λ a b. ApplyGives handler_rules a key call t.2.0 answer b) es t.0 (none_then (apply key call) answer tt g) t.2.2, t.2.3, refl))

  pub closes : (answer : HallAnswer PlainAnswer) → SeenGives handler_rules old close answer new → Gives close_all answer lists
  closes answer g es may =
      let t : (later : List CallEntry) × MayHave new.told later × HallGives handler_rules (filled old es) close answer (filled new later) = g es may in
      (t.0, t.1, (across (λ a b. CloseGives a answer b) es t.0 (none_then close answer tt g) t.2, refl))

  pub puts : (key : Key) (settled : Settled) (lists_then : List (List JobOutcome)) → key.c % n < length lists → new ≡ record old { taken = without key old.taken }
      → lists_then ≡ set lists (key.c % n) (loop_list lists (key.c % n) ++ outcome_of key settled ∷ []) → Gives (put_one key settled) done lists_then
  puts key settled lists_then small is put es may = (
    es,
    subst (λ (h : ServedHall). MayHave h.told es) (sym is) may,
    ap (λ (h : ServedHall). hub_filled (served_hub h lists_then) es) is
        ∙ (λ i. record (hub_filled (served_hub (record old { taken = without key old.taken }) lists) es) {
          lists = (ap loop_list put ∙ set_is lists (key.c % n) (loop_list lists (key.c % n) ++ outcome_of key settled ∷ []) small) i;
        }),
  )

-- an outcome is collected for loop l, or there is none
pub collects : (n l : ℕ) (hall : ServedHall) (lists lists_then : List (List JobOutcome)) (answer : HallAnswer PlainAnswer) → l < length lists → HubCollects lists lists_then l hall answer
    → (entries : List CallEntry) → MayHave hall.told entries
    → (later : List CallEntry) × MayHave hall.told later
    × HubGives {M = ServiceState} n handler_rules (hub_filled (served_hub hall lists) entries) (collect_for l) answer (hub_filled (served_hub hall lists_then) later)
collects n l hall lists lists_then (outcome key settled) small g es may = (
  es,
  may,
  (loop_list lists_then l, g.0, λ i. record (hub_filled (served_hub hall lists) es) { lists = (ap loop_list g.1 ∙ set_is lists l (loop_list lists_then l) small) i }),
)
collects n l hall lists lists_then empty small g es may = (es, may, (g.0, g.1, ap (λ (x : List (List JobOutcome)). hub_filled (served_hub hall x) es) g.2))
collects n l hall lists lists_then is_closed small g es may = (es, may, (g.0, g.1, ap (λ (x : List (List JobOutcome)). hub_filled (served_hub hall x) es) g.2))
collects n l hall lists lists_then _ small g es may = absurd g

-- what a hub can be asked to submit its hall can
pub submit_can : (n : ℕ) (hall : ServedHall) (lists : List (List JobOutcome)) (l : ℕ) (key : Key) (payload : List ℕ) → hall.outcomes ≡ []
    → HubCan n handler_rules (hub_filled (served_hub hall lists) []) (submit_from l key payload) → HallCan handler_rules (filled hall []) (submit key payload)
submit_can n hall lists l key payload none can = (room, fresh, can.2)
  where
    jobs : List Key
    jobs = map (λ (j : Job). j.key) hall.jobs

    all : List Key
    all = jobs ++ (hall.taken ++ list_keys (loop_list lists) n)

    fewer : keys_in (filled hall []) ≡ jobs ++ (hall.taken ++ [])
    fewer = λ i. jobs ++ (hall.taken ++ map (λ (o : JobOutcome). o.key) (none i))

    room : length (keys_in (filled hall [])) < most_connections
    room =
        let a : length (keys_in (filled hall [])) ≡ length (jobs ++ (hall.taken ++ [])) = ap length fewer in
        let b : length (jobs ++ (hall.taken ++ [])) ≡ length jobs + length (hall.taken ++ []) = length-append jobs (hall.taken ++ []) in
        let c : length (hall.taken ++ []) ≡ length hall.taken = ap length (append-nil hall.taken) in
        let d : length all ≡ length jobs + length (hall.taken ++ list_keys (loop_list lists) n) = length-append jobs (hall.taken ++ list_keys (loop_list lists) n) in
        let e : length (hall.taken ++ list_keys (loop_list lists) n) ≡ length hall.taken + length (list_keys (loop_list lists) n) = length-append hall.taken (list_keys (loop_list lists) n) in
        let f : length all < most_connections = can.0 in omega arith

    there : (has_key key jobs ≡ true) ⊎ (has_key key (hall.taken ++ []) ≡ true) → has_key key all ≡ true
    there (inl h) = has_left key jobs (hall.taken ++ list_keys (loop_list lists) n) h
    there (inr h) = has_right key jobs (hall.taken ++ list_keys (loop_list lists) n) (has_left key hall.taken (list_keys (loop_list lists) n) (sym (ap (has_key key) (append-nil hall.taken)) ∙ h))

    fresh : has_key key (keys_in (filled hall [])) ≡ false
    fresh = false_from_ne_true (has_key key (keys_in (filled hall []))) (λ h. true≢false (sym (there (has_either key jobs (hall.taken ++ []) (sym (ap (has_key key) fewer) ∙ h))) ∙ can.1))
