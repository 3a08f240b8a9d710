-- What a history of a hub tells of its journal's faults, and of who has closed it.
use Rattle.std.proofs.Common.{◌≡◌, ◌≢◌, ℕ, ◌≤◌, ◌<◌, Bool, true, false, if◌then◌else◌, cond, List, [], ◌∷◌, ◌++◌, map, refl, sym, ap, ◌∙◌, subst, inl, inr, ◌⊎◌, ⊎_elim, arith, eq-eqb, ne_eqb, lt-ltb, le-ltb, ◌==◌}
use Rattle.std.specs.List.{flat_map}
use Rattle.std.proofs.lemmas.Bool.{cases_eq, cases_lt, false≢true, or_right, or_left, or_cases}
use Rattle.streams.specs.Cause.{Rose}
use Rattle.host_model.specs.Journal.{ServiceRules}
use Rattle.host_model.specs.DeskRules.{DeskRules}
use Rattle.call_history.specs.History.{meaning_after, IsHistory}
use Rattle.call_history.specs.Calls.{calls_by, asks_of}
use Rattle.machine_model.specs.HallState.{JobOutcome, HallState}
use Rattle.machine_model.specs.HallRule.{HallOperation, take_job, apply, put, close, HallAnswer, done, job, empty, is_closed, outcome}
use Rattle.machine_model.specs.OwnCalls.{HallCall, HallAsk, any_of}
use Rattle.machine_model.specs.Trouble.{tells_of_fault, is_close, any_fault_told, ClosesWhereTold}
use Rattle.machine_model.specs.Merge.{WorkerTurn, worked, worked_by_call, found_none, stopped, asked, op_with_answer, OfTurns}
use Rattle.machine_model.proofs.Breaking.{told_rose, closed_rose}
use Rattle.machine_model.proofs.Telling.{turns_close}
use Rattle.hub_model.specs.HubState.{HubState, as_hall, IsOpenedHub}
use Rattle.hub_model.specs.HubRule.{HubOperation, submit_from, take_one, apply_one, put_one, collect_for, close_all, HubCall, HubAsk, HubGives}
use Rattle.hub_model.specs.HubMay.{any_ask}
use Rattle.hub_model.specs.Seen.{asks_with, calls_with}
use Rattle.hub_model.specs.OneHall.{put_after, hall_ask, hall_seat, hall_calls, all_put, closes_hub, any_told}
use Rattle.hub_model.specs.Talk.{hub_pair, hub_asked, OfHubTurns, IsHubHistory}
use Rattle.hub_model.proofs.AsksSeen.{both, front_own, front_other}
use Rattle.hub_model.proofs.AsOneHall.{is_one_hall, ends_as_one}
use Rattle.hub_model.proofs.Accounting.{newly}

module _ (n : ℕ) where
  -- a seat of a worker is its own, and that of a loop is seat 0
  of_loop : (seat : ℕ) → seat < n → hall_seat n seat ≡ 0
  of_loop seat below = ap (λ (b : Bool). if b then 0 else seat) (lt-ltb seat n below)

  of_worker : (seat : ℕ) → n ≤ seat → hall_seat n seat ≡ seat
  of_worker seat past = ap (λ (b : Bool). if b then 0 else seat) (le-ltb seat n past)

module _ {C A : Type 0} (n : ℕ) where
  -- asks of the hub as those of a hall
  abbrev hall_asks : List (HubAsk C A) → List (HallAsk C A)
  hall_asks [] = []
  hall_asks (e ∷ log) = asks_with (hall_seat n e.seat) (hall_ask e.op e.reply) ++ hall_asks log

  told_in : (seat : ℕ) (op : HubOperation C) (answer : HallAnswer A) (rest : List (HallAsk C A)) → (tells_of_fault answer ≡ true) ⊎ (any_fault_told rest ≡ true)
      → ((l : ℕ) → op ≡ collect_for l → tells_of_fault answer ≡ false) → any_fault_told (asks_with seat (hall_ask op answer) ++ rest) ≡ true
  told_in seat (submit_from l key payload) answer rest h not = ⊎_elim (or_left (tells_of_fault answer) (any_fault_told rest)) (or_right (tells_of_fault answer) (any_fault_told rest)) h
  told_in seat take_one answer rest h not = ⊎_elim (or_left (tells_of_fault answer) (any_fault_told rest)) (or_right (tells_of_fault answer) (any_fault_told rest)) h
  told_in seat (apply_one key call) answer rest h not = ⊎_elim (or_left (tells_of_fault answer) (any_fault_told rest)) (or_right (tells_of_fault answer) (any_fault_told rest)) h
  told_in seat (put_one key settled) answer rest h not = ⊎_elim (or_left (tells_of_fault answer) (any_fault_told rest)) (or_right (tells_of_fault answer) (any_fault_told rest)) h
  told_in seat (collect_for l) answer rest h not = ⊎_elim (λ f. absurd (false≢true (sym (not l refl) ∙ f))) (λ f. f) h
  told_in seat close_all answer rest h not = ⊎_elim (or_left (tells_of_fault answer) (any_fault_told rest)) (or_right (tells_of_fault answer) (any_fault_told rest)) h

  module _ {M : Type 0} where
    with_asks : (seat : ℕ) (asks : List (HallOperation C × HallAnswer A)) (hall : HallState C A M) (rest : List (HallCall C A M)) → asks_of (calls_with seat asks hall ++ rest) ≡ asks_with seat asks ++ asks_of rest
    with_asks seat [] hall rest = refl
    with_asks seat (x ∷ asks) hall rest = refl

    asks_are : (outcomes : List JobOutcome) (log : List (HubCall C A M)) → asks_of (hall_calls n outcomes log) ≡ hall_asks (asks_of log)
    asks_are outcomes [] = refl
    asks_are outcomes (e ∷ log) =
        with_asks (hall_seat n e.seat) (hall_ask e.op e.reply) (as_hall e.after (put_after outcomes e.op)) (hall_calls n (put_after outcomes e.op) log)
        ∙ ap (λ (asks : List (HallAsk C A)). asks_with (hall_seat n e.seat) (hall_ask e.op e.reply) ++ asks) (asks_are (put_after outcomes e.op) log)

    -- what is collected tells of no fault
    collects_calmly : (r : ServiceRules C A M) (old new : HubState C A M) (l : ℕ) (op : HubOperation C) (answer : HallAnswer A) → HubGives n r old op answer new → op ≡ collect_for l → tells_of_fault answer ≡ false
    collects_calmly r old new l op answer g is = go answer (subst (λ (x : HubOperation C). HubGives n r old x answer new) is g)
      where
        go : (answer : HallAnswer A) → HubGives n r old (collect_for l) answer new → tells_of_fault answer ≡ false
        go (outcome key settled) h = refl
        go empty h = refl
        go is_closed h = refl
        go _ h = absurd h

    all_told : (r : ServiceRules C A M) (hub : HubState C A M) (log : List (HubCall C A M)) → IsHistory (HubGives n r) hub log → any_told (asks_of log) ≡ true → any_fault_told (hall_asks (asks_of log)) ≡ true
    all_told r hub [] history h = h
    all_told r hub (e ∷ log) history h =
        told_in (hall_seat n e.seat) e.op e.reply (hall_asks (asks_of log))
        (⊎_elim (λ f. inl f) (λ f. inr (all_told r e.after log history.1 f)) (or_cases (tells_of_fault e.reply) (any_told (asks_of log)) h))
        (λ l. collects_calmly r hub e.after l e.op e.reply history.0)

  none_by : (v : ℕ) → v ≢ 0 → v < n → (log : List (HubAsk C A)) → calls_by v (hall_asks log) ≡ []
  none_by v some below [] = refl
  none_by v some below (e ∷ log) = front_other v (hall_seat n e.seat) (hall_ask e.op e.reply) (hall_asks log) (apart (cases_lt e.seat n)) ∙ none_by v some below log
    where
      apart : (e.seat < n) ⊎ (n ≤ e.seat) → hall_seat n e.seat ≡ v → ⊥
      apart (inl less) same = some (sym same ∙ of_loop n e.seat less)
      apart (inr past) same = let is : e.seat ≡ v = sym (of_worker n e.seat past) ∙ same in omega arith

  by_worker : (v : ℕ) → v ≢ 0 → n ≤ v → (log : List (HubAsk C A)) → calls_by v (hall_asks log) ≡ hall_asks (calls_by v log)
  by_worker v some past [] = refl
  by_worker v some past (e ∷ log) = go (cases_eq e.seat v) (by_worker v some past log)
    where
      asks : List (HallOperation C × HallAnswer A)
      asks = hall_ask e.op e.reply

      chosen : (b : Bool) → (e.seat == v) ≡ b → hall_asks (calls_by v (e ∷ log)) ≡ hall_asks (cond b (e ∷ calls_by v log) (calls_by v log))
      chosen b is = ap (λ (x : Bool). hall_asks (cond x (e ∷ calls_by v log) (calls_by v log))) is

      go : (e.seat ≡ v) ⊎ (e.seat ≡ v → ⊥) → calls_by v (hall_asks log) ≡ hall_asks (calls_by v log) → calls_by v (asks_with (hall_seat n e.seat) (hall_ask e.op e.reply) ++ hall_asks log) ≡ hall_asks (calls_by v (e ∷ log))
      go (inl is) rec =
          front_own v (hall_seat n e.seat) (hall_ask e.op e.reply) (hall_asks log) (ap (hall_seat n) is ∙ of_worker n v past)
          ∙ ap (λ (x : List (HallAsk C A)). asks_with (hall_seat n e.seat) (hall_ask e.op e.reply) ++ x) rec ∙ sym (chosen true (eq-eqb e.seat v is))
      go (inr other) rec =
          front_other v (hall_seat n e.seat) (hall_ask e.op e.reply) (hall_asks log) (apart (cases_lt e.seat n)) ∙ rec ∙ sym (chosen false (ne_eqb e.seat v other))
        where
          apart : (e.seat < n) ⊎ (n ≤ e.seat) → hall_seat n e.seat ≡ v → ⊥
          apart (inl less) same = some (sym same ∙ of_loop n e.seat less)
          apart (inr far) same = other (sym (of_worker n e.seat far) ∙ same)

  abbrev hall_pairs : List (HubOperation C × HallAnswer A) → List (HallOperation C × HallAnswer A)
  hall_pairs pairs = flat_map (λ (x : HubOperation C × HallAnswer A). hall_ask x.0 x.1) pairs

  with_pairs : (seat : ℕ) (op : HubOperation C) (answer : HallAnswer A) (rest : List (HallAsk C A)) → map op_with_answer (asks_with seat (hall_ask op answer) ++ rest) ≡ hall_ask op answer ++ map op_with_answer rest
  with_pairs seat (submit_from l key payload) answer rest = refl
  with_pairs seat take_one answer rest = refl
  with_pairs seat (apply_one key call) answer rest = refl
  with_pairs seat (put_one key settled) answer rest = refl
  with_pairs seat (collect_for l) answer rest = refl
  with_pairs seat close_all answer rest = refl

  pairs_are : (own : List (HubAsk C A)) → map op_with_answer (hall_asks own) ≡ hall_pairs (map hub_pair own)
  pairs_are [] = refl
  pairs_are (e ∷ own) = with_pairs (hall_seat n e.seat) e.op e.reply (hall_asks own) ∙ ap (λ (x : List (HallOperation C × HallAnswer A)). hall_ask e.op e.reply ++ x) (pairs_are own)

  turns_are : (turns : List (WorkerTurn C A)) → hall_pairs (flat_map hub_asked turns) ≡ flat_map asked turns
  turns_are [] = refl
  turns_are (worked key payload settled ∷ turns) = ap (λ (x : List (HallOperation C × HallAnswer A)). (take_job, job key payload) ∷ (put key settled, done) ∷ x) (turns_are turns)
  turns_are (worked_by_call key payload call answer settled ∷ turns) =
      ap (λ (x : List (HallOperation C × HallAnswer A)). (take_job, job key payload) ∷ (apply key call, answer) ∷ (put key settled, done) ∷ x) (turns_are turns)
  turns_are (found_none answer ∷ turns) = ap (λ (x : List (HallOperation C × HallAnswer A)). (take_job, answer) ∷ x) (turns_are turns)
  turns_are (stopped key payload call answer ∷ turns) =
      ap (λ (x : List (HallOperation C × HallAnswer A)). (take_job, job key payload) ∷ (apply key call, answer) ∷ (close, done) ∷ x) (turns_are turns)

  -- a loop has closed the hub
  abbrev pub ClosedByLoop : List (HubAsk C A) → Type 0
  ClosedByLoop log = (l : ℕ) × (l < n) × (any_ask closes_hub (calls_by l log) ≡ true)

  closed_here : (op : HubOperation C) (answer : HallAnswer A) (rest : List (HallAsk C A)) → any_of is_close (asks_with 0 (hall_ask op answer) ++ rest) ≡ true → (closes_hub op ≡ true) ⊎ (any_of is_close rest ≡ true)
  closed_here (submit_from l key payload) answer rest h = inr h
  closed_here take_one answer rest h = inr h
  closed_here (apply_one key call) answer rest h = inr h
  closed_here (put_one key settled) answer rest h = inr h
  closed_here (collect_for l) answer rest h = inr h
  closed_here close_all answer rest h = inl refl

  later_by : (l : ℕ) (e : HubAsk C A) (log : List (HubAsk C A)) → any_ask closes_hub (calls_by l log) ≡ true → any_ask closes_hub (calls_by l (e ∷ log)) ≡ true
  later_by l e log h =
      both (λ b. any_ask closes_hub (cond b (e ∷ calls_by l log) (calls_by l log)) ≡ true) (or_right (closes_hub e.op) (any_ask closes_hub (calls_by l log)) h) h (e.seat == l)

  closed_by : 0 < n → (log : List (HubAsk C A)) → any_of is_close (calls_by 0 (hall_asks log)) ≡ true → ClosedByLoop log
  closed_by some [] h = absurd (false≢true h)
  closed_by some (e ∷ log) h = go (cases_lt e.seat n) (closed_by some log)
    where
      later : ClosedByLoop log → ClosedByLoop (e ∷ log)
      later t = (t.0, t.1, later_by t.0 e log t.2)

      here : closes_hub e.op ≡ true → any_ask closes_hub (calls_by e.seat (e ∷ log)) ≡ true
      here f =
          ap (λ (b : Bool). any_ask closes_hub (cond b (e ∷ calls_by e.seat log) (calls_by e.seat log))) (eq-eqb e.seat e.seat refl) ∙ or_left (closes_hub e.op) (any_ask closes_hub (calls_by e.seat log)) f

      go : (e.seat < n) ⊎ (n ≤ e.seat) → (any_of is_close (calls_by 0 (hall_asks log)) ≡ true → ClosedByLoop log) → ClosedByLoop (e ∷ log)
      go (inl below) rec =
          let zeroth : hall_seat n e.seat ≡ 0 = of_loop n e.seat below in
          let front : any_of is_close (asks_with 0 (hall_ask e.op e.reply) ++ calls_by 0 (hall_asks log)) ≡ true =
          ap (λ (s : ℕ). any_of is_close (asks_with s (hall_ask e.op e.reply) ++ calls_by 0 (hall_asks log))) (sym zeroth)
          ∙ sym (ap (any_of is_close) (front_own 0 (hall_seat n e.seat) (hall_ask e.op e.reply) (hall_asks log) zeroth)) ∙ h in
          ⊎_elim (λ f. (e.seat, below, here f)) (λ f. later (rec f)) (closed_here e.op e.reply (calls_by 0 (hall_asks log)) front)
      go (inr past) rec =
          later (rec (sym (ap (any_of is_close) (front_other 0 (hall_seat n e.seat) (hall_ask e.op e.reply) (hall_asks log)
          (λ q. let is : e.seat ≡ 0 = sym (of_worker n e.seat past) ∙ q in omega arith))) ∙ h))

  turns_by : (d : DeskRules C A) (log : List (HubAsk C A)) → ((seat : ℕ) → n ≤ seat → OfHubTurns d (calls_by seat log)) → (v : ℕ) → v ≢ 0 → OfTurns d (calls_by v (hall_asks log))
  turns_by d log turns v some = go (cases_lt v n)
    where
      go : (v < n) ⊎ (n ≤ v) → OfTurns d (calls_by v (hall_asks log))
      go (inl below) = subst (OfTurns d) (sym (none_by v some below log)) ([], tt, refl)
      go (inr past) =
          let t : OfHubTurns d (calls_by v log) = turns v past in
          (t.0, t.1, ap (map op_with_answer) (by_worker v some past log) ∙ pairs_are (calls_by v log) ∙ ap hall_pairs t.2 ∙ turns_are t.0)

module _ {C A M : Type 0} (n : ℕ) (r : ServiceRules C A M) (hub : HubState C A M) (log : List (HubCall C A M)) (history : IsHistory (HubGives n r) hub log) where
  pub told_shows : IsOpenedHub hub → any_told (asks_of log) ≡ true → Rose hub.faults (meaning_after hub log).faults
  told_shows o told =
      subst (λ (h : HallState C A M). Rose hub.faults h.faults) (ends_as_one n r [] hub log history)
      (told_rose r (as_hall hub []) (hall_calls n [] log) (newly n r hub log history o) (is_one_hall n r [] hub log history)
      (ap any_fault_told (asks_are n [] log) ∙ all_told n r hub log history told))

pub closed_shows : {C A M : Type 0} (n : ℕ) (d : DeskRules C A) (r : ServiceRules C A M) (memories : List M) (hub : HubState C A M) (log : List (HubCall C A M)) → 0 < n
    → IsHubHistory n d r memories hub log → (meaning_after hub log).closed ≡ true → ClosedByLoop n (asks_of log) ⊎ Rose hub.faults (meaning_after hub log).faults
closed_shows {C} {A} {M} n d r memories hub log some o shut =
    ⊎_elim (λ f. inl (closed_by n some (asks_of log) (sym (ap (λ (asks : List (HallAsk C A)). any_of is_close (calls_by 0 asks)) (asks_are n [] log)) ∙ f)))
    (λ f. inr (subst (λ (h : HallState C A M). Rose hub.faults h.faults) one_end f)) found
  where
    one_end : meaning_after (as_hall hub []) (hall_calls n [] log) ≡ as_hall (meaning_after hub log) (all_put [] log)
    one_end = ends_as_one n r [] hub log o.history

    rule : ClosesWhereTold (asks_of (hall_calls n [] log))
    rule = subst ClosesWhereTold (sym (asks_are n [] log)) (turns_close d (hall_asks n (asks_of log)) (turns_by n d (asks_of log) o.turns))

    found : (any_of is_close (calls_by 0 (asks_of (hall_calls n [] log))) ≡ true) ⊎ Rose hub.faults (meaning_after (as_hall hub []) (hall_calls n [] log)).faults
    found =
        closed_rose r (as_hall hub []) (hall_calls n [] log) (newly n r hub log o.history o.opened.opened) (is_one_hall n r [] hub log o.history) rule
        (ap (λ (h : HallState C A M). h.closed) one_end ∙ shut)
