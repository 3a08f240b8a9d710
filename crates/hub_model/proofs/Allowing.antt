-- What each seat was allowed to ask of a hub is allowed in what one loop sees of it.
use Rattle.std.proofs.Common.{◌≡◌, ℕ, ◌/◌, ◌+◌, ◌≤◌, ◌<◌, Bool, false, ◌==◌, if◌then◌else◌, List, [], ◌∷◌, ◌++◌, refl, sym, ◌∙◌, subst, inl, inr, ◌⊎◌, arith, eq-eqb, ne_eqb, append_assoc, append-nil}
use Rattle.std.proofs.lemmas.Bool.{cases_eq}
use Rattle.std.proofs.Math.Nat.{div-le_self}
use Rattle.host_model.specs.declared.key.Key.{Key}
use Rattle.host_model.specs.Journal.{JournalEntry, ServiceRules}
use Rattle.host_model.proofs.Lists.{nil-cons}
use Rattle.call_history.specs.Calls.{seat_ask, calls_by, AllAllowed}
use Rattle.call_history.specs.Laws.{AllAllowed-push}
use Rattle.machine_model.specs.HallState.{HallState}
use Rattle.machine_model.specs.HallRule.{HallOperation, submit, take_job, apply, put, collect, HallAnswer, job}
use Rattle.machine_model.specs.OwnCalls.{HallAsk, most_connections, adds_key, frees_key, summed_calls, HallMay}
use Rattle.hub_model.specs.HubState.{HubState, loop_of_conn, own_key, IsOpenedHub}
use Rattle.hub_model.specs.HubRule.{HubOperation, submit_from, take_one, apply_one, put_one, collect_for, close_all, HubAsk}
use Rattle.hub_model.specs.HubMay.{adds_for, frees_for, SubmitsItsOwn, SubmitOwn, summed_asks, share, OwnAllows, HubMay}
use Rattle.hub_model.specs.Seen.{replays, seen_part, calm, own_answer, seen_ask, seen_seat, asks_with, seen_asks}
use Rattle.hub_model.proofs.Opening.{opens}
use Rattle.hub_model.proofs.AsksSeen.{zero_at, seen_append, by_seat, submits_by, holds_seen, applies_seen, submits_seen, adds_seen, frees_seen}

module _ {C A M : Type 0} (n l : ℕ) (final : List (JournalEntry C A)) (default : A) (r : ServiceRules C A M) (hub : HubState C A M) where
  abbrev part : HallState C A (List A)
  part = seen_part n l final hub

  abbrev rules : ServiceRules C A (List A)
  rules = replays default

  -- what is seen of an ask, if anything, may be asked
  abbrev MaySee : ℕ → List (HallAsk C A) → List (HallOperation C × HallAnswer A) → Type 0
  MaySee seat own [] = Unit {0}
  MaySee seat own (x ∷ s) = HallMay rules part seat own x.0

  shown : (seat : ℕ) (own : List (HallAsk C A)) (x y : ℕ) (a : HallOperation C × HallAnswer A) → (x ≡ y → HallMay rules part seat own a.0) → MaySee seat own (if x == y then a ∷ [] else [])
  shown seat own x y a f = go (cases_eq x y)
    where
      go : (x ≡ y) ⊎ (x ≡ y → ⊥) → MaySee seat own (if x == y then a ∷ [] else [])
      go (inl e) = subst (λ (b : Bool). MaySee seat own (if b then a ∷ [] else [])) (sym (eq-eqb x y e)) (f e)
      go (inr m) = subst (λ (b : Bool). MaySee seat own (if b then a ∷ [] else [])) (sym (ne_eqb x y m)) tt

  -- one of its own jobs may be submitted
  pub may_submit : (seat : ℕ) (own : List (HubAsk C A)) (key : Key) (payload : List ℕ) → SubmitOwn n own → IsOpenedHub hub → OwnAllows n r hub seat own (submit_from l key payload)
      → HallMay rules part (seen_seat l seat) (seen_asks n l own) (submit (own_key n key) payload)
  may_submit seat own key payload o h may =
      let a : summed_calls adds_key (seen_asks n l own) ≡ summed_asks (adds_for l) own = adds_seen n l own in
      let f : summed_calls frees_key (seen_asks n l own) ≡ summed_asks (frees_for l) own = frees_seen n l own in
      let q : most_connections / n ≤ most_connections = div-le_self most_connections n in
      let m : summed_asks (adds_for l) own < share n + summed_asks (frees_for l) own = may.3 in
      (opens n l final hub h, (zero_at l seat may.0, omega arith, submits_seen n l key may.2 own o ∙ may.4, may.5))

  may_see : (seat : ℕ) (own : List (HubAsk C A)) (op : HubOperation C) (answer : HallAnswer A) → SubmitOwn n own → HubMay n r hub seat own op
      → MaySee (seen_seat l seat) (seen_asks n l own) (seen_ask n l op answer)
  may_see seat own (submit_from m key payload) answer o may =
      shown (seen_seat l seat) (seen_asks n l own) m l (submit (own_key n key) payload, answer)
      (λ e. may_submit seat own key payload o may.0 (subst (λ (x : ℕ). OwnAllows n r hub seat own (submit_from x key payload)) e may.1))
  may_see seat own take_one (job key payload) o may = shown (seen_seat l seat) (seen_asks n l own) (loop_of_conn n key.c) l (take_job, job (own_key n key) payload) (λ e. (opens n l final hub may.0, tt))
  may_see seat own take_one _ o may = tt
  may_see seat own (apply_one key call) answer o may =
      shown (seen_seat l seat) (seen_asks n l own) (loop_of_conn n key.c) l (apply (own_key n key) call, calm answer)
      (λ e. (opens n l final hub may.0, (holds_seen n l key e false own ∙ may.1.0, applies_seen n l key e own ∙ may.1.1, omega arith)))
  may_see seat own (put_one key settled) answer o may =
      shown (seen_seat l seat) (seen_asks n l own) (loop_of_conn n key.c) l (put (own_key n key) settled, answer) (λ e. (opens n l final hub may.0, holds_seen n l key e false own ∙ may.1))
  may_see seat own (collect_for m) answer o may = shown (seen_seat l seat) (seen_asks n l own) m l (collect, own_answer n answer) (λ e. (opens n l final hub may.0, tt))
  may_see seat own close_all answer o may = (opens n l final hub may.0, tt)

  place_of : (seat : ℕ) (own : List (HubAsk C A)) (op : HubOperation C) → HubMay n r hub seat own op → SubmitsItsOwn n op
  place_of seat own (submit_from m key payload) may = may.1.2
  place_of seat own take_one may = tt
  place_of seat own (apply_one key call) may = tt
  place_of seat own (put_one key settled) may = tt
  place_of seat own (collect_for m) may = tt
  place_of seat own close_all may = tt

  places_of : (front back : List (HubAsk C A)) → AllAllowed (HubMay n r) hub (front ++ back) → SubmitOwn n back
  places_of front [] a = tt
  places_of front (e ∷ back) a = (
    place_of e.seat (calls_by e.seat front) e.op (a front back e refl),
    places_of (front ++ e ∷ []) back (subst (AllAllowed (HubMay n r) hub) (sym (append_assoc front (e ∷ []) back)) a),
  )

  pub all_places : (log : List (HubAsk C A)) → AllAllowed (HubMay n r) hub log → SubmitOwn n log
  all_places log a = places_of [] log a

  places_front : (front back : List (HubAsk C A)) → SubmitOwn n (front ++ back) → SubmitOwn n front
  places_front [] back o = tt
  places_front (e ∷ front) back o = (o.0, places_front front back o.1)

  abbrev Allowed : List (HallAsk C A) → Type 0
  Allowed log = AllAllowed (HallMay rules) part log

  pushed : (seen : List (HallAsk C A)) (seat : ℕ) (s : List (HallOperation C × HallAnswer A)) → MaySee seat (calls_by seat seen) s → Allowed seen → Allowed (seen ++ (asks_with seat s ++ []))
  pushed seen seat [] m p = subst Allowed (sym (append-nil seen)) p
  pushed seen seat (x ∷ s) m p = AllAllowed-push (HallMay rules) part seen (seat_ask seat x.0 x.1) p m

  one_more : (front : List (HubAsk C A)) (e : HubAsk C A) → SubmitOwn n front → HubMay n r hub e.seat (calls_by e.seat front) e.op → Allowed (seen_asks n l front) → Allowed (seen_asks n l (front ++ e ∷ []))
  one_more front e o may p =
      subst Allowed (sym (seen_append n l front (e ∷ [])))
      (pushed (seen_asks n l front) (seen_seat l e.seat) (seen_ask n l e.op e.reply)
      (subst (λ (own : List (HallAsk C A)). MaySee (seen_seat l e.seat) own (seen_ask n l e.op e.reply)) (sym (by_seat n l e.seat front))
      (may_see e.seat (calls_by e.seat front) e.op e.reply (submits_by n l e.seat front o) may)) p)

  longer : (front back : List (HubAsk C A)) → AllAllowed (HubMay n r) hub (front ++ back) → SubmitOwn n (front ++ back) → Allowed (seen_asks n l front) → Allowed (seen_asks n l (front ++ back))
  longer front [] a o p = subst (λ (log : List (HubAsk C A)). Allowed (seen_asks n l log)) (sym (append-nil front)) p
  longer front (e ∷ back) a o p =
      let same : (front ++ e ∷ []) ++ back ≡ front ++ e ∷ back = append_assoc front (e ∷ []) back in
      subst (λ (log : List (HubAsk C A)). Allowed (seen_asks n l log)) same
      (longer (front ++ e ∷ []) back (subst (AllAllowed (HubMay n r) hub) (sym same) a) (subst (SubmitOwn n) (sym same) o)
      (one_more front e (places_front front (e ∷ back) o) (a front back e refl) p))

  none : Allowed []
  none [] back e is = absurd (nil-cons e back is)
  none (x ∷ front) back e is = absurd (nil-cons x (front ++ e ∷ back) is)

  -- all that is seen was allowed
  pub all_allowed : (log : List (HubAsk C A)) → AllAllowed (HubMay n r) hub log → Allowed (seen_asks n l log)
  all_allowed log a = longer [] log a (all_places log a) none
