-- From the turn to the call: what the seat may do with the object in hand, and what its call has made.
use Rattle.std.proofs.Common.{◌≡◌, ℕ, ◌^◌, ◌<◌, Option, Some, MatchOption, List, [], ◌∷◌, ◌++◌, length, get_or, sym, refl, ap, ◌∙◌, subst, arith, length-append}
use Rattle.atomic_table.specs.Table.{Me}
use Rattle.atomic_table.specs.Seated.{TableId}
use Rattle.call_history.specs.declared.seat_call.SeatCall.{SeatCall}
use Rattle.seat_booth.specs.declared.view.Past.{Past}
use Rattle.seat_booth.specs.declared.view.CallStage.TheVariants.{Idle, Turn}
use Rattle.seat_booth.specs.declared.view.TokenView.{TokenView}
use Rattle.call_history.specs.History.{seat_call, meaning_after, IsHistory}
use Rattle.call_history.specs.Calls.{AllAllowed}
use Rattle.seat_booth.specs.Seats.{MakesCall}
use Rattle.seat_booth.specs.Past.{past_of, seat_view, seated}
use Rattle.seat_booth.specs.Steps.{caught_up, with_call, HasTurn, CallIsReady, call_in_reach}
use Rattle.call_history.specs.Laws.{calls_by-own, IsHistory-push, AllAllowed-push}

module _ {O Q A M : Type 0} (meaning : O → M) (gives : M → Q → A → M → Type 0) (may : M → ℕ → List (SeatCall Q A M) → Q → Type 0) where
  abbrev pub V : Type 0
  V = TokenView Q A M

  -- the object in hand went from one value to another by this step
  abbrev pub Stepped : Me O V → Me O V → Q → A → O → O → Type 0
  Stepped n n' op reply object object' = (n.1 ≡ (0, object) ∷ []) × (n'.1 ≡ (0, object') ∷ []) × gives (meaning object) op reply (meaning object')

  -- the call was made, by a token that went from one state to the other
  abbrev pub Finished : Q → A → Me O V → Me O V → Type 0
  Finished op reply m n = MatchOption (call_in_reach meaning m op reply) (Unit {0}) (λ e. n ≡ (seated m.0.opening Idle (with_call e (past_of m.0)), []))

  module _ (first : M) (opened : Option M) (is : opened ≡ Some first) (ticket : ℕ) (p : Past Q A M) (n : Me O V) (h : HasTurn meaning gives may ticket opened p n) where
    same_first : h.first ≡ first
    same_first = let at : opened ≡ Some h.first = h.opened in cc

    history_now : IsHistory gives first h.log
    history_now = subst (λ (m : M). IsHistory gives m h.log) same_first h.history

    allowed_now : AllAllowed may first h.log
    allowed_now = subst (λ (m : M). AllAllowed may m h.log) same_first h.allowed

    held_now : (object : O) → n.1 ≡ (0, object) ∷ [] → meaning object ≡ meaning_after first h.log
    held_now object at = ap (λ (l : List (ℕ × O)). meaning ((get_or l 0 (0, object)).1)) (sym at ∙ ap (λ (m : Me O V). m.1) h.now) ∙ (h.stands ∙ ap (λ (m : M). meaning_after m h.log) same_first)

    module _ (n' : Me O V) (op : Q) (reply : A) (object object' : O) (view_same : n'.0 ≡ n.0) (stepped : Stepped n n' op reply object object') (allowed : may first p.number p.mine op) where
      given_now : gives (meaning_after first h.log) op reply (meaning object')
      given_now = subst (λ (m : M). gives m op reply (meaning object')) (held_now object stepped.0) stepped.2

      abbrev hand : Me O V
      hand = (seated opened (Turn ticket) (caught_up h.log p), (0, object') ∷ [])

      in_hand : n' ≡ hand
      in_hand = let same = view_same ∙ ap (λ (m : Me O V). m.0) h.now in let held = stepped.1 in λ i. (same i, held i)

      pub ready : CallIsReady meaning gives may first (call_in_reach meaning n' op reply) n'
      ready = subst (λ (m : Me O V). CallIsReady meaning gives may first (call_in_reach meaning m op reply) m) (sym in_hand) record {
        call = seat_call p.number op reply (meaning object');
        ticket = ticket;
        object = object';
        named = refl;
        now = refl;
        bounded = h.bounded;
        given = given_now;
        stands = refl;
        seat = refl;
        allowed = allowed;
      }

      abbrev call : SeatCall Q A M
      call = seat_call p.number op reply (meaning object')

      after_call : (n'' : Me O V) → Finished op reply n' n'' → n'' ≡ (seated opened Idle (with_call call (caught_up h.log p)), [])
      after_call n'' done = subst (λ (m : Me O V). Finished op reply m n'') in_hand done

      pub makes : (booth id id' : TableId) (seats : ℕ) (n'' : Me O V) → Finished op reply n' n''
          → MakesCall gives may (record { booth = booth; opening = first; seats = seats }) (record { booth = id; opening = opened; number = p.number; seen = p.seen; mine = p.mine }) op reply (seat_view id' n''.0)
      makes booth id id' seats n'' done =
          subst (λ (m : Me O V). MakesCall gives may (record { booth = booth; opening = first; seats = seats }) (record { booth = id; opening = opened; number = p.number; seen = p.seen; mine = p.mine }) op reply (seat_view id' m.0)) (sym (after_call n'' done)) (
          let at : length h.log ≡ ticket = h.passed in
          let below_most : ticket < 2 ^ 62 = h.bounded in
          record {
            between = h.begins.0;
            after = meaning object';
            seen = ap (λ l. l ++ call ∷ []) (sym h.begins.1);
            mine = refl;
            own = calls_by-own p.number h.log call refl ∙ ap (λ l. l ++ call ∷ []) h.own;
            history = IsHistory-push gives first h.log call history_now given_now;
            allowed = AllAllowed-push may first h.log call allowed_now (subst (λ (l : List (SeatCall Q A M)). may first p.number l op) (sym h.own) allowed);
            few = omega (arith, length-append h.log (call ∷ []));
          })
