-- From the end of a booth, at which workers sat beside the loop, to one history of the hall.
use Rattle.std.proofs.Common.{◌≡◌, ◌≢◌, ℕ, zero, suc, ◌<◌, ◌⊎◌, inl, inr, ⊎_elim, List, [], ◌∷◌, map, length, slice_index_or, refl, sym, ap, ◌∙◌, subst, arith}
use Rattle.std.specs.List.{AllByRecursion, All, Any}
use Rattle.std.proofs.lemmas.List.Elements.{recursion_from_All}
use Rattle.std.proofs.lemmas.Bool.Decides.{eqb_tells}
use Rattle.call_history.specs.Calls.{calls_by, asks_of, AllAllowed}
use Rattle.call_history.specs.Laws.{calls_by-first-other}
use Rattle.call_rules.specs.PlainCalls.{PlainCall, PlainAnswer}
use Rattle.call_rules.specs.Desks.{DeskMeaning, desk_rules}
use Rattle.call_rules.specs.Handling.{handler_rules}
use Rattle.machine_model.specs.Loop.{Loop}
use Rattle.machine_model.specs.OwnCalls.{HallMay}
use Rattle.machine_model.specs.SeenHall.{MayHave, filled}
use Rattle.machine_model.specs.Merge.{LoopItem, calls_in, no_loop, Weaves, OfTurns}
use Rattle.machine_model.proofs.Filling.{IsFilled, fill, all_allowed}
use Rattle.seat_booth.specs.Seats.{BoothView, SeatAgrees, EndsBooth}
use Rattle.hall_core.specs.Asked.{StepCall, StepGives, StepMay}
use Rattle.hall_core.specs.Meant.{ServedHall}
use Rattle.hall_core.specs.Following.{call_seen, same_end, seen_history, same_asks, asks_by, seen_allowed}
use Rattle.hall_pool.specs.Turns.{asks_made}
use Rattle.hall_pool.specs.Jobs.{HallSeat, IsOpenedNew}
use Rattle.hall_pool.specs.Crew.{HasServed}
use Rattle.hall_pool.specs.Ends.{TellsOneHistory}

-- who made a call sat at the booth
callers : (n : ℕ) (seats : List HallSeat) (log : List StepCall) → AllByRecursion (λ (e : StepCall). Any (λ (p : HallSeat). p.number ≡ e.seat) seats) log
    → (calls_by n log ≡ []) ⊎ Any (λ (p : HallSeat). p.number ≡ n) seats
callers n seats [] h = inl refl
callers n seats (e ∷ log) h =
    ⊎_elim (λ hit. inr (subst (λ (m : ℕ). Any (λ (p : HallSeat). p.number ≡ m) seats) hit.1 h.0))
    (λ miss. ⊎_elim (λ none. inl (calls_by-first-other n e log miss.1 ∙ none)) (λ any. inr any) (callers n seats log h.1))
    (eqb_tells e.seat n)

module _ (desk : DeskMeaning) (booth : BoothView ServedHall) (first : HallSeat) (others : List HallSeat) (last : ServedHall)
    (ends : EndsBooth StepGives StepMay booth (first ∷ others) last) (zeroth : first.number ≡ 0) (served : All (HasServed desk booth) others) where
  -- each seat but the loop's has served
  served_at : (p : HallSeat) (k : ℕ) → k < length (first ∷ others) → slice_index_or (first ∷ others) k p ≡ p → p.number ≢ 0 → OfTurns (desk_rules desk) (asks_made p.mine)
  served_at p zero low is other = absurd (other (ap (λ (s : HallSeat). s.number) (sym is) ∙ zeroth))
  served_at p (suc k) low is other = (subst (HasServed desk booth) is (served k p (omega arith))).turns

  -- the calls of one number are those of a seat, where there are any
  at_seat : (n : ℕ) → Any (λ (p : HallSeat). p.number ≡ n) (first ∷ others) → n ≢ 0 → OfTurns (desk_rules desk) (asks_made (calls_by n ends.log))
  at_seat n (k, p, low, is, num) other =
      let agrees : SeatAgrees ends.log p = subst (SeatAgrees ends.log) is (ends.each k p low) in
      subst (λ (l : List StepCall). OfTurns (desk_rules desk) (asks_made l)) (sym agrees.own ∙ ap (λ (m : ℕ). calls_by m ends.log) num)
      (served_at p k low is (λ none. other (sym num ∙ none)))

  turns_of : (n : ℕ) → n ≢ 0 → OfTurns (desk_rules desk) (asks_made (calls_by n ends.log))
  turns_of n other =
      ⊎_elim (λ none. subst (λ (l : List StepCall). OfTurns (desk_rules desk) (asks_made l)) (sym none) ([], tt, refl)) (λ any. at_seat n any other)
      (callers n (first ∷ others) ends.log (recursion_from_All (λ (e : StepCall). Any (λ (p : HallSeat). p.number ≡ e.seat) (first ∷ others)) ends.log ends.only))

  -- the loop's calls are its seat's
  first_own : calls_by 0 ends.log ≡ first.mine
  first_own =
      let agrees : SeatAgrees ends.log first = ends.each 0 first (omega arith) in
      ap (λ (n : ℕ). calls_by n ends.log) (sym zeroth) ∙ agrees.own

  pub one_history : (weave : List (LoopItem PlainCall PlainAnswer)) (loop : Loop) → IsOpenedNew booth → asks_made first.mine ≡ calls_in weave → Weaves desk.max_frame no_loop weave loop
      → TellsOneHistory desk booth last weave loop
  one_history weave loop new same woven =
      let full : IsFilled handler_rules booth.opening [] (map call_seen ends.log) =
      fill handler_rules booth.opening [] (map call_seen ends.log) new.empty (seen_history booth.opening ends.log ends.history) in
      let asks : asks_of full.0 ≡ asks_made ends.log = full.3 ∙ same_asks ends.log in
      let by : (n : ℕ) → calls_by n (asks_of full.0) ≡ asks_made (calls_by n ends.log) = λ n. ap (calls_by n) asks ∙ asks_by n ends.log in
      record {
        log = full.0;
        entries = full.1;
        one = record {
          opened = record { opened = new.opened; memories = refl; journal = refl };
          history = full.2;
          same = by 0 ∙ (ap asks_made first_own ∙ same);
          woven = woven;
          turns = λ n other. subst (OfTurns (desk_rules desk)) (sym (by n)) (turns_of n other);
        };
        allowed = subst (AllAllowed (HallMay handler_rules) (filled booth.opening [])) (sym full.3)
            (all_allowed handler_rules booth.opening (asks_of (map call_seen ends.log)) (seen_allowed booth.opening ends.log ends.allowed));
        told = subst (λ (hall : ServedHall). MayHave hall.told full.1) (same_end booth.opening ends.log ∙ ends.last) full.4;
        ends = full.5 ∙ ap (λ (hall : ServedHall). filled hall full.1) (same_end booth.opening ends.log ∙ ends.last);
      }
