-- The loop ends: what is open is stopped, and the hall is closed.
use Rattle.std.proofs.Common.{◌≡◌, ◌≤◌, true, false, List, [], ◌∷◌, ◌++◌, refl, sym, ap, ◌∙◌, subst, inl, inr, append_assoc, arith}
use Rattle.std.proofs.lemmas.Bool.{true≢false}
use Rattle.streams.specs.Cause.{next_count}
use Rattle.outside.specs.LinksState.{LinksState}
use Rattle.conn_table.specs.declared.run_limits.Limits.{Limits}
use Rattle.conn_table.specs.declared.run_limits.Outcome.{Outcome}
use Rattle.conn_table.specs.declared.run_limits.Outcome.TheVariants.{All, NetFault, JournalFault, NoMemory}
use Rattle.call_history.specs.Calls.{seat_ask}
use Rattle.call_rules.specs.Desks.{DeskMeaning}
use Rattle.machine_model.specs.HallRule.{close, done}
use Rattle.seat_booth.specs.Seats.{BoothView, IsSeatOf}
use Rattle.hall_core.specs.Meant.{ServedHall}
use Rattle.hall_pool.specs.Turns.{asks_made}
use Rattle.hall_pool.specs.Jobs.{HallSeat, AddsAsk}
use Rattle.loop_conns.specs.declared.connections.LoopConnections.{LoopConnections}
use Rattle.loop_conns.specs.Woven.{ServedAsk, HasWoven, LoopIsRunning}
use Rattle.loop_conns.specs.Going.{SomeWoven, AllKeepWoven, AreAllGone}
use Rattle.host_loop.specs.Ending.{FindsItClosed}
use Rattle.host_loop.specs.Going.{is_all, HaltTells, IsHalted, IsAtEnd}
use Rattle.host_loop.proofs.AskedMore.{asks_woven, asks_goes}
use Rattle.host_loop.proofs.Rising.{net_goes_on}
use Rattle.host_loop.proofs.Keeping.{asks_more}

module _ (desk : DeskMeaning) (limits : Limits) (booth : BoothView ServedHall) (first : LinksState) (l0 : LinksState) (k0 : LoopConnections) (seat own : HallSeat) where
  -- where all is over, none is open
  pub ends_over : (outcome : Outcome) → is_all outcome ≡ true → IsHalted desk limits booth first l0 k0 seat own outcome → IsAtEnd desk limits booth first l0 k0 seat own outcome
  ends_over All is h = record { halted = h; gone = h.why.1 }
  ends_over NetFault is h = absurd (true≢false (sym is))
  ends_over JournalFault is h = absurd (true≢false (sym is))
  ends_over NoMemory is h = absurd (true≢false (sym is))

  pub so_far : (outcome : Outcome) → IsHalted desk limits booth first l0 k0 seat own outcome → SomeWoven l0 k0
  so_far outcome h = (limits.max_frame, h.small, first, asks_made seat.mine, h.woven)

  module _ (l1 : LinksState) (k1 : LoopConnections) (comes : AllKeepWoven l0 k0 l1 k1) (gone : AreAllGone k1) (budget : k1.table.budget ≡ k0.table.budget) where
    -- stopping leaves the reason, but where all is over
    still : (outcome : Outcome) → is_all outcome ≡ false → l0.net_faults ≤ l1.net_faults → HaltTells limits first l0 k0 seat own outcome → HaltTells limits first l1 k1 seat own outcome
    still All other later why = absurd (true≢false other)
    still NetFault other later why = let rose : next_count first.net_faults ≤ l0.net_faults = why in omega arith
    still JournalFault other later why = why
    still NoMemory other later why = why

    pub ends_stopped : (outcome : Outcome) → is_all outcome ≡ false → IsHalted desk limits booth first l0 k0 seat own outcome → IsAtEnd desk limits booth first l1 k1 seat own outcome
    ends_stopped outcome other h =
        record {
          halted =
              record {
                small = h.small;
                opened = h.opened;
                woven = comes limits.max_frame h.small first (asks_made seat.mine) h.woven;
                budget = budget ∙ h.budget;
                place = h.place;
                zeroth = h.zeroth;
                own_place = h.own_place;
                own_served = h.own_served;
                why = still outcome other (net_goes_on limits.max_frame h.small first l0 l1 k0 k1 (asks_made seat.mine) comes h.woven) h.why;
              };
          gone = gone;
        }

  -- a finding stays one, with more asks after it
  found_behind : (asks : List ServedAsk) (e : ServedAsk) → FindsItClosed asks → FindsItClosed (asks ++ e ∷ [])
  found_behind asks e f =
      record {
        front = f.front;
        ask = f.ask;
        back = f.back ++ e ∷ [];
        split = ap (λ (l : List ServedAsk). l ++ e ∷ []) f.split ∙ append_assoc f.front (f.ask ∷ f.back) (e ∷ []);
        answer = f.answer;
        not_closed = f.not_closed;
      }

  -- The hall is closed after the end.
  pub ends_closed : (outcome : Outcome) (new : HallSeat) → IsAtEnd desk limits booth first l0 k0 seat own outcome → AddsAsk seat new close done → IsSeatOf booth new → new.number ≡ 0
      → IsAtEnd desk limits booth first l0 k0 new own outcome
  ends_closed outcome new h more place zeroth =
      record {
        halted =
            record {
              small = h.halted.small;
              opened = h.halted.opened;
              woven =
                  subst (λ (l : List ServedAsk). HasWoven limits.max_frame first l0 k0 l) (sym asks)
                  (h.halted.woven.0, asks_woven limits.max_frame first l0 k0 (asks_made seat.mine) h.halted.woven.0 (seat_ask 0 close done) refl h.halted.woven.1);
              budget = h.halted.budget;
              place = place;
              zeroth = zeroth;
              own_place = h.halted.own_place;
              own_served = h.halted.own_served;
              why = why outcome h.halted.why;
            };
        gone = h.gone;
      }
    where
      asks : asks_made new.mine ≡ asks_made seat.mine ++ seat_ask 0 close done ∷ []
      asks = asks_more seat new close done h.halted.zeroth more

      why : (outcome : Outcome) → HaltTells limits first l0 k0 seat own outcome → HaltTells limits first l0 k0 new own outcome
      why All w = (
        w.0,
        w.1,
        subst (λ (l : List ServedAsk). LoopIsRunning limits.max_frame first l0 k0 l) (sym asks) (asks_goes limits.max_frame first l0 k0 (asks_made seat.mine) w.2 (seat_ask 0 close done) refl refl),
      )
      why NetFault w = w
      why JournalFault (inl f) = inl (subst FindsItClosed (sym asks) (found_behind (asks_made seat.mine) (seat_ask 0 close done) f))
      why JournalFault (inr t) = inr t
      why NoMemory w = w
