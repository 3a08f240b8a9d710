-- A turn of the loop's own worker.
use Rattle.std.proofs.Common.{◌≡◌, subst, inr}
use Rattle.outside.specs.LinksState.{LinksState}
use Rattle.conn_table.specs.declared.run_limits.Limits.{Limits}
use Rattle.conn_table.specs.declared.run_limits.Outcome.TheVariants.{JournalFault}
use Rattle.call_rules.specs.Desks.{DeskMeaning}
use Rattle.seat_booth.specs.Seats.{BoothView, IsSeatOf}
use Rattle.hall_core.specs.Meant.{ServedHall}
use Rattle.hall_pool.specs.declared.turn.Turn.{Turn}
use Rattle.hall_pool.specs.declared.turn.Turn.TheVariants.{Journal}
use Rattle.hall_pool.specs.Turns.{AddsTurn}
use Rattle.hall_pool.specs.Jobs.{HallSeat}
use Rattle.hall_pool.proofs.Adding.{of_turns, at_work_behind}
use Rattle.loop_conns.specs.declared.connections.LoopConnections.{LoopConnections}
use Rattle.host_loop.specs.Going.{IsServing, IsHalted}
use Rattle.host_loop.proofs.Hearing.{journal_told}

-- a turn that says of no failed journal
abbrev pub IsOther : Turn → Type 0
IsOther Journal = ⊥
IsOther _ = Unit {0}

module _ (desk : DeskMeaning) where
  module _ (limits : Limits) (booth : BoothView ServedHall) (first links : LinksState) (kept : LoopConnections) (seat own new : HallSeat) (turn : Turn)
      (s : IsServing desk limits booth first links kept seat own) (place : IsSeatOf booth new) (a : AddsTurn desk own.mine new.mine turn) where
    pub serves_turned : IsOther turn → IsServing desk limits booth first links kept seat new
    serves_turned other =
        record {
          small = s.small;
          opened = s.opened;
          going = s.going;
          collects = s.collects;
          not_closed = s.not_closed;
          budget = s.budget;
          place = s.place;
          zeroth = s.zeroth;
          own_place = place;
          own_turns = at_work_behind desk own.mine new.mine turn s.own_turns a (λ is. subst IsOther is other);
        }

    pub halts_turned : turn ≡ Journal → IsHalted desk limits booth first links kept seat new JournalFault
    halts_turned is =
        record {
          small = s.small;
          opened = s.opened;
          woven = (s.going.loop, s.going.so_far);
          budget = s.budget;
          place = s.place;
          zeroth = s.zeroth;
          own_place = place;
          own_served = of_turns desk own.mine new.mine turn s.own_turns a;
          why = inr (journal_told desk own.mine new.mine (subst (AddsTurn desk own.mine new.mine) is a));
        }
