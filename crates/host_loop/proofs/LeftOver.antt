-- What is left where serving has ended is all that the law of its end asks for.
use Rattle.std.proofs.Common.{◌≡◌, ℕ, ◌≤◌, List, refl, sym, subst, All}
use Rattle.conn_table.specs.declared.run_limits.Limits.{Limits}
use Rattle.conn_table.specs.declared.run_limits.Outcome.{Outcome}
use Rattle.conn_table.specs.declared.run_limits.Outcome.TheVariants.{All as AllOver, NetFault, JournalFault, NoMemory}
use Rattle.call_rules.specs.Desks.{DeskMeaning, longest_payload}
use Rattle.seat_booth.specs.Seats.{BoothView}
use Rattle.hall_core.specs.Meant.{ServedHall}
use Rattle.hall_pool.specs.Turns.{asks_made}
use Rattle.hall_pool.specs.Jobs.{HallSeat}
use Rattle.hall_pool.specs.Crew.{HasServed}
use Rattle.loop_conns.specs.declared.connections.LoopConnections.{LoopConnections}
use Rattle.loop_conns.specs.Woven.{HasWoven, LoopIsRunning}
use Rattle.host_loop.specs.Served.{ServerSetting, ServedRun}
use Rattle.host_loop.specs.Ending.{EndTells, EndsServing}
use Rattle.host_loop.specs.Going.{HaltTells, IsAtEnd}
use Rattle.host_loop.specs.Left.{IsLeftOf}

-- what this desk serves with, at a booth that was opened so
abbrev pub setting_at : DeskMeaning → Limits → BoothView ServedHall → ServerSetting
setting_at desk limits booth = record { desk = desk; services = booth.opening.memories; budget = limits.read_budget }

module _ (desk : DeskMeaning) (limits : Limits) (booth : BoothView ServedHall) (run : ServedRun) (kept : LoopConnections) (seat own : HallSeat) (longest : desk.max_frame ≡ limits.max_frame) where
  ends_so : (outcome : Outcome) → HaltTells limits run.first run.links kept seat own outcome → EndTells (setting_at desk limits booth) run kept seat own outcome
  ends_so AllOver why = (why.0, subst (λ (n : ℕ). LoopIsRunning n run.first run.links kept (asks_made seat.mine)) (sym longest) why.2)
  ends_so NetFault why = why
  ends_so JournalFault why = why
  ends_so NoMemory why = why

  pub ends_serving : (crew : List HallSeat) → IsAtEnd desk limits booth run.first run.links kept seat own run.outcome → All (HasServed desk booth) crew
      → IsLeftOf booth seat own crew run.services run.told run.torn run.faults → run.causes ≡ kept.causes.items → booth.opening.faults ≡ run.faults_before
      → EndsServing (setting_at desk limits booth) run
  ends_serving crew h served left causes faults =
      let small : limits.max_frame ≤ longest_payload = h.halted.small in
      record {
        booth = booth;
        loop_seat = seat;
        own_seat = own;
        crew = crew;
        hall = left.hall;
        kept = kept;
        newly = h.halted.opened.newly;
        services_before = refl;
        faults_before = faults;
        ends = left.ends;
        zeroth = h.halted.zeroth;
        own_served = record { place = h.halted.own_place; turns = h.halted.own_served };
        crew_served = served;
        small = subst (λ (n : ℕ). n ≤ longest_payload) (sym longest) small;
        woven = subst (λ (n : ℕ). HasWoven n run.first run.links kept (asks_made seat.mine)) (sym longest) h.halted.woven;
        gone = h.gone;
        budget = h.halted.budget;
        causes = causes;
        services = left.services_are;
        told = left.told_is;
        torn = left.torn_is;
        faults = left.faults_are;
        so = ends_so run.outcome h.halted.why;
      }
