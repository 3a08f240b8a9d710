-- What is known where serving ends: the loop's connections, the seats of its booth and the hall, each as it is left.
use Rattle.std.specs.Prelude.{◌≡◌, ◌≤◌, ◌⊎◌, true, false, List, [], ◌∷◌, ◌++◌, All}
use Rattle.streams.specs.Cause.{Rose}
use Rattle.outside.specs.Opening.{AreFreshLinks}
use Rattle.conn_table.specs.declared.run_limits.Outcome.{Outcome}
use Rattle.conn_table.specs.declared.run_limits.Outcome.TheVariants.{All as AllOver, NetFault, JournalFault, NoMemory}
use Rattle.call_rules.specs.Desks.{longest_payload}
use Rattle.machine_model.specs.HallRule.{is_closed}
use Rattle.machine_model.specs.OwnCalls.{any_of}
use Rattle.machine_model.specs.SeenHall.{MayHave}
use Rattle.machine_model.specs.Trouble.{is_close, any_fault_told}
use Rattle.seat_booth.specs.Seats.{BoothView, EndsBooth}
use Rattle.hall_core.specs.Asked.{StepGives, StepMay}
use Rattle.hall_core.specs.Meant.{ServedHall}
use Rattle.hall_pool.specs.Turns.{asks_made}
use Rattle.hall_pool.specs.Jobs.{HallSeat, IsOpenedNew}
use Rattle.hall_pool.specs.Crew.{HasServed}
use Rattle.loop_conns.specs.declared.connections.LoopConnections.{LoopConnections}
use Rattle.loop_conns.specs.Woven.{ServedAsk, HasWoven, LoopIsRunning}
use Rattle.loop_conns.specs.Going.{AreAllGone}
use Rattle.host_loop.specs.Served.{ServerSetting, ServedRun}

-- one of these asks was answered that the hall is closed, and none of those before it has closed it
pub record FindsItClosed (asks : List ServedAsk) : Type 0 where
  pub front : List ServedAsk
  pub ask : ServedAsk
  pub back : List ServedAsk
  pub split : asks ≡ front ++ ask ∷ back
  pub answer : ask.reply ≡ is_closed
  pub not_closed : any_of is_close front ≡ false

-- Serving ends so: the links said that all is over, and the loop goes on; the links failed; the loop found the hall closed, or one of its worker's turns was told that the
-- journal failed; or memory ran out.
abbrev pub EndTells : ServerSetting → ServedRun → LoopConnections → HallSeat → HallSeat → Outcome → Type 0
EndTells s run kept loop_seat own_seat AllOver = (run.links.over ≡ true) × LoopIsRunning s.desk.max_frame run.first run.links kept (asks_made loop_seat.mine)
EndTells s run kept loop_seat own_seat NetFault = Rose run.first.net_faults run.links.net_faults
EndTells s run kept loop_seat own_seat JournalFault = FindsItClosed (asks_made loop_seat.mine) ⊎ (any_fault_told (asks_made own_seat.mine) ≡ true)
EndTells s run kept loop_seat own_seat NoMemory = Unit {0}

-- Serving has ended. The loop's seat is number 0, and its calls are those of what it did on the links, where no connection is open any more; the other seats' calls are
-- those of workers' turns; the booth was opened for the services and the journal as they came in, and its hall is what is handed back.
pub record EndsServing (s : ServerSetting) (run : ServedRun) : Type 0 where
  pub booth : BoothView ServedHall
  pub loop_seat : HallSeat
  pub own_seat : HallSeat
  pub crew : List HallSeat
  pub hall : ServedHall
  pub kept : LoopConnections
  -- what holds of the booth
  pub newly : IsOpenedNew booth
  pub services_before : booth.opening.memories ≡ s.services
  pub faults_before : booth.opening.faults ≡ run.faults_before
  pub ends : EndsBooth StepGives StepMay booth (loop_seat ∷ own_seat ∷ crew) hall
  pub zeroth : loop_seat.number ≡ 0
  pub own_served : HasServed s.desk booth own_seat
  pub crew_served : All (HasServed s.desk booth) crew
  -- what holds of the connections
  pub small : s.desk.max_frame ≤ longest_payload
  pub woven : HasWoven s.desk.max_frame run.first run.links kept (asks_made loop_seat.mine)
  pub gone : AreAllGone kept
  pub budget : kept.table.budget ≡ s.budget
  pub causes : run.causes ≡ kept.causes.items
  -- what holds of the hall
  pub services : run.services ≡ hall.memories
  pub told : run.told ≡ hall.told
  pub torn : run.torn ≡ hall.broken
  pub faults : run.faults ≡ hall.faults
  -- what holds of the outcome
  pub so : EndTells s run kept loop_seat own_seat run.outcome

-- Nothing was served, since there was no memory to begin: all is as it came in, and nothing had happened on the links.
pub record ServesNothing (s : ServerSetting) (run : ServedRun) : Type 0 where
  pub fresh : AreFreshLinks run.first
  pub small : s.desk.max_frame ≤ longest_payload
  pub empty : MayHave run.told []
  pub links : run.links ≡ run.first
  pub causes : run.causes ≡ []
  pub services : run.services ≡ s.services
  pub whole : run.torn ≡ false
  pub faults : run.faults ≡ run.faults_before
  pub outcome : run.outcome ≡ NoMemory
