-- What a rehearsal is run with, and the machine that it moves.
use Rattle.std.specs.Prelude.{ℕ, List}
use Rattle.host_model.specs.DeskRules.{DeskRules}
use Rattle.call_rules.specs.PlainCalls.{PlainCall, PlainAnswer}
use Rattle.call_rules.specs.Desks.{DeskMeaning, desk_rules}
use Rattle.call_rules.specs.Handling.{ServiceState}
use Rattle.machine_model.specs.HallState.{HallState}
use Rattle.machine_model.specs.Worker.{WorkerState}
use Rattle.machine_model.specs.Machine.{Cell}
use Rattle.script_model.specs.Playing.{Play}

-- the desk, the services' memories at the opening, the read budget, and how many workers were asked for
pub record CellSetting : Type 0 where
  pub desk : DeskMeaning
  pub opening : List ServiceState
  pub budget : ℕ
  pub workers : ℕ

-- a machine that serves calls of services
abbrev pub ServedCell : Type 0
ServedCell = Cell PlainCall PlainAnswer ServiceState

-- the hall of one
abbrev pub HallInCell : Type 0
HallInCell = HallState PlainCall PlainAnswer ServiceState

-- a worker of one
abbrev pub PlainWorker : Type 0
PlainWorker = WorkerState PlainAnswer

-- a machine in rehearsal
abbrev pub ServedPlay : Type 0
ServedPlay = Play PlainCall PlainAnswer ServiceState

-- the rules of its desk
abbrev pub desk_of_setting : CellSetting → DeskRules PlainCall PlainAnswer
desk_of_setting s = desk_rules s.desk
