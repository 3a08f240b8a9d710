-- What is left where a booth round a hall has ended.
use Rattle.std.specs.Prelude.{◌≡◌, ℕ, Bool, Option, List, ◌∷◌}
use Rattle.call_rules.specs.Entries.{CallEntry}
use Rattle.call_rules.specs.Handling.{ServiceState}
use Rattle.seat_booth.specs.Seats.{BoothView, EndsBooth}
use Rattle.hall_core.specs.Asked.{StepGives, StepMay}
use Rattle.hall_core.specs.Meant.{ServedHall}
use Rattle.hall_pool.specs.Jobs.{HallSeat}

-- The booth has ended with these seats, and these are the services of its hall, and what its journal tells.
pub record IsLeftOf (booth : BoothView ServedHall) (loop_seat own_seat : HallSeat) (crew : List HallSeat) (services : List ServiceState) (told : Option (List CallEntry)) (torn : Bool)
    (faults : ℕ) : Type 0 where
  pub hall : ServedHall
  pub ends : EndsBooth StepGives StepMay booth (loop_seat ∷ own_seat ∷ crew) hall
  pub services_are : services ≡ hall.memories
  pub told_is : told ≡ hall.told
  pub torn_is : torn ≡ hall.broken
  pub faults_are : faults ≡ hall.faults
