-- A crew: the seats that its workers take, and what these are when they come back.
use Rattle.std.specs.Prelude.{◌≡◌, ℕ, List, [], map, length, All}
use Rattle.call_rules.specs.Desks.{DeskMeaning, desk_rules}
use Rattle.machine_model.specs.Merge.{OfTurns}
use Rattle.seat_booth.specs.Seats.{BoothView, IsSeatOf, newcomer}
use Rattle.hall_core.specs.Meant.{ServedHall}
use Rattle.hall_pool.specs.Turns.{asks_made}
use Rattle.hall_pool.specs.Jobs.{HallSeat, IsOpenedFor}

-- a seat that a worker may take: the booth was opened for this desk, and the seat is one of it and has made no call
pub record MayServe (desk : DeskMeaning) (booth : BoothView ServedHall) (seat : HallSeat) : Type 0 where
  pub opened : IsOpenedFor desk booth
  pub place : IsSeatOf booth seat
  pub unused : seat.mine ≡ []

-- a seat of this booth whose calls are those of a worker's turns
pub record HasServed (desk : DeskMeaning) (booth : BoothView ServedHall) (seat : HallSeat) : Type 0 where
  pub place : IsSeatOf booth seat
  pub turns : OfTurns (desk_rules desk) (asks_made seat.mine)

-- such a seat, which was this one
pub record HasServedAs (desk : DeskMeaning) (booth : BoothView ServedHall) (old new : HallSeat) : Type 0 where
  pub served : HasServed desk booth new
  pub number : new.number ≡ old.number

-- the numbers of seats, in order
abbrev pub numbers_of : List HallSeat → List ℕ
numbers_of seats = map (λ (seat : HallSeat). seat.number) seats

-- The seats of a new booth: the loop's is seat 0, its own worker's seat 1, and so many may be taken by a crew, if the booth was opened for its desk.
pub record IsNewSeating (booth : BoothView ServedHall) (workers : ℕ) (first own : HallSeat) (crew : List HallSeat) : Type 0 where
  pub zeroth : first ≡ newcomer booth 0
  pub oneth : own ≡ newcomer booth 1
  pub many : length crew ≡ workers
  pub may_serve : (desk : DeskMeaning) → IsOpenedFor desk booth → All (MayServe desk booth) crew
