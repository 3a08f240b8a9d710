-- What the end of a booth tells where workers sat at it beside the loop.
use Rattle.std.specs.Prelude.{◌≡◌, List, []}
use Rattle.call_history.specs.Calls.{asks_of, AllAllowed}
use Rattle.call_history.specs.History.{meaning_after}
use Rattle.call_rules.specs.PlainCalls.{PlainCall, PlainAnswer}
use Rattle.call_rules.specs.Entries.{CallEntry}
use Rattle.call_rules.specs.Desks.{DeskMeaning, desk_rules}
use Rattle.call_rules.specs.Handling.{ServiceState, handler_rules}
use Rattle.machine_model.specs.Loop.{Loop}
use Rattle.machine_model.specs.OwnCalls.{HallCall, HallMay}
use Rattle.machine_model.specs.SeenHall.{MayHave, filled}
use Rattle.machine_model.specs.Merge.{LoopItem, IsOneHistory}
use Rattle.seat_booth.specs.Seats.{BoothView}
use Rattle.hall_core.specs.Meant.{ServedHall}

-- One history of a hall, whose calls of seat 0 are those of this weave of the loop, and all others those of workers' turns. Each was allowed, and the hall
-- at the end is the one after it, with these entries in its journal.
pub record TellsOneHistory (desk : DeskMeaning) (booth : BoothView ServedHall) (last : ServedHall) (weave : List (LoopItem PlainCall PlainAnswer)) (loop : Loop) : Type 0 where
  pub log : List (HallCall PlainCall PlainAnswer ServiceState)
  pub entries : List CallEntry
  pub one : IsOneHistory (desk_rules desk) handler_rules booth.opening.memories (filled booth.opening []) log weave loop
  pub allowed : AllAllowed (HallMay handler_rules) (filled booth.opening []) (asks_of log)
  pub told : MayHave last.told entries
  pub ends : meaning_after (filled booth.opening []) log ≡ filled last entries
