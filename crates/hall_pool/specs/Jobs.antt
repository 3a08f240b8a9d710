-- What a worker's seat knows of its job, and what its calls make of that.
use Rattle.std.specs.Prelude.{◌≡◌, ℕ, ◌<◌, ◌≤◌, ◌⊎◌, true, Option, None, Some, Result, Ok, Err, List, [], ◌∷◌, ◌++◌, length}
use Rattle.streams.specs.declared.outcomes.Settled.{Settled}
use Rattle.host_model.specs.declared.key.Key.{Key}
use Rattle.host_model.specs.DeskRules.{Invoke}
use Rattle.call_history.specs.Calls.{seat_ask}
use Rattle.call_rules.specs.Answers.{plain_answer}
use Rattle.call_rules.specs.PlainCalls.{PlainCall, PlainAnswer}
use Rattle.call_rules.specs.Desks.{DeskMeaning, desk_rules, longest_payload}
use Rattle.call_rules.specs.Handling.{handler_rules}
use Rattle.machine_model.specs.HallState.{Job, IsNewlyOpened}
use Rattle.machine_model.specs.HallRule.{HallOperation, apply, HallAnswer, applied, no_memory, job_of}
use Rattle.machine_model.specs.OwnCalls.{holds_key, OwnAsksAllow}
use Rattle.machine_model.specs.SeenHall.{MayHave, filled}
use Rattle.machine_model.specs.Worker.{holds, tried, SettlesAs}
use Rattle.machine_model.specs.Merge.{GoesOnAfter, StopsAfter}
use Rattle.seat_booth.specs.Seats.{BoothView, SeatView}
use Rattle.hall_core.specs.declared.operation.HallOp.{HallOp}
use Rattle.hall_core.specs.declared.operation.HallReply.{HallReply}
use Rattle.hall_core.specs.declared.operation.HallReply.TheVariants as reply
use Rattle.hall_core.specs.Meant.{ServedHall}
use Rattle.hall_pool.specs.declared.turn.Turn.{Turn}
use Rattle.hall_pool.specs.declared.turn.Turn.TheVariants.{Empty, Closed}
use Rattle.hall_pool.specs.declared.asking.Tried.{Tried}
use Rattle.hall_pool.specs.declared.asking.Tried.TheVariants.{Answered, Unanswered, Failed}
use Rattle.hall_pool.specs.Turns.{asks_made}

-- a seat at a booth round a hall
abbrev pub HallSeat : Type 0
HallSeat = SeatView HallOp HallReply ServedHall

-- the booth was opened over a newly opened hall, whose journal has no entries where it tells
pub record IsOpenedNew (booth : BoothView ServedHall) : Type 0 where
  pub opened : IsNewlyOpened (filled booth.opening [])
  pub empty : MayHave booth.opening.told []

-- and the hall has the desk's number of slots
pub record IsOpenedFor (desk : DeskMeaning) (booth : BoothView ServedHall) : Type 0 where
  pub newly : IsOpenedNew booth
  pub slots : length booth.opening.memories ≡ desk.slots

-- the seat has made one call more, with this answer
abbrev pub AddsAsk : HallSeat → HallSeat → HallOperation PlainCall → HallAnswer PlainAnswer → Type 0
AddsAsk old new op answer = asks_made new.mine ≡ asks_made old.mine ++ seat_ask old.number op answer ∷ []

-- A seat that has taken this job, and done nothing for it: the payload isn't too long, the key is held, and a call may be applied under it whose service
-- there is.
pub record HoldsJob (booth : BoothView ServedHall) (seat : HallSeat) (key : Key) (payload : List ℕ) : Type 0 where
  pub short : length payload ≤ longest_payload
  pub held : holds_key key (asks_made seat.mine) ≡ true
  pub may : (call : PlainCall) → call.slot < length booth.opening.memories
      → OwnAsksAllow handler_rules (filled booth.opening []) seat.number (asks_made seat.mine) (apply key call)

-- what a reply to Take means: a job, or the answer of a turn that has none
abbrev pub job_replied : HallReply → Result Job Turn
job_replied (reply.Job key payload) = Ok (job_of key payload)
job_replied reply.Closed = Err Closed
job_replied _ = Err Empty

-- what a reply to Apply means
abbrev pub tried_by : HallReply → Tried
tried_by (reply.Applied answer) = Answered answer
tried_by reply.NoMemory = Unanswered
tried_by _ = Failed

-- a call was applied under this key, and this has come of it
abbrev pub TriesCall : HallSeat → HallSeat → Key → PlainCall → Tried → Type 0
TriesCall old new key call (Answered answer) = AddsAsk old new (apply key call) (applied (plain_answer answer))
TriesCall old new key call Unanswered = AddsAsk old new (apply key call) no_memory
TriesCall old new key call Failed = (answer : HallAnswer PlainAnswer) × AddsAsk old new (apply key call) answer × StopsAfter answer

-- What a job comes to, with the seat's calls for that: by its decision, with no call; or by its call, which is applied once; or the journal has failed at
-- that call.
abbrev pub SettlesJob : DeskMeaning → HallSeat → HallSeat → Key → List ℕ → Option Settled → Type 0
SettlesJob desk old new key payload (Some settled) =
    ((new ≡ old) × SettlesAs (desk_rules desk) (holds key payload) key settled)
    ⊎ ((call : PlainCall) × (answer : HallAnswer PlainAnswer) × AddsAsk old new (apply key call) answer × (desk.decide payload ≡ Invoke call) × GoesOnAfter answer
    × SettlesAs (desk_rules desk) (tried key payload answer) key settled)
SettlesJob desk old new key payload None =
    (call : PlainCall) × (answer : HallAnswer PlainAnswer) × AddsAsk old new (apply key call) answer × (desk.decide payload ≡ Invoke call) × StopsAfter answer
