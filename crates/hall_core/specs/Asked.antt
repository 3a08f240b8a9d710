-- What a hall in memory is asked and replies, as the machine's rule has it; and what a booth round it goes by.
use Rattle.std.specs.Prelude.{ℕ, List, map}
use Rattle.call_rules.specs.PlainCalls.{PlainCall, PlainAnswer, IsPlainCall}
use Rattle.call_rules.specs.Answers.{plain_answer}
use Rattle.call_rules.specs.Handling.{handler_rules}
use Rattle.call_history.specs.declared.seat_call.SeatCall.{SeatCall}
use Rattle.call_history.specs.Calls.{seat_ask}
use Rattle.machine_model.specs.HallRule as rule
use Rattle.machine_model.specs.HallRule.{HallOperation, HallAnswer}
use Rattle.machine_model.specs.OwnCalls.{HallAsk}
use Rattle.machine_model.specs.SeenHall.{SeenGives, SeenCan, SeenMay}
use Rattle.hall_core.specs.declared.operation.HallOp.{HallOp}
use Rattle.hall_core.specs.declared.operation.HallOp.TheVariants.{Submit, Take, Apply, Put, Collect, Close}
use Rattle.hall_core.specs.declared.operation.HallReply.{HallReply}
use Rattle.hall_core.specs.declared.operation.HallReply.TheVariants.{Done, Job, Empty, Closed, Applied, NoMemory, JournalFault, Broken, Settled as Outcome}
use Rattle.hall_core.specs.Meant.{ServedHall}

-- what is asked
abbrev pub operation_of : HallOp → HallOperation PlainCall
operation_of (Submit key payload) = rule.submit key payload
operation_of Take = rule.take_job
operation_of (Apply key call) = rule.apply key call
operation_of (Put key settled) = rule.put key settled
operation_of Collect = rule.collect
operation_of Close = rule.close

-- what is replied
abbrev pub answer_of : HallReply → HallAnswer PlainAnswer
answer_of Done = rule.done
answer_of (Job key payload) = rule.job key payload
answer_of Empty = rule.empty
answer_of Closed = rule.is_closed
answer_of (Applied answer) = rule.applied (plain_answer answer)
answer_of NoMemory = rule.no_memory
answer_of JournalFault = rule.journal_fault
answer_of Broken = rule.is_broken
answer_of (Outcome key settled) = rule.outcome key settled

-- a call that is applied is plain
abbrev pub AsksPlainly : HallOp → Type 0
AsksPlainly (Apply key call) = IsPlainCall call
AsksPlainly _ = Unit {0}

-- a hall's step is one of the machine's hall
abbrev pub StepGives : ServedHall → HallOp → HallReply → ServedHall → Type 0
StepGives old op reply new = SeenGives handler_rules old (operation_of op) (answer_of reply) new

-- its condition: that of the machine's hall, and that the call is plain
abbrev pub StepCan : ServedHall → HallOp → Type 0
StepCan hall op = SeenCan handler_rules hall (operation_of op) × AsksPlainly op

-- a call of a booth round a hall
abbrev pub StepCall : Type 0
StepCall = SeatCall HallOp HallReply ServedHall

-- what was asked and answered there
abbrev pub ask_seen : StepCall → HallAsk PlainCall PlainAnswer
ask_seen e = seat_ask e.seat (operation_of e.op) (answer_of e.reply)

-- the condition of a seat's call: that of the machine's hall, of its own earlier asks, and that the call is plain
abbrev pub StepMay : ServedHall → ℕ → List StepCall → HallOp → Type 0
StepMay first seat own op = SeenMay handler_rules first seat (map ask_seen own) (operation_of op) × AsksPlainly op
