-- What the loop asks of the hall, and what it is answered.
use Rattle.std.specs.Prelude.{Bool, true, false, ℕ, List}
use Rattle.host_model.specs.declared.key.Key.{Key}
use Rattle.machine_model.specs.HallRule.{submit, collect, done, empty, is_closed, outcome}
use Rattle.hall_core.specs.declared.operation.HallReply.{HallReply}
use Rattle.hall_core.specs.declared.operation.HallReply.TheVariants as reply
use Rattle.hall_pool.specs.Jobs.{HallSeat, AddsAsk}
use Rattle.host_loop.specs.declared.asking.Collected.{Collected}
use Rattle.host_loop.specs.declared.asking.Collected.TheVariants.{Outcome, Empty, Closed}

-- what a reply to Submit means: whether the hall took the job
abbrev pub took_so : HallReply → Bool
took_so reply.Done = true
took_so _ = false

-- a job was to be submitted, and the hall took it, or was closed
abbrev pub SubmitsJob : HallSeat → HallSeat → Key → List ℕ → Bool → Type 0
SubmitsJob old new key payload true = AddsAsk old new (submit key payload) done
SubmitsJob old new key payload false = AddsAsk old new (submit key payload) is_closed

-- what a reply to Collect means
abbrev pub collected_reply : HallReply → Collected
collected_reply (reply.Settled key settled) = Outcome key settled
collected_reply reply.Closed = Closed
collected_reply _ = Empty

-- an outcome was to be collected, and this has come of it
abbrev pub CollectsOutcome : HallSeat → HallSeat → Collected → Type 0
CollectsOutcome old new (Outcome key settled) = AddsAsk old new collect (outcome key settled)
CollectsOutcome old new Empty = AddsAsk old new collect empty
CollectsOutcome old new Closed = AddsAsk old new collect is_closed
