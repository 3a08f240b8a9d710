-- Steps of a call on the way to what it promises. No clause of `host` cites them.
use Rattle.std.specs.Prelude.{Result, Ok, Err}
use Rattle.port_calls.specs.declared.fault.CallFault.{CallFault}
use Rattle.port_calls.specs.declared.fault.CallFault.TheVariants as faults
use Rattle.port_calls.specs.Called.{CallChange, MeansCall}
use Rattle.port_calls.specs.Calls.{PlainPortCall}
use Rattle.thrift_host.specs.declared.status.Status.{Status}
use Rattle.thrift_host.specs.declared.status.Status.TheVariants as status
use Rattle.thrift_host.specs.Calls.{refused_call_text, refused_reply_text}
use Rattle.thrift_host.specs.Errors.{Errors}
use Rattle.thrift_host.specs.Steps.{EndsAs, EndsSaying}

-- how it ends after a call; where there is no memory for the line of a refusal, with want of it
abbrev pub EndsAfterCall : {A : Type 0} → Result A CallFault → Status → Errors → Type 0
EndsAfterCall (Ok _) ended e = EndsAs status.Done ended e
EndsAfterCall (Err (faults.Refused refusal)) ended e = EndsSaying status.CallRefused (refused_call_text refusal) ended e
EndsAfterCall (Err (faults.ReplyRefused refusal)) ended e = EndsSaying status.ReplyRefused (refused_reply_text refusal) ended e
EndsAfterCall (Err faults.NetFault) ended e = EndsAs status.NetFault ended e
EndsAfterCall (Err faults.WriteFault) ended e = EndsAs status.WriteFault ended e
EndsAfterCall (Err faults.NoMemory) ended e = EndsAs status.NoMemory ended e

-- a call came to something, and the command ended so
abbrev pub EndsCall : PlainPortCall → Status → CallChange → Errors → Type 0
EndsCall call ended c e = (came_to : Result (Unit {0}) CallFault) × MeansCall call c came_to × EndsAfterCall came_to ended e
