-- What is decided on a payload, in the order of its content: head, service, method, arguments (Thrift: a processor).
use Rattle.std.specs.Prelude.{ℕ, ◌==◌, ◌||◌, Bool, if◌then◌else◌, List, Option, Some, None, Result, Ok, Err}
use Rattle.streams.specs.declared.outcomes.EnvelopeFault.{EnvelopeFault}
use Rattle.host_model.specs.DeskRules.{DeskDecision, Close, Silent, Reply, Invoke}
use Rattle.host_model.specs.Frames.{frame}
use Rattle.envelope.specs.declared.head.Head.{Head}
use Rattle.envelope.specs.declared.head.Protocol.{Protocol}
use Rattle.envelope.specs.Said.{call_without_reply}
use Rattle.envelope.specs.Readout.{head_at}
use Rattle.envelope.specs.Exception.{Failure, exception_text}
use Rattle.call_rules.specs.PlainCalls.{PlainCall}
use Rattle.schema.specs.PlainSchema.{PlainFunction}
use Rattle.thrift_value.specs.Tree.{Tree}
use Rattle.call_model.specs.Offices.{PlainOffice}
use Rattle.call_model.specs.Names.{Bound, method_part, service_asked, function_asked}
use Rattle.call_model.specs.Failures.{no_service, no_method}
use Rattle.call_model.specs.Arguments.{arguments_at}

-- a message whose sender waits for no reply
abbrev pub is_sent_oneway : Head → Bool
is_sent_oneway head = head.kind == call_without_reply

-- a call that gets no reply: it was sent so, or its function is declared so
abbrev pub is_silent : Head → PlainFunction → Bool
is_silent head f = is_sent_oneway head || f.oneway

-- the frame that tells a caller of a failure; its name is the method's, without the service's
unfoldable pub failure_frame : Protocol → Head → Failure → List ℕ
failure_frame protocol head failure = frame (exception_text protocol (method_part head.name) head.id failure)

-- a message that makes no call: its sender is told why, unless it is silent
unfoldable pub refused : Protocol → Head → Bool → Failure → DeskDecision PlainCall
refused protocol head silent failure = if silent then Silent else Reply (failure_frame protocol head failure)

-- the call of a function that is bound at a slot, by its arguments
abbrev pub call_made : PlainOffice → Head → Bound → PlainFunction → Result Tree Failure → DeskDecision PlainCall
call_made office head bound f (Ok args) =
    Invoke (record { slot = bound.slot; method = method_part head.name; args = args; silent = is_silent head f })
call_made office head bound f (Err failure) = refused office.protocol head (is_silent head f) failure

-- the decision where this function is found
unfoldable pub decided_on_function : PlainOffice → List ℕ → Head → Bound → Option PlainFunction → DeskDecision PlainCall
decided_on_function office payload head bound (Some f) =
    call_made office head bound f (arguments_at office.schema office.protocol f.args payload head.behind)
decided_on_function office payload head bound None =
    refused office.protocol head (is_sent_oneway head) (no_method (method_part head.name))

-- the decision where this service is found
unfoldable pub decided_on_service : PlainOffice → List ℕ → Head → Option Bound → DeskDecision PlainCall
decided_on_service office payload head (Some bound) =
    decided_on_function office payload head bound (function_asked office bound head.name)
decided_on_service office payload head None = refused office.protocol head (is_sent_oneway head) (no_service head.name)

-- the decision where this is the head
unfoldable pub decided_on_head : PlainOffice → List ℕ → Result Head EnvelopeFault → DeskDecision PlainCall
decided_on_head office payload (Ok head) = decided_on_service office payload head (service_asked office.default_slot office.bindings head.name)
decided_on_head office payload (Err fault) = Close fault

-- the decision on a payload
abbrev pub decision : PlainOffice → List ℕ → DeskDecision PlainCall
decision office payload = decided_on_head office payload (head_at office.protocol payload)
