-- What goes back for a call and its answer (Thrift RPC specification, 'Response').
use Rattle.std.specs.Prelude.{ℕ, ℤ, pos, ◌&&◌, nat_le, Bool, if◌then◌else◌, List, [], ◌++◌, length, Option, Some, None, Result, Ok, Err}
use Rattle.streams.specs.declared.outcomes.EnvelopeFault.{EnvelopeFault}
use Rattle.host_model.specs.Frames.{frame}
use Rattle.binary_codec.specs.Written.{binary_encoder}
use Rattle.compact_codec.specs.Written.{compact_encoder}
use Rattle.envelope.specs.declared.head.Head.{Head}
use Rattle.envelope.specs.declared.head.Protocol.{Protocol}
use Rattle.envelope.specs.declared.head.Protocol.TheVariants.{Binary, Compact}
use Rattle.envelope.specs.Spelling.{head_text}
use Rattle.envelope.specs.Readout.{head_at}
use Rattle.call_rules.specs.PlainCalls.{PlainAnswer, success, empty, throws, broken}
use Rattle.schema.specs.PlainKind.{PlainKind}
use Rattle.schema.specs.PlainSchema.{PlainField, PlainStruct, PlainFunction}
use Rattle.schema.specs.WrittenAs.{field_with_id}
use Rattle.struct_skew.specs.TidyTests.{is_tidy}
use Rattle.struct_skew.specs.WrittenTests.{may_be_written}
use Rattle.thrift_value.specs.Measures.{depth_of}
use Rattle.thrift_value.specs.Tree.{Tree, of_struct, FieldTrees, no_fields, field}
use Rattle.wire_model.specs.Encoder.{Encoder, text}
use Rattle.call_model.specs.Offices.{PlainOffice}
use Rattle.call_model.specs.Names.{Bound, method_part, service_asked, function_asked}
use Rattle.call_model.specs.Failures.{no_result, too_large}
use Rattle.call_model.specs.Decisions.{failure_frame}

-- the type of a reply
abbrev pub reply_type : ℕ
reply_type = 2

-- the id of the field that has the value of a result
abbrev pub success_id : ℤ
success_id = pos 0

-- what a protocol writes
abbrev pub encoder_of : Protocol → Encoder
encoder_of Binary = binary_encoder
encoder_of Compact = compact_encoder

-- the most levels that a value which goes back may have, so that the struct around it has one more
abbrev pub deepest_result : ℕ
deepest_result = 63

-- a value may go back under a type: it is tidy, not too deep, and of the type
unfoldable pub may_go_back : List PlainStruct → PlainKind → Tree → Bool
may_go_back structs kind value = is_tidy value && (nat_le (depth_of value) deepest_result && may_be_written structs kind value)

-- a value alone in its struct, where it may go back
abbrev pub alone_under : List PlainStruct → ℤ → PlainKind → Tree → Option FieldTrees
alone_under structs id kind value = if may_go_back structs kind value then Some (field id value no_fields) else None

-- the fields of the struct that a value makes; a function without a result has no place for one
abbrev pub success_fields : List PlainStruct → Option PlainKind → Tree → Option FieldTrees
success_fields structs (Some kind) value = alone_under structs success_id kind value
success_fields structs None value = None

-- the fields of the struct that an exception makes, under the id of a declared one
abbrev pub throws_fields : List PlainStruct → Option PlainField → Tree → Option FieldTrees
throws_fields structs (Some f) exception = alone_under structs f.id f.kind exception
throws_fields structs None exception = None

-- the fields of the struct that an answer makes; none where the function has no such answer
abbrev pub result_fields : List PlainStruct → PlainFunction → PlainAnswer → Option FieldTrees
result_fields structs f (success value) = success_fields structs f.result value
result_fields structs f empty = Some no_fields
result_fields structs f (throws id exception) = throws_fields structs (field_with_id id f.throws) exception
result_fields structs f broken = None

-- the head of a reply: the method's name without the service's, and the call's sequence id
unfoldable pub reply_head : Protocol → Head → List ℕ
reply_head protocol head = head_text protocol (record { name = method_part head.name; kind = reply_type; id = head.id })

-- a reply with its struct
abbrev pub reply_text : Protocol → Head → FieldTrees → List ℕ
reply_text protocol head fields = reply_head protocol head ++ text (encoder_of protocol) (of_struct fields)

-- the frame of a reply that is not too long; in place of a longer one its failure. Own choice: failures aren't measured
unfoldable pub within_frame : PlainOffice → Head → List ℕ → List ℕ
within_frame office head reply =
    if nat_le (length reply) office.max_frame then frame reply else failure_frame office.protocol head too_large

-- the frame of the struct of these fields; where there is none, that the call has no result
unfoldable pub result_frame : PlainOffice → Head → Option FieldTrees → List ℕ
result_frame office head (Some fields) = within_frame office head (reply_text office.protocol head fields)
result_frame office head None = failure_frame office.protocol head (no_result (method_part head.name))

-- the frame for an answer of this function. No payload that makes a call asks for none; there it would be empty
unfoldable pub reply_of_function : PlainOffice → Head → PlainAnswer → Option PlainFunction → List ℕ
reply_of_function office head answer (Some f) = result_frame office head (result_fields office.schema.structs f answer)
reply_of_function office head answer None = []

-- the frame for an answer of a function of this service
unfoldable pub reply_of_service : PlainOffice → Head → PlainAnswer → Option Bound → List ℕ
reply_of_service office head answer (Some bound) = reply_of_function office head answer (function_asked office bound head.name)
reply_of_service office head answer None = []

-- the frame for an answer to a payload with this head
unfoldable pub reply_to_head : PlainOffice → PlainAnswer → Result Head EnvelopeFault → List ℕ
reply_to_head office answer (Ok head) = reply_of_service office head answer (service_asked office.default_slot office.bindings head.name)
reply_to_head office answer (Err fault) = []

-- the frame that goes back for a payload whose call had this answer
abbrev pub reply_of : PlainOffice → List ℕ → PlainAnswer → List ℕ
reply_of office payload answer = reply_to_head office answer (head_at office.protocol payload)
