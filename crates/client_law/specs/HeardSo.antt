-- How a client hears an answer.
use Rattle.std.specs.Prelude.{◌≡◌, ⊤, ◌≤◌, ℕ, ℤ, Bool, true, false, List, ◌++◌, length, Option, Some, None, Result, Ok, Err, FitsSigned}
use Rattle.std.specs.Int.{w16}
use Rattle.envelope.specs.declared.head.Protocol.{Protocol}
use Rattle.envelope.specs.Spelling.{head_text}
use Rattle.call_rules.specs.PlainCalls as answers
use Rattle.schema.specs.PlainKind.{PlainKind}
use Rattle.schema.specs.PlainSchema.{PlainField, PlainFunction, PlainSchema}
use Rattle.schema.specs.WrittenAs.{field_with_id}
use Rattle.struct_skew.specs.declared.fault.SkewFault.{SkewFault}
use Rattle.struct_skew.specs.declared.fault.SkewFault.TheVariants as skew
use Rattle.struct_skew.specs.Projection.{meaning_within_bounds}
use Rattle.thrift_value.specs.declared.wire_fault.WireFault.TheVariants as wire
use Rattle.thrift_value.specs.Measures.{count_of}
use Rattle.thrift_value.specs.Ranges.{IsInRange}
use Rattle.thrift_value.specs.Tree.{Tree, of_struct, FieldTrees}
use Rattle.wire_model.specs.Encoder.{text}
use Rattle.wire_model.specs.Place.{most_values}
use Rattle.call_model.specs.Failures.{internal_error, no_result}
use Rattle.call_model.specs.Replies.{encoder_of, may_go_back, reply_type, result_fields}
use Rattle.client_desk.specs.Clients.{PlainClient}
use Rattle.client_desk.specs.declared.heard_fault.HeardFault.{HeardFault}
use Rattle.client_desk.specs.declared.heard_fault.HeardFault.TheVariants.{Skew, Wire}
use Rattle.client_desk.specs.Hearing.{PlainHeard, success, throws, exception, heard_nothing}

-- the numbers and bytes of an answer are in range, and so is the id under which an exception is thrown
abbrev pub IsAnswerInRange : answers.PlainAnswer → Type 0
IsAnswerInRange (answers.success value) = IsInRange value
IsAnswerInRange (answers.throws id value) = FitsSigned w16 id × IsInRange value
IsAnswerInRange _ = ⊤

-- the payload of a reply with these fields
abbrev pub reply_payload : Protocol → List ℕ → ℤ → FieldTrees → List ℕ
reply_payload protocol method id fields = head_text protocol (record { name = method; kind = reply_type; id = id }) ++ text (encoder_of protocol) (of_struct fields)

-- a reply that has a result is no longer than a payload may be, so that nothing stands in its place
abbrev pub IsNotReplaced : PlainClient → PlainFunction → List ℕ → ℤ → answers.PlainAnswer → ℕ → Type 0
IsNotReplaced c f method id answer most =
    (fields : FieldTrees) → result_fields c.schema.structs f answer ≡ Some fields → length (reply_payload c.protocol method id fields) ≤ most

-- a fault of the bounds of a value
abbrev pub IsOfBounds : SkewFault → Type 0
IsOfBounds skew.TooDeep = ⊤
IsOfBounds skew.TooMany = ⊤
IsOfBounds _ = ⊥

-- a value is heard as it means under its type; or this has too many levels or values, or the reply has too many values
abbrev pub IsHeardAs : PlainSchema → (Tree → PlainHeard) → PlainKind → Tree → Result PlainHeard HeardFault → Type 0
IsHeardAs s made kind value (Ok heard) = (meant : Tree) × (meaning_within_bounds s kind value ≡ Ok meant) × (heard ≡ made meant)
IsHeardAs s made kind value (Err (Skew fault)) = (meaning_within_bounds s kind value ≡ Err fault) × IsOfBounds fault
IsHeardAs s made kind value (Err (Wire wire.TooMany)) = most_values ≤ count_of value
IsHeardAs s made kind value (Err _) = ⊥

-- the call failed: it has no result that may go back
abbrev pub failed : List ℕ → PlainHeard
failed method = exception internal_error (no_result method).text

-- a value that may go back is heard, and another is a failure
abbrev pub IsHeardIf : Bool → PlainSchema → List ℕ → (Tree → PlainHeard) → PlainKind → Tree → Result PlainHeard HeardFault → Type 0
IsHeardIf true s method made kind value heard = IsHeardAs s made kind value heard
IsHeardIf false s method made kind value heard = heard ≡ Ok (failed method)

-- a result under the declared type, and an exception under its declaration; where there is none, the call failed
abbrev pub IsResultHeard : PlainSchema → List ℕ → Option PlainKind → Tree → Result PlainHeard HeardFault → Type 0
IsResultHeard s method (Some kind) value heard = IsHeardIf (may_go_back s.structs kind value) s method success kind value heard
IsResultHeard s method None value heard = heard ≡ Ok (failed method)

abbrev pub IsThrownHeard : PlainSchema → List ℕ → Option PlainField → Tree → Result PlainHeard HeardFault → Type 0
IsThrownHeard s method (Some t) value heard = IsHeardIf (may_go_back s.structs t.kind value) s method (throws t.id) t.kind value heard
IsThrownHeard s method None value heard = heard ≡ Ok (failed method)

-- an answer is heard so
abbrev pub IsHeardSo : PlainSchema → List ℕ → PlainFunction → answers.PlainAnswer → Result PlainHeard HeardFault → Type 0
IsHeardSo s method f (answers.success value) heard = IsResultHeard s method f.result value heard
IsHeardSo s method f answers.empty heard = heard ≡ Ok (heard_nothing f.result)
IsHeardSo s method f (answers.throws id value) heard = IsThrownHeard s method (field_with_id id f.throws) value heard
IsHeardSo s method f answers.broken heard = heard ≡ Ok (failed method)
