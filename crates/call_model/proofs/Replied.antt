-- Each reply to a call is a whole frame.
use Rattle.std.proofs.Common.{◌≡◌, ℕ, ◌≤◌, Bool, true, false, if◌then◌else◌, List, length, Option, Some, None, Result, Ok, Err, refl, arith}
use Rattle.std.specs.Prelude.{nat_le}
use Rattle.std.proofs.lemmas.Bool.{leb-true}
use Rattle.std.proofs.lemmas.List.{length-append}
use Rattle.streams.specs.declared.outcomes.EnvelopeFault.{EnvelopeFault}
use Rattle.host_model.specs.Frames.{frame}
use Rattle.call_rules.specs.PlainCalls.{PlainAnswer}
use Rattle.call_rules.specs.Desks.{IsWholeFrame, IsAnsweredCall, longest_payload}
use Rattle.envelope.specs.declared.head.Head.{Head}
use Rattle.envelope.specs.declared.head.Protocol.{Protocol}
use Rattle.envelope.specs.Exception.{Failure}
use Rattle.envelope.specs.Readout.{head_at}
use Rattle.schema.specs.PlainSchema.{PlainFunction}
use Rattle.thrift_value.specs.Tree.{of_struct, FieldTrees}
use Rattle.wire_model.specs.Encoder.{text}
use Rattle.call_model.specs.Offices.{PlainOffice, IsSoundOffice}
use Rattle.call_model.specs.Names.{Bound, method_part, service_asked, function_asked}
use Rattle.call_model.specs.Failures.{no_service, no_method, no_result, too_large}
use Rattle.call_model.specs.Decisions.{is_sent_oneway, failure_frame, refused, decided_on_function, decided_on_service, decided_on_head, decision}
use Rattle.call_model.specs.Replies.{encoder_of, reply_head, reply_text, within_frame, result_fields, result_frame, reply_of_function, reply_of_service, reply_to_head, reply_of}
use Rattle.call_model.proofs.Framed.{failure_framed, head_length}
use Rattle.call_model.proofs.Parts.{method_within}
use Rattle.call_model.proofs.Heads.{name_within}

-- a reply has a byte at least
reply_some : (p : Protocol) (head : Head) (fields : FieldTrees) → 1 ≤ length (reply_text p head fields)
unfolding reply_head
reply_some p head fields =
    let h = head_length p (record { name = method_part head.name; kind = 2; id = head.id }) in
    omega (arith, h.least, length-append (reply_head p head) (text (encoder_of p) (of_struct fields)))

within_framed : (office : PlainOffice) → office.max_frame ≤ longest_payload → (head : Head) → length head.name ≤ longest_payload → (reply : List ℕ) → 1 ≤ length reply
    → IsWholeFrame (within_frame office head reply)
unfolding within_frame
within_framed office most head named reply some = either (nat_le (length reply) office.max_frame) refl
  where
    either : (b : Bool) → nat_le (length reply) office.max_frame ≡ b
        → IsWholeFrame (if b then frame reply else failure_frame office.protocol head too_large)
    either true t =
        let l : length reply ≤ office.max_frame = leb-true (length reply) office.max_frame t in
        record { payload = reply; is = record { some = some; within = omega (arith, l, most) }; whole = refl }
    either false t = failure_framed office.protocol head too_large (omega (arith, named, method_within head.name)) (omega arith)

result_framed : (office : PlainOffice) → office.max_frame ≤ longest_payload → (head : Head) → length head.name ≤ longest_payload → (o : Option FieldTrees)
    → IsWholeFrame (result_frame office head o)
unfolding result_frame
result_framed office most head named (Some fields) = within_framed office most head named (reply_text office.protocol head fields) (reply_some office.protocol head fields)
result_framed office most head named None =
    let m = method_within head.name in
    failure_framed office.protocol head (no_result (method_part head.name)) (omega (arith, named, m)) (omega (arith, named, m))

refused_unanswered : (p : Protocol) (head : Head) (silent : Bool) (failure : Failure) → IsAnsweredCall (refused p head silent failure) → ⊥
unfolding refused
refused_unanswered p head true failure is = is
refused_unanswered p head false failure is = is

on_function : (office : PlainOffice) → office.max_frame ≤ longest_payload → (payload : List ℕ) (head : Head) → length head.name ≤ longest_payload → (bound : Bound) (answer : PlainAnswer)
    → (o : Option PlainFunction) → IsAnsweredCall (decided_on_function office payload head bound o) → IsWholeFrame (reply_of_function office head answer o)
unfolding decided_on_function reply_of_function
on_function office most payload head named bound answer (Some f) is = result_framed office most head named (result_fields office.schema.structs f answer)
on_function office most payload head named bound answer None is =
    absurd (refused_unanswered office.protocol head (is_sent_oneway head) (no_method (method_part head.name)) is)

on_service : (office : PlainOffice) → office.max_frame ≤ longest_payload → (payload : List ℕ) (head : Head) → length head.name ≤ longest_payload → (answer : PlainAnswer)
    → (o : Option Bound) → IsAnsweredCall (decided_on_service office payload head o) → IsWholeFrame (reply_of_service office head answer o)
unfolding decided_on_service reply_of_service
on_service office most payload head named answer (Some bound) is =
    on_function office most payload head named bound answer (function_asked office bound head.name) is
on_service office most payload head named answer None is =
    absurd (refused_unanswered office.protocol head (is_sent_oneway head) (no_service head.name) is)

on_head : (office : PlainOffice) → office.max_frame ≤ longest_payload → (payload : List ℕ) (answer : PlainAnswer) (r : Result Head EnvelopeFault)
    → ((head : Head) → r ≡ Ok head → length head.name ≤ longest_payload) → IsAnsweredCall (decided_on_head office payload r) → IsWholeFrame (reply_to_head office answer r)
unfolding decided_on_head reply_to_head
on_head office most payload answer (Ok head) named is = on_service office most payload head (named head refl) answer (service_asked office.default_slot office.bindings head.name) is
on_head office most payload answer (Err fault) named is = absurd is

-- a reply to a payload that isn't too long
pub replied_framed : (office : PlainOffice) → IsSoundOffice office → (payload : List ℕ) (answer : PlainAnswer) → length payload ≤ longest_payload
    → IsAnsweredCall (decision office payload) → IsWholeFrame (reply_of office payload answer)
replied_framed office sound payload answer short is =
    on_head office sound.most payload answer (head_at office.protocol payload) (λ head e. omega (arith, short, name_within office.protocol payload head e)) is
