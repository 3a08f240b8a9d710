-- Each reply that is decided is a whole frame.
use Rattle.std.proofs.Common.{◌≡◌, ℕ, ◌≤◌, Bool, true, false, List, codes, length, Option, Some, None, Result, Ok, Err, refl, subst, arith}
use Rattle.std.proofs.lemmas.List.{length-append}
use Rattle.streams.specs.declared.outcomes.EnvelopeFault.{EnvelopeFault}
use Rattle.host_model.specs.DeskRules.{DeskDecision, Reply}
use Rattle.call_rules.specs.PlainCalls.{PlainCall}
use Rattle.call_rules.specs.Desks.{IsWholeFrame, longest_payload}
use Rattle.envelope.specs.declared.head.Head.{Head}
use Rattle.envelope.specs.declared.head.Protocol.{Protocol}
use Rattle.envelope.specs.Exception.{Failure}
use Rattle.envelope.specs.Readout.{head_at}
use Rattle.schema.specs.PlainSchema.{PlainFunction, PlainSchema}
use Rattle.schema.specs.Sound.{IsSound}
use Rattle.struct_skew.specs.declared.fault.SkewFault.{SkewFault}
use Rattle.struct_skew.specs.declared.fault.SkewFault.TheVariants as skew
use Rattle.struct_skew.specs.Projection.{projection}
use Rattle.thrift_value.specs.declared.wire_fault.WireFault.{WireFault}
use Rattle.thrift_value.specs.declared.wire_fault.WireFault.TheVariants as wire
use Rattle.thrift_value.specs.Tree.{Tree}
use Rattle.wire_model.specs.Place.{struct_at}
use Rattle.call_model.specs.Offices.{PlainOffice, IsSoundOffice}
use Rattle.call_model.specs.Names.{Bound, method_part, service_asked, function_asked}
use Rattle.call_model.specs.Failures.{no_service, no_method, bad_arguments, wire_fault_text, skew_fault_text}
use Rattle.call_model.specs.Arguments.{wire_of, projected_or_fault, read_as_arguments, arguments_at}
use Rattle.call_model.specs.Decisions.{is_sent_oneway, is_silent, failure_frame, refused, call_made, decided_on_function, decided_on_service, decided_on_head, decision}
use Rattle.call_model.proofs.Lengths.{decimal_length}
use Rattle.call_model.proofs.Heads.{name_within}
use Rattle.call_model.proofs.Framed.{failure_framed}
use Rattle.call_model.proofs.Parts.{method_within, service_within}
use Rattle.call_model.proofs.Found.{field_name_short, struct_name_short}

-- the most bytes that a failure's text has
abbrev longest_idl_text : ℕ
longest_idl_text = 268435556

abbrev Decided : Type 0
Decided = DeskDecision PlainCall

abbrev replied : List ℕ → Decided
replied frame = Reply frame

same_reply : (x y : List ℕ) → replied x ≡ replied y → x ≡ y
same_reply x y e = cc

abbrev failed : Failure → Result Tree Failure
failed failure = Err failure

same_failure : (x y : Failure) → failed x ≡ failed y → x ≡ y
same_failure x y e = cc

-- what is refused, unless it is silent
refused_framed : (p : Protocol) (head : Head) (silent : Bool) (failure : Failure) (reply : List ℕ) → length (method_part head.name) ≤ longest_payload
    → length failure.text ≤ longest_idl_text → refused p head silent failure ≡ replied reply → IsWholeFrame reply
unfolding refused
refused_framed p head true failure reply named told e = absurd cc
refused_framed p head false failure reply named told e =
    subst IsWholeFrame (same_reply (failure_frame p head failure) reply e) (failure_framed p head failure named told)

-- the texts of faults of arguments
pub wire_text_short : (fault : WireFault) → length (wire_fault_text fault) ≤ 100
wire_text_short wire.Short = omega arith
wire_text_short (wire.BadType code) = omega (arith, decimal_length code)
wire_text_short wire.BadSize = omega arith
wire_text_short wire.LongVarint = omega arith
wire_text_short wire.FieldRange = omega arith
wire_text_short wire.TooDeep = omega arith
wire_text_short wire.TooMany = omega arith
wire_text_short wire.NoMemory = omega arith

pub skew_text_short : (s : PlainSchema) → IsSound s → (fault : SkewFault) → length (skew_fault_text s fault) ≤ 4194404
skew_text_short s sound (skew.Missing which id) = omega (arith, field_name_short s sound which id)
skew_text_short s sound (skew.UnionFields which) = omega (arith, struct_name_short s sound which)
skew_text_short s sound skew.TooDeep = omega arith
skew_text_short s sound skew.TooMany = omega arith
skew_text_short s sound skew.NoMemory = omega arith

projected_text : (s : PlainSchema) → IsSound s → (r : Result Tree SkewFault) (failure : Failure) → projected_or_fault s r ≡ failed failure
    → length failure.text ≤ longest_idl_text
projected_text s sound (Ok args) failure e = absurd cc
projected_text s sound (Err fault) failure e =
    let same = same_failure (bad_arguments (skew_fault_text s fault)) failure e in
    subst (λ (f : Failure). length f.text ≤ longest_idl_text) same (omega (arith, skew_text_short s sound fault))

read_text : (s : PlainSchema) → IsSound s → (which : ℕ) (r : Result (Tree × ℕ) WireFault) (failure : Failure) → read_as_arguments s which r ≡ failed failure
    → length failure.text ≤ longest_idl_text
read_text s sound which (Ok found) failure e = projected_text s sound (projection s which found.0) failure e
read_text s sound which (Err fault) failure e =
    let same = same_failure (bad_arguments (wire_fault_text fault)) failure e in
    subst (λ (f : Failure). length f.text ≤ longest_idl_text) same (omega (arith, wire_text_short fault))

arguments_text : (s : PlainSchema) → IsSound s → (p : Protocol) (which : ℕ) (payload : List ℕ) (at : ℕ) (failure : Failure)
    → arguments_at s p which payload at ≡ failed failure → length failure.text ≤ longest_idl_text
unfolding arguments_at
arguments_text s sound p which payload at failure e = read_text s sound which (struct_at (wire_of p) payload at) failure e

called_framed : (office : PlainOffice) (head : Head) (bound : Bound) (f : PlainFunction) (args : Result Tree Failure) (reply : List ℕ)
    → length head.name ≤ longest_payload → ((failure : Failure) → args ≡ failed failure → length failure.text ≤ longest_idl_text)
    → call_made office head bound f args ≡ replied reply → IsWholeFrame reply
called_framed office head bound f (Ok args) reply named told e = absurd cc
called_framed office head bound f (Err failure) reply named told e =
    refused_framed office.protocol head (is_silent head f) failure reply (omega (arith, named, method_within head.name)) (told failure refl) e

on_function : (office : PlainOffice) → IsSound office.schema → (payload : List ℕ) (head : Head) (bound : Bound) (o : Option PlainFunction) (reply : List ℕ)
    → length head.name ≤ longest_payload → decided_on_function office payload head bound o ≡ replied reply → IsWholeFrame reply
unfolding decided_on_function
on_function office sound payload head bound (Some f) reply named e =
    called_framed office head bound f (arguments_at office.schema office.protocol f.args payload head.behind) reply named
    (arguments_text office.schema sound office.protocol f.args payload head.behind) e
on_function office sound payload head bound None reply named e =
    let m = method_within head.name in
    refused_framed office.protocol head (is_sent_oneway head) (no_method (method_part head.name)) reply (omega (arith, named, m))
    (omega (arith, named, m, length-append (method_part head.name) (codes "'"))) e

on_service : (office : PlainOffice) → IsSound office.schema → (payload : List ℕ) (head : Head) (o : Option Bound) (reply : List ℕ)
    → length head.name ≤ longest_payload → decided_on_service office payload head o ≡ replied reply → IsWholeFrame reply
unfolding decided_on_service
on_service office sound payload head (Some bound) reply named e = on_function office sound payload head bound (function_asked office bound head.name) reply named e
on_service office sound payload head None reply named e =
    refused_framed office.protocol head (is_sent_oneway head) (no_service head.name) reply (omega (arith, named, method_within head.name))
    (omega (arith, named, service_within head.name)) e

on_head : (office : PlainOffice) → IsSound office.schema → (payload : List ℕ) (r : Result Head EnvelopeFault) (reply : List ℕ)
    → ((head : Head) → r ≡ Ok head → length head.name ≤ longest_payload) → decided_on_head office payload r ≡ replied reply → IsWholeFrame reply
unfolding decided_on_head
on_head office sound payload (Ok head) reply named e = on_service office sound payload head (service_asked office.default_slot office.bindings head.name) reply (named head refl) e
on_head office sound payload (Err fault) reply named e = absurd cc

-- a reply to a payload that isn't too long
pub decided_framed : (office : PlainOffice) → IsSoundOffice office → (payload reply : List ℕ) → length payload ≤ longest_payload
    → decision office payload ≡ Reply reply → IsWholeFrame reply
decided_framed office sound payload reply short e =
    on_head office sound.schema payload (head_at office.protocol payload) reply
    (λ head is. omega (arith, short, name_within office.protocol payload head is)) e
