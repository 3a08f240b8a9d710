-- What is written of a failure is a whole frame.
use Rattle.std.proofs.Common.{ℕ, ℤ, ◌+◌, ◌-◌, ◌≤◌, ◌^◌, List, [], ◌∷◌, ◌++◌, length, refl, arith}
use Rattle.std.specs.Int.{w32, cast_unsigned}
use Rattle.std.proofs.lemmas.List.{length-append}
use Rattle.wire_num.specs.Fixed.{signed_bytes}
use Rattle.wire_num.specs.Varint.{varint_bytes}
use Rattle.wire_num.specs.Zigzag.{zigzag}
use Rattle.host_model.specs.Frames.{IsPayload}
use Rattle.call_rules.specs.Desks.{IsWholeFrame, longest_payload}
use Rattle.envelope.specs.declared.head.Head.{Head}
use Rattle.envelope.specs.declared.head.Protocol.{Protocol}
use Rattle.envelope.specs.declared.head.Protocol.TheVariants.{Binary, Compact}
use Rattle.envelope.specs.Said.{Said}
use Rattle.envelope.specs.Spelling.{compact_id, compact_name, head_text}
use Rattle.envelope.specs.Exception.{Failure, binary_code_field, compact_text_field, compact_code_field, failure_struct, exception_head, exception_text}
use Rattle.call_model.specs.Names.{method_part}
use Rattle.call_model.specs.Decisions.{failure_frame}
use Rattle.call_model.proofs.Lengths.{varint_length}

-- a head that is written has a byte at least, and 12 at most beside its name
pub record HasHeadLength (head name : List ℕ) : Type 0 where
  pub least : 1 ≤ length head
  pub most : length head ≤ 12 + length name

compact_name_length : (name : List ℕ) → length (compact_name name) ≤ 5 + length name
unfolding compact_name
compact_name_length name = omega (arith, varint_length (length name), length-append (varint_bytes w32 (length name)) name)

compact_id_length : (id : ℤ) → length (compact_id id) ≤ 5
unfolding compact_id
compact_id_length id = varint_length (cast_unsigned w32 id)

pub head_length : (p : Protocol) (said : Said) → HasHeadLength (head_text p said) said.name
head_length Binary said =
    record { least = omega arith; most = omega (arith, length-append said.name (signed_bytes w32 said.id)) }
head_length Compact said =
    let i = compact_id_length said.id in
    let n = compact_name_length said.name in
    let a = length-append (compact_id said.id) (compact_name said.name) in
    record { least = omega arith; most = omega (arith, i, n, a) }

-- the struct of a failure
struct_length : (p : Protocol) (failure : Failure) → length (failure_struct p failure) ≤ 20 + length failure.text
unfolding failure_struct compact_text_field compact_code_field
struct_length Binary failure =
    omega (arith, length-append failure.text (binary_code_field failure.code ++ 0 ∷ []))
struct_length Compact failure =
    let n = compact_name_length failure.text in
    let c = varint_length (zigzag failure.code) in
    let a = length-append (compact_name failure.text) (compact_code_field failure.code ++ 0 ∷ []) in
    let b = length-append (varint_bytes w32 (zigzag failure.code)) (0 ∷ []) in
    omega (arith, n, c, a, b)

-- the whole message
pub exception_length : (p : Protocol) (name : List ℕ) (id : ℤ) (failure : Failure) → length (exception_text p name id failure) ≤ 32 + (length name + length failure.text)
unfolding exception_head
exception_length p name id failure =
    let h = head_length p (record { name = name; kind = 3; id = id }) in
    omega (arith, h.most, struct_length p failure, length-append (exception_head p name id) (failure_struct p failure))

-- a failure that is not too long makes a payload
exception_payload : (p : Protocol) (name : List ℕ) (id : ℤ) (failure : Failure) → length name ≤ longest_payload → length failure.text ≤ 268435556
    → IsPayload (2 ^ 31 - 1) (exception_text p name id failure)
unfolding exception_head
exception_payload p name id failure named told =
    let h = head_length p (record { name = name; kind = 3; id = id }) in
    let s = struct_length p failure in
    let a = length-append (exception_head p name id) (failure_struct p failure) in
    record { some = omega (arith, h.least, a); within = omega (arith, h.most, s, a, named, told) }

-- the frame of a failure
pub failure_framed : (p : Protocol) (head : Head) (failure : Failure) → length (method_part head.name) ≤ longest_payload → length failure.text ≤ 268435556
    → IsWholeFrame (failure_frame p head failure)
unfolding failure_frame
failure_framed p head failure named told =
    record { payload = exception_text p (method_part head.name) head.id failure; is = exception_payload p (method_part head.name) head.id failure named told; whole = refl }
