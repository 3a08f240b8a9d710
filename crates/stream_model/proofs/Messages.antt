-- The plan of a message follows the reading of its head and its struct.
use Rattle.std.specs.Prelude.{⊤, ℤ, pos, negsuc, ◌==◌, ◌&&◌, ◌||◌}
use Rattle.std.specs.Int.{w32}
use Rattle.std.proofs.Common.{◌≡◌, ℕ, zero, suc, ◌+◌, ◌-◌, ◌≤◌, ◌<◌, Bool, true, false, cond, nat_le, List, length, drop, take, slice_index, Result, Ok, Err, refl, sym, ap, ◌∙◌, subst, arith}
use Rattle.std.proofs.lemmas.List.{length-drop}
use Rattle.std.proofs.lemmas.Bool.{leb-true, leb-false}
use Rattle.wire_num.specs.declared.fault.NumFault.TheVariants as number
use Rattle.wire_num.specs.Decoding.{decoded_as, decode_bytes}
use Rattle.wire_num.specs.Fixed.{unsigned_of, signed_of}
use Rattle.streams.specs.declared.outcomes.EnvelopeFault.{EnvelopeFault}
use Rattle.streams.specs.declared.outcomes.EnvelopeFault.TheVariants.{Version, NameSize, MessageType}
use Rattle.thrift_value.specs.declared.tag.Tag.TheVariants.{Struct}
use Rattle.thrift_value.specs.declared.wire_fault.WireFault.{WireFault}
use Rattle.thrift_value.specs.Tree.{Tree}
use Rattle.envelope.specs.declared.head.Protocol.TheVariants.{Binary}
use Rattle.envelope.specs.Said.{Said, call, call_without_reply}
use Rattle.envelope.specs.Spelling.{strict_mark, strict_version}
use Rattle.envelope.specs.Readout.{◌>>=◌, in_head, head_bytes, head_byte, head_i32, name_of, version, strict_head, old_head, either_head, whole_head, call_type}
use Rattle.wire_model.specs.Decoder.{Unread}
use Rattle.wire_model.specs.Place.{most_levels, most_values}
use Rattle.wire_model.specs.Reading.{value}
use Rattle.binary_codec.specs.Reading.{binary}
use Rattle.stream_model.specs.declared.fault.StreamFault.TheVariants.{Envelope}
use Rattle.stream_model.specs.Plan.{Plan, needs, faulty, ends, byte_plan, value_plan, call_plan, name_plan, strict_plan, old_plan, either_plan, message_plan}
use Rattle.stream_model.specs.Progress.{MessageProgress, Whole, Refused, progress, message_progress}
use Rattle.stream_model.specs.Reading.{head_fault, struct_end, call_end, head_end, message_end, IsReadAs}
use Rattle.stream_model.proofs.Following.{Meets, taken, lacked}
use Rattle.stream_model.proofs.Values.{value_passes}

-- what was read of a head, and what becomes of a plan that goes on by it
abbrev HeadMeets : {A : Type 0} → ℕ → (A → Plan) → Result (A × List ℕ) EnvelopeFault → MessageProgress → Type 0
HeadMeets max next (Ok x) g = (g ≡ progress max (max - length x.1) (next x.0) x.1) × (length x.1 ≤ max)
HeadMeets max next (Err fault) g = (at : ℕ) × (g ≡ Refused at (head_fault fault))

head_moved : {A : Type 0} (max : ℕ) (next : A → Plan) (r : Result (A × List ℕ) EnvelopeFault) (g h : MessageProgress) → g ≡ h → HeadMeets max next r h
    → HeadMeets max next r g
head_moved max next (Ok x) g h e m = (e ∙ m.0, m.1)
head_moved max next (Err fault) g h e m = (m.0, e ∙ m.1)

head_went : {A B : Type 0} (max : ℕ) (r : Result (A × List ℕ) EnvelopeFault) (f : A × List ℕ → Result (B × List ℕ) EnvelopeFault) (k : A → Plan) (next : B → Plan) (g : MessageProgress)
    → HeadMeets max k r g → ((x : A × List ℕ) → length x.1 ≤ max → HeadMeets max next (f x) (progress max (max - length x.1) (k x.0) x.1))
    → HeadMeets max next (r >>= f) g
head_went max (Ok x) f k next g m then_meets = head_moved max next (f x) g (progress max (max - length x.1) (k x.0) x.1) m.0 (then_meets x m.1)
head_went max (Err fault) f k next g m then_meets = m

meant_if : {A : Type 0} (max size : ℕ) (meaning : List ℕ → A) (bytes : List ℕ) (next : A → Plan) → length bytes ≤ max → (b : Bool)
    → nat_le size (length bytes) ≡ b
    → HeadMeets max next (in_head (decoded_as meaning (cond b (Ok (take size bytes, drop size bytes)) (Err number.Short)))) (progress max (max - length bytes) (needs size (λ t. next (meaning t))) bytes)
meant_if max size meaning bytes next le true e = (taken max size (λ t. next (meaning t)) bytes (leb-true size (length bytes) e) le, omega (arith, length-drop size bytes))
meant_if max size meaning bytes next le false e = (max - length bytes, lacked max size (λ t. next (meaning t)) bytes (leb-false size (length bytes) e) le)

some_if : (max size : ℕ) (bytes : List ℕ) (next : List ℕ → Plan) → length bytes ≤ max → (b : Bool) → nat_le size (length bytes) ≡ b
    → HeadMeets max next (in_head (cond b (Ok (take size bytes, drop size bytes)) (Err number.Short))) (progress max (max - length bytes) (needs size (λ t. next t)) bytes)
some_if max size bytes next le true e = (taken max size next bytes (leb-true size (length bytes) e) le, omega (arith, length-drop size bytes))
some_if max size bytes next le false e = (max - length bytes, lacked max size next bytes (leb-false size (length bytes) e) le)

i32_meets : (max : ℕ) (bytes : List ℕ) (next : ℤ → Plan) → length bytes ≤ max
    → HeadMeets max next (head_i32 bytes) (progress max (max - length bytes) (needs 4 (λ t. next (signed_of w32 t))) bytes)
i32_meets max bytes next le = meant_if max 4 (signed_of w32) bytes next le (nat_le 4 (length bytes)) refl

byte_meets : (max : ℕ) (bytes : List ℕ) (next : ℕ → Plan) → length bytes ≤ max
    → HeadMeets max next (head_byte bytes) (progress max (max - length bytes) (byte_plan next) bytes)
byte_meets max bytes next le = meant_if max 1 (λ front. slice_index front 0) bytes next le (nat_le 1 (length bytes)) refl

bytes_meet : (max size : ℕ) (bytes : List ℕ) (next : List ℕ → Plan) → length bytes ≤ max
    → HeadMeets max next (head_bytes size bytes) (progress max (max - length bytes) (needs size (λ t. next t)) bytes)
bytes_meet max size bytes next le = some_if max size bytes next le (nat_le size (length bytes)) refl

name_meets : (max : ℕ) (size : ℤ) (bytes : List ℕ) (next : Plan) → length bytes ≤ max
    → HeadMeets max (λ _. next) (name_of size bytes) (progress max (max - length bytes) (name_plan next size) bytes)
unfolding name_of
name_meets max (pos size) bytes next le = bytes_meet max size bytes (λ _. next) le
name_meets max (negsuc _) bytes next le = (max - length bytes, refl)

-- ---- strict and old heads

abbrev tail : List ℕ → List ℕ → Result (Said × List ℕ) EnvelopeFault
tail first bytes = do
  size ← head_i32 bytes
  name ← name_of size.0 size.1
  id ← head_i32 name.1
  Ok (record { name = name.0; kind = slice_index first 3; id = id.0 }, id.1)

tail_meets : (max most : ℕ) (first bytes : List ℕ) → length bytes ≤ max
    → HeadMeets max (λ said. call_plan most said.kind) (tail first bytes)
    (progress max (max - length bytes) (needs 4 (λ t. name_plan (needs 4 (λ id. call_plan most (slice_index first 3))) (signed_of w32 t))) bytes)
tail_meets max most first bytes le =
    let on : Plan = needs 4 (λ id. call_plan most (slice_index first 3)) in
    let done : List ℕ → ℤ × List ℕ → Result (Said × List ℕ) EnvelopeFault = λ name id. Ok (record { name = name; kind = slice_index first 3; id = id.0 }, id.1) in
    let named : List ℕ × List ℕ → Result (Said × List ℕ) EnvelopeFault = λ name. head_i32 name.1 >>= done name.0 in
    head_went max (head_i32 bytes) (λ size. name_of size.0 size.1 >>= named) (λ size. name_plan on size) (λ said. call_plan most said.kind)
    (progress max (max - length bytes) (needs 4 (λ t. name_plan on (signed_of w32 t))) bytes) (i32_meets max bytes (λ size. name_plan on size) le) (λ size within.
    head_went max (name_of size.0 size.1) named (λ _. on) (λ said. call_plan most said.kind) (progress max (max - length size.1) (name_plan on size.0) size.1) (name_meets max size.0 size.1 on within) (λ name inner.
    head_went max (head_i32 name.1) (done name.0) (λ _. call_plan most (slice_index first 3)) (λ said. call_plan most said.kind) (progress max (max - length name.1) on name.1)
    (i32_meets max name.1 (λ _. call_plan most (slice_index first 3)) inner) (λ id last. (refl, last))))

strict_if : (b : Bool) (max most : ℕ) (first bytes : List ℕ) → length bytes ≤ max
    → HeadMeets max (λ said. call_plan most said.kind) (cond b (Ok (tt {0})) (Err (Version (unsigned_of w32 first))) >>= λ _. tail first bytes)
    (progress max (max - length bytes) (cond b (needs 4 (λ t. name_plan (needs 4 (λ id. call_plan most (slice_index first 3))) (signed_of w32 t))) (faulty (Envelope (Version (unsigned_of w32 first))))) bytes)
strict_if true max most first bytes le = tail_meets max most first bytes le
strict_if false max most first bytes le = (max - length bytes, refl)

strict_meets : (max most : ℕ) (first bytes : List ℕ) → length bytes ≤ max
    → HeadMeets max (λ said. call_plan most said.kind) (strict_head first bytes) (progress max (max - length bytes) (strict_plan most first) bytes)
unfolding strict_head version
strict_meets max most first bytes le = strict_if (slice_index first 0 == strict_mark && slice_index first 1 == strict_version) max most first bytes le

old_meets : (max most : ℕ) (size : ℤ) (bytes : List ℕ) → length bytes ≤ max
    → HeadMeets max (λ said. call_plan most said.kind) (old_head size bytes) (progress max (max - length bytes) (old_plan most size) bytes)
unfolding old_head
old_meets max most size bytes le =
    let on : Plan = byte_plan (λ kind. needs 4 (λ id. call_plan most kind)) in
    let done : List ℕ → ℕ → ℤ × List ℕ → Result (Said × List ℕ) EnvelopeFault = λ name kind id. Ok (record { name = name; kind = kind; id = id.0 }, id.1) in
    let kinded : List ℕ → ℕ × List ℕ → Result (Said × List ℕ) EnvelopeFault = λ name kind. head_i32 kind.1 >>= done name kind.0 in
    head_went max (name_of size bytes) (λ name. head_byte name.1 >>= kinded name.0) (λ _. on) (λ said. call_plan most said.kind)
    (progress max (max - length bytes) (name_plan on size) bytes) (name_meets max size bytes on le) (λ name within.
    head_went max (head_byte name.1) (kinded name.0) (λ kind. needs 4 (λ id. call_plan most kind)) (λ said. call_plan most said.kind) (progress max (max - length name.1) on name.1)
    (byte_meets max name.1 (λ kind. needs 4 (λ id. call_plan most kind)) within) (λ kind inner.
    head_went max (head_i32 kind.1) (done name.0 kind.0) (λ _. call_plan most kind.0) (λ said. call_plan most said.kind) (progress max (max - length kind.1) (needs 4 (λ id. call_plan most kind.0)) kind.1)
    (i32_meets max kind.1 (λ _. call_plan most kind.0) inner) (λ id last. (refl, last))))

either_meets : (max most : ℕ) (size : ℤ) (first bytes : List ℕ) → length bytes ≤ max
    → HeadMeets max (λ said. call_plan most said.kind) (either_head size first bytes) (progress max (max - length bytes) (either_plan most size first) bytes)
unfolding either_head
either_meets max most (pos size) first bytes le = old_meets max most (pos size) bytes le
either_meets max most (negsuc _) first bytes le = strict_meets max most first bytes le

head_meets : (max most : ℕ) (bytes : List ℕ) → length bytes ≤ max
    → HeadMeets max (λ said. call_plan most said.kind) (whole_head Binary bytes) (progress max (max - length bytes) (message_plan most) bytes)
unfolding whole_head
head_meets max most bytes le =
    head_went max (head_bytes 4 bytes) (λ front. either_head (signed_of w32 front.0) front.0 front.1) (λ first. either_plan most (signed_of w32 first) first) (λ said. call_plan most said.kind)
    (progress max (max - length bytes) (message_plan most) bytes) (bytes_meet max 4 bytes (λ first. either_plan most (signed_of w32 first) first) le)
    (λ front within. either_meets max most (signed_of w32 front.0) front.0 front.1 within)

-- ---- the struct behind a head

struct_ends : (max : ℕ) (r : Result (Tree × Unread) WireFault) (bound : ℕ) (g : MessageProgress) → Meets max bound (λ _ _. ends) r g
    → IsReadAs (struct_end max r) g
struct_ends max (Ok x) bound g m = m.0
struct_ends max (Err fault) bound g m = m

call_if : (b : Bool) (max kind : ℕ) (bytes : List ℕ) → length bytes ≤ max
    → IsReadAs (call_end max bytes (cond b (Ok (tt {0})) (Err (MessageType kind))))
    (progress max (max - length bytes) (cond b (value_plan max most_levels Struct most_values (λ _. ends)) (faulty (Envelope (MessageType kind)))) bytes)
call_if true max kind bytes le =
    struct_ends max (value binary most_levels Struct (record { bytes = bytes; budget = most_values })) (length bytes)
    (progress max (max - length bytes) (value_plan max most_levels Struct most_values (λ _. ends)) bytes)
    (value_passes max most_levels Struct (record { bytes = bytes; budget = most_values }) (λ _. ends) le)
call_if false max kind bytes le = (max - length bytes, refl)

call_reads : (max kind : ℕ) (bytes : List ℕ) → length bytes ≤ max
    → IsReadAs (call_end max bytes (call_type kind)) (progress max (max - length bytes) (call_plan max kind) bytes)
unfolding call_type
call_reads max kind bytes le = call_if (kind == call || kind == call_without_reply) max kind bytes le

read_moved : (r : Result ℕ _) (g h : MessageProgress) → g ≡ h → IsReadAs r h → IsReadAs r g
read_moved (Ok n) g h e m = e ∙ m
read_moved (Err fault) g h e m = (m.0, e ∙ m.1)

reads_if : (max : ℕ) (r : Result (Said × List ℕ) EnvelopeFault) (g : MessageProgress) → HeadMeets max (λ said. call_plan max said.kind) r g
    → IsReadAs (head_end max r) g
reads_if max (Ok x) g m = read_moved (call_end max x.1 (call_type x.0.kind)) g (progress max (max - length x.1) (call_plan max x.0.kind) x.1) m.0 (call_reads max x.0.kind x.1 m.1)
reads_if max (Err fault) g m = m

-- as many bytes as a message may have
pub message_reads : (bytes : List ℕ) → IsReadAs (message_end bytes) (message_progress (length bytes) bytes)
message_reads bytes =
    let max = length bytes in
    let start : max - max ≡ 0 = omega arith in
    subst (λ (at : ℕ). IsReadAs (message_end bytes) (progress max at (message_plan max) bytes)) start
    (reads_if max (whole_head Binary bytes) (progress max (max - max) (message_plan max) bytes) (head_meets max max bytes (omega arith)))
