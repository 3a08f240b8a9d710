-- Reading a head: what it says, or the first fault in reading order (Thrift binary and compact protocol, 'Message').
use Rattle.std.specs.Prelude.{◌≡◌, ⊤, ◌-◌, ◌/◌, ◌%◌, ◌^◌, ◌==◌, ◌&&◌, ◌||◌, ℕ, ℤ, pos, negsuc, Bool, List, ◌++◌, length, slice_index, nat_lt, Result, Ok, Err, if◌then◌else◌}
use Rattle.std.specs.Int.{w32, cast_signed}
use Rattle.streams.specs.declared.outcomes.EnvelopeFault.{EnvelopeFault}
use Rattle.streams.specs.declared.outcomes.EnvelopeFault.TheVariants.{Short, Version, NameSize, LongVarint, MessageType}
use Rattle.wire_num.specs.declared.fault.NumFault.{NumFault}
use Rattle.wire_num.specs.declared.fault.NumFault.TheVariants as number
use Rattle.wire_num.specs.Decoding.{decode_bytes, decode_byte, decode_signed}
use Rattle.wire_num.specs.Fixed.{unsigned_of, signed_of}
use Rattle.wire_num.specs.Varint.{decode_varint}
use Rattle.envelope.specs.declared.head.Protocol.{Protocol}
use Rattle.envelope.specs.declared.head.Protocol.TheVariants.{Binary, Compact}
use Rattle.envelope.specs.declared.head.Head.{Head}
use Rattle.envelope.specs.declared.head.HeadFault.{HeadFault}
use Rattle.envelope.specs.declared.head.HeadFault.TheVariants.{Envelope, NoMemory}
use Rattle.envelope.specs.Said.{Said, call, call_without_reply, reply, exception, IsCall, IsReply}
use Rattle.envelope.specs.Spelling.{strict_mark, strict_version, compact_mark, compact_version, IsSpelling}

-- one step of a reading and then the next, unless the first is at fault
infixl 10 ◌>>=◌
abbrev pub ◌>>=◌ : {A B : Type 0} → Result A EnvelopeFault → (A → Result B EnvelopeFault) → Result B EnvelopeFault
(Ok x) >>= f = f x
(Err fault) >>= f = Err fault

-- the fault of a head whose number has this fault
abbrev pub envelope_fault_of : NumFault → EnvelopeFault
envelope_fault_of number.Short = Short
envelope_fault_of number.LongVarint = LongVarint

-- what was decoded, or the fault of the head
abbrev pub in_head : {A : Type 0} → Result A NumFault → Result A EnvelopeFault
in_head (Ok x) = Ok x
in_head (Err fault) = Err (envelope_fault_of fault)

-- so many bytes, and those behind them
abbrev pub head_bytes : ℕ → List ℕ → Result (List ℕ × List ℕ) EnvelopeFault
head_bytes size bytes = in_head (decode_bytes size bytes)

-- a byte, and those behind it
abbrev pub head_byte : List ℕ → Result (ℕ × List ℕ) EnvelopeFault
head_byte bytes = in_head (decode_byte bytes)

-- an i32, and the bytes behind it
abbrev pub head_i32 : List ℕ → Result (ℤ × List ℕ) EnvelopeFault
head_i32 bytes = in_head (decode_signed w32 bytes)

-- a name of this length, and the bytes behind it
unfoldable pub name_of : ℤ → List ℕ → Result (List ℕ × List ℕ) EnvelopeFault
name_of (pos size) bytes = head_bytes size bytes
name_of (negsuc _) bytes = Err NameSize

-- a strict head begins with the bytes of its version
unfoldable pub version : List ℕ → Result ⊤ EnvelopeFault
version first =
    if slice_index first 0 == strict_mark && slice_index first 1 == strict_version then Ok tt else Err (Version (unsigned_of w32 first))

-- a strict head, told by its first four bytes and those behind them
unfoldable pub strict_head : List ℕ → List ℕ → Result (Said × List ℕ) EnvelopeFault
strict_head first bytes = do
  _ ← version first
  size ← head_i32 bytes
  name ← name_of size.0 size.1
  id ← head_i32 name.1
  Ok (record { name = name.0; kind = slice_index first 3; id = id.0 }, id.1)

-- an old head, told by its name's length and the bytes behind that
unfoldable pub old_head : ℤ → List ℕ → Result (Said × List ℕ) EnvelopeFault
old_head size bytes = do
  name ← name_of size bytes
  kind ← head_byte name.1
  id ← head_i32 kind.1
  Ok (record { name = name.0; kind = kind.0; id = id.0 }, id.1)

-- a first number below 0 begins a strict head, any other is the length of an old head's name
unfoldable pub either_head : ℤ → List ℕ → List ℕ → Result (Said × List ℕ) EnvelopeFault
either_head (pos size) first bytes = old_head (pos size) bytes
either_head (negsuc _) first bytes = strict_head first bytes

-- a varint of 32 bits, and the bytes behind it
abbrev pub head_varint : List ℕ → Result (ℕ × List ℕ) EnvelopeFault
head_varint bytes = in_head (decode_varint w32 bytes)

-- a byte is accepted, or another version
abbrev pub accepted : Bool → ℕ → Result ⊤ EnvelopeFault
accepted test b = if test then Ok tt else Err (Version b)

-- a name of this length, which has 31 bits, and the bytes behind it
unfoldable pub sized_name : ℕ → List ℕ → Result (List ℕ × List ℕ) EnvelopeFault
sized_name size bytes = if nat_lt size (2 ^ 31) then head_bytes size bytes else Err NameSize

-- what stands behind the first two bytes of a compact head of this type
unfoldable pub compact_rest : ℕ → List ℕ → Result (Said × List ℕ) EnvelopeFault
compact_rest kind bytes = do
  id ← head_varint bytes
  size ← head_varint id.1
  name ← sized_name size.0 size.1
  Ok (record { name = name.0; kind = kind; id = cast_signed w32 id.0 }, name.1)

-- a compact head: each of its first two bytes is judged before the next one is read
unfoldable pub compact_head : List ℕ → Result (Said × List ℕ) EnvelopeFault
compact_head bytes = do
  mark ← head_byte bytes
  _ ← accepted (mark.0 == compact_mark) mark.0
  typed ← head_byte mark.1
  _ ← accepted (typed.0 % 32 == compact_version) typed.0
  compact_rest (typed.0 / 32) typed.1

-- a whole head of any type, and the bytes behind it
unfoldable pub whole_head : Protocol → List ℕ → Result (Said × List ℕ) EnvelopeFault
whole_head Binary bytes = do
  front ← head_bytes 4 bytes
  either_head (signed_of w32 front.0) front.0 front.1
whole_head Compact bytes = compact_head bytes

-- the type has to be one that a host takes
unfoldable pub call_type : ℕ → Result ⊤ EnvelopeFault
call_type kind = if kind == call || kind == call_without_reply then Ok tt else Err (MessageType kind)

-- the head in front of these bytes: a whole head, and then its type
unfoldable pub head_at : Protocol → List ℕ → Result Head EnvelopeFault
head_at protocol bytes = do
  whole ← whole_head protocol bytes
  _ ← call_type whole.0.kind
  Ok (record { name = whole.0.name; kind = whole.0.kind; id = whole.0.id; behind = length bytes - length whole.1 })

-- the type has to be one that a client takes
unfoldable pub reply_kind : ℕ → Result ⊤ EnvelopeFault
reply_kind kind = if kind == reply || kind == exception then Ok tt else Err (MessageType kind)

-- the head in front of these bytes, where they answer a call: a whole head, and then its type
unfoldable pub reply_head_at : Protocol → List ℕ → Result Head EnvelopeFault
reply_head_at protocol bytes = do
  whole ← whole_head protocol bytes
  _ ← reply_kind whole.0.kind
  Ok (record { name = whole.0.name; kind = whole.0.kind; id = whole.0.id; behind = length bytes - length whole.1 })

-- what a head that was read says
abbrev pub said_by : Head → Said
said_by head = record { name = head.name; kind = head.kind; id = head.id }

-- what was answered, seen by view, is what is meant; want of memory is never answered
abbrev pub MeansExactly : {X Y : Type 0} → (X → Y) → Result X HeadFault → Result Y EnvelopeFault → Type 0
MeansExactly view (Ok x) meant = meant ≡ Ok (view x)
MeansExactly view (Err (Envelope fault)) meant = meant ≡ Err fault
MeansExactly view (Err NoMemory) meant = ⊥

-- the head that was answered is this, or its fault
abbrev pub IsHead : Result Head HeadFault → Result Head EnvelopeFault → Type 0
IsHead result meant = MeansExactly (λ head. head) result meant

-- what was answered, seen by view, is what is meant; want of memory may stand in its place
abbrev pub MeansOrNoMemory : {X Y : Type 0} → (X → Y) → Result X HeadFault → Result Y EnvelopeFault → Type 0
MeansOrNoMemory view (Ok x) meant = meant ≡ Ok (view x)
MeansOrNoMemory view (Err (Envelope fault)) meant = meant ≡ Err fault
MeansOrNoMemory view (Err NoMemory) meant = ⊤

-- the head that was answered is this, or its fault; want of memory may stand in its place
abbrev pub IsHeadOrNoMemory : Result Head HeadFault → Result Head EnvelopeFault → Type 0
IsHeadOrNoMemory result meant = MeansOrNoMemory (λ head. head) result meant

-- a call's head stands in front of the bytes, up to the place behind it
pub record IsEncodedIn (protocol : Protocol) (bytes : List ℕ) (head : Head) : Type 0 where
  pub text : List ℕ
  pub rest : List ℕ
  pub whole : bytes ≡ text ++ rest
  pub spelled : IsSpelling protocol (said_by head) text
  pub call : IsCall head.kind
  pub behind : head.behind ≡ length text

-- an answer's head stands in front of the bytes, up to the place behind it
pub record IsReplyIn (protocol : Protocol) (bytes : List ℕ) (head : Head) : Type 0 where
  pub text : List ℕ
  pub rest : List ℕ
  pub whole : bytes ≡ text ++ rest
  pub spelled : IsSpelling protocol (said_by head) text
  pub reply : IsReply head.kind
  pub behind : head.behind ≡ length text
