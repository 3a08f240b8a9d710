-- A message in front of bytes by reading its head and its struct, each from whole bytes.
use Rattle.std.specs.Prelude.{◌≡◌, ⊤, ◌-◌, ℕ, List, length, Result, Ok, Err}
use Rattle.streams.specs.declared.outcomes.EnvelopeFault.{EnvelopeFault}
use Rattle.streams.specs.declared.outcomes.EnvelopeFault.TheVariants as head
use Rattle.thrift_value.specs.declared.tag.Tag.TheVariants.{Struct}
use Rattle.thrift_value.specs.declared.wire_fault.WireFault.{WireFault}
use Rattle.thrift_value.specs.declared.wire_fault.WireFault.TheVariants as wire
use Rattle.thrift_value.specs.Tree.{Tree}
use Rattle.envelope.specs.declared.head.Protocol.TheVariants.{Binary}
use Rattle.envelope.specs.Said.{Said}
use Rattle.envelope.specs.Readout.{whole_head, call_type}
use Rattle.wire_model.specs.Decoder.{Unread}
use Rattle.wire_model.specs.Place.{most_levels, most_values}
use Rattle.wire_model.specs.Reading.{value}
use Rattle.binary_codec.specs.Reading.{binary}
use Rattle.stream_model.specs.declared.fault.StreamFault.{StreamFault}
use Rattle.stream_model.specs.declared.fault.StreamFault.TheVariants.{Envelope, Body, TooLong}
use Rattle.stream_model.specs.Progress.{MessageProgress, Whole, Refused}

-- the fault of a message whose head has this fault; bytes that end too early are too many for the message
abbrev pub head_fault : EnvelopeFault → StreamFault
head_fault head.Short = TooLong
head_fault fault = Envelope fault

-- the fault of a message whose struct has this fault, likewise
abbrev pub stream_fault : WireFault → StreamFault
stream_fault wire.Short = TooLong
stream_fault fault = Body fault

-- the place behind a struct that was read in bytes of this length
abbrev pub struct_end : ℕ → Result (Tree × Unread) WireFault → Result ℕ StreamFault
struct_end size (Ok x) = Ok (size - length x.1.bytes)
struct_end size (Err fault) = Err (stream_fault fault)

abbrev pub call_end : ℕ → List ℕ → Result ⊤ EnvelopeFault → Result ℕ StreamFault
call_end size bytes (Ok _) = struct_end size (value binary most_levels Struct (record { bytes = bytes; budget = most_values }))
call_end size bytes (Err fault) = Err (head_fault fault)

abbrev pub head_end : ℕ → Result (Said × List ℕ) EnvelopeFault → Result ℕ StreamFault
head_end size (Ok x) = call_end size x.1 (call_type x.0.kind)
head_end size (Err fault) = Err (head_fault fault)

-- the place behind the message, or its first fault
abbrev pub message_end : List ℕ → Result ℕ StreamFault
message_end bytes = head_end (length bytes) (whole_head Binary bytes)

-- what became of the bytes is what reading says
abbrev pub IsReadAs : Result ℕ StreamFault → MessageProgress → Type 0
IsReadAs (Ok n) g = g ≡ Whole n
IsReadAs (Err fault) g = (at : ℕ) × (g ≡ Refused at fault)
