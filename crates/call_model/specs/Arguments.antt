-- The arguments of a call, from the bytes behind a message's head.
use Rattle.std.specs.Prelude.{ℕ, List, Result, Ok, Err}
use Rattle.binary_codec.specs.Reading.{binary}
use Rattle.compact_codec.specs.Reading.{compact}
use Rattle.envelope.specs.declared.head.Protocol.{Protocol}
use Rattle.envelope.specs.declared.head.Protocol.TheVariants.{Binary, Compact}
use Rattle.envelope.specs.Exception.{Failure}
use Rattle.schema.specs.PlainSchema.{PlainSchema}
use Rattle.struct_skew.specs.declared.fault.SkewFault.{SkewFault}
use Rattle.struct_skew.specs.Projection.{projection}
use Rattle.thrift_value.specs.declared.wire_fault.WireFault.{WireFault}
use Rattle.thrift_value.specs.Tree.{Tree}
use Rattle.wire_model.specs.Place.{struct_at}
use Rattle.wire_model.specs.Wire.{Wire}
use Rattle.call_model.specs.Failures.{bad_arguments, wire_fault_text, skew_fault_text}

-- how a protocol is read
abbrev pub wire_of : Protocol → Wire
wire_of Binary = binary
wire_of Compact = compact

-- a struct's projection, or why it has none
abbrev pub projected_or_fault : PlainSchema → Result Tree SkewFault → Result Tree Failure
projected_or_fault s (Ok args) = Ok args
projected_or_fault s (Err fault) = Err (bad_arguments (skew_fault_text s fault))

-- the projection of a struct that was read, or its fault; what stands behind the struct plays no part
abbrev pub read_as_arguments : PlainSchema → ℕ → Result (Tree × ℕ) WireFault → Result Tree Failure
read_as_arguments s which (Ok found) = projected_or_fault s (projection s which found.0)
read_as_arguments s which (Err fault) = Err (bad_arguments (wire_fault_text fault))

-- the struct at a place of a payload, as the arguments that the struct at a number declares (Thrift RPC specification, 'Request')
unfoldable pub arguments_at : PlainSchema → Protocol → ℕ → List ℕ → ℕ → Result Tree Failure
arguments_at s protocol which payload at = read_as_arguments s which (struct_at (wire_of protocol) payload at)
