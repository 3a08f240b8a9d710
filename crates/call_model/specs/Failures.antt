-- Why there is no call, or no result, as callers are told (Thrift RPC specification, 'Application Exceptions'). The codes are those of
-- TApplicationException. Own choice: the texts, and that an unknown service and arguments at fault are answered at all.
use Rattle.std.specs.Prelude.{ℕ, ℤ, pos, List, [], ◌++◌, codes, unwrap_or}
use Rattle.std.specs.List.{slice_get}
use Rattle.std.specs.Option.{option_map}
use Rattle.text_out.specs.Decimal.{decimal_of}
use Rattle.thrift_value.specs.declared.wire_fault.WireFault.{WireFault}
use Rattle.thrift_value.specs.declared.wire_fault.WireFault.TheVariants as wire
use Rattle.envelope.specs.Exception.{Failure}
use Rattle.schema.specs.PlainSchema.{PlainField, PlainStruct, PlainSchema}
use Rattle.schema.specs.LookUp.{field_at}
use Rattle.struct_skew.specs.declared.fault.SkewFault.{SkewFault}
use Rattle.struct_skew.specs.declared.fault.SkewFault.TheVariants as skew
use Rattle.call_model.specs.Names.{service_part}

-- the codes: the method is unknown, there is no result, the message's content is at fault
abbrev pub unknown_method : ℤ
unknown_method = pos 1

abbrev pub internal_error : ℤ
internal_error = pos 6

abbrev pub protocol_error : ℤ
protocol_error = pos 7

-- no service of this name is bound; where the message's name has no service's, the whole name is told
abbrev pub no_service : List ℕ → Failure
no_service name = record { text = codes "Service name not found: " ++ unwrap_or (service_part name) name; code = unknown_method }

-- the service has no function of this name
abbrev pub no_method : List ℕ → Failure
no_method method = record { text = codes "Invalid method name: '" ++ (method ++ codes "'"); code = unknown_method }

-- the arguments are at fault
abbrev pub bad_arguments : List ℕ → Failure
bad_arguments fault = record { text = codes "Bad arguments: " ++ fault; code = protocol_error }

-- the call has no result that may go back
abbrev pub no_result : List ℕ → Failure
no_result method = record { text = codes "Internal error processing " ++ method; code = internal_error }

-- the result is longer than a payload may be
abbrev pub too_large : Failure
too_large = record { text = codes "Reply is too large"; code = internal_error }

-- the fault of a struct that can't be read. Want of memory is none, and has no text
abbrev pub wire_fault_text : WireFault → List ℕ
wire_fault_text wire.Short = codes "Short"
wire_fault_text (wire.BadType code) = codes "BadType " ++ decimal_of (pos code)
wire_fault_text wire.BadSize = codes "BadSize"
wire_fault_text wire.LongVarint = codes "LongVarint"
wire_fault_text wire.FieldRange = codes "FieldRange"
wire_fault_text wire.TooDeep = codes "TooDeep"
wire_fault_text wire.TooMany = codes "TooMany"
wire_fault_text wire.NoMemory = []

-- the name of the field with an id of the struct at a number
abbrev pub field_name : PlainSchema → ℕ → ℤ → List ℕ
field_name s which id = unwrap_or (option_map (λ (f : PlainField). f.name) (field_at s which id)) []

-- the name of the struct at a number
abbrev pub struct_name_at : PlainSchema → ℕ → List ℕ
struct_name_at s which = unwrap_or (option_map (λ (d : PlainStruct). d.name) (slice_get s.structs which)) []

-- the fault of a struct that isn't what is declared: a field that is missing or a union that is at fault is named without its file
abbrev pub skew_fault_text : PlainSchema → SkewFault → List ℕ
skew_fault_text s (skew.Missing which id) = codes "Missing " ++ field_name s which id
skew_fault_text s (skew.UnionFields which) = codes "UnionFields " ++ struct_name_at s which
skew_fault_text s skew.TooDeep = codes "TooDeep"
skew_fault_text s skew.TooMany = codes "TooMany"
skew_fault_text s skew.NoMemory = []
