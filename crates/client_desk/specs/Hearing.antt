-- What a payload answers to a call (Thrift RPC specification, 'Response' and 'Application Exceptions').
use Rattle.std.specs.Prelude.{ℕ, ℤ, pos, ◌==◌, if◌then◌else◌, List, [], ◌∷◌, Option, Some, None, unwrap_or, Result, Ok, Err}
use Rattle.std.specs.Ordering.{int_eq}
use Rattle.std.specs.Str.{bytes_eq}
use Rattle.streams.specs.declared.outcomes.EnvelopeFault.{EnvelopeFault}
use Rattle.envelope.specs.declared.head.Head.{Head as MessageHead}
use Rattle.envelope.specs.Said.{exception as exception_type}
use Rattle.envelope.specs.Readout.{reply_head_at}
use Rattle.schema.specs.LookUp.{function_named}
use Rattle.schema.specs.PlainKind.{PlainKind}
use Rattle.schema.specs.PlainSchema.{PlainField, PlainFunction, PlainSchema}
use Rattle.struct_skew.specs.declared.fault.SkewFault.{SkewFault}
use Rattle.std.specs.Option.{option_map, option_or}
use Rattle.struct_skew.specs.Fits.{fits_kind}
use Rattle.struct_skew.specs.Projection.{meaning_within_bounds}
use Rattle.thrift_value.specs.declared.wire_fault.WireFault.{WireFault}
use Rattle.thrift_value.specs.Tree.{Tree, of_i32, of_bytes, FieldTrees, no_fields, field}
use Rattle.wire_model.specs.Place.{struct_at}
use Rattle.call_rules.specs.Arguments.{fields_in}
use Rattle.call_model.specs.Arguments.{wire_of}
use Rattle.call_model.specs.Replies.{success_id}
use Rattle.client_desk.specs.Clients.{PlainClient}
use Rattle.client_desk.specs.declared.heard_fault.HeardFault.{HeardFault}
use Rattle.client_desk.specs.declared.heard_fault.HeardFault.TheVariants.{Head, WrongName, WrongId, Wire, Skew}

-- what a call came to: a result, none where none is declared, none where one is, a declared exception, or that the call failed
pub data PlainHeard : Type 0 where
  success : Tree → PlainHeard
  void : PlainHeard
  missing : PlainHeard
  throws : ℤ → Tree → PlainHeard
  exception : ℤ → List ℕ → PlainHeard

-- the value of a field as something, where it has this id and is that
abbrev pub under_id : {A : Type 0} → (Tree → Option A) → ℤ → ℤ → Tree → Option A
under_id what id other value = if int_eq other id then what value else None

-- the last of the values under an id that is something, as that
abbrev pub last_as : {A : Type 0} → (Tree → Option A) → ℤ → FieldTrees → Option A
last_as what id no_fields = None
last_as what id (field other value more) = option_or (last_as what id more) (under_id what id other value)

-- a value that is an i32, and one that is bytes
abbrev pub as_i32 : Tree → Option ℤ
as_i32 (of_i32 n) = Some n
as_i32 _ = None

abbrev pub as_bytes : Tree → Option (List ℕ)
as_bytes (of_bytes bytes) = Some bytes
as_bytes _ = None

-- a value that fits a type
abbrev pub as_fitting : PlainKind → Tree → Option Tree
as_fitting kind value = if fits_kind kind value then Some value else None

-- the exception that these fields make: text under 1, code under 2
abbrev pub heard_exception : FieldTrees → PlainHeard
heard_exception fields = exception (unwrap_or (last_as as_i32 (pos 2) fields) (pos 0)) (unwrap_or (last_as as_bytes (pos 1) fields) [])

-- what is made of a value, or its fault
abbrev pub heard_meaning : (Tree → PlainHeard) → Result Tree SkewFault → Result PlainHeard HeardFault
heard_meaning made (Ok value) = Ok (made value)
heard_meaning made (Err fault) = Err (Skew fault)

-- what is made of a raw value as it means under its type
abbrev pub heard_value : PlainSchema → (Tree → PlainHeard) → PlainKind → Tree → Result PlainHeard HeardFault
heard_value s made kind raw = heard_meaning made (meaning_within_bounds s kind raw)

-- an exception and its raw value, where a field fits it
abbrev pub thrown_as : PlainField → Option Tree → Option (PlainField × Tree)
thrown_as f (Some raw) = Some (f, raw)
thrown_as f None = None

-- the first of the declared exceptions, which stand by rising id, that a field fits, with the last such field
abbrev pub first_thrown : List PlainField → FieldTrees → Option (PlainField × Tree)
first_thrown [] sent = None
first_thrown (f ∷ fs) sent = option_or (thrown_as f (last_as (as_fitting f.kind) f.id sent)) (first_thrown fs sent)

-- a reply in which neither a result nor an exception stands
abbrev pub heard_nothing : Option PlainKind → PlainHeard
heard_nothing None = void
heard_nothing (Some kind) = missing

-- a reply in which no result stands
abbrev pub heard_thrown : PlainSchema → PlainFunction → Option (PlainField × Tree) → Result PlainHeard HeardFault
heard_thrown s f (Some (t, raw)) = heard_value s (throws t.id) t.kind raw
heard_thrown s f None = Ok (heard_nothing f.result)

-- the last field that is a result of this type; a function without one has none
abbrev pub result_in : Option PlainKind → FieldTrees → Option (PlainKind × Tree)
result_in None sent = None
result_in (Some kind) sent = option_map (λ (raw : Tree). (kind, raw)) (last_as (as_fitting kind) success_id sent)

-- a reply by its result, where it has one, and else by what was thrown
abbrev pub heard_result : PlainSchema → PlainFunction → FieldTrees → Option (PlainKind × Tree) → Result PlainHeard HeardFault
heard_result s f sent (Some (kind, raw)) = heard_value s success kind raw
heard_result s f sent None = heard_thrown s f (first_thrown f.throws sent)

-- a reply of a function; a client asks for none of what its service hasn't, and there nothing would be heard
abbrev pub heard_reply : PlainClient → Option PlainFunction → FieldTrees → Result PlainHeard HeardFault
heard_reply c (Some f) sent = heard_result c.schema f sent (result_in f.result sent)
heard_reply c None sent = Ok missing

-- an answer by its type and the fields of its struct
abbrev pub heard_fields : PlainClient → List ℕ → ℕ → FieldTrees → Result PlainHeard HeardFault
heard_fields c method kind fields =
    if kind == exception_type then Ok (heard_exception fields)
    else heard_reply c (function_named c.schema c.service method) fields

-- an answer by its type and its struct, or the fault of its bytes; what stands behind the struct plays no part
abbrev pub heard_struct : PlainClient → List ℕ → ℕ → Result (Tree × ℕ) WireFault → Result PlainHeard HeardFault
heard_struct c method kind (Ok found) = heard_fields c method kind (fields_in found.0)
heard_struct c method kind (Err fault) = Err (Wire fault)

-- an answer to the call of this method and sequence id
abbrev pub heard_behind : PlainClient → List ℕ → ℤ → List ℕ → MessageHead → Result PlainHeard HeardFault
heard_behind c method id payload head =
    if bytes_eq head.name method then
    (if int_eq head.id id then heard_struct c method head.kind (struct_at (wire_of c.protocol) payload head.behind) else Err (WrongId head.id))
    else Err WrongName

-- an answer, by its head
abbrev pub heard_head : PlainClient → List ℕ → ℤ → List ℕ → Result MessageHead EnvelopeFault → Result PlainHeard HeardFault
heard_head c method id payload (Ok head) = heard_behind c method id payload head
heard_head c method id payload (Err fault) = Err (Head fault)

-- what a payload answers to the call of a method with a sequence id, or why it is no answer to it
abbrev pub heard : PlainClient → List ℕ → ℤ → List ℕ → Result PlainHeard HeardFault
heard c method id payload = heard_head c method id payload (reply_head_at c.protocol payload)
