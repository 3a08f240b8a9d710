-- A call that is asked for at a port, and the frame that it sends.
use Rattle.std.specs.Prelude.{◌≡◌, ℕ, ℤ, pos, not, is_some, Bool, true, List, Option, None, Some, IsErr, Ok, Err, if◌then◌else◌}
use Rattle.std.specs.Option.{option_map_or}
use Rattle.limits.specs.Limits.{usual_payload}
use Rattle.call_model.specs.Names.{separator_of}
use Rattle.client_desk.specs.Asking.{asked_frame}
use Rattle.client_desk.specs.Clients.{PlainClient}
use Rattle.envelope.specs.declared.head.Protocol.{Protocol}
use Rattle.schema.specs.LookUp.{function_named, service_named}
use Rattle.schema.specs.PlainSchema.{PlainFunction, PlainSchema}
use Rattle.thrift_value.specs.Tree.{Tree}
use Rattle.value_text.specs.Reading.{reading_of}
use Rattle.port_calls.specs.declared.fault.CallRefusal.{CallRefusal}
use Rattle.port_calls.specs.declared.fault.CallRefusal.TheVariants.{NoService, ArgsText, Unasked}

-- a call that is asked for: the schema, the protocol, the service's name, the method, the text of its arguments, whether the service's name stands in front of the method's, and
-- the port
pub record PlainPortCall : Type 0 where
  pub schema : PlainSchema
  pub protocol : Protocol
  pub name : List ℕ
  pub method : List ℕ
  pub args : List ℕ
  pub multiplexed : Bool
  pub port : ℕ

-- the sequence id of a call
abbrev pub call_id : ℤ
call_id = pos 1

-- the longest payload of a call and of its reply, in bytes
abbrev pub longest_call : ℕ
longest_call = usual_payload

-- the service that the main file knows by a name; by a name with a separator it knows none
abbrev pub service_known : PlainSchema → List ℕ → Option ℕ
service_known schema name = if is_some (separator_of name) then None else service_named schema name

-- the service of a call
abbrev pub service_called : PlainPortCall → Option ℕ
service_called a = service_known a.schema a.name

-- who calls a service
abbrev pub caller : PlainPortCall → ℕ → PlainClient
caller a service =
    record { schema = a.schema; service = service; name = a.name; protocol = a.protocol; named = a.multiplexed; max_frame = longest_call }

-- What is sent for a call: its service is found, its arguments are a value, and these have a frame.
pub record IsSent (a : PlainPortCall) : Type 0 where
  pub service : ℕ
  pub args : Tree
  pub frame : List ℕ
  pub is_service : service_called a ≡ Some service
  pub is_args : reading_of a.args ≡ Ok args
  pub is_frame : asked_frame (caller a service) a.method args call_id ≡ Ok frame

-- a function sends a reply
abbrev pub replies : PlainFunction → Bool
replies f = not f.oneway

-- whether a reply of a method of a service is waited for
abbrev pub waits_for : PlainSchema → ℕ → List ℕ → Bool
waits_for schema service method = option_map_or replies (function_named schema service method) true

-- why a call isn't made: the first of these
abbrev pub IsCallRefused : PlainPortCall → CallRefusal → Type 0
IsCallRefused a NoService = service_called a ≡ None
IsCallRefused a ArgsText = (service : ℕ) × (service_called a ≡ Some service) × IsErr (reading_of a.args)
IsCallRefused a (Unasked fault) =
    (service : ℕ) × (args : Tree) × (service_called a ≡ Some service) × (reading_of a.args ≡ Ok args) × (asked_frame (caller a service) a.method args call_id ≡ Err fault)
