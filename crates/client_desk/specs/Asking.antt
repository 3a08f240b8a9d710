-- The frame that asks for a call (Thrift RPC specification, 'Request').
use Rattle.std.specs.Prelude.{◌≡◌, ⊤, ℕ, ℤ, ◌≤◌, ◌&&◌, nat_le, is_ok, Bool, if◌then◌else◌, List, ◌∷◌, ◌++◌, length, Option, Some, None, Result, Ok, Err}
use Rattle.host_model.specs.Frames.{frame}
use Rattle.limits.specs.Limits.{most_levels, most_values}
use Rattle.envelope.specs.declared.head.Protocol.{Protocol}
use Rattle.envelope.specs.Said.{call, call_without_reply}
use Rattle.envelope.specs.Spelling.{head_text}
use Rattle.schema.specs.LookUp.{function_named}
use Rattle.schema.specs.PlainKind.{kind_struct}
use Rattle.schema.specs.PlainSchema.{PlainFunction, PlainSchema}
use Rattle.struct_skew.specs.Projection.{projection}
use Rattle.struct_skew.specs.TidyTests.{is_tidy}
use Rattle.struct_skew.specs.WrittenTests.{may_be_written}
use Rattle.thrift_value.specs.declared.tag.Tag.TheVariants.{Struct}
use Rattle.thrift_value.specs.Measures.{count_of, depth_of}
use Rattle.thrift_value.specs.Sizes.{HasSmallSizes}
use Rattle.thrift_value.specs.Tags.{tag_of}
use Rattle.thrift_value.specs.Tidy.{IsTidy}
use Rattle.thrift_value.specs.Tree.{Tree}
use Rattle.wire_model.specs.Encoder.{text}
use Rattle.call_model.specs.Replies.{encoder_of}
use Rattle.client_desk.specs.Clients.{PlainClient}
use Rattle.client_desk.specs.declared.ask_fault.AskFault.{AskFault}
use Rattle.client_desk.specs.declared.ask_fault.AskFault.TheVariants.{NoMethod, Unfit, TooLarge, NoMemory}

-- the name of a message: the method's, behind the service's and `:` where these stand in front of methods (Thrift: TMultiplexedProtocol)
abbrev pub asked_name : PlainClient → List ℕ → List ℕ
asked_name c method = if c.named then c.name ++ (58 ∷ method) else method

-- the type of a message that asks for a call
abbrev pub asked_type : PlainFunction → ℕ
asked_type f = if f.oneway then call_without_reply else call

-- the payload of a message of this name: a head, and the arguments as they are written
unfoldable pub call_message : Protocol → List ℕ → PlainFunction → Tree → ℤ → List ℕ
call_message protocol name f args id = head_text protocol (record { name = name; kind = asked_type f; id = id }) ++ text (encoder_of protocol) args

-- the payload that asks for a method's call
abbrev pub asked_payload : PlainClient → PlainFunction → List ℕ → Tree → ℤ → List ℕ
asked_payload c f method args id = call_message c.protocol (asked_name c method) f args id

-- a value has at most 64 levels and 4,000,000 values
abbrev pub is_small : Tree → Bool
is_small args = nat_le (depth_of args) most_levels && nat_le (count_of args) most_values

-- arguments may go out: they are tidy, of at most 64 levels and 4,000,000 values, of the type of their struct, and have a projection on it
unfoldable pub may_go_out : PlainSchema → ℕ → Tree → Bool
may_go_out s which args =
    is_tidy args && (is_small args && (may_be_written s.structs (kind_struct which) args && is_ok (projection s which args)))

-- what a protocol may write
pub record GoesOut (args : Tree) : Type 0 where
  pub is_struct : tag_of args ≡ Struct
  pub tidy : IsTidy args
  pub depth : depth_of args ≤ most_levels
  pub count : count_of args ≤ most_values
  pub sizes : HasSmallSizes args

-- a payload that is not too long, as a frame
abbrev pub frame_within : ℕ → List ℕ → Result (List ℕ) AskFault
frame_within most payload = if nat_le (length payload) most then Ok (frame payload) else Err TooLarge

-- the frame that asks for a function's call
abbrev pub asked_of_function : PlainClient → List ℕ → Tree → ℤ → Option PlainFunction → Result (List ℕ) AskFault
asked_of_function c method args id None = Err NoMethod
asked_of_function c method args id (Some f) =
    if may_go_out c.schema f.args args then frame_within c.max_frame (asked_payload c f method args id) else Err Unfit

-- the frame that asks for a method's call, or why there is none
abbrev pub asked_frame : PlainClient → List ℕ → Tree → ℤ → Result (List ℕ) AskFault
asked_frame c method args id = asked_of_function c method args id (function_named c.schema c.service method)

-- the fault is the one that comes first; want of memory is free
abbrev pub AskFaultsOrNoMemory : {Y : Type 0} → AskFault → Result Y AskFault → Type 0
AskFaultsOrNoMemory NoMemory meant = ⊤
AskFaultsOrNoMemory fault meant = meant ≡ Err fault

-- what was answered, seen by view, is what is meant
abbrev pub AsksOrNoMemory : {X Y : Type 0} → (X → Y) → Result X AskFault → Result Y AskFault → Type 0
AsksOrNoMemory view (Ok x) meant = meant ≡ Ok (view x)
AsksOrNoMemory view (Err fault) meant = AskFaultsOrNoMemory fault meant
