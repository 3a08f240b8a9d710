-- The messages in a stream without frames (Thrift binary protocol, 'Message', 'Struct').
use Rattle.std.specs.Prelude.{◌≡◌, ◌≢◌, ◌≤◌, ℕ, zero, suc, List, [], ◌∷◌, ◌++◌, length, take, drop}
use Rattle.std.specs.List.{flat_map, AllByRecursion}
use Rattle.thrift_value.specs.Tree.{Tree}
use Rattle.envelope.specs.declared.head.Protocol.TheVariants.{Binary}
use Rattle.envelope.specs.Said.{Said, IsCall}
use Rattle.envelope.specs.Spelling.{IsSpelling}
use Rattle.wire_model.specs.Format.{Spells}
use Rattle.wire_model.specs.Place.{IsWithinBounds}
use Rattle.binary_codec.specs.Spelling.{binary_format}
use Rattle.stream_model.specs.declared.fault.StreamFault.{StreamFault}
use Rattle.stream_model.specs.Progress.{MessageProgress, Wants, Whole, Refused, message_progress}

-- the bytes are a message: a call's head and a struct, of at most so many bytes together
pub record IsMessage (max : ℕ) (bytes : List ℕ) : Type 0 where
  pub said : Said
  pub head : List ℕ
  pub body : List ℕ
  pub args : Tree
  pub whole : bytes ≡ head ++ body
  pub spelled : IsSpelling Binary said head
  pub call : IsCall said.kind
  pub struct_ : Spells binary_format args body
  pub within : IsWithinBounds args
  pub few : length bytes ≤ max

-- each of these is one
abbrev pub AreMessages : ℕ → List (List ℕ) → Type 0
AreMessages max messages = AllByRecursion (IsMessage max) messages

-- no whole message stands at the front of the bytes
abbrev pub IsMessageRest : ℕ → List ℕ → Type 0
IsMessageRest max bytes = (message more : List ℕ) → IsMessage max message → bytes ≡ message ++ more → ⊥

-- the bytes of a list of messages, one behind the other
abbrev pub joined_messages : List (List ℕ) → List ℕ
joined_messages messages = flat_map (λ message. message) messages

-- the bytes are these messages, one behind the other, and a rest with no whole message at its front
pub record Messages (max : ℕ) (bytes : List ℕ) (messages : List (List ℕ)) (rest : List ℕ) : Type 0 where
  pub whole : bytes ≡ joined_messages messages ++ rest
  pub each : AreMessages max messages
  pub no_more : IsMessageRest max rest

-- a rest has a fault where a byte of it has come and, whatever follows, the fault is there, behind its bytes up to a place
abbrev pub HasStreamFaultAt : ℕ → List ℕ → ℕ → StreamFault → Type 0
HasStreamFaultAt max rest at fault = (rest ≢ []) × (message_progress max rest ≡ Refused at fault)

abbrev pub HasStreamFault : ℕ → List ℕ → StreamFault → Type 0
HasStreamFault max rest fault = (at : ℕ) × HasStreamFaultAt max rest at fault

abbrev pub HasNoStreamFault : ℕ → List ℕ → Type 0
HasNoStreamFault max rest = (fault : StreamFault) → HasStreamFault max rest fault → ⊥

-- the split, computed: a message in front is cut off, as long as there is one
abbrev pub split_next : (List ℕ → List (List ℕ) × List ℕ) → List ℕ → MessageProgress → List (List ℕ) × List ℕ
split_next others bytes (Whole n) = (take n bytes ∷ (others (drop n bytes)).0, (others (drop n bytes)).1)
split_next others bytes (Wants _) = ([], bytes)
split_next others bytes (Refused _ _) = ([], bytes)

abbrev pub split_by : ℕ → ℕ → List ℕ → List (List ℕ) × List ℕ
split_by zero max bytes = ([], bytes)
split_by (suc most) max bytes = split_next (split_by most max) bytes (message_progress max bytes)

-- each message takes a byte at least, so there are at most as many as bytes
abbrev pub split_of : ℕ → List ℕ → List (List ℕ) × List ℕ
split_of max bytes = split_by (length bytes) max bytes
