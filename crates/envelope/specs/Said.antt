-- What a message's head says (Thrift binary and compact protocol, 'Message').
use Rattle.std.specs.Prelude.{◌≡◌, ◌<◌, ◌^◌, ◌⊎◌, ℕ, ℤ, List, All, length, FitsSigned}
use Rattle.std.specs.Int.{w32}
use Rattle.envelope.specs.declared.head.Protocol.{Protocol}
use Rattle.envelope.specs.declared.head.Protocol.TheVariants.{Binary, Compact}

-- the method's name, the message's type, and the sequence id
pub record Said : Type 0 where
  pub name : List ℕ
  pub kind : ℕ
  pub id : ℤ

-- how many types a head has room for: a byte of them, or three bits
abbrev pub type_limit : Protocol → ℕ
type_limit Binary = 256
type_limit Compact = 8

-- each number fits its place: the name has a length of 31 bits, the sequence id has 32 bits, and the head has room for the type
pub record FitsHead (protocol : Protocol) (said : Said) : Type 0 where
  pub name : length said.name < 2 ^ 31
  pub bytes : All (λ b. b < 256) said.name
  pub kind : said.kind < type_limit protocol
  pub id : FitsSigned w32 said.id

-- the type of a call
abbrev pub call : ℕ
call = 1

-- the type of a call without a reply
abbrev pub call_without_reply : ℕ
call_without_reply = 4

-- the types that a host takes
abbrev pub IsCall : ℕ → Type 0
IsCall kind = (kind ≡ call) ⊎ (kind ≡ call_without_reply)

-- the type of a reply
abbrev pub reply : ℕ
reply = 2

-- the type of an exception
abbrev pub exception : ℕ
exception = 3

-- the types of what answers a call
abbrev pub IsReply : ℕ → Type 0
IsReply kind = (kind ≡ reply) ⊎ (kind ≡ exception)
