-- What `call` asks of a port: `IDL PROTOCOL NAME METHOD ARGS`, with the option `--to PORT` and the flag `--multiplexed`.
use Rattle.std.specs.Prelude.{ℕ, Bool, true, false, List, [], ◌∷◌, codes, Option, None, option_map, option_and_then}
use Rattle.envelope.specs.declared.head.Protocol.{Protocol}
use Rattle.command_line.specs.Numbers.{one_number}
use Rattle.command_line.specs.Options.{Sayings}
use Rattle.command_line.specs.Served.{file_of_word, protocol_of_word}

-- the name of the IDL's file, the protocol, the name of the service, the method, the text of the arguments, whether the service's name stands in front of the
-- method, and the port
pub record PlainAsking : Type 0 where
  pub idl : List ℕ
  pub protocol : Protocol
  pub name : List ℕ
  pub method : List ℕ
  pub args : List ℕ
  pub multiplexed : Bool
  pub port : ℕ

-- what is asked, by a word each; the service, the method and the arguments may be any words that are no options
abbrev pub asking_with : (idl protocol name method args : List ℕ) → Bool → ℕ → Option PlainAsking
asking_with idl protocol name method args multiplexed port =
    option_and_then (λ (file : List ℕ). option_map (λ (spelling : Protocol).
    record { idl = file; protocol = spelling; name = name; method = method; args = args; multiplexed = multiplexed; port = port })
    (protocol_of_word protocol)) (file_of_word idl)

-- what is asked, by the words in their places
abbrev pub asking_by : List (List ℕ) → Bool → ℕ → Option PlainAsking
asking_by (idl ∷ protocol ∷ name ∷ method ∷ args ∷ []) multiplexed port = asking_with idl protocol name method args multiplexed port
asking_by _ multiplexed port = None

-- a flag stands among the words
abbrev pub is_set : List (List ℕ) → Bool
is_set [] = false
is_set _ = true

-- what is asked, by what is said
abbrev pub asking_said : Sayings → Option PlainAsking
asking_said said =
    option_and_then (λ (port : ℕ). asking_by (said []) (is_set (said (codes "multiplexed"))) port) (one_number 1 65535 (said (codes "to")))
