-- The clients of the worked examples, and what answers them.
use Rattle.std.specs.Prelude.{ℕ, Bool, false, List, ◌∷◌, ◌++◌, codes, length}
use Rattle.envelope.specs.declared.head.Protocol.{Protocol}
use Rattle.envelope.specs.declared.head.Protocol.TheVariants.{Binary, Compact}
use Rattle.call_model.specs.Examples.{tutorial_schema, short_head}
use Rattle.client_desk.specs.Clients.{PlainClient}

-- a client of the tutorial's calculator, whose calls have at most so many bytes
abbrev pub calculator_client : Protocol → Bool → ℕ → PlainClient
calculator_client protocol named most =
    record { schema = tutorial_schema; service = 0; name = codes "Calculator"; protocol = protocol; named = named; max_frame = most }

-- who hears
abbrev pub hears_binary : PlainClient
hears_binary = calculator_client Binary false 100

abbrev pub hears_compact : PlainClient
hears_compact = calculator_client Compact false 100

-- a reply to `add` with the sequence id 1, by the bytes of its struct
abbrev pub add_reply : List ℕ → List ℕ
add_reply fields = short_head 2 (codes "add") 1 ++ fields

-- an exception that answers it
abbrev pub add_exception : List ℕ → List ℕ
add_exception fields = short_head 3 (codes "add") 1 ++ fields

-- the same in the compact protocol
abbrev pub compact_add_reply : List ℕ → List ℕ
compact_add_reply fields = (130 ∷ 65 ∷ 1 ∷ 3 ∷ codes "add") ++ fields

-- a field of bytes with a small id, of less than 256 bytes
abbrev pub sent_text : ℕ → List ℕ → List ℕ
sent_text id text = 11 ∷ 0 ∷ id ∷ 0 ∷ 0 ∷ 0 ∷ length text ∷ text
