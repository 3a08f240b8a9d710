-- A message is longer than its name.
use Rattle.std.proofs.Common.{◌≡◌, ℕ, ℤ, ◌<◌, ◌≤◌, if◌then◌else◌, List, length, of_z, Ok, Err, ap, arith}
use Rattle.std.specs.Int.{w32, to_be_bytes}
use Rattle.std.proofs.lemmas.Bool.{lt-leb}
use Rattle.std.proofs.lemmas.List.{length-append}
use Rattle.host_model.specs.Frames.{frame}
use Rattle.envelope.specs.declared.head.Protocol.{Protocol}
use Rattle.envelope.specs.declared.head.Protocol.TheVariants.{Binary, Compact}
use Rattle.envelope.specs.Said.{Said}
use Rattle.envelope.specs.Spelling.{compact_id, compact_name, head_text}
use Rattle.schema.specs.PlainSchema.{PlainFunction}
use Rattle.thrift_value.specs.Tree.{Tree}
use Rattle.wire_model.specs.Encoder.{text}
use Rattle.call_model.specs.Replies.{encoder_of}
use Rattle.client_desk.specs.Asking.{asked_type, call_message, frame_within}
use Rattle.client_desk.specs.declared.ask_fault.AskFault.TheVariants.{TooLarge}

compact_name_longer : (name : List ℕ) → length name ≤ length (compact_name name)
unfolding compact_name
compact_name_longer name = omega (arith, length-append {A = ℕ})

head_longer : (p : Protocol) (said : Said) → length said.name ≤ length (head_text p said)
head_longer Binary said = omega (arith, length-append said.name (to_be_bytes w32 (of_z w32 said.id)))
head_longer Compact said = omega (arith, compact_name_longer said.name, length-append (compact_id said.id) (compact_name said.name))

pub call_longer : (p : Protocol) (name : List ℕ) (f : PlainFunction) (args : Tree) (id : ℤ) → length name ≤ length (call_message p name f args id)
unfolding call_message
call_longer p name f args id =
    let said : Said = record { name = name; kind = asked_type f; id = id } in
    omega (arith, head_longer p said, length-append (head_text p said) (text (encoder_of p) args))

-- a message whose name alone is too long is too long
pub too_long : (most : ℕ) (p : Protocol) (name : List ℕ) (f : PlainFunction) (args : Tree) (id : ℤ) → most < length name
    → frame_within most (call_message p name f args id) ≡ Err TooLarge
too_long most p name f args id long =
    let payload = call_message p name f args id in
    ap (λ t. if t then Ok (frame payload) else Err TooLarge) (lt-leb (length payload) most (omega (arith, long, call_longer p name f args id)))
