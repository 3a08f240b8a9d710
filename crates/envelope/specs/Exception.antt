-- What goes back where a call failed: a head of the type of exceptions, and a struct of the text and the code (Thrift RPC specification,
-- 'Application Exceptions').
use Rattle.std.specs.Prelude.{ℕ, ℤ, List, [], ◌∷◌, ◌++◌}
use Rattle.std.specs.Int.{w32}
use Rattle.wire_num.specs.Fixed.{signed_bytes}
use Rattle.wire_num.specs.Varint.{varint_bytes}
use Rattle.wire_num.specs.Zigzag.{zigzag}
use Rattle.envelope.specs.declared.head.Protocol.{Protocol}
use Rattle.envelope.specs.declared.head.Protocol.TheVariants.{Binary, Compact}
use Rattle.envelope.specs.Said.{exception}
use Rattle.envelope.specs.Spelling.{name_text, compact_name, head_text}

-- what went wrong: for whom to read, and as a code
pub record Failure : Type 0 where
  pub text : List ℕ
  pub code : ℤ

-- Field 1 in the binary protocol, a string: its type, its id, the text's length and the text
abbrev pub binary_text_field : List ℕ → List ℕ
binary_text_field text = 11 ∷ 0 ∷ 1 ∷ name_text text

-- Field 2 in the binary protocol, an i32: its type, its id and the code
abbrev pub binary_code_field : ℤ → List ℕ
binary_code_field code = 8 ∷ 0 ∷ 2 ∷ signed_bytes w32 code

-- Field 1 in the compact protocol: a short header, which is the distance 1 and the type of strings, and the text as a name is spelled
unfoldable pub compact_text_field : List ℕ → List ℕ
compact_text_field text = 24 ∷ compact_name text

-- Field 2 in the compact protocol: a short header, which is the distance 1 and the type of an i32, and the code
unfoldable pub compact_code_field : ℤ → List ℕ
compact_code_field code = 21 ∷ varint_bytes w32 (zigzag code)

-- the struct of a failure: both fields, and the byte that ends a struct
unfoldable pub failure_struct : Protocol → Failure → List ℕ
failure_struct Binary failure = binary_text_field failure.text ++ (binary_code_field failure.code ++ 0 ∷ [])
failure_struct Compact failure = compact_text_field failure.text ++ (compact_code_field failure.code ++ 0 ∷ [])

-- the head of an exception that answers a call of this name and sequence id
unfoldable pub exception_head : Protocol → List ℕ → ℤ → List ℕ
exception_head protocol name id = head_text protocol (record { name = name; kind = exception; id = id })

-- the whole message
abbrev pub exception_text : Protocol → List ℕ → ℤ → Failure → List ℕ
exception_text protocol name id failure = exception_head protocol name id ++ failure_struct protocol failure
