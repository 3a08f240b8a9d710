-- What more than one protocol reads, and says of bytes.
use Rattle.std.specs.Prelude.{◌≡◌, ℕ, List, ◌++◌, length, Option, Some, None, Ok, Err, nat_le, if◌then◌else◌}
use Rattle.wire_num.specs.Decoding.{decode_bytes, decode_byte}
use Rattle.thrift_value.specs.declared.tag.Tag.{Tag}
use Rattle.thrift_value.specs.declared.wire_fault.WireFault.TheVariants.{Short, BadType}
use Rattle.wire_model.specs.Decoder.{Decoder, give, fail, uncounted}

-- a byte; it is no value of its own
abbrev pub byte : Decoder ℕ
byte unread = uncounted decode_byte unread

-- so many bytes
abbrev pub some_bytes : ℕ → Decoder (List ℕ)
some_bytes size unread = uncounted (decode_bytes size) unread

-- no more than the bytes that are left, or Short
abbrev pub within_room : ℕ → Decoder ℕ
within_room n rest = if nat_le n (length rest.bytes) then Ok (n, rest) else Err Short

-- the tag of a code, or BadType
abbrev pub tag_or_fault : ℕ → Option Tag → Decoder Tag
tag_or_fault code (Some tag) = give tag
tag_or_fault code None = fail (BadType code)

-- these bytes stand in front, and what stands behind them is such
pub record Begins (front : List ℕ) (IsSuch : List ℕ → Type 0) (bytes : List ℕ) : Type 0 where
  pub behind : List ℕ
  pub whole : bytes ≡ front ++ behind
  pub such : IsSuch behind
