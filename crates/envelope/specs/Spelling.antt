-- The bytes of a head: strict, old or compact, and as it is written (Thrift binary and compact protocol, 'Message').
use Rattle.std.specs.Prelude.{◌≡◌, ◌<◌, ◌⊎◌, ◌+◌, ◌*◌, ◌%◌, ℕ, ℤ, List, [], ◌∷◌, ◌++◌, length, pos}
use Rattle.std.specs.Int.{w32, cast_unsigned}
use Rattle.wire_num.specs.Fixed.{signed_bytes}
use Rattle.wire_num.specs.Varint.{IsVarint, varint_bytes}
use Rattle.envelope.specs.declared.head.Protocol.{Protocol}
use Rattle.envelope.specs.declared.head.Protocol.TheVariants.{Binary, Compact}
use Rattle.envelope.specs.Said.{Said, FitsHead}

-- a name: its length and its bytes
abbrev pub name_text : List ℕ → List ℕ
name_text name = signed_bytes w32 (pos (length name)) ++ name

-- the first byte of the version of a strict head, which tells it from an old one
abbrev pub strict_mark : ℕ
strict_mark = 128

-- the second byte of the version of a strict head
abbrev pub strict_version : ℕ
strict_version = 1

-- strict: the version, a byte that says nothing, the type, the name, the sequence id
abbrev pub strict_text : ℕ → Said → List ℕ
strict_text unused said =
    (strict_mark ∷ strict_version ∷ unused ∷ said.kind ∷ []) ++ (name_text said.name ++ signed_bytes w32 said.id)

-- old: the name, the type, the sequence id
abbrev pub old_text : Said → List ℕ
old_text said = name_text said.name ++ (said.kind ∷ signed_bytes w32 said.id)

-- the bytes spell the head in its strict form, with any byte for the one that says nothing
pub record IsStrict (said : Said) (text : List ℕ) : Type 0 where
  pub unused : ℕ
  pub byte : unused < 256
  pub is : text ≡ strict_text unused said

-- the bytes spell the head in one of its forms
pub record IsBinarySpelling (said : Said) (text : List ℕ) : Type 0 where
  pub range : FitsHead Binary said
  pub form : IsStrict said text ⊎ (text ≡ old_text said)

-- the first byte of a compact head
abbrev pub compact_mark : ℕ
compact_mark = 130

-- the version of a compact head, five bits of its second byte
abbrev pub compact_version : ℕ
compact_version = 1

-- compact: the mark, a byte of type and version, and a varint each of the sequence id and of the name's length, then the name
abbrev pub compact_form : Said → List ℕ → List ℕ → List ℕ
compact_form said id size = compact_mark ∷ (32 * said.kind + compact_version) ∷ (id ++ (size ++ said.name))

-- the bytes spell the head in the compact protocol, with its varints in any of their forms
pub record IsCompactSpelling (said : Said) (text : List ℕ) : Type 0 where
  pub range : FitsHead Compact said
  pub id : List ℕ
  pub size : List ℕ
  pub id_spelled : IsVarint w32 (cast_unsigned w32 said.id) id
  pub size_spelled : IsVarint w32 (length said.name) size
  pub is : text ≡ compact_form said id size

-- the bytes spell the head in this protocol
abbrev pub IsSpelling : Protocol → Said → List ℕ → Type 0
IsSpelling Binary said text = IsBinarySpelling said text
IsSpelling Compact said text = IsCompactSpelling said text

-- a sequence id as it is written in the compact protocol: the shortest varint of its 32 bits
unfoldable pub compact_id : ℤ → List ℕ
compact_id id = varint_bytes w32 (cast_unsigned w32 id)

-- a name as it is written in the compact protocol: its length as the shortest varint, and its bytes
unfoldable pub compact_name : List ℕ → List ℕ
compact_name name = varint_bytes w32 (length name) ++ name

-- the spelling that is written in the compact protocol. Own choice: of a type above 7 the lowest three bits
abbrev pub compact_text : Said → List ℕ
compact_text said = compact_mark ∷ (32 * (said.kind % 8) + compact_version) ∷ (compact_id said.id ++ compact_name said.name)

-- the spelling that is written; in the binary protocol the strict one, with 0 for the byte that says nothing
abbrev pub head_text : Protocol → Said → List ℕ
head_text Binary said = strict_text 0 said
head_text Compact said = compact_text said
