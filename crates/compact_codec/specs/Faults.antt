-- The first faults of the parts of a value in the compact protocol: which bytes, of all that are left, have which.
use Rattle.std.specs.Prelude.{⊤, ◌≡◌, ◌<◌, ◌≤◌, ◌+◌, ◌*◌, ◌^◌, ◌⊎◌, ◌+ℤ◌, ◌≤ℤ◌, ℕ, ℤ, pos, List, [], ◌∷◌, length, take}
use Rattle.std.specs.Int.{w32}
use Rattle.wire_num.specs.Varint.{IsVarint, HaveNoLast}
use Rattle.thrift_value.specs.declared.tag.Tag.{Tag}
use Rattle.thrift_value.specs.declared.tag.Tag.TheVariants as tags
use Rattle.thrift_value.specs.declared.wire_fault.WireFault.{WireFault}
use Rattle.thrift_value.specs.declared.wire_fault.WireFault.TheVariants.{Short, BadType, BadSize, LongVarint, FieldRange}
use Rattle.wire_model.specs.Format.{FaultTable}
use Rattle.wire_model.specs.Pieces.{Begins}

-- the code of no tag: 0, or above that of a uuid
abbrev pub IsFreeCode : ℕ → Type 0
IsFreeCode code = (code ≡ 0) ⊎ ((13 < code) × (code < 16))

-- the code of a tag
abbrev pub IsTakenCode : ℕ → Type 0
IsTakenCode code = (0 < code) × (code ≤ 13)

-- a varint of at most so many bytes: cut off, or with no end among so many (Thrift compact protocol, 'Integer encoding')
abbrev pub HasVarintFault : ℕ → WireFault → List ℕ → Type 0
HasVarintFault most Short bytes = (length bytes < most) × HaveNoLast bytes
HasVarintFault most LongVarint bytes = (most ≤ length bytes) × HaveNoLast (take most bytes)
HasVarintFault most _ bytes = ⊥

-- a header: nothing is there; its byte has a code that isn't in the table, or, a code and a delta, by which the id is above
-- 32767; or a code alone, and the id behind it is at fault (Thrift compact protocol, 'Struct')
abbrev pub HasFieldFault : ℤ → WireFault → List ℕ → Type 0
HasFieldFault last (BadType code) bytes =
    IsFreeCode code × ((delta : ℕ) × (delta < 16) × (0 < delta + code) × Begins ((16 * delta + code) ∷ []) (λ _. ⊤) bytes)
HasFieldFault last FieldRange bytes =
    (delta code : ℕ) × (0 < delta) × (delta < 16) × IsTakenCode code × (pos (2 ^ 15) ≤ℤ (last +ℤ pos delta))
    × Begins ((16 * delta + code) ∷ []) (λ _. ⊤) bytes
HasFieldFault last Short bytes = (bytes ≡ []) ⊎ ((code : ℕ) × IsTakenCode code × Begins (code ∷ []) (HasVarintFault 5 Short) bytes)
HasFieldFault last fault bytes = (code : ℕ) × IsTakenCode code × Begins (code ∷ []) (HasVarintFault 5 fault) bytes

-- a number or a bool: its varint is at fault, or it is cut off (Thrift compact protocol, 'Integer encoding', 'Double encoding',
-- 'Boolean encoding')
abbrev pub HasNumberFault : Tag → WireFault → List ℕ → Type 0
HasNumberFault tags.I16 fault bytes = HasVarintFault 5 fault bytes
HasNumberFault tags.I32 fault bytes = HasVarintFault 5 fault bytes
HasNumberFault tags.I64 fault bytes = HasVarintFault 10 fault bytes
HasNumberFault tags.Double Short bytes = length bytes < 8
HasNumberFault tags.Uuid Short bytes = length bytes < 16
HasNumberFault tag Short bytes = length bytes < 1
HasNumberFault tag _ bytes = ⊥

-- the bytes begin with a varint of such a number, and what stands behind it is such
pub record BeginsWithSize (size : ℕ) (IsSuch : List ℕ → Type 0) (bytes : List ℕ) : Type 0 where
  pub text : List ℕ
  pub sized : IsVarint w32 size text
  pub begins : Begins text IsSuch bytes

-- a length or size: its varint is at fault, or it is 2^31 or more, or above the number of bytes behind it
abbrev pub HasLengthFault : WireFault → List ℕ → Type 0
HasLengthFault Short bytes =
    HasVarintFault 5 Short bytes ⊎ ((size : ℕ) × (size < 2 ^ 31) × BeginsWithSize size (λ behind. length behind < size) bytes)
HasLengthFault BadSize bytes = (size : ℕ) × (2 ^ 31 ≤ size) × BeginsWithSize size (λ _. ⊤) bytes
HasLengthFault fault bytes = HasVarintFault 5 fault bytes

-- the size of a list or set in a header's byte with this code, or behind the byte
abbrev pub IsSizedHeader : ℕ → ℕ → List ℕ → Type 0
IsSizedHeader code size text =
    ((size < 15) × (text ≡ (16 * size + code) ∷ [])) ⊎ ((behind : List ℕ) × IsVarint w32 size behind × (text ≡ (240 + code) ∷ behind))

-- the header of a list or set: nothing is there, or fewer bytes than the size in its byte says; the fault of the size behind
-- it; or, where the size isn't 0 and so many bytes follow, a code that isn't in the table (Thrift compact protocol, 'List and Set')
abbrev pub HasListFault : WireFault → List ℕ → Type 0
HasListFault Short bytes =
    (bytes ≡ []) ⊎ ((size code : ℕ) × (size < 15) × (code < 16) × Begins ((16 * size + code) ∷ []) (λ behind. length behind < size) bytes)
    ⊎ ((code : ℕ) × (code < 16) × Begins ((240 + code) ∷ []) (HasLengthFault Short) bytes)
HasListFault (BadType code) bytes =
    IsFreeCode code × (size : ℕ) × (1 ≤ size) × (size < 2 ^ 31)
    × ((text : List ℕ) × IsSizedHeader code size text × Begins text (λ behind. size ≤ length behind) bytes)
HasListFault fault bytes = (code : ℕ) × (code < 16) × Begins ((240 + code) ∷ []) (HasLengthFault fault) bytes

-- in a byte of two codes this is the first that no tag has: the key's, or the value's behind a key's that a tag has
abbrev pub HasFreeCode : ℕ → ℕ → Type 0
HasFreeCode code b = IsFreeCode code × (((value : ℕ) × (value < 16) × (b ≡ 16 * code + value)) ⊎ ((key : ℕ) × IsTakenCode key × (b ≡ 16 * key + code)))

-- the header of a map: the fault of its size; or, where that isn't 0 and so many bytes follow, the byte of the codes among them,
-- a code that isn't in the table (Thrift compact protocol, 'Map')
abbrev pub HasMapFault : WireFault → List ℕ → Type 0
HasMapFault (BadType code) bytes =
    (size b : ℕ) × (1 ≤ size) × (size < 2 ^ 31) × HasFreeCode code b
    × BeginsWithSize size (λ behind. (size ≤ length behind) × Begins (b ∷ []) (λ _. ⊤) behind) bytes
HasMapFault fault bytes = HasLengthFault fault bytes

-- the table of all of them
abbrev pub compact_faults : FaultTable
compact_faults = record { field = HasFieldFault; scalar = HasNumberFault; span = HasLengthFault; items = HasListFault; pairs = HasMapFault }
