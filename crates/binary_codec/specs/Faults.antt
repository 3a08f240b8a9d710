-- The first faults of the parts of a value in the binary protocol: which bytes, of all that are left, have which.
use Rattle.std.specs.Prelude.{⊤, ◌≡◌, ◌<◌, ◌≤◌, ◌^◌, ◌⊎◌, ℕ, negsuc, List, [], ◌∷◌, length, FitsSigned}
use Rattle.std.specs.Int.{w32}
use Rattle.wire_num.specs.Fixed.{unsigned_bytes, signed_bytes}
use Rattle.thrift_value.specs.declared.tag.Tag.{Tag}
use Rattle.thrift_value.specs.declared.tag.Tag.TheVariants as tags
use Rattle.thrift_value.specs.declared.wire_fault.WireFault.{WireFault}
use Rattle.thrift_value.specs.declared.wire_fault.WireFault.TheVariants.{Short, BadType, BadSize}
use Rattle.wire_model.specs.Format.{FaultTable}
use Rattle.wire_model.specs.Pieces.{Begins}
use Rattle.binary_codec.specs.Codes.{code_of}

-- the code of no tag
abbrev pub IsNoCode : ℕ → Type 0
IsNoCode code = (tag : Tag) → code ≡ code_of tag → ⊥

-- a header: cut off, or with a type code that isn't in the table (Thrift binary protocol, 'Struct')
abbrev pub HasHeaderFault : WireFault → List ℕ → Type 0
HasHeaderFault Short bytes = (bytes ≡ []) ⊎ ((tag : Tag) × Begins (code_of tag ∷ []) (λ behind. length behind < 2) bytes)
HasHeaderFault (BadType code) bytes = IsNoCode code × (code ≡ 0 → ⊥) × Begins (code ∷ []) (λ _. ⊤) bytes
HasHeaderFault _ bytes = ⊥

-- how many bytes a number or a bool has (Thrift binary protocol, 'Integer encoding', 'Double encoding', 'Boolean encoding')
abbrev pub scalar_len : Tag → ℕ
scalar_len tags.I16 = 2
scalar_len tags.I32 = 4
scalar_len tags.I64 = 8
scalar_len tags.Double = 8
scalar_len tags.Uuid = 16
scalar_len _ = 1

-- a number or a bool: cut off
abbrev pub HasScalarFault : Tag → WireFault → List ℕ → Type 0
HasScalarFault tag Short bytes = length bytes < scalar_len tag
HasScalarFault tag _ bytes = ⊥

-- a length or size: cut off, or above the number of bytes behind it; or below 0
abbrev pub HasSizeFault : WireFault → List ℕ → Type 0
HasSizeFault Short bytes =
    (length bytes < 4) ⊎ ((size : ℕ) × (size < 2 ^ 31) × Begins (unsigned_bytes w32 size) (λ behind. length behind < size) bytes)
HasSizeFault BadSize bytes = (n : ℕ) × FitsSigned w32 (negsuc n) × Begins (signed_bytes w32 (negsuc n)) (λ _. ⊤) bytes
HasSizeFault _ bytes = ⊥

-- the header of a list or set: cut off before its size, or the fault of its size, or, where the size isn't 0 and so many bytes
-- follow, a type code that isn't in the table (Thrift binary protocol, 'List and Set')
abbrev pub HasItemsFault : WireFault → List ℕ → Type 0
HasItemsFault Short bytes = (bytes ≡ []) ⊎ ((code : ℕ) × Begins (code ∷ []) (HasSizeFault Short) bytes)
HasItemsFault (BadType code) bytes =
    IsNoCode code × (size : ℕ) × (1 ≤ size) × (size < 2 ^ 31) × Begins (code ∷ unsigned_bytes w32 size) (λ behind. size ≤ length behind) bytes
HasItemsFault fault bytes = (code : ℕ) × Begins (code ∷ []) (HasSizeFault fault) bytes

-- The header of a map: the same, and the code of the keys is judged before that of the values (Thrift binary protocol, 'Map')
abbrev pub HasPairsFault : WireFault → List ℕ → Type 0
HasPairsFault Short bytes = (length bytes < 2) ⊎ ((key value : ℕ) × Begins (key ∷ value ∷ []) (HasSizeFault Short) bytes)
HasPairsFault (BadType code) bytes =
    IsNoCode code × (size : ℕ) × (1 ≤ size) × (size < 2 ^ 31) × (((value : ℕ) × Begins (code ∷ value ∷ unsigned_bytes w32 size) (λ behind. size ≤ length behind) bytes)
    ⊎ ((key : Tag) × Begins (code_of key ∷ code ∷ unsigned_bytes w32 size) (λ behind. size ≤ length behind) bytes))
HasPairsFault fault bytes = (key value : ℕ) × Begins (key ∷ value ∷ []) (HasSizeFault fault) bytes

-- the table of all of them
abbrev pub binary_faults : FaultTable
binary_faults = record { field = λ last. HasHeaderFault; scalar = HasScalarFault; span = HasSizeFault; items = HasItemsFault; pairs = HasPairsFault }
