-- Varints: numbers of a variable number of bytes, seven bits in each, the lowest first; the highest bit of a byte says that
-- another one follows (Thrift compact protocol, 'Integer encoding').
use Rattle.std.specs.Prelude.{◌≡◌, ◌<◌, ◌≤◌, ◌+◌, ◌*◌, ◌/◌, ◌%◌, ◌^◌, ℕ, zero, suc, List, [], ◌∷◌, length, All, Ok, Err, nat_lt, if◌then◌else◌}
use Rattle.std.specs.Int.{Width, byte_len}
use Rattle.wire_num.specs.declared.fault.NumFault.TheVariants.{Short, LongVarint}
use Rattle.wire_num.specs.Decoding.{FrontDecoder, decoded_as}

-- the number that groups of seven bits make, the lowest first
abbrev pub group_sum : List ℕ → ℕ
group_sum [] = 0
group_sum (b ∷ more) = b % 128 + 128 * group_sum more

-- the number of a width that they make: the bits above the width don't count
abbrev pub varint_of : Width → List ℕ → ℕ
varint_of width groups = group_sum groups % 2 ^ (8 * byte_len width)

-- the most bytes that a varint of a width may have: 5 at 32 bits, 10 at 64
abbrev pub longest_varint : Width → ℕ
longest_varint width = (8 * byte_len width + 6) / 7

-- each byte says that another one follows, and only the last doesn't
abbrev pub AreGroups : List ℕ → Type 0
AreGroups [] = ⊥
AreGroups (b ∷ []) = b < 128
AreGroups (b ∷ c ∷ more) = (128 ≤ b) × (b < 256) × AreGroups (c ∷ more)

-- these bytes are an encoding of the number, the shortest or a longer one
pub record IsVarint (width : Width) (number : ℕ) (bytes : List ℕ) : Type 0 where
  pub groups : AreGroups bytes
  pub len : length bytes ≤ longest_varint width
  pub spelled : number ≡ varint_of width bytes

-- the groups of a number, as few as it has, and no more than this
abbrev pub groups_of : ℕ → ℕ → List ℕ
groups_of zero number = []
groups_of (suc most) number = if nat_lt number 128 then number ∷ [] else (128 + number % 128) ∷ groups_of most (number / 128)

-- the shortest encoding of a number
abbrev pub varint_bytes : Width → ℕ → List ℕ
varint_bytes width number = groups_of (longest_varint width) number

-- the groups in front, no more than this. LongVarint: that many stand there, and none is the last; Short: there are fewer, and
-- none of them is the last
abbrev pub decode_groups : ℕ → FrontDecoder (List ℕ)
decode_groups zero bytes = Err LongVarint
decode_groups (suc most) [] = Err Short
decode_groups (suc most) (b ∷ bytes) =
    if nat_lt b 128 then Ok (b ∷ [], bytes) else decoded_as (λ groups. b ∷ groups) (decode_groups most bytes)

-- a number of a width
abbrev pub decode_varint : Width → FrontDecoder ℕ
decode_varint width bytes = decoded_as (varint_of width) (decode_groups (longest_varint width) bytes)

-- each of the bytes says that another one follows
abbrev pub HaveNoLast : List ℕ → Type 0
HaveNoLast bytes = All (λ b. 128 ≤ b) bytes
