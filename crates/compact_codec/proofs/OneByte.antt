-- A varint of one byte is that byte.
use Rattle.std.specs.Int.{Width, w32, w64}
use Rattle.std.proofs.Common.{◌≡◌, ℕ, suc, ◌+◌, ◌*◌, ◌%◌, ◌^◌, ◌<◌, Bool, cond, List, [], ◌∷◌, Ok, ap, ◌∙◌, arith}
use Rattle.std.proofs.lemmas.Bool.{lt-ltb}
use Rattle.wire_num.specs.Decoding.{decoded_as}
use Rattle.wire_num.specs.Varint.{decode_groups, decode_varint, varint_of}
use Rattle.wire_num.proofs.Fronts.{decoded}

by_first : (width : Width) (most b : ℕ) (bytes : List ℕ) → b < 128
    → decoded_as (varint_of width) (decode_groups (suc most) (b ∷ bytes)) ≡ decoded (varint_of width (b ∷ []), bytes)
by_first width most b bytes small =
    ap (λ (last : Bool). decoded_as (varint_of width) (cond last (decoded (b ∷ [], bytes)) (decoded_as (λ groups. b ∷ groups) (decode_groups most bytes)))) (lt-ltb b 128 small)

pub one_byte_32 : (b : ℕ) (bytes : List ℕ) → b < 128 → decode_varint w32 (b ∷ bytes) ≡ Ok (b, bytes)
one_byte_32 b bytes small =
    by_first w32 4 b bytes small ∙ ap (λ (n : ℕ). decoded (n, bytes)) (let e : (b % 128 + 128 * 0) % 2 ^ 32 ≡ b = omega arith in e)

pub one_byte_64 : (b : ℕ) (bytes : List ℕ) → b < 128 → decode_varint w64 (b ∷ bytes) ≡ Ok (b, bytes)
one_byte_64 b bytes small =
    by_first w64 9 b bytes small ∙ ap (λ (n : ℕ). decoded (n, bytes)) (let e : (b % 128 + 128 * 0) % 2 ^ 64 ≡ b = omega arith in e)
