-- Numbers and bools.
use Rattle.std.specs.Prelude.{FitsSigned}
use Rattle.std.specs.Int.{w8, w16, w32, w64, w128}
use Rattle.std.proofs.Common.{◌≡◌, ℕ, ◌<◌, ◌≤◌, Bool, true, false, eqb, List, [], ◌∷◌, ◌++◌, length, Ok, refl, sym, ap, subst, ◌∙◌, arith}
use Rattle.std.proofs.lemmas.Bool.{eqb-true, eqb-false, ne_eqb}
use Rattle.wire_num.specs.Decoding.{decode_byte, decode_unsigned, decode_signed}
use Rattle.wire_num.specs.Encoded.{AreByteSized}
use Rattle.wire_num.specs.Fixed.{IsByte, IsUnsigned, IsSigned, unsigned_bytes, signed_bytes}
use Rattle.wire_num.specs.LowFirst.{decode_low_first, IsLowFirst, low_first_bytes}
use Rattle.wire_num.proofs.Numbers.{byte_decodes, unsigned_decodes, signed_decodes, low_first_decodes_64}
use Rattle.wire_num.proofs.Halves.{wide_128}
use Rattle.wire_num.proofs.Varints.{put_32, put_64}
use Rattle.wire_num.proofs.Widths.{wide_8}
use Rattle.wire_num.specs.Zigzag.{zigzag}
use Rattle.thrift_value.specs.declared.tag.Tag.{Tag}
use Rattle.thrift_value.specs.declared.tag.Tag.TheVariants as tags
use Rattle.thrift_value.specs.Tree.{Tree, of_bool, of_i8, of_i16, of_i32, of_i64, of_double, of_uuid}
use Rattle.thrift_value.specs.Tags.{tag_of}
use Rattle.thrift_value.specs.Ranges.{IsInRange}
use Rattle.wire_model.specs.Decoder.{Unread}
use Rattle.wire_model.specs.Wire.{IsScalar}
use Rattle.wire_model.specs.Protocol.{IsInFront, StaysAs}
use Rattle.compact_codec.specs.Numbers.{decode_zigzag, IsZigzag, decode_short, IsShort}
use Rattle.compact_codec.specs.Reading.{compact_scalar}
use Rattle.compact_codec.specs.Spelling.{IsCompactScalar}
use Rattle.compact_codec.specs.Written.{compact_scalar_text}
use Rattle.compact_codec.proofs.ZigzagNumbers.{zigzag_decodes, short_decodes, low_fits, low_is, zigzag_small, zigzag_small_64, short_small, zigzag_fits, zigzag_fits_64, varint_small, varint_small_64, groups_some, making_found, making_only, making_stays}

abbrev rest : List ℕ → ℕ → Unread
rest bytes left = record { bytes = bytes; budget = left }

abbrev IsText : Tag → Tree → List ℕ → Type 0
IsText tag x text = (tag_of x ≡ tag) × IsCompactScalar x text

-- a byte is true exactly where it is 1
abbrev pub as_bool : ℕ → Tree
as_bool b = of_bool (eqb b 1)

bool_text : (b : ℕ) → b < 256 → (test : Bool) → eqb b 1 ≡ test → IsCompactScalar (of_bool test) (b ∷ [])
bool_text b small true e = ap (λ (k : ℕ). k ∷ []) (eqb-true b 1 e)
bool_text b small false e = (b, small, eqb-false b 1 e, refl)

pub scalar_found : (tag : Tag) → IsScalar tag → (before after : Unread) (x : Tree) → AreByteSized before.bytes → compact_scalar tag before ≡ Ok (x, after) → IsInFront (IsText tag) x before after
unfolding compact_scalar
scalar_found tags.Bool is before after x fits e =
    making_found decode_byte IsByte as_bool (IsText tags.Bool) byte_decodes
    (λ b text h. (refl, subst (λ (t : List ℕ). IsCompactScalar (as_bool b) t) (sym h.1) (bool_text b h.0 (eqb b 1) refl))) before after x fits e
scalar_found tags.I8 is before after x fits e =
    making_found (decode_signed w8) (IsSigned w8) of_i8 (IsText tags.I8) (signed_decodes w8 wide_8) (λ n text h. (refl, h)) before after x fits e
scalar_found tags.I16 is before after x fits e = making_found decode_short IsShort of_i16 (IsText tags.I16) short_decodes (λ n text h. (refl, h)) before after x fits e
scalar_found tags.I32 is before after x fits e =
    making_found (decode_zigzag w32) (IsZigzag w32) of_i32 (IsText tags.I32) (zigzag_decodes w32) (λ n text h. (refl, h)) before after x fits e
scalar_found tags.I64 is before after x fits e =
    making_found (decode_zigzag w64) (IsZigzag w64) of_i64 (IsText tags.I64) (zigzag_decodes w64) (λ n text h. (refl, h)) before after x fits e
scalar_found tags.Double is before after x fits e =
    making_found (decode_low_first w64) (IsLowFirst w64) of_double (IsText tags.Double) low_first_decodes_64 (λ n text h. (refl, h)) before after x fits e
scalar_found tags.Uuid is before after x fits e =
    making_found (decode_unsigned w128) (IsUnsigned w128) of_uuid (IsText tags.Uuid) (unsigned_decodes w128 wide_128) (λ n text h. (refl, h)) before after x fits e
scalar_found tags.Bytes is before after x fits e = absurd is
scalar_found tags.Struct is before after x fits e = absurd is
scalar_found tags.Map is before after x fits e = absurd is
scalar_found tags.Set is before after x fits e = absurd is
scalar_found tags.List is before after x fits e = absurd is

byte_scalar : (b : ℕ) (flag : Bool) (text more : List ℕ) (left : ℕ) → b < 256 → eqb b 1 ≡ flag → text ≡ b ∷ [] → compact_scalar tags.Bool (rest (text ++ more) left) ≡ Ok (of_bool flag, rest more left)
unfolding compact_scalar
byte_scalar b flag text more left small test is =
    making_only decode_byte IsByte as_bool byte_decodes b text more left (small, is) ∙ ap (λ (t : Bool). Ok (of_bool t, rest more left)) test

pub scalar_only : (x : Tree) (text more : List ℕ) (left : ℕ) → IsCompactScalar x text → compact_scalar (tag_of x) (rest (text ++ more) left) ≡ Ok (x, rest more left)
unfolding compact_scalar
scalar_only (of_bool true) text more left h = byte_scalar 1 true text more left (omega arith) refl h
scalar_only (of_bool false) text more left h = byte_scalar h.0 false text more left h.1 (ne_eqb h.0 1 h.2) h.3
scalar_only (of_i8 n) text more left h = making_only (decode_signed w8) (IsSigned w8) of_i8 (signed_decodes w8 wide_8) n text more left h
scalar_only (of_i16 n) text more left h = making_only decode_short IsShort of_i16 short_decodes n text more left h
scalar_only (of_i32 n) text more left h = making_only (decode_zigzag w32) (IsZigzag w32) of_i32 (zigzag_decodes w32) n text more left h
scalar_only (of_i64 n) text more left h = making_only (decode_zigzag w64) (IsZigzag w64) of_i64 (zigzag_decodes w64) n text more left h
scalar_only (of_double n) text more left h = making_only (decode_low_first w64) (IsLowFirst w64) of_double low_first_decodes_64 n text more left h
scalar_only (of_uuid n) text more left h = making_only (decode_unsigned w128) (IsUnsigned w128) of_uuid (unsigned_decodes w128 wide_128) n text more left h
scalar_only x text more left h = absurd h

long : (text t : List ℕ) → text ≡ t → 1 ≤ length t → 1 ≤ length text
long text t is some = let l : length text ≡ length t = ap length is in omega arith

pub scalar_byte : (x : Tree) (text : List ℕ) → IsCompactScalar x text → 1 ≤ length text
scalar_byte (of_bool true) text h = long text (1 ∷ []) h (omega arith)
scalar_byte (of_bool false) text h = long text (h.0 ∷ []) h.3 (omega arith)
scalar_byte (of_i8 n) text h = long text (signed_bytes w8 n) h.1 (omega arith)
scalar_byte (of_i16 n) text h = groups_some w32 (zigzag h.0) text h.1
scalar_byte (of_i32 n) text h = groups_some w32 (zigzag n) text h
scalar_byte (of_i64 n) text h = groups_some w64 (zigzag n) text h
scalar_byte (of_double n) text h = long text (low_first_bytes w64 n) h.1 (omega arith)
scalar_byte (of_uuid n) text h = long text (unsigned_bytes w128 n) h.1 (omega arith)
scalar_byte x text h = absurd h

pub scalar_written : (x : Tree) → IsScalar (tag_of x) → IsInRange x → IsCompactScalar x (compact_scalar_text x)
scalar_written (of_bool true) is r = refl
scalar_written (of_bool false) is r = (2, omega arith, (λ e. let f : ⊥ = omega arith in f), refl)
scalar_written (of_i8 n) is r = (r, refl)
scalar_written (of_i16 n) is r = (n, put_32 (zigzag n) (short_small n r), sym (low_is n r))
scalar_written (of_i32 n) is r = put_32 (zigzag n) (zigzag_small n r)
scalar_written (of_i64 n) is r = put_64 (zigzag n) (zigzag_small_64 n r)
scalar_written (of_double n) is r = (r, refl)
scalar_written (of_uuid n) is r = (r, refl)
scalar_written x is r = absurd is

pub scalar_range : (x : Tree) (text : List ℕ) → IsCompactScalar x text → IsInRange x
scalar_range (of_bool b) text h = tt
scalar_range (of_i8 n) text h = h.0
scalar_range (of_i16 n) text h = subst (FitsSigned w16) (sym h.2) (low_fits h.0)
scalar_range (of_i32 n) text h = zigzag_fits n (varint_small (zigzag n) text h)
scalar_range (of_i64 n) text h = zigzag_fits_64 n (varint_small_64 (zigzag n) text h)
scalar_range (of_double n) text h = h.0
scalar_range (of_uuid n) text h = h.0
scalar_range x text h = absurd h

pub scalar_stays : (tag : Tag) → IsScalar tag → StaysAs (compact_scalar tag) (compact_scalar tag)
unfolding compact_scalar
scalar_stays tags.Bool is = making_stays decode_byte IsByte as_bool byte_decodes
scalar_stays tags.I8 is = making_stays (decode_signed w8) (IsSigned w8) of_i8 (signed_decodes w8 wide_8)
scalar_stays tags.I16 is = making_stays decode_short IsShort of_i16 short_decodes
scalar_stays tags.I32 is = making_stays (decode_zigzag w32) (IsZigzag w32) of_i32 (zigzag_decodes w32)
scalar_stays tags.I64 is = making_stays (decode_zigzag w64) (IsZigzag w64) of_i64 (zigzag_decodes w64)
scalar_stays tags.Double is = making_stays (decode_low_first w64) (IsLowFirst w64) of_double low_first_decodes_64
scalar_stays tags.Uuid is = making_stays (decode_unsigned w128) (IsUnsigned w128) of_uuid (unsigned_decodes w128 wide_128)
scalar_stays tag is = absurd is
