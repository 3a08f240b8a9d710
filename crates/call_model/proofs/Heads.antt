-- The name in a head that was read is no longer than the bytes.
use Rattle.std.proofs.Common.{◌≡◌, ℕ, zero, suc, ℤ, pos, negsuc, ◌≤◌, ◌==◌, ◌/◌, ◌%◌, Bool, true, false, if◌then◌else◌, nat_lt, List, [], ◌∷◌, ◌++◌, length, Ok, ap, arith, get_or}
use Rattle.std.specs.Int.{w32}
use Rattle.std.specs.Prelude.{◌^◌}
use Rattle.std.proofs.lemmas.List.{length-append}
use Rattle.wire_num.specs.Decoding.{decode_bytes, decode_byte, decode_signed, decoded_as}
use Rattle.wire_num.specs.Fixed.{signed_of}
use Rattle.wire_num.specs.Varint.{decode_varint, decode_groups, varint_of}
use Rattle.wire_num.proofs.Fronts.{front_found, meant, decoded, decoded_is}
use Rattle.streams.specs.declared.outcomes.EnvelopeFault.TheVariants.{NameSize}
use Rattle.envelope.specs.declared.head.Head.{Head}
use Rattle.envelope.specs.declared.head.Protocol.{Protocol}
use Rattle.envelope.specs.declared.head.Protocol.TheVariants.{Binary, Compact}
use Rattle.envelope.specs.Said.{Said}
use Rattle.envelope.specs.Readout.{head_bytes, head_byte, head_i32, head_varint, name_of, sized_name, version, strict_head, old_head, either_head, compact_rest, compact_head, accepted, whole_head, call_type, head_at}
use Rattle.envelope.proofs.Pieces.{bind_found, piece_found, decoded_in_head, ok, fail, same_ok}

-- some bytes and those behind them are no more than there were
piece_short : (n : ℕ) (bytes : List ℕ) (r : List ℕ × List ℕ) → head_bytes n bytes ≡ Ok r → (length r.0 ≤ length bytes) × (length r.1 ≤ length bytes)
piece_short n bytes r e =
    let p = piece_found n bytes r e in
    let l : length bytes ≡ length (r.0 ++ r.1) = ap length p.whole in
    (omega (arith, l, length-append r.0 r.1), omega (arith, l, length-append r.0 r.1))

-- the bytes behind a number
number_short : (bytes : List ℕ) (r : ℤ × List ℕ) → head_i32 bytes ≡ Ok r → length r.1 ≤ length bytes
number_short bytes r e =
    let d = decoded_in_head (decode_signed w32 bytes) r e in
    let m = meant (signed_of w32) (decode_bytes 4 bytes) r.0 r.1 d in
    let f = front_found 4 bytes m.0 r.1 m.1 in
    let l : length bytes ≡ length (m.0 ++ r.1) = ap length f.whole in
    omega (arith, l, length-append m.0 r.1)

-- the bytes behind a byte
byte_short : (bytes : List ℕ) (r : ℕ × List ℕ) → head_byte bytes ≡ Ok r → length r.1 ≤ length bytes
byte_short bytes r e =
    let d = decoded_in_head (decode_byte bytes) r e in
    let m = meant _ (decode_bytes 1 bytes) r.0 r.1 d in
    let f = front_found 1 bytes m.0 r.1 m.1 in
    let l : length bytes ≡ length (m.0 ++ r.1) = ap length f.whole in
    omega (arith, l, length-append m.0 r.1)

-- the bytes behind the groups of a varint
groups_short : (most : ℕ) (bytes groups behind : List ℕ) → decode_groups most bytes ≡ Ok (groups, behind) → length behind ≤ length bytes
groups_short zero bytes groups behind e = absurd cc
groups_short (suc most) [] groups behind e = absurd cc
groups_short (suc most) (b ∷ bytes) groups behind e = either (nat_lt b 128) e (λ gs. groups_short most bytes gs behind)
  where
    either : (t : Bool) → (if t then decoded (b ∷ [], bytes) else decoded_as (λ groups. b ∷ groups) (decode_groups most bytes)) ≡ decoded (groups, behind)
        → ((gs : List ℕ) → decode_groups most bytes ≡ Ok (gs, behind) → length behind ≤ length bytes) → length behind ≤ suc (length bytes)
    either true e rest =
        let l : length bytes ≡ length behind = ap (λ (p : List ℕ × List ℕ). length p.1) (decoded_is (b ∷ [], bytes) (groups, behind) e) in omega (arith, l)
    either false e rest =
        let m = meant (λ (gs : List ℕ). b ∷ gs) (decode_groups most bytes) groups behind e in
        omega (arith, rest m.0 m.1)

-- the bytes behind a varint
varint_short : (bytes : List ℕ) (r : ℕ × List ℕ) → head_varint bytes ≡ Ok r → length r.1 ≤ length bytes
varint_short bytes r e =
    let d = decoded_in_head (decode_varint w32 bytes) r e in
    let m = meant (varint_of w32) (decode_groups 5 bytes) r.0 r.1 d in
    groups_short 5 bytes m.0 r.1 m.1

-- a name
name_short : (size : ℤ) (bytes : List ℕ) (r : List ℕ × List ℕ) → name_of size bytes ≡ Ok r → length r.0 ≤ length bytes
unfolding name_of
name_short (pos n) bytes r e = (piece_short n bytes r e).0
name_short (negsuc n) bytes r e = absurd cc

sized_name_short : (size : ℕ) (bytes : List ℕ) (r : List ℕ × List ℕ) → sized_name size bytes ≡ Ok r → length r.0 ≤ length bytes
unfolding sized_name
sized_name_short size bytes r e = either (nat_lt size (2 ^ 31)) e
  where
    either : (t : Bool) → (if t then head_bytes size bytes else fail (List ℕ × List ℕ) NameSize) ≡ ok r → length r.0 ≤ length bytes
    either true e = (piece_short size bytes r e).0
    either false e = absurd cc

-- what was said in front of some bytes, and what is left
abbrev SaidBehind : Type 0
SaidBehind = Said × List ℕ

-- an answer's name is no longer than the bytes
same_short : (bytes : List ℕ) (x r : SaidBehind) → ok x ≡ ok r → length x.0.name ≤ length bytes → length r.0.name ≤ length bytes
same_short bytes x r e l =
    let same = same_ok x r e in
    let n : length x.0.name ≡ length r.0.name = ap (λ (y : SaidBehind). length y.0.name) same in
    omega (arith, n, l)

strict_short : (first bytes : List ℕ) (r : SaidBehind) → strict_head first bytes ≡ Ok r → length r.0.name ≤ length bytes
unfolding strict_head
strict_short first bytes r e =
    let v = bind_found (version first) _ r e in
    let size = bind_found (head_i32 bytes) _ r v.2 in
    let name = bind_found (name_of size.0.0 size.0.1) _ r size.2 in
    let id = bind_found (head_i32 name.0.1) _ r name.2 in
    let l = number_short bytes size.0 size.1 in
    let k = name_short size.0.0 size.0.1 name.0 name.1 in
    same_short bytes (record { name = name.0.0; kind = get_or first 3 0; id = id.0.0 }, id.0.1) r id.2 (omega (arith, l, k))

old_short : (size : ℤ) (bytes : List ℕ) (r : SaidBehind) → old_head size bytes ≡ Ok r → length r.0.name ≤ length bytes
unfolding old_head
old_short size bytes r e =
    let name = bind_found (name_of size bytes) _ r e in
    let kind = bind_found (head_byte name.0.1) _ r name.2 in
    let id = bind_found (head_i32 kind.0.1) _ r kind.2 in
    same_short bytes (record { name = name.0.0; kind = kind.0.0; id = id.0.0 }, id.0.1) r id.2 (name_short size bytes name.0 name.1)

either_short : (size : ℤ) (first bytes : List ℕ) (r : SaidBehind) → either_head size first bytes ≡ Ok r → length r.0.name ≤ length bytes
unfolding either_head
either_short (pos n) first bytes r e = old_short (pos n) bytes r e
either_short (negsuc n) first bytes r e = strict_short first bytes r e

rest_short : (kind : ℕ) (bytes : List ℕ) (r : SaidBehind) → compact_rest kind bytes ≡ Ok r → length r.0.name ≤ length bytes
unfolding compact_rest
rest_short kind bytes r e =
    let id = bind_found (head_varint bytes) _ r e in
    let size = bind_found (head_varint id.0.1) _ r id.2 in
    let name = bind_found (sized_name size.0.0 size.0.1) _ r size.2 in
    let a = varint_short bytes id.0 id.1 in
    let b = varint_short id.0.1 size.0 size.1 in
    let c = sized_name_short size.0.0 size.0.1 name.0 name.1 in
    same_short bytes _ r name.2 (omega (arith, a, b, c))

compact_short : (bytes : List ℕ) (r : SaidBehind) → compact_head bytes ≡ Ok r → length r.0.name ≤ length bytes
unfolding compact_head
compact_short bytes r e =
    let mark = bind_found (head_byte bytes) _ r e in
    let first = bind_found (accepted (mark.0.0 == 130) mark.0.0) _ r mark.2 in
    let typed = bind_found (head_byte mark.0.1) _ r first.2 in
    let second = bind_found (accepted (typed.0.0 % 32 == 1) typed.0.0) _ r typed.2 in
    let a = byte_short bytes mark.0 mark.1 in
    let b = byte_short mark.0.1 typed.0 typed.1 in
    let c = rest_short (typed.0.0 / 32) typed.0.1 r second.2 in
    omega (arith, a, b, c)

whole_short : (p : Protocol) (bytes : List ℕ) (r : SaidBehind) → whole_head p bytes ≡ Ok r → length r.0.name ≤ length bytes
unfolding whole_head
whole_short Binary bytes r e =
    let front = bind_found (head_bytes 4 bytes) _ r e in
    let a = (piece_short 4 bytes front.0 front.1).1 in
    let b = either_short (signed_of w32 front.0.0) front.0.0 front.0.1 r front.2 in
    omega (arith, a, b)
whole_short Compact bytes r e = compact_short bytes r e

-- the name of a head
pub name_within : (p : Protocol) (bytes : List ℕ) (head : Head) → head_at p bytes ≡ Ok head → length head.name ≤ length bytes
unfolding head_at
name_within p bytes head e =
    let whole = bind_found (whole_head p bytes) _ head e in
    let typed = bind_found (call_type whole.0.0.kind) _ head whole.2 in
    let same : length whole.0.0.name ≡ length head.name = ap (λ (h : Head). length h.name) (same_ok _ head typed.2) in
    omega (arith, same, whole_short p bytes whole.0 whole.1)
