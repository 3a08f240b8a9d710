-- Each part has the first fault that the table tells of the bytes that are left, and no other: numbers, and headers of containers.
use Rattle.std.specs.Int.{w8, w32, w64, w128}
use Rattle.std.proofs.Common.{◌≡◌, inl, inr, ℕ, ◌+◌, ◌*◌, ◌/◌, ◌%◌, ◌<◌, ◌≤◌, Bool, true, false, cond, eqb, List, [], ◌∷◌, length, Err, refl, sym, ap, subst, ◌∙◌, arith}
use Rattle.std.proofs.lemmas.Bool.{eqb-true, eqb-false, ne_eqb}
use Rattle.wire_num.specs.Decoding.{decode_byte, decode_unsigned, decode_signed}
use Rattle.wire_num.specs.Encoded.{AreByteSized}
use Rattle.wire_num.specs.Fixed.{unsigned_of, signed_of}
use Rattle.wire_num.specs.LowFirst.{low_first_of, decode_low_first}
use Rattle.thrift_value.specs.declared.tag.Tag.{Tag}
use Rattle.thrift_value.specs.declared.tag.Tag.TheVariants as tags
use Rattle.thrift_value.specs.declared.wire_fault.WireFault.{WireFault}
use Rattle.thrift_value.specs.declared.wire_fault.WireFault.TheVariants.{Short, BadType}
use Rattle.thrift_value.specs.Tree.{of_i8, of_i16, of_i32, of_i64, of_double, of_uuid}
use Rattle.wire_model.specs.Decoder.{Unread}
use Rattle.wire_model.specs.Pieces.{byte, Begins, within_room}
use Rattle.wire_model.specs.Wire.{IsScalar}
use Rattle.wire_model.proofs.Pieces.{ByteFront, after_byte, byte_fault, byte_found, byte_short, fixed_fault, fixed_short, given_no_fault, none_is}
use Rattle.wire_model.proofs.Steps.{goes_on, failed, fails, bytes_behind}
use Rattle.compact_codec.specs.Faults.{HasNumberFault, HasLengthFault, IsSizedHeader, HasListFault, HasFreeCode, HasMapFault}
use Rattle.compact_codec.specs.Numbers.{decode_zigzag, decode_short}
use Rattle.compact_codec.specs.Reading.{tag_in_half, compact_size, items_size, items_in_half, items_in_byte, compact_items, pairs_in_byte, pairs_of_size, compact_pairs, compact_scalar}
use Rattle.compact_codec.proofs.CodeLaws.{tag_found, taken_given, tag_refused, tag_fault, free_half}
use Rattle.compact_codec.proofs.Containers.{HalfFront, half_found, items_of_tag, items_by, in_item_halves, in_15, short_half, header_given, pairs_of_tags, pairs_of_key, pairs_by, in_pair_halves, map_size_given}
use Rattle.compact_codec.proofs.FieldHeaders.{halves}
use Rattle.compact_codec.proofs.ZigzagNumbers.{zigzag_faults, short_faults, varint_fault_found, varint_fault_only, making_fault, making_fails}
use Rattle.compact_codec.proofs.Scalars.{as_bool}
use Rattle.compact_codec.proofs.Sizes.{within_room_fault, within_room_short, SizeFront, size_found, size_fault_found, size_fault_only}

abbrev rest : List ℕ → ℕ → Unread
rest bytes left = record { bytes = bytes; budget = left }

-- ---- numbers and bools

short_is : (tag : Tag) (fault : WireFault) (bytes : List ℕ) → fault ≡ Short → HasNumberFault tag Short bytes → HasNumberFault tag fault bytes
short_is tag fault bytes is h = subst (λ (d : WireFault). HasNumberFault tag d bytes) (sym is) h

pub scalar_fault_found : (tag : Tag) → IsScalar tag → (unread : Unread) (fault : WireFault) → AreByteSized unread.bytes → compact_scalar tag unread ≡ Err fault → HasNumberFault tag fault unread.bytes
unfolding compact_scalar
scalar_fault_found tags.Bool is unread fault fits e =
    let b = byte_fault unread fault (making_fault decode_byte as_bool unread fault e) in short_is tags.Bool fault unread.bytes b.0 b.1
scalar_fault_found tags.I8 is unread fault fits e =
    let b = fixed_fault 1 (signed_of w8) unread fault (making_fault (decode_signed w8) of_i8 unread fault e) in short_is tags.I8 fault unread.bytes b.0 b.1
scalar_fault_found tags.I16 is unread fault fits e = varint_fault_found decode_short 5 short_faults unread fault (making_fault decode_short of_i16 unread fault e)
scalar_fault_found tags.I32 is unread fault fits e = varint_fault_found (decode_zigzag w32) 5 (zigzag_faults w32) unread fault (making_fault (decode_zigzag w32) of_i32 unread fault e)
scalar_fault_found tags.I64 is unread fault fits e = varint_fault_found (decode_zigzag w64) 10 (zigzag_faults w64) unread fault (making_fault (decode_zigzag w64) of_i64 unread fault e)
scalar_fault_found tags.Double is unread fault fits e =
    let b = fixed_fault 8 (low_first_of w64) unread fault (making_fault (decode_low_first w64) of_double unread fault e) in short_is tags.Double fault unread.bytes b.0 b.1
scalar_fault_found tags.Uuid is unread fault fits e =
    let b = fixed_fault 16 (unsigned_of w128) unread fault (making_fault (decode_unsigned w128) of_uuid unread fault e) in short_is tags.Uuid fault unread.bytes b.0 b.1
scalar_fault_found tags.Bytes is unread fault fits e = absurd is
scalar_fault_found tags.Struct is unread fault fits e = absurd is
scalar_fault_found tags.Map is unread fault fits e = absurd is
scalar_fault_found tags.Set is unread fault fits e = absurd is
scalar_fault_found tags.List is unread fault fits e = absurd is

pub scalar_fault_only : (tag : Tag) → IsScalar tag → (unread : Unread) (fault : WireFault) → HasNumberFault tag fault unread.bytes → compact_scalar tag unread ≡ Err fault
unfolding compact_scalar
scalar_fault_only tags.I16 is unread fault h = making_fails decode_short of_i16 unread fault (varint_fault_only decode_short 5 short_faults unread fault h)
scalar_fault_only tags.I32 is unread fault h = making_fails (decode_zigzag w32) of_i32 unread fault (varint_fault_only (decode_zigzag w32) 5 (zigzag_faults w32) unread fault h)
scalar_fault_only tags.I64 is unread fault h = making_fails (decode_zigzag w64) of_i64 unread fault (varint_fault_only (decode_zigzag w64) 10 (zigzag_faults w64) unread fault h)
scalar_fault_only tags.Double is unread Short h = making_fails (decode_low_first w64) of_double unread Short (fixed_short 8 (low_first_of w64) unread h)
scalar_fault_only tags.Uuid is unread Short h = making_fails (decode_unsigned w128) of_uuid unread Short (fixed_short 16 (unsigned_of w128) unread h)
scalar_fault_only tags.Bool is unread Short h = making_fails decode_byte as_bool unread Short (byte_short unread h)
scalar_fault_only tags.I8 is unread Short h = making_fails (decode_signed w8) of_i8 unread Short (fixed_short 1 (signed_of w8) unread h)
scalar_fault_only tags.Bytes is unread fault h = absurd is
scalar_fault_only tags.Struct is unread fault h = absurd is
scalar_fault_only tags.Map is unread fault h = absurd is
scalar_fault_only tags.Set is unread fault h = absurd is
scalar_fault_only tags.List is unread fault h = absurd is
scalar_fault_only tag is unread fault h = absurd h

-- ---- headers of lists and sets

-- the fault of a size behind the header's byte
by_length : (fault : WireFault) (code : ℕ) (bytes behind : List ℕ) → code < 16 → bytes ≡ (240 + code) ∷ behind → HasLengthFault fault behind → HasListFault fault bytes
by_length Short code bytes behind low whole h = inr (inr (code, low, record { behind = behind; whole = whole; such = h }))
by_length (BadType n) code bytes behind low whole h = absurd h
by_length fault code bytes behind low whole h = (code, low, record { behind = behind; whole = whole; such = h })

half_fault_if : (b : Bool) (x : ℕ) (unread middle : Unread) (fault : WireFault) → AreByteSized unread.bytes → ByteFront x unread middle → eqb (x / 16) 15 ≡ b
    → cond b compact_size (within_room (x / 16)) middle ≡ Err fault → HasListFault fault unread.bytes
half_fault_if true x unread middle fault fits f test e =
    let is : x / 16 ≡ 15 = eqb-true (x / 16) 15 test in
    let same : x ≡ 240 + x % 16 = omega arith in
    by_length fault (x % 16) unread.bytes middle.bytes (omega arith) (f.whole ∙ ap (λ (k : ℕ). k ∷ middle.bytes) same) (size_fault_found middle fault (after_byte x unread middle f fits) e)
half_fault_if false x unread middle fault fits f test e =
    let r = within_room_fault (x / 16) middle fault e in
    let other : x / 16 ≡ 15 → ⊥ = eqb-false (x / 16) 15 test in
    let small = f.small in
    subst (λ (d : WireFault). HasListFault d unread.bytes) (sym r.0)
    (inr (inl (x / 16, x % 16, omega arith, omega arith, record { behind = middle.bytes; whole = f.whole ∙ ap (λ (k : ℕ). k ∷ middle.bytes) (halves x); such = r.1 })))

type_fault_if : (b : Bool) (x size : ℕ) (unread middle third : Unread) (fault : WireFault) → ByteFront x unread middle → HalfFront (x / 16) size middle third → eqb size 0 ≡ b
    → items_by b (x % 16) size third ≡ Err fault → HasListFault fault unread.bytes
type_fault_if true x size unread middle third fault f s test e = absurd cc
type_fault_if false x size unread middle third fault f s test e =
    let t = tag_fault (x % 16) third fault (omega arith) (given_no_fault (tag_in_half (x % 16) third) (λ tag. (tag, size)) fault (failed (tag_in_half (x % 16) third) (items_of_tag size) fault e)) in
    let some = eqb-false size 0 test in
    subst (λ (d : WireFault). HasListFault d unread.bytes) (sym t.0) (
      t.1,
      size,
      omega arith,
      s.small,
      (
        x ∷ s.text,
        subst (λ (k : ℕ). IsSizedHeader (x % 16) size (k ∷ s.text)) (sym (halves x)) (s.sized (x % 16)),
        record { behind = third.bytes; whole = f.whole ∙ ap (λ (t : List ℕ). x ∷ t) s.whole; such = s.enough },
      ),
    )

pub items_fault_found : (unread : Unread) (fault : WireFault) → AreByteSized unread.bytes → compact_items unread ≡ Err fault → HasListFault fault unread.bytes
unfolding compact_items
items_fault_found unread fault fits e =
    elim (failed (byte unread) (λ x. items_in_byte x) fault e) [
      | inl cut ↦ let b = byte_fault unread fault cut in subst (λ (d : WireFault). HasListFault d unread.bytes) (sym b.0) (inl (none_is unread.bytes b.1))
      | inr on ↦
          let x = on.0.0 in
          let middle = on.0.1 in
          let f = byte_found unread middle x fits on.1 in
          let small = f.small in
          elim (failed (items_size (x / 16) middle) (λ size. items_in_half (x % 16) size) fault on.2) [
            | inl bad ↦ half_fault_if (eqb (x / 16) 15) x unread middle fault fits f refl bad
            | inr next ↦
                type_fault_if (eqb next.0.0 0) x next.0.0 unread middle next.0.1 fault f (half_found (x / 16) next.0.0 middle next.0.1 (after_byte x unread middle f fits) (omega arith) next.1) refl next.2
          ]
    ]

nothing_fails : (unread : Unread) → unread.bytes ≡ [] → compact_items unread ≡ Err Short
unfolding compact_items
nothing_fails unread none = fails (byte unread) (λ x. items_in_byte x) Short (byte_short unread (let l : length unread.bytes ≡ 0 = ap length none in omega arith))

length_fails : (unread : Unread) (fault : WireFault) (code : ℕ) → code < 16 → Begins ((240 + code) ∷ []) (HasLengthFault fault) unread.bytes → compact_items unread ≡ Err fault
length_fails unread fault code low b =
    let here : Unread = rest b.behind unread.budget in
    ap (λ (t : List ℕ). compact_items (rest t unread.budget)) b.whole
    ∙ in_15 code b.behind unread.budget low
    ∙ fails (items_size 15 here) (λ size. items_in_half code size) fault (size_fault_only here fault b.such)

half_fails : (unread : Unread) (size code : ℕ) → size < 15 → code < 16 → Begins ((16 * size + code) ∷ []) (λ behind. length behind < size) unread.bytes → compact_items unread ≡ Err Short
half_fails unread size code small low b =
    let here : Unread = rest b.behind unread.budget in
    ap (λ (t : List ℕ). compact_items (rest t unread.budget)) b.whole
    ∙ in_item_halves code size b.behind unread.budget low
    ∙ fails (items_size size here) (λ n. items_in_half code n) Short (short_half size here small ∙ within_room_short size here b.such)

pub items_fault_only : (unread : Unread) (fault : WireFault) → HasListFault fault unread.bytes → compact_items unread ≡ Err fault
items_fault_only unread Short (inl none) = nothing_fails unread none
items_fault_only unread Short (inr (inl (size, code, small, low, b))) = half_fails unread size code small low b
items_fault_only unread Short (inr (inr (code, low, b))) = length_fails unread Short code low b
items_fault_only unread (BadType code) (free, size, some, small, (text, header, b)) =
    let here : Unread = rest b.behind unread.budget in
    ap (λ (t : List ℕ). compact_items (rest t unread.budget)) b.whole
    ∙ header_given code size text b.behind unread.budget (free_half code free) header small b.such
    ∙ ap (λ (z : Bool). items_by z code size here) (ne_eqb size 0 (omega arith))
    ∙ fails (tag_in_half code here) (items_of_tag size) (BadType code) (tag_refused code here free)
items_fault_only unread fault h = length_fails unread fault h.0 h.1 h.2

-- ---- headers of maps

by_map_size : (fault : WireFault) (bytes : List ℕ) → HasLengthFault fault bytes → HasMapFault fault bytes
by_map_size (BadType n) bytes h = absurd h
by_map_size fault bytes h = h

-- a fault of a byte of codes, which is there
record CodesFault (x : ℕ) (fault : WireFault) : Type 0 where
  code : ℕ
  is : fault ≡ BadType code
  free : HasFreeCode code x

codes_fault : (size x : ℕ) (middle : Unread) (fault : WireFault) → x < 256 → pairs_in_byte size x middle ≡ Err fault → CodesFault x fault
codes_fault size x middle fault small e =
    elim (failed (tag_in_half (x / 16) middle) (pairs_of_key (x % 16) size) fault e) [
      | inl bad ↦
          let t = tag_fault (x / 16) middle fault (omega arith) bad in
          record { code = x / 16; is = t.0; free = (t.1, inl (x % 16, omega arith, halves x)) }
      | inr on ↦
          let k = tag_found (x / 16) middle on.0.1 on.0.0 on.1 in
          let t = tag_fault (x % 16) on.0.1 fault (omega arith) (given_no_fault (tag_in_half (x % 16) on.0.1) (λ tag. (on.0.0, tag, size)) fault (failed (tag_in_half (x % 16) on.0.1) (pairs_of_tags size on.0.0) fault on.2)) in
          record { code = x % 16; is = t.0; free = (t.1, inr (x / 16, k.0.1, halves x)) }
    ]

some_byte : (size : ℕ) (middle : Unread) (fault : WireFault) → 1 ≤ size → size ≤ length middle.bytes → (fault ≡ Short) × (length middle.bytes < 1) → ⊥
some_byte size middle fault some enough cut = let less = cut.1 in omega arith

map_fault_if : (b : Bool) (size : ℕ) (unread middle : Unread) (fault : WireFault) → AreByteSized unread.bytes → SizeFront size unread middle → eqb size 0 ≡ b → pairs_by b size middle ≡ Err fault → HasMapFault fault unread.bytes
map_fault_if true size unread middle fault fits s test e = absurd cc
map_fault_if false size unread middle fault fits s test e =
    let none = eqb-false size 0 test in
    let some : 1 ≤ size = omega arith in
    elim (failed (byte middle) (λ x. pairs_in_byte size x) fault e) [
      | inl cut ↦ absurd (some_byte size middle fault some s.enough (byte_fault middle fault cut))
      | inr on ↦
          let f = byte_found middle on.0.1 on.0.0 (bytes_behind s.text middle.bytes (subst AreByteSized s.whole fits)) on.1 in
          let c = codes_fault size on.0.0 on.0.1 fault f.small on.2 in
          subst (λ (d : WireFault). HasMapFault d unread.bytes) (sym c.is) (
            size,
            on.0.0,
            some,
            s.small,
            c.free,
            record { text = s.text; sized = s.varint; begins = record { behind = middle.bytes; whole = s.whole; such = (s.enough, record { behind = on.0.1.bytes; whole = f.whole; such = tt }) } },
          )
    ]

pub pairs_fault_found : (unread : Unread) (fault : WireFault) → AreByteSized unread.bytes → compact_pairs unread ≡ Err fault → HasMapFault fault unread.bytes
unfolding compact_pairs
pairs_fault_found unread fault fits e =
    elim (failed (compact_size unread) (λ size. pairs_of_size size) fault e) [
      | inl bad ↦ by_map_size fault unread.bytes (size_fault_found unread fault fits bad)
      | inr on ↦ map_fault_if (eqb on.0.0 0) on.0.0 unread on.0.1 fault fits (size_found unread on.0.1 on.0.0 fits on.1) refl on.2
    ]

map_size_fails : (unread : Unread) (fault : WireFault) → HasLengthFault fault unread.bytes → compact_pairs unread ≡ Err fault
unfolding compact_pairs
map_size_fails unread fault h = fails (compact_size unread) (λ size. pairs_of_size size) fault (size_fault_only unread fault h)

codes_fail : (size code x : ℕ) (behind : List ℕ) (left : ℕ) → (size ≡ 0 → ⊥) → HasFreeCode code x → pairs_of_size size (rest (x ∷ behind) left) ≡ Err (BadType code)
codes_fail size code x behind left some (free, inl (value, low, is)) =
    let here : Unread = rest behind left in
    ap (λ (k : ℕ). pairs_of_size size (rest (k ∷ behind) left)) is
    ∙ in_pair_halves size code value behind left some low
    ∙ fails (tag_in_half code here) (pairs_of_key value size) (BadType code) (tag_refused code here free)
codes_fail size code x behind left some (free, inr (key, taken, is)) =
    let here : Unread = rest behind left in
    let t = taken_given key here taken in
    ap (λ (k : ℕ). pairs_of_size size (rest (k ∷ behind) left)) is
    ∙ in_pair_halves size key code behind left some (free_half code free)
    ∙ goes_on (tag_in_half key here) (pairs_of_key code size) t.0 here _ t.1
    (fails (tag_in_half code here) (pairs_of_tags size t.0) (BadType code) (tag_refused code here free))

pub pairs_fault_only : (unread : Unread) (fault : WireFault) → HasMapFault fault unread.bytes → compact_pairs unread ≡ Err fault
pairs_fault_only unread (BadType code) (size, x, some, small, free, b) =
    let behind : List ℕ = b.begins.behind in
    let such = b.begins.such in
    ap (λ (t : List ℕ). compact_pairs (rest t unread.budget)) b.begins.whole
    ∙ map_size_given size b.text behind unread.budget b.sized small such.0
    ∙ ap (λ (t : List ℕ). pairs_of_size size (rest t unread.budget)) such.1.whole
    ∙ codes_fail size code x such.1.behind unread.budget (λ e. let f : ⊥ = omega arith in f) free
pairs_fault_only unread fault h = map_size_fails unread fault h
