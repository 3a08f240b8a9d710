-- Each part has the first fault that the table tells of the bytes that are left, and no other.
use Rattle.std.specs.Prelude.{ℤ, pos, negsuc}
use Rattle.std.specs.Int.{w8, w16, w32, w64, w128}
use Rattle.std.proofs.Common.{◌≡◌, inl, inr, ℕ, suc, ◌^◌, ◌<◌, ◌≤◌, Bool, true, false, cond, eqb, leb, List, [], ◌∷◌, ◌++◌, length, Option, Some, None, Result, Ok, Err, refl, sym, ap, subst, ◌∙◌, arith}
use Rattle.std.proofs.lemmas.Bool.{eqb-false, ne_eqb, leb-true, leb-false, lt-leb}
use Rattle.std.proofs.lemmas.Int.{fits_signed_from_abs}
use Rattle.wire_num.specs.Decoding.{decode_bytes}
use Rattle.wire_num.specs.Encoded.{AreByteSized}
use Rattle.wire_num.specs.Fixed.{unsigned_of, signed_of, unsigned_bytes, signed_bytes}
use Rattle.wire_num.proofs.Fronts.{front_fault}
use Rattle.wire_num.proofs.Widths.{wide_32}
use Rattle.thrift_value.specs.declared.tag.Tag.{Tag}
use Rattle.thrift_value.specs.declared.tag.Tag.TheVariants as tags
use Rattle.thrift_value.specs.declared.wire_fault.WireFault.{WireFault}
use Rattle.thrift_value.specs.declared.wire_fault.WireFault.TheVariants.{Short, BadType, BadSize}
use Rattle.thrift_value.specs.Tree.{of_bool, of_i8, of_i16, of_i32, of_i64, of_double, of_uuid}
use Rattle.wire_model.specs.Decoder.{Unread, ◌>>=◌, give}
use Rattle.wire_model.specs.Wire.{FieldHeader, stop, typed, IsScalar}
use Rattle.wire_model.proofs.Steps.{went_on, goes_on, failed, fails, ok_is}
use Rattle.wire_model.proofs.Uncounted.{uncounted_fault}
use Rattle.binary_codec.specs.Codes.{code_of, tag_of_code}
use Rattle.wire_model.specs.Pieces.{Begins}
use Rattle.binary_codec.specs.Faults.{IsNoCode, HasHeaderFault, scalar_len, HasScalarFault, HasSizeFault, HasItemsFault, HasPairsFault}
use Rattle.wire_model.specs.Pieces.{byte, some_bytes, tag_or_fault, within_room}
use Rattle.wire_model.proofs.Pieces.{ByteFront, after_byte, byte_fault, byte_found, byte_given, byte_short, fixed_fault, fixed_short, given_no_fault, none_is, sized}
use Rattle.binary_codec.specs.Reading.{unsigned, signed, tag_coded, header_coded, binary_field, binary_scalar, unsigned_size, binary_size, binary_span, items_coded, pairs_coded, binary_items, binary_pairs}
use Rattle.binary_codec.proofs.CodeLaws.{code_is, tag_is, code_small, tag_found, tag_given}
use Rattle.binary_codec.proofs.FixedNumbers.{SignedFront, signed_found, signed_given}
use Rattle.binary_codec.proofs.Leaves.{SizeFront, size_found, size_given}

abbrev rest : List ℕ → ℕ → Unread
rest bytes left = record { bytes = bytes; budget = left }

-- ---- a byte, and codes

some_tag : (code : ℕ) (tag : Tag) → tag_of_code code ≡ None → code ≡ code_of tag → ⊥
some_tag code tag none is = let same : Some tag ≡ None = sym (tag_is tag) ∙ ap tag_of_code (sym is) ∙ none in cc

tag_fault_if : (o : Option Tag) (code : ℕ) (unread : Unread) (fault : WireFault) → tag_of_code code ≡ o → tag_or_fault code o unread ≡ Err fault → (fault ≡ BadType code) × IsNoCode code
tag_fault_if None code unread fault is e = (cc, λ tag same. some_tag code tag is same)
tag_fault_if (Some t) code unread fault is e = absurd cc

tag_fault : (code : ℕ) (unread : Unread) (fault : WireFault) → tag_coded code unread ≡ Err fault → (fault ≡ BadType code) × IsNoCode code
unfolding tag_coded
tag_fault code unread fault e = tag_fault_if (tag_of_code code) code unread fault refl e

tag_refused_if : (o : Option Tag) (code : ℕ) (unread : Unread) → tag_of_code code ≡ o → IsNoCode code → tag_or_fault code o unread ≡ Err (BadType code)
tag_refused_if None code unread is none = refl
tag_refused_if (Some t) code unread is none = absurd (none t (code_is code t is))

tag_refused : (code : ℕ) (unread : Unread) → IsNoCode code → tag_coded code unread ≡ Err (BadType code)
unfolding tag_coded
tag_refused code unread none = tag_refused_if (tag_of_code code) code unread refl none

-- ---- headers of fields

abbrev field_of_tag : Tag → Unread → Result (FieldHeader × Unread) WireFault
field_of_tag tag = signed w16 >>= λ id. give (typed id tag)

header_fault_typed : (code : ℕ) (unread middle : Unread) (fault : WireFault) → ByteFront code unread middle → (code ≡ 0 → ⊥)
    → (tag_coded code >>= field_of_tag) middle ≡ Err fault → HasHeaderFault fault unread.bytes
header_fault_typed code unread middle fault f some e =
    elim (failed (tag_coded code middle) field_of_tag fault e) [
      | inl bad ↦
          let t = tag_fault code middle fault bad in
          subst (λ (d : WireFault). HasHeaderFault d unread.bytes) (sym t.0) (t.1, some, record { behind = middle.bytes; whole = f.whole; such = tt })
      | inr on ↦
          let t = tag_found code middle on.0.1 on.0.0 on.1 in
          elim (failed (signed w16 on.0.1) (λ id. give (typed id on.0.0)) fault on.2) [
            | inl cut ↦
                let s = fixed_fault 2 (signed_of w16) on.0.1 fault cut in
                subst (λ (d : WireFault). HasHeaderFault d unread.bytes) (sym s.0)
                (inr (on.0.0, record { behind = middle.bytes; whole = f.whole ∙ ap (λ (k : ℕ). k ∷ middle.bytes) t.0; such = subst (λ (r : Unread). length r.bytes < 2) t.1 s.1 }))
            | inr given ↦ absurd (let x = given.2 in cc)
          ]
    ]

header_fault_if : (b : Bool) (code : ℕ) (unread middle : Unread) (fault : WireFault) → ByteFront code unread middle → eqb code 0 ≡ b
    → cond b (give stop) (tag_coded code >>= field_of_tag) middle ≡ Err fault → HasHeaderFault fault unread.bytes
header_fault_if true code unread middle fault f test e = absurd cc
header_fault_if false code unread middle fault f test e = header_fault_typed code unread middle fault f (eqb-false code 0 test) e

pub field_fault_found : (last : ℤ) (unread : Unread) (fault : WireFault) → AreByteSized unread.bytes → binary_field last unread ≡ Err fault → HasHeaderFault fault unread.bytes
unfolding binary_field
field_fault_found last unread fault fits e =
    elim (failed (byte unread) (λ code. header_coded code) fault e) [
      | inl cut ↦ let b = byte_fault unread fault cut in subst (λ (d : WireFault). HasHeaderFault d unread.bytes) (sym b.0) (inl (none_is unread.bytes b.1))
      | inr on ↦ header_fault_if (eqb on.0.0 0) on.0.0 unread on.0.1 fault (byte_found unread on.0.1 on.0.0 fits on.1) refl on.2
    ]

pub field_fault_only : (last : ℤ) (unread : Unread) (fault : WireFault) → HasHeaderFault fault unread.bytes → binary_field last unread ≡ Err fault
unfolding binary_field
field_fault_only last unread Short (inl none) = fails (byte unread) (λ code. header_coded code) Short (byte_short unread (let l : length unread.bytes ≡ 0 = ap length none in omega arith))
field_fault_only last unread Short (inr (tag, b)) =
    let code : ℕ = code_of tag in
    let here : Unread = rest b.behind unread.budget in
    let test : eqb code 0 ≡ false = let c = (code_small tag).1 in ne_eqb code 0 (omega arith) in
    ap (λ (t : List ℕ). binary_field last (rest t unread.budget)) b.whole
    ∙ goes_on (byte (rest (code ∷ b.behind) unread.budget)) (λ code. header_coded code) code here _ (byte_given code b.behind unread.budget)
    (ap (λ (z : Bool). cond z (give stop) (tag_coded code >>= field_of_tag) here) test
    ∙ goes_on (tag_coded code here) field_of_tag tag here _ (tag_given tag here)
    (fails (signed w16 here) (λ id. give (typed id tag)) Short (fixed_short 2 (signed_of w16) here b.such)))
field_fault_only last unread (BadType code) (none, some, b) =
    let here : Unread = rest b.behind unread.budget in
    ap (λ (t : List ℕ). binary_field last (rest t unread.budget)) b.whole
    ∙ goes_on (byte (rest (code ∷ b.behind) unread.budget)) (λ code. header_coded code) code here _ (byte_given code b.behind unread.budget)
    (ap (λ (z : Bool). cond z (give stop) (tag_coded code >>= field_of_tag) here) (ne_eqb code 0 some)
    ∙ fails (tag_coded code here) field_of_tag (BadType code) (tag_refused code here none))
field_fault_only last unread fault h = absurd h

-- ---- numbers and bools

scalar_fault_is : (tag : Tag) (fault : WireFault) (bytes : List ℕ) → fault ≡ Short → length bytes < scalar_len tag → HasScalarFault tag fault bytes
scalar_fault_is tag fault bytes is less = subst (λ (d : WireFault). HasScalarFault tag d bytes) (sym is) less

pub scalar_fault_found : (tag : Tag) → IsScalar tag → (unread : Unread) (fault : WireFault) → AreByteSized unread.bytes → binary_scalar tag unread ≡ Err fault → HasScalarFault tag fault unread.bytes
unfolding binary_scalar
scalar_fault_found tags.Bool is unread fault fits e =
    let s = byte_fault unread fault (given_no_fault (byte unread) (λ b. of_bool (eqb b 1)) fault (failed (byte unread) (λ b. give (of_bool (eqb b 1))) fault e)) in
    scalar_fault_is tags.Bool fault unread.bytes s.0 s.1
scalar_fault_found tags.I8 is unread fault fits e =
    let s = fixed_fault 1 (signed_of w8) unread fault (given_no_fault (signed w8 unread) (λ n. of_i8 n) fault (failed (signed w8 unread) (λ n. give (of_i8 n)) fault e)) in
    scalar_fault_is tags.I8 fault unread.bytes s.0 s.1
scalar_fault_found tags.I16 is unread fault fits e =
    let s = fixed_fault 2 (signed_of w16) unread fault (given_no_fault (signed w16 unread) (λ n. of_i16 n) fault (failed (signed w16 unread) (λ n. give (of_i16 n)) fault e)) in
    scalar_fault_is tags.I16 fault unread.bytes s.0 s.1
scalar_fault_found tags.I32 is unread fault fits e =
    let s = fixed_fault 4 (signed_of w32) unread fault (given_no_fault (signed w32 unread) (λ n. of_i32 n) fault (failed (signed w32 unread) (λ n. give (of_i32 n)) fault e)) in
    scalar_fault_is tags.I32 fault unread.bytes s.0 s.1
scalar_fault_found tags.I64 is unread fault fits e =
    let s = fixed_fault 8 (signed_of w64) unread fault (given_no_fault (signed w64 unread) (λ n. of_i64 n) fault (failed (signed w64 unread) (λ n. give (of_i64 n)) fault e)) in
    scalar_fault_is tags.I64 fault unread.bytes s.0 s.1
scalar_fault_found tags.Double is unread fault fits e =
    let s = fixed_fault 8 (unsigned_of w64) unread fault (given_no_fault (unsigned w64 unread) (λ n. of_double n) fault (failed (unsigned w64 unread) (λ n. give (of_double n)) fault e)) in
    scalar_fault_is tags.Double fault unread.bytes s.0 s.1
scalar_fault_found tags.Uuid is unread fault fits e =
    let s = fixed_fault 16 (unsigned_of w128) unread fault (given_no_fault (unsigned w128 unread) (λ n. of_uuid n) fault (failed (unsigned w128 unread) (λ n. give (of_uuid n)) fault e)) in
    scalar_fault_is tags.Uuid fault unread.bytes s.0 s.1
scalar_fault_found tags.Bytes is unread fault fits e = absurd is
scalar_fault_found tags.Struct is unread fault fits e = absurd is
scalar_fault_found tags.Map is unread fault fits e = absurd is
scalar_fault_found tags.Set is unread fault fits e = absurd is
scalar_fault_found tags.List is unread fault fits e = absurd is

scalar_short : (tag : Tag) → IsScalar tag → (unread : Unread) → length unread.bytes < scalar_len tag → binary_scalar tag unread ≡ Err Short
unfolding binary_scalar
scalar_short tags.Bool is unread less = fails (byte unread) (λ b. give (of_bool (eqb b 1))) Short (byte_short unread less)
scalar_short tags.I8 is unread less = fails (signed w8 unread) (λ n. give (of_i8 n)) Short (fixed_short 1 (signed_of w8) unread less)
scalar_short tags.I16 is unread less = fails (signed w16 unread) (λ n. give (of_i16 n)) Short (fixed_short 2 (signed_of w16) unread less)
scalar_short tags.I32 is unread less = fails (signed w32 unread) (λ n. give (of_i32 n)) Short (fixed_short 4 (signed_of w32) unread less)
scalar_short tags.I64 is unread less = fails (signed w64 unread) (λ n. give (of_i64 n)) Short (fixed_short 8 (signed_of w64) unread less)
scalar_short tags.Double is unread less = fails (unsigned w64 unread) (λ n. give (of_double n)) Short (fixed_short 8 (unsigned_of w64) unread less)
scalar_short tags.Uuid is unread less = fails (unsigned w128 unread) (λ n. give (of_uuid n)) Short (fixed_short 16 (unsigned_of w128) unread less)
scalar_short tag is unread less = absurd is

pub scalar_fault_only : (tag : Tag) → IsScalar tag → (unread : Unread) (fault : WireFault) → HasScalarFault tag fault unread.bytes → binary_scalar tag unread ≡ Err fault
scalar_fault_only tag is unread Short h = scalar_short tag is unread h
scalar_fault_only tag is unread fault h = absurd h

-- ---- lengths and sizes

room_fault : (b : Bool) (size : ℕ) (unread middle : Unread) (fault : WireFault) → SignedFront w32 (pos size) unread middle → leb size (length middle.bytes) ≡ b
    → cond b (sized (size, middle)) (Err Short) ≡ Err fault → HasSizeFault fault unread.bytes
room_fault true size unread middle fault s test e = absurd cc
room_fault false size unread middle fault s test e =
    let is : fault ≡ Short = cc in
    let small : size < 2 ^ 31 = let f = s.fits.sfits in omega arith in
    subst (λ (d : WireFault). HasSizeFault d unread.bytes) (sym is) (inr (size, small, record { behind = middle.bytes; whole = s.whole; such = leb-false size (length middle.bytes) test }))

signed_size_fault : (z : ℤ) (unread middle : Unread) (fault : WireFault) → SignedFront w32 z unread middle → (unsigned_size z >>= λ size. within_room size) middle ≡ Err fault → HasSizeFault fault unread.bytes
signed_size_fault (pos size) unread middle fault s e = room_fault (leb size (length middle.bytes)) size unread middle fault s refl e
signed_size_fault (negsuc n) unread middle fault s e =
    let is : fault ≡ BadSize = cc in
    subst (λ (d : WireFault). HasSizeFault d unread.bytes) (sym is) (n, s.fits, record { behind = middle.bytes; whole = s.whole; such = tt })

pub size_fault_found : (unread : Unread) (fault : WireFault) → AreByteSized unread.bytes → binary_size unread ≡ Err fault → HasSizeFault fault unread.bytes
unfolding binary_size
size_fault_found unread fault fits e =
    elim (failed (signed w32 unread) (λ z. unsigned_size z >>= λ size. within_room size) fault e) [
      | inl cut ↦ let s = fixed_fault 4 (signed_of w32) unread fault cut in subst (λ (d : WireFault). HasSizeFault d unread.bytes) (sym s.0) (inl s.1)
      | inr on ↦ signed_size_fault on.0.0 unread on.0.1 fault (signed_found w32 wide_32 unread on.0.1 on.0.0 fits on.1) on.2
    ]

pub size_fault_only : (unread : Unread) (fault : WireFault) → HasSizeFault fault unread.bytes → binary_size unread ≡ Err fault
unfolding binary_size
size_fault_only unread Short (inl less) = fails (signed w32 unread) (λ z. unsigned_size z >>= λ size. within_room size) Short (fixed_short 4 (signed_of w32) unread less)
size_fault_only unread Short (inr (size, small, b)) =
    let here : Unread = rest b.behind unread.budget in
    ap (λ (t : List ℕ). binary_size (rest t unread.budget)) b.whole
    ∙ goes_on (signed w32 (rest (signed_bytes w32 (pos size) ++ b.behind) unread.budget)) (λ z. unsigned_size z >>= λ size. within_room size) (pos size) here _
    (signed_given w32 wide_32 (pos size) b.behind unread.budget (fits_signed_from_abs w32 (pos size) small))
    (ap (λ (z : Bool). cond z (sized (size, here)) (Err Short)) (lt-leb size (length b.behind) b.such))
size_fault_only unread BadSize (n, fits, b) =
    ap (λ (t : List ℕ). binary_size (rest t unread.budget)) b.whole
    ∙ goes_on (signed w32 (rest (signed_bytes w32 (negsuc n) ++ b.behind) unread.budget)) (λ z. unsigned_size z >>= λ size. within_room size) (negsuc n) (rest b.behind unread.budget) _
    (signed_given w32 wide_32 (negsuc n) b.behind unread.budget fits) refl
size_fault_only unread fault h = absurd h

-- so many bytes follow
room_enough : (b : Bool) (size n : ℕ) (middle after : Unread) → leb size (length middle.bytes) ≡ b → cond b (sized (size, middle)) (Err Short) ≡ Ok (n, after) → n ≤ length after.bytes
room_enough true size n middle after test e = subst (λ (y : ℕ × Unread). y.0 ≤ length y.1.bytes) (ok_is (size, middle) (n, after) e) (leb-true size (length middle.bytes) test)
room_enough false size n middle after test e = absurd cc

signed_enough : (z : ℤ) (n : ℕ) (middle after : Unread) → (unsigned_size z >>= λ size. within_room size) middle ≡ Ok (n, after) → n ≤ length after.bytes
signed_enough (pos size) n middle after e = room_enough (leb size (length middle.bytes)) size n middle after refl e
signed_enough (negsuc k) n middle after e = absurd cc

pub size_enough : (before after : Unread) (n : ℕ) → binary_size before ≡ Ok (n, after) → n ≤ length after.bytes
unfolding binary_size
size_enough before after n e =
    let one = went_on (signed w32 before) (λ z. unsigned_size z >>= λ size. within_room size) (n, after) e in
    signed_enough one.0.0 n one.0.1 after one.2

pub span_fault_found : (unread : Unread) (fault : WireFault) → AreByteSized unread.bytes → binary_span unread ≡ Err fault → HasSizeFault fault unread.bytes
unfolding binary_span
span_fault_found unread fault fits e =
    elim (failed (binary_size unread) (λ size. some_bytes size) fault e) [
      | inl bad ↦ size_fault_found unread fault fits bad
      | inr on ↦
          let u = uncounted_fault (decode_bytes on.0.0) on.0.1 fault on.2 in
          let f = front_fault on.0.0 on.0.1.bytes u.0 u.1 in
          let enough = size_enough unread on.0.1 on.0.0 on.1 in
          absurd (let less : length on.0.1.bytes < on.0.0 = f.1 in let x : ⊥ = omega arith in x)
    ]

pub span_fault_only : (unread : Unread) (fault : WireFault) → HasSizeFault fault unread.bytes → binary_span unread ≡ Err fault
unfolding binary_span
span_fault_only unread fault h = fails (binary_size unread) (λ size. some_bytes size) fault (size_fault_only unread fault h)

-- ---- headers of lists and sets

items_by_size : (code : ℕ) (fault : WireFault) (bytes behind : List ℕ) → bytes ≡ code ∷ behind → HasSizeFault fault behind → HasItemsFault fault bytes
items_by_size code Short bytes behind whole h = inr (code, record { behind = behind; whole = whole; such = h })
items_by_size code (BadType n) bytes behind whole h = absurd h
items_by_size code fault bytes behind whole h = (code, record { behind = behind; whole = whole; such = h })

abbrev items_of_tag : ℕ → Tag → Unread → Result ((Tag × ℕ) × Unread) WireFault
items_of_tag size tag = give (tag, size)

items_fault_if : (b : Bool) (code size : ℕ) (unread middle third : Unread) (fault : WireFault) → ByteFront code unread middle → SizeFront size middle third → size ≤ length third.bytes → eqb size 0 ≡ b
    → cond b (give (tags.Bool, size)) (tag_coded code >>= items_of_tag size) third ≡ Err fault → HasItemsFault fault unread.bytes
items_fault_if true code size unread middle third fault f s enough test e = absurd cc
items_fault_if false code size unread middle third fault f s enough test e =
    let t = tag_fault code third fault (given_no_fault (tag_coded code third) (λ tag. (tag, size)) fault (failed (tag_coded code third) (items_of_tag size) fault e)) in
    let some = eqb-false size 0 test in
    let one : 1 ≤ size = omega arith in
    subst (λ (d : WireFault). HasItemsFault d unread.bytes) (sym t.0)
    (t.1, size, one, s.small, record { behind = third.bytes; whole = f.whole ∙ ap (λ (x : List ℕ). code ∷ x) s.whole; such = enough })

pub items_fault_found : (unread : Unread) (fault : WireFault) → AreByteSized unread.bytes → binary_items unread ≡ Err fault → HasItemsFault fault unread.bytes
unfolding binary_items
items_fault_found unread fault fits e =
    elim (failed (byte unread) (λ code. binary_size >>= λ size. items_coded code size) fault e) [
      | inl cut ↦ let b = byte_fault unread fault cut in subst (λ (d : WireFault). HasItemsFault d unread.bytes) (sym b.0) (inl (none_is unread.bytes b.1))
      | inr on ↦
          let code = on.0.0 in
          let middle = on.0.1 in
          let f = byte_found unread middle code fits on.1 in
          let middle_fits = after_byte code unread middle f fits in
          elim (failed (binary_size middle) (λ size. items_coded code size) fault on.2) [
            | inl bad ↦ items_by_size code fault unread.bytes middle.bytes f.whole (size_fault_found middle fault middle_fits bad)
            | inr next ↦
                items_fault_if (eqb next.0.0 0) code next.0.0 unread middle next.0.1 fault f (size_found middle next.0.1 next.0.0 middle_fits next.1) (size_enough middle next.0.1 next.0.0 next.1) refl next.2
          ]
    ]

items_size_fault : (unread : Unread) (fault : WireFault) (code : ℕ) → Begins (code ∷ []) (HasSizeFault fault) unread.bytes → binary_items unread ≡ Err fault
unfolding binary_items
items_size_fault unread fault code b =
    let here : Unread = rest b.behind unread.budget in
    ap (λ (t : List ℕ). binary_items (rest t unread.budget)) b.whole
    ∙ goes_on (byte (rest (code ∷ b.behind) unread.budget)) (λ code. binary_size >>= λ size. items_coded code size) code here _ (byte_given code b.behind unread.budget)
    (fails (binary_size here) (λ size. items_coded code size) fault (size_fault_only here fault b.such))

pub items_fault_only : (unread : Unread) (fault : WireFault) → HasItemsFault fault unread.bytes → binary_items unread ≡ Err fault
unfolding binary_items
items_fault_only unread Short (inl none) =
    fails (byte unread) (λ code. binary_size >>= λ size. items_coded code size) Short (byte_short unread (let l : length unread.bytes ≡ 0 = ap length none in omega arith))
items_fault_only unread Short (inr (code, b)) = items_size_fault unread Short code b
items_fault_only unread (BadType code) (none, size, some, small, b) =
    let behind : List ℕ = unsigned_bytes w32 size ++ b.behind in
    let here : Unread = rest b.behind unread.budget in
    ap (λ (t : List ℕ). binary_items (rest t unread.budget)) b.whole
    ∙ goes_on (byte (rest (code ∷ behind) unread.budget)) (λ code. binary_size >>= λ size. items_coded code size) code (rest behind unread.budget) _ (byte_given code behind unread.budget)
    (goes_on (binary_size (rest behind unread.budget)) (λ size. items_coded code size) size here _ (size_given size b.behind unread.budget small b.such)
    (ap (λ (z : Bool). cond z (give (tags.Bool, size)) (tag_coded code >>= items_of_tag size) here) (ne_eqb size 0 (omega arith))
    ∙ fails (tag_coded code here) (items_of_tag size) (BadType code) (tag_refused code here none)))
items_fault_only unread fault h = items_size_fault unread fault h.0 h.1

-- ---- headers of maps

pairs_by_size : (key value : ℕ) (fault : WireFault) (bytes behind : List ℕ) → bytes ≡ key ∷ value ∷ behind → HasSizeFault fault behind → HasPairsFault fault bytes
pairs_by_size key value Short bytes behind whole h = inr (key, value, record { behind = behind; whole = whole; such = h })
pairs_by_size key value (BadType n) bytes behind whole h = absurd h
pairs_by_size key value fault bytes behind whole h = (key, value, record { behind = behind; whole = whole; such = h })

abbrev pairs_of_value : ℕ → Tag → Tag → Unread → Result ((Tag × Tag × ℕ) × Unread) WireFault
pairs_of_value size key_tag value_tag = give (key_tag, value_tag, size)

abbrev pairs_of_key : ℕ → ℕ → Tag → Unread → Result ((Tag × Tag × ℕ) × Unread) WireFault
pairs_of_key value size key_tag = tag_coded value >>= pairs_of_value size key_tag

pairs_fault_if : (b : Bool) (key value size : ℕ) (unread fourth : Unread) (fault : WireFault) → unread.bytes ≡ key ∷ value ∷ (unsigned_bytes w32 size ++ fourth.bytes) → size < 2 ^ 31 → size ≤ length fourth.bytes
    → eqb size 0 ≡ b → cond b (give (tags.Bool, tags.Bool, size)) (tag_coded key >>= pairs_of_key value size) fourth ≡ Err fault → HasPairsFault fault unread.bytes
pairs_fault_if true key value size unread fourth fault whole small enough test e = absurd cc
pairs_fault_if false key value size unread fourth fault whole small enough test e =
    let none = eqb-false size 0 test in
    let some : 1 ≤ size = omega arith in
    elim (failed (tag_coded key fourth) (pairs_of_key value size) fault e) [
      | inl bad ↦
          let t = tag_fault key fourth fault bad in
          subst (λ (d : WireFault). HasPairsFault d unread.bytes) (sym t.0) (t.1, size, some, small, inl (value, record { behind = fourth.bytes; whole = whole; such = enough }))
      | inr on ↦
          let k = tag_found key fourth on.0.1 on.0.0 on.1 in
          let t = tag_fault value on.0.1 fault (given_no_fault (tag_coded value on.0.1) (λ tag. (on.0.0, tag, size)) fault (failed (tag_coded value on.0.1) (pairs_of_value size on.0.0) fault on.2)) in
          subst (λ (d : WireFault). HasPairsFault d unread.bytes) (sym t.0)
          (t.1, size, some, small, inr (on.0.0, record { behind = fourth.bytes; whole = whole ∙ ap (λ (c : ℕ). c ∷ value ∷ (unsigned_bytes w32 size ++ fourth.bytes)) k.0; such = enough }))
    ]

pub pairs_fault_found : (unread : Unread) (fault : WireFault) → AreByteSized unread.bytes → binary_pairs unread ≡ Err fault → HasPairsFault fault unread.bytes
unfolding binary_pairs
pairs_fault_found unread fault fits e =
    elim (failed (byte unread) (λ key. byte >>= λ value. binary_size >>= λ size. pairs_coded key value size) fault e) [
      | inl cut ↦
          let b = byte_fault unread fault cut in
          let less : length unread.bytes < 1 = b.1 in
          subst (λ (d : WireFault). HasPairsFault d unread.bytes) (sym b.0) (inl (omega arith))
      | inr on ↦
          let key = on.0.0 in
          let second = on.0.1 in
          let f = byte_found unread second key fits on.1 in
          let second_fits = after_byte key unread second f fits in
          elim (failed (byte second) (λ value. binary_size >>= λ size. pairs_coded key value size) fault on.2) [
            | inl cut ↦
                let b = byte_fault second fault cut in
                let less : length second.bytes < 1 = b.1 in
                let len : length unread.bytes ≡ suc (length second.bytes) = ap length f.whole in
                subst (λ (d : WireFault). HasPairsFault d unread.bytes) (sym b.0) (inl (omega arith))
            | inr next ↦
                let value = next.0.0 in
                let third = next.0.1 in
                let s = byte_found second third value second_fits next.1 in
                let third_fits = after_byte value second third s second_fits in
                let whole : unread.bytes ≡ key ∷ value ∷ third.bytes = f.whole ∙ ap (λ (t : List ℕ). key ∷ t) s.whole in
                elim (failed (binary_size third) (λ size. pairs_coded key value size) fault next.2) [
                  | inl bad ↦ pairs_by_size key value fault unread.bytes third.bytes whole (size_fault_found third fault third_fits bad)
                  | inr end ↦
                      let n = size_found third end.0.1 end.0.0 third_fits end.1 in
                      pairs_fault_if (eqb end.0.0 0) key value end.0.0 unread end.0.1 fault (whole ∙ ap (λ (t : List ℕ). key ∷ value ∷ t) n.whole) n.small (size_enough third end.0.1 end.0.0 end.1) refl end.2
                ]
          ]
    ]

pairs_size_fault : (unread : Unread) (fault : WireFault) (key value : ℕ) → Begins (key ∷ value ∷ []) (HasSizeFault fault) unread.bytes → binary_pairs unread ≡ Err fault
unfolding binary_pairs
pairs_size_fault unread fault key value b =
    let here : Unread = rest b.behind unread.budget in
    ap (λ (t : List ℕ). binary_pairs (rest t unread.budget)) b.whole
    ∙ goes_on (byte (rest (key ∷ value ∷ b.behind) unread.budget)) (λ key. byte >>= λ value. binary_size >>= λ size. pairs_coded key value size) key (rest (value ∷ b.behind) unread.budget) _
    (byte_given key (value ∷ b.behind) unread.budget)
    (goes_on (byte (rest (value ∷ b.behind) unread.budget)) (λ value. binary_size >>= λ size. pairs_coded key value size) value here _ (byte_given value b.behind unread.budget)
    (fails (binary_size here) (λ size. pairs_coded key value size) fault (size_fault_only here fault b.such)))

-- two codes, or fewer bytes than that
pairs_cut : (bytes : List ℕ) (left : ℕ) → length bytes < 2 → binary_pairs (rest bytes left) ≡ Err Short
unfolding binary_pairs
pairs_cut [] left less = fails (byte (rest [] left)) (λ key. byte >>= λ value. binary_size >>= λ size. pairs_coded key value size) Short (byte_short (rest [] left) (omega arith))
pairs_cut (key ∷ []) left less =
    goes_on (byte (rest (key ∷ []) left)) (λ key. byte >>= λ value. binary_size >>= λ size. pairs_coded key value size) key (rest [] left) _ (byte_given key [] left)
    (fails (byte (rest [] left)) (λ value. binary_size >>= λ size. pairs_coded key value size) Short (byte_short (rest [] left) (omega arith)))
pairs_cut (key ∷ value ∷ more) left less = absurd (let f : ⊥ = omega arith in f)

pairs_type_fault : (unread : Unread) (key value size code : ℕ) (b : Begins (key ∷ value ∷ unsigned_bytes w32 size) (λ behind. size ≤ length behind) unread.bytes) → 1 ≤ size → size < 2 ^ 31
    → (tag_coded key >>= pairs_of_key value size) (rest b.behind unread.budget) ≡ Err (BadType code) → binary_pairs unread ≡ Err (BadType code)
unfolding binary_pairs
pairs_type_fault unread key value size code b some small e =
    let behind : List ℕ = unsigned_bytes w32 size ++ b.behind in
    let left : ℕ = unread.budget in
    ap (λ (t : List ℕ). binary_pairs (rest t left)) b.whole
    ∙ goes_on (byte (rest (key ∷ value ∷ behind) left)) (λ key. byte >>= λ value. binary_size >>= λ size. pairs_coded key value size) key (rest (value ∷ behind) left) _ (byte_given key (value ∷ behind) left)
    (goes_on (byte (rest (value ∷ behind) left)) (λ value. binary_size >>= λ size. pairs_coded key value size) value (rest behind left) _ (byte_given value behind left)
    (goes_on (binary_size (rest behind left)) (λ size. pairs_coded key value size) size (rest b.behind left) _ (size_given size b.behind left small b.such)
    (ap (λ (z : Bool). cond z (give (tags.Bool, tags.Bool, size)) (tag_coded key >>= pairs_of_key value size) (rest b.behind left)) (ne_eqb size 0 (omega arith)) ∙ e)))

pub pairs_fault_only : (unread : Unread) (fault : WireFault) → HasPairsFault fault unread.bytes → binary_pairs unread ≡ Err fault
pairs_fault_only unread Short (inl less) = pairs_cut unread.bytes unread.budget less
pairs_fault_only unread Short (inr (key, value, b)) = pairs_size_fault unread Short key value b
pairs_fault_only unread (BadType code) (none, size, some, small, inl (value, b)) =
    pairs_type_fault unread code value size code b some small
    (fails (tag_coded code (rest b.behind unread.budget)) (pairs_of_key value size) (BadType code) (tag_refused code (rest b.behind unread.budget) none))
pairs_fault_only unread (BadType code) (none, size, some, small, inr (key, b)) =
    let here : Unread = rest b.behind unread.budget in
    pairs_type_fault unread (code_of key) code size code b some small
    (goes_on (tag_coded (code_of key) here) (pairs_of_key code size) key here _ (tag_given key here)
    (fails (tag_coded code here) (pairs_of_value size key) (BadType code) (tag_refused code here none)))
pairs_fault_only unread fault h = pairs_size_fault unread fault h.0 h.1 h.2
