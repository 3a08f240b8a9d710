-- Headers of fields.
use Rattle.std.specs.Prelude.{ℤ, pos, negsuc, FitsSigned, ◌+ℤ◌, ◌-ℤ◌, ◌≤ℤ◌}
use Rattle.std.specs.Int.{w16, w32}
use Rattle.std.proofs.Common.{◌≡◌, inl, inr, ℕ, zero, suc, ◌+◌, ◌*◌, ◌/◌, ◌%◌, ◌^◌, ◌<◌, ◌≤◌, Bool, true, false, cond, eqb, ltb, List, [], ◌∷◌, ◌++◌, length, Result, Ok, Err, refl, sym, ap, subst, ◌∙◌, arith}
use Rattle.std.proofs.lemmas.Bool.{eqb-true, eqb-false, ne_eqb, ltb-true, ltb-false, lt-ltb, le-ltb}
use Rattle.std.proofs.lemmas.Int.{ints}
use Rattle.wire_num.specs.Encoded.{AreByteSized}
use Rattle.wire_num.specs.Varint.{varint_bytes}
use Rattle.wire_num.specs.Zigzag.{zigzag}
use Rattle.wire_num.proofs.Varints.{put_32}
use Rattle.thrift_value.specs.declared.tag.Tag.{Tag}
use Rattle.thrift_value.specs.declared.tag.Tag.TheVariants as tags
use Rattle.thrift_value.specs.declared.wire_fault.WireFault.{WireFault}
use Rattle.thrift_value.specs.declared.wire_fault.WireFault.TheVariants.{Short, BadType, LongVarint, FieldRange}
use Rattle.wire_model.specs.Decoder.{Unread, ◌>>=◌, give, fail}
use Rattle.wire_model.specs.Pieces.{byte, Begins}
use Rattle.wire_model.specs.Protocol.{IsInFront, StaysAs}
use Rattle.wire_model.specs.Wire.{FieldHeader, stop, typed, flagged}
use Rattle.wire_model.proofs.Pieces.{ByteFront, after_byte, byte_fault, byte_found, byte_given, byte_short, byte_stays, given_no_fault, none_is}
use Rattle.wire_model.proofs.Staying.{then_stays, give_stays, fail_stays}
use Rattle.wire_model.proofs.Steps.{went_on, goes_on, failed, fails, ok_is}
use Rattle.wire_model.proofs.Uncounted.{uncounted_found, uncounted_only, uncounted_stays}
use Rattle.compact_codec.specs.Codes.{flag_code, compact_code, IsCompactCode}
use Rattle.compact_codec.specs.Faults.{IsTakenCode, HasVarintFault, HasFieldFault}
use Rattle.compact_codec.specs.Numbers.{decode_short, IsShort}
use Rattle.compact_codec.specs.Reading.{compact_i16, tag_in_half, id_in_range, id_by_delta, header_by, header_in_byte, compact_field}
use Rattle.compact_codec.specs.Spelling.{IsIdBy, IsHeading, IsCompactHeader}
use Rattle.compact_codec.specs.Written.{short_delta, heading_with, heading_bytes}
use Rattle.compact_codec.proofs.CodeLaws.{tag_found, tag_given, taken_given, tag_refused, tag_fault, tag_stays, code_half, free_half}
use Rattle.compact_codec.proofs.ZigzagNumbers.{short_decodes, low_fits, low_is, short_small, short_faults, varint_fault_found, varint_fault_only}

abbrev rest : List ℕ → ℕ → Unread
rest bytes left = record { bytes = bytes; budget = left }

-- ---- ids

-- an id by a header's delta, with what stands behind the header's byte
record IdFront (last : ℤ) (delta : ℕ) (id : ℤ) (before after : Unread) : Type 0 where
  text : List ℕ
  id_by : IsIdBy last id delta text
  whole : before.bytes ≡ text ++ after.bytes
  budget : after.budget ≡ before.budget

-- an id that is in range is kept
record IsKeptId (z id : ℤ) (before after : Unread) : Type 0 where
  number : id ≡ z
  same : after ≡ before
  below : (n : ℕ) → z ≡ pos n → n < 2 ^ 15

pos_is : (m n : ℕ) → pos m ≡ pos n → m ≡ n
pos_is m n e = cc

range_if : (b : Bool) (n : ℕ) (id : ℤ) (before after : Unread) → ltb n (2 ^ 15) ≡ b → cond b (give (pos n)) (fail FieldRange) before ≡ Ok (id, after) → IsKeptId (pos n) id before after
range_if true n id before after test e =
    subst (λ (y : ℤ × Unread). IsKeptId (pos n) y.0 before y.1) (ok_is (pos n, before) (id, after) e)
    (record { number = refl; same = refl; below = λ m same. subst (λ (k : ℕ). k < 2 ^ 15) (pos_is n m same) (ltb-true n (2 ^ 15) test) })
range_if false n id before after test e = absurd cc

range_found : (z id : ℤ) (before after : Unread) → id_in_range z before ≡ Ok (id, after) → IsKeptId z id before after
range_found (pos n) id before after e = range_if (ltb n (2 ^ 15)) n id before after refl e
range_found (negsuc n) id before after e =
    subst (λ (y : ℤ × Unread). IsKeptId (negsuc n) y.0 before y.1) (ok_is (negsuc n, before) (id, after) e)
    (record { number = refl; same = refl; below = λ m same. absurd (let f : ⊥ = cc in f) })

above_fits : (z last : ℤ) (delta : ℕ) → FitsSigned w16 last → z ≡ last +ℤ pos delta → ((n : ℕ) → z ≡ pos n → n < 2 ^ 15) → FitsSigned w16 z
above_fits (pos n) last delta fits e below = record { sfits = below n refl }
above_fits (negsuc n) (pos m) delta fits e below = absurd (let f : ⊥ = omega (arith, ints, e) in f)
above_fits (negsuc n) (negsuc m) delta fits e below = record { sfits = let s = fits.sfits in omega (arith, ints, e) }

id_above : (last : ℤ) (delta : ℕ) (id : ℤ) → (delta ≡ 0 → ⊥) → delta < 16 → id ≡ last +ℤ pos delta → FitsSigned w16 id → IsIdBy last id delta []
id_above last zero id some small e fits = absurd (some refl)
id_above last (suc n) id some small e fits = (small, e, fits, refl)

id_found_if : (b : Bool) (last : ℤ) (delta : ℕ) (id : ℤ) (before after : Unread) → FitsSigned w16 last → AreByteSized before.bytes → delta < 16 → eqb delta 0 ≡ b
    → cond b compact_i16 (id_in_range (last +ℤ pos delta)) before ≡ Ok (id, after) → IdFront last delta id before after
id_found_if true last delta id before after last_fits fits small test e =
    let f = uncounted_found decode_short IsShort short_decodes before after id fits e in
    record { text = f.text; id_by = subst (λ (k : ℕ). IsIdBy last id k f.text) (sym (eqb-true delta 0 test)) f.spells; whole = f.whole; budget = f.budget }
id_found_if false last delta id before after last_fits fits small test e =
    let r = range_found (last +ℤ pos delta) id before after e in
    record {
      text = [];
      id_by = id_above last delta id (eqb-false delta 0 test) small r.number
          (subst (FitsSigned w16) (sym r.number) (above_fits (last +ℤ pos delta) last delta last_fits refl r.below));
      whole = ap (λ (u : Unread). u.bytes) (sym r.same);
      budget = ap (λ (u : Unread). u.budget) r.same;
    }

range_given : (id : ℤ) (r : Unread) → FitsSigned w16 id → id_in_range id r ≡ Ok (id, r)
range_given (pos n) r fits = ap (λ (b : Bool). cond b (give (pos n)) (fail FieldRange) r) (lt-ltb n (2 ^ 15) fits.sfits)
range_given (negsuc n) r fits = refl

id_given : (last id : ℤ) (delta : ℕ) (behind more : List ℕ) (left : ℕ) → IsIdBy last id delta behind → id_by_delta last delta (rest (behind ++ more) left) ≡ Ok (id, rest more left)
id_given last id zero behind more left is = uncounted_only decode_short IsShort short_decodes id behind more left is
id_given last id (suc n) behind more left (small, above, fits, none) =
    ap (λ (t : List ℕ). id_by_delta last (suc n) (rest (t ++ more) left)) none
    ∙ ap (λ (b : Bool). cond b compact_i16 (id_in_range (last +ℤ pos (suc n))) (rest more left)) (ne_eqb (suc n) 0 (omega arith))
    ∙ ap (λ (z : ℤ). id_in_range z (rest more left)) (sym above)
    ∙ range_given id (rest more left) fits

id_stays : (b : Bool) (z : ℤ) → StaysAs (cond b compact_i16 (id_in_range z)) (cond b compact_i16 (id_in_range z))
id_stays true z = uncounted_stays decode_short IsShort short_decodes
id_stays false (negsuc n) = give_stays (negsuc n)
id_stays false (pos n) = range_stays (ltb n (2 ^ 15)) n
  where
    range_stays : (b : Bool) (n : ℕ) → StaysAs (cond b (give (pos n)) (fail FieldRange)) (cond b (give (pos n)) (fail FieldRange))
    range_stays true n = give_stays (pos n)
    range_stays false n = fail_stays FieldRange

-- ---- what follows a header's byte

abbrev with_id : ℕ → Tag → ℤ → Unread → Result (FieldHeader × Unread) WireFault
with_id code tag id = give (header_by code tag id)

abbrev with_tag : ℤ → ℕ → ℕ → Tag → Unread → Result (FieldHeader × Unread) WireFault
with_tag last code delta tag = id_by_delta last delta >>= with_id code tag

abbrev by_halves : ℤ → ℕ → ℕ → Unread → Result (FieldHeader × Unread) WireFault
by_halves last code delta = tag_in_half code >>= with_tag last code delta

abbrev by_test : Bool → ℤ → ℕ → Unread → Result (FieldHeader × Unread) WireFault
by_test b last x = cond b (give stop) (by_halves last (x % 16) (x / 16))

-- the header that a code and a heading make
by_code : (tag : Tag) (code : ℕ) (last id : ℤ) (text : List ℕ) → IsCompactCode tag code → IsHeading last id code text → IsCompactHeader last (header_by code tag id) text
by_code tags.Bool code last id text (inl e) h = subst (λ (k : ℕ). IsHeading last id k text → IsCompactHeader last (flagged id (eqb k 1)) text) (sym e) (λ g. g) h
by_code tags.Bool code last id text (inr e) h = subst (λ (k : ℕ). IsHeading last id k text → IsCompactHeader last (flagged id (eqb k 1)) text) (sym e) (λ g. g) h
by_code tags.I8 code last id text e h = subst (λ (k : ℕ). IsHeading last id k text) e h
by_code tags.I16 code last id text e h = subst (λ (k : ℕ). IsHeading last id k text) e h
by_code tags.I32 code last id text e h = subst (λ (k : ℕ). IsHeading last id k text) e h
by_code tags.I64 code last id text e h = subst (λ (k : ℕ). IsHeading last id k text) e h
by_code tags.Double code last id text e h = subst (λ (k : ℕ). IsHeading last id k text) e h
by_code tags.Bytes code last id text e h = subst (λ (k : ℕ). IsHeading last id k text) e h
by_code tags.Struct code last id text e h = subst (λ (k : ℕ). IsHeading last id k text) e h
by_code tags.Map code last id text e h = subst (λ (k : ℕ). IsHeading last id k text) e h
by_code tags.Set code last id text e h = subst (λ (k : ℕ). IsHeading last id k text) e h
by_code tags.List code last id text e h = subst (λ (k : ℕ). IsHeading last id k text) e h
by_code tags.Uuid code last id text e h = subst (λ (k : ℕ). IsHeading last id k text) e h

-- a byte is its halves
pub halves : (x : ℕ) → x ≡ 16 * (x / 16) + x % 16
halves x = omega arith

head_found_if : (b : Bool) (last : ℤ) (x : ℕ) (before middle after : Unread) (h : FieldHeader) → FitsSigned w16 last → AreByteSized before.bytes → ByteFront x before middle → eqb x 0 ≡ b
    → by_test b last x middle ≡ Ok (h, after) → IsInFront (IsCompactHeader last) h before after
head_found_if true last x before middle after h last_fits fits f test e =
    subst (λ (y : FieldHeader × Unread). IsInFront (IsCompactHeader last) y.0 before y.1) (ok_is (stop, middle) (h, after) e)
    (record { text = 0 ∷ []; whole = f.whole ∙ ap (λ (k : ℕ). k ∷ middle.bytes) (eqb-true x 0 test); spells = refl; budget = f.budget })
head_found_if false last x before middle after h last_fits fits f test e =
    let code : ℕ = x % 16 in
    let delta : ℕ = x / 16 in
    let one = went_on (tag_in_half code middle) (with_tag last code delta) (h, after) e in
    let tag = one.0.0 in
    let third = one.0.1 in
    let t = tag_found code middle third tag one.1 in
    let two = went_on (id_by_delta last delta third) (with_id code tag) (h, after) one.2 in
    let id = two.0.0 in
    let small = f.small in
    let third_fits : AreByteSized third.bytes = subst (λ (r : Unread). AreByteSized r.bytes) (sym t.1) (after_byte x before middle f fits) in
    let i = id_found_if (eqb delta 0) last delta id third two.0.1 last_fits third_fits (omega arith) refl two.1 in
    subst (λ (y : FieldHeader × Unread). IsInFront (IsCompactHeader last) y.0 before y.1) (ok_is (header_by code tag id, two.0.1) (h, after) two.2)
    (record {
      text = x ∷ i.text;
      whole = f.whole ∙ ap (λ (r : Unread). x ∷ r.bytes) (sym t.1) ∙ ap (λ (r : List ℕ). x ∷ r) i.whole;
      spells = by_code tag code last id (x ∷ i.text) t.0.0 (record { delta = delta; behind = i.text; id_by = i.id_by; whole = ap (λ (k : ℕ). k ∷ i.text) (halves x) });
      budget = i.budget ∙ ap (λ (r : Unread). r.budget) t.1 ∙ f.budget;
    })

pub field_found : (last : ℤ) → FitsSigned w16 last → (before after : Unread) (h : FieldHeader) → AreByteSized before.bytes → compact_field last before ≡ Ok (h, after) → IsInFront (IsCompactHeader last) h before after
unfolding compact_field
field_found last last_fits before after h fits e =
    let one = went_on (byte before) (λ x. header_in_byte last x) (h, after) e in
    head_found_if (eqb one.0.0 0) last one.0.0 before one.0.1 after h last_fits fits (byte_found before one.0.1 one.0.0 fits one.1) refl one.2

-- once a byte that isn't 0 is read, its halves decide
in_halves : (last : ℤ) (code delta : ℕ) (behind : List ℕ) (left : ℕ) → code < 16 → 0 < delta + code
    → compact_field last (rest ((16 * delta + code) ∷ behind) left) ≡ by_halves last code delta (rest behind left)
unfolding compact_field
in_halves last code delta behind left small some =
    let x : ℕ = 16 * delta + code in
    goes_on (byte (rest (x ∷ behind) left)) (λ x. header_in_byte last x) x (rest behind left) _ (byte_given x behind left)
    (ap (λ (b : Bool). by_test b last x (rest behind left)) (ne_eqb x 0 (omega arith))
    ∙ ap (λ (k : ℕ). by_halves last k (x / 16) (rest behind left)) (let e : (16 * delta + code) % 16 ≡ code = omega arith in e)
    ∙ ap (λ (k : ℕ). by_halves last code k (rest behind left)) (let e : (16 * delta + code) / 16 ≡ delta = omega arith in e))

heading_only : (last id : ℤ) (code : ℕ) (tag : Tag) (text more : List ℕ) (left : ℕ) → IsCompactCode tag code → IsHeading last id code text
    → compact_field last (rest (text ++ more) left) ≡ Ok (header_by code tag id, rest more left)
heading_only last id code tag text more left coded h =
    let half = code_half tag code coded in
    let here : Unread = rest (h.behind ++ more) left in
    ap (λ (t : List ℕ). compact_field last (rest (t ++ more) left)) h.whole
    ∙ in_halves last code h.delta (h.behind ++ more) left half.1 (omega (arith, half.0))
    ∙ goes_on (tag_in_half code here) (with_tag last code h.delta) tag here _ (tag_given tag code here coded)
    (goes_on (id_by_delta last h.delta here) (with_id code tag) id (rest more left) _ (id_given last id h.delta h.behind more left h.id_by) refl)

stop_only : (last : ℤ) (text more : List ℕ) (left : ℕ) → text ≡ 0 ∷ [] → compact_field last (rest (text ++ more) left) ≡ Ok (stop, rest more left)
unfolding compact_field
stop_only last text more left is =
    ap (λ (t : List ℕ). compact_field last (rest (t ++ more) left)) is ∙ goes_on (byte (rest (0 ∷ more) left)) (λ x. header_in_byte last x) 0 (rest more left) _ (byte_given 0 more left) refl

pub field_only : (last : ℤ) (h : FieldHeader) (text more : List ℕ) (left : ℕ) → IsCompactHeader last h text → compact_field last (rest (text ++ more) left) ≡ Ok (h, rest more left)
field_only last stop text more left is = stop_only last text more left is
field_only last (typed id tags.Bool) text more left is = absurd is
field_only last (typed id tags.I8) text more left is = heading_only last id 3 tags.I8 text more left refl is
field_only last (typed id tags.I16) text more left is = heading_only last id 4 tags.I16 text more left refl is
field_only last (typed id tags.I32) text more left is = heading_only last id 5 tags.I32 text more left refl is
field_only last (typed id tags.I64) text more left is = heading_only last id 6 tags.I64 text more left refl is
field_only last (typed id tags.Double) text more left is = heading_only last id 7 tags.Double text more left refl is
field_only last (typed id tags.Bytes) text more left is = heading_only last id 8 tags.Bytes text more left refl is
field_only last (typed id tags.List) text more left is = heading_only last id 9 tags.List text more left refl is
field_only last (typed id tags.Set) text more left is = heading_only last id 10 tags.Set text more left refl is
field_only last (typed id tags.Map) text more left is = heading_only last id 11 tags.Map text more left refl is
field_only last (typed id tags.Struct) text more left is = heading_only last id 12 tags.Struct text more left refl is
field_only last (typed id tags.Uuid) text more left is = heading_only last id 13 tags.Uuid text more left refl is
field_only last (flagged id true) text more left is = heading_only last id 1 tags.Bool text more left (inl refl) is
field_only last (flagged id false) text more left is = heading_only last id 2 tags.Bool text more left (inr refl) is

heading_byte : (last id : ℤ) (code : ℕ) (text : List ℕ) → IsHeading last id code text → 1 ≤ length text
heading_byte last id code text h = let l : length text ≡ suc (length h.behind) = ap length h.whole in omega arith

-- the heading of a header that isn't the end
pub typed_heading : (last id : ℤ) (tag : Tag) (text : List ℕ) → IsCompactHeader last (typed id tag) text → IsHeading last id (compact_code tag) text
typed_heading last id tags.Bool text is = absurd is
typed_heading last id tags.I8 text is = is
typed_heading last id tags.I16 text is = is
typed_heading last id tags.I32 text is = is
typed_heading last id tags.I64 text is = is
typed_heading last id tags.Double text is = is
typed_heading last id tags.Bytes text is = is
typed_heading last id tags.List text is = is
typed_heading last id tags.Set text is = is
typed_heading last id tags.Map text is = is
typed_heading last id tags.Struct text is = is
typed_heading last id tags.Uuid text is = is

pub field_byte : (last : ℤ) (h : FieldHeader) (text : List ℕ) → IsCompactHeader last h text → 1 ≤ length text
field_byte last stop text is = let l : length text ≡ 1 = ap length is in omega arith
field_byte last (typed id tag) text is = heading_byte last id (compact_code tag) text (typed_heading last id tag text is)
field_byte last (flagged id flag) text is = heading_byte last id (flag_code flag) text is

id_range : (last id : ℤ) (delta : ℕ) (behind : List ℕ) → IsIdBy last id delta behind → FitsSigned w16 id
id_range last id zero behind is = subst (FitsSigned w16) (sym is.2) (low_fits is.0)
id_range last id (suc n) behind is = is.2

pub heading_range : (last id : ℤ) (code : ℕ) (text : List ℕ) → IsHeading last id code text → FitsSigned w16 id
heading_range last id code text h = id_range last id h.delta h.behind h.id_by

-- ---- what is written

alone : (last id : ℤ) (code : ℕ) → FitsSigned w16 id → IsHeading last id code (code ∷ varint_bytes w32 (zigzag id))
alone last id code fits = record {
  delta = 0;
  behind = varint_bytes w32 (zigzag id);
  id_by = (id, put_32 (zigzag id) (short_small id fits), sym (low_is id fits));
  whole = ap (λ (k : ℕ). k ∷ varint_bytes w32 (zigzag id)) (let e : code ≡ 16 * 0 + code = omega arith in e);
}

near : (last id : ℤ) (code n : ℕ) → FitsSigned w16 id → n < 16 → pos n ≡ id -ℤ last → IsHeading last id code (heading_with code id n)
near last id code zero fits small e = alone last id code fits
near last id code (suc n) fits small e =
    subst (λ (b : Bool). IsHeading last id code (cond b (code ∷ varint_bytes w32 (zigzag id)) ((16 * suc n + code) ∷ []))) (sym (ne_eqb (suc n) 0 (omega arith)))
    (record { delta = suc n; behind = []; id_by = (small, (let a : id ≡ last +ℤ pos (suc n) = omega (arith, ints, e) in a), fits, refl); whole = refl })

near_if : (b : Bool) (last id : ℤ) (code n : ℕ) → FitsSigned w16 id → ltb n 16 ≡ b → pos n ≡ id -ℤ last → IsHeading last id code (heading_with code id (cond b n 0))
near_if true last id code n fits test e = near last id code n fits (ltb-true n 16 test) e
near_if false last id code n fits test e = alone last id code fits

by_distance : (z last id : ℤ) (code : ℕ) → FitsSigned w16 id → z ≡ id -ℤ last → IsHeading last id code (heading_with code id (short_delta z))
by_distance (pos n) last id code fits e = near_if (ltb n 16) last id code n fits refl e
by_distance (negsuc n) last id code fits e = alone last id code fits

pub heading_written : (last id : ℤ) (code : ℕ) → FitsSigned w16 id → IsHeading last id code (heading_bytes code last id)
heading_written last id code fits = by_distance (id -ℤ last) last id code fits refl

-- a header with no delta has the id behind it
pub no_delta : (last id : ℤ) (code n z : ℕ) → n ≡ short_delta (id -ℤ last) → n ≡ 0 → z ≡ zigzag id → code ∷ varint_bytes w32 z ≡ heading_bytes code last id
no_delta last id code n z is none same =
    ap (λ (k : ℕ). code ∷ varint_bytes w32 k) same ∙ ap (heading_with code id) (let e : 0 ≡ short_delta (id -ℤ last) = sym none ∙ is in e)

-- the byte of a header with a delta
with_delta : (code n : ℕ) (id : ℤ) → (n ≡ 0 → ⊥) → (16 * n + code) ∷ [] ≡ heading_with code id n
with_delta code n id some = sym (ap (λ (b : Bool). cond b (code ∷ varint_bytes w32 (zigzag id)) ((16 * n + code) ∷ [])) (ne_eqb n 0 some))

pub some_delta : (last id : ℤ) (code n : ℕ) → n ≡ short_delta (id -ℤ last) → (n ≡ 0 → ⊥) → (16 * n + code) ∷ [] ≡ heading_bytes code last id
some_delta last id code n is some = with_delta code n id some ∙ ap (heading_with code id) is

-- ---- the first fault

range_fault_if : (b : Bool) (n : ℕ) (unread : Unread) (fault : WireFault) → ltb n (2 ^ 15) ≡ b → cond b (give (pos n)) (fail FieldRange) unread ≡ Err fault → (fault ≡ FieldRange) × (2 ^ 15 ≤ n)
range_fault_if true n unread fault test e = absurd cc
range_fault_if false n unread fault test e = (cc, ltb-false n (2 ^ 15) test)

range_fault : (z : ℤ) (unread : Unread) (fault : WireFault) → id_in_range z unread ≡ Err fault → (fault ≡ FieldRange) × (pos (2 ^ 15) ≤ℤ z)
range_fault (pos n) unread fault e = let r = range_fault_if (ltb n (2 ^ 15)) n unread fault refl e in (r.0, let l = r.1 in omega (arith, ints))
range_fault (negsuc n) unread fault e = absurd cc

range_fails : (z : ℤ) (unread : Unread) → pos (2 ^ 15) ≤ℤ z → id_in_range z unread ≡ Err FieldRange
range_fails (pos n) unread large = ap (λ (b : Bool). cond b (give (pos n)) (fail FieldRange) unread) (le-ltb n (2 ^ 15) (omega (arith, ints, large)))
range_fails (negsuc n) unread large = absurd (let f : ⊥ = omega (arith, ints, large) in f)

-- a varint of an id that is at fault
by_id : (last : ℤ) (fault : WireFault) (code : ℕ) (bytes behind : List ℕ) → IsTakenCode code → bytes ≡ code ∷ behind → HasVarintFault 5 fault behind → HasFieldFault last fault bytes
by_id last Short code bytes behind taken whole h = inr (code, taken, record { behind = behind; whole = whole; such = h })
by_id last LongVarint code bytes behind taken whole h = (code, taken, record { behind = behind; whole = whole; such = h })
by_id last fault code bytes behind taken whole h = absurd h

id_fault_if : (b : Bool) (last : ℤ) (x : ℕ) (unread middle : Unread) (fault : WireFault) → unread.bytes ≡ x ∷ middle.bytes → x < 256 → IsTakenCode (x % 16) → eqb (x / 16) 0 ≡ b
    → cond b compact_i16 (id_in_range (last +ℤ pos (x / 16))) middle ≡ Err fault → HasFieldFault last fault unread.bytes
id_fault_if true last x unread middle fault whole small taken test e =
    let none : x / 16 ≡ 0 = eqb-true (x / 16) 0 test in
    let same : x ≡ x % 16 = omega arith in
    by_id last fault (x % 16) unread.bytes middle.bytes taken (whole ∙ ap (λ (k : ℕ). k ∷ middle.bytes) same) (varint_fault_found decode_short 5 short_faults middle fault e)
id_fault_if false last x unread middle fault whole small taken test e =
    let r = range_fault (last +ℤ pos (x / 16)) middle fault e in
    let some : x / 16 ≡ 0 → ⊥ = eqb-false (x / 16) 0 test in
    subst (λ (d : WireFault). HasFieldFault last d unread.bytes) (sym r.0)
    (x / 16, x % 16, omega arith, omega arith, taken, r.1, record { behind = middle.bytes; whole = whole ∙ ap (λ (k : ℕ). k ∷ middle.bytes) (halves x); such = tt })

head_fault_if : (b : Bool) (last : ℤ) (x : ℕ) (unread middle : Unread) (fault : WireFault) → ByteFront x unread middle → eqb x 0 ≡ b → by_test b last x middle ≡ Err fault → HasFieldFault last fault unread.bytes
head_fault_if true last x unread middle fault f test e = absurd cc
head_fault_if false last x unread middle fault f test e =
    let small = f.small in
    let some : x ≡ 0 → ⊥ = eqb-false x 0 test in
    elim (failed (tag_in_half (x % 16) middle) (with_tag last (x % 16) (x / 16)) fault e) [
      | inl bad ↦
          let t = tag_fault (x % 16) middle fault (omega arith) bad in
          subst (λ (d : WireFault). HasFieldFault last d unread.bytes) (sym t.0)
          (t.1, (x / 16, omega arith, omega arith, record { behind = middle.bytes; whole = f.whole ∙ ap (λ (k : ℕ). k ∷ middle.bytes) (halves x); such = tt }))
      | inr on ↦
          let t = tag_found (x % 16) middle on.0.1 on.0.0 on.1 in
          let id_bad = given_no_fault (id_by_delta last (x / 16) on.0.1) (header_by (x % 16) on.0.0) fault (failed (id_by_delta last (x / 16) on.0.1) (with_id (x % 16) on.0.0) fault on.2) in
          id_fault_if (eqb (x / 16) 0) last x unread on.0.1 fault (f.whole ∙ ap (λ (r : Unread). x ∷ r.bytes) (sym t.1)) small t.0.1 refl id_bad
    ]

pub field_fault_found : (last : ℤ) (unread : Unread) (fault : WireFault) → AreByteSized unread.bytes → compact_field last unread ≡ Err fault → HasFieldFault last fault unread.bytes
unfolding compact_field
field_fault_found last unread fault fits e =
    elim (failed (byte unread) (λ x. header_in_byte last x) fault e) [
      | inl cut ↦ let b = byte_fault unread fault cut in subst (λ (d : WireFault). HasFieldFault last d unread.bytes) (sym b.0) (inl (none_is unread.bytes b.1))
      | inr on ↦ head_fault_if (eqb on.0.0 0) last on.0.0 unread on.0.1 fault (byte_found unread on.0.1 on.0.0 fits on.1) refl on.2
    ]

nothing_fails : (last : ℤ) (unread : Unread) → unread.bytes ≡ [] → compact_field last unread ≡ Err Short
unfolding compact_field
nothing_fails last unread none = fails (byte unread) (λ x. header_in_byte last x) Short (byte_short unread (let l : length unread.bytes ≡ 0 = ap length none in omega arith))

id_fails : (last : ℤ) (unread : Unread) (fault : WireFault) (code : ℕ) → IsTakenCode code → Begins (code ∷ []) (HasVarintFault 5 fault) unread.bytes → compact_field last unread ≡ Err fault
id_fails last unread fault code taken b =
    let here : Unread = rest b.behind unread.budget in
    let t = taken_given code here taken in
    let whole : unread.bytes ≡ (16 * 0 + code) ∷ b.behind = b.whole ∙ ap (λ (k : ℕ). k ∷ b.behind) (let e : code ≡ 16 * 0 + code = omega arith in e) in
    ap (λ (x : List ℕ). compact_field last (rest x unread.budget)) whole
    ∙ in_halves last code 0 b.behind unread.budget (let l = taken.1 in omega arith) (let l = taken.0 in omega arith)
    ∙ goes_on (tag_in_half code here) (with_tag last code 0) t.0 here _ t.1
    (fails (id_by_delta last 0 here) (with_id code t.0) fault (varint_fault_only decode_short 5 short_faults here fault b.such))

pub field_fault_only : (last : ℤ) (unread : Unread) (fault : WireFault) → HasFieldFault last fault unread.bytes → compact_field last unread ≡ Err fault
field_fault_only last unread Short (inl none) = nothing_fails last unread none
field_fault_only last unread Short (inr (code, taken, b)) = id_fails last unread Short code taken b
field_fault_only last unread (BadType code) (free, (delta, small, some, b)) =
    let here : Unread = rest b.behind unread.budget in
    ap (λ (x : List ℕ). compact_field last (rest x unread.budget)) b.whole
    ∙ in_halves last code delta b.behind unread.budget (free_half code free) some
    ∙ fails (tag_in_half code here) (with_tag last code delta) (BadType code) (tag_refused code here free)
field_fault_only last unread FieldRange (delta, code, some, small, taken, large, b) =
    let here : Unread = rest b.behind unread.budget in
    let t = taken_given code here taken in
    ap (λ (x : List ℕ). compact_field last (rest x unread.budget)) b.whole
    ∙ in_halves last code delta b.behind unread.budget (let l = taken.1 in omega arith) (omega arith)
    ∙ goes_on (tag_in_half code here) (with_tag last code delta) t.0 here _ t.1
    (fails (id_by_delta last delta here) (with_id code t.0) FieldRange
    (ap (λ (z : Bool). cond z compact_i16 (id_in_range (last +ℤ pos delta)) here) (ne_eqb delta 0 (omega arith)) ∙ range_fails (last +ℤ pos delta) here large))
field_fault_only last unread LongVarint (code, taken, b) = id_fails last unread LongVarint code taken b
field_fault_only last unread fault h = absurd h.2.such

-- ---- what stays

header_stays : (b : Bool) (last : ℤ) (code delta : ℕ) → StaysAs (cond b (give stop) (by_halves last code delta)) (cond b (give stop) (by_halves last code delta))
header_stays true last code delta = give_stays stop
header_stays false last code delta =
    then_stays (tag_in_half code) (tag_in_half code) (with_tag last code delta) (with_tag last code delta) (tag_stays code) (λ tag.
    then_stays (id_by_delta last delta) (id_by_delta last delta) (with_id code tag) (with_id code tag) (id_stays (eqb delta 0) (last +ℤ pos delta)) (λ id. give_stays (header_by code tag id)))

pub field_stays : (last : ℤ) → StaysAs (compact_field last) (compact_field last)
unfolding compact_field
field_stays last = then_stays byte byte (λ x. header_in_byte last x) (λ x. header_in_byte last x) byte_stays (λ x. header_stays (eqb x 0) last (x % 16) (x / 16))
