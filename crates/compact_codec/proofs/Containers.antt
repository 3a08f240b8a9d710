-- The headers of containers.
use Rattle.std.specs.Int.{w32}
use Rattle.std.proofs.Common.{◌≡◌, inl, inr, ℕ, zero, suc, ◌+◌, ◌*◌, ◌/◌, ◌%◌, ◌^◌, ◌<◌, ◌≤◌, Bool, true, false, cond, eqb, ltb, List, [], ◌∷◌, ◌++◌, length, Result, Ok, refl, sym, ap, subst, ◌∙◌, append_assoc, arith}
use Rattle.std.proofs.lemmas.Bool.{eqb-true, eqb-false, ne_eqb, ltb-true}
use Rattle.std.proofs.lemmas.List.{length-append}
use Rattle.wire_num.specs.Encoded.{AreByteSized}
use Rattle.wire_num.specs.Varint.{varint_bytes, IsVarint}
use Rattle.wire_num.proofs.Varints.{put_32}
use Rattle.thrift_value.specs.declared.tag.Tag.{Tag}
use Rattle.thrift_value.specs.declared.tag.Tag.TheVariants as tags
use Rattle.thrift_value.specs.declared.wire_fault.WireFault.{WireFault}
use Rattle.wire_model.specs.Decoder.{Unread, ◌>>=◌, give}
use Rattle.wire_model.specs.Pieces.{byte, within_room}
use Rattle.wire_model.specs.Protocol.{IsInFront, StaysAs, plain_tag}
use Rattle.wire_model.proofs.Pieces.{after_byte, byte_found, byte_given, byte_stays, room_stays}
use Rattle.wire_model.proofs.Staying.{then_stays, give_stays}
use Rattle.wire_model.proofs.Steps.{went_on, goes_on, ok_is, bytes_behind}
use Rattle.compact_codec.specs.Codes.{compact_code, IsCompactCode}
use Rattle.compact_codec.specs.Faults.{IsSizedHeader}
use Rattle.compact_codec.specs.Reading.{tag_in_half, compact_size, items_size, items_in_half, items_in_byte, compact_items, pairs_in_byte, pairs_of_size, compact_pairs}
use Rattle.compact_codec.specs.Spelling.{IsElementHalf, IsCompactItems, IsFullMap, IsCompactPairs}
use Rattle.compact_codec.specs.Written.{compact_items_header, compact_pairs_header}
use Rattle.compact_codec.proofs.CodeLaws.{tag_found, tag_given, tag_stays, code_half, written_code_is}
use Rattle.compact_codec.proofs.FieldHeaders.{halves}
use Rattle.compact_codec.proofs.ZigzagNumbers.{groups_some}
use Rattle.compact_codec.proofs.Sizes.{within_room_kept, within_room_given, size_found, size_given, size_stays}

abbrev rest : List ℕ → ℕ → Unread
rest bytes left = record { bytes = bytes; budget = left }

-- ---- the code of the elements

empty_half : (size code : ℕ) → size ≡ 0 → code < 16 → IsElementHalf tags.Bool size code
empty_half zero code e small = (refl, small)
empty_half (suc n) code e small = absurd (let f : ⊥ = omega arith in f)

full_half : (size code : ℕ) (tag : Tag) → (size ≡ 0 → ⊥) → IsCompactCode tag code → IsElementHalf tag size code
full_half zero code tag some is = absurd (some refl)
full_half (suc n) code tag some is = is

written_half : (size : ℕ) (tag : Tag) → IsElementHalf (plain_tag tag size) size (compact_code tag)
written_half zero tag = (refl, (code_half tag (compact_code tag) (written_code_is tag)).1)
written_half (suc n) tag = written_code_is tag

plain_half : (size code : ℕ) (tag : Tag) → IsElementHalf tag size code → plain_tag tag size ≡ tag
plain_half zero code tag is = sym is.0
plain_half (suc n) code tag is = refl

half_small : (size code : ℕ) (tag : Tag) → IsElementHalf tag size code → code < 16
half_small zero code tag is = is.1
half_small (suc n) code tag is = (code_half tag code is).1

-- ---- the size of a list or set

-- a size by the half of a header's byte, with what stands behind the byte
pub record HalfFront (half size : ℕ) (before after : Unread) : Type 0 where
  pub text : List ℕ
  pub whole : before.bytes ≡ text ++ after.bytes
  pub sized : (code : ℕ) → IsSizedHeader code size ((16 * half + code) ∷ text)
  pub small : size < 2 ^ 31
  pub enough : size ≤ length after.bytes
  pub budget : after.budget ≡ before.budget

half_if : (b : Bool) (half size : ℕ) (before after : Unread) → AreByteSized before.bytes → half < 16 → eqb half 15 ≡ b → cond b compact_size (within_room half) before ≡ Ok (size, after) → HalfFront half size before after
half_if true half size before after fits low test e =
    let s = size_found before after size fits e in
    record {
      text = s.text;
      whole = s.whole;
      sized = λ code. inr (s.text, s.varint, ap (λ (k : ℕ). k ∷ s.text) (let is : half ≡ 15 = eqb-true half 15 test in let same : 16 * half + code ≡ 240 + code = omega arith in same));
      small = s.small;
      enough = s.enough;
      budget = s.budget;
    }
half_if false half size before after fits low test e =
    let r = within_room_kept half size before after e in
    let is = r.number in
    let other : half ≡ 15 → ⊥ = eqb-false half 15 test in
    record {
      text = [];
      whole = ap (λ (u : Unread). u.bytes) (sym r.same);
      sized = λ code. inl (omega arith, ap (λ (k : ℕ). (16 * k + code) ∷ []) (sym is));
      small = omega arith;
      enough = let same : length after.bytes ≡ length before.bytes = ap (λ (u : Unread). length u.bytes) r.same in let some = r.enough in omega arith;
      budget = ap (λ (u : Unread). u.budget) r.same;
    }

pub half_found : (half size : ℕ) (before after : Unread) → AreByteSized before.bytes → half < 16 → items_size half before ≡ Ok (size, after) → HalfFront half size before after
half_found half size before after fits low e = half_if (eqb half 15) half size before after fits low refl e

-- ---- lists and sets

record ItemsRead (code size : ℕ) (found : Tag × ℕ) (before after : Unread) : Type 0 where
  size_is : found.1 ≡ size
  coded : IsElementHalf found.0 size code
  same : after ≡ before

abbrev pub items_of_tag : ℕ → Tag → Unread → Result ((Tag × ℕ) × Unread) WireFault
items_of_tag size tag = give (tag, size)

abbrev pub items_by : Bool → ℕ → ℕ → Unread → Result ((Tag × ℕ) × Unread) WireFault
items_by b code size = cond b (give (tags.Bool, size)) (tag_in_half code >>= items_of_tag size)

abbrev pub by_size : ℕ → ℕ → Unread → Result ((Tag × ℕ) × Unread) WireFault
by_size code half = items_size half >>= λ size. items_in_half code size

items_if : (b : Bool) (code size : ℕ) (before after : Unread) (found : Tag × ℕ) → code < 16 → eqb size 0 ≡ b → items_by b code size before ≡ Ok (found, after) → ItemsRead code size found before after
items_if true code size before after found small test e =
    subst (λ (y : (Tag × ℕ) × Unread). ItemsRead code size y.0 before y.1) (ok_is ((tags.Bool, size), before) (found, after) e)
    (record { size_is = refl; coded = empty_half size code (eqb-true size 0 test) small; same = refl })
items_if false code size before after found small test e =
    let one = went_on (tag_in_half code before) (items_of_tag size) (found, after) e in
    let t = tag_found code before one.0.1 one.0.0 one.1 in
    subst (λ (y : (Tag × ℕ) × Unread). ItemsRead code size y.0 before y.1) (ok_is ((one.0.0, size), one.0.1) (found, after) one.2)
    (record { size_is = refl; coded = full_half size code one.0.0 (eqb-false size 0 test) t.0.0; same = t.1 })

pub items_found : (before after : Unread) (found : Tag × ℕ) → AreByteSized before.bytes → compact_items before ≡ Ok (found, after) → IsInFront (λ f. IsCompactItems f.0 f.1) found before after
unfolding compact_items
items_found before after found fits e =
    let one = went_on (byte before) (λ x. items_in_byte x) (found, after) e in
    let x = one.0.0 in
    let code : ℕ = x % 16 in
    let half : ℕ = x / 16 in
    let middle = one.0.1 in
    let b = byte_found before middle x fits one.1 in
    let low = b.small in
    let two = went_on (items_size half middle) (λ size. items_in_half code size) (found, after) one.2 in
    let size = two.0.0 in
    let third = two.0.1 in
    let s = half_found half size middle third (after_byte x before middle b fits) (omega arith) two.1 in
    let i = items_if (eqb size 0) code size third after found (omega arith) refl two.2 in
    record {
      text = x ∷ s.text;
      whole = b.whole ∙ ap (λ (t : List ℕ). x ∷ t) (s.whole ∙ ap (λ (r : Unread). s.text ++ r.bytes) (sym i.same));
      spells = record {
        code = code;
        coded = subst (λ (k : ℕ). IsElementHalf found.0 k code) (sym i.size_is) i.coded;
        size = subst (λ (k : ℕ). k < 2 ^ 31) (sym i.size_is) s.small;
        header = subst (λ (k : ℕ). IsSizedHeader code k (x ∷ s.text)) (sym i.size_is)
            (subst (λ (k : ℕ). IsSizedHeader code size (k ∷ s.text)) (sym (halves x)) (s.sized code));
      };
      budget = ap (λ (r : Unread). r.budget) i.same ∙ s.budget ∙ b.budget;
    }

items_half_given : (tag : Tag) (size code : ℕ) (r : Unread) → IsElementHalf tag size code → items_in_half code size r ≡ Ok ((tag, size), r)
items_half_given tag zero code r is = ap (λ (t : Tag). Ok ((t, zero), r)) (sym is.0)
items_half_given tag (suc n) code r is =
    ap (λ (b : Bool). items_by b code (suc n) r) (ne_eqb (suc n) 0 (omega arith))
    ∙ goes_on (tag_in_half code r) (items_of_tag (suc n)) tag r _ (tag_given tag code r is) refl

-- once a byte is read, its halves decide
pub in_item_halves : (code half : ℕ) (behind : List ℕ) (left : ℕ) → code < 16 → compact_items (rest ((16 * half + code) ∷ behind) left) ≡ by_size code half (rest behind left)
unfolding compact_items
in_item_halves code half behind left small =
    let x : ℕ = 16 * half + code in
    goes_on (byte (rest (x ∷ behind) left)) (λ x. items_in_byte x) x (rest behind left) _ (byte_given x behind left)
    (ap (λ (k : ℕ). by_size k (x / 16) (rest behind left)) (let e : (16 * half + code) % 16 ≡ code = omega arith in e)
    ∙ ap (λ (k : ℕ). by_size code k (rest behind left)) (let e : (16 * half + code) / 16 ≡ half = omega arith in e))

pub in_15 : (code : ℕ) (behind : List ℕ) (left : ℕ) → code < 16 → compact_items (rest ((240 + code) ∷ behind) left) ≡ by_size code 15 (rest behind left)
in_15 code behind left small =
    ap (λ (k : ℕ). compact_items (rest (k ∷ behind) left)) (let e : 240 + code ≡ 16 * 15 + code = omega arith in e) ∙ in_item_halves code 15 behind left small

pub short_half : (size : ℕ) (r : Unread) → size < 15 → items_size size r ≡ within_room size r
short_half size r small = ap (λ (b : Bool). cond b compact_size (within_room size) r) (ne_eqb size 15 (omega arith))

-- the header's size is read, whatever its code is
pub header_given : (code size : ℕ) (text more : List ℕ) (left : ℕ) → code < 16 → IsSizedHeader code size text → size < 2 ^ 31 → size ≤ length more
    → compact_items (rest (text ++ more) left) ≡ items_in_half code size (rest more left)
header_given code size text more left low (inl (small, is)) few enough =
    ap (λ (t : List ℕ). compact_items (rest (t ++ more) left)) is
    ∙ in_item_halves code size more left low
    ∙ goes_on (items_size size (rest more left)) (λ n. items_in_half code n) size (rest more left) _ (short_half size (rest more left) small ∙ within_room_given size more left enough) refl
header_given code size text more left low (inr (behind, is, whole)) few enough =
    ap (λ (t : List ℕ). compact_items (rest (t ++ more) left)) whole
    ∙ in_15 code (behind ++ more) left low
    ∙ goes_on (items_size 15 (rest (behind ++ more) left)) (λ n. items_in_half code n) size (rest more left) _ (size_given size behind more left is few enough) refl

pub items_only : (found : Tag × ℕ) (text more : List ℕ) (left : ℕ) → IsCompactItems found.0 found.1 text → found.1 ≤ length more → compact_items (rest (text ++ more) left) ≡ Ok (found, rest more left)
items_only found text more left is enough =
    header_given is.code found.1 text more left (half_small found.1 is.code found.0 is.coded) is.header is.size enough
    ∙ items_half_given found.0 found.1 is.code (rest more left) is.coded

header_byte : (code size : ℕ) (text : List ℕ) → IsSizedHeader code size text → 1 ≤ length text
header_byte code size text (inl (small, is)) = let l : length text ≡ 1 = ap length is in omega arith
header_byte code size text (inr (behind, is, whole)) = let l : length text ≡ suc (length behind) = ap length whole in omega arith

pub items_byte : (found : Tag × ℕ) (text : List ℕ) → IsCompactItems found.0 found.1 text → 1 ≤ length text
items_byte found text is = header_byte is.code found.1 text is.header

sized_if : (b : Bool) (code size : ℕ) → size < 2 ^ 31 → ltb size 15 ≡ b → IsSizedHeader code size (cond b ((16 * size + code) ∷ []) ((240 + code) ∷ varint_bytes w32 size))
sized_if true code size small test = inl (ltb-true size 15 test, refl)
sized_if false code size small test = inr (varint_bytes w32 size, put_32 size (omega (arith, small)), refl)

pub items_written : (tag : Tag) (size : ℕ) → size < 2 ^ 31 → IsCompactItems (plain_tag tag size) size (compact_items_header tag size)
items_written tag size small = record { code = compact_code tag; coded = written_half size tag; size = small; header = sized_if (ltb size 15) (compact_code tag) size small refl }

pub items_range : (tag : Tag) (size : ℕ) (text : List ℕ) → IsCompactItems tag size text → (size < 2 ^ 31) × (plain_tag tag size ≡ tag)
items_range tag size text is = (is.size, plain_half size is.code tag is.coded)

items_stay_if : (b : Bool) (code size : ℕ) → StaysAs (items_by b code size) (items_by b code size)
items_stay_if true code size = give_stays (tags.Bool, size)
items_stay_if false code size = then_stays (tag_in_half code) (tag_in_half code) (items_of_tag size) (items_of_tag size) (tag_stays code) (λ tag. give_stays (tag, size))

half_stays : (b : Bool) (half : ℕ) → StaysAs (cond b compact_size (within_room half)) (cond b compact_size (within_room half))
half_stays true half = size_stays
half_stays false half = room_stays half

pub items_stay : StaysAs compact_items compact_items
unfolding compact_items
items_stay =
    then_stays byte byte (λ x. items_in_byte x) (λ x. items_in_byte x) byte_stays (λ x.
    then_stays (items_size (x / 16)) (items_size (x / 16)) (λ size. items_in_half (x % 16) size) (λ size. items_in_half (x % 16) size) (half_stays (eqb (x / 16) 15) (x / 16))
    (λ size. items_stay_if (eqb size 0) (x % 16) size))

-- ---- maps

abbrev pub pairs_of_tags : ℕ → Tag → Tag → Unread → Result ((Tag × Tag × ℕ) × Unread) WireFault
pairs_of_tags size key_tag value_tag = give (key_tag, value_tag, size)

abbrev pub pairs_of_key : ℕ → ℕ → Tag → Unread → Result ((Tag × Tag × ℕ) × Unread) WireFault
pairs_of_key value size key_tag = tag_in_half value >>= pairs_of_tags size key_tag

abbrev pub pairs_by : Bool → ℕ → Unread → Result ((Tag × Tag × ℕ) × Unread) WireFault
pairs_by b size = cond b (give (tags.Bool, tags.Bool, size)) (byte >>= λ x. pairs_in_byte size x)

-- the codes of a map that isn't empty
record KeysRead (size : ℕ) (found : Tag × Tag × ℕ) (before after : Unread) : Type 0 where
  key_code : ℕ
  value_code : ℕ
  key_coded : IsCompactCode found.0 key_code
  value_coded : IsCompactCode found.1 value_code
  size_is : found.2 ≡ size
  whole : before.bytes ≡ (16 * key_code + value_code) ∷ after.bytes
  budget : after.budget ≡ before.budget

keys_found : (size : ℕ) (before after : Unread) (found : Tag × Tag × ℕ) → AreByteSized before.bytes → (byte >>= λ x. pairs_in_byte size x) before ≡ Ok (found, after) → KeysRead size found before after
keys_found size before after found fits e =
    let one = went_on (byte before) (λ x. pairs_in_byte size x) (found, after) e in
    let x = one.0.0 in
    let middle = one.0.1 in
    let b = byte_found before middle x fits one.1 in
    let two = went_on (tag_in_half (x / 16) middle) (pairs_of_key (x % 16) size) (found, after) one.2 in
    let t = tag_found (x / 16) middle two.0.1 two.0.0 two.1 in
    let three = went_on (tag_in_half (x % 16) two.0.1) (pairs_of_tags size two.0.0) (found, after) two.2 in
    let u = tag_found (x % 16) two.0.1 three.0.1 three.0.0 three.1 in
    subst (λ (y : (Tag × Tag × ℕ) × Unread). KeysRead size y.0 before y.1) (ok_is ((two.0.0, three.0.0, size), three.0.1) (found, after) three.2)
    (record {
      key_code = x / 16;
      value_code = x % 16;
      key_coded = t.0.0;
      value_coded = u.0.0;
      size_is = refl;
      whole = b.whole ∙ ap (λ (k : ℕ). k ∷ middle.bytes) (halves x) ∙ ap (λ (r : Unread). (16 * (x / 16) + x % 16) ∷ r.bytes) (sym (u.1 ∙ t.1));
      budget = ap (λ (r : Unread). r.budget) (u.1 ∙ t.1) ∙ b.budget;
    })

full_map : (key value : Tag) (size : ℕ) (text : List ℕ) → (size ≡ 0 → ⊥) → IsFullMap key value size text → IsCompactPairs key value size text
full_map key value zero text some is = absurd (some refl)
full_map key value (suc n) text some is = is

empty_map : (size : ℕ) (text : List ℕ) → size ≡ 0 → IsVarint w32 size text → IsCompactPairs tags.Bool tags.Bool size text
empty_map zero text e is = (refl, refl, is)
empty_map (suc n) text e is = absurd (let f : ⊥ = omega arith in f)

pairs_if : (b : Bool) (size : ℕ) (sized : List ℕ) (before middle after : Unread) (found : Tag × Tag × ℕ) → before.bytes ≡ sized ++ middle.bytes → middle.budget ≡ before.budget
    → AreByteSized middle.bytes → IsVarint w32 size sized → size < 2 ^ 31 → eqb size 0 ≡ b → pairs_by b size middle ≡ Ok (found, after) → IsInFront (λ f. IsCompactPairs f.0 f.1 f.2) found before after
pairs_if true size sized before middle after found whole budget fits is small test e =
    subst (λ (y : (Tag × Tag × ℕ) × Unread). IsInFront (λ f. IsCompactPairs f.0 f.1 f.2) y.0 before y.1) (ok_is ((tags.Bool, tags.Bool, size), middle) (found, after) e)
    (record { text = sized; whole = whole; spells = empty_map size sized (eqb-true size 0 test) is; budget = budget })
pairs_if false size sized before middle after found whole budget fits is small test e =
    let k = keys_found size middle after found fits e in
    let x : ℕ = 16 * k.key_code + k.value_code in
    record {
      text = sized ++ x ∷ [];
      whole = whole ∙ ap (λ (t : List ℕ). sized ++ t) k.whole ∙ sym (append_assoc sized (x ∷ []) after.bytes);
      spells = subst (λ (n : ℕ). IsCompactPairs found.0 found.1 n (sized ++ x ∷ [])) (sym k.size_is)
          (full_map found.0 found.1 size (sized ++ x ∷ []) (eqb-false size 0 test)
          (record { sized = sized; key_code = k.key_code; value_code = k.value_code; len = is; key_coded = k.key_coded; value_coded = k.value_coded; size = small; whole = refl }));
      budget = k.budget ∙ budget;
    }

pub pairs_found : (before after : Unread) (found : Tag × Tag × ℕ) → AreByteSized before.bytes → compact_pairs before ≡ Ok (found, after) → IsInFront (λ f. IsCompactPairs f.0 f.1 f.2) found before after
unfolding compact_pairs
pairs_found before after found fits e =
    let one = went_on (compact_size before) (λ size. pairs_of_size size) (found, after) e in
    let s = size_found before one.0.1 one.0.0 fits one.1 in
    pairs_if (eqb one.0.0 0) one.0.0 s.text before one.0.1 after found s.whole s.budget (bytes_behind s.text one.0.1.bytes (subst AreByteSized s.whole fits)) s.varint s.small refl one.2

-- after a size that isn't 0, the halves of a byte decide
pub in_pair_halves : (size key value : ℕ) (behind : List ℕ) (left : ℕ) → (size ≡ 0 → ⊥) → value < 16
    → pairs_of_size size (rest ((16 * key + value) ∷ behind) left) ≡ (tag_in_half key >>= pairs_of_key value size) (rest behind left)
in_pair_halves size key value behind left some small =
    let x : ℕ = 16 * key + value in
    ap (λ (b : Bool). pairs_by b size (rest (x ∷ behind) left)) (ne_eqb size 0 some)
    ∙ goes_on (byte (rest (x ∷ behind) left)) (λ x. pairs_in_byte size x) x (rest behind left) _ (byte_given x behind left)
    (ap (λ (k : ℕ). (tag_in_half k >>= pairs_of_key (x % 16) size) (rest behind left)) (let e : (16 * key + value) / 16 ≡ key = omega arith in e)
    ∙ ap (λ (k : ℕ). (tag_in_half key >>= pairs_of_key k size) (rest behind left)) (let e : (16 * key + value) % 16 ≡ value = omega arith in e))

-- a map's size is read, and then its codes
pub map_size_given : (size : ℕ) (text behind : List ℕ) (left : ℕ) → IsVarint w32 size text → size < 2 ^ 31 → size ≤ length behind → compact_pairs (rest (text ++ behind) left) ≡ pairs_of_size size (rest behind left)
unfolding compact_pairs
map_size_given size text behind left is small enough =
    goes_on (compact_size (rest (text ++ behind) left)) (λ n. pairs_of_size n) size (rest behind left) _ (size_given size text behind left is small enough) refl

full_only : (key value : Tag) (size : ℕ) (text more : List ℕ) (left : ℕ) → (size ≡ 0 → ⊥) → IsFullMap key value size text → size ≤ length more
    → compact_pairs (rest (text ++ more) left) ≡ Ok ((key, value, size), rest more left)
full_only key value size text more left some is enough =
    let x : ℕ = 16 * is.key_code + is.value_code in
    let here : Unread = rest more left in
    ap (λ (t : List ℕ). compact_pairs (rest t left)) (ap (λ (t : List ℕ). t ++ more) is.whole ∙ append_assoc is.sized (x ∷ []) more)
    ∙ map_size_given size is.sized (x ∷ more) left is.len is.size (omega (arith, enough))
    ∙ in_pair_halves size is.key_code is.value_code more left some (code_half value is.value_code is.value_coded).1
    ∙ goes_on (tag_in_half is.key_code here) (pairs_of_key is.value_code size) key here _ (tag_given key is.key_code here is.key_coded)
    (goes_on (tag_in_half is.value_code here) (pairs_of_tags size key) value here _ (tag_given value is.value_code here is.value_coded) refl)

empty_only : (key value : Tag) (text more : List ℕ) (left : ℕ) → IsCompactPairs key value zero text → compact_pairs (rest (text ++ more) left) ≡ Ok ((key, value, zero), rest more left)
empty_only key value text more left is =
    map_size_given 0 text more left is.2 (omega arith) (omega arith)
    ∙ ap (λ (t : Tag). Ok ((t, tags.Bool, zero), rest more left)) (sym is.0)
    ∙ ap (λ (t : Tag). Ok ((key, t, zero), rest more left)) (sym is.1)

parts_only : (key value : Tag) (size : ℕ) (text more : List ℕ) (left : ℕ) → IsCompactPairs key value size text → size ≤ length more → compact_pairs (rest (text ++ more) left) ≡ Ok ((key, value, size), rest more left)
parts_only key value zero text more left is enough = empty_only key value text more left is
parts_only key value (suc n) text more left is enough = full_only key value (suc n) text more left (λ e. let f : ⊥ = omega arith in f) is enough

pub pairs_only : (found : Tag × Tag × ℕ) (text more : List ℕ) (left : ℕ) → IsCompactPairs found.0 found.1 found.2 text → found.2 ≤ length more
    → compact_pairs (rest (text ++ more) left) ≡ Ok (found, rest more left)
pairs_only found text more left is enough = parts_only found.0 found.1 found.2 text more left is enough

map_byte : (key value : Tag) (size : ℕ) (text : List ℕ) → IsCompactPairs key value size text → 1 ≤ length text
map_byte key value zero text is = groups_some w32 zero text is.2
map_byte key value (suc n) text is =
    let some = groups_some w32 (suc n) is.sized is.len in
    let l : length text ≡ length is.sized + 1 = ap length is.whole ∙ length-append is.sized ((16 * is.key_code + is.value_code) ∷ []) in
    omega arith

pub pairs_byte : (found : Tag × Tag × ℕ) (text : List ℕ) → IsCompactPairs found.0 found.1 found.2 text → 1 ≤ length text
pairs_byte found text is = map_byte found.0 found.1 found.2 text is

pub pairs_written : (key value : Tag) (size : ℕ) → size < 2 ^ 31 → IsCompactPairs (plain_tag key size) (plain_tag value size) size (compact_pairs_header key value size)
pairs_written key value zero small = (refl, refl, put_32 0 (omega arith))
pairs_written key value (suc n) small =
    subst (λ (b : Bool). IsFullMap key value (suc n) (cond b (0 ∷ []) (varint_bytes w32 (suc n) ++ (16 * compact_code key + compact_code value) ∷ []))) (sym (ne_eqb (suc n) 0 (omega arith)))
    (record {
      sized = varint_bytes w32 (suc n);
      key_code = compact_code key;
      value_code = compact_code value;
      len = put_32 (suc n) (omega (arith, small));
      key_coded = written_code_is key;
      value_coded = written_code_is value;
      size = small;
      whole = refl;
    })

pub pairs_range : (key value : Tag) (size : ℕ) (text : List ℕ) → IsCompactPairs key value size text
    → (size < 2 ^ 31) × (plain_tag key size ≡ key) × (plain_tag value size ≡ value)
pairs_range key value zero text is = (omega arith, sym is.0, sym is.1)
pairs_range key value (suc n) text is = (is.size, refl, refl)

pairs_stay_if : (b : Bool) (size : ℕ) → StaysAs (pairs_by b size) (pairs_by b size)
pairs_stay_if true size = give_stays (tags.Bool, tags.Bool, size)
pairs_stay_if false size =
    then_stays byte byte (λ x. pairs_in_byte size x) (λ x. pairs_in_byte size x) byte_stays (λ x.
    then_stays (tag_in_half (x / 16)) (tag_in_half (x / 16)) (pairs_of_key (x % 16) size) (pairs_of_key (x % 16) size) (tag_stays (x / 16)) (λ k.
    then_stays (tag_in_half (x % 16)) (tag_in_half (x % 16)) (pairs_of_tags size k) (pairs_of_tags size k) (tag_stays (x % 16)) (λ v. give_stays (k, v, size))))

pub pairs_stay : StaysAs compact_pairs compact_pairs
unfolding compact_pairs
pairs_stay =
    then_stays compact_size compact_size (λ size. pairs_of_size size) (λ size. pairs_of_size size) size_stays (λ size. pairs_stay_if (eqb size 0) size)

-- the header of a map that isn't empty, by the codes of its tags
pub pairs_header : (key value : Tag) (count k v : ℕ) → (count ≡ 0 → ⊥) → k ≡ compact_code key → v ≡ compact_code value
    → varint_bytes w32 count ++ (16 * k + v) ∷ [] ≡ compact_pairs_header key value count
pairs_header key value count k v some first second =
    (λ i. varint_bytes w32 count ++ (16 * (first i) + second i) ∷ [])
    ∙ sym (ap (λ (b : Bool). cond b (0 ∷ []) (varint_bytes w32 count ++ (16 * compact_code key + compact_code value) ∷ [])) (ne_eqb count 0 some))
