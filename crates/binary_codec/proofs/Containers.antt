-- The headers of containers.
use Rattle.std.specs.Int.{w32}
use Rattle.std.proofs.Common.{◌≡◌, ℕ, zero, suc, ◌^◌, ◌<◌, ◌≤◌, Bool, true, false, cond, eqb, List, ◌∷◌, ◌++◌, length, Ok, refl, sym, ap, subst, ◌∙◌, arith}
use Rattle.std.proofs.lemmas.Bool.{eqb-true, eqb-false, ne_eqb}
use Rattle.wire_num.specs.Fixed.{unsigned_bytes}
use Rattle.thrift_value.specs.declared.tag.Tag.{Tag}
use Rattle.thrift_value.specs.declared.tag.Tag.TheVariants as tags
use Rattle.wire_model.specs.Decoder.{Unread, ◌>>=◌, give}
use Rattle.wire_num.specs.Encoded.{AreByteSized}
use Rattle.wire_model.specs.Protocol.{IsInFront, plain_tag}
use Rattle.wire_model.proofs.Steps.{went_on, goes_on, ok_is}
use Rattle.binary_codec.specs.Codes.{code_of}
use Rattle.wire_model.specs.Pieces.{byte}
use Rattle.wire_model.proofs.Pieces.{after_byte, byte_found, byte_given}
use Rattle.binary_codec.specs.Reading.{tag_coded, binary_size, items_coded, pairs_coded, binary_items, binary_pairs}
use Rattle.binary_codec.specs.Spelling.{IsElementCode, IsItems, IsPairs}
use Rattle.binary_codec.specs.Written.{items_header, pairs_header}
use Rattle.binary_codec.proofs.CodeLaws.{code_small, tag_found, tag_given}
use Rattle.binary_codec.proofs.Leaves.{size_found, size_given}

abbrev rest : List ℕ → ℕ → Unread
rest bytes left = record { bytes = bytes; budget = left }

-- the code of an empty container, and of one with elements
empty_code : (size code : ℕ) → size ≡ 0 → code < 256 → IsElementCode tags.Bool size code
empty_code zero code e small = (refl, small)
empty_code (suc n) code e small = absurd (let f : ⊥ = omega arith in f)

full_code : (size code : ℕ) (tag : Tag) → (size ≡ 0 → ⊥) → code ≡ code_of tag → IsElementCode tag size code
full_code zero code tag some e = absurd (some refl)
full_code (suc n) code tag some e = e

written_code : (size : ℕ) (tag : Tag) → IsElementCode (plain_tag tag size) size (code_of tag)
written_code zero tag = (refl, (code_small tag).0)
written_code (suc n) tag = refl

plain_code : (size code : ℕ) (tag : Tag) → IsElementCode tag size code → plain_tag tag size ≡ tag
plain_code zero code tag is = sym is.0
plain_code (suc n) code tag is = refl

-- ---- lists and sets

record ItemsRead (code size : ℕ) (found : Tag × ℕ) (before after : Unread) : Type 0 where
  size_is : found.1 ≡ size
  coded : IsElementCode found.0 size code
  same : after ≡ before

items_if : (b : Bool) (code size : ℕ) (before after : Unread) (found : Tag × ℕ) → code < 256 → eqb size 0 ≡ b
    → cond b (give (tags.Bool, size)) (tag_coded code >>= λ tag. give (tag, size)) before ≡ Ok (found, after) → ItemsRead code size found before after
items_if true code size before after found small test e =
    subst (λ (y : (Tag × ℕ) × Unread). ItemsRead code size y.0 before y.1) (ok_is ((tags.Bool, size), before) (found, after) e)
    (record { size_is = refl; coded = empty_code size code (eqb-true size 0 test) small; same = refl })
items_if false code size before after found small test e =
    let one = went_on (tag_coded code before) (λ tag. give (tag, size)) (found, after) e in
    let t = tag_found code before one.0.1 one.0.0 one.1 in
    subst (λ (y : (Tag × ℕ) × Unread). ItemsRead code size y.0 before y.1) (ok_is ((one.0.0, size), one.0.1) (found, after) one.2)
    (record { size_is = refl; coded = full_code size code one.0.0 (eqb-false size 0 test) t.0; same = t.1 })

pub items_found : (before after : Unread) (found : Tag × ℕ) → AreByteSized before.bytes → binary_items before ≡ Ok (found, after) → IsInFront (λ f. IsItems f.0 f.1) found before after
unfolding binary_items
items_found before after found fits e =
    let one = went_on (byte before) (λ code. binary_size >>= λ size. items_coded code size) (found, after) e in
    let code = one.0.0 in
    let middle = one.0.1 in
    let b = byte_found before middle code fits one.1 in
    let two = went_on (binary_size middle) (λ size. items_coded code size) (found, after) one.2 in
    let size = two.0.0 in
    let third = two.0.1 in
    let s = size_found middle third size (after_byte code before middle b fits) two.1 in
    let i = items_if (eqb size 0) code size third after found b.small refl two.2 in
    record {
      text = code ∷ unsigned_bytes w32 found.1;
      whole = b.whole ∙ ap (λ (t : List ℕ). code ∷ t) (s.whole ∙ ap (λ (r : Unread). unsigned_bytes w32 size ++ r.bytes) (sym i.same) ∙ ap (λ (k : ℕ). unsigned_bytes w32 k ++ after.bytes) (sym i.size_is));
      spells = record {
        code = code;
        coded = subst (λ (k : ℕ). IsElementCode found.0 k code) (sym i.size_is) i.coded;
        size = subst (λ (k : ℕ). k < 2 ^ 31) (sym i.size_is) s.small;
        whole = refl;
      };
      budget = ap (λ (r : Unread). r.budget) i.same ∙ s.budget ∙ b.budget;
    }

items_coded_given : (tag : Tag) (size code : ℕ) (r : Unread) → IsElementCode tag size code → items_coded code size r ≡ Ok ((tag, size), r)
items_coded_given tag zero code r is = ap (λ (t : Tag). Ok ((t, zero), r)) (sym is.0)
items_coded_given tag (suc n) code r is =
    ap (λ (b : Bool). cond b (give (tags.Bool, suc n)) (tag_coded code >>= λ tag. give (tag, suc n)) r) (ne_eqb (suc n) 0 (omega arith))
    ∙ goes_on (tag_coded code r) (λ tag. give (tag, suc n)) tag r _ (subst (λ (c : ℕ). tag_coded c r ≡ Ok (tag, r)) (sym is) (tag_given tag r)) refl

pub items_only : (found : Tag × ℕ) (text more : List ℕ) (left : ℕ) → IsItems found.0 found.1 text → found.1 ≤ length more → binary_items (rest (text ++ more) left) ≡ Ok (found, rest more left)
unfolding binary_items
items_only found text more left is enough =
    let size : ℕ = found.1 in
    let behind : List ℕ = unsigned_bytes w32 size ++ more in
    ap (λ (t : List ℕ). binary_items (rest (t ++ more) left)) is.whole
    ∙ goes_on (byte (rest (is.code ∷ behind) left)) (λ code. binary_size >>= λ size. items_coded code size) is.code (rest behind left) _ (byte_given is.code behind left)
    (goes_on (binary_size (rest behind left)) (λ size. items_coded is.code size) size (rest more left) _ (size_given size more left is.size enough)
    (items_coded_given found.0 size is.code (rest more left) is.coded))

pub items_byte : (found : Tag × ℕ) (text : List ℕ) → IsItems found.0 found.1 text → 1 ≤ length text
items_byte found text is = let l : length text ≡ 5 = ap length is.whole in omega arith

pub items_written : (tag : Tag) (size : ℕ) → size < 2 ^ 31 → IsItems (plain_tag tag size) size (items_header tag size)
items_written tag size small = record { code = code_of tag; coded = written_code size tag; size = small; whole = refl }

pub items_range : (tag : Tag) (size : ℕ) (text : List ℕ) → IsItems tag size text → (size < 2 ^ 31) × (plain_tag tag size ≡ tag)
items_range tag size text is = (is.size, plain_code size is.code tag is.coded)

-- ---- maps

record PairsRead (key value size : ℕ) (found : Tag × Tag × ℕ) (before after : Unread) : Type 0 where
  size_is : found.2 ≡ size
  key_coded : IsElementCode found.0 size key
  value_coded : IsElementCode found.1 size value
  same : after ≡ before

pairs_if : (b : Bool) (key value size : ℕ) (before after : Unread) (found : Tag × Tag × ℕ) → key < 256 → value < 256 → eqb size 0 ≡ b
    → cond b (give (tags.Bool, tags.Bool, size)) (tag_coded key >>= λ t. tag_coded value >>= λ u. give (t, u, size)) before ≡ Ok (found, after) → PairsRead key value size found before after
pairs_if true key value size before after found key_small value_small test e =
    let none : size ≡ 0 = eqb-true size 0 test in
    subst (λ (y : (Tag × Tag × ℕ) × Unread). PairsRead key value size y.0 before y.1) (ok_is ((tags.Bool, tags.Bool, size), before) (found, after) e)
    (record { size_is = refl; key_coded = empty_code size key none key_small; value_coded = empty_code size value none value_small; same = refl })
pairs_if false key value size before after found key_small value_small test e =
    let one = went_on (tag_coded key before) (λ t. tag_coded value >>= λ u. give (t, u, size)) (found, after) e in
    let t = tag_found key before one.0.1 one.0.0 one.1 in
    let two = went_on (tag_coded value one.0.1) (λ u. give (one.0.0, u, size)) (found, after) one.2 in
    let u = tag_found value one.0.1 two.0.1 two.0.0 two.1 in
    let some = eqb-false size 0 test in
    subst (λ (y : (Tag × Tag × ℕ) × Unread). PairsRead key value size y.0 before y.1) (ok_is ((one.0.0, two.0.0, size), two.0.1) (found, after) two.2)
    (record { size_is = refl; key_coded = full_code size key one.0.0 some t.0; value_coded = full_code size value two.0.0 some u.0; same = u.1 ∙ t.1 })

pub pairs_found : (before after : Unread) (found : Tag × Tag × ℕ) → AreByteSized before.bytes → binary_pairs before ≡ Ok (found, after) → IsInFront (λ f. IsPairs f.0 f.1 f.2) found before after
unfolding binary_pairs
pairs_found before after found fits e =
    let one = went_on (byte before) (λ key. byte >>= λ value. binary_size >>= λ size. pairs_coded key value size) (found, after) e in
    let key = one.0.0 in
    let second = one.0.1 in
    let b = byte_found before second key fits one.1 in
    let second_fits = after_byte key before second b fits in
    let two = went_on (byte second) (λ value. binary_size >>= λ size. pairs_coded key value size) (found, after) one.2 in
    let value = two.0.0 in
    let third = two.0.1 in
    let c = byte_found second third value second_fits two.1 in
    let three = went_on (binary_size third) (λ size. pairs_coded key value size) (found, after) two.2 in
    let size = three.0.0 in
    let fourth = three.0.1 in
    let s = size_found third fourth size (after_byte value second third c second_fits) three.1 in
    let i = pairs_if (eqb size 0) key value size fourth after found b.small c.small refl three.2 in
    let behind : third.bytes ≡ unsigned_bytes w32 found.2 ++ after.bytes =
    s.whole ∙ ap (λ (r : Unread). unsigned_bytes w32 size ++ r.bytes) (sym i.same) ∙ ap (λ (k : ℕ). unsigned_bytes w32 k ++ after.bytes) (sym i.size_is) in
    record {
      text = key ∷ value ∷ unsigned_bytes w32 found.2;
      whole = b.whole ∙ ap (λ (t : List ℕ). key ∷ t) (c.whole ∙ ap (λ (t : List ℕ). value ∷ t) behind);
      spells = record {
        key_code = key;
        value_code = value;
        key_coded = subst (λ (k : ℕ). IsElementCode found.0 k key) (sym i.size_is) i.key_coded;
        value_coded = subst (λ (k : ℕ). IsElementCode found.1 k value) (sym i.size_is) i.value_coded;
        size = subst (λ (k : ℕ). k < 2 ^ 31) (sym i.size_is) s.small;
        whole = refl;
      };
      budget = ap (λ (r : Unread). r.budget) i.same ∙ s.budget ∙ c.budget ∙ b.budget;
    }

pairs_coded_given : (t u : Tag) (size key value : ℕ) (r : Unread) → IsElementCode t size key → IsElementCode u size value → pairs_coded key value size r ≡ Ok ((t, u, size), r)
pairs_coded_given t u zero key value r is_key is_value = ap (λ (x : Tag). Ok ((x, tags.Bool, zero), r)) (sym is_key.0) ∙ ap (λ (x : Tag). Ok ((t, x, zero), r)) (sym is_value.0)
pairs_coded_given t u (suc n) key value r is_key is_value =
    ap (λ (b : Bool). cond b (give (tags.Bool, tags.Bool, suc n)) (tag_coded key >>= λ t. tag_coded value >>= λ u. give (t, u, suc n)) r) (ne_eqb (suc n) 0 (omega arith))
    ∙ goes_on (tag_coded key r) (λ t. tag_coded value >>= λ u. give (t, u, suc n)) t r _ (subst (λ (c : ℕ). tag_coded c r ≡ Ok (t, r)) (sym is_key) (tag_given t r))
    (goes_on (tag_coded value r) (λ u. give (t, u, suc n)) u r _ (subst (λ (c : ℕ). tag_coded c r ≡ Ok (u, r)) (sym is_value) (tag_given u r)) refl)

pub pairs_only : (found : Tag × Tag × ℕ) (text more : List ℕ) (left : ℕ) → IsPairs found.0 found.1 found.2 text → found.2 ≤ length more
    → binary_pairs (rest (text ++ more) left) ≡ Ok (found, rest more left)
unfolding binary_pairs
pairs_only found text more left is enough =
    let size : ℕ = found.2 in
    let behind : List ℕ = unsigned_bytes w32 size ++ more in
    ap (λ (t : List ℕ). binary_pairs (rest (t ++ more) left)) is.whole
    ∙ goes_on (byte (rest (is.key_code ∷ is.value_code ∷ behind) left)) (λ key. byte >>= λ value. binary_size >>= λ size. pairs_coded key value size) is.key_code (rest (is.value_code ∷ behind) left) _
    (byte_given is.key_code (is.value_code ∷ behind) left)
    (goes_on (byte (rest (is.value_code ∷ behind) left)) (λ value. binary_size >>= λ size. pairs_coded is.key_code value size) is.value_code (rest behind left) _ (byte_given is.value_code behind left)
    (goes_on (binary_size (rest behind left)) (λ size. pairs_coded is.key_code is.value_code size) size (rest more left) _ (size_given size more left is.size enough)
    (pairs_coded_given found.0 found.1 size is.key_code is.value_code (rest more left) is.key_coded is.value_coded)))

pub pairs_byte : (found : Tag × Tag × ℕ) (text : List ℕ) → IsPairs found.0 found.1 found.2 text → 1 ≤ length text
pairs_byte found text is = let l : length text ≡ 6 = ap length is.whole in omega arith

pub pairs_written : (key value : Tag) (size : ℕ) → size < 2 ^ 31 → IsPairs (plain_tag key size) (plain_tag value size) size (pairs_header key value size)
pairs_written key value size small =
    record { key_code = code_of key; value_code = code_of value; key_coded = written_code size key; value_coded = written_code size value; size = small; whole = refl }

pub pairs_range : (key value : Tag) (size : ℕ) (text : List ℕ) → IsPairs key value size text
    → (size < 2 ^ 31) × (plain_tag key size ≡ key) × (plain_tag value size ≡ value)
pairs_range key value size text is = (is.size, plain_code size is.key_code key is.key_coded, plain_code size is.value_code value is.value_coded)
