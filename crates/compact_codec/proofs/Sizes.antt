-- Lengths and sizes, and bytes with their length.
use Rattle.std.specs.Int.{w32}
use Rattle.std.proofs.Common.{◌≡◌, inl, inr, ℕ, ◌+◌, ◌^◌, ◌<◌, ◌≤◌, Bool, true, false, cond, ltb, leb, List, ◌++◌, length, Result, Ok, Err, refl, sym, ap, subst, ◌∙◌, append_assoc, arith}
use Rattle.std.proofs.lemmas.Bool.{ltb-true, ltb-false, lt-ltb, le-ltb, leb-true, leb-false, le-leb, lt-leb}
use Rattle.std.proofs.lemmas.List.{length-append}
use Rattle.wire_num.specs.Decoding.{decode_bytes}
use Rattle.wire_num.specs.Encoded.{AreByteSized}
use Rattle.wire_num.specs.Varint.{decode_varint, IsVarint}
use Rattle.wire_num.proofs.Fronts.{front_fault}
use Rattle.wire_num.proofs.Varints.{varint_decodes, put_32}
use Rattle.thrift_value.specs.declared.wire_fault.WireFault.{WireFault}
use Rattle.thrift_value.specs.declared.wire_fault.WireFault.TheVariants.{Short, LongVarint, BadSize}
use Rattle.wire_model.specs.Decoder.{Unread, fail}
use Rattle.wire_model.specs.Pieces.{some_bytes, within_room}
use Rattle.wire_model.specs.Protocol.{IsInFront, StaysAs}
use Rattle.wire_model.proofs.Pieces.{piece_found, piece_given, sized, room_stays, some_stay}
use Rattle.wire_model.proofs.Staying.{then_stays, fail_stays}
use Rattle.wire_model.proofs.Steps.{went_on, goes_on, failed, fails, ok_is, bytes_behind}
use Rattle.wire_model.proofs.Uncounted.{uncounted_found, uncounted_only, uncounted_stays, uncounted_fault}
use Rattle.compact_codec.specs.Faults.{HasVarintFault, HasLengthFault}
use Rattle.compact_codec.specs.Reading.{compact_unsigned, size_in_range, compact_size, compact_span}
use Rattle.compact_codec.specs.Spelling.{IsCompactSpan}
use Rattle.compact_codec.specs.Written.{compact_span_text}
use Rattle.compact_codec.proofs.ZigzagNumbers.{varint_faults, varint_fault_found, varint_fault_only, groups_some}

abbrev rest : List ℕ → ℕ → Unread
rest bytes left = record { bytes = bytes; budget = left }

-- a number that was kept as a size: so many bytes are left
pub record IsKept (k n : ℕ) (middle after : Unread) : Type 0 where
  pub number : n ≡ k
  pub same : after ≡ middle
  pub enough : k ≤ length middle.bytes

room_kept : (b : Bool) (k n : ℕ) (middle after : Unread) → leb k (length middle.bytes) ≡ b → cond b (sized (k, middle)) (Err Short) ≡ Ok (n, after) → IsKept k n middle after
room_kept true k n middle after test e =
    subst (λ (y : ℕ × Unread). IsKept k y.0 middle y.1) (ok_is (k, middle) (n, after) e) (record { number = refl; same = refl; enough = leb-true k (length middle.bytes) test })
room_kept false k n middle after test e = absurd cc

pub within_room_kept : (k n : ℕ) (middle after : Unread) → within_room k middle ≡ Ok (n, after) → IsKept k n middle after
within_room_kept k n middle after e = room_kept (leb k (length middle.bytes)) k n middle after refl e

pub within_room_given : (n : ℕ) (more : List ℕ) (left : ℕ) → n ≤ length more → within_room n (rest more left) ≡ Ok (n, rest more left)
within_room_given n more left enough = ap (λ (b : Bool). cond b (sized (n, rest more left)) (Err Short)) (le-leb n (length more) enough)

room_fault_if : (b : Bool) (k : ℕ) (unread : Unread) (fault : WireFault) → leb k (length unread.bytes) ≡ b → cond b (sized (k, unread)) (Err Short) ≡ Err fault → (fault ≡ Short) × (length unread.bytes < k)
room_fault_if true k unread fault test e = absurd cc
room_fault_if false k unread fault test e = (cc, leb-false k (length unread.bytes) test)

pub within_room_fault : (k : ℕ) (unread : Unread) (fault : WireFault) → within_room k unread ≡ Err fault → (fault ≡ Short) × (length unread.bytes < k)
within_room_fault k unread fault e = room_fault_if (leb k (length unread.bytes)) k unread fault refl e

pub within_room_short : (k : ℕ) (unread : Unread) → length unread.bytes < k → within_room k unread ≡ Err Short
within_room_short k unread less = ap (λ (b : Bool). cond b (sized (k, unread)) (Err Short)) (lt-leb k (length unread.bytes) less)

-- ---- sizes

abbrev ranged : Bool → ℕ → Unread → Result (ℕ × Unread) WireFault
ranged b k = cond b (within_room k) (fail BadSize)

-- a size, with at least so many bytes behind it
pub record SizeFront (n : ℕ) (before after : Unread) : Type 0 where
  pub text : List ℕ
  pub whole : before.bytes ≡ text ++ after.bytes
  pub varint : IsVarint w32 n text
  pub small : n < 2 ^ 31
  pub enough : n ≤ length after.bytes
  pub budget : after.budget ≡ before.budget

size_if : (b : Bool) (k n : ℕ) (before middle after : Unread) → IsInFront (IsVarint w32) k before middle → ltb k (2 ^ 31) ≡ b → ranged b k middle ≡ Ok (n, after) → SizeFront n before after
size_if true k n before middle after f test e =
    let r = within_room_kept k n middle after e in
    record {
      text = f.text;
      whole = f.whole ∙ ap (λ (u : Unread). f.text ++ u.bytes) (sym r.same);
      varint = subst (λ (m : ℕ). IsVarint w32 m f.text) (sym r.number) f.spells;
      small = subst (λ (m : ℕ). m < 2 ^ 31) (sym r.number) (ltb-true k (2 ^ 31) test);
      enough = let same : length after.bytes ≡ length middle.bytes = ap (λ (u : Unread). length u.bytes) r.same in let is = r.number in let some = r.enough in omega arith;
      budget = ap (λ (u : Unread). u.budget) r.same ∙ f.budget;
    }
size_if false k n before middle after f test e = absurd cc

pub size_found : (before after : Unread) (n : ℕ) → AreByteSized before.bytes → compact_size before ≡ Ok (n, after) → SizeFront n before after
unfolding compact_size
size_found before after n fits e =
    let one = went_on (compact_unsigned before) (λ k. size_in_range k) (n, after) e in
    size_if (ltb one.0.0 (2 ^ 31)) one.0.0 n before one.0.1 after (uncounted_found (decode_varint w32) (IsVarint w32) (varint_decodes w32) before one.0.1 one.0.0 fits one.1) refl one.2

unsigned_given : (n : ℕ) (text more : List ℕ) (left : ℕ) → IsVarint w32 n text → compact_unsigned (rest (text ++ more) left) ≡ Ok (n, rest more left)
unsigned_given n text more left is = uncounted_only (decode_varint w32) (IsVarint w32) (varint_decodes w32) n text more left is

pub size_given : (n : ℕ) (text more : List ℕ) (left : ℕ) → IsVarint w32 n text → n < 2 ^ 31 → n ≤ length more → compact_size (rest (text ++ more) left) ≡ Ok (n, rest more left)
unfolding compact_size
size_given n text more left is small enough =
    goes_on (compact_unsigned (rest (text ++ more) left)) (λ k. size_in_range k) n (rest more left) _ (unsigned_given n text more left is)
    (ap (λ (b : Bool). ranged b n (rest more left)) (lt-ltb n (2 ^ 31) small) ∙ within_room_given n more left enough)

by_varint : (fault : WireFault) (bytes : List ℕ) → HasVarintFault 5 fault bytes → HasLengthFault fault bytes
by_varint Short bytes h = inl h
by_varint LongVarint bytes h = h
by_varint fault bytes h = absurd h

size_fault_if : (b : Bool) (k : ℕ) (before middle : Unread) (fault : WireFault) → IsInFront (IsVarint w32) k before middle → ltb k (2 ^ 31) ≡ b → ranged b k middle ≡ Err fault → HasLengthFault fault before.bytes
size_fault_if true k before middle fault f test e =
    let r = within_room_fault k middle fault e in
    subst (λ (d : WireFault). HasLengthFault d before.bytes) (sym r.0)
    (inr (k, ltb-true k (2 ^ 31) test, record { text = f.text; sized = f.spells; begins = record { behind = middle.bytes; whole = f.whole; such = r.1 } }))
size_fault_if false k before middle fault f test e =
    let is : fault ≡ BadSize = cc in
    subst (λ (d : WireFault). HasLengthFault d before.bytes) (sym is)
    (k, ltb-false k (2 ^ 31) test, record { text = f.text; sized = f.spells; begins = record { behind = middle.bytes; whole = f.whole; such = tt } })

pub size_fault_found : (unread : Unread) (fault : WireFault) → AreByteSized unread.bytes → compact_size unread ≡ Err fault → HasLengthFault fault unread.bytes
unfolding compact_size
size_fault_found unread fault fits e =
    elim (failed (compact_unsigned unread) (λ k. size_in_range k) fault e) [
      | inl bad ↦ by_varint fault unread.bytes (varint_fault_found (decode_varint w32) 5 (varint_faults w32) unread fault bad)
      | inr on ↦
          size_fault_if (ltb on.0.0 (2 ^ 31)) on.0.0 unread on.0.1 fault (uncounted_found (decode_varint w32) (IsVarint w32) (varint_decodes w32) unread on.0.1 on.0.0 fits on.1) refl on.2
    ]

size_varint_fails : (unread : Unread) (fault : WireFault) → HasVarintFault 5 fault unread.bytes → compact_size unread ≡ Err fault
unfolding compact_size
size_varint_fails unread fault h = fails (compact_unsigned unread) (λ k. size_in_range k) fault (varint_fault_only (decode_varint w32) 5 (varint_faults w32) unread fault h)

size_number_fails : (size : ℕ) (text behind : List ℕ) (unread : Unread) (fault : WireFault) → IsVarint w32 size text → unread.bytes ≡ text ++ behind
    → size_in_range size (rest behind unread.budget) ≡ Err fault → compact_size unread ≡ Err fault
unfolding compact_size
size_number_fails size text behind unread fault is whole e =
    ap (λ (t : List ℕ). compact_size (rest t unread.budget)) whole
    ∙ goes_on (compact_unsigned (rest (text ++ behind) unread.budget)) (λ k. size_in_range k) size (rest behind unread.budget) _ (unsigned_given size text behind unread.budget is) e

pub size_fault_only : (unread : Unread) (fault : WireFault) → HasLengthFault fault unread.bytes → compact_size unread ≡ Err fault
size_fault_only unread Short (inl h) = size_varint_fails unread Short h
size_fault_only unread Short (inr (size, small, b)) =
    size_number_fails size b.text b.begins.behind unread Short b.sized b.begins.whole
    (ap (λ (z : Bool). ranged z size (rest b.begins.behind unread.budget)) (lt-ltb size (2 ^ 31) small) ∙ within_room_short size (rest b.begins.behind unread.budget) b.begins.such)
size_fault_only unread BadSize (size, large, b) =
    size_number_fails size b.text b.begins.behind unread BadSize b.sized b.begins.whole
    (ap (λ (z : Bool). ranged z size (rest b.begins.behind unread.budget)) (le-ltb size (2 ^ 31) large))
size_fault_only unread LongVarint h = size_varint_fails unread LongVarint h
size_fault_only unread fault h = absurd h

range_stays : (b : Bool) (k : ℕ) → StaysAs (ranged b k) (ranged b k)
range_stays true k = room_stays k
range_stays false k = fail_stays BadSize

pub size_stays : StaysAs compact_size compact_size
unfolding compact_size
size_stays =
    then_stays compact_unsigned compact_unsigned (λ k. size_in_range k) (λ k. size_in_range k) (uncounted_stays (decode_varint w32) (IsVarint w32) (varint_decodes w32))
    (λ k. range_stays (ltb k (2 ^ 31)) k)

pub size_bound : (bytes : List ℕ) → HasLengthFault Short bytes → length bytes < 2 ^ 31 + 5
size_bound bytes (inl h) = omega (arith, h.0)
size_bound bytes (inr (size, small, b)) =
    let l : length bytes ≡ length b.text + length b.begins.behind = ap length b.begins.whole ∙ length-append b.text b.begins.behind in
    let less : length b.begins.behind < size = b.begins.such in
    let few : length b.text ≤ 5 = b.sized.len in
    omega (arith, small)

-- ---- bytes with their length

pub span_found : (before after : Unread) (bytes : List ℕ) → AreByteSized before.bytes → compact_span before ≡ Ok (bytes, after) → IsInFront IsCompactSpan bytes before after
unfolding compact_span
span_found before after bytes fits e =
    let one = went_on (compact_size before) (λ size. some_bytes size) (bytes, after) e in
    let n = one.0.0 in
    let middle = one.0.1 in
    let s = size_found before middle n fits one.1 in
    let f = piece_found n middle after bytes (bytes_behind s.text middle.bytes (subst AreByteSized s.whole fits)) one.2 in
    let len : n ≡ length bytes = sym f.len in
    record {
      text = s.text ++ bytes;
      whole = s.whole ∙ ap (λ (t : List ℕ). s.text ++ t) f.whole ∙ sym (append_assoc s.text bytes after.bytes);
      spells = record { sized = s.text; len = subst (λ (k : ℕ). IsVarint w32 k s.text) len s.varint; size = subst (λ (k : ℕ). k < 2 ^ 31) len s.small; each = f.each; whole = refl };
      budget = f.budget ∙ s.budget;
    }

pub span_only : (bytes text more : List ℕ) (left : ℕ) → IsCompactSpan bytes text → compact_span (rest (text ++ more) left) ≡ Ok (bytes, rest more left)
unfolding compact_span
span_only bytes text more left is =
    let n : ℕ = length bytes in
    ap (λ (t : List ℕ). compact_span (rest t left)) (ap (λ (t : List ℕ). t ++ more) is.whole ∙ append_assoc is.sized bytes more)
    ∙ goes_on (compact_size (rest (is.sized ++ (bytes ++ more)) left)) (λ size. some_bytes size) n (rest (bytes ++ more) left) _
    (size_given n is.sized (bytes ++ more) left is.len is.size (omega (arith, length-append bytes more)))
    (piece_given n bytes more left refl)

pub span_byte : (bytes text : List ℕ) → IsCompactSpan bytes text → 1 ≤ length text
span_byte bytes text is =
    let l : length text ≡ length is.sized + length bytes = ap length is.whole ∙ length-append is.sized bytes in
    let some = groups_some w32 (length bytes) is.sized is.len in
    omega arith

pub span_written : (bytes : List ℕ) → length bytes < 2 ^ 31 → AreByteSized bytes → IsCompactSpan bytes (compact_span_text bytes)
span_written bytes small each = record { sized = _; len = put_32 (length bytes) (omega (arith, small)); size = small; each = each; whole = refl }

pub span_fault_found : (unread : Unread) (fault : WireFault) → AreByteSized unread.bytes → compact_span unread ≡ Err fault → HasLengthFault fault unread.bytes
unfolding compact_span
span_fault_found unread fault fits e =
    elim (failed (compact_size unread) (λ size. some_bytes size) fault e) [
      | inl bad ↦ size_fault_found unread fault fits bad
      | inr on ↦
          let u = uncounted_fault (decode_bytes on.0.0) on.0.1 fault on.2 in
          let f = front_fault on.0.0 on.0.1.bytes u.0 u.1 in
          let s = size_found unread on.0.1 on.0.0 fits on.1 in
          absurd (let less : length on.0.1.bytes < on.0.0 = f.1 in let enough = s.enough in let x : ⊥ = omega arith in x)
    ]

pub span_fault_only : (unread : Unread) (fault : WireFault) → HasLengthFault fault unread.bytes → compact_span unread ≡ Err fault
unfolding compact_span
span_fault_only unread fault h = fails (compact_size unread) (λ size. some_bytes size) fault (size_fault_only unread fault h)

pub span_stays : StaysAs compact_span compact_span
unfolding compact_span
span_stays = then_stays compact_size compact_size (λ size. some_bytes size) (λ size. some_bytes size) size_stays (λ size. some_stay size)
