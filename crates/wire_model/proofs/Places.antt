-- The struct at a place.
use Rattle.std.proofs.Common.{◌≡◌, ℕ, ◌+◌, ◌-◌, ◌<◌, ◌≤◌, List, [], ◌++◌, length, drop, Result, Ok, Err, refl, sym, ap, subst, ◌∙◌, arith}
use Rattle.std.proofs.lemmas.List.{length-append, length-drop, append-nil, drop_at}
use Rattle.std.proofs.lemmas.List.Elements.{All-drop}
use Rattle.thrift_value.specs.declared.tag.Tag.{Tag}
use Rattle.thrift_value.specs.declared.tag.Tag.TheVariants as tags
use Rattle.thrift_value.specs.declared.wire_fault.WireFault.{WireFault}
use Rattle.thrift_value.specs.Tree.{Tree}
use Rattle.thrift_value.specs.Tags.{tag_of}
use Rattle.thrift_value.specs.Measures.{depth_of, count_of}
use Rattle.thrift_value.specs.Plain.{HasMeasuresOf}
use Rattle.wire_model.specs.Decoder.{Unread}
use Rattle.wire_model.specs.Wire.{Wire}
use Rattle.wire_model.specs.Reading.{value}
use Rattle.wire_model.specs.Format.{Format, Spells}
use Rattle.wire_model.specs.Place.{most_levels, most_values, placed, struct_at, IsWithinBounds, IsEncodedAt}
use Rattle.wire_num.specs.Encoded.{AreByteSized}
use Rattle.wire_model.specs.Protocol.{IsProtocol}
use Rattle.wire_model.specs.Encoder.{Encoder}
use Rattle.wire_model.proofs.Taking.{value_taken}
use Rattle.wire_model.proofs.Giving.{value_given, spelled_given}

abbrev answer : Tree × ℕ → Result (Tree × ℕ) WireFault
answer x = Ok x

answer_is : (x y : Tree × ℕ) → answer x ≡ answer y → x ≡ y
answer_is x y e = cc

placed_ok : (size : ℕ) (r : Result (Tree × Unread) WireFault) (y : Tree × ℕ) → placed size r ≡ Ok y → (x : Tree × Unread) × (r ≡ Ok x) × ((x.0, size - length x.1.bytes) ≡ y)
placed_ok size (Ok x) y e = (x, refl, answer_is (x.0, size - length x.1.bytes) y e)
placed_ok size (Err fault) y e = absurd cc

pub place_taken : (wire : Wire) (format : Format) (encoder : Encoder) → IsProtocol wire format encoder → (bytes : List ℕ) (at : ℕ) (x : Tree) (behind : ℕ) → AreByteSized bytes → at ≤ length bytes
    → struct_at wire bytes at ≡ Ok (x, behind) → IsEncodedAt format bytes at x behind × IsWithinBounds x × (behind ≤ length bytes) × (at + count_of x ≤ behind)
place_taken wire format encoder p bytes at x behind fits within e =
    let before : Unread = record { bytes = drop at bytes; budget = most_values } in
    let o = placed_ok (length bytes) (value wire most_levels tags.Struct before) (x, behind) e in
    let y = o.0.0 in
    let after = o.0.1 in
    let t = value_taken wire format encoder p most_levels tags.Struct before after y (All-drop (λ b. b < 256) at bytes fits) o.1 in
    let len : length (drop at bytes) ≡ length t.text + length after.bytes = ap length t.whole ∙ length-append t.text after.bytes in
    let some : count_of y ≤ length t.text = t.bytes in
    let count : count_of y + after.budget ≡ most_values = t.count in
    let d = length-drop at bytes in
    subst (λ (z : Tree × ℕ). IsEncodedAt format bytes at z.0 z.1 × IsWithinBounds z.0 × (z.1 ≤ length bytes) × (at + count_of z.0 ≤ z.1)) o.2 (
      record { text = t.text; more = after.bytes; within = within; whole = t.whole; spells = t.spells; end = omega arith },
      record { is_struct = t.kind; depth = t.depth; count = omega arith },
      omega arith,
      omega arith,
    )

pub place_given : (wire : Wire) (format : Format) (encoder : Encoder) → IsProtocol wire format encoder → (bytes : List ℕ) (at : ℕ) (x : Tree) (behind : ℕ)
    → IsEncodedAt format bytes at x behind → IsWithinBounds x → struct_at wire bytes at ≡ Ok (x, behind)
place_given wire format encoder p bytes at x behind s b =
    let given = spelled_given wire format encoder p most_levels most_values x s.text s.more s.spells b.depth b.count in
    let after : Unread = record { bytes = s.more; budget = most_values - count_of x } in
    let here : value wire most_levels tags.Struct (record { bytes = drop at bytes; budget = most_values }) ≡ Ok (x, after) =
    ap (λ (t : List ℕ). value wire most_levels tags.Struct (record { bytes = t; budget = most_values })) s.whole
    ∙ subst (λ (k : Tag). value wire most_levels k (record { bytes = s.text ++ s.more; budget = most_values }) ≡ Ok (x, after)) b.is_struct given in
    let len : length (drop at bytes) ≡ length s.text + length s.more = ap length s.whole ∙ length-append s.text s.more in
    let d = length-drop at bytes in
    let w : at ≤ length bytes = s.within in
    let end : behind ≡ at + length s.text = s.end in
    ap (placed (length bytes)) here ∙ ap (λ (k : ℕ). answer (x, k)) (omega arith)

-- ---- one reading

abbrev placed_whole : Tree → Unread → Result (Tree × Unread) WireFault
placed_whole x after = Ok (x, after)

abbrev whole : Tree × Unread → Result (Tree × Unread) WireFault
whole x = Ok x

whole_is : (x y : Tree × Unread) → whole x ≡ whole y → x ≡ y
whole_is x y e = cc

same_answer : (x y : Tree) (a b : Unread) → placed_whole x a ≡ placed_whole y b → (x ≡ y) × (a.bytes ≡ b.bytes)
same_answer x y a b e = (ap (λ (z : Tree × Unread). z.0) (whole_is (x, a) (y, b) e), ap (λ (z : Tree × Unread). z.1.bytes) (whole_is (x, a) (y, b) e))

pub one_value : (wire : Wire) (format : Format) (encoder : Encoder) → IsProtocol wire format encoder → (x y : Tree) (text more : List ℕ) → tag_of x ≡ tag_of y
    → Spells format x text → Spells format y (text ++ more) → (x ≡ y) × (more ≡ [])
one_value wire format encoder p x y text more same h k =
    let levels : ℕ = depth_of x + depth_of y in
    let all : List ℕ = text ++ more in
    let one : value wire levels (tag_of x) (record { bytes = all; budget = count_of x + count_of y }) ≡ placed_whole x (record { bytes = more; budget = count_of y }) =
    value_given wire format encoder p x levels (omega arith) (count_of y) text more h in
    let two : value wire levels (tag_of y) (record { bytes = all ++ []; budget = count_of y + count_of x }) ≡ placed_whole y (record { bytes = []; budget = count_of x }) =
    value_given wire format encoder p y levels (omega arith) (count_of x) all [] k in
    let swap : count_of x + count_of y ≡ count_of y + count_of x = omega arith in
    let bridge : value wire levels (tag_of x) (record { bytes = all; budget = count_of x + count_of y }) ≡ value wire levels (tag_of y) (record { bytes = all ++ []; budget = count_of y + count_of x }) =
    ap (λ (t : Tag). value wire levels t (record { bytes = all; budget = count_of x + count_of y })) same
    ∙ ap (λ (t : List ℕ). value wire levels (tag_of y) (record { bytes = t; budget = count_of x + count_of y })) (sym (append-nil all))
    ∙ ap (λ (n : ℕ). value wire levels (tag_of y) (record { bytes = all ++ []; budget = n })) swap in
    same_answer x y (record { bytes = more; budget = count_of y }) (record { bytes = []; budget = count_of x }) (sym one ∙ bridge ∙ two)

-- ---- what was written at a place

pub place_written : (wire : Wire) (format : Format) (encoder : Encoder) → IsProtocol wire format encoder → (x y : Tree) → HasMeasuresOf x y → (text front more : List ℕ) → Spells format y text
    → IsWithinBounds x → struct_at wire (front ++ (text ++ more)) (length front) ≡ Ok (y, length front + length text)
place_written wire format encoder p x y m text front more h b =
    let depth : depth_of x ≤ most_levels = b.depth in
    let count : count_of x ≤ most_values = b.count in
    let same_depth : depth_of y ≡ depth_of x = m.depth in
    let same_count : count_of y ≡ count_of x = m.count in
    place_given wire format encoder p (front ++ (text ++ more)) (length front) y (length front + length text)
    (record { text = text; more = more; within = omega (arith, length-append front (text ++ more)); whole = drop_at front (text ++ more) (length front) refl; spells = h; end = refl })
    (record { is_struct = m.tag ∙ b.is_struct; depth = omega arith; count = omega arith })
