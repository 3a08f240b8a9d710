-- From what is read in front of bytes to what is read at a place of them.
use Rattle.std.proofs.Common.{◌≡◌, ℕ, ◌+◌, ◌-◌, ◌≤◌, List, refl, ◌++◌, length, take, drop, Ok, Err, sym, ap, ◌∙◌, append_assoc, arith}
use Rattle.std.proofs.lemmas.List.{length-append, length-drop, drop_at, take_at, take-append-drop}
use Rattle.wire_num.specs.Encoded.{AreByteSized}
use Rattle.thrift_value.specs.declared.tag.Tag.{Tag}
use Rattle.thrift_value.specs.declared.wire_fault.WireFault.{WireFault}
use Rattle.thrift_value.specs.Measures.{count_of}
use Rattle.thrift_value.specs.Tree.{Tree}
use Rattle.wire_model.specs.Answering.{FaultsExactly}
use Rattle.wire_model.specs.AtPlace.{left_at, passed_over}
use Rattle.wire_model.specs.Decoder.{Unread}
use Rattle.wire_model.specs.Format.{Format}
use Rattle.wire_model.specs.Place.{TakenOff}
use Rattle.wire_model.specs.Protocol.{DecodesPart, IsInFront, IsUncounted, recounted}
use Rattle.wire_model.specs.Reading.{value}
use Rattle.wire_model.specs.Wire.{Wire}
use Rattle.wire_walk.proofs.PassedOver.{Reading, faults_by}

-- the end of bytes stands where it begins
end_is_drop : (front back bytes : List ℕ) → bytes ≡ front ++ back → back ≡ drop (length bytes - length back) bytes
end_is_drop front back bytes e =
    let n : length bytes - length back ≡ length front = omega (arith, ap length e ∙ length-append front back) in
    sym ((λ i. drop (n i) (e i)) ∙ drop_at front back (length front) refl)

-- the whole, where what is left from a place begins with a text
whole_is : (bytes : List ℕ) (at : ℕ) (text back : List ℕ) → drop at bytes ≡ text ++ back → bytes ≡ (take at bytes ++ text) ++ back
whole_is bytes at text back e =
    sym (take-append-drop at bytes) ∙ ap (λ t. take at bytes ++ t) e ∙ sym (append_assoc (take at bytes) text back)

behind_is : (bytes : List ℕ) (at : ℕ) (text back : List ℕ) → drop at bytes ≡ text ++ back → back ≡ drop (length bytes - length back) bytes
behind_is bytes at text back e = end_is_drop (take at bytes ++ text) back bytes (whole_is bytes at text back e)

behind_within : (bytes : List ℕ) (at : ℕ) (text back : List ℕ) → drop at bytes ≡ text ++ back → length back ≤ length bytes
behind_within bytes at text back e =
    let len : length (drop at bytes) ≡ length text + length back = ap length e ∙ length-append text back in
    omega (arith, length-drop at bytes)

-- parts

-- a part that was read in front stands there
pub part_in_front : {A : Type 0} {IsText : A → List ℕ → Type 0} {announced : A → ℕ} {HasFault : WireFault → List ℕ → Type 0} (decoder : Unread → Reading A)
    → DecodesPart decoder IsText announced HasFault → (bytes : List ℕ) (at : ℕ) (start rest : Unread) (x : A)
    → AreByteSized (drop at bytes) → start ≡ left_at bytes at 0 → decoder start ≡ Ok (x, rest) → IsInFront IsText x (left_at bytes at 0) rest
part_in_front decoder d bytes at start rest x fits is e = d.found (left_at bytes at 0) rest x fits (ap decoder (sym is) ∙ e)

pub part_within : {A : Type 0} {IsText : A → List ℕ → Type 0} {x : A} (bytes : List ℕ) (at : ℕ) (rest : Unread) → IsInFront IsText x (left_at bytes at 0) rest
    → length rest.bytes ≤ length bytes
part_within bytes at rest f = behind_within bytes at f.text rest.bytes f.whole

-- it is read at its place, whatever the number of values that may still come
pub part_read : {A : Type 0} {IsText : A → List ℕ → Type 0} (decoder : Unread → Reading A) → IsUncounted decoder
    → (bytes : List ℕ) (at : ℕ) (start rest : Unread) (x seen : A) (place : ℕ) → start ≡ left_at bytes at 0 → decoder start ≡ Ok (x, rest)
    → IsInFront IsText x (left_at bytes at 0) rest → x ≡ seen → place ≡ length bytes - length rest.bytes
    → (budget : ℕ) → decoder (left_at bytes at budget) ≡ Ok (seen, left_at bytes place budget)
part_read decoder u bytes at start rest x seen place is e f same placed budget =
    let behind : rest.bytes ≡ drop place bytes = behind_is bytes at f.text rest.bytes f.whole ∙ ap (λ n. drop n bytes) (sym placed) in
    u (drop at bytes) 0 budget ∙ ap (recounted budget) (ap decoder (sym is) ∙ e) ∙ (λ i. Ok (same i, record { bytes = behind i; budget = budget }))

pub part_faults : {A : Type 0} (decoder : Unread → Reading A) → IsUncounted decoder → (bytes : List ℕ) (at : ℕ) (start : Unread) (fault : WireFault)
    → start ≡ left_at bytes at 0 → FaultsExactly fault (decoder start) → (budget : ℕ) → FaultsExactly fault (decoder (left_at bytes at budget))
part_faults decoder u bytes at start fault is h budget =
    faults_by fault (decoder start) (decoder (left_at bytes at budget))
    (λ f e. u (drop at bytes) 0 budget ∙ ap (recounted budget) (ap decoder (sym is) ∙ e)) h

-- a text at the end of its spelling

text_whole : (bytes : List ℕ) (at : ℕ) (spelling back front text : List ℕ) → drop at bytes ≡ spelling ++ back → spelling ≡ front ++ text
    → bytes ≡ (take at bytes ++ front) ++ (text ++ back)
text_whole bytes at spelling back front text e is =
    whole_is bytes at spelling back e
    ∙ ap (λ t. (take at bytes ++ t) ++ back) is
    ∙ ap (λ t. t ++ back) (sym (append_assoc (take at bytes) front text))
    ∙ append_assoc (take at bytes ++ front) text back

pub text_within : (bytes : List ℕ) (at : ℕ) (spelling back front text : List ℕ) (place : ℕ) → drop at bytes ≡ spelling ++ back → spelling ≡ front ++ text
    → place ≡ length bytes - length back → length text ≤ place
text_within bytes at spelling back front text place e is placed =
    let whole = text_whole bytes at spelling back front text e is in
    let len : length bytes ≡ length (take at bytes ++ front) + (length text + length back) =
    ap length whole ∙ length-append (take at bytes ++ front) (text ++ back) ∙ ap (λ n. length (take at bytes ++ front) + n) (length-append text back) in
    omega arith

pub text_there : (bytes : List ℕ) (at : ℕ) (spelling back front text : List ℕ) (place : ℕ) → drop at bytes ≡ spelling ++ back → spelling ≡ front ++ text
    → place ≡ length bytes - length back → text ≡ take (place - (place - length text)) (drop (place - length text) bytes)
text_there bytes at spelling back front text place e is placed =
    let whole = text_whole bytes at spelling back front text e is in
    let start = take at bytes ++ front in
    let len : length bytes ≡ length start + (length text + length back) =
    ap length whole ∙ length-append start (text ++ back) ∙ ap (λ n. length start + n) (length-append text back) in
    let from : place - length text ≡ length start = omega arith in
    let many : place - (place - length text) ≡ length text = omega arith in
    sym ((λ i. take (many i) (drop (from i) (whole i)))
    ∙ ap (take (length text)) (drop_at start (text ++ back) (length start) refl)
    ∙ take_at text back (length text) refl)

-- values that are passed over

pub read_behind : {A : Type 0} (r : Reading A) (rest : Unread) → passed_over r ≡ Ok rest → (x : A) × (r ≡ Ok (x, rest))
read_behind (Ok x) rest e = let same : x.1 ≡ rest = cc in (x.0, ap (λ s. Ok (x.0, s)) same)
read_behind (Err fault) rest e = absurd cc

-- the law of what was read
abbrev pub Takes : Wire → Format → Type 0
Takes wire format = (levels : ℕ) (tag : Tag) (before after : Unread) (x : Tree) → AreByteSized before.bytes → value wire levels tag before ≡ Ok (x, after)
    → TakenOff format levels tag x before after

-- the value that was passed over
pub passed_there : (wire : Wire) (format : Format) → Takes wire format → (levels : ℕ) (tag : Tag) (bytes : List ℕ) (at budget : ℕ) (start rest : Unread)
    → AreByteSized (drop at bytes) → start ≡ left_at bytes at budget → passed_over (value wire levels tag start) ≡ Ok rest
    → (x : Tree) × TakenOff format levels tag x (left_at bytes at budget) rest
passed_there wire format law levels tag bytes at budget start rest fits is e =
    let r = read_behind (value wire levels tag (left_at bytes at budget)) rest (ap (λ s. passed_over (value wire levels tag s)) (sym is) ∙ e) in
    (r.0, law levels tag (left_at bytes at budget) rest r.0 fits r.1)

pub passed_within : (format : Format) (levels : ℕ) (tag : Tag) (bytes : List ℕ) (at budget : ℕ) (rest : Unread)
    → (x : Tree) × TakenOff format levels tag x (left_at bytes at budget) rest → length rest.bytes ≤ length bytes
passed_within format levels tag bytes at budget rest t = behind_within bytes at t.1.text rest.bytes t.1.whole

pub passed_fewer : (format : Format) (levels : ℕ) (tag : Tag) (bytes : List ℕ) (at budget : ℕ) (rest : Unread) (left : ℕ)
    → (x : Tree) × TakenOff format levels tag x (left_at bytes at budget) rest → left ≡ rest.budget → left ≤ budget
passed_fewer format levels tag bytes at budget rest left t same = let c : count_of t.0 + rest.budget ≡ budget = t.1.count in omega arith

pub passed_to : (wire : Wire) (format : Format) (levels : ℕ) (tag : Tag) (bytes : List ℕ) (at budget : ℕ) (start rest : Unread) (place left : ℕ)
    → (x : Tree) × TakenOff format levels tag x (left_at bytes at budget) rest → start ≡ left_at bytes at budget → passed_over (value wire levels tag start) ≡ Ok rest
    → place ≡ length bytes - length rest.bytes → left ≡ rest.budget
    → passed_over (value wire levels tag (left_at bytes at budget)) ≡ Ok (left_at bytes place left)
passed_to wire format levels tag bytes at budget start rest place left t is e placed same =
    let behind : rest.bytes ≡ drop place bytes = behind_is bytes at t.1.text rest.bytes t.1.whole ∙ ap (λ n. drop n bytes) (sym placed) in
    ap (λ s. passed_over (value wire levels tag s)) (sym is) ∙ e ∙ (λ i. Ok (record { bytes = behind i; budget = sym same i }))

pub passed_counts : (wire : Wire) (format : Format) → Takes wire format → (levels : ℕ) (tag : Tag) (bytes : List ℕ) (at budget : ℕ) (start rest : Unread) (left : ℕ)
    → AreByteSized (drop at bytes) → start ≡ left_at bytes at budget → passed_over (value wire levels tag start) ≡ Ok rest → left ≡ rest.budget
    → (x : Tree) (after : Unread) → value wire levels tag (left_at bytes at budget) ≡ Ok (x, after) → count_of x + left ≡ budget
passed_counts wire format law levels tag bytes at budget start rest left fits is e same x after read =
    let t = law levels tag (left_at bytes at budget) after x fits read in
    let both : Ok after ≡ Ok rest = sym (ap passed_over read) ∙ ap (λ s. passed_over (value wire levels tag s)) (sym is) ∙ e in
    let here : after ≡ rest = cc in
    let c : count_of x + after.budget ≡ budget = t.count in
    let d : after.budget ≡ left = ap (λ (u : Unread). u.budget) here ∙ sym same in
    omega arith
