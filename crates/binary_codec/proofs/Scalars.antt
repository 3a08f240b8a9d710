-- Numbers and bools.
use Rattle.std.specs.Prelude.{ℤ, FitsSigned}
use Rattle.std.specs.Int.{Width, w8, w16, w32, w64, w128}
use Rattle.std.proofs.Common.{◌≡◌, ℕ, ◌<◌, ◌≤◌, Bool, true, false, eqb, List, [], ◌∷◌, ◌++◌, length, Ok, refl, ap, subst, ◌∙◌, arith}
use Rattle.std.proofs.lemmas.Bool.{eqb-true, eqb-false, ne_eqb}
use Rattle.wire_num.specs.Fixed.{unsigned_bytes, signed_bytes}
use Rattle.thrift_value.specs.declared.tag.Tag.{Tag}
use Rattle.thrift_value.specs.declared.tag.Tag.TheVariants as tags
use Rattle.thrift_value.specs.Tree.{Tree, of_bool, of_i8, of_i16, of_i32, of_i64, of_double, of_uuid}
use Rattle.thrift_value.specs.Tags.{tag_of}
use Rattle.thrift_value.specs.Ranges.{IsInRange}
use Rattle.wire_model.specs.Decoder.{Unread, ◌>>=◌, give}
use Rattle.wire_model.specs.Wire.{IsScalar}
use Rattle.wire_num.specs.Encoded.{AreByteSized}
use Rattle.wire_model.specs.Protocol.{IsInFront}
use Rattle.wire_model.proofs.Steps.{went_on, goes_on, ok_is}
use Rattle.wire_model.specs.Pieces.{byte}
use Rattle.wire_model.proofs.Pieces.{byte_found, byte_given}
use Rattle.binary_codec.specs.Reading.{unsigned, signed, binary_scalar}
use Rattle.binary_codec.specs.Spelling.{IsScalarText}
use Rattle.binary_codec.specs.Written.{scalar_text}
use Rattle.wire_num.proofs.Widths.{IsWide, wide_8, wide_16, wide_32, wide_64}
use Rattle.wire_num.proofs.Halves.{wide_128}
use Rattle.binary_codec.proofs.FixedNumbers.{unsigned_found, unsigned_given, signed_found, signed_given}

abbrev rest : List ℕ → ℕ → Unread
rest bytes left = record { bytes = bytes; budget = left }

abbrev IsText : Tag → Tree → List ℕ → Type 0
IsText tag x text = (tag_of x ≡ tag) × IsScalarText x text

bool_text : (b : ℕ) → b < 256 → (test : Bool) → eqb b 1 ≡ test → IsScalarText (of_bool test) (b ∷ [])
bool_text b small true e = ap (λ (k : ℕ). k ∷ []) (eqb-true b 1 e)
bool_text b small false e = (b, small, eqb-false b 1 e, refl)

-- a signed number of a kind
signed_scalar : (w : Width) → IsWide w → (tag : Tag) (make : ℤ → Tree) → ((z : ℤ) → FitsSigned w z → IsText tag (make z) (signed_bytes w z))
    → (before after : Unread) (x : Tree) → AreByteSized before.bytes → (signed w >>= λ n. give (make n)) before ≡ Ok (x, after) → IsInFront (IsText tag) x before after
signed_scalar w wide tag make is before after x fits e =
    let one = went_on (signed w before) (λ n. give (make n)) (x, after) e in
    let s = signed_found w wide before one.0.1 one.0.0 fits one.1 in
    subst (λ (y : Tree × Unread). IsInFront (IsText tag) y.0 before y.1) (ok_is (make one.0.0, one.0.1) (x, after) one.2)
    (record { text = signed_bytes w one.0.0; whole = s.whole; spells = is one.0.0 s.fits; budget = s.budget })

pub scalar_found : (tag : Tag) → IsScalar tag → (before after : Unread) (x : Tree) → AreByteSized before.bytes → binary_scalar tag before ≡ Ok (x, after) → IsInFront (IsText tag) x before after
unfolding binary_scalar
scalar_found tags.Bool is before after x fits e =
    let one = went_on (byte before) (λ b. give (of_bool (eqb b 1))) (x, after) e in
    let b = one.0.0 in
    let f = byte_found before one.0.1 b fits one.1 in
    subst (λ (y : Tree × Unread). IsInFront (IsText tags.Bool) y.0 before y.1) (ok_is (of_bool (eqb b 1), one.0.1) (x, after) one.2)
    (record { text = b ∷ []; whole = f.whole; spells = (refl, bool_text b f.small (eqb b 1) refl); budget = f.budget })
scalar_found tags.I8 is before after x fits e = signed_scalar w8 wide_8 tags.I8 (λ n. of_i8 n) (λ z h. (refl, (h, refl))) before after x fits e
scalar_found tags.I16 is before after x fits e = signed_scalar w16 wide_16 tags.I16 (λ n. of_i16 n) (λ z h. (refl, (h, refl))) before after x fits e
scalar_found tags.I32 is before after x fits e = signed_scalar w32 wide_32 tags.I32 (λ n. of_i32 n) (λ z h. (refl, (h, refl))) before after x fits e
scalar_found tags.I64 is before after x fits e = signed_scalar w64 wide_64 tags.I64 (λ n. of_i64 n) (λ z h. (refl, (h, refl))) before after x fits e
scalar_found tags.Double is before after x fits e =
    let one = went_on (unsigned w64 before) (λ n. give (of_double n)) (x, after) e in
    let n = one.0.0 in
    let f = unsigned_found w64 wide_64 before one.0.1 n fits one.1 in
    subst (λ (y : Tree × Unread). IsInFront (IsText tags.Double) y.0 before y.1) (ok_is (of_double n, one.0.1) (x, after) one.2)
    (record { text = unsigned_bytes w64 n; whole = f.whole; spells = (refl, (f.small, refl)); budget = f.budget })
scalar_found tags.Uuid is before after x fits e =
    let one = went_on (unsigned w128 before) (λ n. give (of_uuid n)) (x, after) e in
    let n = one.0.0 in
    let f = unsigned_found w128 wide_128 before one.0.1 n fits one.1 in
    subst (λ (y : Tree × Unread). IsInFront (IsText tags.Uuid) y.0 before y.1) (ok_is (of_uuid n, one.0.1) (x, after) one.2)
    (record { text = unsigned_bytes w128 n; whole = f.whole; spells = (refl, (f.small, refl)); budget = f.budget })
scalar_found tags.Bytes is before after x fits e = absurd is
scalar_found tags.Struct is before after x fits e = absurd is
scalar_found tags.Map is before after x fits e = absurd is
scalar_found tags.Set is before after x fits e = absurd is
scalar_found tags.List is before after x fits e = absurd is

signed_only : (w : Width) → IsWide w → (make : ℤ → Tree) (z : ℤ) (text more : List ℕ) (left : ℕ) → FitsSigned w z → text ≡ signed_bytes w z
    → (signed w >>= λ n. give (make n)) (rest (text ++ more) left) ≡ Ok (make z, rest more left)
signed_only w wide make z text more left fits is =
    ap (λ (t : List ℕ). (signed w >>= λ n. give (make n)) (rest (t ++ more) left)) is
    ∙ goes_on (signed w (rest (signed_bytes w z ++ more) left)) (λ n. give (make n)) z (rest more left) _ (signed_given w wide z more left fits) refl

byte_scalar : (b : ℕ) (flag : Bool) (text more : List ℕ) (left : ℕ) → eqb b 1 ≡ flag → text ≡ b ∷ [] → (byte >>= λ b. give (of_bool (eqb b 1))) (rest (text ++ more) left) ≡ Ok (of_bool flag, rest more left)
byte_scalar b flag text more left test is =
    ap (λ (t : List ℕ). (byte >>= λ b. give (of_bool (eqb b 1))) (rest (t ++ more) left)) is
    ∙ goes_on (byte (rest (b ∷ more) left)) (λ b. give (of_bool (eqb b 1))) b (rest more left) _ (byte_given b more left)
    (ap (λ (t : Bool). give (of_bool t) (rest more left)) test)

pub scalar_only : (x : Tree) (text more : List ℕ) (left : ℕ) → IsScalarText x text → binary_scalar (tag_of x) (rest (text ++ more) left) ≡ Ok (x, rest more left)
unfolding binary_scalar
scalar_only (of_bool true) text more left h = byte_scalar 1 true text more left refl h
scalar_only (of_bool false) text more left h = byte_scalar h.0 false text more left (ne_eqb h.0 1 h.2) h.3
scalar_only (of_i8 n) text more left h = signed_only w8 wide_8 (λ n. of_i8 n) n text more left h.0 h.1
scalar_only (of_i16 n) text more left h = signed_only w16 wide_16 (λ n. of_i16 n) n text more left h.0 h.1
scalar_only (of_i32 n) text more left h = signed_only w32 wide_32 (λ n. of_i32 n) n text more left h.0 h.1
scalar_only (of_i64 n) text more left h = signed_only w64 wide_64 (λ n. of_i64 n) n text more left h.0 h.1
scalar_only (of_double n) text more left h =
    ap (λ (t : List ℕ). binary_scalar tags.Double (rest (t ++ more) left)) h.1
    ∙ goes_on (unsigned w64 (rest (unsigned_bytes w64 n ++ more) left)) (λ n. give (of_double n)) n (rest more left) _ (unsigned_given w64 wide_64 n more left h.0) refl
scalar_only (of_uuid n) text more left h =
    ap (λ (t : List ℕ). binary_scalar tags.Uuid (rest (t ++ more) left)) h.1
    ∙ goes_on (unsigned w128 (rest (unsigned_bytes w128 n ++ more) left)) (λ n. give (of_uuid n)) n (rest more left) _ (unsigned_given w128 wide_128 n more left h.0) refl
scalar_only x text more left h = absurd h

long : (text t : List ℕ) → text ≡ t → 1 ≤ length t → 1 ≤ length text
long text t is some = let l : length text ≡ length t = ap length is in omega arith

pub scalar_byte : (x : Tree) (text : List ℕ) → IsScalarText x text → 1 ≤ length text
scalar_byte (of_bool true) text h = long text (1 ∷ []) h (omega arith)
scalar_byte (of_bool false) text h = long text (h.0 ∷ []) h.3 (omega arith)
scalar_byte (of_i8 n) text h = long text (signed_bytes w8 n) h.1 (omega arith)
scalar_byte (of_i16 n) text h = long text (signed_bytes w16 n) h.1 (omega arith)
scalar_byte (of_i32 n) text h = long text (signed_bytes w32 n) h.1 (omega arith)
scalar_byte (of_i64 n) text h = long text (signed_bytes w64 n) h.1 (omega arith)
scalar_byte (of_double n) text h = long text (unsigned_bytes w64 n) h.1 (omega arith)
scalar_byte (of_uuid n) text h = long text (unsigned_bytes w128 n) h.1 (omega arith)
scalar_byte x text h = absurd h

pub scalar_written : (x : Tree) → IsScalar (tag_of x) → IsInRange x → IsScalarText x (scalar_text x)
scalar_written (of_bool true) is r = refl
scalar_written (of_bool false) is r = (0, omega arith, (λ e. let f : ⊥ = omega arith in f), refl)
scalar_written (of_i8 n) is r = (r, refl)
scalar_written (of_i16 n) is r = (r, refl)
scalar_written (of_i32 n) is r = (r, refl)
scalar_written (of_i64 n) is r = (r, refl)
scalar_written (of_double n) is r = (r, refl)
scalar_written (of_uuid n) is r = (r, refl)
scalar_written x is r = absurd is

pub scalar_range : (x : Tree) (text : List ℕ) → IsScalarText x text → IsInRange x
scalar_range (of_bool b) text h = tt
scalar_range (of_i8 n) text h = h.0
scalar_range (of_i16 n) text h = h.0
scalar_range (of_i32 n) text h = h.0
scalar_range (of_i64 n) text h = h.0
scalar_range (of_double n) text h = h.0
scalar_range (of_uuid n) text h = h.0
scalar_range x text h = absurd h
