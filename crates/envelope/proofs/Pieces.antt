-- What the pieces of a head are: so many bytes, a byte, a number, a name.
use Rattle.std.proofs.Common.{◌≡◌, ℕ, ℤ, pos, negsuc, ◌<◌, List, [], ◌∷◌, ◌++◌, length, get_or, Result, Ok, Err, refl, sym, ap, ◌∙◌, subst, FitsSigned}
use Rattle.std.specs.Int.{w32, from_be_bytes, to_be_bytes, cast_signed, cast_unsigned}
use Rattle.std.specs.List.{All}
use Rattle.std.proofs.lemmas.Int.{to_z-of_z}
use Rattle.std.proofs.lemmas.List.{take_at, drop_at}
use Rattle.std.proofs.lemmas.List.Elements.{All-from_get_or, All-take, All-drop}
use Rattle.wire_num.specs.declared.fault.NumFault.{NumFault}
use Rattle.wire_num.specs.Decoding.{decode_bytes, decode_byte, decode_signed}
use Rattle.wire_num.specs.Encoded.{AreByteSized}
use Rattle.wire_num.specs.Fixed.{signed_of, signed_bytes}
use Rattle.wire_num.proofs.Fronts.{front_found, front_only}
use Rattle.wire_num.proofs.Numbers.{byte_decodes, signed_decodes}
use Rattle.wire_num.proofs.Widths.{byte_at, wide_32}
use Rattle.streams.specs.declared.outcomes.EnvelopeFault.{EnvelopeFault}
use Rattle.envelope.specs.declared.head.Protocol.{Protocol}
use Rattle.envelope.specs.Said.{Said}
use Rattle.envelope.specs.Spelling.{IsSpelling}
use Rattle.envelope.specs.Readout.{◌>>=◌, in_head, head_bytes, head_byte, head_i32, name_of}

-- each is a byte
abbrev pub AreBytes : List ℕ → Type 0
AreBytes bytes = (i : ℕ) → get_or bytes i 0 < 256

-- an answer and a fault, of a known type
abbrev pub ok : {A : Type 0} → A → Result A EnvelopeFault
ok x = Ok x

abbrev pub fail : (A : Type 0) → EnvelopeFault → Result A EnvelopeFault
fail A fault = Err fault

-- what a step gave, where two steps gave something
pub bind_found : {A B : Type 0} (r : Result A EnvelopeFault) (f : A → Result B EnvelopeFault) (y : B) → (r >>= f) ≡ Ok y
    → (x : A) × (r ≡ Ok x) × (f x ≡ Ok y)
bind_found (Ok x) f y e = (x, refl, e)
bind_found (Err fault) f y e = absurd (cc)

pub bind_only : {A B : Type 0} (r : Result A EnvelopeFault) (f : A → Result B EnvelopeFault) (x : A) → r ≡ Ok x → (r >>= f) ≡ f x
bind_only r f x e = ap (λ s. s >>= f) e

pub same_ok : {A : Type 0} (x y : A) → ok x ≡ ok y → x ≡ y
same_ok x y e = cc

-- what was decoded in a head
pub decoded_in_head : {A : Type 0} (r : Result A NumFault) (x : A) → in_head r ≡ Ok x → r ≡ Ok x
decoded_in_head (Ok y) x e = ap (λ z. Ok z) (same_ok y x e)
decoded_in_head (Err fault) x e = absurd cc

pub all_bytes : (bytes : List ℕ) → AreBytes bytes → AreByteSized bytes
all_bytes bytes are = All-from_get_or (λ b. b < 256) bytes 0 (λ i h. are i)

bytes_before : (bytes front rest : List ℕ) → bytes ≡ front ++ rest → AreBytes bytes → AreBytes front
bytes_before bytes front rest whole are =
    byte_at front (subst AreByteSized (take_at front rest (length front) refl) (All-take (λ b. b < 256) (length front) (front ++ rest) (subst AreByteSized whole (all_bytes bytes are))))

pub bytes_behind : (bytes front rest : List ℕ) → bytes ≡ front ++ rest → AreBytes bytes → AreBytes rest
bytes_behind bytes front rest whole are =
    byte_at rest (subst AreByteSized (drop_at front rest (length front) refl) (All-drop (λ b. b < 256) (length front) (front ++ rest) (subst AreByteSized whole (all_bytes bytes are))))

-- so many bytes in front, and those behind them
pub record IsPiece (n : ℕ) (bytes front rest : List ℕ) : Type 0 where
  pub whole : bytes ≡ front ++ rest
  pub size : length front ≡ n
  pub front_bytes : AreBytes bytes → AreBytes front
  pub rest_bytes : AreBytes bytes → AreBytes rest

pub piece_found : (n : ℕ) (bytes : List ℕ) (r : List ℕ × List ℕ) → head_bytes n bytes ≡ Ok r → IsPiece n bytes r.0 r.1
piece_found n bytes r e =
    let f = front_found n bytes r.0 r.1 (decoded_in_head (decode_bytes n bytes) r e) in
    record { whole = f.whole; size = f.len; front_bytes = bytes_before bytes r.0 r.1 f.whole; rest_bytes = bytes_behind bytes r.0 r.1 f.whole }

pub piece_only : (n : ℕ) (front rest : List ℕ) → length front ≡ n → head_bytes n (front ++ rest) ≡ Ok (front, rest)
piece_only n front rest size = ap in_head (front_only n front rest size)

-- a byte in front
pub record IsByteFront (bytes : List ℕ) (b : ℕ) (rest : List ℕ) : Type 0 where
  pub whole : bytes ≡ b ∷ rest
  pub small : b < 256
  pub rest_bytes : AreBytes rest

pub byte_found : (bytes : List ℕ) (r : ℕ × List ℕ) → AreBytes bytes → head_byte bytes ≡ Ok r → IsByteFront bytes r.0 r.1
byte_found bytes r are e =
    let f = byte_decodes.found bytes r.1 r.0 (all_bytes bytes are) (decoded_in_head (decode_byte bytes) r e) in
    record { whole = f.whole ∙ ap (λ (t : List ℕ). t ++ r.1) f.is.1; small = f.is.0; rest_bytes = bytes_behind bytes f.encoding r.1 f.whole are }

pub byte_only : (b : ℕ) (rest : List ℕ) → b < 256 → head_byte (b ∷ rest) ≡ Ok (b, rest)
byte_only b rest small = ap in_head (byte_decodes.only b (b ∷ []) rest (small, refl))

-- a number in front
pub record IsNumber (bytes : List ℕ) (n : ℤ) (rest : List ℕ) : Type 0 where
  pub whole : bytes ≡ signed_bytes w32 n ++ rest
  pub fits : FitsSigned w32 n
  pub rest_bytes : AreBytes rest

-- four bytes as a number, and back
pub spelled_number : (four : List ℕ) → length four ≡ 4 → AreBytes four
    → (signed_bytes w32 (signed_of w32 four) ≡ four) × FitsSigned w32 (signed_of w32 four)
spelled_number four size are =
    let small = wide_32.below four (all_bytes four are) in
    (ap (to_be_bytes w32) (wide_32.signs (from_be_bytes w32 four) small) ∙ wide_32.back four size (all_bytes four are), wide_32.fits (from_be_bytes w32 four) small)

pub number_found : (bytes : List ℕ) (r : ℤ × List ℕ) → AreBytes bytes → head_i32 bytes ≡ Ok r → IsNumber bytes r.0 r.1
number_found bytes r are e =
    let f = (signed_decodes w32 wide_32).found bytes r.1 r.0 (all_bytes bytes are) (decoded_in_head (decode_signed w32 bytes) r e) in
    record { whole = f.whole ∙ ap (λ (t : List ℕ). t ++ r.1) f.is.1; fits = f.is.0; rest_bytes = bytes_behind bytes f.encoding r.1 f.whole are }

-- what the bytes of a number spell
pub read_number : (n : ℤ) → FitsSigned w32 n → signed_of w32 (signed_bytes w32 n) ≡ n
read_number n fits = ap (cast_signed w32) (wide_32.again (cast_unsigned w32 n) (wide_32.unsigned n fits)) ∙ to_z-of_z w32 n fits

pub number_only : (n : ℤ) (rest : List ℕ) → FitsSigned w32 n → head_i32 (signed_bytes w32 n ++ rest) ≡ Ok (n, rest)
number_only n rest fits = ap in_head ((signed_decodes w32 wide_32).only n (signed_bytes w32 n) rest (fits, refl))

-- a name of this length in front
pub record IsName (z : ℤ) (bytes name rest : List ℕ) : Type 0 where
  pub whole : bytes ≡ name ++ rest
  pub size : z ≡ pos (length name)
  pub name_bytes : All (λ b. b < 256) name
  pub rest_bytes : AreBytes rest

pub name_found : (size : ℤ) (bytes : List ℕ) (r : List ℕ × List ℕ) → AreBytes bytes → name_of size bytes ≡ Ok r → IsName size bytes r.0 r.1
unfolding name_of
name_found (pos n) bytes r are e =
    let p = piece_found n bytes r e in
    record {
      whole = p.whole;
      size = ap pos (sym p.size);
      name_bytes = All-from_get_or (λ b. b < 256) r.0 0 (λ i h. p.front_bytes are i);
      rest_bytes = p.rest_bytes are;
    }
name_found (negsuc n) bytes r are e = absurd (cc)

pub name_only : (name rest : List ℕ) → name_of (pos (length name)) (name ++ rest) ≡ Ok (name, rest)
unfolding name_of
name_only name rest = piece_only (length name) name rest refl

-- a head stands in front, of any type
pub record Found (p : Protocol) (bytes : List ℕ) (said : Said) (rest : List ℕ) : Type 0 where
  pub text : List ℕ
  pub whole : bytes ≡ text ++ rest
  pub spells : IsSpelling p said text

pub same_found : (p : Protocol) (bytes : List ℕ) (found r : Said × List ℕ) → ok found ≡ ok r → Found p bytes found.0 found.1 → Found p bytes r.0 r.1
same_found p bytes found r e is = subst (λ (q : Said × List ℕ). Found p bytes q.0 q.1) (same_ok found r e) is
