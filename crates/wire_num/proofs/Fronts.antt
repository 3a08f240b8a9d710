-- So many bytes in front, and what they stand for.
use Rattle.std.proofs.Common.{◌≡◌, ℕ, ◌<◌, ◌≤◌, Bool, true, false, cond, leb, List, ◌++◌, length, take, drop, Result, Ok, Err, refl, sym, ap, subst, ◌∙◌, append_assoc, arith}
use Rattle.std.proofs.lemmas.Bool.{leb-true, leb-false, le-leb, lt-leb}
use Rattle.std.proofs.lemmas.List.{take_at, drop_at, take-append-drop, length-append, length-take}
use Rattle.std.proofs.lemmas.List.Elements.{All-take}
use Rattle.wire_num.specs.declared.fault.NumFault.{NumFault}
use Rattle.wire_num.specs.declared.fault.NumFault.TheVariants.{Short}
use Rattle.wire_num.specs.Decoding.{decoded_as, decode_bytes}
use Rattle.wire_num.specs.Encoded.{AreByteSized, Decodes}

abbrev pub decoded : {A : Type 0} → A × List ℕ → Result (A × List ℕ) NumFault
decoded x = Ok x

abbrev pub short : {A : Type 0} → Result (A × List ℕ) NumFault
short = Err Short

pub decoded_is : {A : Type 0} (x y : A × List ℕ) → decoded x ≡ decoded y → x ≡ y
decoded_is x y e = cc

-- so many bytes stand in front
pub record IsFront (size : ℕ) (bytes front behind : List ℕ) : Type 0 where
  pub whole : bytes ≡ front ++ behind
  pub len : length front ≡ size

front_if : (b : Bool) (size : ℕ) (bytes : List ℕ) (x : List ℕ × List ℕ) → leb size (length bytes) ≡ b
    → cond b (decoded (take size bytes, drop size bytes)) short ≡ Ok x → IsFront size bytes x.0 x.1
front_if false size bytes x t e = absurd cc
front_if true size bytes x t e =
    let le : size ≤ length bytes = leb-true size (length bytes) t in
    subst (λ (y : List ℕ × List ℕ). IsFront size bytes y.0 y.1) (decoded_is (take size bytes, drop size bytes) x e)
    (record { whole = sym (take-append-drop size bytes); len = omega (arith, length-take size bytes) })

pub front_found : (size : ℕ) (bytes front behind : List ℕ) → decode_bytes size bytes ≡ Ok (front, behind) → IsFront size bytes front behind
front_found size bytes front behind e = front_if (leb size (length bytes)) size bytes (front, behind) refl e

pub front_only : (size : ℕ) (front behind : List ℕ) → length front ≡ size → decode_bytes size (front ++ behind) ≡ Ok (front, behind)
front_only size front behind len =
    let enough : leb size (length (front ++ behind)) ≡ true = le-leb size (length (front ++ behind)) (omega (arith, length-append front behind)) in
    ap (λ (b : Bool). cond b (decoded (take size (front ++ behind), drop size (front ++ behind))) short) enough
    ∙ ap (λ (t : List ℕ). decoded (t, drop size (front ++ behind))) (take_at front behind size len)
    ∙ ap (λ (t : List ℕ). decoded (front, t)) (drop_at front behind size len)

pub front_short : (size : ℕ) (bytes : List ℕ) → length bytes < size → decode_bytes size bytes ≡ short
front_short size bytes less =
    ap (λ (b : Bool). cond b (decoded (take size bytes, drop size bytes)) short) (lt-leb size (length bytes) less)

fault_if : (b : Bool) (size : ℕ) (bytes : List ℕ) (fault : NumFault) → leb size (length bytes) ≡ b
    → cond b (decoded (take size bytes, drop size bytes)) short ≡ Err fault → (fault ≡ Short) × (length bytes < size)
fault_if true size bytes fault t e = absurd cc
fault_if false size bytes fault t e = (cc, leb-false size (length bytes) t)

pub front_fault : (size : ℕ) (bytes : List ℕ) (fault : NumFault) → decode_bytes size bytes ≡ Err fault → (fault ≡ Short) × (length bytes < size)
front_fault size bytes fault e = fault_if (leb size (length bytes)) size bytes fault refl e

-- what was decoded as what it stands for
pub meant : {A B : Type 0} (meaning : A → B) (r : Result (A × List ℕ) NumFault) (y : B) (behind : List ℕ) → decoded_as meaning r ≡ Ok (y, behind)
    → (x : A) × (r ≡ Ok (x, behind)) × (meaning x ≡ y)
meant meaning (Ok x) y behind e =
    let same : (meaning x.0, x.1) ≡ (y, behind) = decoded_is (meaning x.0, x.1) (y, behind) e in
    (x.0, ap (λ (t : List ℕ). decoded (x.0, t)) (ap (λ (z : _ × List ℕ). z.1) same), ap (λ (z : _ × List ℕ). z.0) same)
meant meaning (Err fault) y behind e = absurd cc

pub meant_fault : {A B : Type 0} (meaning : A → B) (r : Result (A × List ℕ) NumFault) (fault : NumFault) → decoded_as meaning r ≡ Err fault → r ≡ Err fault
meant_fault meaning (Ok x) fault e = absurd cc
meant_fault meaning (Err other) fault e = cc

-- a number of so many bytes, of which it is told what they stand for, and which bytes stand for it
pub fixed_decodes : {A : Type 0} (size : ℕ) (meaning : List ℕ → A) (IsEncoding : A → List ℕ → Type 0)
    → ((front : List ℕ) → length front ≡ size → AreByteSized front → IsEncoding (meaning front) front)
    → ((x : A) (encoding : List ℕ) → IsEncoding x encoding → (length encoding ≡ size) × (meaning encoding ≡ x))
    → Decodes (λ bytes. decoded_as meaning (decode_bytes size bytes)) IsEncoding
fixed_decodes size meaning IsEncoding means back = record {
  found = λ bytes behind x fits e.
      let m = meant meaning (decode_bytes size bytes) x behind e in
      let f = front_found size bytes m.0 behind m.1 in
      let each : AreByteSized m.0 = subst AreByteSized (take_at m.0 behind size f.len) (All-take (λ b. b < 256) size (m.0 ++ behind) (subst AreByteSized f.whole fits)) in
      record { encoding = m.0; whole = f.whole; is = subst (λ y. IsEncoding y m.0) m.2 (means m.0 f.len each) };
  only = λ x encoding behind is.
      let b = back x encoding is in
      ap (decoded_as meaning) (front_only size encoding behind b.0) ∙ ap (λ y. decoded (y, behind)) b.1;
  cut_off = λ x front rest is some.
      let b = back x (front ++ rest) is in
      ap (decoded_as meaning) (front_short size front (omega (arith, length-append front rest, b.0)));
  stays = λ bytes behind fault e other. absurd (other (front_fault size bytes fault (meant_fault meaning (decode_bytes size bytes) fault e)).0);
  goes_on = λ bytes behind more x e.
      let m = meant meaning (decode_bytes size bytes) x behind e in
      let f = front_found size bytes m.0 behind m.1 in
      ap (λ t. decoded_as meaning (decode_bytes size t)) (ap (λ t. t ++ more) f.whole ∙ append_assoc m.0 behind more)
      ∙ ap (decoded_as meaning) (front_only size m.0 (behind ++ more) f.len)
      ∙ ap (λ y. decoded (y, behind ++ more)) m.2;
}
