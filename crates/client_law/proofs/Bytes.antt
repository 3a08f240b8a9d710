-- The bytes of a method's name.
use Rattle.std.proofs.Common.{◌≡◌, ℕ, ◌<◌, ◌≤◌, Bool, true, false, List, [], ◌∷◌, refl, sym, subst, ◌∙◌, arith}
use Rattle.std.specs.Prelude.{All, IsTrue, nat_le, ◌==◌, ◌&&◌, ◌||◌}
use Rattle.std.proofs.lemmas.Bool.{leb-true, leb-false, le-leb, lt-leb, ne_eqb, eqb-true, false≢true}
use Rattle.std.proofs.lemmas.List.Elements.{All-get_or, All-nil, All-cons, All-tail}
use Rattle.schema.specs.Sound.{is_name_byte}
use Rattle.call_model.specs.Names.{is_separator}

-- a letter, a digit or `_` is a byte
pub is_byte : (b : ℕ) → IsTrue (is_name_byte b) → b < 256
is_byte b is = either (nat_le b 255) refl
  where
    either : (t : Bool) → nat_le b 255 ≡ t → b < 256
    either true e =
        let h : b ≤ 255 = leb-true b 255 e in
        omega (arith, h)
    either false e =
        let h : 255 < b = leb-false b 255 e in
        let from_0 : nat_le 48 b ≡ true = le-leb 48 b (omega (arith, h)) in
        let to_9 : nat_le b 57 ≡ false = lt-leb b 57 (omega (arith, h)) in
        let from_A : nat_le 65 b ≡ true = le-leb 65 b (omega (arith, h)) in
        let to_Z : nat_le b 90 ≡ false = lt-leb b 90 (omega (arith, h)) in
        let from_a : nat_le 97 b ≡ true = le-leb 97 b (omega (arith, h)) in
        let to_z : nat_le b 122 ≡ false = lt-leb b 122 (omega (arith, h)) in
        let no_line : (b == 95) ≡ false = ne_eqb b 95 (λ same. omega (arith, h, same)) in
        let none : is_name_byte b ≡ false = (λ i. (((from_0 i && to_9 i) || (from_A i && to_Z i)) || (from_a i && to_z i)) || no_line i) in
        absurd (false≢true (sym none ∙ is))

-- and no `:`
pub is_no_separator : (b : ℕ) → IsTrue (is_name_byte b) → is_separator b ≡ false
is_no_separator b is = either (b == 58) refl
  where
    either : (t : Bool) → (b == 58) ≡ t → is_separator b ≡ false
    either true e = absurd (false≢true (subst (λ n. IsTrue (is_name_byte n)) (eqb-true b 58 e) is))
    either false e = e

pub all_bytes : (name : List ℕ) → All (λ b. IsTrue (is_name_byte b)) name → All (λ b. b < 256) name
all_bytes [] all = All-nil (λ b. b < 256)
all_bytes (b ∷ bs) all =
    All-cons (λ b. b < 256) b bs (is_byte b (All-get_or (λ b. IsTrue (is_name_byte b)) (b ∷ bs) 0 b (omega arith) all))
    (all_bytes bs (All-tail (λ b. IsTrue (is_name_byte b)) b bs all))
