-- The words of the library `hex` and those of this crate.
use Rattle.std.proofs.Common.{◌≡◌, ℕ, ◌+◌, ◌*◌, ◌/◌, ◌%◌, Bool, true, false, cond, List, [], ◌∷◌, length, Option, Some, None, Result, Ok, Err, refl, sym, ap, ◌∙◌, ◌⊎◌, ⊎_elim, arith}
use Rattle.std.proofs.lemmas.Bool.{eqb-true}
use Rattle.std.specs.Prelude.{option_and_then}
use Rattle.std.specs.Option.{option_map}
use Rattle.std.specs.Result.{result_ok}
use Rattle.hex.specs.declared.error.FromHexError.{FromHexError}
use Rattle.hex.specs.declared.error.FromHexError.TheVariants.{OddLength, OutOfMemory}
use Rattle.hex.specs.Hex.{encode_with, encode_lower, decode_pairs, decode_of, hex_digit_value, digit_or_error, ◌>>=◌, IsBytes}
use Rattle.hex.proofs.HexLemmas.{decode_of-encode_lower}
use Rattle.text_out.specs.Hex.{hex_of, hex_digit_of, unhex_of, pair_value}

-- the two words for hexadecimal text are one
pub encoded : (bytes : List ℕ) → encode_lower bytes ≡ hex_of bytes
unfolding encode_with
encoded [] = refl
encoded (b ∷ bytes) = ap (λ text. hex_digit_of (b / 16) ∷ hex_digit_of (b % 16) ∷ text) (encoded bytes)

-- a byte in front of what was read
joined : (b : ℕ) (r : Result (List ℕ) FromHexError) → result_ok (r >>= λ bytes. Ok (b ∷ bytes)) ≡ option_map (λ bytes. b ∷ bytes) (result_ok r)
joined b (Ok bytes) = refl
joined b (Err e) = refl

-- a pair, and then the rest
pair_joined : (high low i : ℕ) (h l : Option ℕ) (r : Result (List ℕ) FromHexError)
    → result_ok ((digit_or_error high i h >>= λ x. digit_or_error low (i + 1) l >>= λ y. Ok (x * 16 + y)) >>= λ b. r >>= λ bytes. Ok (b ∷ bytes))
    ≡ option_and_then (λ b. option_map (λ bytes. b ∷ bytes) (result_ok r)) (option_and_then (λ x. option_map (λ y. x * 16 + y) l) h)
pair_joined high low i None l r = refl
pair_joined high low i (Some x) None r = refl
pair_joined high low i (Some x) (Some y) r = joined (x * 16 + y) r

-- the pairs read by both
decoded_pairs : (i : ℕ) (text : List ℕ) → result_ok (decode_pairs i text) ≡ unhex_of text
unfolding decode_pairs
decoded_pairs i [] = refl
decoded_pairs i (digit ∷ []) = refl
decoded_pairs i (high ∷ low ∷ text) =
    pair_joined high low i (hex_digit_value high) (hex_digit_value low) (decode_pairs (i + 2) text)
    ∙ ap (λ read. option_and_then (λ b. option_map (λ bytes. b ∷ bytes) read) (pair_value high low)) (decoded_pairs (i + 2) text)

nothing : (o : Option ℕ) → option_and_then (λ (_ : ℕ). let none : Option (List ℕ) = None in none) o ≡ None
nothing None = refl
nothing (Some x) = refl

-- a digit without a partner
unhex_of-odd : (text : List ℕ) → length text % 2 ≡ 1 → unhex_of text ≡ None
unhex_of-odd [] odd = absurd (omega arith)
unhex_of-odd (digit ∷ []) odd = refl
unhex_of-odd (high ∷ low ∷ text) odd =
    ap (λ read. option_and_then (λ b. option_map (λ bytes. b ∷ bytes) read) (pair_value high low)) (unhex_of-odd text (omega arith))
    ∙ nothing (pair_value high low)

decoded_by : (text : List ℕ) (odd : Bool) → (odd ≡ true → length text % 2 ≡ 1) → result_ok (cond odd (Err OddLength) (decode_pairs 0 text)) ≡ unhex_of text
decoded_by text true is = sym (unhex_of-odd text (is refl))
decoded_by text false is = decoded_pairs 0 text

-- what `decode` answers is what the pairs spell
pub decoded : (text : List ℕ) → result_ok (decode_of text) ≡ unhex_of text
decoded text = decoded_by text _ (λ h. eqb-true _ _ h)

pub decoded_ok : (text bytes : List ℕ) → decode_of text ≡ Ok bytes → unhex_of text ≡ Some bytes
decoded_ok text bytes read = sym (decoded text) ∙ ap result_ok read

pub decoded_err : (text : List ℕ) (e : FromHexError) → decode_of text ≡ Err e → unhex_of text ≡ None
decoded_err text e read = sym (decoded text) ∙ ap result_ok read

-- what is written is read back
pub unhex_of-hex_of : (bytes : List ℕ) → IsBytes bytes → unhex_of (hex_of bytes) ≡ Some bytes
unhex_of-hex_of bytes small = ap unhex_of (sym (encoded bytes)) ∙ decoded_ok _ bytes (decode_of-encode_lower bytes small)

-- an error that isn't want of memory
pub decoded_bad : (text : List ℕ) (e : FromHexError) → (e ≡ OutOfMemory) ⊎ (decode_of text ≡ Err e) → (e ≡ OutOfMemory → ⊥) → unhex_of text ≡ None
decoded_bad text e either memory_left = ⊎_elim (λ memory. absurd (memory_left memory)) (λ read. decoded_err text e read) either
