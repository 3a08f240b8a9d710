-- Bytes that end each token, and tokens in front of them.
use Rattle.std.proofs.Common.{◌≡◌, ℕ, zero, suc, ◌+◌, ◌<◌, ◌==◌, ◌&&◌, ◌||◌, not, nat_lt, Bool, true, false, cond, List, [], ◌∷◌, ◌++◌, length, take, drop, refl, ap, ◌∙◌, ◌⊎◌, inl, inr, arith}
use Rattle.std.specs.Prelude.{slice_index}
use Rattle.std.specs.List.{prefix_len, list_any}
use Rattle.std.specs.Char.{is_ascii_digit, is_ascii_hexdigit}
use Rattle.std.proofs.lemmas.Bool.{eqb-true}
use Rattle.std.proofs.lemmas.List.{length-append, drop-append-le}
use Rattle.std.proofs.lemmas.List.Sums.{prefix_len-le-length}
use Rattle.idl_token.specs.Classes.{is_run, is_word_start, is_word_byte, is_plus_or_minus, is_exponent_mark, is_quote}
use Rattle.idl_token.specs.Words.{is_word, kind_of_word}
use Rattle.idl_token.specs.Numbers.{digits_in, behind_digits, is_decimal, is_hexadecimal, is_int, is_exponent, is_fraction, is_unsigned_double, is_double, is_big_int, is_big_double}
use Rattle.idl_token.specs.Literals.{is_closed, is_literal, bad_escape_in}
use Rattle.idl_token.specs.Wholes.{other, sound, whole_of, number_whole, literal_whole, is_sign, signs, kind_of_sign}
use Rattle.idl_token.specs.declared.TokenKind.TheVariants.{Int, Double}
use Rattle.idl_token.proofs.Fronts.{is_false, and_right}

-- a byte that stands in no word, integer or double
pub record Ends (b : ℕ) : Type 0 where
  pub start : is_word_start b ≡ false
  pub word : is_word_byte b ≡ false
  pub digit : is_ascii_digit b ≡ false
  pub hex : is_ascii_hexdigit b ≡ false
  pub plus_or_minus : is_plus_or_minus b ≡ false
  pub exponent : is_exponent_mark b ≡ false
  pub dot : (b == 46) ≡ false
  pub x : (b == 120) ≡ false
  pub zero : (b == 48) ≡ false

prefix_stops : (p : ℕ → Bool) (w r : List ℕ) (b : ℕ) → p b ≡ false → prefix_len p (w ++ b ∷ r) ≡ prefix_len p w
prefix_stops p [] r b h = ap (λ k. cond k (1 + prefix_len p r) 0) h
prefix_stops p (c ∷ w) r b h = ap (λ n. cond (p c) (1 + n) 0) (prefix_stops p w r b h)

run_stops : (p : ℕ → Bool) (w r : List ℕ) (b : ℕ) → p b ≡ false → is_run p (w ++ b ∷ r) ≡ false
run_stops p w r b h = is_false _ (λ passes.
    let all = eqb-true (prefix_len p (w ++ b ∷ r)) (length (w ++ b ∷ r)) (and_right (nat_lt 0 (length (w ++ b ∷ r))) (prefix_len p (w ++ b ∷ r) == length (w ++ b ∷ r)) passes) in
    omega (arith, all, prefix_stops p w r b h, prefix_len-le-length p w, length-append w (b ∷ r)))

signed_stops : (p : ℕ → Bool) (k : Bool) (c : ℕ) (w r : List ℕ) (b : ℕ) → p b ≡ false → is_run p (drop (cond k 1 0) (c ∷ (w ++ b ∷ r))) ≡ false
signed_stops p true c w r b h = run_stops p w r b h
signed_stops p false c w r b h = run_stops p (c ∷ w) r b h

decimal_stops : (w r : List ℕ) (b : ℕ) → Ends b → is_decimal (w ++ b ∷ r) ≡ false
decimal_stops [] r b e = ap (λ k. is_run is_ascii_digit (drop (cond k 1 0) (b ∷ r))) e.plus_or_minus ∙ run_stops is_ascii_digit [] r b e.digit
decimal_stops (c ∷ w) r b e = signed_stops is_ascii_digit (is_plus_or_minus c) c w r b e.digit

and_none : (a : Bool) → (a && false) ≡ false
and_none true = refl
and_none false = refl

hexadecimal_stops : (w r : List ℕ) (b : ℕ) → Ends b → is_hexadecimal (w ++ b ∷ r) ≡ false
hexadecimal_stops [] r b e = ap (λ k. k && slice_index (b ∷ r) 1 == 120 && is_run is_ascii_hexdigit (drop 2 (b ∷ r))) e.zero
hexadecimal_stops (c ∷ []) r b e =
    ap (λ k. c == 48 && k && is_run is_ascii_hexdigit r) e.x ∙ ap (λ k. k && is_run is_ascii_hexdigit r) (and_none (c == 48))
hexadecimal_stops (c ∷ d ∷ w) r b e =
    ap (λ k. c == 48 && d == 120 && k) (run_stops is_ascii_hexdigit w r b e.hex) ∙ and_none (c == 48 && d == 120)

pub neither_one : (a b : Bool) → a ≡ false → b ≡ false → (a || b) ≡ false
neither_one a b p q = rw (p, q) refl

pub int_stops : (w r : List ℕ) (b : ℕ) → Ends b → is_int (w ++ b ∷ r) ≡ false
int_stops w r b e = neither_one _ _ (decimal_stops w r b e) (hexadecimal_stops w r b e)

exponent_stops : (w r : List ℕ) (b : ℕ) → Ends b → is_exponent (w ++ b ∷ r) ≡ false
exponent_stops [] r b e = ap (λ k. k && is_decimal r) e.exponent
exponent_stops (c ∷ w) r b e = ap (λ k. is_exponent_mark c && k) (decimal_stops w r b e) ∙ and_none (is_exponent_mark c)

digits_stop : (w r : List ℕ) (b : ℕ) → Ends b → behind_digits (w ++ b ∷ r) ≡ behind_digits w ++ b ∷ r
digits_stop w r b e =
    ap (λ n. drop n (w ++ b ∷ r)) (prefix_stops is_ascii_digit w r b e.digit)
    ∙ drop-append-le (prefix_len is_ascii_digit w) w (b ∷ r) (prefix_len-le-length is_ascii_digit w)

some_length : (w r : List ℕ) (b : ℕ) → (length (w ++ b ∷ r) == 0) ≡ false
some_length w r b = is_false _ (λ none. let none = eqb-true (length (w ++ b ∷ r)) 0 none in omega (arith, none, length-append w (b ∷ r)))

-- digits, and then no exponent
no_exponent : (w r : List ℕ) (b : ℕ) → Ends b → (length (behind_digits (w ++ b ∷ r)) == 0 || is_exponent (behind_digits (w ++ b ∷ r))) ≡ false
no_exponent w r b e =
    ap (λ t. length t == 0 || is_exponent t) (digits_stop w r b e)
    ∙ neither_one _ _ (some_length (behind_digits w) r b) (exponent_stops (behind_digits w) r b e)

fraction_stops : (w r : List ℕ) (b : ℕ) → Ends b → is_fraction (w ++ b ∷ r) ≡ false
fraction_stops [] r b e = ap (λ k. k && nat_lt 0 (digits_in r) && (length (behind_digits r) == 0 || is_exponent (behind_digits r))) e.dot
fraction_stops (c ∷ w) r b e =
    ap (λ k. c == 46 && nat_lt 0 (digits_in (w ++ b ∷ r)) && k) (no_exponent w r b e) ∙ and_none (c == 46 && nat_lt 0 (digits_in (w ++ b ∷ r)))

unsigned_stops : (w r : List ℕ) (b : ℕ) → Ends b → is_unsigned_double (w ++ b ∷ r) ≡ false
unsigned_stops w r b e =
    neither_one _ _
    (ap (λ t. nat_lt 0 (digits_in (w ++ b ∷ r)) && is_exponent t) (digits_stop w r b e)
    ∙ ap (λ k. nat_lt 0 (digits_in (w ++ b ∷ r)) && k) (exponent_stops (behind_digits w) r b e) ∙ and_none (nat_lt 0 (digits_in (w ++ b ∷ r))))
    (ap is_fraction (digits_stop w r b e) ∙ fraction_stops (behind_digits w) r b e)

unsigned_behind : (k : Bool) (c : ℕ) (w r : List ℕ) (b : ℕ) → Ends b → is_unsigned_double (drop (cond k 1 0) (c ∷ (w ++ b ∷ r))) ≡ false
unsigned_behind true c w r b e = unsigned_stops w r b e
unsigned_behind false c w r b e = unsigned_stops (c ∷ w) r b e

pub double_stops : (w r : List ℕ) (b : ℕ) → Ends b → is_double (w ++ b ∷ r) ≡ false
double_stops [] r b e = ap (λ k. is_unsigned_double (drop (cond k 1 0) (b ∷ r))) e.plus_or_minus ∙ unsigned_stops [] r b e
double_stops (c ∷ w) r b e = unsigned_behind (is_plus_or_minus c) c w r b e

word_stops : (w r : List ℕ) (b : ℕ) → Ends b → is_word (w ++ b ∷ r) ≡ false
word_stops w r b e =
    ap (λ k. is_word_start (slice_index (w ++ b ∷ r) 0) && k) (run_stops is_word_byte w r b e.word) ∙ and_none (is_word_start (slice_index (w ++ b ∷ r) 0))

-- no shape at all
other_of : (text : List ℕ) → is_word text ≡ false → is_int text ≡ false → is_double text ≡ false → is_literal text ≡ false → is_sign text ≡ false → whole_of text ≡ other
other_of text p q r t u = λ i.
    cond (p i) (sound (kind_of_word text)) (cond (q i) (number_whole Int (is_big_int text)) (cond (r i) (number_whole Double (is_big_double text))
    (cond (t i) (literal_whole (bad_escape_in text)) (cond (u i) (sound (kind_of_sign text)) other))))

-- a literal is closed by its last byte
closed_once : (quote : ℕ) (taken : Bool) (w r : List ℕ) (b : ℕ) → is_closed quote taken w ≡ true → is_closed quote taken (w ++ b ∷ r) ≡ false
closed_once quote taken [] r b h = absurd (cc)
closed_once quote taken (c ∷ w) r b h = go (not taken && c == quote) h (closed_once quote (not taken && c == 92) w r b)
  where
    go : (k : Bool) → cond k (length w == 0) (is_closed quote (not taken && c == 92) w) ≡ true
        → (is_closed quote (not taken && c == 92) w ≡ true → is_closed quote (not taken && c == 92) (w ++ b ∷ r) ≡ false)
        → cond k (length (w ++ b ∷ r) == 0) (is_closed quote (not taken && c == 92) (w ++ b ∷ r)) ≡ false
    go true h next = some_length w r b
    go false h next = next h

-- the text begins no literal, or is one
abbrev pub IsNoPart : List ℕ → Type 0
IsNoPart text = (is_quote (slice_index text 0) ≡ false) ⊎ (is_closed (slice_index text 0) false (drop 1 text) ≡ true)

literal_stops : (c : ℕ) (w r : List ℕ) (b : ℕ) → IsNoPart (c ∷ w) → is_literal (c ∷ (w ++ b ∷ r)) ≡ false
literal_stops c w r b (inl h) = ap (λ k. k && is_closed c false (w ++ b ∷ r)) h
literal_stops c w r b (inr h) = ap (λ k. is_quote c && k) (closed_once c false w r b h) ∙ and_none (is_quote c)

pub sign_stops : (c : ℕ) (w r : List ℕ) (b : ℕ) → is_sign (c ∷ (w ++ b ∷ r)) ≡ false
sign_stops c w r b =
    let long : (length (c ∷ (w ++ b ∷ r)) == 1) ≡ false =
    is_false _ (λ one. let one = eqb-true (length (c ∷ (w ++ b ∷ r))) 1 one in omega (arith, one, length-append w (b ∷ r))) in
    ap (λ k. list_any (λ sign. sign == c) signs && k) long ∙ and_none (list_any (λ sign. sign == c) signs)

-- a token with such a byte behind it is none
pub longer_is_other : (c : ℕ) (w r : List ℕ) (b : ℕ) → Ends b → IsNoPart (c ∷ w) → whole_of ((c ∷ w) ++ b ∷ r) ≡ other
longer_is_other c w r b e part =
    other_of ((c ∷ w) ++ b ∷ r) (word_stops (c ∷ w) r b e) (int_stops (c ∷ w) r b e) (double_stops (c ∷ w) r b e) (literal_stops c w r b part) (sign_stops c w r b)

-- so is what begins with such a byte, but for literals and signs
pub opens_none : (b : ℕ) (r : List ℕ) → Ends b → is_literal (b ∷ r) ≡ false → is_sign (b ∷ r) ≡ false → whole_of (b ∷ r) ≡ other
opens_none b r e no_literal no_sign = other_of (b ∷ r) (word_stops [] r b e) (int_stops [] r b e) (double_stops [] r b e) no_literal no_sign

-- what is taken past a token
pub record Past (w : List ℕ) (b : ℕ) (r : List ℕ) (m : ℕ) : Type 0 where
  pub rest : List ℕ
  pub is : take m (w ++ b ∷ r) ≡ w ++ b ∷ rest

pub past : (w : List ℕ) (b : ℕ) (r : List ℕ) (m : ℕ) → length w < m → Past w b r m
past [] b r zero more = absurd (omega arith)
past [] b r (suc m) more = record { rest = take m r; is = refl }
past (c ∷ w) b r zero more = absurd (omega arith)
past (c ∷ w) b r (suc m) more =
    let p = past w b r m (omega arith) in
    record { rest = p.rest; is = ap (λ t. c ∷ t) p.is }
