-- Tokens and white space as pieces of a text.
use Rattle.std.proofs.Common.{◌≡◌, ℕ, zero, suc, ◌<◌, ◌≤◌, ◌==◌, ◌&&◌, ◌||◌, not, Bool, true, false, List, [], ◌∷◌, ◌++◌, length, take, Option, Some, None, cond, ◌≢◌, refl, sym, ap, ◌∙◌, subst, inl, inr, ⊎_elim, arith}
use Rattle.std.specs.Prelude.{nat_le}
use Rattle.std.specs.Int.{is_in_range}
use Rattle.std.specs.Char.{is_ascii_digit, is_ascii_alphabetic}
use Rattle.std.specs.List.{list_any, list_all}
use Rattle.std.proofs.Math.Seq.{take-append_seam}
use Rattle.std.proofs.lemmas.Bool.{eqb-true, leb-true, le-leb, or_parts}
use Rattle.std.proofs.lemmas.List.{length-append}
use Rattle.idl_token.specs.Classes.{is_word_start, is_word_byte, is_plus_or_minus, is_quote, is_white}
use Rattle.idl_token.specs.Words.{is_word, is_keyword, is_truth_word, is_refused, kind_of_word}
use Rattle.idl_token.specs.Numbers.{is_int, is_double, is_big_int, is_big_double}
use Rattle.idl_token.specs.Literals.{is_closed, is_literal, bad_escape_in}
use Rattle.idl_token.specs.Blanks.{blank_in}
use Rattle.idl_token.specs.Wholes.{other, sound, whole_of, number_whole, literal_whole, is_sign, kind_of_sign, signs}
use Rattle.idl_token.specs.Pieces.{IsFrontPiece}
use Rattle.idl_token.specs.declared.TokenKind.{TokenKind}
use Rattle.idl_token.specs.declared.TokenKind.TheVariants.{Keyword, Identifier, Int, Double, Sign, Refused}
use Rattle.idl_token.specs.declared.pieces.Piece.TheVariants.{Blank, Token}
use Rattle.idl_token.proofs.Fronts.{is_false, not_false, both, and_left, and_right, either}
use Rattle.idl_token.proofs.PieceLemmas.{chosen}
use Rattle.idl_token.specs.Spellings.{is_delimiter, parted}
use Rattle.idl_token.proofs.Gaps.{Ends, IsNoPart, neither_one, longer_is_other, opens_none, sign_stops, past}

turned : (b : Bool) → not b ≡ true → b ≡ false
turned true h = cc
turned false h = refl

-- a byte of words differs from one that stands in none
not_word : (k b : ℕ) → is_word_byte k ≡ true → is_word_byte b ≡ false → (b == k) ≡ false
not_word k b inside outside = is_false _ (λ same. not_false (subst (λ c. is_word_byte c ≡ true) (sym (eqb-true b k same)) inside) outside)

narrower : (low high most b : ℕ) → high ≤ most → is_in_range low most b ≡ false → is_in_range low high b ≡ false
narrower low high most b within outside = is_false _ (λ inside.
    let short = leb-true b high (and_right (nat_le low b) (nat_le b high) inside) in
    not_false (both _ _ (and_left (nat_le low b) (nat_le b high) inside) (le-leb b most (omega (arith, short)))) outside)

-- a byte that stands in no word and is no plus or minus stands in no number either
pub ends_by : (b : ℕ) → is_delimiter b ≡ true → Ends b
ends_by b h =
    let word = turned (is_word_byte b) (and_left _ _ h) in
    let dotted = or_parts (is_word_start b || is_ascii_digit b) (b == 46) word in
    let digits = or_parts (is_word_start b) (is_ascii_digit b) dotted.0 in
    let letters = or_parts (is_ascii_alphabetic b) (b == 95) digits.0 in
    let cases = or_parts (is_in_range 65 90 b) (is_in_range 97 122 b) letters.0 in
    record {
      start = digits.0;
      word = word;
      digit = digits.1;
      hex = neither_one _ _ (neither_one _ _ digits.1 (narrower 65 70 90 b (omega arith) cases.0)) (narrower 97 102 122 b (omega arith) cases.1);
      plus_or_minus = turned (is_plus_or_minus b) (and_right (not (is_word_byte b)) (not (is_plus_or_minus b)) h);
      exponent = neither_one _ _ (not_word 101 b refl word) (not_word 69 b refl word);
      dot = dotted.1;
      x = not_word 120 b refl word;
      zero = not_word 48 b refl word;
    }

-- a token doesn't begin so
not_at : (k c : ℕ) (w : List ℕ) (kind : TokenKind) → Ends k → is_quote k ≡ false → list_any (λ sign. sign == k) signs ≡ false
    → whole_of (c ∷ w) ≡ sound kind → (c == k) ≡ false
not_at k c w kind e no_quote no_sign whole = is_false _ (λ same.
    let here : whole_of (k ∷ w) ≡ sound kind = subst (λ c. whole_of (c ∷ w) ≡ sound kind) (eqb-true c k same) whole in
    let none = opens_none k w e (ap (λ q. q && is_closed k false w) no_quote) (ap (λ q. q && length (k ∷ w) == 1) no_sign) in
    let bad : sound kind ≡ other = sym here ∙ none in
    absurd (cc))

no_blank : (c : ℕ) (rest : List ℕ) → is_white c ≡ false → (c == 35) ≡ false → (c == 47) ≡ false → blank_in (c ∷ rest) ≡ None
unfolding blank_in
no_blank c rest w h s = rw (w, h, s) refl

white_not : (a b c d : Bool) → a ≡ false → b ≡ false → c ≡ false → d ≡ false → (a || b || c || d) ≡ false
white_not a b c d p q r s = rw (p, q, r, s) refl

-- no blank stands where a token begins
pub begins_no_blank : (c : ℕ) (w : List ℕ) (kind : TokenKind) (rest : List ℕ) → whole_of (c ∷ w) ≡ sound kind → blank_in (c ∷ rest) ≡ None
unfolding signs
begins_no_blank c w kind rest whole = no_blank c rest
    (white_not _ _ _ _
    (not_at 32 c w kind (ends_by 32 refl) refl refl whole) (not_at 9 c w kind (ends_by 9 refl) refl refl whole)
    (not_at 13 c w kind (ends_by 13 refl) refl refl whole) (not_at 10 c w kind (ends_by 10 refl) refl refl whole))
    (not_at 35 c w kind (ends_by 35 refl) refl refl whole)
    (not_at 47 c w kind (ends_by 47 refl) refl refl whole)

closed_or_none : (k : ℕ) (w : List ℕ) (kind : TokenKind) → Ends k → list_any (λ sign. sign == k) signs ≡ false → whole_of (k ∷ w) ≡ sound kind
    → is_closed k false w ≡ true
closed_or_none k w kind e no_sign whole = go (is_closed k false w) refl
  where
    and_no : (a b : Bool) → b ≡ false → (a && b) ≡ false
    and_no true b h = h
    and_no false b h = refl

    go : (q : Bool) → is_closed k false w ≡ q → is_closed k false w ≡ true
    go true h = h
    go false h =
        let none = opens_none k w e (and_no (is_quote k) (is_closed k false w) h) (ap (λ q. q && length (k ∷ w) == 1) no_sign) in
        let bad : sound kind ≡ other = sym whole ∙ none in
        absurd (cc)

-- a token is no part of a literal that goes on
pub no_part : (c : ℕ) (w : List ℕ) (kind : TokenKind) → whole_of (c ∷ w) ≡ sound kind → IsNoPart (c ∷ w)
unfolding signs
no_part c w kind whole = go (is_quote c) refl
  where
    at : (k : ℕ) → Ends k → list_any (λ sign. sign == k) signs ≡ false → (c == k) ≡ true → is_closed c false w ≡ true
    at k e no_sign same =
        let is = eqb-true c k same in
        subst (λ d. is_closed d false w ≡ true) (sym is)
        (closed_or_none k w kind e no_sign (subst (λ d. whole_of (d ∷ w) ≡ sound kind) is whole))

    go : (q : Bool) → is_quote c ≡ q → IsNoPart (c ∷ w)
    go false h = inl h
    go true h = inr (⊎_elim (at 34 (ends_by 34 refl) refl) (at 39 (ends_by 39 refl) refl) (either (c == 34) (c == 39) h))

sound_is_some : (kind : TokenKind) → sound kind ≡ other → ⊥
sound_is_some kind h = cc

no_word : (kind : TokenKind) → whole_of [] ≡ sound kind → ⊥
unfolding signs
no_word kind h = cc

-- a token in front of the end, or of a byte that ends each
pub word_piece : (w : List ℕ) (kind : TokenKind) (more : List ℕ) → whole_of w ≡ sound kind → parted more ≡ true → IsFrontPiece (w ++ more) (Token kind (length w))
word_piece [] kind more whole apart = absurd (no_word kind whole)
word_piece (c ∷ w) kind [] whole apart = (
  begins_no_blank c w kind (w ++ []) whole,
  record {
    within = omega (arith, length-append w ([]));
    is = ap whole_of (take-append_seam (c ∷ w) []) ∙ whole;
    token = λ e. sound_is_some kind e;
    longest = λ m past_end inside. absurd (omega (arith, length-append {A = ℕ} w []));
  },
)
word_piece (c ∷ w) kind (b ∷ r) whole apart = (
  begins_no_blank c w kind (w ++ b ∷ r) whole,
  record {
    within = omega (arith, length-append w (b ∷ r));
    is = ap whole_of (take-append_seam (c ∷ w) (b ∷ r)) ∙ whole;
    token = λ e. sound_is_some kind e;
    longest = λ m past_end inside.
        let p = past (c ∷ w) b r m past_end in
        ap whole_of p.is ∙ longer_is_other c w p.rest b (ends_by b apart) (no_part c w kind whole);
  },
)

-- what is among bytes that all pass passes too
among : (p : ℕ → Bool) (s : ℕ) (all : List ℕ) → list_all p all ≡ true → list_any (λ k. k == s) all ≡ true → p s ≡ true
among p s [] pass is = absurd (cc)
among p s (k ∷ all) pass is = ⊎_elim
    (λ here. subst (λ c. p c ≡ true) (eqb-true k s here) (and_left _ _ pass))
    (λ behind. among p s all (and_right (p k) (list_all p all) pass) behind)
    (either (k == s) (list_any (λ k. k == s) all) is)

-- the signs stand in no word and no number, and begin no literal
sign_bytes : (s : ℕ) → list_any (λ sign. sign == s) signs ≡ true → (is_delimiter s && not (is_quote s)) ≡ true
unfolding signs
sign_bytes s is = among (λ b. is_delimiter b && not (is_quote b)) s signs refl is

word_no_sign : (a b c : Bool) → cond a Keyword (cond b Int (cond c Refused Identifier)) ≡ Sign → ⊥
word_no_sign true b c e = cc
word_no_sign false true c e = cc
word_no_sign false false true e = cc
word_no_sign false false false e = cc

kind_no_sign : (text : List ℕ) → kind_of_word text ≡ Sign → ⊥
unfolding kind_of_word
kind_no_sign text e = word_no_sign (is_keyword text) (is_truth_word text) (is_refused text) e

number_no_sign : (kind : TokenKind) (big : Bool) → kind ≢ Sign → number_whole kind big ≢ sound Sign
number_no_sign kind true other_kind e = absurd (cc)
number_no_sign kind false other_kind e = other_kind (let same : kind ≡ Sign = cc in same)

literal_no_sign : (place : Option ℕ) → literal_whole place ≢ sound Sign
literal_no_sign None e = absurd (cc)
literal_no_sign (Some place) e = absurd (cc)

-- of the shapes only a sign is of that kind
by_sign : (w i d l g : Bool) (word : TokenKind) (big huge : Bool) (place : Option ℕ) (kind : TokenKind) → word ≢ Sign
    → chosen w i d l g word big huge place kind ≡ sound Sign → g ≡ true
by_sign true i d l g word big huge place kind no_sign e = absurd (no_sign (let same : word ≡ Sign = cc in same))
by_sign false true d l g word big huge place kind no_sign e = absurd (number_no_sign Int big (λ e. cc) e)
by_sign false false true l g word big huge place kind no_sign e = absurd (number_no_sign Double huge (λ e. cc) e)
by_sign false false false true g word big huge place kind no_sign e = absurd (literal_no_sign place e)
by_sign false false false false true word big huge place kind no_sign e = refl
by_sign false false false false false word big huge place kind no_sign e = absurd (cc)

sign_is : (s : ℕ) → whole_of (s ∷ []) ≡ sound Sign → (is_delimiter s && not (is_quote s)) ≡ true
sign_is s whole =
    let text = s ∷ [] in
    let is = by_sign (is_word text) (is_int text) (is_double text) (is_literal text) (is_sign text)
    (kind_of_word text) (is_big_int text) (is_big_double text) (bad_escape_in text) (kind_of_sign text) (kind_no_sign text) whole in
    sign_bytes s (and_left (list_any (λ sign. sign == s) signs) (length text == 1) is)

sign_alone : (s : ℕ) (more : List ℕ) → Ends s → is_quote s ≡ false → (m : ℕ) → 1 < m → m ≤ length (s ∷ more) → whole_of (take m (s ∷ more)) ≡ other
sign_alone s more e no_quote zero many inside = absurd (omega arith)
sign_alone s more e no_quote (suc zero) many inside = absurd (omega arith)
sign_alone s [] e no_quote (suc (suc m)) many inside = absurd (omega arith)
sign_alone s (d ∷ more) e no_quote (suc (suc m)) many inside =
    opens_none s (d ∷ take m more) e (ap (λ q. q && is_closed s false (d ∷ take m more)) no_quote) (sign_stops s [] (take m more) d)

-- a sign in front of anything
pub sign_piece : (s : ℕ) (more : List ℕ) → whole_of (s ∷ []) ≡ sound Sign → IsFrontPiece (s ∷ more) (Token Sign 1)
sign_piece s more whole = (
  begins_no_blank s [] Sign more whole,
  record {
    within = omega arith;
    is = whole;
    token = λ e. sound_is_some Sign e;
    longest = sign_alone s more (ends_by s (and_left _ _ (sign_is s whole))) (turned _ (and_right (is_delimiter s) (not (is_quote s)) (sign_is s whole)));
  },
)

-- white space in front of anything
pub white_piece : (b : ℕ) (more : List ℕ) → is_white b ≡ true → IsFrontPiece (b ∷ more) (Blank 1)
unfolding blank_in
white_piece b more h = rw h refl
