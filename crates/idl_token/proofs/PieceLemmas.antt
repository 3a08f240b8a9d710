-- The piece that is found stands in front, and no other does.
use Rattle.std.proofs.Common.{◌≡◌, ◌≢◌, ℕ, zero, suc, ◌<◌, ◌≤◌, max, ◌==◌, Bool, true, false, cond, List, [], length, take, Option, Some, None, refl, sym, ap, ◌∙◌, subst, ◌⊎◌, inl, inr, ⊎_elim, arith}
use Rattle.std.proofs.lemmas.Bool.{eqb-true, eq-eqb}
use Rattle.std.proofs.lemmas.List.{get_or-take}
use Rattle.std.proofs.str.Laws.{order}
use Rattle.idl_token.specs.Words.{is_word, kind_of_word}
use Rattle.idl_token.specs.Numbers.{is_int, is_double, is_big_int, is_big_double}
use Rattle.idl_token.specs.Literals.{is_literal, bad_escape_in}
use Rattle.idl_token.specs.Blanks.{blank_in}
use Rattle.idl_token.specs.Wholes.{Whole, other, sound, flawed, whole_of, number_whole, literal_whole, is_sign, signs, kind_of_sign}
use Rattle.idl_token.specs.Pieces.{IsFrontPiece, LongestIn, BeginsNone, opening_fault}
use Rattle.idl_token.specs.Lengths.{word_len, int_len, double_len, literal_len, sign_len, token_len, token_piece, number_piece, literal_piece, piece_behind, front_piece}
use Rattle.idl_token.specs.declared.pieces.Piece.{Piece}
use Rattle.idl_token.specs.declared.pieces.Piece.TheVariants.{Blank, Token, Fault}
use Rattle.idl_token.specs.declared.TokenKind.{TokenKind}
use Rattle.idl_token.specs.declared.TokenKind.TheVariants.{Int, Double, Sign, Refused}
use Rattle.idl_token.specs.declared.LexKind.{LexKind}
use Rattle.idl_token.specs.declared.LexKind.TheVariants.{BadByte}
use Rattle.idl_token.proofs.Scans.{bad_escape_from_front}
use Rattle.idl_token.proofs.Fronts.{Reach, beyond, reached, not_reached, not_false}
use Rattle.idl_token.proofs.Reaches.{word_reach, int_reach, double_reach, literal_reach, sign_reach}

-- the piece that a token, sound or flawed, makes
piece_by : Whole → ℕ → Piece
piece_by other n = Fault BadByte 0
piece_by (sound kind) n = Token kind n
piece_by (flawed kind place) n = Fault kind place

number_by : (kind : TokenKind) (big : Bool) (n : ℕ) → number_piece kind big n ≡ piece_by (number_whole kind big) n
unfolding piece_by
number_by kind true n = refl
number_by kind false n = refl

literal_by : (place : Option ℕ) (n : ℕ) → literal_piece place n ≡ piece_by (literal_whole place) n
unfolding piece_by
literal_by None n = refl
literal_by (Some place) n = refl

-- the shapes by their lengths: the first that reaches as far
abbrev pub chosen : Bool → Bool → Bool → Bool → Bool → TokenKind → Bool → Bool → Option ℕ → TokenKind → Whole
chosen w i d l s word big_int big_double place sign =
    cond w (sound word) (cond i (number_whole Int big_int) (cond d (number_whole Double big_double) (cond l (literal_whole place) (cond s (sound sign) other))))

chosen_by : (w i d l s : Bool) (word : TokenKind) (big_int big_double : Bool) (place : Option ℕ) (sign : TokenKind) (n : ℕ)
    → (w ≡ false → i ≡ false → d ≡ false → l ≡ false → s ≡ true)
    → cond w (Token word n) (cond i (number_piece Int big_int n) (cond d (number_piece Double big_double n) (cond l (literal_piece place n) (Token sign n))))
    ≡ piece_by (chosen w i d l s word big_int big_double place sign) n
unfolding piece_by
chosen_by true i d l s word bi bd place sign n last = refl
chosen_by false true d l s word bi bd place sign n last = number_by Int bi n
chosen_by false false true l s word bi bd place sign n last = number_by Double bd n
chosen_by false false false true s word bi bd place sign n last = literal_by place n
chosen_by false false false false true word bi bd place sign n last = refl
chosen_by false false false false false word bi bd place sign n last = absurd (not_false (last refl refl refl refl) refl)

number_token : (kind : TokenKind) (big : Bool) → number_whole kind big ≡ other → ⊥
number_token kind true is = cc
number_token kind false is = cc

literal_token : (place : Option ℕ) → literal_whole place ≡ other → ⊥
literal_token None is = cc
literal_token (Some place) is = cc

chosen_token : (w i d l s : Bool) (word : TokenKind) (big_int big_double : Bool) (place : Option ℕ) (sign : TokenKind)
    → (w ≡ false → i ≡ false → d ≡ false → l ≡ false → s ≡ true) → chosen w i d l s word big_int big_double place sign ≡ other → ⊥
chosen_token true i d l s word bi bd place sign last is = cc
chosen_token false true d l s word bi bd place sign last is = number_token Int bi is
chosen_token false false true l s word bi bd place sign last is = number_token Double bd is
chosen_token false false false true s word bi bd place sign last is = literal_token place is
chosen_token false false false false true word bi bd place sign last is = cc
chosen_token false false false false false word bi bd place sign last is = not_false (last refl refl refl refl) refl

-- no shape at all
nothing : (w i d l s : Bool) (word : TokenKind) (big_int big_double : Bool) (place : Option ℕ) (sign : TokenKind)
    → w ≡ false → i ≡ false → d ≡ false → l ≡ false → s ≡ false → chosen w i d l s word big_int big_double place sign ≡ other
nothing w i d l s word bi bd place sign p q r t u = rw (p, q, r, t, u) refl

tells_by : (is : List ℕ → Bool) (text : List ℕ) (a n : ℕ) → Reach is text a → 0 < n → a ≤ n → n ≤ length text → (same : Bool) → (a == n) ≡ same → is (take n text) ≡ same
tells_by is text a n reach above up_to inside true same = reached is text a n reach above same
tells_by is text a n reach above up_to inside false same = not_reached is text a n reach up_to inside same

-- at a length that no shape passes, a test says whether its shape reaches so far
tells : (is : List ℕ → Bool) (text : List ℕ) (a n : ℕ) → Reach is text a → 0 < n → a ≤ n → n ≤ length text → is (take n text) ≡ (a == n)
tells is text a n reach above up_to inside = tells_by is text a n reach above up_to inside (a == n) refl

-- the lengths of the shapes, and that of the longest
record AreLengths (text : List ℕ) (n : ℕ) : Type 0 where
  word : word_len text ≤ n
  int : int_len text ≤ n
  double : double_len text ≤ n
  literal : literal_len text ≤ n
  sign : sign_len text ≤ n
  one : ((word_len text == n) ≡ false) → ((int_len text == n) ≡ false) → ((double_len text == n) ≡ false) → ((literal_len text == n) ≡ false) → (sign_len text == n) ≡ true
  inside : n ≤ length text

differs : (a n : ℕ) → (a == n) ≡ false → a ≢ n
differs a n distinct same = not_false (eq-eqb a n same) distinct

-- where none of four numbers is the greatest of five, the fifth is
last_is : (a b c d e : ℕ) → (a == max (max (max (max a b) c) d) e) ≡ false → (b == max (max (max (max a b) c) d) e) ≡ false → (c == max (max (max (max a b) c) d) e) ≡ false → (d == max (max (max (max a b) c) d) e) ≡ false → (e == max (max (max (max a b) c) d) e) ≡ true
last_is a b c d e p q r s =
    let n = max (max (max (max a b) c) d) e in
    eq-eqb e n (omega (arith, differs a n p, differs b n q, differs c n r, differs d n s))

lengths : (text : List ℕ) → AreLengths text (token_len text)
unfolding token_len
lengths text = record {
  word = omega arith;
  int = omega arith;
  double = omega arith;
  literal = omega arith;
  sign = omega arith;
  one = λ w i d l. last_is (word_len text) (int_len text) (double_len text) (literal_len text) (sign_len text) w i d l;
  inside = omega (arith, (word_reach text).within, (int_reach text).within, (double_reach text).within, (literal_reach text).within, (sign_reach text).within);
}

module _ (text : List ℕ) (n : ℕ) (are : AreLengths text n) where
  -- a longer front is no token
  longer_none : (m : ℕ) → n < m → m ≤ length text → whole_of (take m text) ≡ other
  longer_none m more inside = nothing _ _ _ _ _ _ _ _ _ _
      (beyond is_word text (word_len text) m (word_reach text) (omega (arith, are.word)) inside)
      (beyond is_int text (int_len text) m (int_reach text) (omega (arith, are.int)) inside)
      (beyond is_double text (double_len text) m (double_reach text) (omega (arith, are.double)) inside)
      (beyond is_literal text (literal_len text) m (literal_reach text) (omega (arith, are.literal)) inside)
      (beyond is_sign text (sign_len text) m (sign_reach text) (omega (arith, are.sign)) inside)

  -- what the front is, by the lengths
  whole_by : 0 < n → whole_of (take n text) ≡ chosen (word_len text == n) (int_len text == n) (double_len text == n) (literal_len text == n) (sign_len text == n)
      (kind_of_word (take n text)) (is_big_int (take n text)) (is_big_double (take n text)) (bad_escape_in (take n text)) (kind_of_sign (take n text))
  whole_by above =
      let w = tells is_word text (word_len text) n (word_reach text) above are.word are.inside in
      let i = tells is_int text (int_len text) n (int_reach text) above are.int are.inside in
      let d = tells is_double text (double_len text) n (double_reach text) above are.double are.inside in
      let l = tells is_literal text (literal_len text) n (literal_reach text) above are.literal are.inside in
      let s = tells is_sign text (sign_len text) n (sign_reach text) above are.sign are.inside in
      λ k. chosen (w k) (i k) (d k) (l k) (s k)
      (kind_of_word (take n text)) (is_big_int (take n text)) (is_big_double (take n text)) (bad_escape_in (take n text)) (kind_of_sign (take n text))

  longest_token : 0 < n → LongestIn text n (whole_of (take n text))
  longest_token above = record {
    within = are.inside;
    is = refl;
    token = λ none. chosen_token _ _ _ _ _ _ _ _ _ _ are.one (sym (whole_by above) ∙ none);
    longest = longer_none;
  }

  sign_kind : 0 < n → kind_of_sign text ≡ kind_of_sign (take n text)
  sign_kind above = ap (λ b. cond (b == 38) Refused Sign) (sym (get_or-take n text 0 0 above))

  piece_is : 0 < n → token_piece text n ≡ piece_by (whole_of (take n text)) n
  unfolding token_piece
  piece_is above =
      ap (λ place. cond (word_len text == n) (Token (kind_of_word (take n text)) n)
      (cond (int_len text == n) (number_piece Int (is_big_int (take n text)) n)
      (cond (double_len text == n) (number_piece Double (is_big_double (take n text)) n)
      (cond (literal_len text == n) (literal_piece place n) (Token (kind_of_sign text) n))))) (bad_escape_from_front (take n text))
      ∙ ap (λ kind. cond (word_len text == n) (Token (kind_of_word (take n text)) n)
      (cond (int_len text == n) (number_piece Int (is_big_int (take n text)) n)
      (cond (double_len text == n) (number_piece Double (is_big_double (take n text)) n)
      (cond (literal_len text == n) (literal_piece (bad_escape_in (take n text)) n) (Token kind n))))) (sign_kind above)
      ∙ chosen_by (word_len text == n) (int_len text == n) (double_len text == n) (literal_len text == n) (sign_len text == n) _ _ _ _ _ n are.one
      ∙ ap (λ whole. piece_by whole n) (sym (whole_by above))

-- a token makes its piece
from_whole : (text : List ℕ) (n : ℕ) (whole : Whole) → blank_in text ≡ None → LongestIn text n whole → IsFrontPiece text (piece_by whole n)
unfolding piece_by
from_whole text n other blank longest = absurd (longest.token refl)
from_whole text n (sound kind) blank longest = (blank, longest)
from_whole text n (flawed kind place) blank longest = (blank, inl (n, longest))

whole_of_none : whole_of [] ≡ other
unfolding signs
whole_of_none = refl

begins_none : (text : List ℕ) (n : ℕ) → AreLengths text n → n ≡ 0 → BeginsNone text
begins_none text n are none zero inside = whole_of_none
begins_none text n are none (suc m) inside = longer_none text n are (suc m) (omega arith) inside

behind_none : (text : List ℕ) → blank_in text ≡ None → (empty : Bool) → (token_len text == 0) ≡ empty
    → IsFrontPiece text (cond empty (Fault (opening_fault text) 0) (token_piece text (token_len text)))
behind_none text blank true is = (blank, inr (begins_none text (token_len text) (lengths text) (eqb-true _ _ is), refl, refl))
behind_none text blank false is =
    let above : 0 < token_len text = omega (arith, differs (token_len text) 0 is) in
    subst (IsFrontPiece text) (sym (piece_is text (token_len text) (lengths text) above))
    (from_whole text (token_len text) _ blank (longest_token text (token_len text) (lengths text) above))

behind_blank : (text : List ℕ) (blank : Option ℕ) → blank_in text ≡ blank → IsFrontPiece text (piece_behind blank text)
behind_blank text (Some n) is = is
behind_blank text None is = behind_none text is (token_len text == 0) refl

-- what is found in front stands there
pub piece_stands : (text : List ℕ) → IsFrontPiece text (front_piece text)
unfolding front_piece
piece_stands text = behind_blank text (blank_in text) refl

-- the longest token is one
one_longest : (text : List ℕ) (n m : ℕ) (whole also : Whole) → LongestIn text n whole → LongestIn text m also → (n ≡ m) × (whole ≡ also)
one_longest text n m whole also first second =
    let same : n ≡ m = ⊎_elim
    (λ less. absurd (second.token (sym second.is ∙ first.longest m less second.within)))
    (λ more. ⊎_elim (λ less. absurd (first.token (sym first.is ∙ second.longest n less first.within))) (λ also_more. omega (arith, more, also_more)) (order m n))
    (order n m) in
    (same, sym first.is ∙ ap (λ k. whole_of (take k text)) same ∙ second.is)

not_none : (text : List ℕ) (n : ℕ) (whole : Whole) → LongestIn text n whole → BeginsNone text → ⊥
not_none text n whole longest none = longest.token (sym longest.is ∙ none n longest.within)

one_fault : (text : List ℕ) (k l : LexKind) (a b : ℕ)
    → ((n : ℕ) × LongestIn text n (flawed k a)) ⊎ (BeginsNone text × (k ≡ opening_fault text) × (a ≡ 0))
    → ((n : ℕ) × LongestIn text n (flawed l b)) ⊎ (BeginsNone text × (l ≡ opening_fault text) × (b ≡ 0))
    → Fault k a ≡ Fault l b
one_fault text k l a b (inl (n, x)) (inl (m, y)) = let same : flawed k a ≡ flawed l b = (one_longest text n m _ _ x y).1 in cc
one_fault text k l a b (inl (n, x)) (inr y) = absurd (not_none text n _ x y.0)
one_fault text k l a b (inr x) (inl (m, y)) = absurd (not_none text m _ y x.0)
one_fault text k l a b (inr x) (inr y) = let p = x.1 in let q = y.1 in let r = x.2 in let s = y.2 in cc

token_or_fault : (text : List ℕ) (kind : TokenKind) (n : ℕ) (l : LexKind) (b : ℕ) → LongestIn text n (sound kind)
    → ((m : ℕ) × LongestIn text m (flawed l b)) ⊎ (BeginsNone text × (l ≡ opening_fault text) × (b ≡ 0)) → ⊥
token_or_fault text kind n l b x (inl (m, y)) = let same : sound kind ≡ flawed l b = (one_longest text n m _ _ x y).1 in cc
token_or_fault text kind n l b x (inr y) = not_none text n _ x y.0

-- one piece stands in front
pub one_piece : (text : List ℕ) (p q : Piece) → IsFrontPiece text p → IsFrontPiece text q → p ≡ q
one_piece text (Blank n) (Blank m) x y = let same : Some n ≡ Some m = sym x ∙ y in cc
one_piece text (Blank n) (Token k m) x y = let same : Some n ≡ None = sym x ∙ y.0 in absurd (cc)
one_piece text (Blank n) (Fault k m) x y = let same : Some n ≡ None = sym x ∙ y.0 in absurd (cc)
one_piece text (Token k n) (Blank m) x y = let same : Some m ≡ None = sym y ∙ x.0 in absurd (cc)
one_piece text (Token k n) (Token l m) x y = let is = one_longest text n m _ _ x.1 y.1 in let size = is.0 in let kind : sound k ≡ sound l = is.1 in cc
one_piece text (Token k n) (Fault l m) x y = absurd (token_or_fault text k n l m x.1 y.1)
one_piece text (Fault k n) (Blank m) x y = let same : Some m ≡ None = sym y ∙ x.0 in absurd (cc)
one_piece text (Fault k n) (Token l m) x y = absurd (token_or_fault text l m k n y.1 x.1)
one_piece text (Fault k n) (Fault l m) x y = one_fault text k l n m x.1 y.1
