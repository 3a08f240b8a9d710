-- A text has tokens or a first fault.
use Rattle.std.proofs.Common.{◌≡◌, ◌≢◌, ◌⊎◌, inl, inr, ℕ, zero, suc, ◌+◌, ◌<◌, ◌≤◌, Bool, true, false, cond, not, ◌==◌, List, [], ◌∷◌, length, take, drop, Option, Some, None, refl, sym, ◌∙◌, subst, arith}
use Rattle.std.specs.Prelude.{slice_index}
use Rattle.std.specs.List.{prefix_len}
use Rattle.std.specs.Option.{option_map}
use Rattle.std.proofs.lemmas.List.{length-drop}
use Rattle.idl_token.specs.Classes.{is_white, is_quote}
use Rattle.idl_token.specs.Blanks.{blank_in, begins_line_comment, begins_comment, comment_end}
use Rattle.idl_token.specs.Words.{is_word}
use Rattle.idl_token.specs.Numbers.{is_int, is_double, is_big_int, is_big_double}
use Rattle.idl_token.specs.Literals.{is_literal, bad_escape_in}
use Rattle.idl_token.specs.Wholes.{Whole, other, sound, flawed, whole_of, number_whole, literal_whole, is_sign, kind_of_sign}
use Rattle.idl_token.specs.Pieces.{IsFrontPiece, LongestIn, BeginsNone, opening_fault}
use Rattle.idl_token.specs.Places.{line_and_column}
use Rattle.idl_token.specs.Tokens.{size_of, end_of, tokens_in, IsFaultless, Cuts, IsFirstLexFault, HasTokens, HasFirstLexFault}
use Rattle.idl_token.specs.Lengths.{front_piece}
use Rattle.idl_token.specs.declared.pieces.Piece.{Piece}
use Rattle.idl_token.specs.declared.pieces.Piece.TheVariants.{Blank, Token as Tok, Fault}
use Rattle.idl_token.specs.declared.TokenKind.{TokenKind}
use Rattle.idl_token.specs.declared.TokenKind.TheVariants.{Int, Double}
use Rattle.idl_token.specs.declared.LexKind.{LexKind}
use Rattle.idl_token.specs.declared.LexKind.TheVariants.{BadByte, OpenLiteral, OpenComment, NoMemory}
use Rattle.idl_token.specs.declared.LexFault.{LexFault}
use Rattle.idl_token.proofs.OneOutcome.{some_bytes, mapped}
use Rattle.idl_token.proofs.PieceLemmas.{piece_stands}

blank_some : (text : List ℕ) (n : ℕ) (white line comment : Bool)
    → cond white (Some 1) (cond line (Some (1 + prefix_len (λ b. not (b == 10)) (drop 1 text))) (cond comment (option_map (λ k. 2 + k) (comment_end (drop 2 text))) None)) ≡ Some n
    → 0 < n
blank_some text n true line comment is = let one : 1 ≡ n = cc in omega arith
blank_some text n false true comment is = let long : 1 + prefix_len (λ b. not (b == 10)) (drop 1 text) ≡ n = cc in omega (arith, long)
blank_some text n false false true is = let there = mapped 2 (comment_end (drop 2 text)) n is in let long = there.2 in omega (arith, long)
blank_some text n false false false is = absurd (cc)

-- a blank has a byte
blank_bytes : (text : List ℕ) (n : ℕ) → blank_in text ≡ Some n → 0 < n
unfolding blank_in
blank_bytes text n is = blank_some text n (is_white (slice_index text 0)) (begins_line_comment text) (begins_comment text) is

piece_bytes : (text : List ℕ) (p : Piece) → IsFaultless p → IsFrontPiece text p → 0 < size_of p
piece_bytes text (Blank n) is_sound piece = blank_bytes text n piece
piece_bytes text (Tok kind n) is_sound piece = some_bytes text kind n piece.1
piece_bytes text (Fault kind place) is_sound piece = absurd is_sound

-- a text that is cut to its end, and one that is cut as far as a fault
record CutWhole (text : List ℕ) : Type 0 where
  pieces : List Piece
  cut : Cuts text pieces []

record CutToFault (text : List ℕ) : Type 0 where
  pieces : List Piece
  rest : List ℕ
  kind : LexKind
  inside : ℕ
  cut : Cuts text pieces rest
  more : rest ≢ []
  fault : IsFrontPiece rest (Fault kind inside)

abbrev IsCut : List ℕ → Type 0
IsCut text = CutWhole text ⊎ CutToFault text

cut_on : (text : List ℕ) (p : Piece) → text ≢ [] → IsFaultless p → IsFrontPiece text p → IsCut (drop (size_of p) text) → IsCut text
cut_on text p some is_sound piece (inl behind) = inl (record { pieces = p ∷ behind.pieces; cut = (some, is_sound, piece, behind.cut) })
cut_on text p some is_sound piece (inr behind) = inr (record {
  pieces = p ∷ behind.pieces;
  rest = behind.rest;
  kind = behind.kind;
  inside = behind.inside;
  cut = (some, is_sound, piece, behind.cut);
  more = behind.more;
  fault = behind.fault;
})

cut_next : (text : List ℕ) (p : Piece) → text ≢ [] → IsFrontPiece text p → (IsFaultless p → IsCut (drop (size_of p) text)) → IsCut text
cut_next text (Blank n) some piece behind = cut_on text (Blank n) some tt piece (behind tt)
cut_next text (Tok kind n) some piece behind = cut_on text (Tok kind n) some tt piece (behind tt)
cut_next text (Fault kind place) some piece behind =
    inr (record { pieces = []; rest = text; kind = kind; inside = place; cut = refl; more = some; fault = piece })

some_text : (b : ℕ) (text : List ℕ) → b ∷ text ≢ []
some_text b text e = cc

cut_within : (most : ℕ) (text : List ℕ) → length text ≤ most → IsCut text
cut_within most [] short = inl (record { pieces = []; cut = refl })
cut_within zero (b ∷ text) short = absurd (omega arith)
cut_within (suc most) (b ∷ text) short =
    let p = front_piece (b ∷ text) in
    cut_next (b ∷ text) p (some_text b text) (piece_stands (b ∷ text))
    (λ is_sound. cut_within most (drop (size_of p) (b ∷ text))
    (omega (arith, length-drop (size_of p) (b ∷ text), piece_bytes (b ∷ text) p is_sound (piece_stands (b ∷ text)))))

found : (text : List ℕ) → IsCut text → HasTokens text ⊎ HasFirstLexFault text
found text (inl all) = inl (tokens_in 0 all.pieces, record { pieces = all.pieces; cut = all.cut; are = refl })
found text (inr stuck) = inr (
  record { at = line_and_column text (end_of 0 stuck.pieces + stuck.inside); kind = stuck.kind },
  record { pieces = stuck.pieces; rest = stuck.rest; inside = stuck.inside; cut = stuck.cut; more = stuck.more; fault = stuck.fault; place = refl },
)

pub one_outcome : (text : List ℕ) → HasTokens text ⊎ HasFirstLexFault text
one_outcome text = found text (cut_within (length text) text (omega arith))

-- no flaw is want of memory
abbrev NoWant : Whole → Type 0
NoWant other = Unit {0}
NoWant (sound kind) = Unit {0}
NoWant (flawed kind place) = kind ≢ NoMemory

number_wants : (kind : TokenKind) (big : Bool) → NoWant (number_whole kind big)
number_wants kind true = λ e. cc
number_wants kind false = tt

literal_wants : (place : Option ℕ) → NoWant (literal_whole place)
literal_wants None = tt
literal_wants (Some place) = λ e. cc

choice : (b : Bool) (x y : Whole) → NoWant x → NoWant y → NoWant (cond b x y)
choice true x y p q = p
choice false x y p q = q

whole_wants : (text : List ℕ) → NoWant (whole_of text)
whole_wants text =
    choice (is_word text) _ _ tt
    (choice (is_int text) _ _ (number_wants Int (is_big_int text))
    (choice (is_double text) _ _ (number_wants Double (is_big_double text))
    (choice (is_literal text) _ _ (literal_wants (bad_escape_in text))
    (choice (is_sign text) (sound (kind_of_sign text)) other tt tt))))

opening : (quote comment : Bool) → cond quote OpenLiteral (cond comment OpenComment BadByte) ≢ NoMemory
opening true comment e = cc
opening false true e = cc
opening false false e = cc

fault_wants : (text : List ℕ) (kind : LexKind) (place : ℕ)
    → ((n : ℕ) × LongestIn text n (flawed kind place)) ⊎ (BeginsNone text × (kind ≡ opening_fault text) × (place ≡ 0)) → kind ≢ NoMemory
fault_wants text kind place (inl (n, longest)) = subst NoWant longest.is (whole_wants (take n text))
fault_wants text kind place (inr opened) = λ e. opening (is_quote (slice_index text 0)) (begins_comment text) (sym opened.1 ∙ e)

pub no_want : (text : List ℕ) (f : LexFault) → IsFirstLexFault f text → f.kind ≢ NoMemory
no_want text f first = fault_wants first.rest f.kind first.inside first.fault.1
