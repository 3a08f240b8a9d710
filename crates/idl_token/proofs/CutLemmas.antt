-- Cutting a text into pieces.
use Rattle.std.proofs.Common.{◌≡◌, ◌≢◌, ℕ, zero, suc, ◌+◌, ◌<◌, ◌≤◌, List, [], ◌∷◌, ◌++◌, length, drop, refl, sym, ap, ◌∙◌, subst, arith}
use mathlib.Core.List.{append-nil}
use Rattle.std.proofs.lemmas.List.{length-drop}
use Rattle.idl_token.specs.Pieces.{IsFrontPiece}
use Rattle.idl_token.specs.Tokens.{size_of, end_of, tokens_in, IsFaultless, Cuts}
use Rattle.idl_token.specs.declared.pieces.Piece.{Piece}
use Rattle.idl_token.specs.declared.pieces.Piece.TheVariants.{Blank, Token as Tok, Fault}
use Rattle.idl_token.specs.declared.Token.{Token}

-- one more piece
cuts_more : (text : List ℕ) (ps : List Piece) (p : Piece) (rest : List ℕ) → Cuts text ps rest → rest ≢ [] → IsFaultless p → IsFrontPiece rest p → Cuts text (ps ++ p ∷ []) (drop (size_of p) rest)
cuts_more text [] p rest cut more is_sound piece =
    (λ none. more (sym cut ∙ none), is_sound, subst (λ t. IsFrontPiece t p) (sym cut) piece, ap (drop (size_of p)) cut)
cuts_more text (q ∷ ps) p rest cut more is_sound piece = (cut.0, cut.1, cut.2, cuts_more (drop (size_of q) text) ps p rest cut.3 more is_sound piece)

end_more : (at : ℕ) (ps : List Piece) (p : Piece) → end_of at (ps ++ p ∷ []) ≡ end_of at ps + size_of p
end_more at [] p = refl
end_more at (q ∷ ps) p = end_more (at + size_of q) ps p

tokens_more : (at : ℕ) (ps : List Piece) (p : Piece) → tokens_in at (ps ++ p ∷ []) ≡ tokens_in at ps ++ tokens_in (end_of at ps) (p ∷ [])
tokens_more at [] p = refl
tokens_more at (Blank n ∷ ps) p = tokens_more (at + n) ps p
tokens_more at (Tok kind n ∷ ps) p = ap (λ ts. record { kind = kind; from = at; to = at + n } ∷ ts) (tokens_more (at + n) ps p)
tokens_more at (Fault kind place ∷ ps) p =
    let is : at ≡ at + 0 = omega arith in
    tokens_more at ps p ∙ ap (λ k. tokens_in at ps ++ tokens_in (end_of k ps) (p ∷ [])) is

-- the loop's invariant: the text up to a place is cut, and these are its tokens
pub record CutUpTo (text : List ℕ) (at : ℕ) (ts : List Token) : Type 0 where
  pub pieces : List Piece
  pub inside : at ≤ length text
  pub cut : Cuts text pieces (drop at text)
  pub place : end_of 0 pieces ≡ at
  pub are : ts ≡ tokens_in 0 pieces

drop_none : (n : ℕ) → drop {A = ℕ} n [] ≡ []
drop_none zero = refl
drop_none (suc n) = refl

pub drop_drop : (n m : ℕ) (text : List ℕ) → drop m (drop n text) ≡ drop (n + m) text
drop_drop zero m text = let is : m ≡ 0 + m = omega arith in ap (λ k. drop k text) is
drop_drop (suc n) m [] = drop_none m ∙ sym (drop_none (suc n + m))
drop_drop (suc n) m (b ∷ text) = let is : suc (n + m) ≡ suc n + m = omega arith in drop_drop n m text ∙ ap (λ k. drop k (b ∷ text)) is

some_left : (text : List ℕ) (at : ℕ) → at < length text → drop at text ≢ []
some_left text at less none = omega (arith, ap length none, length-drop at text)

module _ (text : List ℕ) (at : ℕ) (ts : List Token) (so_far : CutUpTo text at ts) (left : at < length text) where
  pub cut_blank : (n : ℕ) → IsFrontPiece (drop at text) (Blank n) → n ≤ length (drop at text) → CutUpTo text (at + n) ts
  cut_blank n piece within = record {
    pieces = so_far.pieces ++ Blank n ∷ [];
    inside = omega (arith, length-drop at text);
    cut = subst (Cuts text (so_far.pieces ++ Blank n ∷ [])) (drop_drop at n text) (cuts_more text so_far.pieces (Blank n) (drop at text) so_far.cut (some_left text at left) tt piece);
    place = end_more 0 so_far.pieces (Blank n) ∙ ap (λ k. k + n) so_far.place;
    are = so_far.are ∙ sym (tokens_more 0 so_far.pieces (Blank n) ∙ append-nil (tokens_in 0 so_far.pieces));
  }

  -- a token by its parts
  token_is : (t : Token) (n : ℕ) → end_of 0 so_far.pieces ≡ at → t.from ≡ at → t.to ≡ at + n
      → t ≡ record { kind = t.kind; from = end_of 0 so_far.pieces; to = end_of 0 so_far.pieces + n }
  token_is t n place from to =
      let first : t.from ≡ end_of 0 so_far.pieces = from ∙ sym place in
      let behind : t.to ≡ end_of 0 so_far.pieces + n = to ∙ ap (λ k. k + n) (sym place) in
      λ i. record { kind = t.kind; from = first i; to = behind i }

  pub cut_token : (t : Token) (n : ℕ) → IsFrontPiece (drop at text) (Tok t.kind n) → n ≤ length (drop at text) → t.from ≡ at → t.to ≡ at + n → CutUpTo text (at + n) (ts ++ t ∷ [])
  cut_token t n piece within from to = record {
    pieces = so_far.pieces ++ Tok t.kind n ∷ [];
    inside = omega (arith, length-drop at text);
    cut = subst (Cuts text (so_far.pieces ++ Tok t.kind n ∷ [])) (drop_drop at n text) (cuts_more text so_far.pieces (Tok t.kind n) (drop at text) so_far.cut (some_left text at left) tt piece);
    place = end_more 0 so_far.pieces (Tok t.kind n) ∙ ap (λ k. k + n) so_far.place;
    are = (λ i. so_far.are i ++ token_is t n so_far.place from to i ∷ []) ∙ sym (tokens_more 0 so_far.pieces (Tok t.kind n));
  }
