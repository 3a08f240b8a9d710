-- Texts that spell tokens, joined.
use Rattle.std.proofs.Common.{◌≡◌, ◌≢◌, ℕ, ◌+◌, ◌-◌, Bool, true, List, [], ◌∷◌, ◌++◌, length, take, drop, refl, sym, ap, ◌∙◌, subst, arith}
use Rattle.std.proofs.Math.Seq.{take-append_seam, drop-append_seam}
use Rattle.std.proofs.lemmas.List.{append_assoc}
use Rattle.idl_token.specs.Classes.{is_white}
use Rattle.idl_token.specs.Wholes.{sound, whole_of, signs}
use Rattle.idl_token.specs.Tokens.{size_of, tokens_in, Cuts, AreTokensOf}
use Rattle.idl_token.specs.Spellings.{BareToken, bare_tokens, parted, any, bare_tokens_in, Spelling, Spelled, SpellsToken}
use Rattle.idl_token.specs.declared.Token.{Token}
use Rattle.idl_token.specs.declared.TokenKind.{TokenKind}
use Rattle.idl_token.specs.declared.TokenKind.TheVariants.{Sign}
use Rattle.idl_token.specs.declared.pieces.Piece.{Piece}
use Rattle.idl_token.specs.declared.pieces.Piece.TheVariants.{Blank, Token as Tok, Fault}
use Rattle.idl_token.proofs.CutLemmas.{drop_drop}
use Rattle.idl_token.proofs.WordPieces.{word_piece, sign_piece, white_piece}

cuts_on : (text : List ℕ) (ps qs : List Piece) (mid rest : List ℕ) → Cuts text ps mid → Cuts mid qs rest → Cuts text (ps ++ qs) rest
cuts_on text [] qs mid rest cut more = subst (λ t. Cuts t qs rest) (sym cut) more
cuts_on text (p ∷ ps) qs mid rest cut more = (cut.0, cut.1, cut.2, cuts_on (drop (size_of p) text) ps qs mid rest cut.3 more)

marks_on : (text : List ℕ) (ps qs : List Piece) (mid : List ℕ) → Cuts text ps mid → bare_tokens_in text (ps ++ qs) ≡ bare_tokens_in text ps ++ bare_tokens_in mid qs
marks_on text [] qs mid cut = ap (λ t. bare_tokens_in t qs) cut
marks_on text (Blank n ∷ ps) qs mid cut = marks_on (drop n text) ps qs mid cut.3
marks_on text (Tok kind n ∷ ps) qs mid cut = ap (λ ms. record { kind = kind; bytes = take n text } ∷ ms) (marks_on (drop n text) ps qs mid cut.3)
marks_on text (Fault kind place ∷ ps) qs mid cut = absurd cut.1

-- one text and then another
pub joined : (before test : List ℕ → Bool) (first second : List ℕ) (ms ns : List BareToken) → SpellsToken before first ms → SpellsToken test second ns
    → ((more : List ℕ) → test more ≡ true → before (second ++ more) ≡ true) → SpellsToken test (first ++ second) (ms ++ ns)
joined before test first second ms ns a b glue more q =
    let one = a (second ++ more) (glue more q) in
    let two = b more q in
    subst (λ t. Spelling t more (ms ++ ns)) (sym (append_assoc first second more)) (record {
      pieces = one.pieces ++ two.pieces;
      cut = cuts_on (first ++ (second ++ more)) one.pieces two.pieces (second ++ more) more one.cut two.cut;
      are = marks_on (first ++ (second ++ more)) one.pieces two.pieces (second ++ more) one.cut ∙ (λ i. one.are i ++ two.are i);
    })

pub nothing : (test : List ℕ → Bool) → SpellsToken test [] []
nothing test more p = record { pieces = []; cut = refl; are = refl }

some_cut : (b : ℕ) (text : List ℕ) → b ∷ text ≢ []
some_cut b text e = cc

pub white : (b : ℕ) → is_white b ≡ true → SpellsToken any (b ∷ []) []
white b h more p = record {
  pieces = Blank 1 ∷ [];
  cut = (some_cut b more, tt, white_piece b more h, refl);
  are = refl;
}

pub sign : (s : ℕ) → whole_of (s ∷ []) ≡ sound Sign → SpellsToken any (s ∷ []) (record { kind = Sign; bytes = s ∷ [] } ∷ [])
sign s whole more p = record {
  pieces = Tok Sign 1 ∷ [];
  cut = (some_cut s more, tt, sign_piece s more whole, refl);
  are = refl;
}

no_empty_word : (kind : TokenKind) → whole_of [] ≡ sound kind → ⊥
unfolding signs
no_empty_word kind h = cc

pub word : (w : List ℕ) (kind : TokenKind) → whole_of w ≡ sound kind → SpellsToken parted w (record { kind = kind; bytes = w } ∷ [])
word [] kind whole more apart = absurd (no_empty_word kind whole)
word (c ∷ w) kind whole more apart = record {
  pieces = Tok kind (length (c ∷ w)) ∷ [];
  cut = (some_cut c (w ++ more), tt, word_piece (c ∷ w) kind more whole apart, drop-append_seam (c ∷ w) more);
  are = ap (λ t. record { kind = kind; bytes = t } ∷ []) (take-append_seam (c ∷ w) more);
}

token_bytes : (whole text : List ℕ) (at n : ℕ) → drop at whole ≡ text → take (at + n - at) (drop at whole) ≡ take n text
token_bytes whole text at n is = let size : at + n - at ≡ n = omega arith in λ i. take (size i) (is i)

-- the tokens of a text are those among its pieces
marks_are : (whole text : List ℕ) (at : ℕ) (ps : List Piece) (rest : List ℕ) → drop at whole ≡ text → Cuts text ps rest
    → bare_tokens whole (tokens_in at ps) ≡ bare_tokens_in text ps
marks_are whole text at [] rest is cut = refl
marks_are whole text at (Blank n ∷ ps) rest is cut = marks_are whole (drop n text) (at + n) ps rest (sym (drop_drop at n whole) ∙ ap (drop n) is) cut.3
marks_are whole text at (Tok kind n ∷ ps) rest is cut =
    let more = marks_are whole (drop n text) (at + n) ps rest (sym (drop_drop at n whole) ∙ ap (drop n) is) cut.3 in
    let bytes = token_bytes whole text at n is in
    λ i. record { kind = kind; bytes = bytes i } ∷ more i
marks_are whole text at (Fault kind place ∷ ps) rest is cut = absurd cut.1

-- a text that spells tokens has these
pub spelled_tokens : (text : List ℕ) (marks : List BareToken) → Spelled text marks → (tokens : List Token) × AreTokensOf tokens text × (bare_tokens text tokens ≡ marks)
spelled_tokens text marks s =
    (tokens_in 0 s.pieces, record { pieces = s.pieces; cut = s.cut; are = refl }, marks_are text text 0 s.pieces [] refl s.cut ∙ s.are)
