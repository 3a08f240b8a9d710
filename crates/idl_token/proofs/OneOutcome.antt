-- A text has one list of tokens or one first fault.
use Rattle.std.proofs.Common.{◌≡◌, ◌≢◌, ℕ, zero, suc, ◌+◌, ◌<◌, ◌≤◌, Bool, true, false, cond, not, ◌==◌, ◌&&◌, List, [], ◌∷◌, length, drop, Option, Some, None, refl, sym, ap, ◌∙◌, subst, arith}
use Rattle.std.specs.Prelude.{slice_index}
use Rattle.std.specs.List.{prefix_len}
use Rattle.std.specs.Option.{option_map}
use Rattle.std.proofs.lemmas.Bool.{eqb-true}
use Rattle.std.proofs.lemmas.List.{length-drop}
use Rattle.std.proofs.lemmas.List.Sums.{prefix_len-le-length}
use Rattle.idl_token.specs.Classes.{is_white}
use Rattle.idl_token.specs.Blanks.{blank_in, begins_line_comment, begins_comment, comment_end}
use Rattle.idl_token.specs.Wholes.{sound, signs}
use Rattle.idl_token.specs.Pieces.{IsFrontPiece, LongestIn}
use Rattle.idl_token.specs.Places.{line_and_column}
use Rattle.idl_token.specs.Tokens.{size_of, end_of, tokens_in, IsFaultless, Cuts, AreTokensOf, IsFirstLexFault, StandBetween}
use Rattle.idl_token.specs.declared.pieces.Piece.{Piece}
use Rattle.idl_token.specs.declared.pieces.Piece.TheVariants.{Blank, Token as Tok, Fault}
use Rattle.idl_token.specs.declared.Token.{Token}
use Rattle.idl_token.specs.declared.TokenKind.{TokenKind}
use Rattle.idl_token.specs.declared.LexKind.{LexKind}
use Rattle.idl_token.specs.declared.LexFault.{LexFault}
use Rattle.idl_token.proofs.Fronts.{and_right}
use Rattle.idl_token.proofs.PieceLemmas.{one_piece}

-- a fault is no blank and no token
not_sound : (text : List ℕ) (p : Piece) (k : LexKind) (n : ℕ) → IsFaultless p → IsFrontPiece text p → IsFrontPiece text (Fault k n) → ⊥
not_sound text p k n is_sound piece fault = subst IsFaultless (one_piece text p (Fault k n) piece fault) is_sound

-- the rest of a text behind one piece or the same other
move : (text : List ℕ) (p q : Piece) (qs : List Piece) (rest : List ℕ) → p ≡ q → Cuts (drop (size_of q) text) qs rest → Cuts (drop (size_of p) text) qs rest
move text p q qs rest same cut = subst (λ r. Cuts (drop (size_of r) text) qs rest) (sym same) cut

one_cut : (text : List ℕ) (ps qs : List Piece) → Cuts text ps [] → Cuts text qs [] → ps ≡ qs
one_cut text [] [] a b = refl
one_cut text [] (q ∷ qs) a b = absurd (b.0 a)
one_cut text (p ∷ ps) [] a b = absurd (a.0 b)
one_cut text (p ∷ ps) (q ∷ qs) a b =
    let same = one_piece text p q a.2 b.2 in
    let rest = one_cut (drop (size_of p) text) ps qs a.3 (move text p q qs [] same b.3) in
    λ i. same i ∷ rest i

pub one_token_list : (text : List ℕ) (ts us : List Token) → AreTokensOf ts text → AreTokensOf us text → ts ≡ us
one_token_list text ts us a b = a.are ∙ ap (tokens_in 0) (one_cut text a.pieces b.pieces a.cut b.cut) ∙ sym b.are

whole_or_stuck : (text rest : List ℕ) (ps qs : List Piece) (k : LexKind) (n : ℕ) → Cuts text ps [] → Cuts text qs rest → rest ≢ [] → IsFrontPiece rest (Fault k n) → ⊥
whole_or_stuck text rest [] [] k n a b more fault = more (sym b ∙ a)
whole_or_stuck text rest [] (q ∷ qs) k n a b more fault = b.0 a
whole_or_stuck text rest (p ∷ ps) [] k n a b more fault = not_sound text p k n a.1 a.2 (subst (λ t. IsFrontPiece t (Fault k n)) (sym b) fault)
whole_or_stuck text rest (p ∷ ps) (q ∷ qs) k n a b more fault =
    whole_or_stuck (drop (size_of p) text) rest ps qs k n a.3 (move text p q qs rest (one_piece text p q a.2 b.2) b.3) more fault

pub tokens_or_fault : (text : List ℕ) (ts : List Token) (f : LexFault) → AreTokensOf ts text → IsFirstLexFault f text → ⊥
tokens_or_fault text ts f a b = whole_or_stuck text b.rest a.pieces b.pieces f.kind b.inside a.cut b.cut b.more b.fault

-- where the cut ends at a fault, it ends nowhere else
record SameEnd (ps qs : List Piece) (rest left : List ℕ) : Type 0 where
  pieces : ps ≡ qs
  ends : rest ≡ left

one_end : (text rest left : List ℕ) (ps qs : List Piece) (k l : LexKind) (n m : ℕ) → Cuts text ps rest → IsFrontPiece rest (Fault k n) → Cuts text qs left → IsFrontPiece left (Fault l m) → SameEnd ps qs rest left
one_end text rest left [] [] k l n m a x b y = record { pieces = refl; ends = sym a ∙ b }
one_end text rest left [] (q ∷ qs) k l n m a x b y = absurd (not_sound text q k n b.1 b.2 (subst (λ t. IsFrontPiece t (Fault k n)) (sym a) x))
one_end text rest left (p ∷ ps) [] k l n m a x b y = absurd (not_sound text p l m a.1 a.2 (subst (λ t. IsFrontPiece t (Fault l m)) (sym b) y))
one_end text rest left (p ∷ ps) (q ∷ qs) k l n m a x b y =
    let same = one_piece text p q a.2 b.2 in
    let behind = one_end (drop (size_of p) text) rest left ps qs k l n m a.3 x (move text p q qs left same b.3) y in
    record { pieces = λ i. same i ∷ behind.pieces i; ends = behind.ends }

pub one_first_fault : (text : List ℕ) (f g : LexFault) → IsFirstLexFault f text → IsFirstLexFault g text → f ≡ g
one_first_fault text f g a b =
    let end = one_end text a.rest b.rest a.pieces b.pieces f.kind g.kind a.inside b.inside a.cut a.fault b.cut b.fault in
    let same = one_piece b.rest (Fault f.kind a.inside) (Fault g.kind b.inside) (subst (λ t. IsFrontPiece t (Fault f.kind a.inside)) end.ends a.fault) b.fault in
    let kind : f.kind ≡ g.kind = cc in
    let inside : a.inside ≡ b.inside = cc in
    let at : f.at ≡ g.at = a.place ∙ (λ i. line_and_column text (end_of 0 (end.pieces i) + inside i)) ∙ sym b.place in
    λ i. record { at = at i; kind = kind i }

-- a token has a byte
pub some_bytes : (text : List ℕ) (kind : TokenKind) (n : ℕ) → LongestIn text n (sound kind) → 0 < n
unfolding signs
some_bytes text kind zero longest = absurd (longest.token (sym longest.is))
some_bytes text kind (suc n) longest = omega arith

first_byte : (text : List ℕ) (b : ℕ) → 0 < b → slice_index text 0 ≡ b → 0 < length text
first_byte [] b above is = absurd (omega (arith, is))
first_byte (c ∷ text) b above is = omega arith

pub mapped : (k : ℕ) (o : Option ℕ) (n : ℕ) → option_map (λ m. k + m) o ≡ Some n → (m : ℕ) × (o ≡ Some m) × (n ≡ k + m)
mapped k None n is = absurd (cc)
mapped k (Some m) n is = (m, refl, let same : n ≡ k + m = cc in same)

comment_step : (b : ℕ) (text : List ℕ) (n : ℕ) (found : Bool) → ((m : ℕ) → comment_end text ≡ Some m → m ≤ length text) → (b == 42 && slice_index text 0 == 47) ≡ found
    → cond found (Some 2) (option_map (λ k. 1 + k) (comment_end text)) ≡ Some n → n ≤ length (b ∷ text)
comment_step b text n true later flag is =
    let two : 2 ≡ n = cc in
    let slash = eqb-true (slice_index text 0) 47 (and_right (b == 42) (slice_index text 0 == 47) flag) in
    omega (arith, two, first_byte text 47 (omega arith) slash)
comment_step b text n false later flag is =
    let there = mapped 1 (comment_end text) n is in
    let short = later there.0 there.1 in
    let long = there.2 in
    omega (arith, short, long)

comment_within : (text : List ℕ) (n : ℕ) → comment_end text ≡ Some n → n ≤ length text
comment_within [] n is = absurd (cc)
comment_within (b ∷ text) n is = comment_step b text n (b == 42 && slice_index text 0 == 47) (comment_within text) refl is

comment_some : (text : List ℕ) (n : ℕ) → comment_end text ≡ Some n → 0 < length text
comment_some [] n is = absurd (cc)
comment_some (b ∷ text) n is = omega arith

bytes : (text : List ℕ) → text ≢ [] → 0 < length text
bytes [] more = absurd (more refl)
bytes (b ∷ text) more = omega arith

blank_step : (text : List ℕ) (n : ℕ) (white line comment : Bool) → 0 < length text
    → cond white (Some 1) (cond line (Some (1 + prefix_len (λ b. not (b == 10)) (drop 1 text))) (cond comment (option_map (λ k. 2 + k) (comment_end (drop 2 text))) None)) ≡ Some n
    → n ≤ length text
blank_step text n true line comment more is = let one : 1 ≡ n = cc in omega arith
blank_step text n false true comment more is =
    let long : 1 + prefix_len (λ b. not (b == 10)) (drop 1 text) ≡ n = cc in
    omega (arith, long, prefix_len-le-length (λ b. not (b == 10)) (drop 1 text), length-drop 1 text)
blank_step text n false false true more is =
    let there = mapped 2 (comment_end (drop 2 text)) n is in
    let long = there.2 in
    omega (arith, long, comment_within (drop 2 text) there.0 there.1, comment_some (drop 2 text) there.0 there.1, length-drop 2 text)
blank_step text n false false false more is = absurd (cc)

blank_within : (text : List ℕ) (n : ℕ) → text ≢ [] → blank_in text ≡ Some n → n ≤ length text
unfolding blank_in
blank_within text n more is = blank_step text n (is_white (slice_index text 0)) (begins_line_comment text) (begins_comment text) (bytes text more) is

stand_from : (a b to : ℕ) (ts : List Token) → a ≤ b → StandBetween b to ts → StandBetween a to ts
stand_from a b to [] below stand = omega arith
stand_from a b to (t ∷ ts) below stand = ((let low = stand.0 in omega arith), stand.1, stand.2)

in_order : (at : ℕ) (text : List ℕ) (ps : List Piece) → Cuts text ps [] → StandBetween at (at + length text) (tokens_in at ps)
in_order at text [] cut = omega arith
in_order at text (Blank n ∷ ps) cut =
    let short = blank_within text n cut.0 cut.2 in
    let end : at + n + length (drop n text) ≡ at + length text = omega (arith, length-drop n text) in
    stand_from at (at + n) _ _ (omega arith) (subst (λ to. StandBetween (at + n) to (tokens_in (at + n) ps)) end (in_order (at + n) (drop n text) ps cut.3))
in_order at text (Tok kind n ∷ ps) cut =
    let short = cut.2.1.within in
    let above = some_bytes text kind n cut.2.1 in
    let end : at + n + length (drop n text) ≡ at + length text = omega (arith, length-drop n text) in
    (omega arith, omega arith, subst (λ to. StandBetween (at + n) to (tokens_in (at + n) ps)) end (in_order (at + n) (drop n text) ps cut.3))
in_order at text (Fault kind place ∷ ps) cut = absurd cut.1

pub tokens_in_order : (text : List ℕ) (ts : List Token) → AreTokensOf ts text → StandBetween 0 (length text) ts
tokens_in_order text ts are =
    let end : 0 + length text ≡ length text = omega arith in
    subst (λ us. StandBetween 0 (length text) us) (sym are.are) (subst (λ to. StandBetween 0 to (tokens_in 0 are.pieces)) end (in_order 0 text are.pieces are.cut))
