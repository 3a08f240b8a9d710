-- Literals as they are printed.
use Rattle.std.proofs.Common.{◌≡◌, ℕ, ◌+◌, ◌-◌, ◌==◌, Bool, true, false, cond, List, [], ◌∷◌, ◌++◌, length, take, None, refl, sym, ap, ◌∙◌, arith}
use Rattle.std.specs.List.{flat_map}
use Rattle.std.proofs.Math.Seq.{take-append_seam}
use Rattle.std.proofs.lemmas.Bool.{eqb-true}
use Rattle.std.proofs.lemmas.List.{length-append}
use Rattle.idl_token.specs.declared.TokenKind.TheVariants as kind
use Rattle.idl_token.specs.Words.{is_word, kind_of_word}
use Rattle.idl_token.specs.Numbers.{is_int, is_double, is_big_int, is_big_double}
use Rattle.idl_token.specs.Literals.{is_closed, is_literal, bad_escape_in}
use Rattle.idl_token.specs.Lengths.{bad_escape_from}
use Rattle.idl_token.specs.Wholes.{other, sound, whole_of, number_whole, literal_whole, is_sign, kind_of_sign}
use Rattle.idl_token.proofs.Gaps.{int_stops, double_stops}
use Rattle.idl_token.proofs.Scans.{bad_escape_from_front}
use Rattle.idl_token.proofs.WordPieces.{ends_by}
use Rattle.idl_parser.specs.Leaves.{unescaped, literal_bytes}
use Rattle.idl_printer.specs.Printed.{escape_of, literal_text}

-- the bytes between the quotation marks
abbrev inside : List ℕ → List ℕ
inside bytes = flat_map escape_of bytes

abbrev escape_by : Bool → Bool → Bool → Bool → Bool → ℕ → List ℕ
escape_by quote slash line tab feed b =
    cond quote (92 ∷ 34 ∷ []) (cond slash (92 ∷ 92 ∷ []) (cond line (92 ∷ 110 ∷ []) (cond tab (92 ∷ 116 ∷ []) (cond feed (92 ∷ 114 ∷ []) (b ∷ [])))))

closed : (bytes : List ℕ) → is_closed 34 false (inside bytes ++ 34 ∷ []) ≡ true
closed [] = refl
closed (b ∷ bytes) = go (b == 34) (b == 92) (b == 10) (b == 9) (b == 13) refl refl (closed bytes)
  where
    go : (q s n t r : Bool) → (b == 34) ≡ q → (b == 92) ≡ s → is_closed 34 false (inside bytes ++ 34 ∷ []) ≡ true
        → is_closed 34 false ((escape_by q s n t r b ++ inside bytes) ++ 34 ∷ []) ≡ true
    go true s n t r e f h = h
    go false true n t r e f h = h
    go false false true t r e f h = h
    go false false false true r e f h = h
    go false false false false true e f h = h
    go false false false false false e f h =
        (λ i. cond (e i) (length (inside bytes ++ 34 ∷ []) == 0) (is_closed 34 (f i) (inside bytes ++ 34 ∷ []))) ∙ h

good : (at : ℕ) (bytes : List ℕ) → bad_escape_from at false (inside bytes ++ 34 ∷ []) ≡ None
good at [] = refl
good at (b ∷ bytes) = go (b == 34) (b == 92) (b == 10) (b == 9) (b == 13) refl (good (at + 1) bytes) (good (at + 1 + 1) bytes)
  where
    go : (q s n t r : Bool) → (b == 92) ≡ s → bad_escape_from (at + 1) false (inside bytes ++ 34 ∷ []) ≡ None
        → bad_escape_from (at + 1 + 1) false (inside bytes ++ 34 ∷ []) ≡ None
        → bad_escape_from at false ((escape_by q s n t r b ++ inside bytes) ++ 34 ∷ []) ≡ None
    go true s n t r f h k = k
    go false true n t r f h k = k
    go false false true t r f h k = k
    go false false false true r f h k = k
    go false false false false true f h k = k
    go false false false false false f h k = (λ i. bad_escape_from (at + 1) (f i) (inside bytes ++ 34 ∷ [])) ∙ h

resolved : (bytes : List ℕ) → unescaped false (inside bytes) ≡ bytes
resolved [] = refl
resolved (b ∷ bytes) = go (b == 34) (b == 92) (b == 10) (b == 9) (b == 13) refl refl refl refl refl (resolved bytes)
  where
    go : (q s n t r : Bool) → (b == 34) ≡ q → (b == 92) ≡ s → (b == 10) ≡ n → (b == 9) ≡ t → (b == 13) ≡ r → unescaped false (inside bytes) ≡ bytes
        → unescaped false (escape_by q s n t r b ++ inside bytes) ≡ b ∷ bytes
    go true s n t r e f g j k h = let is = eqb-true b 34 e in λ i. sym is i ∷ h i
    go false true n t r e f g j k h = let is = eqb-true b 92 f in λ i. sym is i ∷ h i
    go false false true t r e f g j k h = let is = eqb-true b 10 g in λ i. sym is i ∷ h i
    go false false false true r e f g j k h = let is = eqb-true b 9 j in λ i. sym is i ∷ h i
    go false false false false true e f g j k h = let is = eqb-true b 13 k in λ i. sym is i ∷ h i
    go false false false false false e f g j k h =
        (λ i. cond (f i) (unescaped true (inside bytes)) (b ∷ unescaped false (inside bytes))) ∙ ap (λ x. b ∷ x) h

whole : (text : List ℕ) → is_word text ≡ false → is_int text ≡ false → is_double text ≡ false → is_literal text ≡ true → bad_escape_in text ≡ None
    → whole_of text ≡ sound kind.Literal
whole text w n d l b = λ i.
    cond (w i) (sound (kind_of_word text)) (cond (n i) (number_whole kind.Int (is_big_int text)) (cond (d i) (number_whole kind.Double (is_big_double text))
    (cond (l i) (literal_whole (b i)) (cond (is_sign text) (sound (kind_of_sign text)) other))))

-- the text of a literal is one
pub printed_literal : (bytes : List ℕ) → whole_of (literal_text bytes) ≡ sound kind.Literal
unfolding literal_text
printed_literal bytes =
    let e = ends_by 34 refl in
    let rest = inside bytes ++ 34 ∷ [] in
    whole (34 ∷ rest) refl (int_stops [] rest 34 e) (double_stops [] rest 34 e) (closed bytes) (sym (bad_escape_from_front (34 ∷ rest)) ∙ good 1 bytes)

-- and its bytes are those that it was made of
pub literal_back : (bytes : List ℕ) → literal_bytes (literal_text bytes) ≡ bytes
unfolding literal_text literal_bytes
literal_back bytes =
    let size : length (34 ∷ (inside bytes ++ 34 ∷ [])) - 2 ≡ length (inside bytes) = omega (arith, length-append (inside bytes) (34 ∷ [])) in
    ap (λ n. unescaped false (take n (inside bytes ++ 34 ∷ []))) size
    ∙ ap (unescaped false) (take-append_seam (inside bytes) (34 ∷ [])) ∙ resolved bytes
