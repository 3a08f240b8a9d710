-- Places further on in a text.
use Rattle.std.proofs.Common.{◌≡◌, Bool, true, false, cond, not, ℕ, zero, suc, ◌+◌, ◌-◌, ◌≤◌, ◌<◌, ◌==◌, List, [], ◌∷◌, ◌++◌, length, take, drop, map, refl, sym, ap, ◌∙◌, inl, inr, arith}
use mathlib.Core.List.{reverse}
use Rattle.std.specs.Prelude.{count_by}
use Rattle.std.specs.List.{prefix_len, suffix_len}
use Rattle.std.proofs.Math.Dec.{eqb}
use Rattle.std.proofs.lemmas.Bool.{eqb-true, eq-eqb}
use Rattle.std.proofs.lemmas.Bool.Decides.{eqb_tells}
use Rattle.std.proofs.lemmas.List.{append_assoc, map-append, reverse-append, length-reverse}
use Rattle.std.proofs.lemmas.List.Folds.{prefix_len-append}
use Rattle.std.proofs.lemmas.List.Sums.{suffix_len-le-length, sum_by-cons}
use Rattle.idl_token.specs.Places.{line_and_column}
use Rattle.idl_token.specs.declared.Place.{Place}
use Rattle.idl_token.specs.declared.Token.{Token}
use Rattle.idl_token.specs.Tokens.{StandBetween}
use Rattle.idl_parser.specs.declared.symbol.Symbol.{Symbol}
use Rattle.idl_parser.specs.Symbols.{lexemes, lexeme_at}
use Rattle.idl_parser.specs.ReaderCalls.{lexeme_of, start, place_behind, place_behind_byte}

behind_append : (at : Place) (xs ys : List ℕ) → place_behind at (xs ++ ys) ≡ place_behind (place_behind at xs) ys
behind_append at [] ys = refl
behind_append at (x ∷ xs) ys = behind_append (place_behind_byte at x) xs ys

take_both : (a k : ℕ) (text : List ℕ) → take a text ++ take k (drop a text) ≡ take (a + k) text
take_both zero k text = ap (λ n. take n text) (let e : k ≡ 0 + k = omega arith in e)
take_both (suc a) zero [] = let e : suc (a + 0) ≡ suc a + 0 = omega arith in ap (λ n. take n []) e
take_both (suc a) (suc k) [] = let e : suc (a + suc k) ≡ suc a + suc k = omega arith in ap (λ n. take n []) e
take_both (suc a) k (x ∷ text) = let e : suc (a + k) ≡ suc a + k = omega arith in ap (λ xs. x ∷ xs) (take_both a k text) ∙ ap (λ n. take n (x ∷ text)) e

behind_from : (at : Place) (text : List ℕ) (a k : ℕ) → place_behind (place_behind at (take a text)) (take k (drop a text)) ≡ place_behind at (take (a + k) text)
behind_from at text a k = sym (behind_append at (take a text) (take k (drop a text))) ∙ ap (place_behind at) (take_both a k text)

-- the last bytes that are no newline, with one byte more in front
abbrev goes_on : ℕ → Bool
goes_on b = not (b == 10)

suffix_cons : (b : ℕ) (xs : List ℕ)
    → suffix_len goes_on (b ∷ xs) ≡ cond (eqb (suffix_len goes_on xs) (length xs)) (length xs + cond (not (b == 10)) 1 0) (suffix_len goes_on xs)
suffix_cons b xs =
    ap (prefix_len goes_on) (reverse-append (b ∷ []) xs)
    ∙ prefix_len-append goes_on (reverse xs) (b ∷ [])
    ∙ (λ i. cond (eqb (suffix_len goes_on xs) (length-reverse xs i)) (length-reverse xs i + cond (not (b == 10)) 1 0) (suffix_len goes_on xs))

differ : (a b : ℕ) → a < b → eqb a b ≡ false
differ a b less = elim (eqb_tells a b) [
  | inl same ↦ let e : a ≡ b = same.1 in absurd (let no_room : ⊥ = omega arith in no_room)
  | inr other ↦ other.0
]

-- the column behind so many bytes, of which so many stand behind the last newline
abbrev column_of : ℕ → ℕ → ℕ → ℕ
column_of column size last = cond (eqb last size) (column + size) (1 + last)

column_step : (newline all : Bool) (column size last : ℕ) → last ≤ size → eqb last size ≡ all
    → cond all (cond newline 1 (column + 1) + size) (1 + last) ≡ column_of column (suc size) (cond all (size + cond (not newline) 1 0) last)
column_step true true column size last most is =
    rw (differ (size + 0) (suc size) (omega arith)) (let e : 1 + size ≡ 1 + (size + 0) = omega arith in e)
column_step true false column size last most is = rw (differ last (suc size) (omega arith)) refl
column_step false true column size last most is =
    rw (eq-eqb (size + 1) (suc size) (omega arith)) (let e : column + 1 + size ≡ column + suc size = omega arith in e)
column_step false false column size last most is = rw (differ last (suc size) (omega arith)) refl

abbrev moved : Place → ℕ → ℕ → ℕ → Place
moved at lines size last = record { line = at.line + lines; column = column_of at.column size last }

moved_step : (newline : Bool) (at : Place) (lines size last : ℕ) → last ≤ size
    → moved (cond newline (record { line = at.line + 1; column = 1 }) (record { line = at.line; column = at.column + 1 })) lines size last
    ≡ moved at (cond newline 1 0 + lines) (suc size) (cond (eqb last size) (size + cond (not newline) 1 0) last)
moved_step true at lines size last most =
    let line : at.line + 1 + lines ≡ at.line + (1 + lines) = omega arith in
    λ i. record { line = line i; column = column_step true (eqb last size) at.column size last most refl i }
moved_step false at lines size last most =
    let line : at.line + lines ≡ at.line + (0 + lines) = omega arith in
    λ i. record { line = line i; column = column_step false (eqb last size) at.column size last most refl i }

behind_is : (at : Place) (xs : List ℕ) → place_behind at xs ≡ moved at (count_by (λ b. b == 10) xs) (length xs) (suffix_len goes_on xs)
behind_is at [] =
    let line : at.line ≡ at.line + 0 = omega arith in
    let column : at.column ≡ at.column + 0 = omega arith in
    λ i. record { line = line i; column = column i }
behind_is at (b ∷ xs) =
    let lines = sym (sum_by-cons (λ b. cond (b == 10) 1 0) b xs) in
    let last = sym (suffix_cons b xs) in
    behind_is (place_behind_byte at b) xs
    ∙ moved_step (b == 10) at (count_by (λ b. b == 10) xs) (length xs) (suffix_len goes_on xs) (suffix_len-le-length goes_on xs)
    ∙ (λ i. moved at (lines i) (suc (length xs)) (last i))

first_column : (all : Bool) (size last : ℕ) → eqb last size ≡ all → cond all (1 + size) (1 + last) ≡ 1 + last
first_column true size last is = let e : last ≡ size = eqb-true last size is in omega arith
first_column false size last is = refl

-- walking over a text counts its lines and columns
pub walk_is_place : (text : List ℕ) (at : ℕ) → place_behind start (take at text) ≡ line_and_column text at
walk_is_place text at =
    behind_is start (take at text)
    ∙ (λ i. record {
      line = 1 + count_by (λ b. b == 10) (take at text);
      column = first_column (eqb (suffix_len goes_on (take at text)) (length (take at text))) (length (take at text)) (suffix_len goes_on (take at text)) refl i;
    })

pub behind_more : (at : Place) (text : List ℕ) (a b : ℕ) → a ≤ b → place_behind (place_behind at (take a text)) (take (b - a) (drop a text)) ≡ place_behind at (take b text)
behind_more at text a b h = let e : a + (b - a) ≡ b = omega arith in behind_from at text a (b - a) ∙ ap (λ n. place_behind at (take n text)) e

pub earlier : (a b end : ℕ) (ts : List Token) → a ≤ b → StandBetween b end ts → StandBetween a end ts
earlier a b end [] h s = omega arith
earlier a b end (t ∷ ts) h s = (let f : b ≤ t.from = s.0 in omega arith, s.1, s.2)

pub few : (a end : ℕ) (ts : List Token) → StandBetween a end ts → a + length ts ≤ end
few a end [] s = let h : a ≤ end = s in omega arith
few a end (t ∷ ts) s =
    let f : a ≤ t.from = s.0 in let g : t.from < t.to = s.1 in
    let n = few t.to end ts s.2 in omega arith

pub bounded : (a end : ℕ) (t : Token) (ts : List Token) → StandBetween a end (t ∷ ts) → t.from ≤ end
bounded a end t ts s =
    let g : t.from < t.to = s.1 in
    let n = few t.to end ts s.2 in omega arith

-- what is taken is no more than what was asked for
pub few_taken : (n : ℕ) (xs : List ℕ) → length (take n xs) ≤ n
few_taken zero xs = omega arith
few_taken (suc n) [] = omega arith
few_taken (suc n) (x ∷ xs) = let h : length (take n xs) ≤ n = few_taken n xs in omega arith

-- one symbol more
pub made_on : (text : List ℕ) (all more : List Symbol) (s : Symbol) (t : Token) (left rest tokens : List Token)
    → map (lexeme_of text) all ++ lexemes text left ≡ lexemes text tokens → left ≡ t ∷ rest → more ≡ all ++ s ∷ [] → lexeme_of text s ≡ lexeme_at text t
    → map (lexeme_of text) more ++ lexemes text rest ≡ lexemes text tokens
made_on text all more s t left rest tokens made split is same =
    ap (λ xs. map (lexeme_of text) xs ++ lexemes text rest) is
    ∙ ap (λ xs. xs ++ lexemes text rest) (map-append (lexeme_of text) all (s ∷ []))
    ∙ append_assoc (map (lexeme_of text) all) (lexeme_of text s ∷ []) (lexemes text rest)
    ∙ ap (λ x. map (lexeme_of text) all ++ (x ∷ lexemes text rest)) same
    ∙ ap (λ l. map (lexeme_of text) all ++ lexemes text l) (sym split) ∙ made
