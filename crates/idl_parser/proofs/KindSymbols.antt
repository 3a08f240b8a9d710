-- Which symbol the tokens of a kind become.
use Rattle.std.proofs.Common.{◌≡◌, ◌↔◌, Bool, true, false, cond, not, ◌==◌, ◌||◌, ◌&&◌, ℕ, List, [], ◌∷◌, length, Option, Some, None, refl, sym, ap, ◌∙◌, inl, inr}
use Rattle.std.specs.Prelude.{slice_index, nat_eq, is_some}
use Rattle.std.specs.Option.{unwrap_or}
use Rattle.std.specs.List.{list_any, list_all}
use Rattle.std.specs.Cmp.Lexicographic.{pointwise}
use Rattle.std.proofs.Math.Dec.{eqb}
use Rattle.std.proofs.lemmas.Bool.{eq-eqb}
use Rattle.std.proofs.lemmas.Bool.Decides.{eqb_tells}
use Rattle.idl_token.specs.Words.{is_word, keywords, terminal_in, keyword_of, is_keyword, is_truth_word, is_refused, kind_of_word}
use Rattle.idl_token.specs.Numbers.{is_int, is_double, is_big_int, is_big_double}
use Rattle.idl_token.specs.Literals.{is_literal, bad_escape_in}
use Rattle.idl_token.specs.Wholes.{other, sound, number_whole, literal_whole, signs, is_sign, whole_of}
use Rattle.idl_token.specs.declared.TokenKind.{TokenKind}
use Rattle.idl_token.specs.declared.TokenKind.TheVariants as kind
use Rattle.idl_token.specs.declared.terminal.Terminal.{Terminal}
use Rattle.idl_token.specs.declared.terminal.Terminal.TheVariants as word
use Rattle.idl_token.specs.Terminals.{same}
use Rattle.idl_parser.specs.Symbols.{sign_of, terminal_of}

-- the symbol of the first row whose test passes
abbrev pick : List (Bool × Terminal) → Terminal
pick [] = word.Refused
pick (r ∷ rows) = cond r.0 r.1 (pick rows)

-- a test passes, or something else
abbrev passes_or : List (Bool × Terminal) → Bool → Bool
passes_or [] last = last
passes_or (r ∷ rows) last = r.0 || passes_or rows last

-- no row has this symbol
abbrev lacks : Terminal → List (Bool × Terminal) → Bool
lacks k rows = list_all (λ r. not (same r.1 k)) rows

abbrev row : Bool → Terminal → Bool × Terminal
row test k = (test, k)

both_left : (a b : Bool) → a && b ≡ true → a ≡ true
both_left true b e = refl
both_left false b e = cc

both_right : (a b : Bool) → a && b ≡ true → b ≡ true
both_right true b e = e
both_right false b e = cc

turned : (a : Bool) → not a ≡ true → a ≡ false
turned true e = cc
turned false e = refl

found_case : (b : Bool) (k : Terminal) (rows : List (Bool × Terminal)) (last : Bool) → lacks word.Refused ((b, k) ∷ rows) ≡ true → b || passes_or rows last ≡ true
    → (passes_or rows last ≡ true → same (pick rows) word.Refused ≡ false) → same (cond b k (pick rows)) word.Refused ≡ false
found_case true k rows last lack some later = turned (same k word.Refused) (both_left (not (same k word.Refused)) (lacks word.Refused rows) lack)
found_case false k rows last lack some later = later some

found : (rows : List (Bool × Terminal)) (last : Bool) → lacks word.Refused rows ≡ true → passes_or rows last ≡ true → last ≡ false → same (pick rows) word.Refused ≡ false
found [] last lack some end = let e : true ≡ false = sym some ∙ end in cc
found (r ∷ rows) last lack some end =
    found_case r.0 r.1 rows last lack some
    (λ later. found rows last (both_right (not (same r.1 word.Refused)) (lacks word.Refused rows) lack) later end)

never_case : (b : Bool) (k row_symbol : Terminal) (rows : List (Bool × Terminal)) → not (same row_symbol k) ≡ true → same (pick rows) k ≡ false
    → same (cond b row_symbol (pick rows)) k ≡ false
never_case true k row_symbol rows other_one later = turned (same row_symbol k) other_one
never_case false k row_symbol rows other_one later = later

never : (k : Terminal) (rows : List (Bool × Terminal)) → lacks k rows ≡ true → same word.Refused k ≡ false → same (pick rows) k ≡ false
never k [] lack end = end
never k (r ∷ rows) lack end =
    never_case r.0 k r.1 rows (both_left (not (same r.1 k)) (lacks k rows) lack) (never k rows (both_right (not (same r.1 k)) (lacks k rows) lack) end)

-- keywords
terminal_case : (b : Bool) (j k : Terminal) (rest : Option Terminal) → not (same j k) ≡ true → (is_some rest ≡ true → same (unwrap_or rest word.Refused) k ≡ false)
    → is_some (cond b (Some j) rest) ≡ true → same (unwrap_or (cond b (Some j) rest) word.Refused) k ≡ false
terminal_case true j k rest other_one later some = turned (same j k) other_one
terminal_case false j k rest other_one later some = later some

terminal_differs : (k : Terminal) (rows : List (List ℕ × Terminal)) (w : List ℕ) → list_all (λ r. not (same r.1 k)) rows ≡ true
    → is_some (terminal_in (λ r. r.0) (λ r. r.1) rows w) ≡ true → same (unwrap_or (terminal_in (λ r. r.0) (λ r. r.1) rows w) word.Refused) k ≡ false
terminal_differs k [] w lack some = cc
terminal_differs k (r ∷ rows) w lack some =
    terminal_case (pointwise nat_eq w r.0) r.1 k (terminal_in (λ r. r.0) (λ r. r.1) rows w) (both_left (not (same r.1 k)) (list_all (λ r. not (same r.1 k)) rows) lack)
    (terminal_differs k rows w (both_right (not (same r.1 k)) (list_all (λ r. not (same r.1 k)) rows) lack)) some

pub keyword_is_kept : (w : List ℕ) → is_keyword w ≡ true → same (unwrap_or (keyword_of w) word.Refused) word.Refused ≡ false
unfolding keywords
keyword_is_kept w e = terminal_differs word.Refused keywords w refl e

none_or_some : (o : Option Terminal) → (is_some o ≡ true → same (unwrap_or o word.Refused) word.Int ≡ false) → same (unwrap_or o word.Refused) word.Int ≡ false
none_or_some None later = refl
none_or_some (Some k) later = later refl

keyword_is_no_int : (w : List ℕ) → same (unwrap_or (keyword_of w) word.Refused) word.Int ≡ false
unfolding keywords
keyword_is_no_int w = none_or_some (keyword_of w) (terminal_differs word.Int keywords w refl)

-- signs
abbrev sign_rows : ℕ → List (Bool × Terminal)
sign_rows b =
    row (b == 123) word.OpenBrace
    ∷ row (b == 125) word.CloseBrace
    ∷ row (b == 40) word.OpenParen
    ∷ row (b == 41) word.CloseParen
    ∷ row (b == 91) word.OpenBracket
    ∷ row (b == 93) word.CloseBracket
    ∷ row (b == 60) word.Less
    ∷ row (b == 62) word.Greater
    ∷ row (b == 44) word.Comma
    ∷ row (b == 59) word.Semicolon
    ∷ row (b == 58) word.Colon
    ∷ row (b == 61) word.Equals
    ∷ row (b == 42) word.Star
    ∷ []

sign_picked : (b : ℕ) → sign_of b ≡ pick (sign_rows b)
unfolding sign_of
sign_picked b = refl

turn : (a b : ℕ) → eqb a b ≡ eqb b a
turn a b = elim (eqb_tells a b) [
  | inl is ↦ is.0 ∙ sym (eq-eqb b a (sym is.1))
  | inr other_one ↦ other_one.0 ∙ sym (elim (eqb_tells b a) [
    | inl is ↦ absurd (other_one.1 (sym is.1))
    | inr again ↦ again.0
  ])
]

sign_found : (b : ℕ) → list_any (λ sign. sign == b) signs ≡ true → passes_or (sign_rows b) (b == 38 || false) ≡ true
unfolding signs
sign_found b e = (λ i. list_any (λ sign. turn b sign i) signs) ∙ e

or_none : (a : Bool) → a ≡ false → (a || false) ≡ false
or_none true e = e
or_none false e = refl

pub sign_is_kept : (b : ℕ) → list_any (λ sign. sign == b) signs ≡ true → b == 38 ≡ false → same (sign_of b) word.Refused ≡ false
sign_is_kept b e no_and = ap (λ k. same k word.Refused) (sign_picked b) ∙ found (sign_rows b) (b == 38 || false) refl (sign_found b e) (or_none (b == 38) no_and)

sign_is_no_int : (b : ℕ) → same (sign_of b) word.Int ≡ false
sign_is_no_int b = ap (λ k. same k word.Int) (sign_picked b) ∙ never word.Int (sign_rows b) refl refl

-- what a whole token tells of its kind
keyword_word : (keyword truth refused : Bool) → cond keyword kind.Keyword (cond truth kind.Int (cond refused kind.Refused kind.Identifier)) ≡ kind.Keyword → keyword ≡ true
keyword_word true truth refused e = refl
keyword_word false true refused e = cc
keyword_word false false true e = cc
keyword_word false false false e = cc

no_sign_word : (keyword truth refused : Bool) → cond keyword kind.Keyword (cond truth kind.Int (cond refused kind.Refused kind.Identifier)) ≡ kind.Sign → ⊥
no_sign_word true truth refused e = cc
no_sign_word false true refused e = cc
no_sign_word false false true e = cc
no_sign_word false false false e = cc

whole_keyword : (word int double closed sign big long refused : Bool) (k : TokenKind) (bad : Option ℕ)
    → cond word (sound k) (cond int (number_whole kind.Int big) (cond double (number_whole kind.Double long) (cond closed (literal_whole bad) (cond sign (sound (cond refused kind.Refused kind.Sign)) other)))) ≡ sound kind.Keyword
    → k ≡ kind.Keyword
whole_keyword true int double closed sign big long refused k bad e = cc
whole_keyword false true double closed sign true long refused k bad e = cc
whole_keyword false true double closed sign false long refused k bad e = cc
whole_keyword false false true closed sign big true refused k bad e = cc
whole_keyword false false true closed sign big false refused k bad e = cc
whole_keyword false false false true sign big long refused k None e = cc
whole_keyword false false false true sign big long refused k (Some at) e = cc
whole_keyword false false false false true big long true k bad e = cc
whole_keyword false false false false true big long false k bad e = cc
whole_keyword false false false false false big long refused k bad e = cc

record WholeSign (sign refused : Bool) : Type 0 where
  sign_is : sign ≡ true
  kept : refused ≡ false

whole_sign : (word int double closed sign big long refused : Bool) (k : TokenKind) (bad : Option ℕ) → (k ≡ kind.Sign → ⊥)
    → cond word (sound k) (cond int (number_whole kind.Int big) (cond double (number_whole kind.Double long) (cond closed (literal_whole bad) (cond sign (sound (cond refused kind.Refused kind.Sign)) other)))) ≡ sound kind.Sign
    → WholeSign sign refused
whole_sign true int double closed sign big long refused k bad no_word e = absurd (no_word (let same_kind : k ≡ kind.Sign = cc in same_kind))
whole_sign false true double closed sign true long refused k bad no_word e = cc
whole_sign false true double closed sign false long refused k bad no_word e = cc
whole_sign false false true closed sign big true refused k bad no_word e = cc
whole_sign false false true closed sign big false refused k bad no_word e = cc
whole_sign false false false true sign big long refused k None no_word e = cc
whole_sign false false false true sign big long refused k (Some at) no_word e = cc
whole_sign false false false false true big long true k bad no_word e = cc
whole_sign false false false false true big long false k bad no_word e = record { sign_is = refl; kept = refl }
whole_sign false false false false false big long refused k bad no_word e = cc

kept_keyword : (w : List ℕ) → whole_of w ≡ sound kind.Keyword → same (unwrap_or (keyword_of w) word.Refused) word.Refused ≡ false
unfolding kind_of_word
kept_keyword w is =
    let k = whole_keyword (is_word w) (is_int w) (is_double w) (is_literal w) (is_sign w) (is_big_int w) (is_big_double w) (slice_index w 0 == 38) (kind_of_word w) (bad_escape_in w) is in
    keyword_is_kept w (keyword_word (is_keyword w) (is_truth_word w) (is_refused w) k)

kept_sign : (w : List ℕ) → whole_of w ≡ sound kind.Sign → same (sign_of (slice_index w 0)) word.Refused ≡ false
unfolding kind_of_word
kept_sign w is =
    let s = whole_sign (is_word w) (is_int w) (is_double w) (is_literal w) (is_sign w) (is_big_int w) (is_big_double w) (slice_index w 0 == 38) (kind_of_word w) (bad_escape_in w)
    (no_sign_word (is_keyword w) (is_truth_word w) (is_refused w)) is in
    sign_is_kept (slice_index w 0) (both_left (list_any (λ sign. sign == slice_index w 0) signs) (length w == 1) s.sign_is) s.kept

differs : (k : Terminal) → same k word.Refused ≡ false → k ≡ word.Refused → ⊥
differs k other_one is = let e : true ≡ false = sym (ap (λ k. same k word.Refused) is) ∙ other_one in cc

-- a token becomes `Refused` exactly where its kind is
pub refused_alone : (k : TokenKind) (w : List ℕ) → whole_of w ≡ sound k → (terminal_of k w ≡ word.Refused) ↔ (k ≡ kind.Refused)
refused_alone kind.Keyword w is = (λ e. absurd (differs (unwrap_or (keyword_of w) word.Refused) (kept_keyword w is) e), λ e. cc)
refused_alone kind.Identifier w is = (λ e. cc, λ e. cc)
refused_alone kind.Int w is = (λ e. cc, λ e. cc)
refused_alone kind.Double w is = (λ e. cc, λ e. cc)
refused_alone kind.Literal w is = (λ e. cc, λ e. cc)
refused_alone kind.Sign w is = (λ e. absurd (differs (sign_of (slice_index w 0)) (kept_sign w is) e), λ e. cc)
refused_alone kind.Refused w is = (λ e. refl, λ e. refl)

-- an integer to the grammar is one to the lexer
pub int_alone : (k : TokenKind) (w : List ℕ) → same (terminal_of k w) word.Int ≡ true → k ≡ kind.Int
int_alone kind.Keyword w e = let f : true ≡ false = sym e ∙ keyword_is_no_int w in cc
int_alone kind.Identifier w e = cc
int_alone kind.Int w e = refl
int_alone kind.Double w e = cc
int_alone kind.Literal w e = cc
int_alone kind.Sign w e = let f : true ≡ false = sym e ∙ sign_is_no_int (slice_index w 0) in cc
int_alone kind.Refused w e = cc
