-- A text is cut where the first byte stands that passes a test.
use Rattle.std.proofs.Common.{◌≡◌, ℕ, suc, ◌+◌, ◌<◌, ◌≤◌, Bool, true, false, not, cond, nat_lt, List, [], ◌∷◌, ◌++◌, length, take, drop, Option, Some, None, refl, ap, subst, ◌∙◌, arith}
use Rattle.std.proofs.lemmas.Bool.{ltb-true, ltb-false}
use Rattle.std.proofs.lemmas.List.{drop-drop}
use Rattle.std.proofs.lemmas.Grind.{common_steps}
use Rattle.std.specs.Prelude.{MatchOption}
use Rattle.std.specs.Option.{option_map}
use Rattle.std.specs.List.{position, position_or_len, AllByRecursion}
use Rattle.script_text.specs.TextLines.{TextParts, led_parts, at_front, parts_around, some_parts, is_line_end, led_by, text_lines}

-- the parts of a text around this place
abbrev pub cut_at : List ℕ → ℕ → Option TextParts
cut_at text n = some_parts (take n text) (drop (n + 1) text)

-- byte by byte: `n` is where the byte stands behind the byte x
found_behind : (test : ℕ → Bool) (x : ℕ) (text : List ℕ) (n : ℕ) (here : Bool)
    → (n < length text → parts_around test text ≡ cut_at text n)
    → cond (not here) (1 + n) 0 < length (x ∷ text)
    → cond here (at_front text) (option_map (led_parts x) (parts_around test text)) ≡ cut_at (x ∷ text) (cond (not here) (1 + n) 0)
found_behind test x text n true behind within = refl
found_behind test x text n false behind within =
    let next : 1 + n + 1 ≡ suc (n + 1) = omega arith in
    let one : 1 + n ≡ suc n = omega arith in
    rw (next, one) (ap (option_map (led_parts x)) (behind (omega arith)))

found : (test : ℕ → Bool) (text : List ℕ) → position_or_len test text < length text → parts_around test text ≡ cut_at text (position_or_len test text)
found test [] within = absurd (omega arith)
found test (x ∷ text) within = found_behind test x text (position_or_len test text) (test x) (found test text) within

missing_behind : (test : ℕ → Bool) (x : ℕ) (text : List ℕ) (n : ℕ) (here : Bool)
    → (length text ≤ n → parts_around test text ≡ None)
    → length (x ∷ text) ≤ cond (not here) (1 + n) 0
    → cond here (at_front text) (option_map (led_parts x) (parts_around test text)) ≡ None
missing_behind test x text n true behind within = absurd (omega arith)
missing_behind test x text n false behind within = ap (option_map (led_parts x)) (behind (omega arith))

missing : (test : ℕ → Bool) (text : List ℕ) → length text ≤ position_or_len test text → parts_around test text ≡ None
missing test [] within = refl
missing test (x ∷ text) within = missing_behind test x text (position_or_len test text) (test x) (missing test text) within

placed : (n at : ℕ) (within : Bool) → cond within (Some n) None ≡ Some at → (within ≡ true) × (n ≡ at)
placed n at true is = (refl, cc)
placed n at false is = absurd (cc)

unplaced : (n : ℕ) (within : Bool) → cond within (Some n) None ≡ None → within ≡ false
unplaced n true is = absurd (cc)
unplaced n false is = refl

-- the parts around a place that was found
pub parts_found : (test : ℕ → Bool) (text before rest behind : List ℕ) (at : ℕ) → position test text ≡ Some at
    → before ≡ take at text → rest ≡ drop at text → behind ≡ drop 1 rest → parts_around test text ≡ some_parts before behind
parts_found test text before rest behind at is before_is rest_is behind_is =
    let placed_at = placed (position_or_len test text) at (nat_lt (position_or_len test text) (length text)) is in
    let here = found test text (ltb-true _ _ placed_at.0) in
    let both : drop 1 (drop at text) ≡ drop (at + 1) text = drop-drop 1 at text in
    rw (behind_is, rest_is, before_is, both) (here ∙ ap (cut_at text) placed_at.1)

-- there is none
pub parts_missing : (test : ℕ → Bool) (text : List ℕ) → position test text ≡ None → parts_around test text ≡ None
parts_missing test text is =
    missing test text (ltb-false _ _ (unplaced (position_or_len test text) (nat_lt (position_or_len test text) (length text)) is))

-- what the parts around the first newline say of the lines
abbrev CutsLines : List ℕ → List (List ℕ) → Option TextParts → Type 0
CutsLines text lines parts = MatchOption parts (0 < length text → lines ≡ text ∷ []) (λ p. lines ≡ p.0 ∷ text_lines p.1)

cut_behind : (b : ℕ) (text : List ℕ) (here : Bool) (parts : Option TextParts) → CutsLines text (text_lines text) parts
    → CutsLines (b ∷ text) (cond here ([] ∷ text_lines text) (led_by b (text_lines text))) (cond here (at_front text) (option_map (led_parts b) parts))
cut_behind b text true parts h = refl
cut_behind b [] false None h = λ some. refl
cut_behind b (c ∷ text) false None h = λ some. ap (led_by b) (h (omega arith))
cut_behind b text false (Some p) h = ap (led_by b) h

lines_cut : (text : List ℕ) → CutsLines text (text_lines text) (parts_around is_line_end text)
lines_cut [] = λ some. absurd (omega arith)
lines_cut (b ∷ text) = cut_behind b text (is_line_end b) (parts_around is_line_end text) (lines_cut text)

-- the first line, where there is a newline
pub line_found : (text line rest : List ℕ) → parts_around is_line_end text ≡ some_parts line rest → text_lines text ≡ line ∷ text_lines rest
line_found text line rest is = subst (CutsLines text (text_lines text)) is (lines_cut text)

-- and where there is none
pub line_alone : (text : List ℕ) → 0 < length text → parts_around is_line_end text ≡ None → text_lines text ≡ text ∷ []
line_alone text some is = subst (CutsLines text (text_lines text)) is (lines_cut text) some

-- no byte of a text passes a test
abbrev pub IsFree : (ℕ → Bool) → List ℕ → Type 0
IsFree test text = AllByRecursion (λ b. test b ≡ false) text

-- a word before the byte that ends it
pub parts_of_word : (test : ℕ → Bool) (b : ℕ) (word rest : List ℕ) → test b ≡ true → IsFree test word → parts_around test (word ++ b ∷ rest) ≡ some_parts word rest
parts_of_word test b [] rest is free = ap (λ here. cond here (at_front rest) (option_map (led_parts b) (parts_around test rest))) is
parts_of_word test b (x ∷ word) rest is free =
    ap (λ here. cond here (at_front (word ++ b ∷ rest)) (option_map (led_parts x) (parts_around test (word ++ b ∷ rest)))) free.0
    ∙ ap (option_map (led_parts x)) (parts_of_word test b word rest is free.1)

-- a word alone
pub parts_of_none : (test : ℕ → Bool) (word : List ℕ) → IsFree test word → parts_around test word ≡ None
parts_of_none test [] free = refl
parts_of_none test (x ∷ word) free =
    ap (λ here. cond here (at_front word) (option_map (led_parts x) (parts_around test word))) free.0
    ∙ ap (option_map (led_parts x)) (parts_of_none test word free.1)

-- a line in front of a text
pub line_in_front : (line rest : List ℕ) → IsFree is_line_end line → text_lines (line ++ 10 ∷ [] ++ rest) ≡ line ∷ text_lines rest
line_in_front [] rest free = refl
line_in_front (b ∷ line) rest free =
    ap (λ here. cond here ([] ∷ text_lines (line ++ 10 ∷ [] ++ rest)) (led_by b (text_lines (line ++ 10 ∷ [] ++ rest)))) free.0
    ∙ ap (led_by b) (line_in_front line rest free.1)

-- the two cuts of a text behind its first line
pub cut_whole : (text line rest : List ℕ) → 0 < length text → position is_line_end text ≡ None → line ≡ take (length text) text → rest ≡ drop (length text) text
    → text_lines text ≡ line ∷ text_lines rest
cut_whole text line rest some is line_is rest_is =
    let all : take (length text) text ≡ text = grind (arith, common_steps) in
    let none : drop (length text) text ≡ [] = grind (arith, common_steps) in
    rw (line_is, rest_is, all, none) (line_alone text some (parts_missing is_line_end text is))

pub cut_found : (text line rest behind : List ℕ) (at : ℕ) → position is_line_end text ≡ Some at → line ≡ take at text → rest ≡ drop at text → behind ≡ drop 1 rest
    → text_lines text ≡ line ∷ text_lines behind
cut_found text line rest behind at is line_is rest_is behind_is =
    line_found text line behind (parts_found is_line_end text line rest behind at is line_is rest_is behind_is)

-- what holds of each in two lists holds of each in both
pub all-append : {X : Type 0} (P : X → Type 0) (xs ys : List X) → AllByRecursion P xs → AllByRecursion P ys → AllByRecursion P (xs ++ ys)
all-append P [] ys a b = b
all-append P (x ∷ xs) ys a b = (a.0, all-append P xs ys a.1 b)
