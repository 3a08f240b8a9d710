-- Words of which flags were made options with an empty value say what the words said.
use Rattle.std.proofs.Common.{◌≡◌, ◌∙◌, ℕ, suc, ◌+◌, ◌<◌, ◌==◌, Bool, cond, true, false, ◌||◌, ◌&&◌, List, [], ◌∷◌, ◌++◌, map, length, take, drop, Option, Some, None, refl, sym, ap, arith, lt-ltb, le-ltb, eqb-true, true≢false, take_all, subst}
use Rattle.std.specs.Prelude.{option_map, option_and_then}
use Rattle.std.specs.List.{list_any, position_or_len, after_first}
use Rattle.std.specs.Str.{bytes_eq}
use Rattle.service_binding.specs.Equals.{at_equals, is_equals}
use Rattle.command_line.specs.Options.{NamedWords, is_dashed, behind_dashes, option_name, option_value, has_option, words_beside, word_behind, words_left, said_behind}
use Rattle.command_line.specs.Flags.{word_behind_with, words_left_with, said_behind_with}
use Rattle.command_line.specs.Flagless.{flag_word, flagless_at, flagless_by, flagless_word, flagless_words}

abbrev Text : Type 0
Text = List ℕ

-- ---- a word at its first `=`

within : (text : Text) → list_any is_equals text ≡ true → position_or_len is_equals text < length text
within [] e = absurd (true≢false (sym e))
within (b ∷ text) e = by (is_equals b) refl e (λ g. within text g)
  where
    by : (c : Bool) → is_equals b ≡ c → (c || list_any is_equals text) ≡ true → (list_any is_equals text ≡ true → position_or_len is_equals text < length text)
        → position_or_len is_equals (b ∷ text) < length (b ∷ text)
    by true f g more = rw f (omega arith)
    by false f g more = let inside : position_or_len is_equals text < length text = more g in rw f (omega arith)

whole : (text : Text) → list_any is_equals text ≡ false → position_or_len is_equals text ≡ length text
whole [] e = refl
whole (b ∷ text) e = by (is_equals b) refl e (λ g. whole text g)
  where
    by : (c : Bool) → is_equals b ≡ c → (c || list_any is_equals text) ≡ false → (list_any is_equals text ≡ false → position_or_len is_equals text ≡ length text)
        → position_or_len is_equals (b ∷ text) ≡ length (b ∷ text)
    by true f g more = absurd (true≢false g)
    by false f g more = let behind : position_or_len is_equals text ≡ length text = more g in rw f (omega arith)

abbrev cut_if : Text → Bool → Option (Text × Text)
cut_if word b = option_map (λ (at : ℕ). (take at word, drop (at + 1) word)) (cond b (Some (position_or_len is_equals word)) None)

no_part : (text : Text) → list_any is_equals text ≡ false → at_equals (flag_word text) ≡ None
no_part text e =
    let all : position_or_len is_equals text ≡ length text = whole text e in
    ap (cut_if (flag_word text)) (le-ltb (position_or_len is_equals (flag_word text)) (length (flag_word text)) (omega arith))

-- the front of a flag's word
front : (text : Text) (n : ℕ) → take (1 + (1 + n)) (flag_word text) ≡ flag_word (take n text)
front text n = ap (λ k. take k (flag_word text)) (let two : 1 + (1 + n) ≡ suc (suc n) = omega arith in two)

parts : (text : Text) → list_any is_equals text ≡ true → at_equals (flag_word text) ≡ Some (flag_word (option_name text), drop (position_or_len is_equals (flag_word text) + 1) (flag_word text))
parts text e =
    let some : position_or_len is_equals text < length text = within text e in
    ap (cut_if (flag_word text)) (lt-ltb (position_or_len is_equals (flag_word text)) (length (flag_word text)) (omega arith))
    ∙ ap (λ t. Some (t, drop (position_or_len is_equals (flag_word text) + 1) (flag_word text))) (front text (position_or_len is_equals text))

name_alone : (text : Text) → list_any is_equals text ≡ false → option_name text ≡ text
name_alone text e = take_all (position_or_len is_equals text) text (let all : position_or_len is_equals text ≡ length text = whole text e in omega arith)

-- one byte more in front
taken_more : (n b : ℕ) (text : Text) → take (1 + n) (b ∷ text) ≡ b ∷ take n text
taken_more n b text = ap (λ k. take k (b ∷ text)) (let one : 1 + n ≡ suc n = omega arith in one)

dropped_more : (n b : ℕ) (text : Text) → drop (1 + n + 1) (b ∷ text) ≡ drop (n + 1) text
dropped_more n b text = ap (λ k. drop k (b ∷ text)) (let one : 1 + n + 1 ≡ suc (n + 1) = omega arith in one)

-- the same of a text that got a `=` at its end
named_with : (text : Text) → list_any is_equals text ≡ false → option_name (text ++ 61 ∷ []) ≡ text
named_with [] e = refl
named_with (b ∷ text) e = by (is_equals b) refl e (λ g. named_with text g)
  where
    by : (c : Bool) → is_equals b ≡ c → (c || list_any is_equals text) ≡ false → (list_any is_equals text ≡ false → option_name (text ++ 61 ∷ []) ≡ text)
        → option_name (b ∷ (text ++ 61 ∷ [])) ≡ b ∷ text
    by true f g more = absurd (true≢false g)
    by false f g more = rw f (taken_more (position_or_len is_equals (text ++ 61 ∷ [])) b (text ++ 61 ∷ []) ∙ ap (λ t. b ∷ t) (more g))

valued_with : (text : Text) → list_any is_equals text ≡ false → option_value (text ++ 61 ∷ []) ≡ Some []
valued_with text e = has text e ∙ ap Some (rest text e)
  where
    rest : (t : Text) → list_any is_equals t ≡ false → after_first is_equals (t ++ 61 ∷ []) ≡ []
    rest [] f = refl
    rest (b ∷ t) f = by (is_equals b) refl f (λ h. rest t h)
      where
        by : (c : Bool) → is_equals b ≡ c → (c || list_any is_equals t) ≡ false → (list_any is_equals t ≡ false → after_first is_equals (t ++ 61 ∷ []) ≡ [])
            → after_first is_equals (b ∷ (t ++ 61 ∷ [])) ≡ []
        by true g h more = absurd (true≢false h)
        by false g h more = rw g (dropped_more (position_or_len is_equals (t ++ 61 ∷ [])) b (t ++ 61 ∷ []) ∙ more h)

    any : (t : Text) → list_any is_equals (t ++ 61 ∷ []) ≡ true
    any [] = refl
    any (b ∷ t) = ap (λ c. is_equals b || c) (any t) ∙ or_true (is_equals b)
      where
        or_true : (c : Bool) → (c || true) ≡ true
        or_true true = refl
        or_true false = refl

    has : (t : Text) → list_any is_equals t ≡ false → option_value (t ++ 61 ∷ []) ≡ Some (after_first is_equals (t ++ 61 ∷ []))
    has t f = ap (λ c. cond c (Some (after_first is_equals (t ++ 61 ∷ []))) None) (any t)

-- ---- names

-- a flag's word among the flags' words
same_flags : (flags : List Text) (name : Text) → has_option (map flag_word flags) (flag_word name) ≡ has_option flags name
same_flags [] name = refl
same_flags (flag ∷ flags) name = ap (λ b. bytes_eq flag name || b) (same_flags flags name)

has_either : (names flags : List Text) (name : Text) → has_option (names ++ flags) name ≡ (has_option names name || has_option flags name)
has_either [] flags name = refl
has_either (other ∷ names) flags name = ap (λ b. bytes_eq other name || b) (has_either names flags name) ∙ grouped (bytes_eq other name) (has_option names name) (has_option flags name)
  where
    grouped : (a b c : Bool) → (a || (b || c)) ≡ ((a || b) || c)
    grouped true b c = refl
    grouped false b c = refl

or_right : (a b : Bool) → b ≡ true → (a || b) ≡ true
or_right true b e = refl
or_right false b e = e

or_left : (a b : Bool) → b ≡ false → (a || b) ≡ a
or_left true b e = refl
or_left false b e = e

dashed_is : (word text : Text) → behind_dashes word ≡ Some text → word ≡ flag_word text
dashed_is [] text e = absurd (let g : ⊥ = cc in g)
dashed_is (a ∷ []) text e = absurd (let g : ⊥ = cc in g)
dashed_is (a ∷ b ∷ rest) text e = by (a == 45) (b == 45) refl refl e
  where
    by : (c d : Bool) → (a == 45) ≡ c → (b == 45) ≡ d → cond (c && d) (Some rest) None ≡ Some text → a ∷ b ∷ rest ≡ flag_word text
    by true true f g h =
        let first : a ≡ 45 = eqb-true a 45 f in
        let second : b ≡ 45 = eqb-true b 45 g in
        let behind : rest ≡ text = cc in
        λ i. first i ∷ second i ∷ behind i
    by true false f g h = absurd (let z : ⊥ = cc in z)
    by false d f g h = absurd (let z : ⊥ = cc in z)

module _ (names flags : List Text) where
  abbrev next_with : NamedWords → Option Text → Text → Option (NamedWords × Option Text)
  next_with = word_behind_with names flags

  abbrev next_all : NamedWords → Option Text → Text → Option (NamedWords × Option Text)
  next_all = word_behind (names ++ flags)

  -- what is said of a word by what it becomes
  abbrev Becomes : Text → Option Text → Type 0
  Becomes word None = (pairs : NamedWords) (waiting : Option Text) → next_with pairs waiting word ≡ None
  Becomes word (Some made) = (pairs : NamedWords) (waiting : Option Text) → next_with pairs waiting word ≡ next_all pairs waiting made

  -- a word that isn't dashed twice
  unlike : (word : Text) → behind_dashes word ≡ None → Becomes word (Some word)
  unlike word e pairs (Some name) = refl
  unlike word e pairs None = by (is_dashed word) refl
    where
      by : (b : Bool) → is_dashed word ≡ b → next_with pairs None word ≡ next_all pairs None word
      by true f = rw (f, e) refl
      by false f = rw f refl

  -- an option's word, which is no flag's
  an_option : (text : Text) → has_option flags (option_name text) ≡ false → Becomes (flag_word text) (Some (flag_word text))
  an_option text e pairs (Some name) = refl
  an_option text e pairs None =
      rw (e, has_either names flags (option_name text), or_left (has_option names (option_name text)) (has_option flags (option_name text)) e) refl

  -- a flag's word
  a_flag : (text : Text) → list_any is_equals text ≡ false → has_option flags text ≡ true → Becomes (flag_word text) (Some (flag_word text ++ 61 ∷ []))
  a_flag text e f pairs (Some name) = refl
  a_flag text e f pairs None =
      let named : option_name text ≡ text = name_alone text e in
      let there : has_option (names ++ flags) text ≡ true = has_either names flags text ∙ or_right (has_option names text) (has_option flags text) f in
      rw (named, f, e, named_with text e, valued_with text e, there) refl

  -- a flag's word with a value
  a_valued_flag : (text : Text) → list_any is_equals text ≡ true → has_option flags (option_name text) ≡ true → Becomes (flag_word text) None
  a_valued_flag text e f pairs (Some name) = refl
  a_valued_flag text e f pairs None = rw (f, e) refl

  a_dashed_word : (text : Text) → Becomes (flag_word text) (flagless_at (map flag_word flags) (flag_word text) (at_equals (flag_word text)))
  a_dashed_word text = by (list_any is_equals text) (has_option flags (option_name text)) refl refl
    where
      made : (c : Bool) → has_option flags (option_name text) ≡ c → has_option (map flag_word flags) (flag_word (option_name text)) ≡ c
      made c f = same_flags flags (option_name text) ∙ f

      by : (b c : Bool) → list_any is_equals text ≡ b → has_option flags (option_name text) ≡ c
          → Becomes (flag_word text) (flagless_at (map flag_word flags) (flag_word text) (at_equals (flag_word text)))
      by true true e f =
          subst (Becomes (flag_word text)) (sym (ap (flagless_at (map flag_word flags) (flag_word text)) (parts text e) ∙ ap (λ c. cond c None (Some (flag_word text))) (made true f)))
          (a_valued_flag text e f)
      by true false e f =
          subst (Becomes (flag_word text)) (sym (ap (flagless_at (map flag_word flags) (flag_word text)) (parts text e) ∙ ap (λ c. cond c None (Some (flag_word text))) (made false f)))
          (an_option text f)
      by false true e f =
          let named : has_option flags text ≡ true = ap (has_option flags) (sym (name_alone text e)) ∙ f in
          subst (Becomes (flag_word text)) (sym (ap (flagless_at (map flag_word flags) (flag_word text)) (no_part text e)
          ∙ ap (λ c. cond c (Some (flag_word text ++ 61 ∷ [])) (Some (flag_word text))) (same_flags flags text ∙ named)))
          (a_flag text e named)
      by false false e f =
          let named : has_option flags text ≡ false = ap (has_option flags) (sym (name_alone text e)) ∙ f in
          subst (Becomes (flag_word text)) (sym (ap (flagless_at (map flag_word flags) (flag_word text)) (no_part text e)
          ∙ ap (λ c. cond c (Some (flag_word text ++ 61 ∷ [])) (Some (flag_word text))) (same_flags flags text ∙ named)))
          (an_option text f)

  -- any word
  a_word : (word : Text) → Becomes word (flagless_word (map flag_word flags) word)
  a_word word = by (behind_dashes word) refl
    where
      by : (o : Option Text) → behind_dashes word ≡ o → Becomes word (flagless_by (map flag_word flags) word o)
      by None e = unlike word e
      by (Some text) e =
          subst (λ (w : Text). Becomes w (flagless_at (map flag_word flags) w (at_equals w))) (sym (dashed_is word text e)) (a_dashed_word text)

  -- ---- all words

  abbrev AllBecome : List Text → Option (List Text) → Type 0
  AllBecome words None = (pairs : NamedWords) (waiting : Option Text) → words_left_with names flags pairs waiting words ≡ None
  AllBecome words (Some made) = (pairs : NamedWords) (waiting : Option Text) → words_left_with names flags pairs waiting words ≡ words_left (names ++ flags) pairs waiting made

  never : {A B : Type 0} (f : A → Option B) (x : Option A) → ((a : A) → f a ≡ None) → option_and_then f x ≡ None
  never f None h = refl
  never f (Some a) h = h a

  alike : {A B : Type 0} (f g : A → Option B) (x : Option A) → ((a : A) → f a ≡ g a) → option_and_then f x ≡ option_and_then g x
  alike f g None h = refl
  alike f g (Some a) h = h a

  all_words : (words : List Text) → AllBecome words (flagless_words (map flag_word flags) words)
  all_words [] = λ pairs waiting. refl
  all_words (word ∷ words) = by (flagless_word (map flag_word flags) word) (flagless_words (map flag_word flags) words) (a_word word) (all_words words)
    where
      left : NamedWords × Option Text → Option NamedWords
      left next = words_left_with names flags next.0 next.1 words

      by : (o : Option Text) (os : Option (List Text)) → Becomes word o → AllBecome words os
          → AllBecome (word ∷ words) (option_and_then (λ (first : Text). option_map (λ (rest : List Text). first ∷ rest) os) o)
      by None os h hs = λ pairs waiting. ap (option_and_then left) (h pairs waiting)
      by (Some made) None h hs = λ pairs waiting. never left (next_with pairs waiting word) (λ next. hs next.0 next.1)
      by (Some made) (Some rest) h hs =
          λ pairs waiting. ap (option_and_then left) (h pairs waiting)
          ∙ alike left (λ next. words_left (names ++ flags) next.0 next.1 rest) (next_all pairs waiting made) (λ next. hs next.0 next.1)

  -- what is said by words of which flags were made options
  abbrev pub SaysThe : List Text → Option (List Text) → Type 0
  SaysThe words None = said_behind_with names flags words ≡ None
  SaysThe words (Some made) = said_behind_with names flags words ≡ said_behind (names ++ flags) made

  pub said_flagless : (words : List Text) (made : Option (List Text)) → made ≡ flagless_words (map flag_word flags) words → SaysThe words made
  said_flagless words made is = subst (SaysThe words) (sym is) (by (flagless_words (map flag_word flags) words) (all_words words))
    where
      by : (os : Option (List Text)) → AllBecome words os → SaysThe words os
      by None h = ap (option_map words_beside) (h [] None)
      by (Some rest) h = ap (option_map words_beside) (h [] None)
