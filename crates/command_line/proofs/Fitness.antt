-- Words that are handed to clap.
use Rattle.std.proofs.Common.{◌≡◌, ◌∙◌, ℕ, ◌==◌, Bool, cond, true, false, not, ◌||◌, ◌&&◌, List, [], ◌∷◌, Option, Some, None, refl, sym, ap, true≢false}
use Rattle.std.specs.Prelude.{option_and_then}
use Rattle.std.specs.List.{list_all}
use Rattle.std.specs.Str.{bytes_eq}
use Rattle.clap.specs.Lexer.{long_of, short_of}
use Rattle.clap.specs.Walk.{Text}
use Rattle.command_line.specs.Clapped.{has_more, is_fit}
use Rattle.command_line.specs.Options.{NamedWords, behind_dashes, has_option, is_dashed, named_option, word_behind, option_name, option_value, words_left}

-- a word that doesn't begin with `-` is no flag
pub record IsPlain (word : Text) : Type 0 where
  pub no_end : bytes_eq word (45 ∷ 45 ∷ []) ≡ false
  pub no_long : long_of word ≡ None
  pub no_short : short_of word ≡ None

pub plain_is : (word : Text) → is_dashed word ≡ false → IsPlain word
plain_is [] e = record { no_end = refl; no_long = refl; no_short = refl }
plain_is (b ∷ rest) e = record { no_end = rw e refl; no_long = rw e refl; no_short = rw e refl }

-- a word that begins with `--` and goes on is a long flag
pub record IsLong (word : Text) : Type 0 where
  pub text : Text
  pub behind : behind_dashes word ≡ Some text
  pub no_end : bytes_eq word (45 ∷ 45 ∷ []) ≡ false
  pub long : long_of word ≡ Some (option_name text, option_value text)

unfit : (word : Text) → is_dashed word ≡ true → behind_dashes word ≡ None → is_fit word ≡ true → ⊥
unfit word dashed none fit =
    let no : is_fit word ≡ false = rw (dashed, none) refl in
    true≢false (sym fit ∙ no)

unfit_end : (word : Text) → is_dashed word ≡ true → behind_dashes word ≡ Some [] → is_fit word ≡ true → ⊥
unfit_end word dashed none fit =
    let no : is_fit word ≡ false = rw (dashed, none) refl in
    true≢false (sym fit ∙ no)

two_dashes : (a b : ℕ) (rest : Text) → (a == 45) ≡ true → (c : Bool) → (b == 45) ≡ c → behind_dashes (a ∷ b ∷ rest) ≡ cond c (Some rest) None
two_dashes a b rest e c f = rw (e, f) refl

pub long_is : (word : Text) → is_dashed word ≡ true → is_fit word ≡ true → IsLong word
long_is [] e fit = absurd (true≢false (sym e))
long_is (a ∷ []) e fit = absurd (unfit (a ∷ []) e refl fit)
long_is (a ∷ b ∷ []) e fit = absurd (go (b == 45) refl)
  where
    go : (c : Bool) → (b == 45) ≡ c → ⊥
    go true f = unfit_end (a ∷ b ∷ []) e (two_dashes a b [] e true f) fit
    go false f = unfit (a ∷ b ∷ []) e (two_dashes a b [] e false f) fit
long_is (a ∷ b ∷ c ∷ rest) e fit = go (b == 45) refl
  where
    go : (d : Bool) → (b == 45) ≡ d → IsLong (a ∷ b ∷ c ∷ rest)
    go true f = record {
      text = c ∷ rest;
      behind = two_dashes a b (c ∷ rest) e true f;
      no_end = rw (e, f) refl;
      long = rw (e, f) refl;
    }
    go false f = absurd (unfit (a ∷ b ∷ c ∷ rest) e (two_dashes a b (c ∷ rest) e false f) fit)

-- ---- a word that isn't handed to clap is none of a command's

none_named : (names : List Text) (pairs : NamedWords) → has_option names [] ≡ false → (o : Option Text) → has_more o ≡ false
    → option_and_then (λ (text : Text). named_option names pairs (option_name text) (option_value text)) o ≡ None
none_named names pairs no_empty None e = refl
none_named names pairs no_empty (Some []) e = rw no_empty refl
none_named names pairs no_empty (Some (x ∷ xs)) e = absurd (true≢false e)

dashed_none : (names : List Text) (pairs : NamedWords) (word : Text) → has_option names [] ≡ false → is_dashed word ≡ true → is_fit word ≡ false → (waiting : Option Text)
    → word_behind names pairs waiting word ≡ None
dashed_none names pairs word no_empty dashed fit (Some name) = rw dashed refl
dashed_none names pairs word no_empty dashed fit None =
    let none : has_more (behind_dashes word) ≡ false =
    sym (ap (λ b. not b || has_more (behind_dashes word)) dashed) ∙ fit in
    rw dashed (none_named names pairs no_empty (behind_dashes word) none)

unfit_none : (names : List Text) (pairs : NamedWords) (word : Text) → has_option names [] ≡ false → is_fit word ≡ false → (waiting : Option Text) → word_behind names pairs waiting word ≡ None
unfit_none names pairs word no_empty fit waiting = go (is_dashed word) refl
  where
    go : (b : Bool) → is_dashed word ≡ b → word_behind names pairs waiting word ≡ None
    go true e = dashed_none names pairs word no_empty e fit waiting
    go false e =
        absurd (true≢false (sym (ap (λ c. not c || has_more (behind_dashes word)) e) ∙ fit))

abbrev words_after : List Text → List Text → Option (NamedWords × Option Text) → Option NamedWords
words_after names words o = option_and_then (λ (next : NamedWords × Option Text). words_left names next.0 next.1 words) o

pub none_fit : (names : List Text) → has_option names [] ≡ false → (words : List Text) → list_all is_fit words ≡ false → (pairs : NamedWords) (waiting : Option Text)
    → words_left names pairs waiting words ≡ None
none_fit names no_empty [] e pairs waiting = absurd (true≢false e)
none_fit names no_empty (word ∷ words) e pairs waiting = go (is_fit word) refl e (word_behind names pairs waiting word) (none_fit names no_empty words)
  where
    after : (o : Option (NamedWords × Option Text)) → ((pairs : NamedWords) (waiting : Option Text) → words_left names pairs waiting words ≡ None) → words_after names words o ≡ None
    after None later = refl
    after (Some next) later = later next.0 next.1

    go : (b : Bool) → is_fit word ≡ b → (is_fit word && list_all is_fit words) ≡ false → (o : Option (NamedWords × Option Text))
        → (list_all is_fit words ≡ false → (pairs : NamedWords) (waiting : Option Text) → words_left names pairs waiting words ≡ None) → words_left names pairs waiting (word ∷ words) ≡ None
    go false f h o later = ap (words_after names words) (unfit_none names pairs word no_empty f waiting)
    go true f h o later = after (word_behind names pairs waiting word) (later (sym (ap (λ c. c && list_all is_fit words) f) ∙ h))
