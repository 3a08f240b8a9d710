-- What clap makes of all the words is what they say.
use Rattle.std.proofs.Common.{◌≡◌, ◌∙◌, Bool, cond, true, false, ◌&&◌, List, [], ◌∷◌, ◌++◌, Option, Some, None, refl, sym, ap, subst, true≢false}
use Rattle.std.specs.Prelude.{option_and_then}
use Rattle.std.specs.List.{fold, list_all}
use Rattle.clap.specs.Kinds.{Kinds, or_else}
use Rattle.clap.specs.declared.error.kind.ErrorKind.{ErrorKind}
use Rattle.clap.specs.Walk.{Held, Row, Text, Waiting, Walk, idle, positional, finished, has_row, reading_by, settled, walk_from, walked, nothing_held}
use Rattle.clap.specs.Walk.{option as option_waits}
use Rattle.clap.specs.Faults.{check_fault, defaults_fault, long_fault, settle_fault, turn_fault, use_fault, walk_fault}
use Rattle.command_line.specs.Clapped.{is_fit}
use Rattle.command_line.specs.Options.{NamedWords, has_option, has_value, is_dashed, named_option, word_behind, no_option_waits, option_met, option_name, option_value, words_left}
use Rattle.command_line.proofs.Fitness.{IsLong, IsPlain, long_is, plain_is}
use Rattle.command_line.proofs.Rows.{Holds, none_goes, nothing_held_yet, one_more_held, row_has_value}
use Rattle.command_line.proofs.Table.{built_shape, filled_option, filled_plain, finished_is, no_check_fault, no_default_fault, table}
use Rattle.command_line.proofs.Turns.{between, is_open, long_turn, long_turn_is, long_walk, long_walk_is, no_value, opened, plain_rows, plain_settles, plain_turn, plain_walked, used_once, used_twice, value_turn, value_walked, valued, valued_rows, valued_settles, with_plain, with_valued}

fault≢none : (k : ErrorKind) (ks : Kinds) → k ∷ ks ≡ [] → ⊥
fault≢none k ks e = let no : ⊥ = cc in no

first_of_two : (a b : Kinds) → or_else a b ≡ [] → a ≡ []
first_of_two [] b e = refl
first_of_two (k ∷ ks) b e = e

three : (a b c : Kinds) → or_else (or_else a b) c ≡ or_else a (or_else b c)
three [] b c = refl
three (k ∷ ks) b c = refl

both_pass : (a b : Bool) → (a && b) ≡ true → (a ≡ true) × (b ≡ true)
both_pass true b e = (refl, e)
both_pass false b e = absurd (true≢false (sym e))

module _ (names : List Text) (no_empty : has_option names [] ≡ false) where
  -- the faults at the end of the words, and those of the words left with these
  abbrev ending : Held → Kinds
  ending h = or_else (settle_fault (table names) false h)
      (or_else (defaults_fault (settled (table names) h).rows (table names)) (check_fault (built_shape names) (finished (table names) h) false))

  abbrev pub failing : Walk → List Text → Kinds
  failing w words = or_else (walk_fault (built_shape names) [] w words) (ending (fold (walked (table names) []) w words).held)

  abbrev pub left_rows : Walk → List Text → List Row
  left_rows w words = finished (table names) (fold (walked (table names) []) w words).held

  -- the words left are at fault where they are none of a command's, and else the rows hold them
  abbrev pub Tells : Walk → List Text → Option NamedWords → Type 0
  Tells w words None = failing w words ≡ [] → ⊥
  Tells w words (Some pairs) = (failing w words ≡ []) × Holds pairs (left_rows w words)

  failing_end : (w : Walk) → failing w [] ≡ ending w.held
  unfolding walk_fault
  failing_end w = refl

  failing_next : (w : Walk) (word : Text) (words : List Text)
      → failing w (word ∷ words) ≡ or_else (turn_fault (built_shape names) [] w word) (failing (walked (table names) [] w word) words)
  unfolding walk_fault
  failing_next w word words =
      three (turn_fault (built_shape names) [] w word) (walk_fault (built_shape names) [] (walked (table names) [] w word) words)
      (ending (fold (walked (table names) []) (walked (table names) [] w word) words).held)

  -- a word that isn't at fault, and one that is
  goes_on : (w after : Walk) (word : Text) (words : List Text) (o : Option NamedWords) → turn_fault (built_shape names) [] w word ≡ []
      → walked (table names) [] w word ≡ after → Tells after words o → Tells w (word ∷ words) o
  goes_on w after word words o turn is tells = to_all o tells
    where
      same : failing w (word ∷ words) ≡ failing after words
      same = failing_next w word words ∙ ap (λ k. or_else k (failing (walked (table names) [] w word) words)) turn ∙ ap (λ (v : Walk). failing v words) is

      to_all : (p : Option NamedWords) → Tells after words p → Tells w (word ∷ words) p
      to_all None t = λ e. t (sym same ∙ e)
      to_all (Some pairs) t = (same ∙ t.0, subst (λ (v : Walk). Holds pairs (left_rows v words)) (sym is) t.1)

  breaks : (w : Walk) (word : Text) (words : List Text) → (turn_fault (built_shape names) [] w word ≡ [] → ⊥) → Tells w (word ∷ words) None
  breaks w word words bad = λ e. bad (first_of_two _ (failing (walked (table names) [] w word) words) (sym (failing_next w word words) ∙ e))

  -- ---- where what is pending is at fault, so are the words left

  long_bad : (h : Held) → (settle_fault (table names) false h ≡ [] → ⊥) → (b : Bool) (name : Text) (value : Option Text)
      → long_fault (table names) false (cond b (Some (filled_option name)) None) value h ≡ [] → ⊥
  long_bad h bad false name value e = fault≢none _ _ e
  long_bad h bad true name None e = bad e
  long_bad h bad true name (Some value) e = bad (first_of_two _ _ e)

  long_stuck : (h : Held) (waiting : Waiting) (word : Text) → (settle_fault (table names) false h ≡ [] → ⊥) → IsLong word
      → turn_fault (built_shape names) [] (between h waiting) word ≡ [] → ⊥
  long_stuck h waiting word bad l e =
      long_bad h bad (has_option names (option_name l.text)) (option_name l.text) (option_value l.text)
      (first_of_two _ _ (sym (long_turn_is names h waiting word l) ∙ e))

  word_stuck : (h : Held) (waiting : Waiting) (word : Text) → is_fit word ≡ true → is_open waiting ≡ false → (settle_fault (table names) false h ≡ [] → ⊥)
      → turn_fault (built_shape names) [] (between h waiting) word ≡ [] → ⊥
  word_stuck h waiting word fit free bad = go (is_dashed word) refl
    where
      go : (b : Bool) → is_dashed word ≡ b → turn_fault (built_shape names) [] (between h waiting) word ≡ [] → ⊥
      go false d e = bad (sym (plain_turn names h waiting word free (plain_is word d)) ∙ e)
      go true d e = long_stuck h waiting word bad (long_is word d fit) e

  stuck : (words : List Text) (h : Held) (waiting : Waiting) → list_all is_fit words ≡ true → is_open waiting ≡ false
      → (settle_fault (table names) false h ≡ [] → ⊥) → Tells (between h waiting) words None
  stuck [] h waiting fit free bad = λ e. bad (first_of_two _ _ (sym (failing_end (between h waiting)) ∙ e))
  stuck (word ∷ words) h waiting fit free bad =
      breaks (between h waiting) word words (word_stuck h waiting word (both_pass _ _ fit).0 free bad)

  -- ---- where the walk stands, by the words so far

  -- no option waits: what is pending is not at fault, and the rows then hold the words; or an option waits
  abbrev pub Stands : NamedWords → Option Text → Held → Waiting → Type 0
  Stands pairs None h waiting = (is_open waiting ≡ false) × (settle_fault (table names) false h ≡ []) × Holds pairs (settled (table names) h).rows
  Stands pairs (Some name) h waiting =
      (waiting ≡ option_waits name) × (has_option names name ≡ true) × (h ≡ opened name [] h.rows h.skip) × Holds pairs h.rows

  abbrev pub Told : List Text → Type 0
  Told words = (pairs : NamedWords) (waits : Option Text) (h : Held) (waiting : Waiting) → Stands pairs waits h waiting
      → Tells (between h waiting) words (words_left names pairs waits words)

  abbrev left_after : List Text → Option (NamedWords × Option Text) → Option NamedWords
  left_after words o = option_and_then (λ (next : NamedWords × Option Text). words_left names next.0 next.1 words) o

  by_next : (w : Walk) (pairs : NamedWords) (waits : Option Text) (word : Text) (words : List Text) (o : Option (NamedWords × Option Text)) → word_behind names pairs waits word ≡ o
      → Tells w (word ∷ words) (left_after words o) → Tells w (word ∷ words) (words_left names pairs waits (word ∷ words))
  by_next w pairs waits word words o is tells = subst (λ (p : Option NamedWords). Tells w (word ∷ words) p) (ap (left_after words) (sym is)) tells

  -- ---- at the end

  ended : (pairs : NamedWords) (h : Held) (waiting : Waiting) → settle_fault (table names) false h ≡ [] → Holds pairs (settled (table names) h).rows
      → Tells (between h waiting) [] (Some pairs)
  ended pairs h waiting calm holds = (
    failing_end (between h waiting)
        ∙ ap (λ k. or_else k (or_else (defaults_fault (settled (table names) h).rows (table names)) (check_fault (built_shape names) (finished (table names) h) false))) calm
        ∙ ap (λ k. or_else k (check_fault (built_shape names) (finished (table names) h) false)) (no_default_fault (settled (table names) h).rows names)
        ∙ no_check_fault (finished (table names) h) names,
    subst (Holds pairs) (sym (finished_is names h)) holds,
  )

  open_bad : (h : Held) (name : Text) → has_option names name ≡ true → h ≡ opened name [] h.rows h.skip → settle_fault (table names) false h ≡ [] → ⊥
  open_bad h name there is e =
      fault≢none _ _ (sym (no_value names h.rows h.skip name no_empty there) ∙ ap (settle_fault (table names) false) (sym is) ∙ e)

  at_end : Told []
  at_end pairs None h waiting s = ended pairs h waiting s.1 s.2
  at_end pairs (Some name) h waiting s = λ e. open_bad h name s.1 s.2 (first_of_two _ _ (sym (failing_end (between h waiting)) ∙ e))

  -- ---- a word

  plain_next : (pairs : NamedWords) (h : Held) (waiting : Waiting) (word : Text) (words : List Text) → is_dashed word ≡ false → Stands pairs None h waiting → Told words
      → Tells (between h waiting) (word ∷ words) (words_left names pairs None (word ∷ words))
  plain_next pairs h waiting word words d s later =
      let plain = plain_is word d in
      let next : word_behind names pairs None word ≡ Some (no_option_waits (pairs ++ ([], word) ∷ [])) = rw d refl in
      let holds : Holds (pairs ++ ([], word) ∷ []) (settled (table names) (with_plain names word h)).rows =
      subst (Holds (pairs ++ ([], word) ∷ [])) (sym (plain_rows names h word))
      (one_more_held pairs (settled (table names) h).rows (reading_by filled_plain) [] word s.2) in
      by_next (between h waiting) pairs None word words _ next
      (goes_on (between h waiting) (between (with_plain names word h) positional) word words _
      (plain_turn names h waiting word s.0 plain ∙ s.1) (plain_walked names h waiting word s.0 plain)
      (later (pairs ++ ([], word) ∷ []) None (with_plain names word h) positional (refl, plain_settles names h word, holds)))

  -- an option with its value stands once at most
  once_holds : (pairs : NamedWords) (rows : List Row) (name value : Text) → has_value pairs name ≡ false → Holds pairs rows
      → Holds (pairs ++ (name, value) ∷ []) (valued name value rows)
  once_holds pairs rows name value new holds =
      one_more_held pairs _ (reading_by (filled_option name)) name value
      (subst (Holds pairs) (sym (none_goes name rows (row_has_value pairs rows name holds ∙ new))) holds)

  -- the value of an option that waits for it
  value_next : (pairs : NamedWords) (h : Held) (name word : Text) (words : List Text) → list_all is_fit words ≡ true → is_dashed word ≡ false
      → has_option names name ≡ true → h ≡ opened name [] h.rows h.skip → Holds pairs h.rows → Told words
      → Tells (between h (option_waits name)) (word ∷ words) (words_left names pairs (Some name) (word ∷ words))
  value_next pairs h name word words fit d there is holds later = go (has_value pairs name) refl
    where
      now : Held
      now = opened name (word ∷ []) h.rows h.skip

      plain : IsPlain word
      plain = plain_is word d

      turn : turn_fault (built_shape names) [] (between h (option_waits name)) word ≡ []
      turn = value_turn names h name word plain

      after : walked (table names) [] (between h (option_waits name)) word ≡ between (opened name (word ∷ []) h.rows h.skip) idle
      after = ap (λ (g : Held). walked (table names) [] (between g (option_waits name)) word) is ∙ value_walked names h.rows h.skip name word no_empty there plain

      same : (b : Bool) → has_value pairs name ≡ b → has_row name h.rows ≡ b
      same b e = row_has_value pairs h.rows name holds ∙ e

      go : (b : Bool) → has_value pairs name ≡ b → Tells (between h (option_waits name)) (word ∷ words) (words_left names pairs (Some name) (word ∷ words))
      go true e =
          let next : word_behind names pairs (Some name) word ≡ None = rw (d, e) refl in
          by_next (between h (option_waits name)) pairs (Some name) word words None next
          (goes_on (between h (option_waits name)) (between (opened name (word ∷ []) h.rows h.skip) idle) word words None turn after
          (stuck words (opened name (word ∷ []) h.rows h.skip) idle fit refl
          (λ f. fault≢none _ _ (sym (used_twice name word h.rows (same true e)) ∙ sym (valued_settles names h.rows h.skip name word no_empty there) ∙ f))))
      go false e =
          let next : word_behind names pairs (Some name) word ≡ Some (no_option_waits (pairs ++ (name, word) ∷ [])) = rw (d, e) refl in
          let rows : Holds (pairs ++ (name, word) ∷ []) (settled (table names) (opened name (word ∷ []) h.rows h.skip)).rows =
          subst (Holds (pairs ++ (name, word) ∷ [])) (sym (valued_rows names h.rows h.skip name word no_empty there)) (once_holds pairs h.rows name word e holds) in
          by_next (between h (option_waits name)) pairs (Some name) word words _ next
          (goes_on (between h (option_waits name)) (between (opened name (word ∷ []) h.rows h.skip) idle) word words _ turn after
          (later (pairs ++ (name, word) ∷ []) None (opened name (word ∷ []) h.rows h.skip) idle
          (refl, valued_settles names h.rows h.skip name word no_empty there ∙ used_once name word h.rows (same false e), rows)))

  -- a word with `-` in front while an option waits
  dashed_bad : (pairs : NamedWords) (h : Held) (waiting : Waiting) (name word : Text) (words : List Text) → is_fit word ≡ true → is_dashed word ≡ true
      → has_option names name ≡ true → h ≡ opened name [] h.rows h.skip → Tells (between h waiting) (word ∷ words) (words_left names pairs (Some name) (word ∷ words))
  dashed_bad pairs h waiting name word words fit d there is =
      let next : word_behind names pairs (Some name) word ≡ None = rw d refl in
      by_next (between h waiting) pairs (Some name) word words None next
      (breaks (between h waiting) word words (long_stuck h waiting word (open_bad h name there is) (long_is word d fit)))

  -- an option
  module _ (pairs : NamedWords) (h : Held) (waiting : Waiting) (word : Text) (words : List Text) (s : Stands pairs None h waiting) (later : Told words) (l : IsLong word) where
    unknown_next : has_option names (option_name l.text) ≡ false → Tells (between h waiting) (word ∷ words) (left_after words (named_option names pairs (option_name l.text) (option_value l.text)))
    unknown_next none =
        let next : named_option names pairs (option_name l.text) (option_value l.text) ≡ None = rw none refl in
        let turn : turn_fault (built_shape names) [] (between h waiting) word ≡ long_turn names h waiting word None (option_value l.text) =
        long_turn_is names h waiting word l ∙ ap (λ b. long_turn names h waiting word (cond b (Some (filled_option (option_name l.text))) None) (option_value l.text)) none in
        subst (λ (o : Option (NamedWords × Option Text)). Tells (between h waiting) (word ∷ words) (left_after words o)) (sym next)
        (breaks (between h waiting) word words (λ e. fault≢none _ _ (sym turn ∙ e)))

    known_turn : has_option names (option_name l.text) ≡ true → (value : Option Text) → option_value l.text ≡ value
        → turn_fault (built_shape names) [] (between h waiting) word ≡ long_turn names h waiting word (Some (filled_option (option_name l.text))) value
    known_turn there value is =
        long_turn_is names h waiting word l ∙ ap (λ b. long_turn names h waiting word (cond b (Some (filled_option (option_name l.text))) None) (option_value l.text)) there
        ∙ ap (long_turn names h waiting word (Some (filled_option (option_name l.text)))) is

    known_walk : has_option names (option_name l.text) ≡ true → (value : Option Text) → option_value l.text ≡ value
        → walked (table names) [] (between h waiting) word ≡ long_walk names h waiting word (Some (filled_option (option_name l.text))) value
    known_walk there value is =
        long_walk_is names h waiting word l ∙ ap (λ b. long_walk names h waiting word (cond b (Some (filled_option (option_name l.text))) None) (option_value l.text)) there
        ∙ ap (long_walk names h waiting word (Some (filled_option (option_name l.text)))) is

    -- its value is in the next word
    opens : has_option names (option_name l.text) ≡ true → option_value l.text ≡ None → Tells (between h waiting) (word ∷ words) (words_left names pairs (Some (option_name l.text)) words)
    opens there is =
        goes_on (between h waiting) (between (opened (option_name l.text) [] (settled (table names) h).rows h.skip) (option_waits (option_name l.text))) word words _
        (known_turn there None is ∙ ap (λ k. or_else k []) s.1) (known_walk there None is)
        (later pairs (Some (option_name l.text)) (opened (option_name l.text) [] (settled (table names) h).rows h.skip) (option_waits (option_name l.text)) (refl, there, refl, s.2))

    -- its value is in the same word
    valued_turn : has_option names (option_name l.text) ≡ true → (value : Text) → option_value l.text ≡ Some value
        → turn_fault (built_shape names) [] (between h waiting) word ≡ or_else (use_fault false (filled_option (option_name l.text)) (value ∷ []) (settled (table names) h).rows) []
    valued_turn there value is =
        known_turn there (Some value) is
        ∙ ap (λ k. or_else (or_else k (use_fault false (filled_option (option_name l.text)) (value ∷ []) (settled (table names) h).rows)) []) s.1

    has_its_value : has_option names (option_name l.text) ≡ true → (value : Text) → option_value l.text ≡ Some value → (b : Bool) → has_value pairs (option_name l.text) ≡ b
        → Tells (between h waiting) (word ∷ words) (left_after words (option_met pairs (option_name l.text) (Some value)))
    has_its_value there value is true e =
        let next : option_met pairs (option_name l.text) (Some value) ≡ None = rw e refl in
        let row = row_has_value pairs (settled (table names) h).rows (option_name l.text) s.2 ∙ e in
        subst (λ (o : Option (NamedWords × Option Text)). Tells (between h waiting) (word ∷ words) (left_after words o)) (sym next)
        (breaks (between h waiting) word words
        (λ f. fault≢none _ _ (sym (used_twice (option_name l.text) value (settled (table names) h).rows row) ∙ first_of_two _ _ (sym (valued_turn there value is) ∙ f))))
    has_its_value there value is false e =
        let next : option_met pairs (option_name l.text) (Some value) ≡ Some (no_option_waits (pairs ++ (option_name l.text, value) ∷ [])) = rw e refl in
        let row = row_has_value pairs (settled (table names) h).rows (option_name l.text) s.2 ∙ e in
        subst (λ (o : Option (NamedWords × Option Text)). Tells (between h waiting) (word ∷ words) (left_after words o)) (sym next)
        (goes_on (between h waiting) (between (with_valued names (option_name l.text) value h) idle) word words _
        (valued_turn there value is ∙ ap (λ k. or_else k []) (used_once (option_name l.text) value (settled (table names) h).rows row)) (known_walk there (Some value) is)
        (later (pairs ++ (option_name l.text, value) ∷ []) None (with_valued names (option_name l.text) value h) idle
        (refl, refl, once_holds pairs (settled (table names) h).rows (option_name l.text) value e s.2)))

    met_next : has_option names (option_name l.text) ≡ true → (value : Option Text) → option_value l.text ≡ value
        → Tells (between h waiting) (word ∷ words) (left_after words (option_met pairs (option_name l.text) value))
    met_next there None is = opens there is
    met_next there (Some value) is = has_its_value there value is (has_value pairs (option_name l.text)) refl

    named_next : (b : Bool) → has_option names (option_name l.text) ≡ b
        → Tells (between h waiting) (word ∷ words) (left_after words (named_option names pairs (option_name l.text) (option_value l.text)))
    named_next false e = unknown_next e
    named_next true e =
        let next : named_option names pairs (option_name l.text) (option_value l.text) ≡ option_met pairs (option_name l.text) (option_value l.text) = rw e refl in
        subst (λ (o : Option (NamedWords × Option Text)). Tells (between h waiting) (word ∷ words) (left_after words o)) (sym next) (met_next e (option_value l.text) refl)

  option_next : (pairs : NamedWords) (h : Held) (waiting : Waiting) (word : Text) (words : List Text) → is_fit word ≡ true → is_dashed word ≡ true → Stands pairs None h waiting → Told words
      → Tells (between h waiting) (word ∷ words) (words_left names pairs None (word ∷ words))
  option_next pairs h waiting word words fit d s later =
      let l = long_is word d fit in
      let next : word_behind names pairs None word ≡ named_option names pairs (option_name l.text) (option_value l.text) = rw (d, l.behind) refl in
      by_next (between h waiting) pairs None word words _ next (named_next pairs h waiting word words s later l (has_option names (option_name l.text)) refl)

  -- one more word
  free_next : (pairs : NamedWords) (h : Held) (waiting : Waiting) (word : Text) (words : List Text) → is_fit word ≡ true → Stands pairs None h waiting → Told words
      → (b : Bool) → is_dashed word ≡ b → Tells (between h waiting) (word ∷ words) (words_left names pairs None (word ∷ words))
  free_next pairs h waiting word words fit s later true d = option_next pairs h waiting word words fit d s later
  free_next pairs h waiting word words fit s later false d = plain_next pairs h waiting word words d s later

  open_next : (pairs : NamedWords) (h : Held) (waiting : Waiting) (name word : Text) (words : List Text) → is_fit word ≡ true → list_all is_fit words ≡ true
      → Stands pairs (Some name) h waiting → Told words
      → (b : Bool) → is_dashed word ≡ b → Tells (between h waiting) (word ∷ words) (words_left names pairs (Some name) (word ∷ words))
  open_next pairs h waiting name word words fit all s later true d = dashed_bad pairs h waiting name word words fit d s.1 s.2
  open_next pairs h waiting name word words fit all s later false d =
      subst (λ (w : Waiting). Tells (between h w) (word ∷ words) (words_left names pairs (Some name) (word ∷ words))) (sym s.0)
      (value_next pairs h name word words all d s.1 s.2 s.3 later)

  next_told : (word : Text) (words : List Text) → is_fit word ≡ true → list_all is_fit words ≡ true → Told words → Told (word ∷ words)
  next_told word words fit all later pairs None h waiting s = free_next pairs h waiting word words fit s later (is_dashed word) refl
  next_told word words fit all later pairs (Some name) h waiting s = open_next pairs h waiting name word words fit all s later (is_dashed word) refl

  all_told : (words : List Text) → list_all is_fit words ≡ true → Told words
  all_told [] fit = at_end
  all_told (word ∷ words) fit =
      let both = both_pass _ _ fit in
      next_told word words both.0 both.1 (all_told words both.1)

  -- all the words
  pub words_told : (words : List Text) → list_all is_fit words ≡ true → Tells (walk_from nothing_held) words (words_left names [] None words)
  words_told words fit = all_told words fit [] None nothing_held idle (refl, refl, nothing_held_yet)
