-- What clap makes of one word.
use Rattle.std.proofs.Common.{◌≡◌, ◌∙◌, ℕ, Bool, cond, true, false, ◌&&◌, List, [], ◌∷◌, Option, Some, None, refl, ap, true≢false}
use Rattle.std.specs.Option.{option_map_or}
use Rattle.std.specs.Str.{bytes_eq}
use Rattle.clap.specs.Kinds.{Kinds, or_else}
use Rattle.clap.specs.declared.error.kind.ErrorKind.TheVariants.{ArgumentConflict}
use Rattle.clap.specs.declared.parser.matches.ValueSource.TheVariants.{CommandLine}
use Rattle.clap.specs.Walk.{Held, Row, Rule, Text, Waiting, Walk, idle, positional, after_flag, after_step, arg_by_long, has_row, long_met, reading_by, settled, walked, with_values, without}
use Rattle.clap.specs.Walk.{option as option_waits}
use Rattle.clap.specs.Faults.{long_fault, settle_fault, step_fault, turn_fault, use_fault}
use Rattle.command_line.specs.Options.{has_option, option_name, option_value}
use Rattle.command_line.proofs.Fitness.{IsLong, IsPlain}
use Rattle.command_line.proofs.Rows.{is_itself}
use Rattle.command_line.proofs.Table.{built_shape, by_id, by_long, filled_option, filled_plain, table}

-- where the walk stands between two words
abbrev pub between : Held → Waiting → Walk
between h waiting = record { held = h; waiting = waiting; position = 1; is_trailing = false; stopped = None }

-- whether an option waits for its value
abbrev pub is_open : Waiting → Bool
is_open (option_waits name) = true
is_open _ = false

-- what is held after a word that is no option
abbrev pub with_plain : List Text → Text → Held → Held
with_plain names word h = record { rows = (settled (table names) h).rows; pending = Some ([], word ∷ []); skip = h.skip }

-- what is held after an option with its value
abbrev pub valued : Text → Text → List Row → List Row
valued name value rows = with_values name (reading_by (filled_option name)) CommandLine (value ∷ []) (without name rows)

abbrev pub with_valued : List Text → Text → Text → Held → Held
with_valued names name value h = record { rows = valued name value (settled (table names) h).rows; pending = None; skip = h.skip }

-- what is held after an option without its value, and with it
abbrev pub opened : Text → List Text → List Row → ℕ → Held
opened name values rows skip = record { rows = rows; pending = Some (name, values); skip = skip }

and_never : (b : Bool) → (b && false) ≡ false
and_never true = refl
and_never false = refl

-- ---- a word that is no option

pub plain_turn : (names : List Text) (h : Held) (waiting : Waiting) (word : Text) → is_open waiting ≡ false → IsPlain word
    → turn_fault (built_shape names) [] (between h waiting) word ≡ settle_fault (table names) false h
plain_turn names h idle word free p = rw (p.no_end, p.no_long, p.no_short, and_never (option_map_or (λ (q : Text × List Text). bytes_eq q.0 []) h.pending false)) refl
plain_turn names h positional word free p = rw (p.no_end, p.no_long, p.no_short, and_never (option_map_or (λ (q : Text × List Text). bytes_eq q.0 []) h.pending false)) refl
plain_turn names h (option_waits name) word free p = absurd (true≢false free)

pub plain_walked : (names : List Text) (h : Held) (waiting : Waiting) (word : Text) → is_open waiting ≡ false → IsPlain word
    → walked (table names) [] (between h waiting) word ≡ between (with_plain names word h) positional
unfolding walked
plain_walked names h idle word free p = rw (p.no_end, p.no_long, p.no_short, and_never (option_map_or (λ (q : Text × List Text). bytes_eq q.0 []) h.pending false)) refl
plain_walked names h positional word free p = rw (p.no_end, p.no_long, p.no_short, and_never (option_map_or (λ (q : Text × List Text). bytes_eq q.0 []) h.pending false)) refl
plain_walked names h (option_waits name) word free p = absurd (true≢false free)

-- the word itself is never at fault
pub plain_settles : (names : List Text) (h : Held) (word : Text) → settle_fault (table names) false (with_plain names word h) ≡ []
plain_settles names h word = refl

pub plain_rows : (names : List Text) (h : Held) (word : Text)
    → (settled (table names) (with_plain names word h)).rows ≡ with_values [] (reading_by filled_plain) CommandLine (word ∷ []) (settled (table names) h).rows
plain_rows names h word = refl

-- ---- the value of an option that waits for it

pub value_turn : (names : List Text) (h : Held) (name word : Text) → IsPlain word → turn_fault (built_shape names) [] (between h (option_waits name)) word ≡ []
value_turn names h name word p = rw (p.no_end, p.no_long, p.no_short) refl

pub value_walked : (names : List Text) (rows : List Row) (skip : ℕ) (name word : Text) → has_option names [] ≡ false → has_option names name ≡ true → IsPlain word
    → walked (table names) [] (between (opened name [] rows skip) (option_waits name)) word ≡ between (opened name (word ∷ []) rows skip) idle
unfolding walked
value_walked names rows skip name word no_empty there p = rw (p.no_end, p.no_long, p.no_short, by_id names name no_empty there, is_itself name) refl

-- an option that has its value, and one that has none
pub valued_settles : (names : List Text) (rows : List Row) (skip : ℕ) (name word : Text) → has_option names [] ≡ false → has_option names name ≡ true
    → settle_fault (table names) false (opened name (word ∷ []) rows skip) ≡ use_fault false (filled_option name) (word ∷ []) rows
valued_settles names rows skip name word no_empty there = ap (λ o. option_map_or (λ (a : Rule). use_fault false a (word ∷ []) rows) o []) (by_id names name no_empty there)

pub valued_rows : (names : List Text) (rows : List Row) (skip : ℕ) (name word : Text) → has_option names [] ≡ false → has_option names name ≡ true
    → (settled (table names) (opened name (word ∷ []) rows skip)).rows ≡ valued name word rows
valued_rows names rows skip name word no_empty there = rw (by_id names name no_empty there) refl

pub no_value : (names : List Text) (rows : List Row) (skip : ℕ) (name : Text) → has_option names [] ≡ false → has_option names name ≡ true
    → settle_fault (table names) false (opened name [] rows skip) ≡ use_fault false (filled_option name) [] rows
no_value names rows skip name no_empty there = ap (λ o. option_map_or (λ (a : Rule). use_fault false a [] rows) o []) (by_id names name no_empty there)

pub used_once : (name value : Text) (rows : List Row) → has_row name rows ≡ false → use_fault false (filled_option name) (value ∷ []) rows ≡ []
used_once name value rows none = rw none refl

pub used_twice : (name value : Text) (rows : List Row) → has_row name rows ≡ true → use_fault false (filled_option name) (value ∷ []) rows ≡ ArgumentConflict ∷ []
used_twice name value rows there = rw there refl

-- ---- an option

abbrev pub long_turn : List Text → Held → Waiting → Text → Option Rule → Option Text → Kinds
long_turn names h waiting word found value =
    or_else (long_fault (table names) false found value h)
    (step_fault (built_shape names) 1
    (after_flag (table names) waiting word (long_met (table names) found value h).0 (long_met (table names) found value h).1).0
    (after_flag (table names) waiting word (long_met (table names) found value h).0 (long_met (table names) found value h).1).1)

abbrev pub long_walk : List Text → Held → Waiting → Text → Option Rule → Option Text → Walk
long_walk names h waiting word found value =
    after_step (table names) word (between h waiting)
    (after_flag (table names) waiting word (long_met (table names) found value h).0 (long_met (table names) found value h).1).0
    (after_flag (table names) waiting word (long_met (table names) found value h).0 (long_met (table names) found value h).1).1

-- the option of a name, if the command has it
abbrev pub option_of : List Text → Text → Option Rule
option_of names name = cond (has_option names name) (Some (filled_option name)) None

pub long_turn_is : (names : List Text) (h : Held) (waiting : Waiting) (word : Text) (l : IsLong word)
    → turn_fault (built_shape names) [] (between h waiting) word ≡ long_turn names h waiting word (option_of names (option_name l.text)) (option_value l.text)
long_turn_is names h waiting word l =
    met waiting ∙ ap (λ o. long_turn names h waiting word o (option_value l.text)) (by_long names (option_name l.text))
  where
    met : (waits : Waiting) → turn_fault (built_shape names) [] (between h waits) word ≡ long_turn names h waits word (arg_by_long (table names) (option_name l.text)) (option_value l.text)
    met idle = rw (l.no_end, l.long) refl
    met positional = rw (l.no_end, l.long) refl
    met (option_waits name) = rw (l.no_end, l.long) refl

pub long_walk_is : (names : List Text) (h : Held) (waiting : Waiting) (word : Text) (l : IsLong word)
    → walked (table names) [] (between h waiting) word ≡ long_walk names h waiting word (option_of names (option_name l.text)) (option_value l.text)
unfolding walked
long_walk_is names h waiting word l =
    met waiting ∙ ap (λ o. long_walk names h waiting word o (option_value l.text)) (by_long names (option_name l.text))
  where
    met : (waits : Waiting) → walked (table names) [] (between h waits) word ≡ long_walk names h waits word (arg_by_long (table names) (option_name l.text)) (option_value l.text)
    met idle = rw (l.no_end, l.long) refl
    met positional = rw (l.no_end, l.long) refl
    met (option_waits name) = rw (l.no_end, l.long) refl
