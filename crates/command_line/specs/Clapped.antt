-- How the words are handed to clap, which only sorts them. No part of what is promised.
use Rattle.std.specs.Prelude.{ℕ, Bool, true, false, not, ◌||◌, List, [], ◌∷◌, codes, Option, Some, unwrap_or}
use Rattle.clap.specs.Words.{App, Rule, Row, all_of, found_of, new_app, new_rule, rows_of, with_rule}
use Rattle.clap.specs.Simple.{on_top}
use Rattle.clap.specs.declared.builder.action.ArgAction.TheVariants.{Set, Append}
use Rattle.command_line.specs.declared.sorting.Sorted.{Sorted}
use Rattle.command_line.specs.Options.{Sayings, behind_dashes, is_dashed}

-- clap takes `-`, `--` and `-x` in ways of its own, so these words don't come to it
abbrev pub has_more : Option (List ℕ) → Bool
has_more (Some (b ∷ _)) = true
has_more _ = false

abbrev pub is_fit : List ℕ → Bool
is_fit word = not (is_dashed word) || has_more (behind_dashes word)

-- the words that are no options
abbrev pub plain_words_rule : Rule
plain_words_rule = record (new_rule []) { action = Some Append }

-- an option
abbrev pub option_rule : List ℕ → Rule
option_rule name = record (new_rule name) { long = Some name; action = Some Set }

-- a command without options of its own
abbrev pub bare_app : App
bare_app = with_rule (on_top (λ s. record s { no_binary_name = true; disable_help_flag = true; disable_version_flag = true }) (new_app (codes "thriftd"))) plain_words_rule

-- a command with options of these names
abbrev pub with_options : App → List (List ℕ) → App
with_options app [] = app
with_options app (name ∷ names) = with_options (with_rule app (option_rule name)) names

-- what the rows hold under each name
abbrev pub row_words : List Row → Sayings
row_words rows name = unwrap_or (all_of name rows) []

-- what sorted words say
abbrev pub sorted_said : Sorted → Sayings
sorted_said sorted = row_words (rows_of (found_of sorted.matches))
