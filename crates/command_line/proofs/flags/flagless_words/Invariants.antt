use Rattle.std.proofs.Common.{◌≡◌, ◌++◌, List, ℕ, drop, map, string_bytes}
use Rattle.std.specs.Prelude.{option_map}
use Rattle.command_line.specs.Flagless.{flagless_words}
use Rattle.command_line.specs.Lent.{lent_words}
use Rattle.command_line.proofs.flags.flagless_words.Given as goal

-- the words made so far, and those that the words left become, are what all words become
abbrev pub invariant-loop-word : goal.invariant-loop-word
invariant-loop-word l =
    option_map (λ (more : List (List ℕ)). map string_bytes l.made.items ++ more) (flagless_words (lent_words l.flags) (map string_bytes (drop l.word-index l.words)))
    ≡ flagless_words (lent_words l.flags) (map string_bytes l.words)
