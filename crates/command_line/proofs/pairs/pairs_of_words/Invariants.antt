use Rattle.std.proofs.Common.{◌≡◌, ◌++◌, List, drop}
use Rattle.std.specs.Prelude.{option_map}
use Rattle.command_line.specs.Lent.{lent_words}
use Rattle.service_binding.specs.Pairs.{NamedKind}
use Rattle.command_line.specs.CommandPairs.{pairs_of_words}
use Rattle.command_line.proofs.pairs.pairs_of_words.Given as goal

-- the pairs so far, and those that the words left are, are what all words are
abbrev pub invariant-loop-word : goal.invariant-loop-word
invariant-loop-word l =
    option_map (λ (more : List NamedKind). l.pairs.items ++ more) (pairs_of_words (lent_words (drop l.word-index l.words))) ≡ pairs_of_words (lent_words l.words)
