use Rattle.std.proofs.Common.{◌≡◌, drop}
use Rattle.command_line.specs.Lent.{lent_words}
use Rattle.command_line.specs.Options.{has_option}
use Rattle.command_line.proofs.flags.is_among.Given as goal

-- it is among the words left if it is among all
abbrev pub invariant-loop-other : goal.invariant-loop-other
invariant-loop-other l = has_option (lent_words (drop l.other-index l.words)) l.word ≡ has_option (lent_words l.words) l.word
