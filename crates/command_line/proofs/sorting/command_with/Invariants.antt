use Rattle.std.proofs.Common.{◌≡◌, drop}
use Rattle.clap.specs.Words.{app_of}
use Rattle.command_line.specs.Clapped.{bare_app, with_options}
use Rattle.command_line.specs.Lent.{lent_words}
use Rattle.command_line.proofs.sorting.command_with.Given as goal

-- the command so far, with the options that are left, is the one with all
abbrev pub invariant-loop-name : goal.invariant-loop-name
invariant-loop-name l = with_options (app_of l.command) (lent_words (drop l.name-index l.names)) ≡ with_options bare_app (lent_words l.names)
