-- What the top call promises.
use Rattle.std.specs.Prelude.{◌≡◌, ◌⊎◌, List, Option}
use Rattle.call_rules.specs.Handling.{ServiceState}
use Rattle.command_line.specs.Words.{PlainCommand}
use Rattle.thrift_host.specs.declared.status.Status.{Status}
use Rattle.thrift_host.specs.declared.status.Status.TheVariants.{Done, NoMemory, ReplyRefused}
use Rattle.thrift_host.specs.Complete.{IsWellAsked}
use Rattle.thrift_host.specs.Counts.{CountsTell, NoneRose}
use Rattle.thrift_host.specs.Surroundings.{Surroundings, change_between, dialled_between, errors_between}
use Rattle.thrift_host.specs.Top.{Means, MeansCalled, Says, KeepsPlace}

-- The program was run on the words of this command, or of none, with these handlers, and came to this status.
pub record Hosts (command : Option PlainCommand) (handlers : List ServiceState) (before after : Surroundings) (status : Status) : Type 0 where
  -- the status means what the command's row says of it, and Usage comes exactly where the words are no command, but for want of memory
  pub means : Means command handlers status (change_between before after)
  -- its line was added to the errors
  pub said : Says command handlers status (change_between before after) (errors_between before after)
  -- what a call says of the port that it dials, and that no other command dials
  pub called : MeansCalled command before.files.held status (dialled_between before after) (errors_between before after)
  -- all commands but `serve` leave the files as they were, and no links come back
  pub kept : KeepsPlace command (change_between before after).place
  -- each fault has its cause, and there was none that the status rules out
  pub counts : CountsTell before after command status
  -- where the words are a command, and what it needs is there and told, it is done unless a count rose or memory ran out; but what comes back of a call may be no answer
  pub complete : IsWellAsked command handlers before → NoneRose before after → (status ≡ Done) ⊎ ((status ≡ ReplyRefused) ⊎ (status ≡ NoMemory))
