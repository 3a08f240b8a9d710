-- Steps of the top call on the way to what it promises. No clause of `host` cites them.
use Rattle.std.specs.Prelude.{List, Option}
use Rattle.call_rules.specs.Handling.{ServiceState}
use Rattle.command_line.specs.Words.{PlainCommand}
use Rattle.thrift_host.specs.declared.status.Status.{Status}
use Rattle.thrift_host.specs.Counts.{CountsTell}
use Rattle.thrift_host.specs.Surroundings.{Surroundings, change_between, dialled_between, errors_between}
use Rattle.thrift_host.specs.Top.{Means, MeansCalled, Says, KeepsPlace}

-- how a command ended, by what its words are: what `host` promises, but that it is complete
pub record EndsCommand (command : Option PlainCommand) (handlers : List ServiceState) (before after : Surroundings) (status : Status) : Type 0 where
  pub means : Means command handlers status (change_between before after)
  pub said : Says command handlers status (change_between before after) (errors_between before after)
  pub called : MeansCalled command before.files.held status (dialled_between before after) (errors_between before after)
  pub kept : KeepsPlace command (change_between before after).place
  pub counts : CountsTell before after command status
