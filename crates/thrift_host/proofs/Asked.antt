-- What is said of a command is said of the words that are it.
use Rattle.std.proofs.Common.{◌≡◌, ℕ, List, Option, Some, sym, subst}
use Rattle.call_rules.specs.Handling.{ServiceState}
use Rattle.command_line.specs.Words.{PlainCommand, checks}
use Rattle.thrift_host.specs.declared.status.Status.{Status}
use Rattle.thrift_host.specs.Checks.{MeansCheck, SaysCheck}
use Rattle.thrift_host.specs.CommandSteps.{EndsCommand}
use Rattle.thrift_host.specs.Counts.{CountsTell}
use Rattle.thrift_host.specs.Serving.{IsPlaceKept}
use Rattle.thrift_host.specs.Surroundings.{Surroundings, streams_between, place_between, dialled_between, errors_between}

pub ends_asked : (words : Option PlainCommand) (command : PlainCommand) (handlers : List ServiceState) (before after : Surroundings) (ended : Status) → words ≡ Some command
    → EndsCommand (Some command) handlers before after ended → EndsCommand words handlers before after ended
ends_asked words command handlers before after ended is h = subst (λ w. EndsCommand w handlers before after ended) (sym is) h

-- a check, whose name was lent
pub ends_check : (idl lent : List ℕ) (handlers : List ServiceState) (before after : Surroundings) (ended : Status) → lent ≡ idl
    → MeansCheck before.files.held lent ended (streams_between before after) → SaysCheck before.files.held lent ended (errors_between before after) → IsPlaceKept (place_between before after)
    → (dialled_between before after).dialled ≡ (dialled_between before after).dialled_before → CountsTell before after (Some (checks idl)) ended → EndsCommand (Some (checks idl)) handlers before after ended
ends_check idl lent handlers before after ended same means says place called counts =
    record {
      means = subst (λ i. MeansCheck before.files.held i ended (streams_between before after)) same means;
      said = subst (λ i. SaysCheck before.files.held i ended (errors_between before after)) same says;
      called = called;
      kept = place;
      counts = counts;
    }
