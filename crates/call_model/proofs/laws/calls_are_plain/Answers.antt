use Rattle.call_model.proofs.AsDesk.{known_call, plain_call}
use Rattle.call_model.proofs.laws.calls_are_plain.Goals as goal

pub returns-clause-slot : goal.returns-clause-slot
returns-clause-slot c = λ office payload call sound is. (known_call office sound payload call is).slot

pub returns-clause-plain : goal.returns-clause-plain
returns-clause-plain c = λ office payload call sound. plain_call office sound payload call
