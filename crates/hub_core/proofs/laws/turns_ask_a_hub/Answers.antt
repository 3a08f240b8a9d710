use Rattle.hub_core.proofs.Turns.{of_hub_turns}
use Rattle.hub_core.proofs.laws.turns_ask_a_hub.Goals as goal

pub returns : goal.returns
returns c desk own turns right is = of_hub_turns desk own turns right is
