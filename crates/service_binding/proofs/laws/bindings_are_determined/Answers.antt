use Rattle.std.proofs.Common.{[]}
use Rattle.service_binding.proofs.Determined.{one_way}
use Rattle.service_binding.proofs.laws.bindings_are_determined.Goals as goal

pub returns : goal.returns
returns c = λ s services pairs bindings others bound taken. one_way s services [] pairs bindings others bound taken
