use Rattle.service_binding.proofs.Defaulting.{refused_once_in_all}
use Rattle.service_binding.proofs.laws.refusals_are_determined.Goals as goal

pub returns : goal.returns
returns c = refused_once_in_all
