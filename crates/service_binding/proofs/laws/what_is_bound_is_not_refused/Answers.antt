use Rattle.service_binding.proofs.Defaulting.{bound_or_refused_in_all}
use Rattle.service_binding.proofs.laws.what_is_bound_is_not_refused.Goals as goal

pub returns : goal.returns
returns c = bound_or_refused_in_all
