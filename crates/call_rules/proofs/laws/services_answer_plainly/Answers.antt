use Rattle.call_rules.proofs.Plainness.{new_services_are_kept, services_are_kept, answers_are_plain}
use Rattle.call_rules.proofs.laws.services_answer_plainly.Goals as goal

pub returns : goal.returns
returns c = record { first = new_services_are_kept; kept = services_are_kept; plain = answers_are_plain }
