use Rattle.std.proofs.Common.{refl}
use Rattle.call_rules.proofs.examples.mirror_answers.Goals as goal

pub returns-clause-first : goal.returns-clause-first
returns-clause-first c = refl

pub returns-clause-none : goal.returns-clause-none
returns-clause-none c = refl
