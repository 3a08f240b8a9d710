use Rattle.script_model.proofs.Draining.{some_suffice}
use Rattle.script_model.proofs.Sufficing.{more_suffice}
use Rattle.script_model.proofs.steps.some_steps_suffice.Goals as goal

pub returns-clause-comes : goal.returns-clause-comes
returns-clause-comes g c = λ d r memory budget workers script first open_yet. some_suffice d r memory budget workers script first open_yet

pub returns-clause-more : goal.returns-clause-more
returns-clause-more g c = λ d r memory budget workers script first play fuel more l e. more_suffice d r memory budget workers script first play fuel more l e
