use Rattle.std.proofs.Common.{refl}
use Rattle.call_rules.specs.StoreRule.{memory_with, get_answered, put_answered, swap_answered, forget_answered}
use Rattle.call_rules.proofs.examples.store_answers.Goals as goal

pub returns-clause-nothing : goal.returns-clause-nothing
unfolding get_answered
returns-clause-nothing c = refl

pub returns-clause-put : goal.returns-clause-put
unfolding put_answered memory_with
returns-clause-put c = refl

pub returns-clause-found : goal.returns-clause-found
unfolding get_answered
returns-clause-found c = refl

pub returns-clause-swapped : goal.returns-clause-swapped
unfolding swap_answered memory_with
returns-clause-swapped c = refl

pub returns-clause-in_order : goal.returns-clause-in_order
unfolding put_answered memory_with
returns-clause-in_order c = refl

pub returns-clause-keys : goal.returns-clause-keys
returns-clause-keys c = refl

pub returns-clause-forgotten : goal.returns-clause-forgotten
unfolding forget_answered
returns-clause-forgotten c = refl

pub returns-clause-absent : goal.returns-clause-absent
unfolding put_answered
returns-clause-absent c = refl
