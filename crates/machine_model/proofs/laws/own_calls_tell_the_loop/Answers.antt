use Rattle.machine_model.proofs.Minding.{collects_own, numbers, all_numbers, may_submit, answered_is_own}
use Rattle.machine_model.proofs.laws.own_calls_tell_the_loop.Goals as goal

pub returns-clause-own : goal.returns-clause-own
returns-clause-own g c r opening log history allowed = collects_own r opening log history allowed

pub returns-clause-numbers : goal.returns-clause-numbers
returns-clause-numbers g c max weave loop woven own number = numbers max weave loop woven own number

pub returns-clause-all : goal.returns-clause-all
returns-clause-all g c max weave loop woven own = all_numbers max weave loop woven own

pub returns-clause-may : goal.returns-clause-may
returns-clause-may g c max r opening weave loop next key payload answer woven own within behind none asks = may_submit max r opening weave loop next key payload answer woven own within behind none asks

pub returns-clause-answered : goal.returns-clause-answered
returns-clause-answered g c max weave loop key settled woven own = answered_is_own max weave loop key settled woven own
