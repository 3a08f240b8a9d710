use Rattle.hall_pool.proofs.Adding.{at_work_first, of_turns, at_work_behind, of_run, at_work_behind_run}
use Rattle.hall_pool.proofs.laws.turns_add_up.Goals as goal

pub returns-clause-none : goal.returns-clause-none
returns-clause-none c desk = at_work_first desk

pub returns-clause-turn : goal.returns-clause-turn
returns-clause-turn c desk old new turn work a = (of_turns desk old new turn work a, λ other. at_work_behind desk old new turn work a other)

pub returns-clause-run : goal.returns-clause-run
returns-clause-run c desk old new turn work a = (of_run desk old new turn work a, λ other. at_work_behind_run desk old new turn work a other)
