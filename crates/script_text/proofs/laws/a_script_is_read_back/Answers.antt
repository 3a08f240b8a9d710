use Rattle.std.proofs.Common.{true}
use Rattle.script_text.specs.TextLines.{text_lines}
use Rattle.script_text.proofs.ReadBack.{plan_read_back, plan_is_script, plan_unscheduled, print_read, lines_read}
use Rattle.script_text.proofs.laws.a_script_is_read_back.Goals as goal

pub returns-clause-read : goal.returns-clause-read
returns-clause-read c = λ workers schedule rest text script is short.
    print_read workers schedule rest script (plan_read_back workers schedule rest (text_lines text) script (lines_read workers schedule rest text script is)) short

pub returns-clause-kept : goal.returns-clause-kept
returns-clause-kept c = λ script kept short. print_read 8 true true script kept short

pub returns-clause-sound : goal.returns-clause-sound
returns-clause-sound c = λ workers schedule rest text script within is.
    plan_is_script workers schedule rest (text_lines text) script within (lines_read workers schedule rest text script is)

pub returns-clause-unscheduled : goal.returns-clause-unscheduled
returns-clause-unscheduled c = λ workers schedule rest script kept quiet moving short.
    print_read workers schedule rest script (plan_unscheduled workers schedule rest script kept quiet moving) short
