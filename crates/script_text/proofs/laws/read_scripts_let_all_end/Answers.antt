use Rattle.script_text.specs.TextLines.{text_lines}
use Rattle.script_text.proofs.ReadBack.{lines_read}
use Rattle.script_text.proofs.Standing.{plan_stands}
use Rattle.script_text.proofs.AllEnding.{lets_all_end, ends_behind}
use Rattle.script_text.proofs.laws.read_scripts_let_all_end.Goals as goal

pub returns-clause-ends : goal.returns-clause-ends
returns-clause-ends c = λ workers schedule rest text script is. lets_all_end workers schedule rest script (plan_stands workers schedule rest (text_lines text) script (lines_read workers schedule rest text script is))

pub returns-clause-pieces : goal.returns-clause-pieces
returns-clause-pieces c = λ workers schedule rest text script is. ends_behind workers schedule rest script (plan_stands workers schedule rest (text_lines text) script (lines_read workers schedule rest text script is))
