use Rattle.std.proofs.Common.{true, map}
use Rattle.script_text.specs.Printing.{said_text, said_in}
use Rattle.script_text.proofs.Standing.{plan_stands}
use Rattle.script_text.proofs.AllEnding.{lets_all_end, ends_behind}
use Rattle.script_text.proofs.laws.kept_scripts_let_all_end.Goals as goal

pub returns-clause-ends : goal.returns-clause-ends
returns-clause-ends c = λ script back. lets_all_end 8 true true script (plan_stands 8 true true (map said_text (said_in script)) script back)

pub returns-clause-pieces : goal.returns-clause-pieces
returns-clause-pieces c = λ script back. ends_behind 8 true true script (plan_stands 8 true true (map said_text (said_in script)) script back)
