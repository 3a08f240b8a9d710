use Rattle.script_text.specs.TextLines.{text_lines}
use Rattle.script_text.proofs.ReadBack.{lines_read}
use Rattle.script_text.proofs.Standing.{plan_stands}
use Rattle.script_text.proofs.Soundness.{sound, workers_by}
use Rattle.script_text.proofs.laws.scripts_are_sound.Goals as goal

pub returns-clause-sound : goal.returns-clause-sound
returns-clause-sound c = sound

pub returns-clause-workers : goal.returns-clause-workers
returns-clause-workers c = λ workers schedule rest text script is. workers_by workers schedule rest script (plan_stands workers schedule rest (text_lines text) script (lines_read workers schedule rest text script is))
