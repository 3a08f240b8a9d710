use Rattle.std.specs.Prelude.{true, false}
use Rattle.recorded_runs.specs.Answered.{IsRunOfScript, script_for}
use Rattle.recorded_runs.specs.ServedScripts.{IsServedScript, script_to_serve}
use Rattle.recorded_runs.proofs.ManyReports.{one_input_told}
use Rattle.recorded_runs.proofs.laws.a_report_of_an_input_tells_its_run.Goals as goal

pub returns-clause-rehearsed : goal.returns-clause-rehearsed
returns-clause-rehearsed c = λ a input s t text workers small desk lines before other x y.
    one_input_told a desk lines (IsRunOfScript a) small (λ script tape journal causes run. run.headline) (λ script tape journal causes run. run.fed) (script_for a) input s t text
    (λ read script is. (c.scripts_are_sound.ensures.sound script (c.a_script_is_read_back.ensures.sound a.workers true true read script workers is)).few) before other x y

pub returns-clause-served : goal.returns-clause-served
returns-clause-served c = λ a input s t text workers small desk lines before other x y.
    one_input_told a desk lines (IsServedScript a) small (λ script tape journal causes run. run.headline) (λ script tape journal causes run. run.fed) (script_to_serve a) input s t text
    (λ read script is. (c.scripts_are_sound.ensures.sound script (c.a_script_is_read_back.ensures.sound a.workers false true read script workers is)).few) before other x y
