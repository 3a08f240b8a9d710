-- What the lines of a script are to its links, once their bytes are handed to the connections.
use Rattle.std.specs.Prelude.{◌≡◌, ℕ, List, Bool, true, false}
use Rattle.script_model.specs.ScriptLines.{PlanLine, opening, piece, input_end, input_fault, resting, turn_of_conn, turn_of_worker, turn_of_outcome}
use Rattle.script_links.specs.declared.link.LinkInputEnd.{LinkInputEnd}
use Rattle.script_links.specs.declared.link.LinkInputEnd.TheVariants.{Ends as EndsInput, Fails as FailsInput}
use Rattle.script_links.specs.declared.step.Step.{Step}
use Rattle.script_links.specs.declared.step.Step.TheVariants.{Opens, Arrives, Ends, Fails, Rests, Passes}

-- the step of a line; a line of a schedule is passed over
abbrev pub step_of : PlanLine → Step
step_of opening = Opens
step_of (piece c bytes) = Arrives c
step_of (input_end c) = Ends c
step_of (input_fault c) = Fails c
step_of resting = Rests
step_of (turn_of_conn c) = Passes
step_of (turn_of_worker w) = Passes
step_of turn_of_outcome = Passes

-- a step at which links rest
abbrev pub is_rest : Step → Bool
is_rest Rests = true
is_rest _ = false

-- the step that tells what comes after all pieces of a connection
abbrev pub step_of_finish : ℕ → LinkInputEnd → Step
step_of_finish c EndsInput = Ends c
step_of_finish c FailsInput = Fails c
