use Rattle.std.proofs.Common.{◌≡◌, ◌-◌}
use Rattle.value_text.specs.Fronts.{quoted_at}
use Rattle.value_text.specs.Reading.{most_rounds}
use Rattle.value_text.proofs.RowSteps.{in_front}
use Rattle.value_text.proofs.fronts.quoted_at.Given as goal

-- what was read, in front of what is read of the rest, is what is read of all
abbrev pub invariant-loop-step : goal.invariant-loop-step
invariant-loop-step l = in_front l.bytes.items (quoted_at (most_rounds - l.step) l.rest) ≡ quoted_at most_rounds l.text
