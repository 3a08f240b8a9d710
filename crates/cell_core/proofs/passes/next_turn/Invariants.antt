use Rattle.std.proofs.Common.{ℕ, ◌<◌, ◌≤◌, ◌-◌, slice_get}
use Rattle.cell_core.specs.MachineSteps.{HasNoTurn}
use Rattle.cell_core.proofs.passes.next_turn.Given as goal

-- those that were passed have no turn
abbrev pub invariant-still : goal.invariant-still
invariant-still l = record {
  from : l.from ≤ l.c;
  within : l.c ≤ l.count;
  still : (k : ℕ) → l.from ≤ k → k < l.c → HasNoTurn (slice_get l.stages k);
}

abbrev pub decreases-still : goal.decreases-still
decreases-still l = l.count - l.c
