use Rattle.std.proofs.Common.{◌≡◌, ◌-◌, length, take}
use Rattle.value_text.specs.Fronts.{hex_at}
use Rattle.value_text.proofs.RowSteps.{in_front}
use Rattle.value_text.proofs.fronts.hex_at.Given as goal

-- what was read, in front of what is read of the rest, is what is read of all
abbrev pub invariant-loop-i : goal.invariant-loop-i
invariant-loop-i g l = record {
  long : length l.bytes ≡ g.row.N;
  read : in_front (take l.i l.bytes) (hex_at (g.row.N - l.i) l.rest) ≡ hex_at g.row.N l.text;
}
