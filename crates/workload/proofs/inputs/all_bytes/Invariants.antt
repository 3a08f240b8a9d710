use Rattle.std.proofs.Common.{◌≡◌, map}
use Rattle.script_model.specs.ScriptLines.{count_up}
use Rattle.workload.specs.LoadPlan.{connections_of, bytes_on}
use Rattle.workload.proofs.inputs.all_bytes.Given as goal

-- the bytes of the connections so far
abbrev pub invariant-loop-c : goal.invariant-loop-c
invariant-loop-c l = l.all.items ≡ map (bytes_on l.seed l.size (connections_of l.size)) (count_up 0 l.c)
