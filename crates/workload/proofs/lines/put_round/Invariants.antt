use Rattle.std.proofs.Common.{◌≡◌, [], ◌++◌, map, get_or}
use Rattle.std.specs.List.{flat_map}
use Rattle.script_model.specs.ScriptLines.{count_up}
use Rattle.script_text.specs.Plans.{plain_line}
use Rattle.workload.specs.LoadPlan.{piece_line}
use Rattle.workload.proofs.lines.put_round.Given as goal

abbrev pub invariant-loop-c : goal.invariant-loop-c
invariant-loop-c l =
    map plain_line l.into.items ≡ map plain_line l.fn.into.items ++ flat_map (λ c. piece_line l.i c (get_or l.streams c [])) (count_up 0 l.c)
