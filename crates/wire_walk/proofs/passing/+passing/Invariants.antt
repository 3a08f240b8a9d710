use Rattle.std.proofs.Common.{◌+◌, ◌-◌, ◌*◌}
use Rattle.wire_walk.proofs.PassedOver.{AreFieldsPassed, AreItemsPassed, ArePairsPassed}
use Rattle.wire_walk.proofs.passing.+passing.Given as goal

abbrev pub decreases-skip : goal.decreases-skip
decreases-skip g l = 4 * l.levels + 2

abbrev pub decreases-skip_held : goal.decreases-skip_held
decreases-skip_held g l = 4 * l.levels + 1

abbrev pub decreases-skip_struct : goal.decreases-skip_struct
decreases-skip_struct g l = 4 * l.levels

abbrev pub decreases-skip_map : goal.decreases-skip_map
decreases-skip_map g l = 4 * l.levels

abbrev pub decreases-skip_elements : goal.decreases-skip_elements
decreases-skip_elements g l = 4 * l.levels

abbrev pub decreases-skip_fields : goal.decreases-skip_fields
decreases-skip_fields g l = 4 * l.levels + 3

abbrev pub decreases-skip_items : goal.decreases-skip_items
decreases-skip_items g l = 4 * l.levels + 3

abbrev pub decreases-skip_pairs : goal.decreases-skip_pairs
decreases-skip_pairs g l = 4 * l.levels + 3

-- what is left behind the rest is what is left behind all
abbrev pub invariant-skip_fields-loop-step : goal.invariant-skip_fields-loop-step
invariant-skip_fields-loop-step g l = AreFieldsPassed g.C.WireProtocol.wire l.levels (l.step-end - l.step) l.last l.rest l.fn.rest

abbrev pub invariant-skip_items-loop-step : goal.invariant-skip_items-loop-step
invariant-skip_items-loop-step g l = AreItemsPassed g.C.WireProtocol.wire l.levels l.tag (l.count - l.step) l.rest l.fn.count l.fn.rest

abbrev pub invariant-skip_pairs-loop-step : goal.invariant-skip_pairs-loop-step
invariant-skip_pairs-loop-step g l = ArePairsPassed g.C.WireProtocol.wire l.levels l.key_tag l.value_tag (l.count - l.step) l.rest l.fn.count l.fn.rest
