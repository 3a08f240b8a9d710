use Rattle.std.proofs.Common.{◌+◌, ◌-◌, ◌*◌}
use Rattle.wire_walk.proofs.Lists.{AreFieldsRead, AreItemsRead, ArePairsRead}
use Rattle.wire_walk.proofs.reading.+reading.Given as goal

abbrev pub decreases-read : goal.decreases-read
decreases-read g l = 5 * l.levels + 3

abbrev pub decreases-read_held : goal.decreases-read_held
decreases-read_held g l = 5 * l.levels + 2

abbrev pub decreases-open_struct : goal.decreases-open_struct
decreases-open_struct g l = 5 * l.levels

abbrev pub decreases-open_map : goal.decreases-open_map
decreases-open_map g l = 5 * l.levels

abbrev pub decreases-open_set : goal.decreases-open_set
decreases-open_set g l = 5 * l.levels + 1

abbrev pub decreases-open_list : goal.decreases-open_list
decreases-open_list g l = 5 * l.levels + 1

abbrev pub decreases-open_elements : goal.decreases-open_elements
decreases-open_elements g l = 5 * l.levels

abbrev pub decreases-read_fields : goal.decreases-read_fields
decreases-read_fields g l = 5 * l.levels + 4

abbrev pub decreases-read_items : goal.decreases-read_items
decreases-read_items g l = 5 * l.levels + 4

abbrev pub decreases-read_pairs : goal.decreases-read_pairs
decreases-read_pairs g l = 5 * l.levels + 4

-- what was read, in front of what reading gives for the rest, is what reading gives from the start
abbrev pub invariant-read_fields-loop-step : goal.invariant-read_fields-loop-step
invariant-read_fields-loop-step g l = AreFieldsRead g.C.WireProtocol.wire l.levels l.fields.items (l.step-end - l.step) l.last l.rest l.fn.rest

abbrev pub invariant-read_items-loop-step : goal.invariant-read_items-loop-step
invariant-read_items-loop-step g l = AreItemsRead g.C.WireProtocol.wire l.levels l.tag l.items.items (l.count - l.step) l.rest l.fn.count l.fn.rest

abbrev pub invariant-read_pairs-loop-step : goal.invariant-read_pairs-loop-step
invariant-read_pairs-loop-step g l = ArePairsRead g.C.WireProtocol.wire l.levels l.key_tag l.value_tag l.pairs.items (l.count - l.step) l.rest l.fn.count l.fn.rest
