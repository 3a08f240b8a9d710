use Rattle.std.proofs.Common.{◌+◌, ◌-◌, ◌*◌, map}
use Rattle.thrift_value.specs.TreeOf.{tree_of, field_tree, pair_tree}
use Rattle.value_text.specs.Reading.{field_text_at, item_at, most_rounds, pair_text_at, value_text_at}
use Rattle.value_text.proofs.RowSteps.{AreRead}
use Rattle.value_text.proofs.reading.+reading.Given as goal

abbrev pub decreases-value_at : goal.decreases-value_at
decreases-value_at l = 20 * l.levels + 1

abbrev pub decreases-deeper_at : goal.decreases-deeper_at
decreases-deeper_at l = 20 * l.levels

abbrev pub decreases-container_at : goal.decreases-container_at
decreases-container_at l = 20 * l.levels + 12

abbrev pub decreases-struct_at : goal.decreases-struct_at
decreases-struct_at l = 20 * l.levels + 11

abbrev pub decreases-map_at : goal.decreases-map_at
decreases-map_at l = 20 * l.levels + 11

abbrev pub decreases-set_at : goal.decreases-set_at
decreases-set_at l = 20 * l.levels + 11

abbrev pub decreases-list_value_at : goal.decreases-list_value_at
decreases-list_value_at l = 20 * l.levels + 11

abbrev pub decreases-fields_at : goal.decreases-fields_at
decreases-fields_at l = 20 * l.levels + 10

abbrev pub decreases-items_at : goal.decreases-items_at
decreases-items_at l = 20 * l.levels + 10

abbrev pub decreases-pairs_at : goal.decreases-pairs_at
decreases-pairs_at l = 20 * l.levels + 10

abbrev pub decreases-field_rows : goal.decreases-field_rows
decreases-field_rows l = 20 * l.levels + 9

abbrev pub decreases-item_rows : goal.decreases-item_rows
decreases-item_rows l = 20 * l.levels + 9

abbrev pub decreases-pair_rows : goal.decreases-pair_rows
decreases-pair_rows l = 20 * l.levels + 9

abbrev pub decreases-field_row : goal.decreases-field_row
decreases-field_row l = 20 * l.levels + 8

abbrev pub decreases-item_row : goal.decreases-item_row
decreases-item_row l = 20 * l.levels + 8

abbrev pub decreases-pair_row : goal.decreases-pair_row
decreases-pair_row l = 20 * l.levels + 8

abbrev pub decreases-assigned_at : goal.decreases-assigned_at
decreases-assigned_at l = 20 * l.levels + 5

-- what was read, in front of what is read of the rest, is what is read of all
abbrev pub invariant-field_rows-loop-step : goal.invariant-field_rows-loop-step
invariant-field_rows-loop-step l = AreRead (field_text_at (value_text_at most_rounds l.levels)) 125 most_rounds l.text (most_rounds - l.step) (map field_tree l.made.items) l.rest

abbrev pub invariant-item_rows-loop-step : goal.invariant-item_rows-loop-step
invariant-item_rows-loop-step l = AreRead (item_at l.rising l.tag (value_text_at most_rounds l.levels)) 93 most_rounds l.text (most_rounds - l.step) (map tree_of l.made.items) l.rest

abbrev pub invariant-pair_rows-loop-step : goal.invariant-pair_rows-loop-step
invariant-pair_rows-loop-step l = AreRead (pair_text_at l.levels l.key l.tag (value_text_at most_rounds l.levels)) 125 most_rounds l.text (most_rounds - l.step) (map pair_tree l.made.items) l.rest
