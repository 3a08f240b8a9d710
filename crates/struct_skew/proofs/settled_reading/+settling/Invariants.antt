use Rattle.std.proofs.Common.{◌+◌, ◌-◌, ◌*◌, map}
use Rattle.schema.specs.PlainKind.{kind_of}
use Rattle.schema.specs.SchemaOf.{schema_of, plain_field}
use Rattle.struct_skew.proofs.SettledSteps.{ItemsKept, PairsKept, FieldsKept}
use Rattle.struct_skew.proofs.settled_reading.+settling.Given as goal

abbrev pub decreases-settled_value : goal.decreases-settled_value
decreases-settled_value g l = 5 * l.levels + 2

abbrev pub decreases-settled_list : goal.decreases-settled_list
decreases-settled_list g l = 5 * l.levels + 1

abbrev pub decreases-settled_set : goal.decreases-settled_set
decreases-settled_set g l = 5 * l.levels + 1

abbrev pub decreases-settled_elements : goal.decreases-settled_elements
decreases-settled_elements g l = 5 * l.levels

abbrev pub decreases-settled_map : goal.decreases-settled_map
decreases-settled_map g l = 5 * l.levels

abbrev pub decreases-settled_struct : goal.decreases-settled_struct
decreases-settled_struct g l = 5 * l.levels

abbrev pub decreases-settled_pairs : goal.decreases-settled_pairs
decreases-settled_pairs g l = 5 * l.levels + 3

abbrev pub decreases-settled_field : goal.decreases-settled_field
decreases-settled_field g l = 5 * l.levels + 3

abbrev pub decreases-settled_fields : goal.decreases-settled_fields
decreases-settled_fields g l = 5 * l.levels + 4

-- what was read means itself, and stands in front of what is read of the rest
abbrev pub invariant-settled_elements-loop-step : goal.invariant-settled_elements-loop-step
invariant-settled_elements-loop-step g l =
    ItemsKept g.W.WireProtocol.wire l.levels (schema_of l.schema).structs (kind_of l.kind) l.items.items (l.count - l.step) l.ahead l.count l.initial.ahead

abbrev pub invariant-settled_pairs-loop-step : goal.invariant-settled_pairs-loop-step
invariant-settled_pairs-loop-step g l =
    PairsKept g.W.WireProtocol.wire l.levels (schema_of l.schema).structs (kind_of l.key_kind) (kind_of l.value_kind) l.pairs.items (l.count - l.step) l.ahead l.fn.count l.fn.ahead

abbrev pub invariant-settled_fields-loop-step : goal.invariant-settled_fields-loop-step
invariant-settled_fields-loop-step g l =
    FieldsKept g.W.WireProtocol.wire l.levels (schema_of l.schema).structs (map plain_field l.declared) l.fields.items (l.step-end - l.step) l.last l.ahead l.fn.ahead
