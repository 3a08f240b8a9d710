use Rattle.std.proofs.Common.{◌+◌, ◌-◌, ◌*◌}
use Rattle.schema.specs.PlainKind.{kind_of}
use Rattle.schema.specs.SchemaOf.{schema_of}
use Rattle.known_parts.proofs.KnownElements.{AreItemsKnown}
use Rattle.known_parts.proofs.KnownPairs.{ArePairsKnown}
use Rattle.known_parts.proofs.KnownFields.{AreFieldsKnown}
use Rattle.known_parts.proofs.walk.+knowing.Given as goal

abbrev pub decreases-known_value : goal.decreases-known_value
decreases-known_value g l = 5 * l.levels + 1

abbrev pub decreases-known_struct : goal.decreases-known_struct
decreases-known_struct g l = 5 * l.levels

abbrev pub decreases-known_map : goal.decreases-known_map
decreases-known_map g l = 5 * l.levels

abbrev pub decreases-known_elements : goal.decreases-known_elements
decreases-known_elements g l = 5 * l.levels

abbrev pub decreases-known_field : goal.decreases-known_field
decreases-known_field g l = 5 * l.levels + 2

abbrev pub decreases-known_fields : goal.decreases-known_fields
decreases-known_fields g l = 5 * l.levels + 3

abbrev pub decreases-known_items : goal.decreases-known_items
decreases-known_items g l = 5 * l.levels + 2

abbrev pub decreases-known_pairs : goal.decreases-known_pairs
decreases-known_pairs g l = 5 * l.levels + 2

-- what was kept, in front of what is known of the rest, is what is known of all
abbrev pub invariant-known_items-loop-step : goal.invariant-known_items-loop-step
invariant-known_items-loop-step g l =
    AreItemsKnown g.W.WireProtocol.wire (schema_of l.schema) l.levels (kind_of l.kind) l.tag l.items.items (l.count - l.step) l.rest l.fn.count l.fn.rest

abbrev pub invariant-known_pairs-loop-step : goal.invariant-known_pairs-loop-step
invariant-known_pairs-loop-step g l =
    ArePairsKnown g.W.WireProtocol.wire (schema_of l.schema) l.levels (kind_of l.key_kind) (kind_of l.value_kind) l.key_tag l.value_tag l.pairs.items (l.count - l.step) l.rest l.fn.count l.fn.rest

abbrev pub invariant-known_fields-loop-step : goal.invariant-known_fields-loop-step
invariant-known_fields-loop-step g l =
    AreFieldsKnown g.W.WireProtocol.wire (schema_of l.schema) l.levels l.which l.fields.items (l.step-end - l.step) l.last l.rest l.fn.rest
