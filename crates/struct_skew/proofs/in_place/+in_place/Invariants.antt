use Rattle.std.proofs.Common.{◌≡◌, ◌+◌, ◌*◌, ◌≤◌, map, drop}
use Rattle.thrift_value.specs.Measures.{fields_depth}
use Rattle.thrift_value.specs.TreeOf.{tree_of, field_tree, field_trees, item_trees, pair_tree, pair_trees}
use Rattle.schema.specs.PlainKind.{kind_of}
use Rattle.schema.specs.SchemaOf.{schema_of, plain_struct}
use Rattle.struct_skew.specs.Plan.{planned_fields}
use Rattle.struct_skew.specs.Projection.{item_meanings, pair_meanings}
use Rattle.struct_skew.specs.TakenOut.{AreApart}
use Rattle.struct_skew.proofs.InPlace.{AreSettledTo}
use Rattle.struct_skew.proofs.PlanSteps.{raw_offers}
use Rattle.struct_skew.proofs.Steps.{behind}
use Rattle.struct_skew.proofs.in_place.+in_place.Given as goal

-- a level less at each step down, and within a level the rank of the function
abbrev pub decreases-settle_value : goal.decreases-settle_value
decreases-settle_value l = 8 * l.levels

abbrev pub decreases-settle_list : goal.decreases-settle_list
decreases-settle_list l = 8 * l.levels + 3

abbrev pub decreases-settle_set : goal.decreases-settle_set
decreases-settle_set l = 8 * l.levels + 3

abbrev pub decreases-settle_map : goal.decreases-settle_map
decreases-settle_map l = 8 * l.levels + 3

abbrev pub decreases-settle_fields : goal.decreases-settle_fields
decreases-settle_fields l = 8 * l.levels + 5

abbrev pub decreases-settle_items : goal.decreases-settle_items
decreases-settle_items l = 8 * l.levels + 1

abbrev pub decreases-settle_pair : goal.decreases-settle_pair
decreases-settle_pair l = 8 * l.levels + 1

abbrev pub decreases-settle_pairs : goal.decreases-settle_pairs
decreases-settle_pairs l = 8 * l.levels + 2

abbrev pub decreases-settle_sent : goal.decreases-settle_sent
decreases-settle_sent l = 8 * l.levels + 1

abbrev pub decreases-settle_choice : goal.decreases-settle_choice
decreases-settle_choice l = 8 * l.levels + 2

abbrev pub decreases-settle_planned : goal.decreases-settle_planned
decreases-settle_planned l = 8 * l.levels + 3

abbrev pub decreases-settle_struct : goal.decreases-settle_struct
decreases-settle_struct l = 8 * l.levels + 4

abbrev pub invariant-settle_items-loop-place : goal.invariant-settle_items-loop-place
invariant-settle_items-loop-place l =
    AreSettledTo tree_of (λ xs. item_meanings (schema_of l.schema).structs (item_trees (map tree_of xs)) (kind_of l.kind)) l.fn.items.items l.items.items l.place

abbrev pub invariant-settle_pairs-loop-place : goal.invariant-settle_pairs-loop-place
invariant-settle_pairs-loop-place l =
    AreSettledTo pair_tree (λ ps. pair_meanings (schema_of l.schema).structs (pair_trees (map pair_tree ps)) (kind_of l.key_kind) (kind_of l.value_kind)) l.fn.pairs.items l.pairs.items l.place

-- what was found, and what the choices that are left give of the raw fields that are left, is what all give of all
abbrev pub invariant-settle_planned-loop-choice : goal.invariant-settle_planned-loop-choice
invariant-settle_planned-loop-choice l = record {
  kept :
      behind (map field_tree l.found.items) (planned_fields l.which l.desc.kind (plain_struct l.desc).fields (raw_offers (schema_of l.schema).structs l.sent.items) (drop l.choice-index l.plan))
      ≡ planned_fields l.which l.desc.kind (plain_struct l.desc).fields (raw_offers (schema_of l.schema).structs l.fn.sent.items) l.plan;
  apart : AreApart (drop l.choice-index l.plan);
  deep : fields_depth (field_trees (map field_tree l.sent.items)) ≤ l.levels;
}
