use Rattle.std.proofs.Common.{map}
use Rattle.std.specs.Bool.{one_answer}
use Rattle.thrift_value.specs.TreeOf.{tree_of, item_trees}
use Rattle.struct_skew.specs.TidyTests.{are_rising_items}
use Rattle.struct_skew.proofs.RisingParts.{items_rise}
use Rattle.struct_skew.proofs.rising.items_rise.Goals as goal

pub returns : goal.returns
returns c = one_answer c.is_rising.result (are_rising_items (item_trees (map tree_of c.args.items.now))) c.is_rising.ensures (items_rise c.args.items.now)
