use Rattle.std.proofs.Common.{map}
use Rattle.std.specs.Bool.{one_answer}
use Rattle.thrift_value.specs.TreeOf.{field_tree, field_trees}
use Rattle.struct_skew.specs.TidyTests.{are_rising_fields}
use Rattle.struct_skew.proofs.RisingParts.{fields_rise}
use Rattle.struct_skew.proofs.rising.ids_rise.Goals as goal

pub returns : goal.returns
returns c = one_answer c.is_rising.result (are_rising_fields (field_trees (map field_tree c.args.fields.now))) c.is_rising.ensures (fields_rise c.args.fields.now)
