use Rattle.std.proofs.Common.{sym}
use Rattle.thrift_value.specs.TreeOf.{tree_of}
use Rattle.value_text.proofs.RowSteps.{last_mapped}
use Rattle.value_text.proofs.reading.last_item.Goals as goal

pub returns-in-Some : goal.returns-in-Some
returns-in-Some c = sym (last_mapped tree_of c.args.before.now _ c.in-Some.last.now c.in-Some.ensures.cases.0)
