use Rattle.std.proofs.Common.{ap, sym}
use Rattle.thrift_value.specs.TreeOf.{pair_tree}
use Rattle.value_text.specs.Reading.{last_key}
use Rattle.value_text.proofs.RowSteps.{last_mapped}
use Rattle.value_text.proofs.reading.last_key.Goals as goal

pub returns-in-Some : goal.returns-in-Some
returns-in-Some c = ap last_key (sym (last_mapped pair_tree c.args.before.now _ c.in-Some.last.now c.in-Some.ensures.cases.0))
