use Rattle.std.proofs.Common.{length, ap}
use Rattle.thrift_value.specs.TreeOf.{tree_of}
use Rattle.value_text.specs.ValueText.{tree_text}
use Rattle.value_text.proofs.VecSinks.{cut_back}
use Rattle.value_text.proofs.printer.put_value.Goals as goal

pub returns-clause-err : goal.returns-clause-err
returns-clause-err c =
    cut_back c.args.into.now.items c.take_from-out.result.content.items c.spell_value-spelled.new.out.content.items c.give_back.new.into.items _ _ (length c.as_slice-start.result.now)
    (tree_text (tree_of c.args.value.now)) c.spell_value-spelled.result c.give_back.result
    (ap length c.as_slice-start.ensures.value) c.take_from-out.ensures c.spell_value-spelled.ensures c.give_back.ensures.went c.give_back.ensures.err
