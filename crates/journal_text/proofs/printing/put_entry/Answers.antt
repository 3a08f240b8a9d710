use Rattle.std.proofs.Common.{length, ap}
use Rattle.value_text.proofs.VecSinks.{cut_back}
use Rattle.journal_text.specs.EntryText.{call_line}
use Rattle.journal_text.proofs.printing.put_entry.Goals as goal

pub returns-clause-err : goal.returns-clause-err
returns-clause-err c =
    cut_back c.args.into.now.items c.take_from-out.result.content.items c.spell_entry-spelled.new.out.content.items c.give_back.new.into.items _ _ (length c.as_slice-start.result.now)
    (call_line c.args.entry.now) c.spell_entry-spelled.result c.give_back.result
    (ap length c.as_slice-start.ensures.value) c.take_from-out.ensures c.spell_entry-spelled.ensures.handed c.give_back.ensures.went c.give_back.ensures.err
