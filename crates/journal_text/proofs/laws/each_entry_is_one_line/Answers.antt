use Rattle.journal_text.proofs.OneLine.{entry_is_one_line}
use Rattle.journal_text.proofs.laws.each_entry_is_one_line.Goals as goal

pub returns : goal.returns
returns c = entry_is_one_line
