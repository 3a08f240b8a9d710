use Rattle.journal_text.proofs.EntryAgain.{line_again, one_entry}
use Rattle.journal_text.proofs.EntryFound.{line_found}
use Rattle.journal_text.proofs.laws.lines_tell_entries.Goals as goal

pub returns : goal.returns
returns c = record { one = one_entry; again = line_again; found = line_found }
