use Rattle.std.proofs.Common.{◌≤◌, length, subst, rules}
use Rattle.value_text.specs.Answering.{Answers}
use Rattle.journal_text.proofs.EntryPlaces.{entry_is, entry_again}
use Rattle.journal_text.proofs.reading.read_entry.Goals as goal

pub returns-clause-found : goal.returns-clause-found
returns-clause-found c = entry_is (λ entry. entry) c.args.line.now c.entry_in.result c.entry_in.ensures

pub returns-clause-only : goal.returns-clause-only
returns-clause-only c =
    let short : length c.args.line.now ≤ 18446744073709551615 = search rules in
    λ e is. subst (λ f. Answers (λ entry. entry) c.entry_in.result f) (entry_again c.args.line.now e short is) c.entry_in.ensures
