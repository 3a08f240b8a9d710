use Rattle.std.proofs.Common.{ap, ◌∙◌}
use Rattle.journal_text.specs.Segments.{chained}
use Rattle.journal_text.proofs.Segmented.{chained_with}
use Rattle.journal_text.proofs.segment_journal.put_behind.Goals as goal

pub returns-clause-chained : goal.returns-clause-chained
returns-clause-chained c = ap chained c.push_back_reserved.ensures.items ∙ chained_with c.args.full.now.items c.args.entries.items
