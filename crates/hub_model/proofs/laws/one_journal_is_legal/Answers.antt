use Rattle.hub_model.proofs.Accounting.{journal_is_legal, services_behind, services_ahead}
use Rattle.hub_model.proofs.laws.one_journal_is_legal.Goals as goal

pub returns-clause-legal : goal.returns-clause-legal
returns-clause-legal g c n r memories hub log new history = journal_is_legal n r hub log history memories new

pub returns-clause-behind : goal.returns-clause-behind
returns-clause-behind g c n r memories hub log new history whole = services_behind n r hub log history memories new whole

pub returns-clause-ahead : goal.returns-clause-ahead
returns-clause-ahead g c n r memories hub log new history broken = services_ahead n r hub log history memories new broken
