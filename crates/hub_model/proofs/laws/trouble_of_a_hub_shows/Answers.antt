use Rattle.hub_model.proofs.Accounting.{broken_shows, whole_counts}
use Rattle.hub_model.proofs.Breaks.{told_shows, closed_shows}
use Rattle.hub_model.proofs.laws.trouble_of_a_hub_shows.Goals as goal

pub returns-clause-broken : goal.returns-clause-broken
returns-clause-broken g c n r hub log opened history broken = broken_shows n r hub log history opened broken

pub returns-clause-whole : goal.returns-clause-whole
returns-clause-whole g c n r hub log history whole = whole_counts n r hub log history whole

pub returns-clause-told : goal.returns-clause-told
returns-clause-told g c n r hub log opened history told = told_shows n r hub log history opened told

pub returns-clause-closed : goal.returns-clause-closed
returns-clause-closed g c n d r memories hub log some o closed = closed_shows n d r memories hub log some o closed
