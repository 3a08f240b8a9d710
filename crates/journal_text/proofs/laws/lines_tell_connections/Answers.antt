use Rattle.journal_text.proofs.OneConnection.{one_connection}
use Rattle.journal_text.proofs.laws.lines_tell_connections.Goals as goal

pub returns : goal.returns
returns c = one_connection
