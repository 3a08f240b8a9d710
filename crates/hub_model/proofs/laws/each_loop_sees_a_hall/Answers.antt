use Rattle.std.proofs.Common.{ap, ◌∙◌}
use Rattle.call_history.specs.Calls.{calls_by, asks_of}
use Rattle.hub_model.specs.Seen.{seen_seat}
use Rattle.hub_model.proofs.AsksSeen.{asks_seen, by_seat}
use Rattle.hub_model.proofs.Seeing.{sees, sees_end}
use Rattle.hub_model.proofs.laws.each_loop_sees_a_hall.Goals as goal

pub returns-clause-history : goal.returns-clause-history
returns-clause-history g c n l default r hub log final history submits goes = sees default r n l final hub log history submits goes

pub returns-clause-end : goal.returns-clause-end
returns-clause-end g c n l default r hub log final history submits goes = sees_end default r n l final hub log history submits goes

pub returns-clause-asks : goal.returns-clause-asks
returns-clause-asks g c n l final log seat = ap (calls_by (seen_seat l seat)) (asks_seen n l final log) ∙ by_seat n l seat (asks_of log)
