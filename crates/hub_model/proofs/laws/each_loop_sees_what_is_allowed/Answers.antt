use Rattle.std.proofs.Common.{sym, subst}
use Rattle.call_history.specs.Calls.{asks_of, AllAllowed}
use Rattle.machine_model.specs.OwnCalls.{HallMay}
use Rattle.hub_model.specs.Seen.{replays, seen_part}
use Rattle.hub_model.proofs.AsksSeen.{asks_seen}
use Rattle.hub_model.proofs.Allowing.{all_allowed}
use Rattle.hub_model.proofs.laws.each_loop_sees_what_is_allowed.Goals as goal

pub returns : goal.returns
returns g c n l default r hub log final allowed =
    subst (AllAllowed (HallMay (replays default)) (seen_part n l final hub)) (sym (asks_seen n l final log)) (all_allowed n l final default r hub (asks_of log) allowed)
