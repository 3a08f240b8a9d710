use Rattle.std.proofs.lemmas.List.Elements.{filter-append}
use Rattle.std.proofs.Common.{eqb}
use Rattle.call_history.specs.declared.seat_call.SeatCall.{SeatCall}
use Rattle.call_history.specs.Laws.{calls_by-asks}
use Rattle.call_history.proofs.laws.calls_of_one_seat.Goals as goal

pub returns-clause-asks : goal.returns-clause-asks
returns-clause-asks g c seat log = calls_by-asks seat log

pub returns-clause-both : goal.returns-clause-both
returns-clause-both g c seat front back = filter-append (λ (e : SeatCall _ _ _). eqb e.seat seat) front back
