use Rattle.std.proofs.Common.{sym, subst}
use Rattle.host_loop.proofs.OwnTurns.{IsOther, serves_turned, halts_turned}
use Rattle.host_loop.proofs.collecting.Serving+Hall+H+J.make_turn.Goals as goal

pub turn-requires-clause-seat : goal.turn-requires-clause-seat
turn-requires-clause-seat g c κs within = c.requires.serving.1.own_place

pub turn-requires-clause-hall : goal.turn-requires-clause-hall
turn-requires-clause-hall g c κs within = c.requires.serving.1.opened

pub returns-in-Worked : goal.returns-in-Worked
returns-in-Worked g c = record { kept = λ links s. serves_turned _ _ _ _ _ _ _ _ c.turn.new.self c.turn.result s c.turn.ensures.seat c.turn.ensures.turn (subst IsOther (sym c.in-Worked.is) tt) }

pub returns-in-Empty : goal.returns-in-Empty
returns-in-Empty g c = record { kept = λ links s. serves_turned _ _ _ _ _ _ _ _ c.turn.new.self c.turn.result s c.turn.ensures.seat c.turn.ensures.turn (subst IsOther (sym c.in-Empty.is) tt) }

pub returns-in-Closed : goal.returns-in-Closed
returns-in-Closed g c = record { kept = λ links s. serves_turned _ _ _ _ _ _ _ _ c.turn.new.self c.turn.result s c.turn.ensures.seat c.turn.ensures.turn (subst IsOther (sym c.in-Closed.is) tt) }

pub returns-in-Journal : goal.returns-in-Journal
returns-in-Journal g c = record { kept = λ links s. halts_turned _ _ _ _ _ _ _ _ c.turn.new.self c.turn.result s c.turn.ensures.seat c.turn.ensures.turn c.in-Journal.is }
