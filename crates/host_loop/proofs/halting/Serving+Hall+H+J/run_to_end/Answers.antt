use Rattle.std.proofs.Common.{sym, ◌∙◌}
use Rattle.host_loop.proofs.Stopping.{ends_over, so_far, ends_stopped, ends_closed}
use Rattle.host_loop.proofs.halting.Serving+Hall+H+J.run_to_end.Goals as goal

pub close-requires-clause-seat : goal.close-requires-clause-seat
close-requires-clause-seat g c κs within = c.run_rounds-outcome.ensures.halted.place

pub close-requires-clause-hall : goal.close-requires-clause-hall
close-requires-clause-hall g c κs within = c.run_rounds-outcome.ensures.halted.opened.newly

pub close-requires-clause-zeroth : goal.close-requires-clause-zeroth
close-requires-clause-zeroth g c κs within = c.run_rounds-outcome.ensures.halted.zeroth

pub returns-then-is_over-clause-ended : goal.returns-then-is_over-clause-ended
returns-then-is_over-clause-ended g c =
    ends_closed _ _ _ _ _ _ _ _ c.run_rounds-outcome.result c.close.new.seat
    (ends_over _ _ _ _ _ _ _ _ c.run_rounds-outcome.result (sym c.is_over.ensures ∙ c.if-is_over.true) c.run_rounds-outcome.ensures.halted)
    c.close.ensures.closed c.close.ensures.seat c.close.ensures.zeroth

pub stop_all-requires-clause-so_far : goal.stop_all-requires-clause-so_far
stop_all-requires-clause-so_far g c κs within = so_far _ _ _ _ _ _ _ _ c.run_rounds-outcome.result c.run_rounds-outcome.ensures.halted

pub returns-clause-ended : goal.returns-clause-ended
returns-clause-ended g c =
    ends_closed _ _ _ _ _ _ _ _ c.run_rounds-outcome.result c.close-2.new.seat
    (ends_stopped _ _ _ _ _ _ _ _ (g.L.Links.state c.stop_all.new.links) c.stop_all.new.self c.stop_all.ensures.come c.stop_all.ensures.gone c.stop_all.ensures.budget
    c.run_rounds-outcome.result (sym c.is_over.ensures ∙ c.if-is_over.false) c.run_rounds-outcome.ensures.halted)
    c.close-2.ensures.closed c.close-2.ensures.seat c.close-2.ensures.zeroth
