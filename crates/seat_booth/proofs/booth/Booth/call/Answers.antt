use Rattle.std.proofs.Common.{rules, ◌∙◌, ap, sym, subst}
use Rattle.atomic_table.specs.Table.{Me}
use Rattle.seat_booth.specs.Seats.{BoothView, SeatView, MakesCall}
use Rattle.seat_booth.specs.Past.{seat_view}
use Rattle.seat_booth.proofs.Made.{Finished, ready, makes}
use Rattle.seat_booth.proofs.booth.Booth.call.Goals as goal

pub finish-requires-clause-ready : goal.finish-requires-clause-ready
finish-requires-clause-ready g c = let s = c.step-reply.ensures.held in
    ready g.O.Object.meaning g.O.Object.gives g.O.Object.may (g.O.Object.meaning c.self.inside.table.shared.key.object.value) c.draw-ticket.new.token.me.0.opening (search rules) _ _ _ c.wait.ensures.turn _ _ _ s.0 s.1 c.step-reply.ensures.view (s.2, s.3, (search rules)) (search rules)

pub returns-clause-call : goal.returns-clause-call
returns-clause-call g c = let s = c.step-reply.ensures.held in
    subst (λ (z : BoothView g.row.O-Meaning.Denot × SeatView g.row.O-Op.Denot g.row.O-Reply.Denot g.row.O-Meaning.Denot × g.row.O-Op.Denot). MakesCall g.O.Object.gives g.O.Object.may z.0 z.1 z.2 c.step-reply.result (seat_view c.wake.new.token.table_id c.wake.new.token.me.0))
    (λ i. (c.self.view_is i, (ap (λ (m : Me _ _). seat_view c.seat.inside.token.table_id m.0) c.draw-ticket.ensures.stage ∙ c.seat.view_is) i, c.of-asked.ensures i))
    (makes g.O.Object.meaning g.O.Object.gives g.O.Object.may (g.O.Object.meaning c.self.inside.table.shared.key.object.value) c.draw-ticket.new.token.me.0.opening (search rules) _ _ _ c.wait.ensures.turn c.step-reply.new.token.me c.of-asked.result.value c.step-reply.result s.0 s.1 c.step-reply.ensures.view (s.2, s.3, (search rules)) (search rules) _ _ _ _ _
    (subst (Finished g.O.Object.meaning g.O.Object.gives g.O.Object.may c.of-asked.result.value c.step-reply.result c.step-reply.new.token.me) (sym c.wake.ensures.same) c.finish.ensures.made))
