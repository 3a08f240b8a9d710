use Rattle.std.proofs.Common.{◌≡◌, ◌+◌, ◌≤◌, length, vec_len, vec_capacity, refl, sym, subst, ◌∙◌, arith}
use Rattle.conn_table.specs.declared.run_limits.Outcome.{Outcome}
use Rattle.host_loop.specs.Going.{IsAtEnd}
use Rattle.host_loop.proofs.Beginning.{serves_at_first}
use Rattle.host_loop.proofs.LeftOver.{ends_serving}
use Rattle.host_loop.proofs.seating.serve_at.Goals as goal

pub lead_crew-outcome-requires-clause-serving : goal.lead_crew-outcome-requires-clause-serving
lead_crew-outcome-requires-clause-serving g c κs within =
    serves_at_first c.args.host.now.limits c.requires.small (g.L.Links.state c.args.links.now) c.requires.fresh c.args.tools.conns c.requires.tools.table c.requires.tools.stages c.requires.tools.causes c.requires.tools.owing
    (g.D.Desk.meaning c.args.host.now.desk.now) c.args.booth c.args.seating.first c.new.result c.requires.opened c.requires.seating.2.zeroth (c.new.ensures ∙ c.requires.seating.2.oneth)

pub lead_crew-outcome-requires-clause-crew : goal.lead_crew-outcome-requires-clause-crew
lead_crew-outcome-requires-clause-crew g c κs within = c.requires.seating.2.may_serve (g.D.Desk.meaning c.args.host.now.desk.now) c.requires.opened

pub lead_crew-outcome-requires-clause-few : goal.lead_crew-outcome-requires-clause-few
lead_crew-outcome-requires-clause-few g c =
    let seats : c.args.booth.seats ≡ c.requires.seating.0 + 2 = c.requires.seating.1 in
    let many : length c.args.seating.crew.items ≡ c.requires.seating.0 = c.requires.seating.2.many in
    let most : c.args.booth.seats ≤ 10 = c.requires.many in
    omega (arith, c.args.seating.crew.ok.0)

pub end-requires-clause-seat : goal.end-requires-clause-seat
end-requires-clause-seat g c κs within = c.lead_crew-outcome.ensures.ended.halted.place

pub end-requires-clause-own : goal.end-requires-clause-own
end-requires-clause-own g c κs within = c.lead_crew-outcome.ensures.ended.halted.own_place

pub end-requires-clause-crew : goal.end-requires-clause-crew
end-requires-clause-crew g c κs within = λ k d l. (c.lead_crew-outcome.ensures.crew k d l).place

pub end-requires-clause-every : goal.end-requires-clause-every
end-requires-clause-every g c =
    let seats : c.args.booth.seats ≡ c.requires.seating.0 + 2 = c.requires.seating.1 in
    let many : length c.args.seating.crew.items ≡ c.requires.seating.0 = c.requires.seating.2.many in
    let same : vec_len c.lead_crew-outcome.result.2 ≡ vec_len c.args.seating.crew = c.lead_crew-outcome.ensures.room.0 in
    omega (arith, c.args.seating.crew.ok.0, c.lead_crew-outcome.result.2.ok.0)

pub end-requires-clause-room : goal.end-requires-clause-room
end-requires-clause-room g c =
    let same : vec_len c.lead_crew-outcome.result.2 ≡ vec_len c.args.seating.crew = c.lead_crew-outcome.ensures.room.0 in
    let room : vec_capacity c.lead_crew-outcome.result.2 ≡ vec_capacity c.args.seating.crew = c.lead_crew-outcome.ensures.room.1 in
    let before : vec_len c.args.seating.crew + 2 ≤ vec_capacity c.args.seating.crew = c.requires.room in
    omega arith

pub returns-clause-plan : goal.returns-clause-plan
returns-clause-plan g c = c.lead_crew-outcome.ensures.plan

pub returns-clause-served : goal.returns-clause-served
returns-clause-served g c =
    let serving = c.lead_crew-outcome.result.1 in
    c.what_ends_is_served.ensures _ _
    (ends_serving (g.D.Desk.meaning c.args.host.now.desk.now) c.args.host.now.limits c.args.booth _ serving.conns serving.seat serving.own c.requires.longest c.lead_crew-outcome.result.2.items
    (subst
    (λ (o : Outcome). IsAtEnd (g.D.Desk.meaning c.args.host.now.desk.now) c.args.host.now.limits c.args.booth (g.L.Links.state c.args.links.now) (g.L.Links.state c.lead_crew-outcome.new.links) serving.conns serving.seat
    serving.own o)
    (sym c.end.ensures.outcome) c.lead_crew-outcome.ensures.ended)
    c.lead_crew-outcome.ensures.crew c.end.ensures.ended c.end.ensures.ends refl)
