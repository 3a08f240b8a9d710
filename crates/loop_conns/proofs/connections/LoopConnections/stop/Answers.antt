use Rattle.std.proofs.Common.{◌≢◌, slice_index_or, sym, ◌∙◌}
use Rattle.std.proofs.lemmas.List.{get_or_read}
use Rattle.loop_conns.specs.declared.connections.ConnStage.TheVariants.{Gone}
use Rattle.loop_conns.proofs.Stops.{stops_woven, stopped_place, stopped_none}
use Rattle.loop_conns.proofs.Halting.{stands_open}
use Rattle.loop_conns.proofs.connections.LoopConnections.stop.Goals as goal

pub returns-in-Gone-clause-come : goal.returns-in-Gone-clause-come
returns-in-Gone-clause-come g c = λ max small first asks w. w

pub returns-in-Gone-clause-stopped : goal.returns-in-Gone-clause-stopped
returns-in-Gone-clause-stopped g c =
    stopped_none c.args.c c.args.self.now
    (sym (get_or_read c.args.self.now.stages.items c.args.c c.index.result.now c.requires.known c.index.ensures Gone) ∙ c.in-Gone.is)

pub end-requires-clause-there : goal.end-requires-clause-there
end-requires-clause-there g c κs within =
    (stands_open (g.L.Links.state c.args.links.now) c.args.self.now c.requires.so_far c.args.c
    (λ e. c.in_default.not-Gone (get_or_read c.args.self.now.stages.items c.args.c c.index.result.now c.requires.known c.index.ensures Gone ∙ e))).here.there

pub end-requires-clause-going : goal.end-requires-clause-going
end-requires-clause-going g c κs within =
    (stands_open (g.L.Links.state c.args.links.now) c.args.self.now c.requires.so_far c.args.c
    (λ e. c.in_default.not-Gone (get_or_read c.args.self.now.stages.items c.args.c c.index.result.now c.requires.known c.index.ensures Gone ∙ e))).going

pub end-requires-clause-size : goal.end-requires-clause-size
end-requires-clause-size g c κs within =
    (stands_open (g.L.Links.state c.args.links.now) c.args.self.now c.requires.so_far c.args.c
    (λ e. c.in_default.not-Gone (get_or_read c.args.self.now.stages.items c.args.c c.index.result.now c.requires.known c.index.ensures Gone ∙ e))).size

pub end-requires-clause-known : goal.end-requires-clause-known
end-requires-clause-known g c κs within =
    (stands_open (g.L.Links.state c.args.links.now) c.args.self.now c.requires.so_far c.args.c
    (λ e. c.in_default.not-Gone (get_or_read c.args.self.now.stages.items c.args.c c.index.result.now c.requires.known c.index.ensures Gone ∙ e))).known

pub end-requires-clause-link : goal.end-requires-clause-link
end-requires-clause-link g c κs within =
    (stands_open (g.L.Links.state c.args.links.now) c.args.self.now c.requires.so_far c.args.c
    (λ e. c.in_default.not-Gone (get_or_read c.args.self.now.stages.items c.args.c c.index.result.now c.requires.known c.index.ensures Gone ∙ e))).here.link

pub returns : goal.returns
returns g c =
    let is_open : slice_index_or c.args.self.now.stages.items c.args.c Gone ≢ Gone =
    λ e. c.in_default.not-Gone (get_or_read c.args.self.now.stages.items c.args.c c.index.result.now c.requires.known c.index.ensures Gone ∙ e) in
    let st = stands_open (g.L.Links.state c.args.links.now) c.args.self.now c.requires.so_far c.args.c is_open in
    record {
      come = λ max small first asks w. stops_woven max small first _ _ c.args.self.now c.end.new.self asks c.args.c w is_open c.end.ensures.ended c.end.ensures.closed;
      stopped = stopped_place c.args.c c.args.self.now c.end.new.self st.known c.end.ensures.ended st.here.stopped;
      budget = c.end.ensures.budget;
      plan = c.end.ensures.plan;
    }
