use Rattle.std.proofs.Common.{[], map, refl, sym, ap, subst, ◌∙◌}
use Rattle.conn_table.proofs.Servable.{limits_are_small, desk_is_small}
use Rattle.machine_model.specs.SeenHall.{MayHave}
use Rattle.hall_core.specs.Meant.{ServedHall}
use Rattle.host_loop.proofs.seating.serve_hall.Goals as goal

pub serve_at-requires-clause-small : goal.serve_at-requires-clause-small
serve_at-requires-clause-small g c κs within = limits_are_small c.requires.can

pub serve_at-requires-clause-longest : goal.serve_at-requires-clause-longest
serve_at-requires-clause-longest g c κs within = c.requires.can.longest

pub returns-in-Err-clause-served : goal.returns-in-Err-clause-served
returns-in-Err-clause-served g c =
    let is = c.in-Err.ensures.err in
    c.nothing_is_served.ensures _ _ (record {
      fresh = c.requires.fresh;
      small = desk_is_small c.requires.can;
      empty =
          subst (λ o. MayHave o [])
          (sym (ap g.J.Journal.told c.unserved.ensures.journal ∙ c.into_parts-handlers.ensures.told ∙ ap (λ (h : ServedHall). h.told) is)) c.requires.empty;
      links = refl;
      causes = c.unserved.ensures.ends;
      services =
          ap (λ hs. map g.H.Handler.service hs.items) c.unserved.ensures.handlers ∙ c.into_parts-handlers.ensures.services ∙ ap (λ (h : ServedHall). h.memories) is;
      whole = ap g.J.Journal.torn c.unserved.ensures.journal ∙ c.into_parts-handlers.ensures.torn ∙ ap (λ (h : ServedHall). h.broken) is ∙ c.requires.newly.broken;
      faults = ap g.J.Journal.faults c.unserved.ensures.journal ∙ c.into_parts-handlers.ensures.faults ∙ ap (λ (h : ServedHall). h.faults) is;
      outcome = c.unserved.ensures.outcome;
    })
