use Rattle.std.proofs.Common.{ℕ, length, sym, ap, subst, ◌∙◌}
use Rattle.std.proofs.lemmas.List.{length-map}
use Rattle.conn_table.specs.Servable.{CanServe}
use Rattle.hall_core.specs.Meant.{ServedHall}
use Rattle.host_loop.proofs.serving.serve.Goals as goal

pub serve_hall-requires-clause-can : goal.serve_hall-requires-clause-can
serve_hall-requires-clause-can g c κs within =
    subst (λ (n : ℕ). CanServe c.args.limits c.args.workers (g.D.Desk.meaning c.args.desk.now).max_frame (g.D.Desk.meaning c.args.desk.now).slots n)
    (sym (ap (λ (h : ServedHall). length h.memories) c.in-Ok.ensures.hall ∙ length-map c.args.handlers.items g.H.Handler.service)) c.requires.can
