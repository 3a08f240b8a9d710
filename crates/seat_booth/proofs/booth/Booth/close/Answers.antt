use Rattle.std.proofs.Common.{rules, ◌∙◌, sym, ap, subst}
use Rattle.seat_booth.specs.Seats.{BoothView, EndsBooth}
use Rattle.seat_booth.proofs.Ended.{closes}
use Rattle.seat_booth.proofs.booth.Booth.close.Goals as goal

pub returns : goal.returns
returns g c =
    subst (λ (s : BoothView g.row.O-Meaning.Denot). EndsBooth g.O.Object.gives g.O.Object.may s c.args.seats.items (g.O.Object.meaning c.take-object.result)) c.self.view_is
    (closes g.O.Object.meaning g.O.Object.gives g.O.Object.may (g.O.Object.meaning c.self.inside.table.shared.key.object.value) c.self.inside.table.shared.key.seats _ _ c.args.seats.items _ _ _ _
    (c.requires.every ∙ ap (λ (s : BoothView g.row.O-Meaning.Denot). s.seats) (sym c.self.view_is)) (search rules) c.close_with-closed.ensures.values.2 c.take-object.ensures.value)
