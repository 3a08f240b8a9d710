use Rattle.std.proofs.Common.{ℕ, List, Some, sym, subst, refl, arith, replicate}
use Rattle.atomic_table.specs.Table.{opening}
use Rattle.seat_booth.specs.declared.view.CallStage.TheVariants.{Idle}
use Rattle.seat_booth.specs.Past.{view, new_pasts}
use Rattle.seat_booth.specs.Tickets.{IsKept}
use Rattle.seat_booth.proofs.Opened.{opens}
use Rattle.seat_booth.proofs.opening.open.Goals as goal

pub new-requires : goal.new-requires
new-requires g c = let seats : ℕ = c.args.seats in let words : List ℕ = replicate 96 0 in
    subst (λ (z : g.row.O.Denot × List g.row.O.Denot). IsKept g.O.Object.meaning g.O.Object.gives g.O.Object.may (g.O.Object.meaning z.0) seats (opening words z.1 (view (Some (g.O.Object.meaning z.0)) Idle (new_pasts 0 seats))))
    (λ i. (sym c.of.ensures i, sym c.in_ok-slots.ensures.ok i))
    (opens g.O.Object.meaning g.O.Object.gives g.O.Object.may c.args.object seats words c.requires (omega arith) refl refl)
