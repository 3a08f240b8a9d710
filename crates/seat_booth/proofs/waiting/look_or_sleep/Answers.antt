use Rattle.std.proofs.Common.{◌∙◌, subst}
use Rattle.atomic_table.specs.Table.{Me}
use Rattle.seat_booth.specs.declared.view.TokenView.{TokenView}
use Rattle.seat_booth.specs.Past.{past_of}
use Rattle.seat_booth.specs.Steps.{HasTurn}
use Rattle.seat_booth.proofs.waiting.look_or_sleep.Goals as goal

pub returns-then-spin-clause-turn : goal.returns-then-spin-clause-turn
returns-then-spin-clause-turn g c =
    subst (λ (m : Me g.row.O.Denot (TokenView g.row.O-Op.Denot g.row.O-Reply.Denot g.row.O-Meaning.Denot)). HasTurn g.O.Object.meaning g.O.Object.gives g.O.Object.may c.args.ticket m.0.opening (past_of m.0) c.spin.new.token.me) c.loop.invariant.1 c.if-spin.ensures.stage

pub returns-then-look-clause-turn : goal.returns-then-look-clause-turn
returns-then-look-clause-turn g c =
    subst (λ (m : Me g.row.O.Denot (TokenView g.row.O-Op.Denot g.row.O-Reply.Denot g.row.O-Meaning.Denot)). HasTurn g.O.Object.meaning g.O.Object.gives g.O.Object.may c.args.ticket m.0.opening (past_of m.0) c.look.new.token.me) (c.mark.ensures.same ∙ (c.if-spin.ensures.stage ∙ c.loop.invariant.1)) c.if-look.ensures.stage
