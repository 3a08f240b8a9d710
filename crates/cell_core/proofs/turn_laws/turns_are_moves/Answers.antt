use Rattle.std.proofs.Common.{sym, subst}
use Rattle.machine_model.specs.Worker.{WorkerAsks}
use Rattle.cell_core.specs.declared.turn.Stepped.{Stepped}
use Rattle.cell_loop.specs.Settings.{PlainWorker, desk_of_setting}
use Rattle.cell_core.specs.HallTied.{plain_worker}
use Rattle.cell_core.specs.TurnMoves.{TurnMakes}
use Rattle.cell_core.proofs.Turning.{turn_makes}
use Rattle.cell_core.proofs.turn_laws.turns_are_moves.Goals as goal

pub returns : goal.returns
returns c s w play old new worker next stepped tied holds turn =
    subst (λ (x : Stepped). TurnMakes s w play old new next x) (sym turn.tells)
    (turn_makes s w play old new next tied turn.op turn.answer turn.in_turn turn.gives
    (subst (λ (x : PlainWorker). WorkerAsks (desk_of_setting s) x turn.op turn.answer (plain_worker next)) (sym holds) turn.asks) turn.known)
