-- What a worker asks of the hall in a step, where the hall can do it, and how its step comes of what is answered.
use Rattle.std.proofs.Common.{◌≡◌, ℕ, Bool, List, refl, sym, ap, subst}
use Rattle.streams.specs.declared.outcomes.Settled.{Settled}
use Rattle.host_model.specs.declared.key.Key.{Key}
use Rattle.host_model.specs.DeskRules as desk_rule
use Rattle.host_model.specs.DeskRules.{DeskDecision, Invoke}
use Rattle.call_rules.specs.PlainCalls.{PlainCall, PlainAnswer}
use Rattle.call_rules.specs.Desks.{DeskMeaning, desk_rules, IsDesk}
use Rattle.call_rules.specs.Handling.{handler_rules}
use Rattle.machine_model.specs.HallRule.{apply, put, HallAnswer, done}
use Rattle.machine_model.specs.Worker.{holds, tried, SettlesAs}
use Rattle.machine_model.specs.SeenHall.{SeenGives}
use Rattle.hall_core.specs.Meant.{ServedHall}
use Rattle.cell_core.specs.declared.worker.Holding.{Holding}
use Rattle.cell_core.specs.declared.worker.Holding.TheVariants.{Idle}
use Rattle.cell_core.specs.declared.turn.Stepped.{Stepped}
use Rattle.cell_core.specs.declared.turn.Stepped.TheVariants.{Moves}
use Rattle.cell_core.specs.HallTied.{plain_worker, TellsIfSilent, KnowsItsCall}
use Rattle.cell_core.specs.TurnMoves.{MayTurn}
use Rattle.cell_core.specs.Turns.{stepped_by, IsWorkerTurn}
use Rattle.cell_core.proofs.Permitting.{held_short}
use Rattle.cell_core.proofs.Replying.{settled_some}

-- a step that applies the call of the job in the hand
pub apply_turns : (desk : DeskMeaning) (old new : ServedHall) (worker next : Holding) (stepped : Stepped) (key : Key) (payload : List ℕ) (call : PlainCall) (answer : HallAnswer PlainAnswer)
    → plain_worker worker ≡ holds key payload → desk.decide payload ≡ Invoke call → SeenGives handler_rules old (apply key call) answer new → plain_worker next ≡ tried key payload answer
    → stepped ≡ stepped_by (apply key call) answer → KnowsItsCall desk next → IsWorkerTurn desk old new worker next stepped
apply_turns desk old new worker next stepped key payload call answer h q g w s k =
    record { op = apply key call; answer = answer; in_turn = tt; gives = g; asks = (payload, h, q, w); tells = s; known = k }

-- a step that puts what the job in the hand has come to
pub put_turns : (desk : DeskMeaning) → IsDesk desk → (old new : ServedHall) (worker next : Holding) (stepped : Stepped) (key : Key) (settled : Settled) → MayTurn desk old worker
    → SettlesAs (desk_rules desk) (plain_worker worker) key settled → SeenGives handler_rules old (put key settled) done new → next ≡ Idle → stepped ≡ Moves
    → IsWorkerTurn desk old new worker next stepped
put_turns desk is_desk old new worker next stepped key settled may settles g w s =
    record {
      op = put key settled;
      answer = done;
      in_turn = settled_some desk is_desk settled (plain_worker worker) key (held_short desk is_desk old worker may key settles.0) settles;
      gives = g;
      asks = (settles, ap plain_worker w);
      tells = s;
      known = subst (KnowsItsCall desk) (sym w) tt;
    }

-- a call tells whether it is silent
pub call_tells : (call : PlainCall) (decision : DeskDecision PlainCall) → decision ≡ Invoke call → TellsIfSilent call.silent decision
call_tells call decision e = subst (TellsIfSilent call.silent) (sym e) refl

-- and where that is told, there is a call
pub told_call : (silent : Bool) (decision : DeskDecision PlainCall) → TellsIfSilent silent decision → (call : PlainCall) × (decision ≡ Invoke call) × (call.silent ≡ silent)
told_call silent (Invoke call) tells = (call, refl, tells)
told_call silent (desk_rule.Close fault) tells = absurd tells
told_call silent desk_rule.Silent tells = absurd tells
told_call silent (desk_rule.Reply reply) tells = absurd tells
