use Rattle.std.proofs.Common.{◌≡◌, ◌<◌, [], ◌∷◌, ◌++◌, length, get_or, set, sym, subst}
use Rattle.machine_model.specs.HallRule.{submit, take_job, apply, close, outcome_of}
use Rattle.hall_core.specs.Asked.{answer_of}
use Rattle.hub_core.specs.Hub.{served_hub, HubStepGives, HubStepCan}
use Rattle.hub_core.specs.declared.operation.HubOp.{HubOp}
use Rattle.hub_core.proofs.HubSteps.{none_then, submits, takes, applies, closes, puts, collects, submit_can}
use Rattle.hub_core.proofs.stepping.step_with.Goals as goal

pub step_op-requires : goal.step_op-requires
step_op-requires g c = (
  submit_can (length c.args.lists.now) (g.I.HallSteps.seen c.args.hall.now) c.args.lists.now c.in-SubmitFrom.field-0 c.in-SubmitFrom.key c.in-SubmitFrom.payload c.requires.empty
      (subst (λ (op : HubOp). HubStepCan (length c.args.lists.now) (served_hub (g.I.HallSteps.seen c.args.hall.now) c.args.lists.now) op) c.in-SubmitFrom.is c.requires.can).0,
  tt,
)

pub returns-in-SubmitFrom-clause-empty : goal.returns-in-SubmitFrom-clause-empty
returns-in-SubmitFrom-clause-empty g c =
    none_then (length c.args.lists.now) (g.I.HallSteps.seen c.args.hall.now) (g.I.HallSteps.seen c.step_op.new.self) c.args.lists.now c.requires.empty (submit c.in-SubmitFrom.key c.in-SubmitFrom.payload)
    (answer_of c.step_op.result) tt c.step_op.ensures

pub returns-in-Take-clause-empty : goal.returns-in-Take-clause-empty
returns-in-Take-clause-empty g c =
    none_then (length c.args.lists.now) (g.I.HallSteps.seen c.args.hall.now) (g.I.HallSteps.seen c.step_op-in-Take.new.self) c.args.lists.now c.requires.empty take_job
    (answer_of c.step_op-in-Take.result) tt c.step_op-in-Take.ensures

pub returns-in-Apply-clause-empty : goal.returns-in-Apply-clause-empty
returns-in-Apply-clause-empty g c =
    none_then (length c.args.lists.now) (g.I.HallSteps.seen c.args.hall.now) (g.I.HallSteps.seen c.step_op-in-Apply.new.self) c.args.lists.now c.requires.empty (apply c.in-Apply.key c.in-Apply.call)
    (answer_of c.step_op-in-Apply.result) tt c.step_op-in-Apply.ensures

pub returns-in-Close-clause-empty : goal.returns-in-Close-clause-empty
returns-in-Close-clause-empty g c =
    none_then (length c.args.lists.now) (g.I.HallSteps.seen c.args.hall.now) (g.I.HallSteps.seen c.step_op-in-Close.new.self) c.args.lists.now c.requires.empty close
    (answer_of c.step_op-in-Close.result) tt c.step_op-in-Close.ensures

pub returns-in-SubmitFrom-clause-gives : goal.returns-in-SubmitFrom-clause-gives
returns-in-SubmitFrom-clause-gives g c =
    subst (λ (op : HubOp). HubStepGives (length c.args.lists.now) (served_hub (g.I.HallSteps.seen c.args.hall.now) c.args.lists.now) op c.step_op.result (served_hub (g.I.HallSteps.seen c.step_op.new.self) c.args.lists.now)) (sym c.in-SubmitFrom.is)
    (submits (length c.args.lists.now) (g.I.HallSteps.seen c.args.hall.now) (g.I.HallSteps.seen c.step_op.new.self) c.args.lists.now c.requires.empty c.in-SubmitFrom.field-0 c.in-SubmitFrom.key c.in-SubmitFrom.payload (answer_of c.step_op.result) c.step_op.ensures)

pub returns-in-Take-clause-gives : goal.returns-in-Take-clause-gives
returns-in-Take-clause-gives g c =
    subst (λ (op : HubOp). HubStepGives (length c.args.lists.now) (served_hub (g.I.HallSteps.seen c.args.hall.now) c.args.lists.now) op c.step_op-in-Take.result (served_hub (g.I.HallSteps.seen c.step_op-in-Take.new.self) c.args.lists.now)) (sym c.in-Take.is)
    (takes (length c.args.lists.now) (g.I.HallSteps.seen c.args.hall.now) (g.I.HallSteps.seen c.step_op-in-Take.new.self) c.args.lists.now c.requires.empty (answer_of c.step_op-in-Take.result) c.step_op-in-Take.ensures)

pub returns-in-Apply-clause-gives : goal.returns-in-Apply-clause-gives
returns-in-Apply-clause-gives g c =
    subst (λ (op : HubOp). HubStepGives (length c.args.lists.now) (served_hub (g.I.HallSteps.seen c.args.hall.now) c.args.lists.now) op c.step_op-in-Apply.result (served_hub (g.I.HallSteps.seen c.step_op-in-Apply.new.self) c.args.lists.now)) (sym c.in-Apply.is)
    (applies (length c.args.lists.now) (g.I.HallSteps.seen c.args.hall.now) (g.I.HallSteps.seen c.step_op-in-Apply.new.self) c.args.lists.now c.requires.empty c.in-Apply.key c.in-Apply.call (answer_of c.step_op-in-Apply.result) c.step_op-in-Apply.ensures)

pub returns-in-Close-clause-gives : goal.returns-in-Close-clause-gives
returns-in-Close-clause-gives g c =
    subst (λ (op : HubOp). HubStepGives (length c.args.lists.now) (served_hub (g.I.HallSteps.seen c.args.hall.now) c.args.lists.now) op c.step_op-in-Close.result (served_hub (g.I.HallSteps.seen c.step_op-in-Close.new.self) c.args.lists.now)) (sym c.in-Close.is)
    (closes (length c.args.lists.now) (g.I.HallSteps.seen c.args.hall.now) (g.I.HallSteps.seen c.step_op-in-Close.new.self) c.args.lists.now c.requires.empty (answer_of c.step_op-in-Close.result) c.step_op-in-Close.ensures)

pub returns-in-Put-clause-gives : goal.returns-in-Put-clause-gives
returns-in-Put-clause-gives g c =
    subst (λ (op : HubOp). HubStepGives (length c.args.lists.now) (served_hub (g.I.HallSteps.seen c.args.hall.now) c.args.lists.now) op Rattle.hall_core.specs.declared.operation.HallReply.TheVariants.Done (served_hub (g.I.HallSteps.seen c.free.new.self) c.put_at.new.lists)) (sym c.in-Put.is)
    (puts (length c.args.lists.now) (g.I.HallSteps.seen c.args.hall.now) (g.I.HallSteps.seen c.free.new.self) c.args.lists.now c.requires.empty c.in-Put.key c.in-Put.settled c.put_at.new.lists
    (subst (λ p. p < length c.args.lists.now) c.place_of-place.ensures.place c.place_of-place.ensures.within) c.free.ensures
    (subst (λ p. c.put_at.new.lists ≡ set c.args.lists.now p (get_or c.args.lists.now p [] ++ outcome_of c.in-Put.key c.in-Put.settled ∷ [])) c.place_of-place.ensures.place c.put_at.ensures))

pub returns-in-CollectFor-clause-gives : goal.returns-in-CollectFor-clause-gives
returns-in-CollectFor-clause-gives g c =
    subst (λ (op : HubOp). HubStepGives (length c.args.lists.now) (served_hub (g.I.HallSteps.seen c.args.hall.now) c.args.lists.now) op c.collect_for.result (served_hub (g.I.HallSteps.seen c.args.hall.now) c.collect_for.new.lists)) (sym c.in-CollectFor.is)
    (collects (length c.args.lists.now) c.in-CollectFor.l (g.I.HallSteps.seen c.args.hall.now) c.args.lists.now c.collect_for.new.lists (answer_of c.collect_for.result)
    (subst (λ (op : HubOp). HubStepCan (length c.args.lists.now) (served_hub (g.I.HallSteps.seen c.args.hall.now) c.args.lists.now) op) c.in-CollectFor.is c.requires.can).0
    (c.collect_for.ensures (g.I.HallSteps.seen c.args.hall.now) (sym c.is_closed-closed.ensures)))
