use Rattle.std.proofs.Common.{◌≡◌, true, refl, sym, ap, subst}
use Rattle.host_model.specs.DeskRules.{Invoke}
use Rattle.call_rules.specs.Desks.{DeskMeaning, IsDesk}
use Rattle.call_rules.specs.PlainCalls.{PlainCall}
use Rattle.call_rules.specs.Handling.{handler_rules}
use Rattle.machine_model.specs.HallState.{Job, has_key}
use Rattle.machine_model.specs.HallRule.{apply, put, done}
use Rattle.machine_model.specs.SeenHall.{SeenCan, SeenGives}
use Rattle.hall_core.specs.Asked.{answer_of}
use Rattle.cell_core.specs.declared.worker.Holding.TheVariants.{Holds}
use Rattle.cell_core.specs.HallTied.{TellsIfSilent}
use Rattle.cell_core.proofs.Asking.{apply_turns, put_turns, call_tells}
use Rattle.cell_core.proofs.Permitting.{apply_can, put_can, held_short}
use Rattle.cell_core.proofs.turn.apply_or_put.Goals as goal

pub next_step-requires : goal.next_step-requires
next_step-requires g c =
    held_short (g.D.Desk.meaning c.args.desk.now) (g.met.D.Desk.holds c.args.desk.now) c.args.hall.now (Holds c.args.job) c.requires c.args.job.key refl

pub step-reply-requires : goal.step-reply-requires
step-reply-requires g c =
    let desk : DeskMeaning = g.D.Desk.meaning c.args.desk.now in
    let is_desk : IsDesk desk = g.met.D.Desk.holds c.args.desk.now in
    let q : desk.decide c.args.job.payload ≡ Invoke c.in-Apply.call = c.in-Apply.ensures in (
      subst (λ (job : Job). SeenCan handler_rules c.args.hall.now (apply job.key c.in-Apply.call)) (sym c.job.view_is)
          (apply_can desk is_desk c.args.hall.now (Holds c.args.job) c.requires c.args.job.key c.args.job.payload c.in-Apply.call refl q),
      is_desk.plain c.args.job.payload c.in-Apply.call q,
    )

pub put-requires-after_bounds : goal.put-requires-after_bounds
put-requires-after_bounds g c κs within =
    subst (λ (job : Job). has_key job.key c.args.hall.now.taken ≡ true) (sym c.job.view_is)
    (put_can (g.D.Desk.meaning c.args.desk.now) (g.met.D.Desk.holds c.args.desk.now) c.args.hall.now (Holds c.args.job) c.requires c.args.job.key refl)

pub returns-in-Apply : goal.returns-in-Apply
returns-in-Apply g c =
    let desk : DeskMeaning = g.D.Desk.meaning c.args.desk.now in
    let q : desk.decide c.args.job.payload ≡ Invoke c.in-Apply.call = c.in-Apply.ensures in
    let silent : c.call.inside.silent ≡ c.in-Apply.call.silent = ap (λ (x : PlainCall). x.silent) c.call.view_is in
    apply_turns desk c.args.hall.now c.step-reply.new.self (Holds c.args.job) c.applied.result.worker c.applied.result.stepped c.args.job.key c.args.job.payload c.in-Apply.call
    (answer_of c.step-reply.result) refl q
    (subst (λ (job : Job). SeenGives handler_rules c.args.hall.now (apply job.key c.in-Apply.call) (answer_of c.step-reply.result) c.step-reply.new.self) c.job.view_is c.step-reply.ensures)
    c.applied.ensures.worker (c.applied.ensures.stepped c.in-Apply.call)
    (c.applied.ensures.silent desk
    (subst (λ b. TellsIfSilent b (desk.decide c.args.job.payload)) (sym silent) (call_tells c.in-Apply.call (desk.decide c.args.job.payload) q)))

pub returns-in-Put : goal.returns-in-Put
returns-in-Put g c =
    put_turns (g.D.Desk.meaning c.args.desk.now) (g.met.D.Desk.holds c.args.desk.now) c.args.hall.now c.put.new.hall (Holds c.args.job) c.put.result.worker c.put.result.stepped c.args.job.key
    c.in-Put.settled c.requires c.in-Put.ensures
    (subst (λ (job : Job). SeenGives handler_rules c.args.hall.now (put job.key c.in-Put.settled) done c.put.new.hall) c.job.view_is c.put.ensures.gives) c.put.ensures.worker
    c.put.ensures.stepped
