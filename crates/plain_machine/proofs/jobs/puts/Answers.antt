use Rattle.std.proofs.Common.{◌≡◌, Some, ap, ◌∙◌, subst}
use Rattle.std.specs.Result.{IfOk}
use Rattle.machine_model.specs.Plain.{when, outcome_plain}
use Rattle.plain_machine.specs.Seen.{cell_of, workers_of}
use Rattle.plain_machine.proofs.Seeing.{put_by_key, put_by_none}
use Rattle.plain_machine.proofs.jobs.puts.Goals as goal

pub returns-in_default : goal.returns-in_default
returns-in_default g c =
    put_by_none (g.D.PlainDesk.desk c.args.desk.now) (cell_of c.args.cell.now) c.args.w (workers_of c.args.cell.now.workers.items c.args.w)
    (rw c.as_slice.ensures.value at (c.in_default.ensures {u = tt}))

pub returns : goal.returns
returns g c =
    let old = cell_of c.args.cell.now in
    subst (λ out. IfOk c.puts_outcome.result (λ can. when can (Some (cell_of c.puts_outcome.new.cell)) ≡ out))
    (ap (outcome_plain old c.args.w c.in-Some.key) (rw c.as_slice-2.ensures.value at (c.in_ok-settled.ensures {u = tt}))
    ∙ put_by_key (g.D.PlainDesk.desk c.args.desk.now) old c.args.w (old.workers c.args.w) c.in-Some.key (rw c.as_slice.ensures.value at (c.in-Some.ensures {u = tt})))
    c.puts_outcome.ensures
