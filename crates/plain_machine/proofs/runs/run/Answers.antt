use Rattle.std.proofs.Common.{Some, map, arith}
use Rattle.machine_model.specs.Machine.{EventsLead}
use Rattle.machine_model.specs.Plain.{event_told, run_plain}
use Rattle.plain_machine.specs.Seen.{cell_of, told_of}
use Rattle.plain_machine.proofs.Picking.{picked, picked_has}
use Rattle.plain_machine.proofs.runs.run.Goals as goal

pub returns : goal.returns
returns g c =
    let d = g.D.PlainDesk.desk c.args.desk.now in
    let r = g.S.PlainServices.rules c.args.services.now in
    let first = cell_of c.args.cell in
    let told = map told_of c.args.events.now in
    let plainly = picked cell_of c.all_go-can.new.cell c.all_go-can.result c.where_it_can.result (run_plain d r told (Some first)) c.all_go-can.ensures c.where_it_can.ensures in
    record {
      plainly = plainly;
      runs = picked_has cell_of c.where_it_can.result (run_plain d r told (Some first)) (λ last. EventsLead d r first (map event_told told) last)
          (λ last is. c.plain_machine_runs.ensures d r first last told (omega (arith, c.requires.same_max)) is) plainly;
    }
