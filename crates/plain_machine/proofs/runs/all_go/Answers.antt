use Rattle.std.proofs.Common.{◌≡◌, length, subst, arith}
use Rattle.plain_machine.specs.Seen.{cell_of, told_of}
use Rattle.plain_machine.proofs.Seeing.{it_can, it_cannot, Going, goes_on, stops, all_gone}
use Rattle.plain_machine.proofs.runs.all_go.Goals as goal

pub loop-event-preserved : goal.loop-event-preserved
loop-event-preserved g c =
    goes_on _ _ told_of (cell_of c.args.cell.now) (cell_of c.loop-event.cell) (cell_of c.goes.new.cell) c.args.events.now c.loop-event.event-index c.event-item.result
    c.loop-event.invariant c.loop-event-test.true c.event-item.is (it_can _ _ _ (c.in_ok-goes.ensures {u = tt}) c.if-not-branch.false)

pub returns-then-not-branch : goal.returns-then-not-branch
returns-then-not-branch g c =
    stops _ _ told_of (cell_of c.args.cell.now) (cell_of c.loop-event.cell) c.args.events.now c.loop-event.event-index c.event-item.result
    c.loop-event.invariant c.loop-event-test.true c.event-item.is (it_cannot _ _ _ (c.in_ok-goes.ensures {u = tt}) c.if-not-branch.true)

pub returns : goal.returns
returns g c =
    let all : c.loop-event.event-index ≡ length c.args.events.now = omega arith in
    let d = g.D.PlainDesk.desk c.args.desk.now in
    let r = g.S.PlainServices.rules c.args.services.now in
    all_gone d r told_of (cell_of c.args.cell.now) (cell_of c.loop-event.cell) c.args.events.now
    (subst (λ i. Going d r told_of (cell_of c.args.cell.now) c.args.events.now i (cell_of c.loop-event.cell)) all c.loop-event.invariant)
