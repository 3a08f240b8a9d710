use Rattle.std.proofs.Common.{◌≡◌, length, refl, subst, arith}
use Rattle.plain_machine.proofs.Plainly.{Leaving, leave_on, left_all}
use Rattle.plain_machine.proofs.journals.after.Goals as goal

pub loop-done-init : goal.loop-done-init
loop-done-init g c = record { so_far = refl }

pub loop-done-preserved : goal.loop-done-preserved
loop-done-preserved g c =
    leave_on (g.S.PlainServices.rules c.args.services.now) c.args.memories.now c.args.journal.now c.loop-done.done-index c.done-item.result c.loop-done.memories c.after_call.new.memories
    c.loop-done.invariant c.loop-done-test.true c.done-item.is c.after_call.ensures

pub returns : goal.returns
returns g c =
    let r = g.S.PlainServices.rules c.args.services.now in
    let all : c.loop-done.done-index ≡ length c.args.journal.now = omega arith in
    left_all r c.args.memories.now c.args.journal.now c.loop-done.memories
    (subst (λ i. Leaving r c.args.memories.now c.args.journal.now i c.loop-done.memories) all c.loop-done.invariant)
