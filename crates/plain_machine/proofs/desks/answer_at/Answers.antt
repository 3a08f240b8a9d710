use Rattle.std.proofs.Common.{◌≡◌, length, refl, subst, arith}
use Rattle.plain_machine.proofs.Plainly.{Seeking, seek_on, sought, not_sought}
use Rattle.plain_machine.proofs.desks.answer_at.Goals as goal

pub loop-entry-init : goal.loop-entry-init
loop-entry-init g c = record { so_far = refl }

pub loop-entry-preserved : goal.loop-entry-preserved
loop-entry-preserved g c =
    seek_on c.args.entries.now c.args.number c.loop-entry.entry-index c.entry-item.result c.loop-entry.invariant c.loop-entry-test.true c.entry-item.is c.if-entry-number.false

pub returns-then-entry-number : goal.returns-then-entry-number
returns-then-entry-number g c =
    sought c.args.entries.now c.args.number c.loop-entry.entry-index c.entry-item.result c.loop-entry.invariant c.loop-entry-test.true c.entry-item.is c.if-entry-number.true

pub returns : goal.returns
returns g c =
    let all : c.loop-entry.entry-index ≡ length c.args.entries.now = omega arith in
    not_sought c.args.entries.now c.args.number (subst (Seeking c.args.entries.now c.args.number) all c.loop-entry.invariant)
