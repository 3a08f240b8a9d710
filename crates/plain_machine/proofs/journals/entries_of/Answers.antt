use Rattle.std.proofs.Common.{◌≡◌, length, refl, sym, ap, ◌∙◌, subst, arith}
use Rattle.plain_machine.proofs.Plainly.{Owning, own_on, own_past, own_all}
use Rattle.plain_machine.proofs.journals.entries_of.Goals as goal
use Rattle.plain_machine.proofs.journals.entries_of.Goals.{then-entry-c+in_ok-push, else-entry-c}

pub loop-entry-preserved : goal.loop-entry-preserved
loop-entry-preserved g c =
    elim c.if-entry-c.branch [
      | then-entry-c+in_ok-push w ↦
          own_on c.args.c c.args.journal.now c.loop-entry.entry-index c.entry-item.result c.loop-entry.own.items c.if-entry-c.own.items
          c.loop-entry.invariant (omega arith) c.entry-item.is w.if-entry-c.true (ap (λ own. own.items) w.own-is ∙ (w.in_ok-push.ensures {u = tt}).items)
      | else-entry-c w ↦
          own_past c.args.c c.args.journal.now c.loop-entry.entry-index c.entry-item.result c.loop-entry.own.items c.if-entry-c.own.items
          c.loop-entry.invariant (omega arith) c.entry-item.is w.if-entry-c.false (ap (λ own. own.items) w.own-is)
    ]

pub loop-entry-init : goal.loop-entry-init
loop-entry-init g c = subst (Owning c.args.c c.args.journal.now 0) (sym c.new-own.ensures.items) (record { so_far = refl })

pub returns : goal.returns
returns g c =
    let all : c.loop-entry.entry-index ≡ length c.args.journal.now = omega arith in
    own_all c.args.c c.args.journal.now c.loop-entry.own.items (subst (λ i. Owning c.args.c c.args.journal.now i c.loop-entry.own.items) all c.loop-entry.invariant)
