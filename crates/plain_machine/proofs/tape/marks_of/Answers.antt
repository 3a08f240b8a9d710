use Rattle.std.proofs.Common.{◌==◌, sym, ap, ◌∙◌, eq-eqb, ne_eqb, arith}
use Rattle.host_model.specs.Marks.{connection_of}
use Rattle.plain_machine.proofs.Fronting.{kept_on, passed_on}
use Rattle.plain_machine.proofs.tape.marks_of.Goals as goal
use Rattle.plain_machine.proofs.tape.marks_of.Goals.{then-connection_of-c+in_ok-copy_of+in_ok-push, else-connection_of-c}

pub loop-mark-preserved : goal.loop-mark-preserved
loop-mark-preserved c =
    elim c.if-connection_of-c.branch [
      | then-connection_of-c+in_ok-copy_of+in_ok-push w ↦
          kept_on (λ mark. connection_of mark == c.args.c) c.args.tape.now c.loop-mark.mark-index c.mark-item.result w.in_ok-copy_of.field-0
          c.loop-mark.own.items c.if-connection_of-c.own.items c.loop-mark.invariant (omega arith) c.mark-item.is
          (eq-eqb _ _ (sym c.connection_of.ensures ∙ w.if-connection_of-c.true)) (w.in_ok-copy_of.ensures {u = tt})
          (ap (λ own. own.items) w.own-is ∙ (w.in_ok-push.ensures {u = tt}).items)
      | else-connection_of-c w ↦
          passed_on (λ mark. connection_of mark == c.args.c) c.args.tape.now c.loop-mark.mark-index c.mark-item.result
          c.loop-mark.own.items c.if-connection_of-c.own.items c.loop-mark.invariant (omega arith) c.mark-item.is
          (ne_eqb _ _ (λ e. w.if-connection_of-c.false (c.connection_of.ensures ∙ e))) (ap (λ own. own.items) w.own-is)
    ]
