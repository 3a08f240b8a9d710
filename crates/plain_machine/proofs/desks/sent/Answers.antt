use Rattle.std.proofs.Common.{◌≡◌, ◌++◌, length, refl, sym, ap, ◌∙◌, subst, arith}
use Rattle.host_model.specs.Conversation.{reply_for}
use Rattle.plain_machine.specs.SeenDesk.{journal_seen}
use Rattle.plain_machine.proofs.Plainly.{Sending, send_on, sent_all}
use Rattle.plain_machine.proofs.desks.sent.Goals as goal

pub loop-number-preserved : goal.loop-number-preserved
loop-number-preserved g c =
    let d = g.D.PlainDesk.desk c.args.desk.now in
    send_on d c.args.payloads.now (λ p. p.items) (journal_seen c.args.entries.now) c.loop-number.number c.index-payloads-number.result c.loop-number.out.items
    c.extend_from_slice.new.self.items c.loop-number.invariant (omega arith) c.index-payloads-number.is
    ((c.in_ok-extend_from_slice.ensures {u = tt}).items ∙ ap (λ t. c.loop-number.out.items ++ t) (c.as_slice-in-loop-number.ensures.value ∙ c.in_ok-reply.ensures {u = tt}
    ∙ (λ k. reply_for d (c.as_slice.ensures.value k) (d.decide (c.as_slice.ensures.value k)) (c.answer_at.ensures k))))

pub loop-number-init : goal.loop-number-init
loop-number-init g c =
    subst (Sending (g.D.PlainDesk.desk c.args.desk.now) c.args.payloads.now (λ p. p.items) (journal_seen c.args.entries.now) 0) (sym c.new-out.ensures.items) (record { so_far = refl })

pub returns : goal.returns
returns g c =
    let d = g.D.PlainDesk.desk c.args.desk.now in
    let es = journal_seen c.args.entries.now in
    let all : c.loop-number.number ≡ length c.args.payloads.now = omega arith in
    sent_all d c.args.payloads.now (λ p. p.items) es c.loop-number.out.items
    (subst (λ i. Sending d c.args.payloads.now (λ p. p.items) es i c.loop-number.out.items) all c.loop-number.invariant)
