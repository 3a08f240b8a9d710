use Rattle.std.proofs.Common.{◌≡◌, ℕ, ◌+◌, ◌<◌, List, [], ◌∷◌, ◌++◌, length, get_or, refl, sym, ap, ◌∙◌, append-nil, subst, arith}
use Rattle.plain_machine.specs.declared.desks.Decided.{Decided}
use Rattle.plain_machine.specs.declared.desks.Decided.TheVariants.{Refused, Passed, Replied, Called}
use Rattle.host_model.specs.Conversation.{called_by}
use Rattle.host_model.specs.DeskRules.{DeskRules}
use Rattle.plain_machine.specs.SeenDesk.{decision_seen}
use Rattle.plain_machine.proofs.Plainly.{Calling, call_on, called_all}
use Rattle.plain_machine.proofs.desks.called.Goals as goal
use Rattle.plain_machine.proofs.desks.called.Goals.{in-Called+in_ok-push, in_default+in-Replied-1, in_default+in-Refused-1}

-- a decision that is no call makes none
no_call : {C : Type 0} (i : ℕ) (decided : Decided C) → ((call : C) → decided ≡ Called call → ⊥) → called_by i (decision_seen decided) ≡ []
no_call i (Refused fault) none = refl
no_call i Passed none = refl
no_call i (Replied reply) none = refl
no_call i (Called call) none = absurd (none call refl)

module _ {C A X : Type 0} (d : DeskRules C A) (payloads : List X) (bytes : X → List ℕ) (i : ℕ) (p : X) (decided : Decided C) (out next : List (ℕ × C)) where
  -- one more payload, which makes a call
  calls : Calling d payloads bytes i out → i < length payloads → p ≡ get_or payloads i p → decision_seen decided ≡ d.decide (bytes p)
      → (call : C) → decided ≡ Called call → next ≡ out ++ (i, call) ∷ [] → Calling d payloads bytes (i + 1) next
  calls w l is seen call it_is e =
      call_on d payloads bytes i p out next w l is (e ∙ ap (λ x. out ++ called_by i (decision_seen x)) (sym it_is) ∙ ap (λ x. out ++ called_by i x) seen)

  -- and one that makes none
  calls_nothing : Calling d payloads bytes i out → i < length payloads → p ≡ get_or payloads i p → decision_seen decided ≡ d.decide (bytes p)
      → ((call : C) → decided ≡ Called call → ⊥) → next ≡ out → Calling d payloads bytes (i + 1) next
  calls_nothing w l is seen none e =
      call_on d payloads bytes i p out next w l is (e ∙ sym (append-nil out) ∙ ap (λ x. out ++ x) (sym (no_call i decided none)) ∙ ap (λ x. out ++ called_by i x) seen)

pub loop-number-preserved : goal.loop-number-preserved
loop-number-preserved g c =
    let d = g.D.PlainDesk.desk c.args.desk.now in
    let seen : decision_seen c.in_ok-call.field-0 ≡ d.decide c.index-payloads-number.result.items =
    c.in_ok-call.ensures {u = tt} ∙ ap (λ p. d.decide p) c.as_slice.ensures.value in
    elim c.match-branch-2.branch [
      | in-Called+in_ok-push w ↦
          calls d c.args.payloads.now (λ p. p.items) c.loop-number.number c.index-payloads-number.result c.in_ok-call.field-0 c.loop-number.calls.items c.match-branch-2.calls.items
          c.loop-number.invariant (omega arith) c.index-payloads-number.is seen _ w.in-Called.is (ap (λ calls. calls.items) w.calls-is ∙ (w.in_ok-push.ensures {u = tt}).items)
      | in_default+in-Replied-1 w ↦
          calls_nothing d c.args.payloads.now (λ p. p.items) c.loop-number.number c.index-payloads-number.result c.in_ok-call.field-0 c.loop-number.calls.items c.match-branch-2.calls.items
          c.loop-number.invariant (omega arith) c.index-payloads-number.is seen w.in_default.not-Called (ap (λ calls. calls.items) w.calls-is)
      | in_default+in-Refused-1 w ↦
          calls_nothing d c.args.payloads.now (λ p. p.items) c.loop-number.number c.index-payloads-number.result c.in_ok-call.field-0 c.loop-number.calls.items c.match-branch-2.calls.items
          c.loop-number.invariant (omega arith) c.index-payloads-number.is seen w.in_default.not-Called (ap (λ calls. calls.items) w.calls-is)
    ]

pub loop-number-init : goal.loop-number-init
loop-number-init g c =
    subst (Calling (g.D.PlainDesk.desk c.args.desk.now) c.args.payloads.now (λ p. p.items) 0) (sym c.new-calls.ensures.items) (record { so_far = refl })

pub returns : goal.returns
returns g c =
    let d = g.D.PlainDesk.desk c.args.desk.now in
    let all : c.loop-number.number ≡ length c.args.payloads.now = omega arith in
    called_all d c.args.payloads.now (λ p. p.items) c.loop-number.calls.items
    (subst (λ i. Calling d c.args.payloads.now (λ p. p.items) i c.loop-number.calls.items) all c.loop-number.invariant)
