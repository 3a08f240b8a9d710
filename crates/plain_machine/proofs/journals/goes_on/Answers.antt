use Rattle.std.proofs.Common.{◌≡◌, length, refl, subst, arith}
use Rattle.std.proofs.lemmas.Bool.{false≢true}
use Rattle.plain_machine.proofs.Plainly.{Going, go_on, gone, not_gone}
use Rattle.plain_machine.proofs.journals.goes_on.Goals as goal

pub loop-entry-init : goal.loop-entry-init
loop-entry-init g c = record { forth = λ h. h; back = λ h. h }

pub loop-entry-preserved : goal.loop-entry-preserved
loop-entry-preserved g c =
    go_on (g.S.PlainServices.rules c.args.services.now) c.args.memories.now c.args.journal.now c.loop-entry.entry-index c.entry-item.result c.loop-entry.memories c.after_call.new.memories
    c.loop-entry.invariant c.loop-entry-test.true c.entry-item.is ((c.if-not-is_answered.ensures {u = tt}).0 refl) c.after_call.ensures

pub returns-then-not-is_answered : goal.returns-then-not-is_answered
returns-then-not-is_answered g c = (
  λ e. absurd (false≢true e),
  λ legal. absurd (not_gone (g.S.PlainServices.rules c.args.services.now) c.args.memories.now c.args.journal.now c.loop-entry.entry-index c.entry-item.result
      c.loop-entry.memories c.loop-entry.invariant c.loop-entry-test.true c.entry-item.is (λ a. false≢true ((c.if-not-is_answered.ensures {u = tt}).1 a)) legal),
)

pub returns : goal.returns
returns g c =
    let r = g.S.PlainServices.rules c.args.services.now in
    let all : c.loop-entry.entry-index ≡ length c.args.journal.now = omega arith in (
      λ e. gone r c.args.memories.now c.args.journal.now c.loop-entry.memories
          (subst (λ i. Going r c.args.memories.now c.args.journal.now i c.loop-entry.memories) all c.loop-entry.invariant),
      λ legal. refl,
    )
