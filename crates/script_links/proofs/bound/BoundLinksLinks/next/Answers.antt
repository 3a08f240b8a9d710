use Rattle.std.proofs.Common.{◌≡◌, ◌≤◌, ℕ, Ok, Err, length, sym, ap, ◌∙◌, subst, arith}
use Rattle.streams.specs.declared.streams.Failed.{Failed}
use Rattle.outside.specs.declared.answers.Hint.{Hint}
use Rattle.outside.specs.Asking.{AnswersAsk}
use Rattle.outside.specs.LinksState.{Listening}
use Rattle.script_links.specs.ServedScript.{ServedScript}
use Rattle.script_links.specs.Plain.{Next, next_of, hint_of}
use Rattle.script_links.specs.Kept.{served_of, IsOverAtEnd}
use Rattle.script_links.specs.Shown.{links_told}
use Rattle.script_links.specs.Followed.{plan_of_links}
use Rattle.script_links.specs.Listens.{ListeningScript, told_listening, listening_told, plan_of_listening}
use Rattle.script_links.proofs.Hinting.{next_answers, next_over, answers_hint}
use Rattle.script_links.proofs.FollowedToEnd.{next_keeps, plan_kept}
use Rattle.script_links.proofs.Listening.{answers, fails_to_answer, still_few}
use Rattle.script_links.proofs.bound.BoundLinksLinks.next.Goals as goal

pub returns-then-ask-clause-answers : goal.returns-then-ask-clause-answers
returns-then-ask-clause-answers g c =
    let s : ServedScript = served_of c.self.inside.serving in
    let l : Listening = record { port = c.self.inside.port; accept = c.self.inside.accept } in
    let n : ℕ = c.self.inside.net_faults in
    let m : ℕ = c.saturating_add-self-inside.result in
    subst (λ (x : ListeningScript). AnswersAsk {E = Failed} c.args.ask (listening_told x) (told_listening l m s) (Err _)) c.self.view_is
    (fails_to_answer c.args.ask l n m s _ (omega arith) (omega arith))

pub invariant_of-self-2 : goal.invariant_of-self-2
invariant_of-self-2 g c =
    let s : ServedScript = served_of c.self.inside.serving in
    let same : (next_of c.args.ask s).left ≡ served_of c.next-came.new.self = ap (λ (n : Next). n.left) c.next-came.ensures.next in (
      c.next-came.ensures.kept,
      subst IsOverAtEnd same (next_over c.args.ask s c.self.invariant.1),
      subst (λ (x : ServedScript). length x.links ≤ c.self.inside.accept) same (still_few c.self.inside.accept s _ (next_keeps c.args.ask s) c.self.invariant.2),
    )

pub returns-clause-answers : goal.returns-clause-answers
returns-clause-answers g c =
    let s : ServedScript = served_of c.self.inside.serving in
    let t : ServedScript = served_of c.next-came.new.self in
    let l : Listening = record { port = c.self.inside.port; accept = c.self.inside.accept } in
    let next : Next = next_of c.args.ask s in
    let own : AnswersAsk {E = Failed} c.args.ask (links_told s) (links_told next.left) (Ok (hint_of next.came)) =
    answers_hint c.args.ask s next.came next.left (next_answers c.args.ask s c.self.invariant.1 c.self.invariant.0.few) in
    let here : AnswersAsk {E = Failed} c.args.ask (links_told s) (links_told t) (Ok (hint_of c.next-came.result)) =
    subst (λ (n : Next). AnswersAsk {E = Failed} c.args.ask (links_told s) (links_told n.left) (Ok (hint_of n.came))) c.next-came.ensures.next own in
    subst (λ (h : Hint). AnswersAsk {E = Failed} c.args.ask (listening_told c.args.self.now) (told_listening l c.self.inside.net_faults t) (Ok h)) (sym c.told.ensures)
    (subst (λ (x : ListeningScript). AnswersAsk {E = Failed} c.args.ask (listening_told x) (told_listening l c.self.inside.net_faults t) (Ok (hint_of c.next-came.result))) c.self.view_is
    (answers l c.self.inside.net_faults s t c.args.ask (invariant_of-self-2 g c).2 (hint_of c.next-came.result) here))

pub returns-clause-same_plan : goal.returns-clause-same_plan
returns-clause-same_plan g c =
    let s : ServedScript = served_of c.self.inside.serving in
    ap plan_of_links (sym (ap (λ (n : Next). n.left) c.next-came.ensures.next)) ∙ plan_kept s _ (next_keeps c.args.ask s) ∙ ap plan_of_listening c.self.view_is
