-- A hall that is tied to a play's stays tied when both make the same step, whatever the count of faults is.
use Rattle.std.proofs.Common.{◌≡◌, ℕ, false, List, sym, ap, ◌∙◌, subst}
use Rattle.std.specs.List.{AllByRecursion}
use Rattle.call_rules.specs.PlainCalls.{PlainCall, PlainAnswer}
use Rattle.call_rules.specs.Entries.{CallEntry}
use Rattle.call_rules.specs.Handling.{handler_rules}
use Rattle.machine_model.specs.HallState.{JobOutcome}
use Rattle.machine_model.specs.HallRule.{HallOperation, HallAnswer, HallGives}
use Rattle.machine_model.specs.SeenHall.{MayHave, filled, SeenGives}
use Rattle.hall_core.specs.Meant.{ServedHall}
use Rattle.cell_loop.specs.Settings.{HallInCell}
use Rattle.cell_loop.specs.Replies.{IsReplySome}
use Rattle.cell_core.specs.HallTied.{IsHallTied}

-- each outcome's reply has a byte at least
abbrev pub AreRepliesSome : List JobOutcome → Type 0
AreRepliesSome outcomes = AllByRecursion (λ (o : JobOutcome). IsReplySome o.settled) outcomes

-- what a step gives, from the journal that the play's hall has
abbrev pub GivesFrom : ServedHall → HallInCell → HallOperation PlainCall → HallAnswer PlainAnswer → ServedHall → List CallEntry → Type 0
GivesFrom old hall op answer new later = MayHave new.told later × HallGives handler_rules (filled old hall.journal) op answer (filled new later)

pub gives_from : (old new : ServedHall) (hall : HallInCell) (op : HallOperation PlainCall) (answer : HallAnswer PlainAnswer) → IsHallTied old hall → SeenGives handler_rules old op answer new
    → (later : List CallEntry) × GivesFrom old hall op answer new later
gives_from old new hall op answer tied g = let t = g hall.journal tied.told in (t.0, (t.1, t.2))

module _ (old : ServedHall) (hall : HallInCell) (tied : IsHallTied old hall) where
  -- the lists of both are the same
  pub same_jobs : hall.jobs ≡ old.jobs
  same_jobs = sym (ap (λ (h : HallInCell). h.jobs) tied.same)

  pub same_taken : hall.taken ≡ old.taken
  same_taken = sym (ap (λ (h : HallInCell). h.taken) tied.same)

  pub same_outcomes : hall.outcomes ≡ old.outcomes
  same_outcomes = sym (ap (λ (h : HallInCell). h.outcomes) tied.same)

  pub same_memories : hall.memories ≡ old.memories
  same_memories = sym (ap (λ (h : HallInCell). h.memories) tied.same)

  pub still_open : hall.closed ≡ false
  still_open = sym (ap (λ (h : HallInCell). h.closed) tied.same) ∙ tied.unclosed

  pub still_whole : hall.broken ≡ false
  still_whole = sym (ap (λ (h : HallInCell). h.broken) tied.same) ∙ tied.whole

  -- A step that changes halls so, and leaves open, unbroken and faults to themselves, keeps the tie.
  pub step_tied : (new : ServedHall) (change : HallInCell → HallInCell) (faults : ℕ) (later : List CallEntry) → MayHave new.told later
      → filled new later ≡ record (change (filled old hall.journal)) { faults = faults }
      → ((n : ℕ) → record (change (record hall { faults = n })) { faults = faults } ≡ record (change hall) { faults = faults })
      → (change hall).closed ≡ false → (change hall).broken ≡ false → AreRepliesSome (change hall).outcomes → IsHallTied new (change hall)
  step_tied new change faults later told gives apart unclosed whole replies =
      let all : filled new later ≡ record (change hall) { faults = faults } =
      gives ∙ ap (λ (h : HallInCell). record (change h) { faults = faults }) tied.same ∙ apart old.faults in
      let same : filled new later ≡ record (change hall) { faults = new.faults } =
      all ∙ ap (λ (n : ℕ). record (change hall) { faults = n }) (sym (ap (λ (h : HallInCell). h.faults) all)) in
      let entries : later ≡ (change hall).journal = ap (λ (h : HallInCell). h.journal) all in
      record {
        told = subst (MayHave new.told) entries told;
        same = subst (λ (es : List CallEntry). filled new es ≡ record (change hall) { faults = new.faults }) entries same;
        unclosed = ap (λ (h : HallInCell). h.closed) all ∙ unclosed;
        whole = ap (λ (h : HallInCell). h.broken) all ∙ whole;
        replies = subst AreRepliesSome (sym (ap (λ (h : HallInCell). h.outcomes) all)) replies;
      }

  -- where the outcomes are as they were, so are the replies that wait
  pub same_replies : AreRepliesSome hall.outcomes
  same_replies = subst AreRepliesSome (sym same_outcomes) tied.replies
