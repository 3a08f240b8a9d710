-- A hall's count of faults stays, but where its journal has failed in a step, and then it doesn't fall.
use Rattle.std.proofs.Common.{◌≡◌, ℕ, ◌≤◌, Bool, Result, Option, None, Some, List, [], refl, sym, ap, ◌∙◌, subst, arith, inl, inr, ◌⊎◌}
use Rattle.std.specs.Prelude.{OnOk}
use Rattle.call_rules.specs.PlainCalls.{PlainCall, PlainAnswer}
use Rattle.call_rules.specs.Entries.{CallEntry}
use Rattle.call_rules.specs.Handling.{handler_rules}
use Rattle.machine_model.specs.HallRule.{HallOperation, submit, take_job, apply, put, collect, close, HallAnswer, done, job, empty, is_closed, applied, no_memory, journal_fault, is_broken, outcome, TakesEffect, HallGives}
use Rattle.machine_model.specs.SeenHall.{MayHave, filled, SeenGives}
use Rattle.hall_core.specs.Meant.{ServedHall}
use Rattle.cell_loop.specs.Settings.{HallInCell}
use Rattle.cell_core.specs.declared.stop.RunStop.{RunStop}
use Rattle.cell_core.specs.declared.turn.Stepped.{Stepped}
use Rattle.cell_core.specs.declared.turn.Stepped.TheVariants.{Idle, Moves, Fails}
use Rattle.cell_core.specs.Turns.{stepped_by, AnswersStep}

abbrev count_in : HallInCell → ℕ
count_in h = h.faults

-- what a step makes of the count: it doesn't fall where the journal failed, and stays else
abbrev pub CountGoes : Stepped → ℕ → ℕ → Type 0
CountGoes Fails before now = before ≤ now
CountGoes _ before now = now ≡ before

-- one that is this, which is no less
no_less : (before now faults : ℕ) → before ≤ faults → now ≡ faults → before ≤ now
no_less before now faults l e = omega (arith, l, e)

-- each step of the hall
goes_so : (old new : HallInCell) (op : HallOperation PlainCall) (answer : HallAnswer PlainAnswer) → HallGives handler_rules old op answer new
    → CountGoes (stepped_by op answer) old.faults new.faults
goes_so old new (submit key payload) done g = ap count_in g.1
goes_so old new (submit key payload) is_closed g = ap count_in g.1
goes_so old new (submit key payload) _ g = absurd g
goes_so old new take_job (job key payload) g = ap count_in g.2
goes_so old new take_job empty g = ap count_in g.2
goes_so old new take_job is_closed g = ap count_in g.2
goes_so old new take_job _ g = absurd g
goes_so old new (apply key call) (applied answer) g = ap count_in g.2.1.1 ∙ g.3
goes_so old new (apply key call) no_memory g = go g.2.1
  where
    go : (new ≡ record old { faults = g.0 }) ⊎ ((answer : PlainAnswer) × TakesEffect handler_rules old key call answer g.0 new) → new.faults ≡ old.faults
    go (inl same) = ap count_in same ∙ g.3
    go (inr effect) = ap count_in effect.1.1 ∙ g.3
goes_so old new (apply key call) journal_fault g = no_less old.faults new.faults g.0 g.1 (ap count_in g.2.2)
goes_so old new (apply key call) is_broken g = ap count_in g.2.1 ∙ g.3
goes_so old new (apply key call) _ g = absurd g.2
goes_so old new (put key settled) done g = ap count_in g
goes_so old new (put key settled) _ g = absurd g
goes_so old new collect (outcome key settled) g = ap count_in g.2
goes_so old new collect empty g = ap count_in g.2
goes_so old new collect is_closed g = ap count_in g.2
goes_so old new collect _ g = absurd g
goes_so old new close done g = ap count_in g
goes_so old new close _ g = absurd g

-- entries that a journal may have
some_entries : (told : Option (List CallEntry)) → (entries : List CallEntry) × MayHave told entries
some_entries None = ([], tt)
some_entries (Some entries) = (entries, refl)

-- a step of the hall, as it is seen
pub count_goes : (old new : ServedHall) (op : HallOperation PlainCall) (answer : HallAnswer PlainAnswer) → SeenGives handler_rules old op answer new
    → CountGoes (stepped_by op answer) old.faults new.faults
count_goes old new op answer g =
    let first : (entries : List CallEntry) × MayHave old.told entries = some_entries old.told in
    let t = g first.0 first.1 in goes_so (filled old first.0) (filled new t.0) op answer t.2

-- the count never falls
pub never_falls : (stepped : Stepped) (before now : ℕ) → CountGoes stepped before now → before ≤ now
never_falls Idle before now goes = let same : now ≡ before = goes in omega arith
never_falls Moves before now goes = let same : now ≡ before = goes in omega arith
never_falls Fails before now goes = goes

-- it stays where a step is told of
pub count_stays : (stepped : Stepped) (result : Result Bool RunStop) (before now : ℕ) → AnswersStep stepped result → CountGoes stepped before now → OnOk result (now ≡ before)
count_stays Idle result before now tells goes = subst (λ r. OnOk r (now ≡ before)) (sym tells) goes
count_stays Moves result before now tells goes = subst (λ r. OnOk r (now ≡ before)) (sym tells) goes
count_stays Fails result before now tells goes = subst (λ r. OnOk r (now ≡ before)) (sym tells) tt
