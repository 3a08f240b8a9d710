use Rattle.std.proofs.Common.{refl}
use Rattle.hall_core.proofs.Stepping.{asked_so}
use Rattle.hall_core.proofs.hall.HallObject.step.Goals as goal

pub returns-in-Submit : goal.returns-in-Submit
returns-in-Submit g c = asked_so _ _ c.self.view_is _ _ c.in-Submit.is _ _ _ c.submit.ensures (λ e. e refl)

pub returns-in-Take : goal.returns-in-Take
returns-in-Take g c = asked_so _ _ c.self.view_is _ _ c.in-Take.is _ _ _ c.take.ensures (λ e. e refl)

pub returns-in-Apply : goal.returns-in-Apply
returns-in-Apply g c = asked_so _ _ c.self.view_is _ _ c.in-Apply.is _ _ _ c.apply_with.ensures.gives (λ e. e)

pub returns-in-Put : goal.returns-in-Put
returns-in-Put g c = asked_so _ _ c.self.view_is _ _ c.in-Put.is _ _ _ c.put.ensures (λ e. e)

pub returns-in-Collect : goal.returns-in-Collect
returns-in-Collect g c = asked_so _ _ c.self.view_is _ _ c.in-Collect.is _ _ _ c.collect.ensures (λ e. e refl)

pub returns-in-Close : goal.returns-in-Close
returns-in-Close g c = asked_so _ _ c.self.view_is _ _ c.in-Close.is _ _ (λ _. Unit {0}) (λ _. tt) (λ _ entries may. (entries, may, refl))
