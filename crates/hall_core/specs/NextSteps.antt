-- What is next for a job that a worker has taken.
use Rattle.std.specs.Prelude.{◌≡◌}
use Rattle.host_model.specs.DeskRules.{Invoke}
use Rattle.call_rules.specs.Desks.{DeskMeaning, desk_rules}
use Rattle.machine_model.specs.HallState.{Job}
use Rattle.machine_model.specs.Worker.{holds, SettlesAs}
use Rattle.hall_core.specs.declared.settling.NextStep.{NextStep}
use Rattle.hall_core.specs.declared.settling.NextStep.TheVariants.{Apply, Put}

-- the call that its payload makes is applied, or what it comes to with no call is put
abbrev pub IsNextFor : DeskMeaning → Job → NextStep → Type 0
IsNextFor desk job (Apply call) = desk.decide job.payload ≡ Invoke call
IsNextFor desk job (Put settled) = SettlesAs (desk_rules desk) (holds job.key job.payload) job.key settled
