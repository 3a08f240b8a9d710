use Rattle.std.proofs.Common.{◌<◌, ◌^◌, subst}
use Rattle.host_model.specs.Headline.{Headline}
use Rattle.call_rules.specs.Desks.{DeskMeaning, desk_rules}
use Rattle.call_rules.specs.Handling.{handler_rules}
use Rattle.script_model.specs.Fed.{IsFedBy}
use Rattle.workload.specs.LoadPlan.{workload_plan}
use Rattle.recorded_runs.proofs.workload_laws.a_served_workload_comes_to_its_sum.Goals as goal

pub returns : goal.returns
returns c = λ a seed size tape journal causes some few small serves has served none.
    c.a_run_comes_to_its_sum.ensures serves.0 a.services a.budget seed size tape journal causes some few serves.2
    (subst (λ (d : DeskMeaning). d.max_frame < 2 ^ 31) serves.1 small) has
    (subst (λ (d : DeskMeaning). Headline (desk_rules d) handler_rules a.services tape journal causes) serves.1 served.headline)
    (subst (λ (d : DeskMeaning). IsFedBy (desk_rules d) a.budget (workload_plan seed size) tape journal) serves.1 served.fed) none served.none_stopped
