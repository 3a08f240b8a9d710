use Rattle.std.proofs.Common.{◌≡◌, List, subst}
use Rattle.thrift_value.specs.declared.tag.Tag.TheVariants.{Struct}
use Rattle.wire_model.specs.Place.{most_levels, most_values}
use Rattle.stream_model.specs.Plan.{value_plan, ends}
use Rattle.stream_reader.specs.declared.stage.Level.{Level}
use Rattle.stream_reader.specs.Stages.{Walked, plan_behind, walk_plan}
use Rattle.stream_reader.proofs.walk.MessageWalk.arguments.Goals as goal

pub returns-clause-plan : goal.returns-clause-plan
returns-clause-plan c =
    subst (λ (s : Walked). value_plan s.most most_levels Struct most_values (λ budget. ends) ≡ walk_plan c.begin.new.self) c.self.view_is
    (subst (λ (t : List Level). value_plan c.self.inside.most most_levels Struct most_values (plan_behind c.self.inside.most most_levels t) ≡ walk_plan c.begin.new.self)
    c.clear.ensures c.begin.ensures.plan)
