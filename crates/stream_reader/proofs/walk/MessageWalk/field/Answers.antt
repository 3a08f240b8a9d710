use Rattle.std.proofs.Common.{◌≡◌, ◌≤◌, subst, arith}
use Rattle.stream_reader.specs.declared.stage.BodyItem.TheVariants.{FieldId}
use Rattle.stream_reader.specs.declared.stage.ReadStage.TheVariants.{Body}
use Rattle.stream_reader.specs.Stages.{Walked, field_plan, walk_plan}
use Rattle.stream_reader.proofs.Steps.{field_goes_on}
use Rattle.stream_reader.proofs.walk.MessageWalk.field.Goals as goal

pub returns-in-Ok-clause-plan : goal.returns-in-Ok-clause-plan
returns-in-Ok-clause-plan c = let
    w = c.self-2.inside in
    let some : 1 ≤ c.args.code = omega (arith, c.if-code-eq0.false) in
    let walked : Walked = record { most = w.most; at = w.at; levels = w.levels; budget = w.budget; stack = w.stack; stage = w.stage } in
    subst (λ (s : Walked). field_plan s c.args.heads c.args.code ≡ walk_plan (record { most = w.most; at = w.at; levels = w.levels; budget = w.budget; stack = c.push.new.self; stage = Body (FieldId c.in-Ok.tag) })) c.self-2.view_is
    (field_goes_on walked c.args.heads c.args.code c.in-Ok.tag c.push.new.self some c.in-Ok.ensures c.push.ensures)
