use Rattle.stream_reader.specs.Stages.{Walked}
use Rattle.stream_reader.proofs.Steps.{next_field}
use Rattle.stream_reader.proofs.walk.MessageWalk.next_part.Goals as goal

pub returns-in-Fields-clause-plan : goal.returns-in-Fields-clause-plan
returns-in-Fields-clause-plan c = let
    w = c.self.inside in
    let v : Walked = record { most = w.most; at = w.at; levels = w.levels; budget = w.budget; stack = w.stack; stage = w.stage } in
    next_field v c.args.self.now c.args.level c.in-Fields.heads c.field_stage-self-inside.result c.self.view_is c.in-Fields.is c.field_stage-self-inside.ensures
