use Rattle.stream_reader.specs.Stages.{Walked}
use Rattle.stream_reader.proofs.Steps.{old_name_follows}
use Rattle.stream_reader.proofs.walk.MessageWalk.old_name.Goals as goal

pub returns-clause-plan : goal.returns-clause-plan
returns-clause-plan c = let
    w = c.self.inside in
    let v : Walked = record { most = w.most; at = w.at; levels = w.levels; budget = w.budget; stack = w.stack; stage = w.stage } in
    old_name_follows v c.args.self.now c.args.size c.old_name_stage-self-inside.result c.self.view_is c.old_name_stage-self-inside.ensures c.requires.within
