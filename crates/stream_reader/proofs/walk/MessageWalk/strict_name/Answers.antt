use Rattle.std.proofs.Common.{rules, ◌≡◌, pos}
use Rattle.stream_reader.specs.Stages.{Walked}
use Rattle.stream_reader.proofs.Steps.{name_follows}
use Rattle.stream_reader.proofs.walk.MessageWalk.strict_name.Goals as goal

pub returns-in-Some-clause-plan : goal.returns-in-Some-clause-plan
returns-in-Some-clause-plan c = let
    w = c.self.inside in
    let v : Walked = record { most = w.most; at = w.at; levels = w.levels; budget = w.budget; stack = w.stack; stage = w.stage } in
    let is : c.args.number ≡ pos c.in-Some.size = search (rules, c.in-Some.ensures) in
    name_follows v c.args.self.now c.args.kind c.in-Some.size c.args.number c.name_stage-self-inside.result c.self.view_is is
    c.name_stage-self-inside.ensures c.requires.within
