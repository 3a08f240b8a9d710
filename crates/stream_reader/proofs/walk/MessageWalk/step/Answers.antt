use Rattle.std.proofs.Common.{◌+◌}
use Rattle.stream_reader.specs.Stages.{Walked}
use Rattle.stream_reader.proofs.Steps.{both_follow}
use Rattle.stream_reader.proofs.walk.MessageWalk.step.Goals as goal

pub returns-clause-plan : goal.returns-clause-plan
returns-clause-plan c = let
    w = c.self.inside in
    let v : Walked = record { most = w.most; at = w.at; levels = w.levels; budget = w.budget; stack = w.stack; stage = w.stage } in
    both_follow v c.args.self.now c.take.new.self c.fit.new.self (w.at + c.stage_len-count.result) c.args.bytes.now c.self.view_is c.take.ensures.plan c.fit.ensures.plan c.fit.ensures.place
